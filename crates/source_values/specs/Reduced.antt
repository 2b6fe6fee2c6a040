-- For private contracts only: numbers that are reduced to types of at most 64 bits.
use Rattle.std.specs.Prelude.{◌≡◌, ◌^◌, Bool, true, false, ℤ}
use Rattle.word_arith.specs.Whole.{IsCongruent}
use Rattle.qasm_types.specs.declared.ty.Ty.{Ty}
use Rattle.qasm_types.specs.declared.ty.Ty.TheVariants as t
use Rattle.qasm_types.specs.Types.{IsType}
use Rattle.qasm_types.specs.Values.{reduced_to}

-- the types to which a number is reduced modulo a power of 2 that is at most 2^64: `bit`, words and angles
abbrev pub is_reducing : Ty → Bool
is_reducing t.Bit = true
is_reducing (t.Int n) = true
is_reducing (t.Uint n) = true
is_reducing (t.Angle n) = true
is_reducing _ = false

-- a register of bits
abbrev pub is_bits : Ty → Bool
is_bits (t.Bits n) = true
is_bits _ = false

-- numbers that are congruent modulo 2^64 reduce to one value of such a type
abbrev pub ReduceAlike : Type 0
ReduceAlike = (ty : Ty) → IsType ty → is_reducing ty ≡ true → (a b : ℤ) → IsCongruent (2 ^ 64) a b → reduced_to ty a ≡ reduced_to ty b
