-- The value of a word, and the reduction of a whole number to a value of the type. The types are `int[n]` and `uint[n]` of the OpenQASM 3.0 specification, "Types and Casting".
use Rattle.std.specs.Prelude.{ℕ, Bool, ◌-◌, ◌^◌, ℤ, pos, neg_ℤ, ◌+ℤ◌, ◌-ℤ◌, ◌≤ℤ◌, if◌then◌else◌}
use Rattle.std.specs.Int.{w64, cast_unsigned, int_rem_euclid}
use Rattle.word_arith.specs.declared.word_ty.WordTy.{WordTy}
use Rattle.word_arith.specs.Whole.{IsCongruent}

-- the least and the greatest value: -2 ^ (n - 1) and 2 ^ (n - 1) - 1 of `int[n]`, 0 and 2 ^ n - 1 of `uint[n]`
abbrev pub least_value : Bool → ℕ → ℤ
least_value signed width = if signed then neg_ℤ (pos (2 ^ (width - 1))) else pos 0

abbrev pub greatest_value : Bool → ℕ → ℤ
greatest_value signed width = if signed then pos (2 ^ (width - 1) - 1) else pos (2 ^ width - 1)

-- x modulo 2 ^ width, counted from the least value on
abbrev pub value_modulo : Bool → ℕ → ℤ → ℤ
value_modulo signed width x = least_value signed width +ℤ int_rem_euclid (x -ℤ least_value signed width) (pos (2 ^ width))

abbrev pub lowest : WordTy → ℤ
lowest ty = least_value ty.signed ty.width

abbrev pub highest : WordTy → ℤ
highest ty = greatest_value ty.signed ty.width

-- v is a value of the type
abbrev pub IsValue : WordTy → ℤ → Type 0
IsValue ty v = (lowest ty ≤ℤ v) × (v ≤ℤ highest ty)

-- the value of the i64 a: itself where the type is signed, else the number from 0 on that has the same 64 bits
abbrev pub value_of : WordTy → ℤ → ℤ
value_of ty a = if ty.signed then a else pos (cast_unsigned w64 a)

-- the i64 a is a word of the type: its value is one of the type's values
abbrev pub IsWord : WordTy → ℤ → Type 0
IsWord ty a = IsValue ty (value_of ty a)

-- the one value of the type that is congruent to x
abbrev pub reduced : WordTy → ℤ → ℤ
reduced ty x = value_modulo ty.signed ty.width x

-- v is a value of the type, and congruent to x modulo 2 ^ width
abbrev pub IsReduction : WordTy → ℤ → ℤ → Type 0
IsReduction ty x v = IsValue ty v × IsCongruent (2 ^ ty.width) v x
