-- The casts that there are, a row after the other: those of the OpenQASM 3.0 specification, "Casting specifics", with the casts of constants.
use Rattle.std.specs.Prelude.{◌≡◌, ℕ, ◌≤◌, ◌^◌, ℤ, pos, ◌≤ℤ◌, ◌<ℤ◌}
use Rattle.qasm_types.specs.declared.ty.Ty.{Ty}
use Rattle.qasm_types.specs.declared.ty.Ty.TheVariants as t
use Rattle.qasm_types.specs.Types.{width_of, IsTruth, IsWord}

-- the whole constant v is the pattern of n bits
abbrev pub IsPattern : ℤ → ℕ → Type 0
IsPattern v n = (pos 0 ≤ℤ v) × (v <ℤ pos (2 ^ n))

-- The table has a row for a cast of a value of the one type to the other. Where the one is `Whole`, v is the value.
pub data HasCast : Ty → ℤ → Ty → Type 0 where
  -- each type to itself
  SameType : (a : Ty) (v : ℤ) → HasCast a v a
  -- `bool` and `bit` to `bool`, `bit` and words
  TruthToTruth : (a b : Ty) (v : ℤ) → IsTruth a → IsTruth b → HasCast a v b
  TruthToWord : (a b : Ty) (v : ℤ) → IsTruth a → IsWord b → HasCast a v b
  -- words to `bool` and to words
  WordToBool : (a : Ty) (v : ℤ) → IsWord a → HasCast a v t.Bool
  WordToWord : (a b : Ty) (v : ℤ) → IsWord a → IsWord b → HasCast a v b
  -- a word of width n to `bit[n]`, and to `bit` where n is 1
  WordToBits : (a : Ty) (v : ℤ) → IsWord a → HasCast a v (t.Bits (width_of a))
  WordToBit : (a : Ty) (v : ℤ) → IsWord a → width_of a ≡ 1 → HasCast a v t.Bit
  -- `bit[n]` with n at most 64 to words, and each `bit[n]` to `bool`
  BitsToWord : (n : ℕ) (b : Ty) (v : ℤ) → n ≤ 64 → IsWord b → HasCast (t.Bits n) v b
  BitsToBool : (n : ℕ) (v : ℤ) → HasCast (t.Bits n) v t.Bool
  -- `bit[n]` to `angle[n]` and back
  BitsToAngle : (n : ℕ) (v : ℤ) → HasCast (t.Bits n) v (t.Angle n)
  AngleToBits : (n : ℕ) (v : ℤ) → HasCast (t.Angle n) v (t.Bits n)
  -- angles to angles and to `bool`
  AngleToAngle : (m n : ℕ) (v : ℤ) → HasCast (t.Angle m) v (t.Angle n)
  AngleToBool : (n : ℕ) (v : ℤ) → HasCast (t.Angle n) v t.Bool
  -- whole constants to words and to `bool`
  ConstantToWord : (b : Ty) (v : ℤ) → IsWord b → HasCast t.Whole v b
  ConstantToBool : (v : ℤ) → HasCast t.Whole v t.Bool
  -- whole constants from 0 below 2^n to `bit[n]` with n at most 64, and to `bit` as to `bit[1]`
  ConstantToBits : (n : ℕ) (v : ℤ) → n ≤ 64 → IsPattern v n → HasCast t.Whole v (t.Bits n)
  ConstantToBit : (v : ℤ) → IsPattern v 1 → HasCast t.Whole v t.Bit
  -- whole constants and fractions of pi to angles: that of a whole number other than 0, and of a fraction whose count is not whole, has no value
  ConstantToAngle : (n : ℕ) (v : ℤ) → HasCast t.Whole v (t.Angle n)
  FractionToAngle : (n : ℕ) (v : ℤ) → HasCast t.Pi v (t.Angle n)
