-- The word type at which two operands meet, by the usual arithmetic conversions of the OpenQASM 3.0 specification, "Classical types", which it takes from C; wrapping and the place of constants are this profile's.
use Rattle.std.specs.Prelude.{ℕ, Bool, true, false, ◌≤◌, max, nat_le, int_le, ◌&&◌, if◌then◌else◌, ℤ}
use Rattle.word_arith.specs.WordTy.{least_value, greatest_value}
use Rattle.qasm_types.specs.declared.ty.Ty.{Ty}
use Rattle.qasm_types.specs.declared.ty.Ty.TheVariants as t
use Rattle.qasm_types.specs.Types.{IsWord, IsTruth}

-- two words meet at the greater of their widths: as `uint` where both are `uint`, and where one is and its width is at least the other's, else as `int`
abbrev pub meeting : Ty → Ty → Ty
meeting (t.Uint m) (t.Uint n) = t.Uint (max m n)
meeting (t.Uint m) (t.Int n) = if nat_le n m then t.Uint m else t.Int n
meeting (t.Int m) (t.Uint n) = if nat_le m n then t.Uint n else t.Int m
meeting (t.Int m) (t.Int n) = t.Int (max m n)
meeting a _ = a

-- v is a value of the word type
abbrev pub is_value_of : Ty → ℤ → Bool
is_value_of (t.Int n) v = int_le (least_value true n) v && int_le v (greatest_value true n)
is_value_of (t.Uint n) v = int_le (least_value false n) v && int_le v (greatest_value false n)
is_value_of _ v = false

-- the word type that a whole constant takes beside an operand of type a: a where v is a value of a, else `int[64]` where it is one of that, else `uint[64]`
abbrev pub constant_beside : Ty → ℤ → Ty
constant_beside a v = if is_value_of a v then a else if is_value_of (t.Int 64) v then t.Int 64 else t.Uint 64

-- An operand of type a and one of type b are words that meet at m: both are words, or one is a whole constant. u and v are the values of whole constants.
pub data MeetAt : Ty → ℤ → Ty → ℤ → Ty → Type 0 where
  TwoWords : (a b : Ty) (u v : ℤ) → IsWord a → IsWord b → MeetAt a u b v (meeting a b)
  ConstantRight : (a : Ty) (u v : ℤ) → IsWord a → MeetAt a u t.Whole v (meeting a (constant_beside a v))
  ConstantLeft : (b : Ty) (u v : ℤ) → IsWord b → MeetAt t.Whole u b v (meeting (constant_beside b u) b)

-- An operand of type a is taken as `uint[n]` in a comparison with a word: `bool` and `bit` as `uint[1]`, and `bit[n]` with n at most 64 as `uint[n]`, or `uint[1]` where n is 0.
pub data IsTakenAs : Ty → ℕ → Type 0 where
  TruthAsWord : (a : Ty) → IsTruth a → IsTakenAs a 1
  BitsAsWord : (n : ℕ) → n ≤ 64 → IsTakenAs (t.Bits n) (max n 1)
