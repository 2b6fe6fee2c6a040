-- The types of expressions: those of the OpenQASM 3.0 specification, "Types and Casting", as far as the profile has them, and beside them turns, whole constants and fractions of pi.
use Rattle.std.specs.Prelude.{ℕ, ◌≤◌, ◌^◌, ℤ, pos, neg_ℤ, ◌≤ℤ◌, ◌<ℤ◌}
use Rattle.qasm_types.specs.declared.ty.Ty.{Ty}
use Rattle.qasm_types.specs.declared.ty.Ty.TheVariants as t

-- the width of a word or an angle; another type has none, and 1 stands for it
abbrev pub width_of : Ty → ℕ
width_of (t.Int n) = n
width_of (t.Uint n) = n
width_of (t.Angle n) = n
width_of _ = 1

-- words have at most 64 bits, angles at most 32
abbrev pub greatest_width : Ty → ℕ
greatest_width (t.Int n) = 64
greatest_width (t.Uint n) = 64
greatest_width (t.Angle n) = 32
greatest_width _ = 1

-- the width of a word is from 1 to 64, that of an angle from 1 to 32
abbrev pub IsType : Ty → Type 0
IsType ty = (1 ≤ width_of ty) × (width_of ty ≤ greatest_width ty)

-- a whole constant
abbrev pub IsWholeConstant : ℤ → Type 0
IsWholeConstant v = (neg_ℤ (pos (2 ^ 63)) ≤ℤ v) × (v <ℤ pos (2 ^ 64))

-- the cells of a variable: one for each bit of a register of bits, else one
abbrev pub cells_of : Ty → ℕ
cells_of (t.Bits n) = n
cells_of _ = 1

-- ---- kinds of types

-- `bool` and `bit`
abbrev pub IsTruth : Ty → Type 0
IsTruth t.Bool = Unit {0}
IsTruth t.Bit = Unit {0}
IsTruth _ = ⊥

-- `int[n]` and `uint[n]`
abbrev pub IsWord : Ty → Type 0
IsWord (t.Int n) = Unit {0}
IsWord (t.Uint n) = Unit {0}
IsWord _ = ⊥
