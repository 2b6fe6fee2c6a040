-- Serves private contracts alone: the rows of the table of operators that constants have.
use Rattle.std.specs.Prelude.{◌≡◌, ℕ, Bool, true, false}
use Rattle.qasm_ast.specs.declared.expr.BinaryOp.{BinaryOp}
use Rattle.qasm_types.specs.declared.ty.Ty.{Ty}
use Rattle.qasm_types.specs.declared.ty.Ty.TheVariants as t
use Rattle.qasm_types.specs.Operators.{group_of, Group, Sum, Product, Quotient, Shift, Bitwise, Equality, Order, Logic}
use Rattle.qasm_types.specs.Plans.{casts}
use Rattle.const_eval.specs.Constant.{Constant, whole_in}
use Rattle.const_eval.specs.Numbered.{is_numbered}

-- comparisons, `&&` and `||`
abbrev pub is_test : Group → Bool
is_test Equality = true
is_test Order = true
is_test Logic = true
is_test _ = false

abbrev pub is_comparison : Group → Bool
is_comparison Equality = true
is_comparison Order = true
is_comparison _ = false

-- what angles have beside comparisons
abbrev pub is_for_counts : Group → Bool
is_for_counts Sum = true
is_for_counts Product = true
is_for_counts Quotient = true
is_for_counts Shift = true
is_for_counts _ = false

-- what fractions of pi have with whole constants
abbrev pub is_scaling : Group → Bool
is_scaling Product = true
is_scaling Quotient = true
is_scaling _ = false

-- words and `bit`
abbrev pub is_bitwise : Ty → Bool
is_bitwise t.Bit = true
is_bitwise (t.Int n) = true
is_bitwise (t.Uint n) = true
is_bitwise _ = false

-- the types of the operands as they are taken, and of the result
pub data ConstantRow : Group → Ty → Ty → Ty → Type 0 where
  -- numbers
  Tested : (g : Group) (m : Ty) → is_test g ≡ true → is_numbered m ≡ true → ConstantRow g m m t.Bool
  OnWholes : (g : Group) → ConstantRow g t.Whole t.Whole t.Whole
  OnBits : (m : Ty) → is_bitwise m ≡ true → ConstantRow Bitwise m m m
  OnAngles : (n : ℕ) → ConstantRow Sum (t.Angle n) (t.Angle n) (t.Angle n)
  AngleBy : (g : Group) (n : ℕ) → is_for_counts g ≡ true → ConstantRow g (t.Angle n) t.Whole (t.Angle n)
  ByAngle : (n : ℕ) → ConstantRow Product t.Whole (t.Angle n) (t.Angle n)
  -- fractions of pi
  OnParts : ConstantRow Sum t.Pi t.Pi t.Pi
  PartsTested : (g : Group) → is_comparison g ≡ true → ConstantRow g t.Pi t.Pi t.Bool
  PartBy : (g : Group) → is_scaling g ≡ true → ConstantRow g t.Pi t.Whole t.Pi
  ByPart : ConstantRow Product t.Whole t.Pi t.Pi
  -- registers of bits
  OnRegisters : (n : ℕ) → ConstantRow Bitwise (t.Bits n) (t.Bits n) (t.Bits n)
  RegistersEqual : (n : ℕ) → ConstantRow Equality (t.Bits n) (t.Bits n) t.Bool
  RegisterShifted : (n : ℕ) → ConstantRow Shift (t.Bits n) t.Whole (t.Bits n)

-- the table has the row for these constants, and the operator takes a constant of each type
abbrev pub IsRowOf : BinaryOp → Constant → Constant → Ty × Ty × Ty → Type 0
IsRowOf o a b row = ConstantRow (group_of o) row.0 row.1 row.2 × (casts a.type (whole_in a) row.0 ≡ true) × (casts b.type (whole_in b) row.1 ≡ true)
