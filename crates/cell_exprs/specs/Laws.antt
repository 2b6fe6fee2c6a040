-- Casts and operators over cells have the values of casts and operators on values.
use Rattle.std.specs.Prelude.{◌≡◌, ℕ, ◌<◌, ◌≤◌, ◌^◌, ◌⊎◌, Bool, ℤ, pos, List, length, map, Some, true}
use Rattle.qasm_types.specs.declared.ty.Ty.{Ty}
use Rattle.qasm_types.specs.declared.ty.Ty.TheVariants as t
use Rattle.qasm_types.specs.Types.{IsType}
use Rattle.qasm_ast.specs.declared.expr.UnaryOp.{UnaryOp}
use Rattle.qasm_types.specs.Plans.{casts, unary_plan}
use Rattle.qasm_ast.specs.declared.expr.BinaryOp.{BinaryOp}
use Rattle.qasm_ast.specs.declared.expr.BinaryOp.TheVariants as op
use Rattle.qasm_types.specs.Operators.{Group, Quotient, Rest, Shift, Power, HasRow, group_of}
use Rattle.qasm_types.specs.Values.{Value, Register, Number, IsValueOf, cast, apply, apply_unary}
use Rattle.core_ir.specs.Tree.{Expr}
use Rattle.core_ir.specs.Run.{Cells, value_of}
use Rattle.cell_exprs.specs.CellValues.{cells_of_value}
use Rattle.cell_exprs.specs.Parts.{fixed_parts, cast_parts, applied_parts, scaled_parts, unary_parts}

-- the parts have the value in these cells
abbrev pub HaveValue : Cells → List Expr → Value → Type 0
HaveValue cells parts x = map (λ (e : Expr). value_of e cells) parts ≡ cells_of_value x

-- a type whose values are in cells
abbrev pub IsInCells : Ty → Type 0
IsInCells t.Whole = ⊥
IsInCells t.Pi = ⊥
IsInCells type = IsType type

-- the parts of a constant have its value, whatever the cells hold
abbrev pub FixedPartsHaveValues : Type 0
FixedPartsHaveValues = (cells : Cells) (x : Value) → HaveValue cells (fixed_parts x) x

-- the parts of what is cast have the value of the cast
abbrev pub CastPartsHaveValues : Type 0
CastPartsHaveValues = (cells : Cells) (a b : Ty) (v : ℤ) (x y : Value) (parts : List Expr) → IsInCells a → IsInCells b → casts a v b ≡ true
    → IsValueOf a x → HaveValue cells parts x → cast a x b ≡ Some y → HaveValue cells (cast_parts a b parts) y

-- ---- operators

-- the operators whose right operand may be any value, and no divisor, amount or exponent
abbrev pub IsPlain : Group → Type 0
IsPlain Quotient = ⊥
IsPlain Rest = ⊥
IsPlain Shift = ⊥
IsPlain Power = ⊥
IsPlain _ = Unit {0}

-- an operator on two values has a value, and the parts have it
abbrev pub OperatorResult : Cells → BinaryOp → Ty → Value → Value → List Expr → Type 0
OperatorResult cells o m x y parts = (z : Value) × (apply o m x y ≡ Some z) × HaveValue cells parts z

abbrev pub UnaryResult : Cells → UnaryOp → Ty → Value → List Expr → Type 0
UnaryResult cells o m x parts = (z : Value) × (apply_unary o m x ≡ Some z) × HaveValue cells parts z

-- an operator by its row, but for divisors, amounts and exponents, where an operand is known at the run alone
abbrev pub OperatorPartsHaveValues : Type 0
OperatorPartsHaveValues = (cells : Cells) (o : BinaryOp) (a b l r m : Ty) (u v : ℤ) (x y : Value) (xs ys : List Expr) → HasRow (group_of o) a u b v l r m → IsPlain (group_of o)
    → IsInCells a ⊎ IsInCells b → IsType l → IsType r → IsInCells m → IsValueOf l x → IsValueOf r y → HaveValue cells xs x → HaveValue cells ys y
    → OperatorResult cells o m x y (applied_parts o l m xs ys)

-- a unary operator by its row
abbrev pub UnaryPartsHaveValues : Type 0
UnaryPartsHaveValues = (cells : Cells) (o : UnaryOp) (a m : Ty) (v : ℤ) (x : Value) (xs : List Expr) → unary_plan o a v ≡ Some m → IsInCells a → IsValueOf a x → HaveValue cells xs x
    → UnaryResult cells o m x (unary_parts o a m xs)

-- what a divisor and an amount are
abbrev pub ScaleFits : BinaryOp → ℕ → Type 0
ScaleFits op.Divide k = (1 ≤ k) × (k < 2 ^ 63)
ScaleFits op.Remainder k = (1 ≤ k) × (k < 2 ^ 63)
ScaleFits op.ShiftLeft k = k < 64
ScaleFits op.ShiftRight k = k < 64
ScaleFits _ k = ⊥

-- a type whose values are one word
abbrev pub IsOneWord : Ty → Type 0
IsOneWord (t.Int n) = IsType (t.Int n)
IsOneWord (t.Uint n) = IsType (t.Uint n)
IsOneWord (t.Angle n) = IsType (t.Angle n)
IsOneWord t.Turn = Unit {0}
IsOneWord _ = ⊥

-- a word or an angle by a divisor or an amount
abbrev pub ScaledPartsHaveValues : Type 0
ScaledPartsHaveValues = (cells : Cells) (o : BinaryOp) (m : Ty) (k : ℕ) (x : Value) (xs : List Expr) → ScaleFits o k → IsOneWord m → IsValueOf m x → HaveValue cells xs x
    → OperatorResult cells o m x (Number (pos k)) (scaled_parts o m xs k)

-- a register by an amount
abbrev pub IsShift : BinaryOp → Type 0
IsShift op.ShiftLeft = Unit {0}
IsShift op.ShiftRight = Unit {0}
IsShift _ = ⊥

abbrev pub ShiftedPartsHaveValues : Type 0
ShiftedPartsHaveValues = (cells : Cells) (o : BinaryOp) (k : ℕ) (bits : List Bool) (xs : List Expr) → IsShift o → HaveValue cells xs (Register bits)
    → OperatorResult cells o (t.Bits (length bits)) (Register bits) (Number (pos k)) (scaled_parts o (t.Bits (length bits)) xs k)

-- ---- what rows take

-- The types at which an operator takes its operands, and that of its result, are types, and an operand whose values are in cells casts
-- to the type at which it is taken. With such an operand the values of the result are in cells too.
pub record TakesCasts (a : Ty) (u : ℤ) (b : Ty) (v : ℤ) (l r m : Ty) : Type 0 where
  pub left : IsType l
  pub right : IsType r
  pub result : IsType m
  pub casts_left : IsInCells a → casts a u l ≡ true
  pub casts_right : IsInCells b → casts b v r ≡ true
  pub in_cells : IsInCells a ⊎ IsInCells b → IsInCells m

abbrev pub RowsTakeCasts : Type 0
RowsTakeCasts = (g : Group) (a b l r m : Ty) (u v : ℤ) → HasRow g a u b v l r m → IsType a → IsType b → TakesCasts a u b v l r m
