-- The plans of operators are rows of their table, and casts and operators give values of the types that their rows name.
use Rattle.std.specs.Prelude.{◌≡◌, ℤ, Some}
use Rattle.qasm_ast.specs.declared.expr.BinaryOp.{BinaryOp}
use Rattle.qasm_ast.specs.declared.expr.UnaryOp.{UnaryOp}
use Rattle.qasm_types.specs.declared.ty.Ty.{Ty}
use Rattle.qasm_types.specs.Operators.{Group, group_of, HasRow, HasUnaryRow}
use Rattle.qasm_types.specs.Plans.{operator_plan, unary_plan}
use Rattle.qasm_types.specs.Values.{Value, IsValueOf, cast, taken, apply, apply_unary, result_of}

-- a plan of an operator is a row of the table
abbrev pub PlansAreRows : Type 0
PlansAreRows = (g : Group) (a b : Ty) (u v : ℤ) (p : Ty × Ty × Ty) → operator_plan g a u b v ≡ Some p → HasRow g a u b v p.0 p.1 p.2

-- and so is that of a unary operator
abbrev pub UnaryPlansAreRows : Type 0
UnaryPlansAreRows = (o : UnaryOp) (a : Ty) (v : ℤ) (m : Ty) → unary_plan o a v ≡ Some m → HasUnaryRow o a v m

-- a cast of a value of one type gives a value of the other
abbrev pub CastsGiveValues : Type 0
CastsGiveValues = (a b : Ty) (x y : Value) → IsValueOf a x → cast a x b ≡ Some y → IsValueOf b y

-- and so does what an operator takes
abbrev pub OperandsAreTakenAsValues : Type 0
OperandsAreTakenAsValues = (a b : Ty) (x y : Value) → IsValueOf a x → taken a x b ≡ Some y → IsValueOf b y

-- an operator by its row, on values of the types at which it takes its operands, gives a value of the row's result
abbrev pub OperatorsGiveValues : Type 0
OperatorsGiveValues = (o : BinaryOp) (a b l r m : Ty) (u v : ℤ) (x y z : Value) → HasRow (group_of o) a u b v l r m
    → IsValueOf l x → IsValueOf r y → apply o m x y ≡ Some z → IsValueOf m z

-- and so it does on operands of the row's types, once they are taken
abbrev pub ResultsAreValues : Type 0
ResultsAreValues = (o : BinaryOp) (a b l r m : Ty) (u v : ℤ) (x y z : Value) → HasRow (group_of o) a u b v l r m
    → IsValueOf a x → IsValueOf b y → result_of o a x b y l r m ≡ Some z → IsValueOf m z

-- a unary operator by its row gives a value of the row's result
abbrev pub UnaryOperatorsGiveValues : Type 0
UnaryOperatorsGiveValues = (o : UnaryOp) (a m : Ty) (v : ℤ) (x z : Value) → HasUnaryRow o a v m
    → IsValueOf a x → apply_unary o m x ≡ Some z → IsValueOf m z
