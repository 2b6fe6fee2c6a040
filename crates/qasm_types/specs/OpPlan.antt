-- The types at which an operator takes its operands, and that of its result.
use Rattle.std.specs.Prelude.{◌≡◌}
use Rattle.qasm_types.specs.declared.ty.Ty.{Ty}
use Rattle.qasm_types.specs.declared.operand.OpPlan.{OpPlan}

abbrev pub types_of : OpPlan → Ty × Ty × Ty
types_of p = (p.left, p.right, p.result)

-- the plan takes its operands at types l and r, and the result has type t
abbrev pub Takes : Ty → Ty → Ty → OpPlan → Type 0
Takes l r t p = (p.left ≡ l) × (p.right ≡ r) × (p.result ≡ t)
