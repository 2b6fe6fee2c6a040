use Rattle.std.proofs.Common.{◌≡◌, ◌∙◌, sym, Some, None, Option, IsNone, IsSomeAnd, refl}
use Rattle.std.specs.Option.{option_map}
use Rattle.qasm_types.specs.declared.ty.Ty.{Ty}
use Rattle.qasm_types.specs.declared.operand.OpPlan.{OpPlan}
use Rattle.qasm_types.specs.Operators.{group_of}
use Rattle.qasm_types.specs.OpPlan.{types_of, Takes}
use Rattle.qasm_types.proofs.Choices.{some_is}
use Rattle.qasm_types.proofs.Planning.{plan_from_row}
use Rattle.qasm_types.proofs.Operating.{row_from_plan}
use Rattle.qasm_types.proofs.operator.operator_type.Goals as goal

takes_from : (o : Option OpPlan) (l r m : Ty) → option_map types_of o ≡ Some (l, r, m) → IsSomeAnd o (Takes l r m)
takes_from None l r m e = absurd cc
takes_from (Some p) l r m e =
    let same = some_is (types_of p) (l, r, m) e in
    (λ i. (same i).0, λ i. (same i).1, λ i. (same i).2)

from_takes : (o : Option OpPlan) (l r m : Ty) → IsSomeAnd o (Takes l r m) → option_map types_of o ≡ Some (l, r, m)
from_takes None l r m h = absurd h
from_takes (Some p) l r m h = λ i. Some (h.0 i, h.1 i, h.2 i)

pub returns-clause-row : goal.returns-clause-row
returns-clause-row c l r m =
    let g = group_of c.args.op in
    let a = c.args.left in
    let b = c.args.right in (
      λ h. takes_from c.plan_of.result l r m (c.plan_of.ensures ∙ plan_from_row g a.ty b.ty a.whole b.whole l r m h),
      λ k. row_from_plan g a.ty b.ty a.whole b.whole (l, r, m) (sym c.plan_of.ensures ∙ from_takes c.plan_of.result l r m k),
    )

none_by : (o : Option OpPlan) → ((l r m : Ty) → IsSomeAnd o (Takes l r m) → ⊥) → IsNone o
none_by None h = refl
none_by (Some p) h = absurd (h p.left p.right p.result (refl, refl, refl))

no_plan : (o : Option OpPlan) (l r m : Ty) → IsNone o → IsSomeAnd o (Takes l r m) → ⊥
no_plan None l r m h k = k
no_plan (Some p) l r m h k = absurd cc

pub returns-clause-none : goal.returns-clause-none
returns-clause-none c =
    (λ none l r m h. no_plan c.plan_of.result l r m none ((returns-clause-row c l r m).0 h), λ h. none_by c.plan_of.result (λ l r m k. h l r m ((returns-clause-row c l r m).1 k)))
