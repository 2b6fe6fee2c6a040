use Rattle.std.proofs.Common.{◌≡◌, ◌∙◌, sym, Some, None, Option, IsNone, refl}
use Rattle.qasm_types.specs.declared.ty.Ty.{Ty}
use Rattle.qasm_types.proofs.Operating.{unary_from_row, row_from_unary}
use Rattle.qasm_types.proofs.operator.unary_type.Goals as goal

pub returns-clause-row : goal.returns-clause-row
returns-clause-row c m = (
  λ h. c.unary_result.ensures.result ∙ unary_from_row c.args.op c.args.arg.ty c.args.arg.whole m h,
  λ e. row_from_unary c.args.op c.args.arg.ty c.args.arg.whole m (sym c.unary_result.ensures.result ∙ e),
)

none_by : (o : Option Ty) → ((m : Ty) → o ≡ Some m → ⊥) → IsNone o
none_by None h = refl
none_by (Some m) h = absurd (h m refl)

no_value : (o : Option Ty) (m : Ty) → IsNone o → o ≡ Some m → ⊥
no_value o m h e = cc

pub returns-clause-none : goal.returns-clause-none
returns-clause-none c =
    (λ none m h. no_value c.unary_result.result m none ((returns-clause-row c m).0 h), λ h. none_by c.unary_result.result (λ m e. h m ((returns-clause-row c m).1 e)))
