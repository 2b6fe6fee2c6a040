use Rattle.std.proofs.Common.{subst, refl}
use Rattle.angle_arith.specs.Fraction.{Fraction, IsSameFraction}
use Rattle.angle_arith.proofs.LowestTerms.{unique}
use Rattle.angle_arith.proofs.arithmetic.angle_eq.Goals as goal

pub returns-clause-one_form : goal.returns-clause-one_form
returns-clause-one_form c f g f_lowest g_lowest = (λ e. subst (λ (h : Fraction). IsSameFraction f h) e refl, unique f g f_lowest g_lowest)
