-- The exits of a `?`.
use Rattle.std.proofs.Common.{◌≡◌, Result}
use Rattle.std.specs.Result.{IsErrAnd}
use Rattle.std.proofs.lemmas.Result.{err_from_is_err_and}
use Rattle.qq_base.specs.declared.refusal.Fault.{Fault}
use Rattle.qq_base.specs.declared.refusal.Refusal.{Refusal}
use Rattle.const_eval.specs.Answers.{Answers, Fails}

pub at_exit : {A B : Type 0} (seen : A → B) (r : Result A Fault) (due : Result B Refusal) (why : Fault) → IsErrAnd r (λ y. y ≡ why) → Fails why due → Answers seen r due
at_exit seen r due why is f = let p = err_from_is_err_and r is in rw (p.1, p.2) f

pub answers_from : {A B : Type 0} (seen : A → B) (result : Result A Fault) (due same : Result B Refusal) → due ≡ same → Answers seen result same → Answers seen result due
answers_from seen result due same e answer = rw e answer
