use Rattle.gate_lists.specs.Members.{instructions_in}
use Rattle.gate_lists.specs.Paid.{within_asked}
use Rattle.gate_lists.proofs.modified.changed_list.Goals as goal

pub returns-in-Inverse-clause-exact : goal.returns-in-Inverse-clause-exact
returns-in-Inverse-clause-exact c = λ worths.
    let exact = c.inverse_list.ensures.exact worths in
    let here = rw c.deref.ensures.value at exact in
    rw c.in-Inverse.is (within_asked c.args.budget.now (λ v. instructions_in worths v.items) c.inverse_list.result _ here)

pub returns-in-Controls-clause-exact : goal.returns-in-Controls-clause-exact
returns-in-Controls-clause-exact c = λ worths.
    rw c.in-Controls.is (within_asked c.args.budget.now (λ v. instructions_in worths v.items) c.under_controls.result _ (c.under_controls.ensures.exact worths))
