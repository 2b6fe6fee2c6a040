use Rattle.std.proofs.Common.{arith}
use Rattle.std.proofs.lemmas.Result.{err_from_is_err_and}
use Rattle.gate_lists.proofs.Loops.{under_none, under_less, under_fails, under_all}
use Rattle.gate_lists.proofs.list.under_controls.Goals as goal

pub loop-k-init : goal.loop-k-init
loop-k-init c = under_none c.args.place c.args.controls.now c.args.list.items _ (omega arith)

pub returns-in_err-members-clause-exact : goal.returns-in_err-members-clause-exact
returns-in_err-members-clause-exact c = λ worths.
    let p = err_from_is_err_and c.from_residual.result c.from_residual.ensures.1 in
    let fails = c.in_err-members.ensures.exact worths in
    let here = rw c.deref.ensures.value at fails in
    rw (p.1, p.2)
    (under_fails c.args.place c.args.controls.now c.args.list.items c.loop-k.members.items c.loop-k.k _ c.loop-k.invariant c.loop-k-test.true c.loop-k.auto.k worths c.in_err-members.field-0.0 here)

pub loop-k-preserved : goal.loop-k-preserved
loop-k-preserved c =
    under_less c.args.place c.args.controls.now c.args.list.items c.loop-k.members.items c.in_ok-members.members.items c.loop-k.k _ c.loop-k.invariant c.loop-k-test.true c.loop-k.auto.k
    (λ worths. let made = c.in_ok-members.ensures.exact worths in rw c.deref.ensures.value at made)
    (λ turns. let named = c.in_ok-members.ensures.named turns in rw c.deref.ensures.value at named)
    (let count = c.in_ok-members.ensures.count in rw c.deref.ensures.value at count)

pub returns-clause-exact : goal.returns-clause-exact
returns-clause-exact c = under_all c.args.place c.args.controls.now c.args.list.items c.loop-k.members.items c.loop-k.k c.loop-k.invariant c.loop-k-test.false

pub returns-clause-named : goal.returns-clause-named
returns-clause-named c = c.loop-k.invariant.named

pub returns-clause-count : goal.returns-clause-count
returns-clause-count c = c.loop-k.invariant.count
