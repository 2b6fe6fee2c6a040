use Rattle.std.proofs.Common.{◌≡◌, subst, arith}
use Rattle.std.proofs.lemmas.Result.{err_from_is_err_and}
use Rattle.gate_lists.proofs.Copies.{IsCopied, copied_none, copied_more, copied_all, copied_refused, copied_paid, copied_named}
use Rattle.gate_lists.proofs.list.copied_list.Goals as goal

pub loop-init : goal.loop-init
loop-init c = rw c.new-copies.ensures.items (copied_none c.args.budget.now c.args.list.now)

pub returns-in_err-spend-clause-exact : goal.returns-in_err-spend-clause-exact
returns-in_err-spend-clause-exact c = λ worths.
    let p = err_from_is_err_and c.from_residual.result c.from_residual.ensures.1 in
    let is = copied_refused c.args.budget.now c.loop.budget c.args.list.now c.loop.copies.items c.loop.counter c.args.times c.loop.invariant c.loop-test.true c.in_err-spend.ensures.passed worths in
    rw (p.1, p.2, c.in_err-spend.ensures.refused) is

pub loop-preserved : goal.loop-preserved
loop-preserved c =
    rw c.in_ok-append.ensures
    (copied_more c.args.budget.now c.loop.budget c.spend.new.self c.args.list.now c.loop.copies.items c.loop.counter c.loop.invariant c.in_ok-spend.ensures.paid c.in_ok-spend.ensures.rest)

pub returns-clause-exact : goal.returns-clause-exact
returns-clause-exact c = λ worths.
    let all : c.loop.counter ≡ c.args.times = omega arith in
    copied_all c.args.budget.now c.loop.budget c.args.list.now c.loop.copies.items c.args.times
    (subst (IsCopied c.args.budget.now c.loop.budget c.args.list.now c.loop.copies.items) all c.loop.invariant) worths

pub returns-clause-named : goal.returns-clause-named
returns-clause-named c = copied_named c.args.budget.now c.loop.budget c.args.list.now c.loop.copies.items c.loop.counter c.loop.invariant

pub returns-clause-paid : goal.returns-clause-paid
returns-clause-paid c = copied_paid c.args.budget.now c.loop.budget c.args.list.now c.loop.copies.items c.loop.counter c.loop.invariant
