use Rattle.std.proofs.Common.{◌-◌, refl, ap, arith}
use Rattle.std.proofs.lemmas.Result.{err_from_is_err_and}
use Rattle.gate_lists.specs.declared.modified.Modified.TheVariants as m
use Rattle.gate_lists.proofs.Loops.{modified_none, modified_less, modified_fails, modified_all, enough_controls}
use Rattle.gate_lists.proofs.modified.modified_list.Goals as goal

pub loop-k-init : goal.loop-k-init
loop-k-init c = modified_none c.args.budget.now c.args.modifiers.now c.args.controls.now c.args.list.items _ _ (omega arith) refl c.requires

pub overflow_sub-start : goal.overflow_sub-start
overflow_sub-start c =
    let all = enough_controls c.args.budget.now c.loop-k.budget c.args.modifiers.now c.args.controls.now c.args.list.items c.loop-k.members.items c.loop-k.k c.loop-k.end (m.Inverse (record { line = 0; column = 0 })) c.loop-k.invariant c.loop-k-test.true c.loop-k.auto.k in
    omega (arith, all, c.controls_of.ensures)

pub returns-in_err-members-clause-exact : goal.returns-in_err-members-clause-exact
returns-in_err-members-clause-exact c = λ worths.
    let p = err_from_is_err_and c.from_residual.result c.from_residual.ensures.1 in
    rw (p.1, p.2)
    (modified_fails c.args.budget.now c.loop-k.budget c.args.modifiers.now c.args.controls.now _ c.args.list.items c.loop-k.members.items c.loop-k.k c.loop-k.end (c.loop-k.end - c.controls_of.result) (m.Inverse (record { line = 0; column = 0 }))
    c.loop-k.invariant c.loop-k-test.true c.loop-k.auto.k (ap (λ n. c.loop-k.end - n) c.controls_of.ensures) refl worths c.in_err-members.field-0.0 (c.in_err-members.ensures.exact worths))

pub loop-k-preserved : goal.loop-k-preserved
loop-k-preserved c =
    modified_less c.args.budget.now c.loop-k.budget c.changed_list.new.budget c.args.modifiers.now c.args.controls.now _ c.args.list.items c.loop-k.members.items c.in_ok-members.members.items c.loop-k.k c.loop-k.end (c.loop-k.end - c.controls_of.result) (m.Inverse (record { line = 0; column = 0 }))
    c.loop-k.invariant c.loop-k-test.true c.loop-k.auto.k (ap (λ n. c.loop-k.end - n) c.controls_of.ensures) refl c.in_ok-members.ensures.exact c.in_ok-members.ensures.named c.in_ok-members.ensures.paid

pub returns-clause-exact : goal.returns-clause-exact
returns-clause-exact c = modified_all c.args.budget.now c.loop-k.budget c.args.modifiers.now c.args.controls.now c.args.list.items c.loop-k.members.items c.loop-k.k c.loop-k.end c.loop-k.invariant c.loop-k-test.false

pub returns-clause-named : goal.returns-clause-named
returns-clause-named c = c.loop-k.invariant.named

pub returns-clause-paid : goal.returns-clause-paid
returns-clause-paid c = c.loop-k.invariant.paid
