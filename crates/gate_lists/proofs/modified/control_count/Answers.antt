use Rattle.std.proofs.Common.{arith}
use Rattle.gate_lists.specs.declared.modified.Modified.TheVariants as m
use Rattle.gate_lists.proofs.Loops.{count_left}
use Rattle.gate_lists.proofs.modified.control_count.Goals as goal

pub loop-modifier-preserved : goal.loop-modifier-preserved
loop-modifier-preserved c =
    let left = count_left c.args.modifiers.now c.loop-modifier.modifier-index (m.Inverse (record { line = 0; column = 0 })) c.loop-modifier-test.true in
    omega (arith, left, c.controls_of.ensures, c.in_ok-count.ensures.1, c.loop-modifier.invariant)

pub returns-in_err-count-clause-too_many : goal.returns-in_err-count-clause-too_many
returns-in_err-count-clause-too_many c =
    let left = count_left c.args.modifiers.now c.loop-modifier.modifier-index (m.Inverse (record { line = 0; column = 0 })) c.loop-modifier-test.true in
    let much = c.in_err-count.ensures in
    rw c.from_residual.ensures (omega (arith, left, c.controls_of.ensures, much, c.loop-modifier.invariant))
