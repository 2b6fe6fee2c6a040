use Rattle.std.proofs.Common.{length, ap, arith, None}
use Rattle.qir_module.specs.Module.{Module}
use Rattle.qir_machine.proofs.Going.{goes_further, shows_after}
use Rattle.qir_machine.proofs.machine.Machine.step.Goals as goal

pub leave_block-requires : goal.leave_block-requires
leave_block-requires c = c.in_default.ensures.end

pub forwards-preserved : goal.forwards-preserved
forwards-preserved c =
    goes_further _ _ _ (goes_further _ _ _ c.forwards.invariant c.in_default.ensures.goes_on) (c.in_default-leave_block.ensures None).goes_on

pub returns-in-Some-leave_block-clause-same_module : goal.returns-in-Some-leave_block-clause-same_module
returns-in-Some-leave_block-clause-same_module c =
    (shows_after _ _ _ _ _ (goes_further _ _ _ c.forwards.invariant c.in_default.ensures.goes_on) (c.in-Some-leave_block.ensures c.args.outcome)).of

pub returns-in-Some-leave_block-clause-step : goal.returns-in-Some-leave_block-clause-step
returns-in-Some-leave_block-clause-step c =
    (shows_after _ _ _ _ _ (goes_further _ _ _ c.forwards.invariant c.in_default.ensures.goes_on) (c.in-Some-leave_block.ensures c.args.outcome)).is_step

pub returns-in-Some-leave_block-clause-records_last : goal.returns-in-Some-leave_block-clause-records_last
returns-in-Some-leave_block-clause-records_last c = (c.in-Some-leave_block.ensures c.args.outcome).records_last

pub forwards-smaller : goal.forwards-smaller
forwards-smaller c =
    let blocks = λ (m : Module). length m.blocks in
    let at_end = c.in_default.ensures in
    let later = c.in_default-leave_block.ensures None in
    let first = ap blocks at_end.goes_on.of in
    let second = ap blocks later.goes_on.of in
    omega (arith, first, second, at_end.block, later.later, later.inside)
