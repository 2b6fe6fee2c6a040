use Rattle.std.proofs.Common.{◌≡◌, ◌<◌, ◌^◌, length, ap, sym, subst, ◌∙◌}
use Rattle.qir_module.specs.Machine.{machine_run}
use Rattle.qir_module.specs.Module.{Module, IsShaped}
use Rattle.qir_module.specs.Numbered.{IsNumbered}
use Rattle.qir_module.specs.Passes.{Passes}
use Rattle.core_ir.specs.Run.{core_run}
use Rattle.core_ir.specs.Tree.{program_of}
use Rattle.expr_lower.specs.Coded.{coded}
use Rattle.block_graph.specs.Laws.{IsWithin}
use Rattle.block_graph.specs.Work.{Work}
use Rattle.block_graph.specs.Lowering.{when_open, lower_of, end_work, module_of}
use Rattle.block_lower.specs.Parts.{IsSmall}
use Rattle.block_lower.proofs.Fitted.{lowerable, program_small, ended_few}
use Rattle.block_lower.proofs.statements.lower.Goals as goal

pub lower_program-requires-clause-small : goal.lower_program-requires-clause-small
lower_program-requires-clause-small c = subst (λ (w : Work). IsSmall (lower_of c.args.core.now (coded c.args.core.now) (program_of c.args.core.now) w)) (sym c.in_ok-work.ensures) (program_small c.args.core.now c.lowering_stays_small.ensures (lowerable c.args.core.now c.requires c.held.ensures c.codes_expressions.ensures))

pub into_module-requires-clause-blocks : goal.into_module-requires-clause-blocks
into_module-requires-clause-blocks c =
    let small : IsSmall c.lower_program.new.work = subst IsSmall (sym (c.in_ok-lower_program.ensures ∙ ap (lower_of c.args.core.now (coded c.args.core.now) (program_of c.args.core.now)) c.in_ok-work.ensures)) (program_small c.args.core.now c.lowering_stays_small.ensures (lowerable c.args.core.now c.requires c.held.ensures c.codes_expressions.ensures)) in
    subst (λ (v : Work). length v.done < 2 ^ 32) (sym c.in_ok-end.ensures) (ended_few c.args.core.now.outputs c.lower_program.new.work c.lower_program.new.work.now small.blocks)

pub into_module-requires-clause-shaped : goal.into_module-requires-clause-shaped
into_module-requires-clause-shaped c = subst (λ (v : Work). IsShaped (module_of c.args.core.now v)) (sym (c.in_ok-end.ensures ∙ ap (λ (v : Work). when_open v.now v (end_work c.args.core.now.outputs v)) (c.in_ok-lower_program.ensures ∙ ap (lower_of c.args.core.now (coded c.args.core.now) (program_of c.args.core.now)) c.in_ok-work.ensures))) (c.lowered_module_is_shaped.ensures c.args.core.now (coded c.args.core.now) (lowerable c.args.core.now c.requires c.held.ensures c.codes_expressions.ensures))

pub returns-clause-runs : goal.returns-clause-runs
returns-clause-runs c outcomes turns =
    subst (λ (m : Module). machine_run m outcomes turns ≡ core_run c.args.core.now outcomes turns) (sym (c.in_ok-made.ensures ∙ ap (module_of c.args.core.now) (c.in_ok-end.ensures ∙ ap (λ (v : Work). when_open v.now v (end_work c.args.core.now.outputs v)) (c.in_ok-lower_program.ensures ∙ ap (lower_of c.args.core.now (coded c.args.core.now) (program_of c.args.core.now)) c.in_ok-work.ensures)))) (c.lowered_module_runs_as_its_core.ensures c.args.core.now (coded c.args.core.now) (lowerable c.args.core.now c.requires c.held.ensures c.codes_expressions.ensures) outcomes turns)

pub returns-clause-passes : goal.returns-clause-passes
returns-clause-passes c = subst Passes (sym (c.in_ok-made.ensures ∙ ap (module_of c.args.core.now) (c.in_ok-end.ensures ∙ ap (λ (v : Work). when_open v.now v (end_work c.args.core.now.outputs v)) (c.in_ok-lower_program.ensures ∙ ap (lower_of c.args.core.now (coded c.args.core.now) (program_of c.args.core.now)) c.in_ok-work.ensures)))) (c.lowered_module_passes.ensures c.args.core.now (coded c.args.core.now) (lowerable c.args.core.now c.requires c.held.ensures c.codes_expressions.ensures))

pub returns-clause-numbered : goal.returns-clause-numbered
returns-clause-numbered c = subst IsNumbered (sym (c.in_ok-made.ensures ∙ ap (module_of c.args.core.now) (c.in_ok-end.ensures ∙ ap (λ (v : Work). when_open v.now v (end_work c.args.core.now.outputs v)) (c.in_ok-lower_program.ensures ∙ ap (lower_of c.args.core.now (coded c.args.core.now) (program_of c.args.core.now)) c.in_ok-work.ensures)))) (c.lowered_module_is_in_order.ensures c.args.core.now (coded c.args.core.now) (lowerable c.args.core.now c.requires c.held.ensures c.codes_expressions.ensures))

pub returns-clause-within : goal.returns-clause-within
returns-clause-within c = subst (IsWithin c.args.core.now) (sym (c.in_ok-made.ensures ∙ ap (module_of c.args.core.now) (c.in_ok-end.ensures ∙ ap (λ (v : Work). when_open v.now v (end_work c.args.core.now.outputs v)) (c.in_ok-lower_program.ensures ∙ ap (lower_of c.args.core.now (coded c.args.core.now) (program_of c.args.core.now)) c.in_ok-work.ensures)))) (c.lowered_module_stays_within.ensures c.args.core.now (coded c.args.core.now) (lowerable c.args.core.now c.requires c.held.ensures c.codes_expressions.ensures))
