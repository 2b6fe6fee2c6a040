use Rattle.std.proofs.Common.{List, sym, subst}
use Rattle.qir_module.specs.declared.instruction.Instr.TheVariants.{Call}
use Rattle.qir_module.specs.Functions.{Kind}
use Rattle.qir_module.specs.Machine.{all_given}
use Rattle.qir_machine.specs.Memory.{state_of}
use Rattle.qir_machine.specs.Given.{AreRead}
use Rattle.qir_machine.specs.Effect.{IsRoomFor}
use Rattle.qir_machine.proofs.Calls.{is_in_table, takes_are}
use Rattle.qir_machine.proofs.call.call_effect.Goals as goal

pub call_value-requires : goal.call_value-requires
call_value-requires c = is_in_table c.args.function.0 _ c.in-Some.ensures.takes

pub call_task-requires : goal.call_task-requires
call_task-requires c = is_in_table c.args.function.0 _ c.in-Some.ensures.takes

pub returns-in-None-clause-room : goal.returns-in-None-clause-room
returns-in-None-clause-room c = λ registers results room.
    c.call_task.ensures.room c.args.labels (state_of c.args.memory.now) c.args.args.now registers results
    (subst (λ (kinds : List Kind). AreRead (all_given c.args.labels (state_of c.args.memory.now) kinds c.args.args.now) c.in-Some-read_arguments.all) (sym (takes_are _ _ c.in-Some.ensures.takes)) c.in-Some-read_arguments.ensures)
    (subst (λ r. IsRoomFor registers results (Call r c.args.function c.args.args.now)) c.in-None.is room)
