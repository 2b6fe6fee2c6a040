use Rattle.std.proofs.Common.{◌≡◌, subst}
use Rattle.qir_module.specs.declared.instruction.Instr.TheVariants.{Call}
use Rattle.qir_machine.specs.Effect.{IsRoomFor}
use Rattle.qir_machine.proofs.effect.instruction_effect.Goals as goal

pub returns-in-Call-clause-room : goal.returns-in-Call-clause-room
returns-in-Call-clause-room c = λ registers results room.
    let same : c.args.instr.now ≡ Call c.in-Call.register c.in-Call.function c.deref.result.now = cc in
    c.call_effect.ensures.room registers results (subst (λ i. IsRoomFor registers results i) same room)
