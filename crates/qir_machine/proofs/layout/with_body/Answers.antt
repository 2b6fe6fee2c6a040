use Rattle.std.proofs.Common.{refl}
use Rattle.std.proofs.lemmas.Option.{slice_get_read}
use Rattle.qir_machine.specs.Effect.{IsRoomFor}
use Rattle.qir_machine.proofs.Rooms.{all_weaker, all_more, instr_weaker, within_all}
use Rattle.qir_machine.proofs.layout.with_body.Goals as goal

pub loop-instr-preserved : goal.loop-instr-preserved
loop-instr-preserved c = record {
  grows = within_all _ _ _ c.loop-instr.invariant.grows c.with_instruction-all.ensures.grows;
  enough = all_more (IsRoomFor c.with_instruction-all.result.registers c.with_instruction-all.result.results) c.args.body.now c.loop-instr.instr-index _
      (slice_get_read c.args.body.now _ c.loop-instr.instr-index _ refl c.loop-instr-test.true c.instr-item.is)
      (all_weaker (IsRoomFor c.loop-instr.all.registers c.loop-instr.all.results) (IsRoomFor c.with_instruction-all.result.registers c.with_instruction-all.result.results) _
      (λ instr room. instr_weaker c.loop-instr.all c.with_instruction-all.result instr c.with_instruction-all.ensures.grows room) c.loop-instr.invariant.enough)
      c.with_instruction-all.ensures.enough;
}
