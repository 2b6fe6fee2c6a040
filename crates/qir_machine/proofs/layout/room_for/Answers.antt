use Rattle.std.proofs.Common.{refl}
use Rattle.std.proofs.lemmas.Option.{slice_get_read}
use Rattle.qir_machine.specs.Ready.{IsRoomForBlock}
use Rattle.qir_machine.proofs.Rooms.{all_weaker, all_more, block_weaker}
use Rattle.qir_machine.proofs.layout.room_for.Goals as goal

pub loop-block-preserved : goal.loop-block-preserved
loop-block-preserved c =
    all_more (IsRoomForBlock c.with_block-all.result.registers c.with_block-all.result.results c.with_block-all.result.phis) c.args.blocks.now c.loop-block.block-index _
    (slice_get_read c.args.blocks.now _ c.loop-block.block-index _ refl c.loop-block-test.true c.block-item.is)
    (all_weaker (IsRoomForBlock c.loop-block.all.registers c.loop-block.all.results c.loop-block.all.phis) (IsRoomForBlock c.with_block-all.result.registers c.with_block-all.result.results c.with_block-all.result.phis) _
    (λ b room. block_weaker c.loop-block.all c.with_block-all.result b c.with_block-all.ensures.grows room) c.loop-block.invariant)
    c.with_block-all.ensures.enough
