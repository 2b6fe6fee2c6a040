use Rattle.std.proofs.Common.{take}
use Rattle.std.specs.List.{AllByRecursion}
use Rattle.qir_machine.specs.Ready.{IsRoomForBlock}
use Rattle.qir_machine.proofs.layout.room_for.Given as goal

abbrev pub invariant-loop-block : goal.invariant-loop-block
invariant-loop-block l = AllByRecursion (IsRoomForBlock l.all.registers l.all.results l.all.phis) (take l.block-index l.blocks)
