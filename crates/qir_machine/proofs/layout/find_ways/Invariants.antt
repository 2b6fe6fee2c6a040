use Rattle.std.proofs.Common.{◌≡◌, map, take}
use Rattle.qir_module.specs.declared.block.Block.{Block}
use Rattle.qir_machine.specs.Ready.{ways_of}
use Rattle.qir_machine.proofs.layout.find_ways.Given as goal

abbrev pub invariant-loop-block : goal.invariant-loop-block
invariant-loop-block l = l.ways.items ≡ map (λ (b : Block). ways_of l.blocks b.last) (take l.block-index l.blocks)
