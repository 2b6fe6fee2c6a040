use Rattle.std.proofs.Common.{arith}
use Rattle.profile_check.proofs.WaysLemmas.{ways_grown}
use Rattle.profile_check.proofs.ways.ways.Goals as goal

pub loop-from-preserved : goal.loop-from-preserved
loop-from-preserved c =
    ways_grown c.loop-from.ways.items c.add_ways.new.ways.items c.args.blocks.now c.args.places.now c.loop-from.from c.index-blocks-from.result
    c.requires.places c.requires.apart (omega arith) c.index-blocks-from.is c.loop-from.invariant c.in_ok-add_ways.ensures
