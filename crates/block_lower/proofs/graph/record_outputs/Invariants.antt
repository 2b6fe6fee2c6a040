use Rattle.std.proofs.Common.{◌≡◌, ◌++◌, map, drop}
use Rattle.block_graph.specs.Lowering.{record_call}
use Rattle.block_lower.proofs.graph.record_outputs.Given as goal

abbrev pub invariant-loop-output : goal.invariant-loop-output
invariant-loop-output l =
    record l.here { body = l.here.body ++ map (record_call l.here.values) (drop l.output-index l.output-items) }
    ≡ record l.fn.here { body = l.fn.here.body ++ map (record_call l.fn.here.values) l.output-items }
