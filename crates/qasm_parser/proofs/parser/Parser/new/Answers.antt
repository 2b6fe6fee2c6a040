use Rattle.std.proofs.Common.{length, ap, arith}
use Rattle.qasm_parser.proofs.parser.Parser.new.Goals as goal

pub invariant_of-result : goal.invariant_of-result
invariant_of-result c =
    record { cut = c.requires; within = omega arith; room_for_names = omega (arith, ap length c.new.ensures.empty, c.requires.few); room_for_nodes = omega (arith, ap length c.new-2.ensures.items, ap length c.new-3.ensures.items, c.requires.few) }
