use Rattle.std.proofs.Common.{◌+◌, ◌≤◌, length}
use Rattle.qasm_parser.specs.State.{After}
use Rattle.program_parser.specs.World.{Stands}
use Rattle.program_parser.specs.Shows.{OperandIn}
use Rattle.program_parser.proofs.Joining.{Joining}
use Rattle.program_parser.proofs.declarations.joined.Given as goal

abbrev pub invariant-joins : goal.invariant-joins
invariant-joins l = record {
  joining : Joining l.fn.parser.text l.room (Stands OperandIn l.parser) l.fn.parser.left l.found.items l.parser.left;
  count : length l.found.items + length l.parser.left ≤ length l.fn.parser.left;
  after : After 1 0 l.fn.parser l.parser;
}

abbrev pub decreases-joins : goal.decreases-joins
decreases-joins l = length l.parser.left
