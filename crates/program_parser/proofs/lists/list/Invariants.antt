use Rattle.std.proofs.Common.{◌+◌, ◌≤◌, length}
use Rattle.qasm_expr.specs.Reader.{read_listed}
use Rattle.qasm_parser.specs.State.{After}
use Rattle.qasm_parser.specs.Shows.{Each}
use Rattle.qasm_parser.proofs.Listing.{Listing}
use Rattle.program_parser.specs.World.{Stands}
use Rattle.program_parser.proofs.lists.list.Given as goal

abbrev pub invariant-items : goal.invariant-items
invariant-items g l = record {
  listing : Listing l.fn.parser.text g.T.Item.kinds (g.T.Item.reader l.fn.parser.text l.room) (Each (Stands g.T.Item.look l.parser)) (read_listed l.fn.parser.text g.T.Item.kinds l.filled (g.T.Item.reader l.fn.parser.text l.room) l.fn.parser.left) l.first l.found.items l.parser.left;
  count : length l.found.items + length l.parser.left ≤ length l.fn.parser.left;
  after : After 0 0 l.fn.parser l.parser;
}

abbrev pub decreases-items : goal.decreases-items
decreases-items g l = length l.parser.left
