use Rattle.std.proofs.Common.{◌+◌, ◌≤◌, Some, length}
use Rattle.grammar_parts.specs.Reading.{take_repeated}
use Rattle.qasm_expr.specs.Reader.{begins}
use Rattle.qasm_grammar.specs.Reader.{member_kinds, read_member}
use Rattle.qasm_parser.specs.State.{After}
use Rattle.qasm_parser.specs.Shows.{Each}
use Rattle.qasm_parser.proofs.Repeating.{Repeating}
use Rattle.program_parser.specs.World.{Stands}
use Rattle.program_parser.specs.Shows.{MemberIn}
use Rattle.program_parser.proofs.gates.members.Given as goal

abbrev pub invariant-members : goal.invariant-members
invariant-members l = record {
  repeating : Repeating l.fn.parser.text member_kinds (read_member l.fn.parser.text (Some 64) l.room) (Each (Stands MemberIn l.parser)) (take_repeated (begins l.fn.parser.text member_kinds) (read_member l.fn.parser.text (Some 64) l.room) l.fn.parser.left) l.found.items l.parser.left;
  count : length l.found.items + length l.parser.left ≤ length l.fn.parser.left;
  after : After 0 0 l.fn.parser l.parser;
}

abbrev pub decreases-members : goal.decreases-members
decreases-members l = length l.parser.left
