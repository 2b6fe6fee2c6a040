use Rattle.std.proofs.Common.{◌+◌, ◌*◌, ◌≤◌, Some, length}
use Rattle.qasm_grammar.specs.Reader.{stmt_kinds, read_stmt, read_all_stmts}
use Rattle.qasm_parser.specs.State.{After}
use Rattle.qasm_parser.specs.Shows.{Each}
use Rattle.qasm_parser.proofs.Repeating.{Repeating}
use Rattle.program_parser.specs.World.{Stands}
use Rattle.program_parser.proofs.Bodies.{NumberIn}
use Rattle.program_parser.proofs.statements.+stmt.Given as goal

abbrev pub decreases-stmts : goal.decreases-stmts
decreases-stmts l = l.room * 20 + 12

abbrev pub decreases-stmt : goal.decreases-stmt
decreases-stmt l = l.room * 20 + 10

abbrev pub decreases-unlisted : goal.decreases-unlisted
decreases-unlisted l = l.room * 20 + 9

abbrev pub decreases-declaration : goal.decreases-declaration
decreases-declaration l = l.room * 20 + 8

abbrev pub decreases-subroutine_definition : goal.decreases-subroutine_definition
decreases-subroutine_definition l = l.room * 20 + 7

abbrev pub decreases-control : goal.decreases-control
decreases-control l = l.room * 20 + 8

abbrev pub decreases-conditional : goal.decreases-conditional
decreases-conditional l = l.room * 20 + 7

abbrev pub decreases-while_loop : goal.decreases-while_loop
decreases-while_loop l = l.room * 20 + 7

abbrev pub decreases-for_loop : goal.decreases-for_loop
decreases-for_loop l = l.room * 20 + 7

abbrev pub decreases-body : goal.decreases-body
decreases-body l = l.room * 20 + 6

abbrev pub decreases-block : goal.decreases-block
decreases-block l = l.room * 20 + 5

abbrev pub invariant-stmts-stmts : goal.invariant-stmts-stmts
invariant-stmts-stmts l = record {
  repeating : Repeating l.fn.parser.text stmt_kinds (read_stmt l.fn.parser.text (Some 64) l.room) (Each (Stands NumberIn l.parser)) (read_all_stmts l.fn.parser.text (Some 64) l.room l.fn.parser.left) l.found.items l.parser.left;
  count : length l.found.items + length l.parser.left ≤ length l.fn.parser.left;
  after : After 0 0 l.fn.parser l.parser;
}

abbrev pub decreases-stmts-stmts : goal.decreases-stmts-stmts
decreases-stmts-stmts l = length l.parser.left
