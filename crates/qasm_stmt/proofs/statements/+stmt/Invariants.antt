use Rattle.std.proofs.Common.{◌+◌, ◌-◌, ◌*◌, ◌≤◌, Some, length, drop}
use Rattle.qasm_grammar.specs.Reader.{read_stmt, read_all_stmts, stmt_kinds}
use Rattle.qasm_stmt.specs.Seen.{Each, Sound, Few, Grown, Paid, IsStatement}
use Rattle.qasm_expr.proofs.Loops.{Repeating}
use Rattle.qasm_stmt.proofs.statements.+stmt.Given as goal

abbrev pub decreases-stmts : goal.decreases-stmts
decreases-stmts l = l.room * 20 + 12

abbrev pub decreases-stmt : goal.decreases-stmt
decreases-stmt l = l.room * 20 + 10

abbrev pub decreases-unlisted : goal.decreases-unlisted
decreases-unlisted l = l.room * 20 + 9

abbrev pub decreases-declaration : goal.decreases-declaration
decreases-declaration l = l.room * 20 + 8

abbrev pub decreases-subroutine_definition : goal.decreases-subroutine_definition
decreases-subroutine_definition l = l.room * 20 + 7

abbrev pub decreases-control : goal.decreases-control
decreases-control l = l.room * 20 + 8

abbrev pub decreases-conditional : goal.decreases-conditional
decreases-conditional l = l.room * 20 + 7

abbrev pub decreases-while_loop : goal.decreases-while_loop
decreases-while_loop l = l.room * 20 + 7

abbrev pub decreases-for_loop : goal.decreases-for_loop
decreases-for_loop l = l.room * 20 + 7

abbrev pub decreases-body : goal.decreases-body
decreases-body l = l.room * 20 + 6

abbrev pub decreases-block : goal.decreases-block
decreases-block l = l.room * 20 + 5

abbrev pub invariant-stmts-stmts : goal.invariant-stmts-stmts
invariant-stmts-stmts l = record {
  repeating : Repeating l.text stmt_kinds (read_stmt l.text (Some 64) l.room) l.tokens (Each (λ id s. IsStatement l.arena id s.0)) l.from (read_all_stmts l.text (Some 64) l.room (drop l.from l.tokens)) l.found.items l.at;
  count : length l.found.items + l.from ≤ l.at;
  grown : Grown l.fn.arena l.arena;
  paid : Paid l.fn.arena l.arena l.from l.at;
  few : Few l.arena l.at;
  sound : Sound l.arena;
}

abbrev pub decreases-stmts-stmts : goal.decreases-stmts-stmts
decreases-stmts-stmts l = length l.tokens - l.at
