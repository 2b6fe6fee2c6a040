use Rattle.std.proofs.Common.{◌≡◌, ◌+◌, ◌-◌, ◌≤◌, Some, length, drop}
use Rattle.qasm_lexer.specs.declared.token.Mark.TheVariants as m
use Rattle.qasm_grammar.specs.Reader.{read_joined, read_joins, symbol_kinds}
use Rattle.qasm_stmt.specs.Seen.{Each, Sound, Few, Grown, IsOperand}
use Rattle.qasm_expr.proofs.Loops.{Repeating}
use Rattle.qasm_stmt.proofs.declarations.joins.Given as goal

abbrev pub invariant-joins : goal.invariant-joins
invariant-joins l = record {
  repeating : Repeating l.text (symbol_kinds m.PlusPlus) (read_joined l.text (Some 64) l.room) l.tokens (Each (IsOperand l.arena)) l.from (read_joins l.text (Some 64) l.room (drop l.from l.tokens)) l.found.items l.at;
  count : length l.found.items + l.from ≤ l.at;
  grown : Grown l.fn.arena l.arena;
  kept : l.arena.stmts.items ≡ l.fn.arena.stmts.items;
  few : Few l.arena l.at;
  sound : Sound l.arena;
}

abbrev pub decreases-joins : goal.decreases-joins
decreases-joins l = length l.tokens - l.at
