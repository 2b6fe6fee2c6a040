use Rattle.std.proofs.Common.{◌≡◌, ◌+◌, ◌-◌, ◌≤◌, Some, length, drop, false}
use Rattle.qasm_grammar.specs.Reader.{read_parameter, parameter_kinds}
use Rattle.qasm_expr.specs.Reader.{read_listed}
use Rattle.qasm_stmt.specs.Seen.{Each, Sound, Few, Grown, IsParameter}
use Rattle.qasm_expr.proofs.Loops.{Listing}
use Rattle.qasm_stmt.proofs.parameters.parameter_list.Given as goal

abbrev pub invariant-items : goal.invariant-items
invariant-items l = record {
  listing : Listing l.text parameter_kinds (read_parameter l.text (Some 64) l.room) l.tokens (Each (IsParameter l.arena)) l.from (read_listed l.text parameter_kinds false (read_parameter l.text (Some 64) l.room) (drop l.from l.tokens)) false l.found.items l.at;
  count : length l.found.items + l.from ≤ l.at;
  grown : Grown l.fn.arena l.arena;
  kept : l.arena.stmts.items ≡ l.fn.arena.stmts.items;
  few : Few l.arena l.at;
  sound : Sound l.arena;
}

abbrev pub decreases-items : goal.decreases-items
decreases-items l = length l.tokens - l.at
