use Rattle.std.proofs.Common.{◌≡◌, ◌+◌, ◌-◌, ◌≤◌, length, drop}
use Rattle.qasm_grammar.specs.Reader.{read_name, name_kinds}
use Rattle.qasm_expr.specs.Reader.{read_listed}
use Rattle.qasm_stmt.specs.Seen.{Each, Sound, Few, Grown, IsName}
use Rattle.qasm_expr.proofs.Loops.{Listing}
use Rattle.qasm_stmt.proofs.names.names.Given as goal

abbrev pub invariant-items : goal.invariant-items
invariant-items l = record {
  listing : Listing l.text name_kinds (read_name l.text) l.tokens (Each (IsName l.arena)) l.from (read_listed l.text name_kinds l.filled (read_name l.text) (drop l.from l.tokens)) l.first l.found.items l.at;
  count : length l.found.items + l.from ≤ l.at;
  grown : Grown l.fn.arena l.arena;
  kept : l.arena.stmts.items ≡ l.fn.arena.stmts.items;
  few : Few l.arena l.at;
  sound : Sound l.arena;
}

abbrev pub decreases-items : goal.decreases-items
decreases-items l = length l.tokens - l.at
