use Rattle.std.proofs.Common.{◌≡◌, ◌+◌, ◌-◌, ◌≤◌, Some, length, drop}
use Rattle.qasm_grammar.specs.Reader.{read_call}
use Rattle.qasm_stmt.specs.Seen.{Sound, Few, Grown, IsChange}
use Rattle.qasm_stmt.proofs.Changes.{Changing}
use Rattle.qasm_stmt.proofs.calls.call.Given as goal

abbrev pub invariant-mods : goal.invariant-mods
invariant-mods l = record {
  changing : Changing l.text l.tokens (IsChange l.arena) (read_call l.text (Some 64) l.room (drop l.from l.tokens)) l.mods.items l.left l.at;
  count : length l.mods.items + l.from ≤ l.at;
  grown : Grown l.fn.arena l.arena;
  kept : l.arena.stmts.items ≡ l.fn.arena.stmts.items;
  few : Few l.arena l.at;
  sound : Sound l.arena;
  start : l.from ≤ l.at;
  end : l.at ≤ length l.tokens;
}

abbrev pub decreases-mods : goal.decreases-mods
decreases-mods l = length l.tokens - l.at
