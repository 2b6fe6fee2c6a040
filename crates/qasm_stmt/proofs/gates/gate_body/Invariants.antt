use Rattle.std.proofs.Common.{◌+◌, ◌-◌, ◌≤◌, Some, length, drop}
use Rattle.grammar_parts.specs.Reading.{take_repeated}
use Rattle.qasm_expr.specs.Reader.{begins}
use Rattle.qasm_grammar.specs.Reader.{read_member, member_kinds}
use Rattle.qasm_stmt.specs.Seen.{Each, Sound, Few, Grown, Paid, IsMember}
use Rattle.qasm_expr.proofs.Loops.{Repeating}
use Rattle.qasm_stmt.proofs.gates.gate_body.Given as goal

abbrev pub invariant-members : goal.invariant-members
invariant-members l = record {
  repeating : Repeating l.text member_kinds (read_member l.text (Some 64) (l.room - 1)) l.tokens (Each (IsMember l.arena)) l.inside (take_repeated (begins l.text member_kinds) (read_member l.text (Some 64) (l.room - 1)) (drop l.inside l.tokens)) l.statements.items l.at;
  count : length l.statements.items + l.inside ≤ l.at;
  at_start : l.from + 1 ≤ l.inside;
  room : 1 ≤ l.room;
  grown : Grown l.fn.arena l.arena;
  paid : Paid l.fn.arena l.arena l.inside l.at;
  few : Few l.arena l.at;
  sound : Sound l.arena;
}

abbrev pub decreases-members : goal.decreases-members
decreases-members l = length l.tokens - l.at
