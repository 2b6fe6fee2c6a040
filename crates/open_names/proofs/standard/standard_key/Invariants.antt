use Rattle.std.proofs.Common.{◌≢◌, ℕ, ◌<◌}
use Rattle.qasm_ast.specs.Tree.{text_at}
use Rattle.open_names.proofs.standard.standard_key.Given as goal

-- no name so far is the standard one
abbrev pub invariant-loop-number : goal.invariant-loop-number
invariant-loop-number l = (k : ℕ) → k < l.number → text_at l.program.names k ≢ l.text
