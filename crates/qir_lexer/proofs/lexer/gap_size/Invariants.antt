use Rattle.std.proofs.Common.{ℕ, List, length, ◌-◌, ◌≤◌, drop}
use Rattle.qir_module.specs.Tokens.{Skips}
use Rattle.qir_lexer.proofs.lexer.gap_size.Given as goal

-- so far there are gaps
abbrev pub invariant-loop-size : goal.invariant-loop-size
invariant-loop-size l = (l.size ≤ length l.text) × (gaps : List (List ℕ)) × Skips gaps l.text (drop l.size l.text)

abbrev pub decreases-loop-size : goal.decreases-loop-size
decreases-loop-size l = length l.text - l.size
