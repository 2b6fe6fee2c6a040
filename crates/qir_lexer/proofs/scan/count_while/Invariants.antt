use Rattle.std.proofs.Common.{length, ◌-◌, ◌≡◌, ◌+◌, ◌≤◌, drop}
use Rattle.qir_module.specs.Lexer.{run}
use Rattle.qir_lexer.specs.Scan.{passes}
use Rattle.qir_lexer.proofs.scan.count_while.Given as goal

-- so many pass, and those that pass behind them are left
abbrev pub invariant-loop-count : goal.invariant-loop-count
invariant-loop-count l = (l.count ≤ length l.text) × (run (passes l.class) l.text ≡ l.count + run (passes l.class) (drop l.count l.text))

abbrev pub decreases-loop-count : goal.decreases-loop-count
decreases-loop-count l = length l.text - l.count
