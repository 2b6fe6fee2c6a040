use Rattle.std.proofs.Common.{◌-◌}
use Rattle.qir_reader.proofs.Kept.{RightSoFar}
use Rattle.qir_reader.proofs.cursor.Cursor.signatures.Given as goal

-- these declarations were read, all of which are the table's, and as many may follow as tokens were left behind them
abbrev pub invariant-loop : goal.invariant-loop
invariant-loop l = RightSoFar l.fn.self (l.end - l.counter) l.functions.items l.self
