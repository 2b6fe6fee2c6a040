use Rattle.std.proofs.Common.{◌-◌}
use Rattle.qir_reader.proofs.Kept.{ItemsSoFar}
use Rattle.qir_reader.proofs.cursor.Cursor.items.Given as goal

-- these items were read, and as many may follow as tokens were left behind them
abbrev pub invariant-loop : goal.invariant-loop
invariant-loop l = ItemsSoFar l.fn.self (l.end - l.counter) l.found.phis.items l.found.body.items l.self
