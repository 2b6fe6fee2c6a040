use Rattle.std.proofs.Common.{take}
use Rattle.std.specs.List.{flat_map}
use Rattle.profile_check.specs.Mentions.{Adds, taken_by, taken_mentions}
use Rattle.profile_check.proofs.mentions.Gathered.take_entries.Given as goal

-- the entries so far were taken
abbrev pub invariant-loop-operand : goal.invariant-loop-operand
invariant-loop-operand l = Adds l.initial.self l.self (taken_mentions l.at (flat_map taken_by (take l.operand-index l.entries)))
