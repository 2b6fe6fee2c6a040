use Rattle.std.proofs.Common.{take}
use Rattle.std.specs.List.{flat_map}
use Rattle.profile_check.specs.Mentions.{Adds, arg_numbers, read_mentions, latest_in}
use Rattle.profile_check.proofs.mentions.Gathered.read_args.Given as goal

-- the arguments so far were read
abbrev pub invariant-loop-arg : goal.invariant-loop-arg
invariant-loop-arg l = Adds l.initial.self l.self (read_mentions (latest_in l.initial.self) l.at (flat_map arg_numbers (take l.arg-index l.args)))
