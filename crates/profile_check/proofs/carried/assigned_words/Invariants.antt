use Rattle.std.proofs.Common.{take}
use Rattle.profile_check.specs.Rounds.{HoldsBits, round_assigns}
use Rattle.profile_check.proofs.carried.assigned_words.Given as goal

-- the bits of the uses so far
abbrev pub invariant-loop-one : goal.invariant-loop-one
invariant-loop-one l = HoldsBits l.words.items l.blocks (round_assigns (take l.one-index l.uses))
