use Rattle.std.proofs.Common.{◌≡◌, ◌+◌, ◌/◌, length, take}
use Rattle.profile_check.specs.Rounds.{AreRounds, slot_of, place_in}
use Rattle.profile_check.proofs.rounds.by_rounds.Given as goal

-- the rows have the mentions so far
abbrev pub invariant-loop-mention : goal.invariant-loop-mention
invariant-loop-mention l = (length l.rounds.items ≡ l.slots.count / 64 + 1) × AreRounds l.rounds.items (slot_of l.slots) (place_in l.places l.end) (take l.mention-index l.mentions)
