use Rattle.std.proofs.Common.{◌≤◌, take}
use Rattle.profile_check.specs.Rounds.{AreSlots}
use Rattle.profile_check.proofs.rounds.make_slots.Given as goal

-- the slots of what is assigned so far, and there are no more than mentions
abbrev pub invariant-loop-mention : goal.invariant-loop-mention
invariant-loop-mention l = AreSlots l.known l.count (take l.mention-index l.mentions) × (l.count ≤ l.mention-index)
