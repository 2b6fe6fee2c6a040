use Rattle.profile_check.specs.Rounds.{HoldsBits, carried_bit, has_bit}
use Rattle.profile_check.proofs.carried.carried_words.Given as goal

-- the words of the blocks so far
abbrev pub invariant-loop-block : goal.invariant-loop-block
invariant-loop-block l = HoldsBits l.words.items l.block (carried_bit l.blocks (has_bit l.assigned))
