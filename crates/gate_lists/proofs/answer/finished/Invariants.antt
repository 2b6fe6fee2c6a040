use Rattle.std.proofs.Common.{◌≡◌}
use Rattle.gate_lists.proofs.Leaves.{IsAnswered}
use Rattle.gate_lists.proofs.answer.finished.Given as goal

abbrev pub invariant-loop-member : goal.invariant-loop-member
invariant-loop-member l =
    IsAnswered l.members l.initial.turns.items.items l.turns.items.items l.calls.items l.member-index × (l.turns.args ≡ l.initial.turns.args)
