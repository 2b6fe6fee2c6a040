use Rattle.gate_lists.proofs.Loops.{IsUnder}
use Rattle.gate_lists.proofs.list.under_controls.Given as goal

abbrev pub invariant-loop-k : goal.invariant-loop-k
invariant-loop-k l = IsUnder l.place l.controls l.fn.list.items l.members.items l.k
