use Rattle.gate_lists.proofs.Loops.{IsModified}
use Rattle.gate_lists.proofs.modified.modified_list.Given as goal

abbrev pub invariant-loop-k : goal.invariant-loop-k
invariant-loop-k l = IsModified l.initial.budget l.budget l.modifiers l.controls l.fn.list.items l.members.items l.k l.end
