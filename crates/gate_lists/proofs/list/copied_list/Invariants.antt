use Rattle.gate_lists.proofs.Copies.{IsCopied}
use Rattle.gate_lists.proofs.list.copied_list.Given as goal

abbrev pub invariant-loop : goal.invariant-loop
invariant-loop l = IsCopied l.initial.budget l.budget l.list l.copies.items l.counter
