use Rattle.std.proofs.Common.{take}
use Rattle.std.specs.List.{All}
use Rattle.gate_arguments.specs.Answering.{CallableFits}
use Rattle.gate_cases.specs.declared.env.Entry.{Entry}
use Rattle.gate_cases.specs.Told.{callable_told}
use Rattle.gate_cases.proofs.serves.entries_fit.Given as goal

abbrev pub invariant-loop-entry : goal.invariant-loop-entry
invariant-loop-entry l = All (λ (e : Entry). CallableFits l.program (callable_told e)) (take l.entry-index l.entries)
