use Rattle.std.proofs.Common.{◌≡◌, ◌++◌, ◌-◌}
use Rattle.qasm_gen.specs.Generated.{outcomes_from}
use Rattle.qasm_gen.proofs.program.outcomes.Given as goal

-- the outcomes so far, with those of the draws to come
abbrev pub invariant-loop : goal.invariant-loop
invariant-loop l = l.outcomes.items ++ outcomes_from (l.size - l.counter) l.draws.state ≡ outcomes_from l.size l.initial.draws.state
