use Rattle.std.proofs.Common.{◌≡◌, ◌++◌, ◌-◌, ◌*◌}
use Rattle.qasm_gen.specs.Generated.{behind, generated_text, lines_from}
use Rattle.qasm_gen.proofs.program.text_of.Given as goal

-- the text so far, with the lines of the draws to come
abbrev pub invariant-loop : goal.invariant-loop
invariant-loop l =
    (l.text.items ++ lines_from (l.size - l.counter) l.draws.state ≡ generated_text l.initial.draws.state l.size)
    × (behind (3 * (l.size - l.counter)) l.draws.state ≡ behind (3 * l.size) l.initial.draws.state)
