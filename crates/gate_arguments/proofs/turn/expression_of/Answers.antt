use Rattle.std.proofs.Common.{ℤ, ap, sym, ◌∙◌}
use Rattle.std.specs.Prelude.{int_div}
use Rattle.gate_lists.specs.Units.{word_of}
use Rattle.gate_arguments.specs.Words.{worth_of_turn}
use Rattle.gate_arguments.proofs.Parts.{same_divisor}
use Rattle.gate_arguments.proofs.turn.expression_of.Goals as goal

pub returns-in-Quotient-clause-worth : goal.returns-in-Quotient-clause-worth
returns-in-Quotient-clause-worth c = λ given worths are.
    let fits = rw c.in-Quotient.is at c.requires in
    rw c.in-Quotient.is
    (ap (λ (z : ℤ). word_of (int_div (worths c.in-Quotient.a) z)) (same_divisor c.in-Quotient.divisor fits.1 fits.2)
    ∙ ap (λ (x : ℤ). word_of (int_div x c.in-Quotient.divisor)) (sym (worth_of_turn given worths c.args.turns.now.items.items c.in-Quotient.a are fits.0)))
