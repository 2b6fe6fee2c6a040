use Rattle.std.proofs.Common.{inl, inr, Err, Ok, ap, sym, ◌∙◌}
use Rattle.gate_arguments.proofs.Parts.{some_units, too_many_units, no_units, same_units}
use Rattle.gate_arguments.proofs.units.units_of_part.Goals as goal

pub returns-in-Ok-clause-answer : goal.returns-in-Ok-clause-answer
returns-in-Ok-clause-answer c = some_units c.args.part c.args.place c.in-Ok.units c.den.ensures.lowest.small.positive c.in-Ok.ensures.units c.in-Ok.ensures.bounded ∙ ap Ok (sym (same_units c.in-Ok.units c.in-Ok.ensures.bounded))

pub returns-in-Err-clause-answer : goal.returns-in-Err-clause-answer
returns-in-Err-clause-answer c =
    elim c.in-Err.ensures.refusals [
      | inl e ↦ rw (c.refused.ensures, c.units_rule.ensures.parted e) (no_units c.args.part c.args.place (c.in-Err.ensures.not_dyadic.0 (λ i. Err (e i))))
      | inr e ↦ let beyond = c.in-Err.ensures.turn_range.0 (λ i. Err (e i)) in rw (c.refused.ensures, c.units_rule.ensures.beyond e) (too_many_units c.args.part c.args.place beyond.0 c.den.ensures.lowest.small.positive beyond.1 beyond.2)
    ]
