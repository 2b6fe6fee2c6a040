use Rattle.std.proofs.Common.{◌≡◌, pos, ◌∙◌, refl, sym, ap, ap₂, arith, to_z, of_z, int_rem, int_div}
use Rattle.std.proofs.lemmas.Int.{to_z-of_z, ints, quot-rem, rem_is}
use Rattle.std.specs.Int.{w128}
use Rattle.angle_arith.proofs.Integers.{rem_from_multiple}
use Rattle.angle_arith.proofs.parts.exact_quotient.Goals as goal

pub returns-then-num-den-eq0-clause-none : goal.returns-then-num-den-eq0-clause-none
returns-then-num-den-eq0-clause-none c =
    let rest : int_rem c.args.num c.args.den ≡ pos 0 = sym (rem_is w128 c.args.num c.args.den c.ranges.num c.ranges.den) ∙ ap (to_z w128) c.if-num-den-eq0.true in
    let split = quot-rem c.args.num c.args.den in
    (λ e. absurd cc, λ none. absurd (none (int_div c.args.num c.args.den, omega (arith, ints))))

pub returns-else-num-den-eq0-clause-none : goal.returns-else-num-den-eq0-clause-none
returns-else-num-den-eq0-clause-none c = (
  λ _ (z, e). c.if-num-den-eq0.false
      (ap (of_z w128) (ap₂ int_rem (to_z-of_z w128 c.args.num c.ranges.num) (to_z-of_z w128 c.args.den c.ranges.den) ∙ rem_from_multiple c.args.num c.args.den z (omega (arith, ints)))),
  λ _. refl,
)
