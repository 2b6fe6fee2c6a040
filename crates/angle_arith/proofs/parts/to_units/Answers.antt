use Rattle.std.proofs.Common.{rules, ◌≤◌, ◌^◌, pos, ◌*ℤ◌, ◌∙◌, sym, arith, SFits}
use Rattle.std.proofs.lemmas.Int.{ints}
use Rattle.std.specs.Int.{w128}
use Rattle.angle_arith.specs.Fraction.{IsWholeNumber, parts_of}
use Rattle.angle_arith.proofs.Integers.{same_from_product}
use Rattle.angle_arith.proofs.parts.to_units.Goals as goal

pub returns-clause-turn_range : goal.returns-clause-turn_range
returns-clause-turn_range c =
    let units = c.in_ok-units.units in
    let units_whole : IsWholeNumber (parts_of c.args.a 32) units = rw c.in_ok-units.ensures.ok_part at c.whole_parts.ensures.parts in
    let positive = c.whole_parts.ensures.lowest.small.positive in
    let fits : SFits w128 units = search rules in
    let within : c.unsigned_abs.result ≤ 2 ^ 40 = c.if-unsigned_abs-gt-UNIT_LIMIT.false in
    let size = c.unsigned_abs.ensures.value in (
      λ e. absurd cc,
      λ (z, z_whole, over_limit).
          let same = same_from_product z units (c.args.a.den *ℤ pos 2) (omega (arith, ints)) (sym z_whole ∙ units_whole) in
          absurd (omega (arith, ints)),
    )
