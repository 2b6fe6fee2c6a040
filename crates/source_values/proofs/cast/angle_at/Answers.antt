use Rattle.std.proofs.Common.{◌^◌, ◌∙◌, pos, ap}
use Rattle.std.specs.Int.{w128, int_rem_euclid}
use Rattle.std.specs.Int.RustNames.{unsigned_abs}
use Rattle.std.proofs.lemmas.Int.{to_z-of_z}
use Rattle.source_values.proofs.Casting.{angle_cast}
use Rattle.source_values.proofs.cast.angle_at.Goals as goal

pub returns-in_default : goal.returns-in_default
returns-in_default c =
    let back = to_z-of_z w128 c.low_number.result (record { sfits = c.low_number.type_inv }) in
    angle_cast c.congruent_numbers_reduce_alike.ensures c.args.value.now c.args.width c.low_number.result c.count.result (c.requires.least, c.requires.greatest)
    c.in_default.not-Angle c.in_default.not-Whole c.in_default.not-Pi c.low_number.ensures.congruent c.count.ensures.width (c.count.ensures.count ∙ ap (λ z. unsigned_abs (int_rem_euclid z (pos (2 ^ c.args.width)))) back)
