use Rattle.cell_exprs.proofs.Numbers.{WordLaws}
use Rattle.cell_exprs.proofs.Scaling.{scaled_by_kind}
use Rattle.cell_exprs.proofs.laws.scaled_parts_have_values.Goals as goal

pub returns : goal.returns
returns c cells =
    let laws : WordLaws = record { kept = c.numbers_are_kept.ensures; exact = c.words_are_exact.ensures; signed = c.ranges_are_exact.ensures.signed; unsigned = c.ranges_are_exact.ensures.unsigned; reduced = c.words_are_reduced.ensures } in
    scaled_by_kind laws cells
