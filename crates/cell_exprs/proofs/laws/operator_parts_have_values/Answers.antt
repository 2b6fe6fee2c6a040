use Rattle.std.proofs.Common.{refl}
use Rattle.qasm_types.specs.Operators.{group_of}
use Rattle.cell_exprs.proofs.Numbers.{WordLaws}
use Rattle.cell_exprs.proofs.Rows.{row_value}
use Rattle.cell_exprs.proofs.laws.operator_parts_have_values.Goals as goal

pub returns : goal.returns
returns c cells o a b l r m u v x y xs ys row plain run tl tr in_cells vx vy p q =
    let laws : WordLaws = record { kept = c.numbers_are_kept.ensures; exact = c.words_are_exact.ensures; signed = c.ranges_are_exact.ensures.signed; unsigned = c.ranges_are_exact.ensures.unsigned; reduced = c.words_are_reduced.ensures } in
    row_value laws cells o x y xs ys p q (group_of o) a b l r m u v row refl plain run tl tr in_cells vx vy
