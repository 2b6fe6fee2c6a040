use Rattle.std.proofs.Common.{◌≤◌, ◌∙◌, rules}
use Rattle.std.specs.Int.{w128}
use Rattle.std.specs.Option.{option_and_then}
use Rattle.std.proofs.lemmas.Int.{to_z-of_z}
use Rattle.qasm_types.specs.Values.{result_on_numbers}
use Rattle.const_eval.specs.Numbered.{in_range}
use Rattle.const_eval.proofs.NumberRows.{row_for_counts, row_bitwise, count_small, applied_whole, whole_stands}
use Rattle.const_eval.proofs.numbers.applied_number.Goals as goal

pub count_number-requires-clause-counts : goal.count_number-requires-clause-counts
count_number-requires-clause-counts c = row_for_counts _ _ _ _ c.in-Angle.width c.requires.row c.in-Angle.is

pub count_number-requires-clause-small : goal.count_number-requires-clause-small
count_number-requires-clause-small c =
    let most : c.in-Angle.width ≤ 32 = search rules in
    rw (to_z-of_z w128 c.args.x c.ranges.x, to_z-of_z w128 c.args.y c.ranges.y)
    (count_small _ _ _ _ c.in-Angle.width c.args.x c.args.y c.requires.row c.in-Angle.is most c.requires.left c.requires.right)

pub bits_number-requires : goal.bits_number-requires
bits_number-requires c =
    let h = row_bitwise _ _ _ _ c.requires.row c.requires.left_numbered c.requires.right_numbered c.in_default.not-Bool c.in_default.not-Whole c.in_default.not-Angle in
    record { is_type = c.args.plan.result_is_type; bitwise = h.0; group = h.1 }

pub returns-in-Whole-clause-value : goal.returns-in-Whole-clause-value
returns-in-Whole-clause-value c =
    let same_x = to_z-of_z w128 c.args.x c.ranges.x in
    let same_y = to_z-of_z w128 c.args.y c.ranges.y in
    applied_whole c.args.op c.args.plan.result c.args.x c.args.y c.whole_result.result c.in-Whole.is
    (c.whole_result.ensures ∙ (λ i. option_and_then in_range (result_on_numbers c.args.op (same_x i) (same_y i))))

pub returns-in-Whole-clause-stands : goal.returns-in-Whole-clause-stands
returns-in-Whole-clause-stands c =
    let same_x = to_z-of_z w128 c.args.x c.ranges.x in
    let same_y = to_z-of_z w128 c.args.y c.ranges.y in
    whole_stands c.args.plan.result (result_on_numbers c.args.op c.args.x c.args.y) c.whole_result.result c.in-Whole.is
    (c.whole_result.ensures ∙ (λ i. option_and_then in_range (result_on_numbers c.args.op (same_x i) (same_y i))))
