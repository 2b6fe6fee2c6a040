use Rattle.std.proofs.Common.{subst, sym}
use Rattle.const_eval.specs.Answers.{Answers}
use Rattle.const_eval.specs.Seen.{constant_of}
use Rattle.const_eval.proofs.Parts.{left_side, right_side, no_side, parts_group, parts_computed, by_whole_group, by_whole_computed, by_part_group, by_part_computed, through_bits}
use Rattle.const_eval.proofs.part.parts_result.Goals as goal

pub on_parts-requires : goal.on_parts-requires
on_parts-requires c = parts_group c.args.operator.op c.args.operator.at c.args.operator.left c.args.operator.right c.args.left.now c.args.right.now c.args.plan.left c.args.plan.right c.args.plan.result c.requires.row c.requires.part _ _ c.in-Pi.is c.in-Pi-right.is

pub scaled-requires-clause-scaling : goal.scaled-requires-clause-scaling
scaled-requires-clause-scaling c = by_whole_group c.args.operator.op c.args.operator.at c.args.operator.left c.args.operator.right c.args.left.now c.args.right.now c.args.plan.left c.args.plan.right c.args.plan.result c.requires.row c.requires.part _ _ c.in-Pi.is c.in-Whole-right.is

pub scaled-requires-in-Pi-right-2-clause-scaling : goal.scaled-requires-in-Pi-right-2-clause-scaling
scaled-requires-in-Pi-right-2-clause-scaling c = by_part_group c.args.operator.op c.args.operator.at c.args.operator.left c.args.operator.right c.args.left.now c.args.right.now c.args.plan.left c.args.plan.right c.args.plan.result c.requires.row c.requires.part _ _ c.in-Whole.is c.in-Pi-right-2.is

pub returns-in-Pi-right : goal.returns-in-Pi-right
returns-in-Pi-right c =
    let due = parts_computed c.args.operator.op c.args.operator.at c.args.operator.left c.args.operator.right c.args.left.now c.args.right.now c.args.plan.left c.args.plan.right c.args.plan.result c.requires.row c.requires.part _ _ c.in-Pi.is c.in-Pi-right.is in
    subst (λ r. Answers constant_of c.on_parts.result r) (sym due) c.on_parts.ensures

pub returns-in-Whole-right : goal.returns-in-Whole-right
returns-in-Whole-right c =
    let due = by_whole_computed c.args.operator.op c.args.operator.at c.args.operator.left c.args.operator.right c.args.left.now c.args.right.now c.args.plan.left c.args.plan.right c.args.plan.result c.requires.row c.requires.part _ _ c.in-Pi.is c.in-Whole-right.is in
    subst (λ r. Answers constant_of c.scaled.result r) (sym due) (through_bits c.scaled.result c.args.operator.op c.args.operator.at _ c.in-Whole-right.number c.scaled.ensures)

pub returns-in-Pi-right-2 : goal.returns-in-Pi-right-2
returns-in-Pi-right-2 c =
    let due = by_part_computed c.args.operator.op c.args.operator.at c.args.operator.left c.args.operator.right c.args.left.now c.args.right.now c.args.plan.left c.args.plan.right c.args.plan.result c.requires.row c.requires.part _ _ c.in-Whole.is c.in-Pi-right-2.is in
    subst (λ r. Answers constant_of c.scaled-in-Pi-right-2.result r) (sym due) (through_bits c.scaled-in-Pi-right-2.result c.args.operator.op c.args.operator.at _ c.in-Whole.number c.scaled-in-Pi-right-2.ensures)

pub returns-in_default-right : goal.returns-in_default-right
returns-in_default-right c =
    absurd (no_side c.args.right.now c.args.plan.right c.in_default-right.not-Pi c.in_default-right.not-Whole (right_side c.args.operator.op c.args.operator.at c.args.operator.left c.args.operator.right c.args.left.now c.args.right.now c.args.plan.left c.args.plan.right c.args.plan.result c.requires.row c.requires.part))

pub returns-in_default : goal.returns-in_default
returns-in_default c =
    absurd (no_side c.args.left.now c.args.plan.left c.in_default.not-Pi c.in_default.not-Whole (left_side c.args.operator.op c.args.operator.at c.args.operator.left c.args.operator.right c.args.left.now c.args.right.now c.args.plan.left c.args.plan.right c.args.plan.result c.requires.row c.requires.part))
