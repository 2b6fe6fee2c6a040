use Rattle.std.proofs.Common.{◌∙◌, FitsSigned, subst, sym, arith}
use Rattle.std.specs.Int.{w128}
use Rattle.std.proofs.lemmas.Int.{ints, to_z-of_z}
use Rattle.const_eval.specs.Answers.{Answers}
use Rattle.const_eval.specs.Constant.{whole_in}
use Rattle.const_eval.specs.Seen.{constant_of}
use Rattle.const_eval.proofs.RegisterRows.{pair_answer, pair_computed, pair_group, right_casts, shift_answer, shift_computed}
use Rattle.const_eval.proofs.register.registers_result.Goals as goal

pub seen_bits-requires-2 : goal.seen_bits-requires-2
seen_bits-requires-2 c =
    right_casts c.args.operator.op c.args.operator.at c.args.operator.left c.args.operator.right c.args.left.now c.args.right.now c.args.plan.left c.args.plan.right c.args.plan.result c.args.width c.requires.row c.requires.register
    (sym c.is_shift.ensures ∙ c.if-is_shift.false)

pub paired_result-requires-clause-pair : goal.paired_result-requires-clause-pair
paired_result-requires-clause-pair c =
    pair_group c.args.operator.op c.args.operator.at c.args.operator.left c.args.operator.right c.args.left.now c.args.right.now c.args.plan.left c.args.plan.right c.args.plan.result c.args.width c.requires.row c.requires.register
    (sym c.is_shift.ensures ∙ c.if-is_shift.false)

pub returns-then-is_shift : goal.returns-then-is_shift
returns-then-is_shift c =
    let due =
    shift_computed c.args.operator.op c.args.operator.at c.args.operator.left c.args.operator.right c.args.left.now c.args.right.now c.args.plan.left c.args.plan.right c.args.plan.result c.args.width c.requires.row c.requires.register
    (sym c.is_shift.ensures ∙ c.if-is_shift.true) c.in_ok-bits.bits.items c.in_ok-bits.ensures.bits in
    let fits : FitsSigned w128 c.operand-amount.result.whole = omega (arith, ints, c.operand-amount.result.is_constant) in
    subst (λ r. Answers constant_of c.shifted.result r) (sym due)
    (shift_answer c.shifted.result c.args.operator.op c.args.operator.at c.in_ok-bits.bits.items c.deref.result.now c.args.width _ (whole_in (constant_of c.args.right.now))
    c.deref.ensures.value c.in_ok-bits.ensures.count (to_z-of_z w128 c.operand-amount.result.whole fits ∙ c.operand-amount.ensures.whole) c.shifted.ensures)

pub returns : goal.returns
returns c =
    let due =
    pair_computed c.args.operator.op c.args.operator.at c.args.operator.left c.args.operator.right c.args.left.now c.args.right.now c.args.plan.left c.args.plan.right c.args.plan.result c.args.width c.requires.row c.requires.register
    (sym c.is_shift.ensures ∙ c.if-is_shift.false) c.in_ok-bits.bits.items c.in_ok-others.others.items c.in_ok-bits.ensures.bits c.in_ok-others.ensures.bits in
    subst (λ r. Answers constant_of c.paired_result.result r) (sym due)
    (pair_answer c.paired_result.result c.args.operator.op c.args.operator.at c.in_ok-bits.bits.items c.in_ok-others.others.items c.deref-2.result.now c.deref-3.result.now c.args.width
    c.deref-2.ensures.value c.deref-3.ensures.value c.in_ok-bits.ensures.count c.paired_result.ensures)
