use Rattle.std.proofs.Common.{◌≡◌, ◌<◌, true, arith, ap, length, refl}
use Rattle.std.proofs.lemmas.Grind.{common_steps}
use Rattle.qasm_ast.specs.declared.expr.OperandRef.{OperandRef}
use Rattle.qasm_ast.specs.View.{brackets_in, called_in}
use Rattle.const_eval.specs.Constant.{is_register}
use Rattle.const_eval.specs.Meaning.{meaning_in}
use Rattle.const_eval.specs.Seen.{constant_of}
use Rattle.const_eval.proofs.Naming.{no_register, other_kind, selected_answer, selects}
use Rattle.const_eval.proofs.evaluate.+value_at.Goals as goal

pub named_value-returns-in_default : goal.named_value-returns-in_default
named_value-returns-in_default g t c =
    let some : 0 < length c.args.operand.now.index = grind (arith, common_steps) in
    let other = other_kind c.in_ok-value.value.now c.in_default.not-Bits in
    let meant = rw (ap (λ (o : OperandRef). o.name) c.operand.view_is) at c.in_ok-value.ensures in
    rw c.refused.ensures
    (no_register c.args.program.now (meaning_in c.args.program.now (g.E.Constants.names c.args.env.now)) c.args.outer.exact c.args.outer.place (called_in c.args.program.now c.args.operand.now.name) c.args.operand.now.at c.args.place
    (constant_of c.in_ok-value.value.now) meant c.args.operand.now.index some other)

pub named_value-returns : goal.named_value-returns
named_value-returns g t c =
    let some : 0 < length c.args.operand.now.index = grind (arith, common_steps) in
    let register : is_register (constant_of c.in_ok-value.value.now) ≡ true = rw c.in-Bits.is refl in
    let meant = rw (ap (λ (o : OperandRef). o.name) c.operand.view_is) at c.in_ok-value.ensures in
    let due = selects c.args.program.now (meaning_in c.args.program.now (g.E.Constants.names c.args.env.now)) c.args.outer.exact c.args.outer.place (called_in c.args.program.now c.args.operand.now.name) c.args.operand.now.at c.args.place
    (constant_of c.in_ok-value.value.now) meant c.args.operand.now.index c.in_ok-values.values.items some register c.in_ok-values.ensures.answer in
    selected_answer c.indexed_constant.result _ c.args.place (brackets_in c.args.program.now c.args.operand.now.index) c.in_ok-value.value.now c.in-Bits.bits c.in_ok-values.values.items c.deref.result.now
    c.in-Bits.is c.deref.ensures.value due c.indexed_constant.ensures
