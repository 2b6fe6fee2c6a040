use Rattle.std.proofs.Common.{◌≡◌, ◌<◌, ◌≤◌, length, ap, arith, ◌∙◌}
use Rattle.qasm_ast.specs.declared.expr.OperandRef.{OperandRef}
use Rattle.gate_flatten.proofs.Exits.{at_exit}
use Rattle.gate_flatten.proofs.Placing.{operand_fails, operand_more, operands_end, ones_more}
use Rattle.gate_flatten.proofs.operands.operands_at.Goals as goal

pub returns-in_err-list-clause-answer : goal.returns-in_err-list-clause-answer
returns-in_err-list-clause-answer g c =
    let same : c.deref-operand-items.result.now ≡ c.args.operands.now = cc in
    let lt : c.loop-operand.operand-index < length c.args.operands.now = omega (arith, ap length same) in
    let item = rw same at c.operand-item.is in
    at_exit _ _ _ _ c.from_residual.ensures.1 (rw c.loop-operand.invariant.due (
    operand_fails c.args.program.now _ _ c.args.operands.now c.loop-operand.found.items c.loop-operand.operand-index c.loop-operand.budget c.operand-item.result _ lt (rw (← item) c.in_err-list.ensures.answer)))

pub loop-operand-preserved : goal.loop-operand-preserved
loop-operand-preserved g c =
    let same : c.deref-operand-items.result.now ≡ c.args.operands.now = cc in
    let lt : c.loop-operand.operand-index < length c.args.operands.now = omega (arith, ap length same) in
    let item = rw same at c.operand-item.is in
    rw c.in_ok-push.ensures (record {
      due = c.loop-operand.invariant.due ∙ operand_more c.args.program.now _ _ c.args.operands.now c.loop-operand.found.items c.loop-operand.operand-index c.loop-operand.budget c.operand_at.new.budget c.operand-item.result _ lt
          (ap (λ (o : OperandRef). o.at) item) (rw (← item) c.in_ok-list.ensures.answer);
      ones = ones_more c.loop-operand.found.items _ c.loop-operand.invariant.ones c.in_ok-list.ensures.one;
    })

pub returns-clause-answer : goal.returns-clause-answer
returns-clause-answer g c =
    let same : c.deref-operand-items.result.now ≡ c.args.operands.now = cc in
    let le : length c.args.operands.now ≤ c.loop-operand.operand-index = omega (arith, ap length same) in
    c.loop-operand.invariant.due ∙ operands_end c.args.program.now _ _ _ _ _ _ le
