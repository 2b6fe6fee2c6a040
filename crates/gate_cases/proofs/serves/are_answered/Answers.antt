use Rattle.std.proofs.Common.{rules, arith}
use Rattle.gate_cases.proofs.Operands.{IsAnswered, answered_more, answered_all}
use Rattle.gate_cases.proofs.serves.are_answered.Goals as goal

pub loop-operand-preserved : goal.loop-operand-preserved
loop-operand-preserved c =
    let here : IsAnswered c.args.answers.now c.operand-item.result = c.is_answered.ensures (search rules) in
    answered_more c.args.answers.now c.args.operands.now c.loop-operand.operand-index c.operand-item.result (omega arith) c.operand-item.is c.loop-operand.invariant here

pub returns : goal.returns
returns c = λ _. answered_all c.args.answers.now c.args.operands.now c.loop-operand.operand-index (omega arith) c.loop-operand.invariant
