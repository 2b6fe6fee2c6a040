-- For private contracts alone: what the answers to the operands of a call say.
use Rattle.std.specs.Prelude.{Result, Ok, Err}
use Rattle.std.specs.Borrow.{Bor}
use Rattle.qq_base.specs.declared.rule.Rule.{Rule}
use Rattle.qq_base.specs.declared.run.QubitId.{QubitId}
use Rattle.qasm_ast.specs.declared.expr.OperandName.{OperandName}
use Rattle.alias_resolve.specs.Places.{Selected}
use Rattle.gate_cases.specs.declared.answers.Answer.{Answer}
use Rattle.gate_cases.specs.declared.answers.Answer.TheVariants as a
use Rattle.gate_cases.specs.declared.answers.OperandAnswer.{OperandAnswer}

abbrev pub answer_told : Answer → Result (Selected QubitId) Rule
answer_told (a.Found ids single) = Ok (record { items = ids.items; single = single })
answer_told (a.Broken rule) = Err rule

abbrev pub operand_told : OperandAnswer → OperandName × Result (Selected QubitId) Rule
operand_told o = (o.name, answer_told o.answer)

abbrev pub lent_told : Bor Answer → Result (Selected QubitId) Rule
lent_told answer = answer_told answer.now
