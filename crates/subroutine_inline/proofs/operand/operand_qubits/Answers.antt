use Rattle.std.proofs.Common.{ℕ, ◌<◌, List, length, Result, rules, ap, sym, ◌∙◌}
use Rattle.qq_base.specs.declared.rule.Rule.{Rule}
use Rattle.qq_base.specs.declared.run.QubitId.{QubitId}
use Rattle.qasm_ast.specs.declared.expr.OperandRef.{OperandRef}
use Rattle.qasm_ast.specs.Tree.{Called}
use Rattle.alias_resolve.specs.Places.{Selected}
use Rattle.const_eval.specs.Meaning.{Meaning, meaning_in}
use Rattle.gate_arguments.specs.Environment.{operand_in}
use Rattle.subroutine_inline.proofs.Operating.{wire_refused}
use Rattle.subroutine_inline.proofs.operand.operand_qubits.Goals as goal

pub returns-in-Hardware-clause-answer : goal.returns-in-Hardware-clause-answer
returns-in-Hardware-clause-answer g c =
    let means : List ℕ → Meaning = meaning_in c.args.program.now (g.E.Constants.names c.args.env.now) in
    let registers : Called → Result (Selected QubitId) Rule = operand_in c.args.program.now (g.E.GateEnv.operands c.args.env.now) in
    let some : 0 < length c.args.operand.now.index = search rules in
    rw c.refused.ensures (wire_refused c.args.program.now means registers c.args.operand.now c.args.place c.in-Hardware.field-0 (ap (λ (o : OperandRef). o.name) (sym c.operand.view_is) ∙ c.in-Hardware.is) some)
