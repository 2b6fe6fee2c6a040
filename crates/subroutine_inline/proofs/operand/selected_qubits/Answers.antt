use Rattle.std.proofs.Common.{ℕ, List, Result}
use Rattle.qq_base.specs.declared.rule.Rule.{Rule}
use Rattle.qq_base.specs.declared.run.QubitId.{QubitId}
use Rattle.qasm_ast.specs.Tree.{Called}
use Rattle.alias_resolve.specs.Places.{Selected}
use Rattle.alias_resolve.specs.Seen.{seen_qubits}
use Rattle.const_eval.specs.Meaning.{Meaning, meaning_in}
use Rattle.gate_arguments.specs.Environment.{operand_in}
use Rattle.subroutine_inline.proofs.Operating.{single_refused, selected_known}
use Rattle.subroutine_inline.proofs.operand.selected_qubits.Goals as goal

pub returns-then-register-clause-answer : goal.returns-then-register-clause-answer
returns-then-register-clause-answer g c =
    let means : List ℕ → Meaning = meaning_in c.args.program.now (g.E.Constants.names c.args.env.now) in
    let registers : Called → Result (Selected QubitId) Rule = operand_in c.args.program.now (g.E.GateEnv.operands c.args.env.now) in
    rw c.refused.ensures (single_refused c.args.program.now means registers c.args.operand.now c.args.place c.requires.word c.requires.some (seen_qubits c.in_ok-register.register) c.in_ok-register.ensures.answer c.if-register.true)

pub returns-in-Ok-clause-answer : goal.returns-in-Ok-clause-answer
returns-in-Ok-clause-answer g c =
    let means : List ℕ → Meaning = meaning_in c.args.program.now (g.E.Constants.names c.args.env.now) in
    let registers : Called → Result (Selected QubitId) Rule = operand_in c.args.program.now (g.E.GateEnv.operands c.args.env.now) in
    let selected = rw (c.deref.ensures.value, c.deref-2.ensures.value) at c.in-Ok.ensures.ok in
    selected_known c.args.program.now means registers c.args.operand.now c.args.place c.requires.word c.requires.some (seen_qubits c.in_ok-register.register) c.in_ok-register.ensures.answer c.if-register.false
    c.in_ok-values.values.items c.in_ok-values.ensures.answer (seen_qubits c.in-Ok.list) selected
