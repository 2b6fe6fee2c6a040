use Rattle.std.proofs.Common.{ℕ, List, Result}
use Rattle.qq_base.specs.declared.rule.Rule.{Rule}
use Rattle.qq_base.specs.declared.run.QubitId.{QubitId}
use Rattle.qasm_ast.specs.Tree.{Called}
use Rattle.alias_resolve.specs.Places.{Selected}
use Rattle.alias_resolve.specs.Seen.{seen_qubits}
use Rattle.const_eval.specs.Meaning.{Meaning, meaning_in}
use Rattle.gate_arguments.specs.Seen.{scope_names, scope_qubits}
use Rattle.gate_flatten.proofs.Exits.{at_exit}
use Rattle.gate_flatten.proofs.Operating.{register_fails, single_refused, indexes_fail, selected_known, selected_err}
use Rattle.gate_flatten.proofs.Selecting.{selected_one}
use Rattle.gate_flatten.proofs.operands.indexed_qubits.Goals as goal

pub returns-in_err-register-clause-answer : goal.returns-in_err-register-clause-answer
returns-in_err-register-clause-answer g c =
    let means : List ℕ → Meaning = meaning_in c.args.program.now (scope_names (g.E.Constants.names c.args.scope.now.env.now) (g.E.GateEnv.inside c.args.scope.now.env.now) c.args.scope.now.body) in
    let registers : Called → Result (Selected QubitId) Rule = scope_qubits c.args.program.now (g.E.GateEnv.operands c.args.scope.now.env.now) (g.E.GateEnv.inside c.args.scope.now.env.now) c.args.scope.now.body in
    at_exit _ _ _ _ c.from_residual.ensures.1 (register_fails c.args.program.now means registers c.args.operand.now c.args.budget.now c.requires.word c.requires.some _ c.in_err-register.ensures.answer)

pub returns-then-register-clause-answer : goal.returns-then-register-clause-answer
returns-then-register-clause-answer g c =
    let means : List ℕ → Meaning = meaning_in c.args.program.now (scope_names (g.E.Constants.names c.args.scope.now.env.now) (g.E.GateEnv.inside c.args.scope.now.env.now) c.args.scope.now.body) in
    let registers : Called → Result (Selected QubitId) Rule = scope_qubits c.args.program.now (g.E.GateEnv.operands c.args.scope.now.env.now) (g.E.GateEnv.inside c.args.scope.now.env.now) c.args.scope.now.body in
    rw c.refused.ensures (single_refused c.args.program.now means registers c.args.operand.now c.args.budget.now c.requires.word c.requires.some (seen_qubits c.in_ok-register.register) c.in_ok-register.ensures.answer c.if-register.true)

pub returns-in_err-values-clause-answer : goal.returns-in_err-values-clause-answer
returns-in_err-values-clause-answer g c =
    let means : List ℕ → Meaning = meaning_in c.args.program.now (scope_names (g.E.Constants.names c.args.scope.now.env.now) (g.E.GateEnv.inside c.args.scope.now.env.now) c.args.scope.now.body) in
    let registers : Called → Result (Selected QubitId) Rule = scope_qubits c.args.program.now (g.E.GateEnv.operands c.args.scope.now.env.now) (g.E.GateEnv.inside c.args.scope.now.env.now) c.args.scope.now.body in
    at_exit _ _ _ _ c.from_residual-in_err-values.ensures.1
    (indexes_fail c.args.program.now means registers c.args.operand.now c.args.budget.now c.requires.word c.requires.some (seen_qubits c.in_ok-register.register) c.in_ok-register.ensures.answer c.if-register.false _ c.in_err-values.ensures.answer)

pub returns-in-Ok-clause-answer : goal.returns-in-Ok-clause-answer
returns-in-Ok-clause-answer g c =
    let means : List ℕ → Meaning = meaning_in c.args.program.now (scope_names (g.E.Constants.names c.args.scope.now.env.now) (g.E.GateEnv.inside c.args.scope.now.env.now) c.args.scope.now.body) in
    let registers : Called → Result (Selected QubitId) Rule = scope_qubits c.args.program.now (g.E.GateEnv.operands c.args.scope.now.env.now) (g.E.GateEnv.inside c.args.scope.now.env.now) c.args.scope.now.body in
    let selected = rw (c.deref.ensures.value, c.deref-2.ensures.value) at c.in-Ok.ensures.ok in
    selected_known c.args.program.now means registers c.args.operand.now c.args.budget.now c.requires.word c.requires.some (seen_qubits c.in_ok-register.register) c.in_ok-register.ensures.answer c.if-register.false c.indexes_at.new.budget c.in_ok-values.values.items c.in_ok-values.ensures.answer (seen_qubits c.in-Ok.list) selected

pub returns-in-Ok-clause-one : goal.returns-in-Ok-clause-one
returns-in-Ok-clause-one g c = selected_one c.deref.result.now c.deref-2.result.now (seen_qubits c.in-Ok.list) c.in-Ok.ensures.ok

pub returns-clause-answer : goal.returns-clause-answer
returns-clause-answer g c =
    let means : List ℕ → Meaning = meaning_in c.args.program.now (scope_names (g.E.Constants.names c.args.scope.now.env.now) (g.E.GateEnv.inside c.args.scope.now.env.now) c.args.scope.now.body) in
    let registers : Called → Result (Selected QubitId) Rule = scope_qubits c.args.program.now (g.E.GateEnv.operands c.args.scope.now.env.now) (g.E.GateEnv.inside c.args.scope.now.env.now) c.args.scope.now.body in
    let selected = rw (c.deref.ensures.value, c.deref-2.ensures.value) at c.in-Err.ensures.err in
    selected_err c.args.program.now means registers c.args.operand.now c.args.budget.now c.requires.word c.requires.some (seen_qubits c.in_ok-register.register) c.in_ok-register.ensures.answer c.if-register.false c.indexes_at.new.budget c.in_ok-values.values.items c.in_ok-values.ensures.answer
    c.in-Err.fault c.refusal_of_fault.result selected c.refusal_of_fault.ensures.refusal c.refusal_of_fault.ensures.memory
