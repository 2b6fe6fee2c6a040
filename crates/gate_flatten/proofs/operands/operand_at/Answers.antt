use Rattle.std.proofs.Common.{◌≡◌, ℕ, List, Result, length, arith}
use Rattle.qq_base.specs.declared.rule.Rule.{Rule}
use Rattle.qq_base.specs.declared.run.QubitId.{QubitId}
use Rattle.qasm_ast.specs.Tree.{Called}
use Rattle.alias_resolve.specs.Places.{Selected}
use Rattle.const_eval.specs.Meaning.{Meaning, meaning_in}
use Rattle.gate_arguments.specs.Seen.{scope_names, scope_qubits}
use Rattle.std.proofs.lemmas.Grind.{common_steps}
use Rattle.gate_flatten.proofs.Operating.{bare_answers, nothing}
use Rattle.gate_flatten.proofs.operands.operand_at.Goals as goal

pub returns-then-is_empty-clause-answer : goal.returns-then-is_empty-clause-answer
returns-then-is_empty-clause-answer g c =
    let means : List ℕ → Meaning = meaning_in c.args.program.now (scope_names (g.E.Constants.names c.args.scope.now.env.now) (g.E.GateEnv.inside c.args.scope.now.env.now) c.args.scope.now.body) in
    let registers : Called → Result (Selected QubitId) Rule = scope_qubits c.args.program.now (g.E.GateEnv.operands c.args.scope.now.env.now) (g.E.GateEnv.inside c.args.scope.now.env.now) c.args.scope.now.body in
    let none : length c.args.operand.now.index ≡ 0 = grind (arith, common_steps) in
    bare_answers c.args.program.now means registers c.args.operand.now c.args.budget.now (nothing c.args.operand.now.index none) c.qubits.result c.qubits.ensures.answer
