use Rattle.std.proofs.Common.{◌++◌, length, map}
use Rattle.std.specs.List.{range_with_len}
use Rattle.std.proofs.lemmas.Result.{err_from_is_err_and}
use Rattle.gate_arguments.specs.declared.scope.Given.TheVariants as gives
use Rattle.gate_arguments.specs.Seen.{open_in}
use Rattle.gate_arguments.proofs.Bodies.{body_answer}
use Rattle.gate_arguments.proofs.Entered.{differ_fails, values_count}
use Rattle.gate_arguments.proofs.Serving.{body_callables, body_names}
use Rattle.gate_arguments.proofs.scope.body_scope.Goals as goal

pub returns-in_err-given-clause-answer : goal.returns-in_err-given-clause-answer
returns-in_err-given-clause-answer g c = λ worths.
    let p = err_from_is_err_and c.from_residual.result c.from_residual.ensures.1 in
    rw (p.1, p.2)
    (differ_fails c.args.program.now c.depth-depth.ensures.whole c.args.signature.params.now c.args.signature.qubits.now (map gives.Argument (range_with_len 0 (length c.args.arguments.now)) ++ map gives.Qubit c.args.qubits.now)
    (values_count (length c.args.arguments.now) c.args.qubits.now c.args.signature.params.now c.args.signature.qubits.now c.requires.arguments c.requires.qubits) c.requires.params.each c.requires.names.each _ c.in_err-given.field-0.0 c.in_err-given.ensures)

pub returns-clause-answer : goal.returns-clause-answer
returns-clause-answer g c = λ worths.
    let env = c.args.outer.now.env.now in
    body_answer c.args.program.now c.depth-depth.ensures.whole worths (record { def = c.args.signature.def; callers = c.in_ok-callers.callers; arguments = c.args.arguments; given = c.in_ok-given.given })
    c.args.signature.params.now c.args.signature.qubits.now c.args.qubits.now c.requires.arguments c.requires.params.each c.requires.names.each c.in_ok-given.ensures c.requires.qubits
    (g.E.Constants.names env) (g.E.GateEnv.callables env) (g.E.GateEnv.operands env) (g.E.GateEnv.inside env) (open_in c.args.outer.now.body) c.in_ok-callers.ensures

pub returns-clause-names : goal.returns-clause-names
returns-clause-names g c =
    let env = c.args.outer.now.env.now in
    body_names c.args.program.now (g.E.GateEnv.inside env) c.requires.inside (record { def = c.args.signature.def; callers = c.in_ok-callers.callers; arguments = c.args.arguments; given = c.in_ok-given.given }) c.requires.definition (g.E.Constants.names env)

pub returns-clause-callables : goal.returns-clause-callables
returns-clause-callables g c =
    let env = c.args.outer.now.env.now in
    body_callables c.args.program.now (g.E.GateEnv.inside env) c.requires.inside (record { def = c.args.signature.def; callers = c.in_ok-callers.callers; arguments = c.args.arguments; given = c.in_ok-given.given }) c.requires.definition (g.E.GateEnv.callables env)
