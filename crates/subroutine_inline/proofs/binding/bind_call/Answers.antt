use Rattle.std.proofs.Common.{◌≡◌, ◌≢◌, length, map, ap, ◌∙◌, arith}
use Rattle.std.proofs.lemmas.Result.{err_from_is_err_and}
use Rattle.qasm_ast.specs.View.{parameter_in, scalar_in, text_in, trees_in}
use Rattle.qasm_ast.specs.Tree.{if_some}
use Rattle.gate_arguments.specs.Environment.{declarations_in, scope_in}
use Rattle.subroutine_inline.specs.Seen.{given_seen, subroutine_in, taken_seen}
use Rattle.subroutine_inline.proofs.Calling.{count_differs, due_is, given_due, given_fails, other_count, result_fails, same_count, taken_fails}
use Rattle.subroutine_inline.proofs.binding.bind_call.Goals as goal

pub returns-then-len-clause-answer : goal.returns-then-len-clause-answer
returns-then-len-clause-answer g c =
    let p = c.args.program.now in
    let node = c.expr-node.result.now in
    let names = g.E.Constants.names c.args.env.now in
    let callables = g.E.GateEnv.callables c.args.env.now in
    let operands = g.E.GateEnv.operands c.args.env.now in
    let inside = g.E.GateEnv.inside c.args.env.now in
    let ids = c.in-Call.ids in
    let def = c.in_ok-def.field-0.def in
    let params = c.in_ok-def.field-0.params.now in
    let as' = ap length c.ids.view_is in
    let ps = ap length c.params.view_is in
    let differ : length ids ≢ length params = λ same. c.if-len.true (omega (arith, as', ps, same)) in
    rw (c.refused.ensures, due_is p c.args.call.0 node c.in-Call.name ids names callables operands inside c.args.active.now c.expr-node.ensures.found c.expr-node.ensures.tree c.in-Call.is)
    (count_differs (declarations_in p inside) (scope_in p names callables operands) c.args.active.now (text_in p c.in-Call.name) (trees_in p ids) node.at
    (record { id = def; subroutine = subroutine_in p def }) c.in_ok-def.ensures.answer p ids (other_count p ids (parameter_in p) params (subroutine_in p def).params c.in_ok-def.ensures.params differ))

pub returns-in_err-taken-clause-answer : goal.returns-in_err-taken-clause-answer
returns-in_err-taken-clause-answer g c =
    let q = err_from_is_err_and c.from_residual-in_err-taken.result c.from_residual-in_err-taken.ensures.1 in
    let p = c.args.program.now in
    let node = c.expr-node.result.now in
    let names = g.E.Constants.names c.args.env.now in
    let callables = g.E.GateEnv.callables c.args.env.now in
    let operands = g.E.GateEnv.operands c.args.env.now in
    let inside = g.E.GateEnv.inside c.args.env.now in
    let ids = c.in-Call.ids in
    let def = c.in_ok-def.field-0.def in
    let params = c.in_ok-def.field-0.params.now in
    let as' = ap length c.ids.view_is in
    let ps = ap length c.params.view_is in
    let counts : length ids ≡ length params = omega (arith, as', ps) in
    rw (q.1, q.2, due_is p c.args.call.0 node c.in-Call.name ids names callables operands inside c.args.active.now c.expr-node.ensures.found c.expr-node.ensures.tree c.in-Call.is)
    (taken_fails (declarations_in p inside) (scope_in p names callables operands) c.args.active.now (text_in p c.in-Call.name) (trees_in p ids) node.at
    (record { id = def; subroutine = subroutine_in p def }) c.in_ok-def.ensures.answer p ids
    _ c.in_ok-inside.ensures.answer (map (parameter_in p) params) c.in_ok-def.ensures.params (if_some (scalar_in p) c.in_ok-def.field-0.result) c.in_ok-def.ensures.result
    (same_count p ids (parameter_in p) params (subroutine_in p def).params c.in_ok-def.ensures.params counts) c.in_err-taken.field-0.0 c.in_err-taken.ensures.answer)

pub returns-in_err-result-clause-answer : goal.returns-in_err-result-clause-answer
returns-in_err-result-clause-answer g c =
    let q = err_from_is_err_and c.from_residual-in_err-result.result c.from_residual-in_err-result.ensures.1 in
    let p = c.args.program.now in
    let node = c.expr-node.result.now in
    let names = g.E.Constants.names c.args.env.now in
    let callables = g.E.GateEnv.callables c.args.env.now in
    let operands = g.E.GateEnv.operands c.args.env.now in
    let inside = g.E.GateEnv.inside c.args.env.now in
    let ids = c.in-Call.ids in
    let def = c.in_ok-def.field-0.def in
    let params = c.in_ok-def.field-0.params.now in
    let as' = ap length c.ids.view_is in
    let ps = ap length c.params.view_is in
    let counts : length ids ≡ length params = omega (arith, as', ps) in
    rw (q.1, q.2, due_is p c.args.call.0 node c.in-Call.name ids names callables operands inside c.args.active.now c.expr-node.ensures.found c.expr-node.ensures.tree c.in-Call.is)
    (result_fails (declarations_in p inside) (scope_in p names callables operands) c.args.active.now (text_in p c.in-Call.name) (trees_in p ids) node.at
    (record { id = def; subroutine = subroutine_in p def }) c.in_ok-def.ensures.answer p ids
    _ c.in_ok-inside.ensures.answer (map (parameter_in p) params) c.in_ok-def.ensures.params (if_some (scalar_in p) c.in_ok-def.field-0.result) c.in_ok-def.ensures.result
    (same_count p ids (parameter_in p) params (subroutine_in p def).params c.in_ok-def.ensures.params counts)
    (map taken_seen c.in_ok-taken.taken.items) c.in_ok-taken.ensures.answer c.in_err-result.field-0.0 c.in_err-result.ensures.answer)

pub returns-in_err-given-clause-answer : goal.returns-in_err-given-clause-answer
returns-in_err-given-clause-answer g c =
    let q = err_from_is_err_and c.from_residual-in_err-given.result c.from_residual-in_err-given.ensures.1 in
    let p = c.args.program.now in
    let node = c.expr-node.result.now in
    let names = g.E.Constants.names c.args.env.now in
    let callables = g.E.GateEnv.callables c.args.env.now in
    let operands = g.E.GateEnv.operands c.args.env.now in
    let inside = g.E.GateEnv.inside c.args.env.now in
    let ids = c.in-Call.ids in
    let def = c.in_ok-def.field-0.def in
    let params = c.in_ok-def.field-0.params.now in
    let as' = ap length c.ids.view_is in
    let ps = ap length c.params.view_is in
    let counts : length ids ≡ length params = omega (arith, as', ps) in
    rw (q.1, q.2, due_is p c.args.call.0 node c.in-Call.name ids names callables operands inside c.args.active.now c.expr-node.ensures.found c.expr-node.ensures.tree c.in-Call.is)
    (given_fails (declarations_in p inside) (scope_in p names callables operands) c.args.active.now (text_in p c.in-Call.name) (trees_in p ids) node.at
    (record { id = def; subroutine = subroutine_in p def }) c.in_ok-def.ensures.answer p ids
    _ c.in_ok-inside.ensures.answer (map (parameter_in p) params) c.in_ok-def.ensures.params (if_some (scalar_in p) c.in_ok-def.field-0.result) c.in_ok-def.ensures.result
    (same_count p ids (parameter_in p) params (subroutine_in p def).params c.in_ok-def.ensures.params counts)
    (map taken_seen c.in_ok-taken.taken.items) c.in_ok-taken.ensures.answer c.in_ok-result.result c.in_ok-result.ensures.answer params
    c.in_err-given.field-0.0 (rw c.deref.ensures.value at c.in_err-given.ensures.answer))

pub returns-clause-answer : goal.returns-clause-answer
returns-clause-answer g c =
    let p = c.args.program.now in
    let node = c.expr-node.result.now in
    let names = g.E.Constants.names c.args.env.now in
    let callables = g.E.GateEnv.callables c.args.env.now in
    let operands = g.E.GateEnv.operands c.args.env.now in
    let inside = g.E.GateEnv.inside c.args.env.now in
    let ids = c.in-Call.ids in
    let def = c.in_ok-def.field-0.def in
    let params = c.in_ok-def.field-0.params.now in
    let as' = ap length c.ids.view_is in
    let ps = ap length c.params.view_is in
    let counts : length ids ≡ length params = omega (arith, as', ps) in
    due_is p c.args.call.0 node c.in-Call.name ids names callables operands inside c.args.active.now c.expr-node.ensures.found c.expr-node.ensures.tree c.in-Call.is
    ∙ given_due (declarations_in p inside) (scope_in p names callables operands) c.args.active.now (text_in p c.in-Call.name) (trees_in p ids) node.at
    (record { id = def; subroutine = subroutine_in p def }) c.in_ok-def.ensures.answer p ids
    _ c.in_ok-inside.ensures.answer (map (parameter_in p) params) c.in_ok-def.ensures.params (if_some (scalar_in p) c.in_ok-def.field-0.result) c.in_ok-def.ensures.result
    (same_count p ids (parameter_in p) params (subroutine_in p def).params c.in_ok-def.ensures.params counts)
    (map taken_seen c.in_ok-taken.taken.items) c.in_ok-taken.ensures.answer c.in_ok-result.result c.in_ok-result.ensures.answer params
    (given_seen c.in_ok-given.given) c.all_taken.new.left c.result_type.new.left c.given_by.new.left c.in_ok-def.ensures.written
    (rw c.deref.ensures.value at c.in_ok-given.ensures.answer) c.in_ok-taken.ensures.cost c.in_ok-result.ensures.cost (rw c.deref.ensures.value at c.in_ok-given.ensures.cost)
