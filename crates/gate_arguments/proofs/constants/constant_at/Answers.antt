use Rattle.std.proofs.lemmas.Result.{err_from_is_err_and}
use Rattle.qasm_ast.specs.View.{tree_in}
use Rattle.const_eval.specs.ConstValue.{constant_value}
use Rattle.const_eval.specs.Meaning.{meaning_in}
use Rattle.const_eval.specs.Nodes.{nodes_of}
use Rattle.const_eval.specs.Seen.{constant_of}
use Rattle.const_eval.specs.Walk.{behind, done}
use Rattle.gate_arguments.proofs.Paying.{asked_stops, constant_paid, constant_unpaid}
use Rattle.gate_arguments.proofs.constants.constant_at.Goals as goal

pub returns-in_err-value : goal.returns-in_err-value
returns-in_err-value g c =
    let p = err_from_is_err_and c.from_residual.result c.from_residual.ensures.1 in
    let t = tree_in c.args.program.now c.args.id.0 in
    rw (p.1, p.2) (asked_stops c.args.budget.now (constant_value (meaning_in c.args.program.now (g.S.Constants.names c.args.scope.now)) c.args.exact t) (λ k. behind (nodes_of t) (done k)) c.in_err-value.field-0.0 c.in_err-value.ensures)

pub returns-in_err-pay_nodes : goal.returns-in_err-pay_nodes
returns-in_err-pay_nodes g c =
    let p = err_from_is_err_and c.from_residual-in_err-pay_nodes.result c.from_residual-in_err-pay_nodes.ensures.1 in
    let t = tree_in c.args.program.now c.args.id.0 in
    rw (p.1, p.2) (constant_unpaid c.args.budget.now (nodes_of t) (constant_value (meaning_in c.args.program.now (g.S.Constants.names c.args.scope.now)) c.args.exact t) (constant_of c.in_ok-value.value) c.in_err-pay_nodes.field-0.0 c.in_ok-value.ensures c.in_err-pay_nodes.ensures)

pub returns : goal.returns
returns g c =
    let t = tree_in c.args.program.now c.args.id.0 in
    constant_paid c.args.budget.now c.pay_nodes.new.budget (nodes_of t) (constant_value (meaning_in c.args.program.now (g.S.Constants.names c.args.scope.now)) c.args.exact t) (constant_of c.in_ok-value.value) c.in_ok-value.ensures c.in_ok-pay_nodes.ensures
