use Rattle.std.proofs.Common.{sym, subst}
use Rattle.std.proofs.lemmas.Result.{err_from_is_err_and}
use Rattle.qasm_ast.specs.Tree.{place_of}
use Rattle.qasm_ast.specs.View.{tree_in}
use Rattle.const_eval.specs.ConstCast.{whole_at}
use Rattle.const_eval.specs.ConstantWalk.{constant_walk}
use Rattle.const_eval.specs.Meaning.{meaning_in}
use Rattle.const_eval.specs.Seen.{constant_of}
use Rattle.const_eval.specs.Answers.{Answers}
use Rattle.const_eval.specs.Walk.{asked}
use Rattle.gate_lists.specs.Paid.{fails_then}
use Rattle.gate_arguments.proofs.Paying.{answers_then, asked_answers}
use Rattle.gate_arguments.proofs.constants.whole_at.Goals as goal

pub returns-in_err-value : goal.returns-in_err-value
returns-in_err-value g c =
    let p = err_from_is_err_and c.from_residual.result c.from_residual.ensures.1 in
    let t = tree_in c.args.program.now c.args.id.0 in
    rw (p.1, p.2) (fails_then c.args.budget.now (constant_walk (meaning_in c.args.program.now (g.S.Constants.names c.args.scope.now)) c.args.exact t) (λ k. asked (whole_at (place_of t) k)) c.in_err-value.field-0.0 c.in_err-value.ensures)

pub returns : goal.returns
returns g c =
    let t = tree_in c.args.program.now c.args.id.0 in
    let whole = subst (λ at. Answers (λ z. z) c.whole_number.result (whole_at at (constant_of c.in_ok-value.value))) (sym c.expr.ensures.place) c.whole_number.ensures in
    answers_then c.args.budget.now c.constant_at.new.budget c.constant_at.new.budget (constant_walk (meaning_in c.args.program.now (g.S.Constants.names c.args.scope.now)) c.args.exact t) (λ k. asked (whole_at (place_of t) k)) (constant_of c.in_ok-value.value) (λ z. z) c.whole_number.result
    c.in_ok-value.ensures (asked_answers c.constant_at.new.budget (λ z. z) c.whole_number.result (whole_at (place_of t) (constant_of c.in_ok-value.value)) whole)
