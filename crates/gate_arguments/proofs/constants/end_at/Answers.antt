use Rattle.std.proofs.Common.{ℤ, Ok, Some, None, FitsSigned, rules, ap, sym, ◌∙◌}
use Rattle.std.specs.Int.{w128}
use Rattle.std.proofs.lemmas.Int.{to_z-of_z}
use Rattle.std.proofs.lemmas.Result.{err_from_is_err_and}
use Rattle.qasm_ast.specs.View.{tree_in}
use Rattle.const_eval.specs.ConstantWalk.{whole_walk}
use Rattle.const_eval.specs.Meaning.{meaning_in}
use Rattle.const_eval.specs.Walk.{done}
use Rattle.gate_lists.specs.Paid.{fails_then, paid_asked}
use Rattle.gate_arguments.proofs.Paying.{mapped_paid}
use Rattle.gate_arguments.proofs.constants.end_at.Goals as goal

pub returns-in_err-whole_at-in-Some : goal.returns-in_err-whole_at-in-Some
returns-in_err-whole_at-in-Some g c =
    let p = err_from_is_err_and c.from_residual.result c.from_residual.ensures.1 in
    rw (p.1, p.2, c.in-Some.is) (fails_then c.args.budget.now (whole_walk (meaning_in c.args.program.now (g.S.Constants.names c.args.scope.now)) c.args.exact (tree_in c.args.program.now c.in-Some.id.0)) (λ z. done (Some z)) c.in_err-whole_at-in-Some.field-0.0 c.in_err-whole_at-in-Some.ensures)

pub returns-in-None : goal.returns-in-None
returns-in-None g c = rw c.in-None.is (paid_asked c.args.budget.now None)

pub returns-in_ok-whole_at-in-Some : goal.returns-in_ok-whole_at-in-Some
returns-in_ok-whole_at-in-Some g c =
    let f : FitsSigned w128 c.in_ok-whole_at-in-Some.field-0 = search rules in
    rw c.in-Some.is (mapped_paid c.args.budget.now c.whole_at.new.budget (whole_walk (meaning_in c.args.program.now (g.S.Constants.names c.args.scope.now)) c.args.exact (tree_in c.args.program.now c.in-Some.id.0)) Some c.in_ok-whole_at-in-Some.field-0 c.in_ok-whole_at-in-Some.ensures
    ∙ ap (λ (z : ℤ). Ok (Some z, c.whole_at.new.budget)) (sym (to_z-of_z w128 c.in_ok-whole_at-in-Some.field-0 f)))
