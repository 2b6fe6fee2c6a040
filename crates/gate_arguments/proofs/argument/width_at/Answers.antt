use Rattle.std.proofs.Common.{Ok, sym, subst}
use Rattle.std.proofs.lemmas.Result.{err_from_is_err_and}
use Rattle.qasm_ast.specs.View.{tree_in}
use Rattle.const_eval.specs.Meaning.{meaning_in}
use Rattle.const_eval.specs.Seen.{constant_of}
use Rattle.gate_arguments.specs.Seen.{scope_names}
use Rattle.const_eval.specs.Answers.{Answers}
use Rattle.const_eval.specs.ConstCast.{sized_type}
use Rattle.const_eval.specs.Refusing.{go_on}
use Rattle.gate_arguments.proofs.Arguing.{plain_is, width_known, width_stops}
use Rattle.gate_arguments.proofs.argument.width_at.Goals as goal

pub returns-in-None : goal.returns-in-None
returns-in-None g c = rw c.in-None.is (plain_is c.args.ty.now.base c.args.ty.now.at c.args.budget.now c.requires.in_range.classical)

pub returns-in_err-value-in-Some : goal.returns-in_err-value-in-Some
returns-in_err-value-in-Some g c =
    let p = err_from_is_err_and c.from_residual.result c.from_residual.ensures.1 in
    rw (p.1, p.2, c.in-Some.is) (width_stops (meaning_in c.args.program.now (scope_names (g.E.Constants.names c.args.scope.now.env.now) (g.E.GateEnv.inside c.args.scope.now.env.now) c.args.scope.now.body)) c.args.ty.now.base c.args.ty.now.at (tree_in c.args.program.now c.in-Some.width.0) c.args.budget.now c.in_err-value-in-Some.field-0.0 c.in_err-value-in-Some.ensures)

pub returns-in_ok-value-in-Some : goal.returns-in_ok-value-in-Some
returns-in_ok-value-in-Some g c =
    let fits = subst (λ at. Answers {B = Unit {0}} (λ _. tt) c.width_fits.result (go_on {B = Unit {0}} (sized_type c.args.ty.now.base c.args.ty.now.at at (constant_of c.in_ok-value-in-Some.value)) (λ _. Ok tt))) (sym c.expr.ensures.place) c.width_fits.ensures in
    rw c.in-Some.is (width_known (meaning_in c.args.program.now (scope_names (g.E.Constants.names c.args.scope.now.env.now) (g.E.GateEnv.inside c.args.scope.now.env.now) c.args.scope.now.body)) c.args.ty.now.base c.args.ty.now.at (tree_in c.args.program.now c.in-Some.width.0) c.args.budget.now c.constant_at.new.budget (constant_of c.in_ok-value-in-Some.value) c.width_fits.result c.in_ok-value-in-Some.ensures fits)
