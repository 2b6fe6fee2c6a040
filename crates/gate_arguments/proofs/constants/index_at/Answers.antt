use Rattle.std.proofs.Common.{ℤ, Ok, FitsSigned, rules, ap, sym, ◌∙◌}
use Rattle.std.specs.Int.{w128}
use Rattle.std.proofs.lemmas.Int.{to_z-of_z}
use Rattle.std.proofs.lemmas.Result.{err_from_is_err_and}
use Rattle.qasm_ast.specs.View.{maybe_in, tree_in, trees_in}
use Rattle.alias_resolve.specs.declared.index.IndexValue.TheVariants as i
use Rattle.const_eval.specs.ConstantWalk.{end_walk, members_walk, whole_walk}
use Rattle.const_eval.specs.Meaning.{meaning_in}
use Rattle.const_eval.specs.Walk.{done}
use Rattle.gate_lists.specs.Paid.{fails_then}
use Rattle.gate_arguments.proofs.Members.{range_paid, second_stops, third_stops}
use Rattle.gate_arguments.proofs.Paying.{mapped_paid}
use Rattle.gate_arguments.proofs.constants.index_at.Goals as goal

pub returns-in_err-step-in-Range-clause-answer : goal.returns-in_err-step-in-Range-clause-answer
returns-in_err-step-in-Range-clause-answer g c =
    let p = err_from_is_err_and c.from_residual-in_err-step-in-Range.result c.from_residual-in_err-step-in-Range.ensures.1 in
    let means = meaning_in c.args.program.now (g.S.Constants.names c.args.scope.now) in
    rw (p.1, p.2, c.in-Range.is) (second_stops c.args.budget.now (end_walk means c.args.exact (maybe_in c.args.program.now c.in-Range.start)) (end_walk means c.args.exact (maybe_in c.args.program.now c.in-Range.step)) (end_walk means c.args.exact (maybe_in c.args.program.now c.in-Range.stop))
    c.end_at.new.budget c.in_ok-start-in-Range.start c.in_ok-start-in-Range.ensures c.in_err-step-in-Range.field-0.0 c.in_err-step-in-Range.ensures)

pub returns-in_err-stop-in-Range-clause-answer : goal.returns-in_err-stop-in-Range-clause-answer
returns-in_err-stop-in-Range-clause-answer g c =
    let p = err_from_is_err_and c.from_residual-in_err-stop-in-Range.result c.from_residual-in_err-stop-in-Range.ensures.1 in
    let means = meaning_in c.args.program.now (g.S.Constants.names c.args.scope.now) in
    rw (p.1, p.2, c.in-Range.is) (third_stops c.args.budget.now (end_walk means c.args.exact (maybe_in c.args.program.now c.in-Range.start)) (end_walk means c.args.exact (maybe_in c.args.program.now c.in-Range.step)) (end_walk means c.args.exact (maybe_in c.args.program.now c.in-Range.stop))
    c.end_at.new.budget c.in_ok-start-in-Range.start c.in_ok-start-in-Range.ensures c.end_at-in-Range.new.budget c.in_ok-step-in-Range.step c.in_ok-step-in-Range.ensures c.in_err-stop-in-Range.field-0.0 c.in_err-stop-in-Range.ensures)

pub returns-in_ok-stop-in-Range-clause-answer : goal.returns-in_ok-stop-in-Range-clause-answer
returns-in_ok-stop-in-Range-clause-answer g c =
    let means = meaning_in c.args.program.now (g.S.Constants.names c.args.scope.now) in
    rw c.in-Range.is (range_paid c.args.budget.now (end_walk means c.args.exact (maybe_in c.args.program.now c.in-Range.start)) (end_walk means c.args.exact (maybe_in c.args.program.now c.in-Range.step)) (end_walk means c.args.exact (maybe_in c.args.program.now c.in-Range.stop))
    c.end_at.new.budget c.in_ok-start-in-Range.start c.in_ok-start-in-Range.ensures c.end_at-in-Range.new.budget c.in_ok-step-in-Range.step c.in_ok-step-in-Range.ensures c.end_at-in-Range-2.new.budget c.in_ok-stop-in-Range.stop c.in_ok-stop-in-Range.ensures)

pub returns-in_ok-whole_at-in-At-clause-answer : goal.returns-in_ok-whole_at-in-At-clause-answer
returns-in_ok-whole_at-in-At-clause-answer g c =
    let f : FitsSigned w128 c.in_ok-whole_at-in-At.field-0 = search rules in
    rw c.in-At.is (mapped_paid c.args.budget.now c.whole_at.new.budget (whole_walk (meaning_in c.args.program.now (g.S.Constants.names c.args.scope.now)) c.args.exact (tree_in c.args.program.now c.in-At.id.0)) i.At c.in_ok-whole_at-in-At.field-0 c.in_ok-whole_at-in-At.ensures
    ∙ ap (λ (z : ℤ). Ok (i.At z, c.whole_at.new.budget)) (sym (to_z-of_z w128 c.in_ok-whole_at-in-At.field-0 f)))

pub returns-in_ok-members_at-in-Set-clause-answer : goal.returns-in_ok-members_at-in-Set-clause-answer
returns-in_ok-members_at-in-Set-clause-answer g c =
    rw c.in-Set.is (mapped_paid c.args.budget.now c.members_at.new.budget (members_walk (meaning_in c.args.program.now (g.S.Constants.names c.args.scope.now)) c.args.exact (trees_in c.args.program.now c.in-Set.ids)) i.Set c.in_ok-members_at-in-Set.field-0 c.in_ok-members_at-in-Set.ensures.answer)

pub returns-in_err-whole_at-in-At-clause-answer : goal.returns-in_err-whole_at-in-At-clause-answer
returns-in_err-whole_at-in-At-clause-answer g c =
    let p = err_from_is_err_and c.from_residual.result c.from_residual.ensures.1 in
    let means = meaning_in c.args.program.now (g.S.Constants.names c.args.scope.now) in
    rw (p.1, p.2, c.in-At.is) (fails_then c.args.budget.now (whole_walk means c.args.exact (tree_in c.args.program.now c.in-At.id.0)) (λ z. done (i.At z)) c.in_err-whole_at-in-At.field-0.0 c.in_err-whole_at-in-At.ensures)

pub returns-in_err-start-in-Range-clause-answer : goal.returns-in_err-start-in-Range-clause-answer
returns-in_err-start-in-Range-clause-answer g c =
    let p = err_from_is_err_and c.from_residual-in_err-start-in-Range.result c.from_residual-in_err-start-in-Range.ensures.1 in
    let means = meaning_in c.args.program.now (g.S.Constants.names c.args.scope.now) in
    rw (p.1, p.2, c.in-Range.is) (fails_then c.args.budget.now (end_walk means c.args.exact (maybe_in c.args.program.now c.in-Range.start)) _ c.in_err-start-in-Range.field-0.0 c.in_err-start-in-Range.ensures)

pub returns-in_err-members_at-in-Set-clause-answer : goal.returns-in_err-members_at-in-Set-clause-answer
returns-in_err-members_at-in-Set-clause-answer g c =
    let p = err_from_is_err_and c.from_residual-in_err-members_at-in-Set.result c.from_residual-in_err-members_at-in-Set.ensures.1 in
    let means = meaning_in c.args.program.now (g.S.Constants.names c.args.scope.now) in
    rw (p.1, p.2, c.in-Set.is) (fails_then c.args.budget.now (members_walk means c.args.exact (trees_in c.args.program.now c.in-Set.ids)) (λ zs. done (i.Set zs)) c.in_err-members_at-in-Set.field-0.0 c.in_err-members_at-in-Set.ensures.answer)
