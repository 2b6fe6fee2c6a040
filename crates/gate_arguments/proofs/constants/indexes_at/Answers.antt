use Rattle.std.proofs.Common.{◌≡◌, ◌+◌, List, [], ◌∷◌, ◌++◌, All, drop, Ok, ap, sym, subst, ◌∙◌, arith}
use Rattle.std.proofs.lemmas.Grind.{common_steps}
use Rattle.std.proofs.lemmas.Result.{err_from_is_err_and}
use Rattle.qasm_ast.specs.declared.expr.IndexRef.{IndexRef}
use Rattle.qasm_ast.specs.View.{bracket_in, brackets_in}
use Rattle.alias_resolve.specs.Places.{HasFewMembers}
use Rattle.const_eval.specs.Answers.{Fails}
use Rattle.const_eval.specs.ConstantWalk.{index_walk, indexes_walk}
use Rattle.const_eval.specs.Meaning.{meaning_in}
use Rattle.gate_lists.specs.Paid.{paid_from}
use Rattle.gate_arguments.proofs.Members.{few_more, found_index, index_stops}
use Rattle.gate_arguments.proofs.Walking.{behind}
use Rattle.gate_arguments.proofs.constants.indexes_at.Goals as goal

pub returns-in_err-value-clause-answer : goal.returns-in_err-value-clause-answer
returns-in_err-value-clause-answer g c =
    let p = err_from_is_err_and c.from_residual.result c.from_residual.ensures.1 in
    let means = meaning_in c.args.program.now (g.S.Constants.names c.args.scope.now) in
    let all = c.deref-bracket-items.result.now in
    let same = c.deref-bracket-items.ensures.value ∙ c.index.view_is in
    let stops = index_stops c.args.program.now means c.args.exact all c.loop-bracket.values.items c.loop-bracket.bracket-index c.bracket-item.result c.loop-bracket.budget c.in_err-value.field-0.0 (omega arith) (subst (λ (x : IndexRef). Fails c.in_err-value.field-0.0 (paid_from c.loop-bracket.budget (index_walk means c.args.exact (bracket_in c.args.program.now x)))) c.bracket-item.is c.in_err-value.ensures.answer) in
    let due = subst (λ (xs : List IndexRef). Fails c.in_err-value.field-0.0 (behind c.loop-bracket.values.items (paid_from c.loop-bracket.budget (indexes_walk means c.args.exact (brackets_in c.args.program.now (drop c.loop-bracket.bracket-index xs)))))) same stops in
    rw (p.1, p.2) (subst (λ r. Fails c.in_err-value.field-0.0 r) (sym c.loop-bracket.invariant.due) due)

pub loop-bracket-preserved : goal.loop-bracket-preserved
loop-bracket-preserved g c =
    let means = meaning_in c.args.program.now (g.S.Constants.names c.args.scope.now) in
    let all = c.deref-bracket-items.result.now in
    let same = c.deref-bracket-items.ensures.value ∙ c.index.view_is in
    let k = c.loop-bracket.bracket-index in
    let found = c.loop-bracket.values.items in
    let step = found_index c.args.program.now means c.args.exact all found k c.bracket-item.result c.in_ok-value.value c.loop-bracket.budget c.index_at.new.budget (omega arith) (subst (λ (x : IndexRef). paid_from c.loop-bracket.budget (index_walk means c.args.exact (bracket_in c.args.program.now x)) ≡ Ok (c.in_ok-value.value, c.index_at.new.budget)) c.bracket-item.is c.in_ok-value.ensures.answer) in
    let moved = subst (λ (xs : List IndexRef). behind found (paid_from c.loop-bracket.budget (indexes_walk means c.args.exact (brackets_in c.args.program.now (drop k xs)))) ≡ behind (found ++ c.in_ok-value.value ∷ []) (paid_from c.index_at.new.budget (indexes_walk means c.args.exact (brackets_in c.args.program.now (drop (k + 1) xs))))) same step in
    record {
      due = c.loop-bracket.invariant.due ∙ moved ∙ ap (λ xs. behind xs (paid_from c.index_at.new.budget (indexes_walk means c.args.exact (brackets_in c.args.program.now (drop (k + 1) c.args.index.now))))) (sym c.in_ok-push.ensures);
      count = grind (arith, common_steps);
      few = subst (λ xs. All HasFewMembers xs) (sym c.in_ok-push.ensures) (few_more found c.in_ok-value.value c.loop-bracket.invariant.few c.in_ok-value.ensures.few);
    }
