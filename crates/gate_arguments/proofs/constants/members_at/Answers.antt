use Rattle.std.proofs.Common.{◌≡◌, ◌+◌, List, [], ◌∷◌, ◌++◌, drop, ℤ, FitsSigned, rules, ap, sym, subst, ◌∙◌, arith}
use Rattle.std.specs.Int.{w128}
use Rattle.std.proofs.lemmas.Int.{to_z-of_z}
use Rattle.std.proofs.lemmas.Grind.{common_steps}
use Rattle.std.proofs.lemmas.Result.{err_from_is_err_and}
use Rattle.qasm_ast.specs.declared.expr.ExprId.{ExprId}
use Rattle.qasm_ast.specs.View.{trees_in}
use Rattle.const_eval.specs.Answers.{Fails}
use Rattle.const_eval.specs.ConstantWalk.{members_walk}
use Rattle.const_eval.specs.Meaning.{meaning_in}
use Rattle.gate_lists.specs.Paid.{paid_from}
use Rattle.gate_arguments.proofs.Members.{found_member, member_stops}
use Rattle.gate_arguments.proofs.Walking.{behind}
use Rattle.gate_arguments.proofs.constants.members_at.Goals as goal

pub returns-in_err-member-clause-answer : goal.returns-in_err-member-clause-answer
returns-in_err-member-clause-answer g c =
    let p = err_from_is_err_and c.from_residual.result c.from_residual.ensures.1 in
    let means = meaning_in c.args.program.now (g.S.Constants.names c.args.scope.now) in
    let all = c.deref-id-items.result.now in
    let same = c.deref-id-items.ensures.value ∙ c.ids.view_is in
    let stops = member_stops c.args.program.now means c.args.exact all c.loop-id.members.items c.loop-id.id-index _ c.loop-id.budget c.in_err-member.field-0.0 (omega arith) c.in_err-member.ensures in
    let due = subst (λ (xs : List ExprId). Fails c.in_err-member.field-0.0 (behind c.loop-id.members.items (paid_from c.loop-id.budget (members_walk means c.args.exact (trees_in c.args.program.now (drop c.loop-id.id-index xs)))))) same stops in
    rw (p.1, p.2) (subst (λ r. Fails c.in_err-member.field-0.0 r) (sym c.loop-id.invariant.due) due)

pub loop-id-preserved : goal.loop-id-preserved
loop-id-preserved g c =
    let means = meaning_in c.args.program.now (g.S.Constants.names c.args.scope.now) in
    let all = c.deref-id-items.result.now in
    let same = c.deref-id-items.ensures.value ∙ c.ids.view_is in
    let k = c.loop-id.id-index in
    let found = c.loop-id.members.items in
    let step = found_member c.args.program.now means c.args.exact all found k _ c.in_ok-member.member c.loop-id.budget c.whole_at.new.budget (omega arith) c.in_ok-member.ensures in
    let moved = subst (λ (xs : List ExprId). behind found (paid_from c.loop-id.budget (members_walk means c.args.exact (trees_in c.args.program.now (drop k xs)))) ≡ behind (found ++ c.in_ok-member.member ∷ []) (paid_from c.whole_at.new.budget (members_walk means c.args.exact (trees_in c.args.program.now (drop (k + 1) xs))))) same step in
    let fits : FitsSigned w128 c.in_ok-member.member = search rules in
    record {
      due = c.loop-id.invariant.due ∙ moved
          ∙ ap (λ (z : ℤ). behind (found ++ z ∷ []) (paid_from c.whole_at.new.budget (members_walk means c.args.exact (trees_in c.args.program.now (drop (k + 1) c.args.ids.now))))) (sym (to_z-of_z w128 c.in_ok-member.member fits))
          ∙ ap (λ xs. behind xs (paid_from c.whole_at.new.budget (members_walk means c.args.exact (trees_in c.args.program.now (drop (k + 1) c.args.ids.now))))) (sym c.in_ok-push.ensures);
      count = grind (arith, common_steps);
    }
