use Rattle.std.proofs.Common.{◌≡◌, ◌+◌, List, [], ◌∷◌, ◌++◌, All, length, drop, Ok, refl, ap, sym, subst, ◌∙◌, arith}
use Rattle.std.proofs.lemmas.Result.{err_from_is_err_and}
use Rattle.qasm_ast.specs.declared.expr.ExprId.{ExprId}
use Rattle.qasm_ast.specs.View.{trees_in}
use Rattle.const_eval.specs.Answers.{Fails}
use Rattle.gate_lists.specs.Paid.{paid_from}
use Rattle.gate_arguments.specs.declared.scope.Argument.{Argument}
use Rattle.gate_arguments.specs.Arguments.{arguments_walk}
use Rattle.gate_arguments.specs.Seen.{ArgumentFits, arguments_seen, scope_seen}
use Rattle.gate_arguments.proofs.ArgumentLists.{all_arguments, argument_stops, fit_more, found_argument}
use Rattle.gate_arguments.proofs.ByKind.{turns_more}
use Rattle.gate_arguments.proofs.Turning.{grows_none, grows_then, keeps_none, keeps_then, worths_before}
use Rattle.gate_arguments.proofs.Walking.{behind, behind_nothing}
use Rattle.gate_arguments.proofs.argument.arguments_at.Goals as goal

pub loop-id-init : goal.loop-id-init
loop-id-init g c = record {
  due = λ given worths are. rw c.new-arguments.ensures.items (behind_nothing _);
  kept = keeps_none _;
  args = refl;
  grown = grows_none _;
  fit = rw c.new-arguments.ensures.items (λ k d lt. absurd (omega arith));
}

pub argument_at-requires-clause-turns : goal.argument_at-requires-clause-turns
argument_at-requires-clause-turns g c = turns_more _ _ c.args.scope.now.body c.loop-id.invariant.kept.more c.requires.turns

pub returns-in_err-argument-clause-answer : goal.returns-in_err-argument-clause-answer
returns-in_err-argument-clause-answer g c = λ given worths are.
    let p = err_from_is_err_and c.from_residual.result c.from_residual.ensures.1 in
    let why = c.in_err-argument.field-0.0 in
    let program = c.args.program.now in
    let sc = scope_seen program worths (g.E.Constants.names c.args.scope.now.env.now) (g.E.GateEnv.callables c.args.scope.now.env.now) (g.E.GateEnv.operands c.args.scope.now.env.now) (g.E.GateEnv.inside c.args.scope.now.env.now) c.args.scope.now.body in
    let all = c.deref-id-items.result.now in
    let same = c.deref-id-items.ensures.value ∙ c.ids.view_is in
    let found = arguments_seen worths c.loop-id.arguments.items in
    let k = c.loop-id.id-index in
    let before = worths_before given worths c.loop-id.work.turns.items.items c.argument_at.new.work.turns.items.items c.in_err-argument.ensures.kept.kept are in
    let stops = argument_stops program sc all found k _ c.loop-id.work.budget why (omega arith) (c.in_err-argument.ensures.answer given worths are) in
    let due = subst (λ (xs : List ExprId). Fails why (behind found (paid_from c.loop-id.work.budget (arguments_walk sc (trees_in program (drop k xs)))))) same stops in
    rw (p.1, p.2) (subst (λ r. Fails why r) (sym (c.loop-id.invariant.due given worths before)) due)

pub returns-in_err-argument-clause-kept : goal.returns-in_err-argument-clause-kept
returns-in_err-argument-clause-kept g c = keeps_then _ _ _ c.loop-id.invariant.kept c.in_err-argument.ensures.kept

pub returns-in_err-push-clause-kept : goal.returns-in_err-push-clause-kept
returns-in_err-push-clause-kept g c = keeps_then _ _ _ c.loop-id.invariant.kept c.in_ok-argument.ensures.kept

pub loop-id-preserved : goal.loop-id-preserved
loop-id-preserved g c =
    let program = c.args.program.now in
    let all = c.deref-id-items.result.now in
    let same = c.deref-id-items.ensures.value ∙ c.ids.view_is in
    let k = c.loop-id.id-index in
    let new = c.argument_at.new.work in
    record {
      due = λ given worths are.
          let sc = scope_seen program worths (g.E.Constants.names c.args.scope.now.env.now) (g.E.GateEnv.callables c.args.scope.now.env.now) (g.E.GateEnv.operands c.args.scope.now.env.now) (g.E.GateEnv.inside c.args.scope.now.env.now) c.args.scope.now.body in
          let before = worths_before given worths c.loop-id.work.turns.items.items new.turns.items.items c.in_ok-argument.ensures.kept.kept are in
          let step = found_argument program sc worths all c.loop-id.arguments.items k _ c.in_ok-argument.argument c.loop-id.work.budget new.budget (omega arith) (c.in_ok-argument.ensures.answer given worths are) in
          let moved = subst (λ (xs : List ExprId). behind (arguments_seen worths c.loop-id.arguments.items) (paid_from c.loop-id.work.budget (arguments_walk sc (trees_in program (drop k xs)))) ≡ behind (arguments_seen worths (c.loop-id.arguments.items ++ c.in_ok-argument.argument ∷ [])) (paid_from new.budget (arguments_walk sc (trees_in program (drop (k + 1) xs))))) same step in
          c.loop-id.invariant.due given worths before ∙ moved ∙ ap (λ (xs : List Argument). behind (arguments_seen worths xs) (paid_from new.budget (arguments_walk sc (trees_in program (drop (k + 1) c.args.ids.now))))) (sym c.in_ok-push.ensures);
      kept = keeps_then _ _ _ c.loop-id.invariant.kept c.in_ok-argument.ensures.kept;
      grown = grows_then _ _ _ c.loop-id.invariant.grown c.in_ok-argument.ensures.grown;
      args = c.in_ok-argument.ensures.args ∙ c.loop-id.invariant.args;
      fit = subst (λ (xs : List Argument). All (ArgumentFits (length new.turns.items.items)) xs) (sym c.in_ok-push.ensures) (fit_more (length c.loop-id.work.turns.items.items) (length new.turns.items.items) c.loop-id.arguments.items c.in_ok-argument.argument c.in_ok-argument.ensures.kept.more c.loop-id.invariant.fit c.in_ok-argument.ensures.fits);
    }

pub returns-clause-answer : goal.returns-clause-answer
returns-clause-answer g c = λ given worths are.
    let program = c.args.program.now in
    let sc = scope_seen program worths (g.E.Constants.names c.args.scope.now.env.now) (g.E.GateEnv.callables c.args.scope.now.env.now) (g.E.GateEnv.operands c.args.scope.now.env.now) (g.E.GateEnv.inside c.args.scope.now.env.now) c.args.scope.now.body in
    let all = c.deref-id-items.result.now in
    let same = c.deref-id-items.ensures.value ∙ c.ids.view_is in
    let found = arguments_seen worths c.loop-id.arguments.items in
    let k = c.loop-id.id-index in
    let ends = all_arguments program sc all found k c.loop-id.work.budget (omega arith) in
    let due = subst (λ (xs : List ExprId). behind found (paid_from c.loop-id.work.budget (arguments_walk sc (trees_in program (drop k xs)))) ≡ Ok (found, c.loop-id.work.budget)) same ends in
    c.loop-id.invariant.due given worths are ∙ due
