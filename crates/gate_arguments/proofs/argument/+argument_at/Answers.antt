use Rattle.std.proofs.Common.{◌≡◌, ℕ, true, false, not, length, ℤ, pos, inl, inr, refl, ap, sym, subst, ◌∙◌, rules}
use Rattle.std.proofs.lemmas.Result.{err_from_is_err_and}
use Rattle.qasm_ast.specs.declared.expr.BinaryOp.{BinaryOp}
use Rattle.qasm_ast.specs.declared.expr.ExprKind.{ExprKind}
use Rattle.qasm_ast.specs.Tree.{Tree, named, node_of}
use Rattle.qasm_ast.specs.View.{brackets_in, called_in, maybe_in, tree_in}
use Rattle.const_eval.specs.Constant.{Constant}
use Rattle.const_eval.specs.ConstantWalk.{constant_walk}
use Rattle.const_eval.specs.IsConstant.{is_constant}
use Rattle.const_eval.specs.Meaning.{meaning_in}
use Rattle.const_eval.specs.Walk.{Walk}
use Rattle.gate_lists.specs.Paid.{AnswersWithin}
use Rattle.gate_arguments.specs.Arguments.{argument_walk, operand_of}
use Rattle.gate_arguments.specs.Rows.{made_seen}
use Rattle.gate_arguments.specs.Scope.{turn_of}
use Rattle.gate_arguments.specs.Seen.{argument_seen, scope_names, scope_seen}
use Rattle.gate_arguments.proofs.Arguing.{constant_branch}
use Rattle.gate_arguments.proofs.ByKind.{any_operand, argument_more, grown_paid, in_some_body, no_turn, no_turn_where, of_binary_done, of_binary_refused, of_inner_stops, of_left_stops, of_right_stops, of_turn_uncast, of_type_stops, of_unary_done, of_unary_refused, of_unary_stops, one_is_turn, turns_more, walked_alike}
use Rattle.gate_arguments.proofs.Turning.{args_then, grown_then, grows_then, keeps_none, keeps_then, on_any, worths_before}
use Rattle.gate_arguments.proofs.argument.+argument_at.Goals as goal

pub argument_at-returns-then-is_constant-clause-answer : goal.argument_at-returns-then-is_constant-clause-answer
argument_at-returns-then-is_constant-clause-answer g t c =
    let const : is_constant (meaning_in c.args.program.now (scope_names (g.E.Constants.names c.args.scope.now.env.now) (g.E.GateEnv.inside c.args.scope.now.env.now) c.args.scope.now.body)) (tree_in c.args.program.now c.args.id.0) ≡ true = sym c.is_constant.ensures ∙ c.if-is_constant.true in
    λ given worths are.
    let sc = (scope_seen c.args.program.now worths (g.E.Constants.names c.args.scope.now.env.now) (g.E.GateEnv.callables c.args.scope.now.env.now) (g.E.GateEnv.operands c.args.scope.now.env.now) (g.E.GateEnv.inside c.args.scope.now.env.now) c.args.scope.now.body) in
    subst (λ (w : Walk Constant). AnswersWithin c.args.work.now.budget c.constant_argument.new.budget (argument_seen worths) c.constant_argument.result w) (sym (constant_branch sc (tree_in c.args.program.now c.args.id.0) const)) (c.constant_argument.ensures.answer worths)

pub argument_at-returns-then-is_constant-clause-kept : goal.argument_at-returns-then-is_constant-clause-kept
argument_at-returns-then-is_constant-clause-kept g t c =
    keeps_none _

pub argument_at-returns-then-is_constant-clause-args : goal.argument_at-returns-then-is_constant-clause-args
argument_at-returns-then-is_constant-clause-args g t c =
    on_any c.constant_argument.result refl

pub argument_at-returns-then-is_constant-clause-grown : goal.argument_at-returns-then-is_constant-clause-grown
argument_at-returns-then-is_constant-clause-grown g t c =
    grown_paid c.args.work.now c.constant_argument.new.budget (constant_walk (meaning_in c.args.program.now (scope_names (g.E.Constants.names c.args.scope.now.env.now) (g.E.GateEnv.inside c.args.scope.now.env.now) c.args.scope.now.body)) true (tree_in c.args.program.now c.args.id.0)) (argument_seen (λ _. pos 0)) c.constant_argument.result (c.constant_argument.ensures.answer (λ _. pos 0))

pub argument_at-returns-then-is_constant-clause-fits : goal.argument_at-returns-then-is_constant-clause-fits
argument_at-returns-then-is_constant-clause-fits g t c =
    c.constant_argument.ensures.fits _

pub argument_at-returns-then-is_constant-clause-constancy : goal.argument_at-returns-then-is_constant-clause-constancy
argument_at-returns-then-is_constant-clause-constancy g t c =
    let const : is_constant (meaning_in c.args.program.now (scope_names (g.E.Constants.names c.args.scope.now.env.now) (g.E.GateEnv.inside c.args.scope.now.env.now) c.args.scope.now.body)) (tree_in c.args.program.now c.args.id.0) ≡ true = sym c.is_constant.ensures ∙ c.if-is_constant.true in
    no_turn c.constant_argument.result (is_constant (meaning_in c.args.program.now (scope_names (g.E.Constants.names c.args.scope.now.env.now) (g.E.GateEnv.inside c.args.scope.now.env.now) c.args.scope.now.body)) (tree_in c.args.program.now c.args.id.0)) const c.constant_argument.ensures.constant

pub argument_at-returns-in_err-turn_at-clause-answer : goal.argument_at-returns-in_err-turn_at-clause-answer
argument_at-returns-in_err-turn_at-clause-answer g t c =
    let p = err_from_is_err_and c.from_residual.result c.from_residual.ensures.1 in
    λ given worths are.
    rw (p.1, p.2) (c.in_err-turn_at.ensures.answer given worths are)

pub argument_at-returns-in_err-turn_at-clause-kept : goal.argument_at-returns-in_err-turn_at-clause-kept
argument_at-returns-in_err-turn_at-clause-kept g t c =
    c.in_err-turn_at.ensures.kept

pub argument_at-returns-clause-answer : goal.argument_at-returns-clause-answer
argument_at-returns-clause-answer g t c =
    λ given worths are. c.in_ok-turn_at.ensures.answer given worths are

pub argument_at-returns-clause-constancy : goal.argument_at-returns-clause-constancy
argument_at-returns-clause-constancy g t c =
    let running : is_constant (meaning_in c.args.program.now (scope_names (g.E.Constants.names c.args.scope.now.env.now) (g.E.GateEnv.inside c.args.scope.now.env.now) c.args.scope.now.body)) (tree_in c.args.program.now c.args.id.0) ≡ false = sym c.is_constant.ensures ∙ c.if-is_constant.false in
    ap not (sym running)

pub operand_at-returns-in-Power-clause-answer : goal.operand_at-returns-in-Power-clause-answer
operand_at-returns-in-Power-clause-answer g t c =
    λ given worths are.
    let sc = (scope_seen c.args.program.now worths (g.E.Constants.names c.args.scope.now.env.now) (g.E.GateEnv.callables c.args.scope.now.env.now) (g.E.GateEnv.operands c.args.scope.now.env.now) (g.E.GateEnv.inside c.args.scope.now.env.now) c.args.scope.now.body) in
    subst (λ (o : BinaryOp). AnswersWithin c.args.work.now.budget c.constant_argument.new.budget (argument_seen worths) c.constant_argument.result (operand_of o (constant_walk sc.means true (tree_in c.args.program.now c.args.id.0)) (argument_walk sc (tree_in c.args.program.now c.args.id.0)))) (sym c.in-Power.is) (c.constant_argument.ensures.answer worths)

pub operand_at-returns-in-Power-clause-kept : goal.operand_at-returns-in-Power-clause-kept
operand_at-returns-in-Power-clause-kept g t c =
    keeps_none _

pub operand_at-returns-in-Power-clause-args : goal.operand_at-returns-in-Power-clause-args
operand_at-returns-in-Power-clause-args g t c =
    on_any c.constant_argument.result refl

pub operand_at-returns-in-Power-clause-grown : goal.operand_at-returns-in-Power-clause-grown
operand_at-returns-in-Power-clause-grown g t c =
    grown_paid c.args.work.now c.constant_argument.new.budget (constant_walk (meaning_in c.args.program.now (scope_names (g.E.Constants.names c.args.scope.now.env.now) (g.E.GateEnv.inside c.args.scope.now.env.now) c.args.scope.now.body)) true (tree_in c.args.program.now c.args.id.0)) (argument_seen (λ _. pos 0)) c.constant_argument.result (c.constant_argument.ensures.answer (λ _. pos 0))

pub operand_at-returns-in-Power-clause-fits : goal.operand_at-returns-in-Power-clause-fits
operand_at-returns-in-Power-clause-fits g t c =
    c.constant_argument.ensures.fits _

pub operand_at-returns-in-Power-clause-constancy : goal.operand_at-returns-in-Power-clause-constancy
operand_at-returns-in-Power-clause-constancy g t c =
    no_turn_where c.constant_argument.result (is_constant (meaning_in c.args.program.now (scope_names (g.E.Constants.names c.args.scope.now.env.now) (g.E.GateEnv.inside c.args.scope.now.env.now) c.args.scope.now.body)) (tree_in c.args.program.now c.args.id.0)) c.constant_argument.ensures.constancy c.constant_argument.ensures.constant

pub operand_at-returns-in_default : goal.operand_at-returns-in_default
operand_at-returns-in_default g t c =
    record {
      answer = λ given worths are.
          let sc = (scope_seen c.args.program.now worths (g.E.Constants.names c.args.scope.now.env.now) (g.E.GateEnv.callables c.args.scope.now.env.now) (g.E.GateEnv.operands c.args.scope.now.env.now) (g.E.GateEnv.inside c.args.scope.now.env.now) c.args.scope.now.body) in
          subst (λ (w : Walk Constant). AnswersWithin c.args.work.now.budget c.argument_at.new.work.budget (argument_seen worths) c.argument_at.result w) (sym (any_operand c.args.op (constant_walk sc.means true (tree_in c.args.program.now c.args.id.0)) (argument_walk sc (tree_in c.args.program.now c.args.id.0)) c.in_default.not-Power)) (c.argument_at.ensures.answer given worths are);
      kept = c.argument_at.ensures.kept;
      args = c.argument_at.ensures.args;
      grown = c.argument_at.ensures.grown;
      fits = c.argument_at.ensures.fits;
      constancy = c.argument_at.ensures.constancy;
    }

pub turn_at-named_turn-requires-clause-running : goal.turn_at-named_turn-requires-clause-running
turn_at-named_turn-requires-clause-running g t c =
    let tree = (c.expr-node.ensures.tree ∙ ap (λ (k : ExprKind). node_of c.args.program.now.names (tree_in c.args.program.now) k c.expr-node.result.now.at) c.in-Name.is) in
    ap (is_constant (meaning_in c.args.program.now (scope_names (g.E.Constants.names c.args.scope.now.env.now) (g.E.GateEnv.inside c.args.scope.now.env.now) c.args.scope.now.body))) (sym tree) ∙ c.requires.running

pub turn_at-named_turn-requires-clause-in_body : goal.turn_at-named_turn-requires-clause-in_body
turn_at-named_turn-requires-clause-in_body g t c =
    in_some_body _ _ c.requires.turns

pub turn_at-returns-in-Name-clause-answer : goal.turn_at-returns-in-Name-clause-answer
turn_at-returns-in-Name-clause-answer g t c =
    let tree = (c.expr-node.ensures.tree ∙ ap (λ (k : ExprKind). node_of c.args.program.now.names (tree_in c.args.program.now) k c.expr-node.result.now.at) c.in-Name.is) in
    λ given worths are.
    let sc = (scope_seen c.args.program.now worths (g.E.Constants.names c.args.scope.now.env.now) (g.E.GateEnv.callables c.args.scope.now.env.now) (g.E.GateEnv.operands c.args.scope.now.env.now) (g.E.GateEnv.inside c.args.scope.now.env.now) c.args.scope.now.body) in
    subst (λ (x : Tree). AnswersWithin c.args.work.now.budget c.named_turn.new.budget (λ (turn : ℕ). turn_of (worths turn)) c.named_turn.result (argument_walk sc x)) (sym tree) (c.named_turn.ensures.answer worths)

pub turn_at-returns-in-Name-clause-kept : goal.turn_at-returns-in-Name-clause-kept
turn_at-returns-in-Name-clause-kept g t c =
    keeps_none _

pub turn_at-returns-in-Name-clause-args : goal.turn_at-returns-in-Name-clause-args
turn_at-returns-in-Name-clause-args g t c =
    on_any c.named_turn.result refl

pub turn_at-returns-in-Name-clause-grown : goal.turn_at-returns-in-Name-clause-grown
turn_at-returns-in-Name-clause-grown g t c =
    let worths : ℕ → ℤ = λ _. pos 0 in
    let sc = (scope_seen c.args.program.now worths (g.E.Constants.names c.args.scope.now.env.now) (g.E.GateEnv.callables c.args.scope.now.env.now) (g.E.GateEnv.operands c.args.scope.now.env.now) (g.E.GateEnv.inside c.args.scope.now.env.now) c.args.scope.now.body) in
    grown_paid c.args.work.now c.named_turn.new.budget (argument_walk sc (named (called_in c.args.program.now c.in-Name.operand.name) (brackets_in c.args.program.now c.in-Name.operand.index) c.in-Name.operand.at c.expr-node.result.now.at)) (λ (turn : ℕ). turn_of (worths turn)) c.named_turn.result (c.named_turn.ensures.answer worths)

pub turn_at-returns-in-Name-clause-inside : goal.turn_at-returns-in-Name-clause-inside
turn_at-returns-in-Name-clause-inside g t c =
    c.named_turn.ensures.inside _ c.requires.turns

pub turn_at-turn_at-requires : goal.turn_at-turn_at-requires
turn_at-turn_at-requires g t c = λ κs lives.
    let tree = (c.expr-node.ensures.tree ∙ ap (λ (k : ExprKind). node_of c.args.program.now.names (tree_in c.args.program.now) k c.expr-node.result.now.at) c.in-Unary.is) in
    let running : is_constant (meaning_in c.args.program.now (scope_names (g.E.Constants.names c.args.scope.now.env.now) (g.E.GateEnv.inside c.args.scope.now.env.now) c.args.scope.now.body)) (tree_in c.args.program.now c.in-Unary.operand.0) ≡ false = ap (is_constant (meaning_in c.args.program.now (scope_names (g.E.Constants.names c.args.scope.now.env.now) (g.E.GateEnv.inside c.args.scope.now.env.now) c.args.scope.now.body))) (sym tree) ∙ c.requires.running in
    (search rules, (search rules, (search rules, (c.requires.names, (c.requires.turns, running)))))

pub turn_at-returns-in_err-turn-in-Unary-clause-answer : goal.turn_at-returns-in_err-turn-in-Unary-clause-answer
turn_at-returns-in_err-turn-in-Unary-clause-answer g t c =
    let p = err_from_is_err_and c.from_residual.result c.from_residual.ensures.1 in
    let tree = (c.expr-node.ensures.tree ∙ ap (λ (k : ExprKind). node_of c.args.program.now.names (tree_in c.args.program.now) k c.expr-node.result.now.at) c.in-Unary.is) in
    λ given worths are.
    let sc = (scope_seen c.args.program.now worths (g.E.Constants.names c.args.scope.now.env.now) (g.E.GateEnv.callables c.args.scope.now.env.now) (g.E.GateEnv.operands c.args.scope.now.env.now) (g.E.GateEnv.inside c.args.scope.now.env.now) c.args.scope.now.body) in
    rw (p.1, p.2) (of_unary_stops sc (tree_in c.args.program.now c.args.id.0) c.requires.running c.args.work.now.budget c.in-Unary.op (tree_in c.args.program.now c.in-Unary.operand.0) c.expr-node.result.now.at tree c.in_err-turn-in-Unary.field-0.0 (c.in_err-turn-in-Unary.ensures.answer given worths are))

pub turn_at-returns-in_err-turn-in-Unary-clause-kept : goal.turn_at-returns-in_err-turn-in-Unary-clause-kept
turn_at-returns-in_err-turn-in-Unary-clause-kept g t c =
    c.in_err-turn-in-Unary.ensures.kept

pub turn_at-returns-in_err-made-in-Unary-clause-answer : goal.turn_at-returns-in_err-made-in-Unary-clause-answer
turn_at-returns-in_err-made-in-Unary-clause-answer g t c =
    let p = err_from_is_err_and c.from_residual-in_err-made-in-Unary.result c.from_residual-in_err-made-in-Unary.ensures.1 in
    let tree = (c.expr-node.ensures.tree ∙ ap (λ (k : ExprKind). node_of c.args.program.now.names (tree_in c.args.program.now) k c.expr-node.result.now.at) c.in-Unary.is) in
    λ given worths are.
    let sc = (scope_seen c.args.program.now worths (g.E.Constants.names c.args.scope.now.env.now) (g.E.GateEnv.callables c.args.scope.now.env.now) (g.E.GateEnv.operands c.args.scope.now.env.now) (g.E.GateEnv.inside c.args.scope.now.env.now) c.args.scope.now.body) in
    rw (p.1, p.2) (of_unary_refused sc (tree_in c.args.program.now c.args.id.0) c.requires.running c.args.work.now.budget c.in-Unary.op (tree_in c.args.program.now c.in-Unary.operand.0) c.expr-node.result.now.at tree c.turn_at.new.work.budget (turn_of (worths c.in_ok-turn-in-Unary.turn)) (c.in_ok-turn-in-Unary.ensures.answer given worths are) c.in_err-made-in-Unary.field-0.0 (c.in_err-made-in-Unary.ensures.answer worths))

pub turn_at-returns-in_err-made-in-Unary-clause-kept : goal.turn_at-returns-in_err-made-in-Unary-clause-kept
turn_at-returns-in_err-made-in-Unary-clause-kept g t c =
    c.in_ok-turn-in-Unary.ensures.kept

pub turn_at-made_turn-requires : goal.turn_at-made_turn-requires
turn_at-made_turn-requires g t c =
    c.in_ok-made-in-Unary.ensures.fits (length c.turn_at.new.work.turns.items.items) c.in_ok-turn-in-Unary.ensures.inside

pub turn_at-returns-in_ok-made-in-Unary-clause-answer : goal.turn_at-returns-in_ok-made-in-Unary-clause-answer
turn_at-returns-in_ok-made-in-Unary-clause-answer g t c =
    let tree = (c.expr-node.ensures.tree ∙ ap (λ (k : ExprKind). node_of c.args.program.now.names (tree_in c.args.program.now) k c.expr-node.result.now.at) c.in-Unary.is) in
    λ given worths are.
    let sc = (scope_seen c.args.program.now worths (g.E.Constants.names c.args.scope.now.env.now) (g.E.GateEnv.callables c.args.scope.now.env.now) (g.E.GateEnv.operands c.args.scope.now.env.now) (g.E.GateEnv.inside c.args.scope.now.env.now) c.args.scope.now.body) in
    let before = worths_before given worths c.turn_at.new.work.turns.items.items c.made_turn.new.work.turns.items.items c.made_turn.ensures.kept.kept are in
    of_unary_done sc (tree_in c.args.program.now c.args.id.0) c.requires.running c.args.work.now.budget c.in-Unary.op (tree_in c.args.program.now c.in-Unary.operand.0) c.expr-node.result.now.at tree c.turn_at.new.work.budget (turn_of (worths c.in_ok-turn-in-Unary.turn)) (c.in_ok-turn-in-Unary.ensures.answer given worths before) (turn_of (made_seen worths c.in_ok-made-in-Unary.made)) (λ (turn : ℕ). (turn_of (worths turn), c.made_turn.new.work.budget)) c.made_turn.result (c.in_ok-made-in-Unary.ensures.answer worths) (c.made_turn.ensures.answer given worths are)

pub turn_at-returns-in_ok-made-in-Unary-clause-kept : goal.turn_at-returns-in_ok-made-in-Unary-clause-kept
turn_at-returns-in_ok-made-in-Unary-clause-kept g t c =
    keeps_then _ _ _ c.in_ok-turn-in-Unary.ensures.kept c.made_turn.ensures.kept

pub turn_at-returns-in_ok-made-in-Unary-clause-args : goal.turn_at-returns-in_ok-made-in-Unary-clause-args
turn_at-returns-in_ok-made-in-Unary-clause-args g t c =
    args_then c.made_turn.result _ _ _ c.in_ok-turn-in-Unary.ensures.args c.made_turn.ensures.args

pub turn_at-returns-in_ok-made-in-Unary-clause-grown : goal.turn_at-returns-in_ok-made-in-Unary-clause-grown
turn_at-returns-in_ok-made-in-Unary-clause-grown g t c =
    grown_then c.made_turn.result c.args.work.now c.turn_at.new.work c.made_turn.new.work c.in_ok-turn-in-Unary.ensures.grown c.made_turn.ensures.grown

pub turn_at-returns-in_err-a-in-Binary-clause-answer : goal.turn_at-returns-in_err-a-in-Binary-clause-answer
turn_at-returns-in_err-a-in-Binary-clause-answer g t c =
    let p = err_from_is_err_and c.from_residual-in_err-a-in-Binary.result c.from_residual-in_err-a-in-Binary.ensures.1 in
    let tree = (c.expr-node.ensures.tree ∙ ap (λ (k : ExprKind). node_of c.args.program.now.names (tree_in c.args.program.now) k c.expr-node.result.now.at) c.in-Binary.is) in
    λ given worths are.
    let sc = (scope_seen c.args.program.now worths (g.E.Constants.names c.args.scope.now.env.now) (g.E.GateEnv.callables c.args.scope.now.env.now) (g.E.GateEnv.operands c.args.scope.now.env.now) (g.E.GateEnv.inside c.args.scope.now.env.now) c.args.scope.now.body) in
    rw (p.1, p.2) (of_left_stops sc (tree_in c.args.program.now c.args.id.0) c.requires.running c.args.work.now.budget c.in-Binary.op (tree_in c.args.program.now c.in-Binary.left.0) (tree_in c.args.program.now c.in-Binary.right.0) c.expr-node.result.now.at tree c.in_err-a-in-Binary.field-0.0 (c.in_err-a-in-Binary.ensures.answer given worths are))

pub turn_at-returns-in_err-a-in-Binary-clause-kept : goal.turn_at-returns-in_err-a-in-Binary-clause-kept
turn_at-returns-in_err-a-in-Binary-clause-kept g t c =
    c.in_err-a-in-Binary.ensures.kept

pub turn_at-operand_at-requires-in-Binary : goal.turn_at-operand_at-requires-in-Binary
turn_at-operand_at-requires-in-Binary g t c = λ κs lives.
    (search rules, (search rules, (search rules, (c.requires.names, turns_more _ _ c.args.scope.now.body c.in_ok-a-in-Binary.ensures.kept.more c.requires.turns))))

pub turn_at-returns-in_err-b-in-Binary-clause-answer : goal.turn_at-returns-in_err-b-in-Binary-clause-answer
turn_at-returns-in_err-b-in-Binary-clause-answer g t c =
    let p = err_from_is_err_and c.from_residual-in_err-b-in-Binary.result c.from_residual-in_err-b-in-Binary.ensures.1 in
    let tree = (c.expr-node.ensures.tree ∙ ap (λ (k : ExprKind). node_of c.args.program.now.names (tree_in c.args.program.now) k c.expr-node.result.now.at) c.in-Binary.is) in
    λ given worths are.
    let sc = (scope_seen c.args.program.now worths (g.E.Constants.names c.args.scope.now.env.now) (g.E.GateEnv.callables c.args.scope.now.env.now) (g.E.GateEnv.operands c.args.scope.now.env.now) (g.E.GateEnv.inside c.args.scope.now.env.now) c.args.scope.now.body) in
    let before = worths_before given worths c.operand_at.new.work.turns.items.items c.operand_at-in-Binary.new.work.turns.items.items c.in_err-b-in-Binary.ensures.kept.kept are in
    rw (p.1, p.2) (of_right_stops sc (tree_in c.args.program.now c.args.id.0) c.requires.running c.args.work.now.budget c.in-Binary.op (tree_in c.args.program.now c.in-Binary.left.0) (tree_in c.args.program.now c.in-Binary.right.0) c.expr-node.result.now.at tree c.operand_at.new.work.budget (argument_seen worths c.in_ok-a-in-Binary.a) (c.in_ok-a-in-Binary.ensures.answer given worths before) c.in_err-b-in-Binary.field-0.0 (c.in_err-b-in-Binary.ensures.answer given worths are))

pub turn_at-returns-in_err-b-in-Binary-clause-kept : goal.turn_at-returns-in_err-b-in-Binary-clause-kept
turn_at-returns-in_err-b-in-Binary-clause-kept g t c =
    keeps_then _ _ _ c.in_ok-a-in-Binary.ensures.kept c.in_err-b-in-Binary.ensures.kept

pub turn_at-binary_row-requires : goal.turn_at-binary_row-requires
turn_at-binary_row-requires g t c =
    let tree = (c.expr-node.ensures.tree ∙ ap (λ (k : ExprKind). node_of c.args.program.now.names (tree_in c.args.program.now) k c.expr-node.result.now.at) c.in-Binary.is) in
    one_is_turn c.in_ok-a-in-Binary.a c.in_ok-b-in-Binary.b (is_constant (meaning_in c.args.program.now (scope_names (g.E.Constants.names c.args.scope.now.env.now) (g.E.GateEnv.inside c.args.scope.now.env.now) c.args.scope.now.body)) (tree_in c.args.program.now c.in-Binary.left.0)) (is_constant (meaning_in c.args.program.now (scope_names (g.E.Constants.names c.args.scope.now.env.now) (g.E.GateEnv.inside c.args.scope.now.env.now) c.args.scope.now.body)) (tree_in c.args.program.now c.in-Binary.right.0)) c.in_ok-a-in-Binary.ensures.constancy c.in_ok-b-in-Binary.ensures.constancy (ap (is_constant (meaning_in c.args.program.now (scope_names (g.E.Constants.names c.args.scope.now.env.now) (g.E.GateEnv.inside c.args.scope.now.env.now) c.args.scope.now.body))) (sym tree) ∙ c.requires.running)

pub turn_at-returns-in_err-made-in-Binary-clause-answer : goal.turn_at-returns-in_err-made-in-Binary-clause-answer
turn_at-returns-in_err-made-in-Binary-clause-answer g t c =
    let p = err_from_is_err_and c.from_residual-in_err-made-in-Binary.result c.from_residual-in_err-made-in-Binary.ensures.1 in
    let tree = (c.expr-node.ensures.tree ∙ ap (λ (k : ExprKind). node_of c.args.program.now.names (tree_in c.args.program.now) k c.expr-node.result.now.at) c.in-Binary.is) in
    λ given worths are.
    let sc = (scope_seen c.args.program.now worths (g.E.Constants.names c.args.scope.now.env.now) (g.E.GateEnv.callables c.args.scope.now.env.now) (g.E.GateEnv.operands c.args.scope.now.env.now) (g.E.GateEnv.inside c.args.scope.now.env.now) c.args.scope.now.body) in
    let before = worths_before given worths c.operand_at.new.work.turns.items.items c.operand_at-in-Binary.new.work.turns.items.items c.in_ok-b-in-Binary.ensures.kept.kept are in
    rw (p.1, p.2) (of_binary_refused sc (tree_in c.args.program.now c.args.id.0) c.requires.running c.args.work.now.budget c.in-Binary.op (tree_in c.args.program.now c.in-Binary.left.0) (tree_in c.args.program.now c.in-Binary.right.0) c.expr-node.result.now.at tree c.operand_at.new.work.budget (argument_seen worths c.in_ok-a-in-Binary.a) (c.in_ok-a-in-Binary.ensures.answer given worths before) c.operand_at-in-Binary.new.work.budget (argument_seen worths c.in_ok-b-in-Binary.b) (c.in_ok-b-in-Binary.ensures.answer given worths are) c.expr.result.now.at c.expr-in-Binary.result.now.at c.expr.ensures.place c.expr-in-Binary.ensures.place c.in_err-made-in-Binary.field-0.0 (c.in_err-made-in-Binary.ensures.answer worths))

pub turn_at-returns-in_err-made-in-Binary-clause-kept : goal.turn_at-returns-in_err-made-in-Binary-clause-kept
turn_at-returns-in_err-made-in-Binary-clause-kept g t c =
    keeps_then _ _ _ c.in_ok-a-in-Binary.ensures.kept c.in_ok-b-in-Binary.ensures.kept

pub turn_at-made_turn-requires-in-Binary : goal.turn_at-made_turn-requires-in-Binary
turn_at-made_turn-requires-in-Binary g t c =
    c.in_ok-made-in-Binary.ensures.fits (length c.operand_at-in-Binary.new.work.turns.items.items) (argument_more (length c.operand_at.new.work.turns.items.items) (length c.operand_at-in-Binary.new.work.turns.items.items) c.in_ok-a-in-Binary.a c.in_ok-b-in-Binary.ensures.kept.more c.in_ok-a-in-Binary.ensures.fits) c.in_ok-b-in-Binary.ensures.fits

pub turn_at-returns-in_ok-made-in-Binary-clause-answer : goal.turn_at-returns-in_ok-made-in-Binary-clause-answer
turn_at-returns-in_ok-made-in-Binary-clause-answer g t c =
    let tree = (c.expr-node.ensures.tree ∙ ap (λ (k : ExprKind). node_of c.args.program.now.names (tree_in c.args.program.now) k c.expr-node.result.now.at) c.in-Binary.is) in
    λ given worths are.
    let sc = (scope_seen c.args.program.now worths (g.E.Constants.names c.args.scope.now.env.now) (g.E.GateEnv.callables c.args.scope.now.env.now) (g.E.GateEnv.operands c.args.scope.now.env.now) (g.E.GateEnv.inside c.args.scope.now.env.now) c.args.scope.now.body) in
    let after = worths_before given worths c.operand_at-in-Binary.new.work.turns.items.items c.made_turn-in-Binary.new.work.turns.items.items c.made_turn-in-Binary.ensures.kept.kept are in
    let before = worths_before given worths c.operand_at.new.work.turns.items.items c.operand_at-in-Binary.new.work.turns.items.items c.in_ok-b-in-Binary.ensures.kept.kept after in
    of_binary_done sc (tree_in c.args.program.now c.args.id.0) c.requires.running c.args.work.now.budget c.in-Binary.op (tree_in c.args.program.now c.in-Binary.left.0) (tree_in c.args.program.now c.in-Binary.right.0) c.expr-node.result.now.at tree c.operand_at.new.work.budget (argument_seen worths c.in_ok-a-in-Binary.a) (c.in_ok-a-in-Binary.ensures.answer given worths before) c.operand_at-in-Binary.new.work.budget (argument_seen worths c.in_ok-b-in-Binary.b) (c.in_ok-b-in-Binary.ensures.answer given worths after) c.expr.result.now.at c.expr-in-Binary.result.now.at c.expr.ensures.place c.expr-in-Binary.ensures.place (turn_of (made_seen worths c.in_ok-made-in-Binary.made)) (λ (turn : ℕ). (turn_of (worths turn), c.made_turn-in-Binary.new.work.budget)) c.made_turn-in-Binary.result (c.in_ok-made-in-Binary.ensures.answer worths) (c.made_turn-in-Binary.ensures.answer given worths are)

pub turn_at-returns-in_ok-made-in-Binary-clause-kept : goal.turn_at-returns-in_ok-made-in-Binary-clause-kept
turn_at-returns-in_ok-made-in-Binary-clause-kept g t c =
    keeps_then _ _ _ c.in_ok-a-in-Binary.ensures.kept (keeps_then _ _ _ c.in_ok-b-in-Binary.ensures.kept c.made_turn-in-Binary.ensures.kept)

pub turn_at-returns-in_ok-made-in-Binary-clause-args : goal.turn_at-returns-in_ok-made-in-Binary-clause-args
turn_at-returns-in_ok-made-in-Binary-clause-args g t c =
    args_then c.made_turn-in-Binary.result _ _ _ (c.in_ok-b-in-Binary.ensures.args ∙ c.in_ok-a-in-Binary.ensures.args) c.made_turn-in-Binary.ensures.args

pub turn_at-returns-in_ok-made-in-Binary-clause-grown : goal.turn_at-returns-in_ok-made-in-Binary-clause-grown
turn_at-returns-in_ok-made-in-Binary-clause-grown g t c =
    grown_then c.made_turn-in-Binary.result c.args.work.now c.operand_at-in-Binary.new.work c.made_turn-in-Binary.new.work (grows_then c.args.work.now c.operand_at.new.work c.operand_at-in-Binary.new.work c.in_ok-a-in-Binary.ensures.grown c.in_ok-b-in-Binary.ensures.grown) c.made_turn-in-Binary.ensures.grown

pub turn_at-returns-in_err-width_at-in-Cast-clause-answer : goal.turn_at-returns-in_err-width_at-in-Cast-clause-answer
turn_at-returns-in_err-width_at-in-Cast-clause-answer g t c =
    let p = err_from_is_err_and c.from_residual-in_err-width_at-in-Cast.result c.from_residual-in_err-width_at-in-Cast.ensures.1 in
    let tree = (c.expr-node.ensures.tree ∙ ap (λ (k : ExprKind). node_of c.args.program.now.names (tree_in c.args.program.now) k c.expr-node.result.now.at) c.in-Cast.is) in
    λ given worths are.
    let sc = (scope_seen c.args.program.now worths (g.E.Constants.names c.args.scope.now.env.now) (g.E.GateEnv.callables c.args.scope.now.env.now) (g.E.GateEnv.operands c.args.scope.now.env.now) (g.E.GateEnv.inside c.args.scope.now.env.now) c.args.scope.now.body) in
    rw (p.1, p.2) (of_type_stops sc (tree_in c.args.program.now c.args.id.0) c.requires.running c.args.work.now.budget c.in-Cast.ty.base (maybe_in c.args.program.now c.in-Cast.ty.width) c.in-Cast.ty.at (tree_in c.args.program.now c.in-Cast.operand.0) c.expr-node.result.now.at tree c.in_err-width_at-in-Cast.field-0.0 c.in_err-width_at-in-Cast.ensures)

pub turn_at-returns-in_err-width_at-in-Cast-clause-kept : goal.turn_at-returns-in_err-width_at-in-Cast-clause-kept
turn_at-returns-in_err-width_at-in-Cast-clause-kept g t c =
    keeps_none _

pub turn_at-returns-in_err-_value-in-Cast-clause-answer : goal.turn_at-returns-in_err-_value-in-Cast-clause-answer
turn_at-returns-in_err-_value-in-Cast-clause-answer g t c =
    let p = err_from_is_err_and c.from_residual-in_err-_value-in-Cast.result c.from_residual-in_err-_value-in-Cast.ensures.1 in
    let tree = (c.expr-node.ensures.tree ∙ ap (λ (k : ExprKind). node_of c.args.program.now.names (tree_in c.args.program.now) k c.expr-node.result.now.at) c.in-Cast.is) in
    λ given worths are.
    let sc = (scope_seen c.args.program.now worths (g.E.Constants.names c.args.scope.now.env.now) (g.E.GateEnv.callables c.args.scope.now.env.now) (g.E.GateEnv.operands c.args.scope.now.env.now) (g.E.GateEnv.inside c.args.scope.now.env.now) c.args.scope.now.body) in
    rw (p.1, p.2) (of_inner_stops sc (tree_in c.args.program.now c.args.id.0) c.requires.running c.args.work.now.budget c.in-Cast.ty.base (maybe_in c.args.program.now c.in-Cast.ty.width) c.in-Cast.ty.at (tree_in c.args.program.now c.in-Cast.operand.0) c.expr-node.result.now.at tree c.width_at.new.budget c.in_ok-width_at-in-Cast.ensures c.in_err-_value-in-Cast.field-0.0 (c.in_err-_value-in-Cast.ensures.answer given worths are))

pub turn_at-returns-in_err-_value-in-Cast-clause-kept : goal.turn_at-returns-in_err-_value-in-Cast-clause-kept
turn_at-returns-in_err-_value-in-Cast-clause-kept g t c =
    c.in_err-_value-in-Cast.ensures.kept

pub turn_at-returns-in_ok-_value-in-Cast-clause-answer : goal.turn_at-returns-in_ok-_value-in-Cast-clause-answer
turn_at-returns-in_ok-_value-in-Cast-clause-answer g t c =
    let tree = (c.expr-node.ensures.tree ∙ ap (λ (k : ExprKind). node_of c.args.program.now.names (tree_in c.args.program.now) k c.expr-node.result.now.at) c.in-Cast.is) in
    λ given worths are.
    let sc = (scope_seen c.args.program.now worths (g.E.Constants.names c.args.scope.now.env.now) (g.E.GateEnv.callables c.args.scope.now.env.now) (g.E.GateEnv.operands c.args.scope.now.env.now) (g.E.GateEnv.inside c.args.scope.now.env.now) c.args.scope.now.body) in
    rw c.refused.ensures (of_turn_uncast sc (tree_in c.args.program.now c.args.id.0) c.requires.running c.args.work.now.budget c.in-Cast.ty.base (maybe_in c.args.program.now c.in-Cast.ty.width) c.in-Cast.ty.at (tree_in c.args.program.now c.in-Cast.operand.0) c.expr-node.result.now.at tree c.width_at.new.budget c.in_ok-width_at-in-Cast.ensures worths c.argument_at.new.work.budget c.in_ok-_value-in-Cast._value c.in_ok-_value-in-Cast.ensures.constancy (c.in_ok-_value-in-Cast.ensures.answer given worths are))

pub turn_at-returns-in_ok-_value-in-Cast-clause-kept : goal.turn_at-returns-in_ok-_value-in-Cast-clause-kept
turn_at-returns-in_ok-_value-in-Cast-clause-kept g t c =
    c.in_ok-_value-in-Cast.ensures.kept

pub turn_at-returns-in-Hardware-clause-answer : goal.turn_at-returns-in-Hardware-clause-answer
turn_at-returns-in-Hardware-clause-answer g t c =
    λ given worths are.
    let sc = (scope_seen c.args.program.now worths (g.E.Constants.names c.args.scope.now.env.now) (g.E.GateEnv.callables c.args.scope.now.env.now) (g.E.GateEnv.operands c.args.scope.now.env.now) (g.E.GateEnv.inside c.args.scope.now.env.now) c.args.scope.now.body) in
    elim c.in-Hardware.is [
      | inl h ↦ walked_alike sc c.args.work.now.budget c.no_constant.result (tree_in c.args.program.now c.args.id.0) _ (c.expr-node.ensures.tree ∙ ap (λ (k : ExprKind). node_of c.args.program.now.names (tree_in c.args.program.now) k c.expr-node.result.now.at) h.1) refl c.no_constant.ensures
      | inr r ↦ elim r [
        | inl h ↦ walked_alike sc c.args.work.now.budget c.no_constant.result (tree_in c.args.program.now c.args.id.0) _ (c.expr-node.ensures.tree ∙ ap (λ (k : ExprKind). node_of c.args.program.now.names (tree_in c.args.program.now) k c.expr-node.result.now.at) h.1) refl c.no_constant.ensures
        | inr r ↦ elim r [
          | inl h ↦ walked_alike sc c.args.work.now.budget c.no_constant.result (tree_in c.args.program.now c.args.id.0) _ (c.expr-node.ensures.tree ∙ ap (λ (k : ExprKind). node_of c.args.program.now.names (tree_in c.args.program.now) k c.expr-node.result.now.at) h.1) refl c.no_constant.ensures
          | inr r ↦ elim r [
            | inl h ↦ walked_alike sc c.args.work.now.budget c.no_constant.result (tree_in c.args.program.now c.args.id.0) _ (c.expr-node.ensures.tree ∙ ap (λ (k : ExprKind). node_of c.args.program.now.names (tree_in c.args.program.now) k c.expr-node.result.now.at) h.1) refl c.no_constant.ensures
            | inr h ↦ walked_alike sc c.args.work.now.budget c.no_constant.result (tree_in c.args.program.now c.args.id.0) _ (c.expr-node.ensures.tree ∙ ap (λ (k : ExprKind). node_of c.args.program.now.names (tree_in c.args.program.now) k c.expr-node.result.now.at) h.2) refl c.no_constant.ensures
          ]
        ]
      ]
    ]

pub turn_at-returns-in-Hardware-clause-kept : goal.turn_at-returns-in-Hardware-clause-kept
turn_at-returns-in-Hardware-clause-kept g t c =
    keeps_none _
