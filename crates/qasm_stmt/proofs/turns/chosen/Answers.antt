use Rattle.std.proofs.Common.{true, length, drop, le_refl, refl, ap, arith}
use Rattle.qasm_ast.specs.declared.expr.ExprId.{ExprId}
use Rattle.qasm_ast.specs.Tree.{trees}
use Rattle.qasm_ast.specs.Whole.{IsExpr}
use Rattle.qasm_expr.specs.Reader.{read_list}
use Rattle.qasm_grammar.specs.Parts.{over_set}
use Rattle.qasm_grammar.specs.Reader.{read_chosen}
use Rattle.qasm_stmt.specs.Seen.{tree}
use Rattle.qasm_expr.proofs.Exits.{handed, handed_mark}
use Rattle.qasm_stmt.proofs.Showing.{inner_at, trees_each, fits_each}
use Rattle.qasm_stmt.proofs.turns.chosen.Goals as goal

pub returns-in_err-inside-clause-gives : goal.returns-in_err-inside-clause-gives
unfolding read_chosen
returns-in_err-inside-clause-gives c =
    handed_mark _ _ _ _ c.from_residual.ensures c.in_err-inside.ensures.passes (le_refl _) c.requires.within (λ e h. rw h refl)

pub returns-in_err-found-clause-gives : goal.returns-in_err-found-clause-gives
unfolding read_chosen
returns-in_err-found-clause-gives c =
    let o = c.in_ok-inside.ensures.passes in
    let inner = ap (λ r. read_list c.args.text.now true r (drop c.in_ok-inside.inside c.args.tokens.now)) (inner_at c.args.text.now c.args.room c.in_ok-inside.ensures.has_room) in
    handed _ _ _ _ c.from_residual-in_err-found.ensures c.in_err-found.ensures.gives (omega (arith, o.1)) (λ e h. rw (o.4, inner, h) refl)

pub returns-in_err-at-clause-gives : goal.returns-in_err-at-clause-gives
unfolding read_chosen
returns-in_err-at-clause-gives c =
    let o = c.in_ok-inside.ensures.passes in
    let inner = ap (λ r. read_list c.args.text.now true r (drop c.in_ok-inside.inside c.args.tokens.now)) (inner_at c.args.text.now c.args.room c.in_ok-inside.ensures.has_room) in
    let r = c.in_ok-found.ensures.gives in
    handed_mark _ _ _ _ c.from_residual-in_err-at.ensures c.in_err-at.ensures (omega (arith, o.1, r.2)) r.3 (λ e h. rw (o.4, inner, r.4, h) refl)

pub returns-clause-gives : goal.returns-clause-gives
unfolding read_chosen
returns-clause-gives c =
    let o = c.in_ok-inside.ensures.passes in
    let inner = ap (λ r. read_list c.args.text.now true r (drop c.in_ok-inside.inside c.args.tokens.now)) (inner_at c.args.text.now c.args.room c.in_ok-inside.ensures.has_room) in
    let r = c.in_ok-found.ensures.gives in
    let k = c.in_ok-at.ensures in
    let fit = fits_each (IsExpr (length c.members.new.arena.exprs.items)) (λ (x : ExprId). tree c.members.new.arena x.0) c.in_ok-found.found.items r.0 r.1 in
    (over_set (trees r.0), (fit, trees_each c.members.new.arena c.in_ok-found.found.items r.0 r.1.1), omega (arith, o.1, r.2, k.1), k.2, rw (o.4, inner, r.4, k.4) refl)
