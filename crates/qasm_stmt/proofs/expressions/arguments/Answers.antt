use Rattle.std.proofs.Common.{◌-◌, List, Vec, Global, false, Some, length, drop, refl, le_refl, arith}
use Rattle.std.proofs.lemmas.Result.{err_from_is_err_and}
use Rattle.qasm_lexer.specs.declared.token.Mark.TheVariants as m
use Rattle.qasm_ast.specs.declared.expr.ExprId.{ExprId}
use Rattle.qasm_ast.specs.Tree.{Tree, trees}
use Rattle.qasm_expr.specs.TokenKinds.{mark_kind}
use Rattle.qasm_expr.specs.Reader.{read_expr, read_sign, read_opener, read_between, read_list}
use Rattle.qasm_expr.specs.Seen.{SeesAll}
use Rattle.qasm_expr.proofs.Exits.{exit, exit_mark}
use Rattle.qasm_stmt.specs.declared.arena.Arena.{Arena}
use Rattle.qasm_stmt.specs.Seen.{IsList, IsTree}
use Rattle.qasm_stmt.proofs.Growing.{sound_by}
use Rattle.qasm_stmt.proofs.Showing.{inner_at}
use Rattle.qasm_stmt.proofs.Handed.{list_from}
use Rattle.qasm_stmt.proofs.expressions.arguments.Goals as goal

pub returns-in_err-inside-clause-gives : goal.returns-in_err-inside-clause-gives
unfolding read_between
returns-in_err-inside-clause-gives c =
    let p = err_from_is_err_and c.from_residual.result c.from_residual.ensures.1 in
    rw (p.1, p.2) (exit_mark (λ (v : Vec ExprId Global) (ts : List Tree). IsList (IsTree c.args.arena.now) v.items ts) c.args.tokens.now c.args.from c.args.from (read_opener c.args.text.now c.args.room (mark_kind m.LeftParen) (drop c.args.from c.args.tokens.now)) _ c.in_err-inside.field-0.0 (λ x h. rw (h) refl) (le_refl _) c.requires.within c.in_err-inside.ensures.passes)

pub returns-in_err-found-clause-gives : goal.returns-in_err-found-clause-gives
unfolding read_between
returns-in_err-found-clause-gives c =
    let a : Arena = (record { names = c.list.new.names; exprs = c.list.new.nodes; stmts = c.args.arena.now.stmts }) in
    let o = c.in_ok-inside.ensures.passes in
    let deeper = inner_at c.args.text.now c.args.room c.in_ok-inside.ensures.has_room in
    let p = err_from_is_err_and c.from_residual-in_err-found.result c.from_residual-in_err-found.ensures.1 in
    rw (p.1, p.2) (exit (λ (v : Vec ExprId Global) (ts : List Tree). SeesAll c.list.new.names.keys c.list.new.nodes.items (length c.list.new.nodes.items) v.items (trees ts)) (λ (v : Vec ExprId Global) (ts : List Tree). IsList (IsTree a) v.items ts) c.args.tokens.now c.args.from c.in_ok-inside.inside (read_list c.args.text.now false (read_expr c.args.text.now (Some 64) (c.args.room - 1)) (drop c.in_ok-inside.inside c.args.tokens.now)) _ c.in_err-found.field-0.0 (λ x h. rw (o.4, deeper, h) refl) (omega (arith, o.1)) c.in_err-found.ensures.gives)

pub returns-in_err-at-clause-gives : goal.returns-in_err-at-clause-gives
unfolding read_between
returns-in_err-at-clause-gives c =
    let a : Arena = (record { names = c.list.new.names; exprs = c.list.new.nodes; stmts = c.args.arena.now.stmts }) in
    let o = c.in_ok-inside.ensures.passes in
    let deeper = inner_at c.args.text.now c.args.room c.in_ok-inside.ensures.has_room in
    let r = c.in_ok-found.ensures.gives in
    let p = err_from_is_err_and c.from_residual-in_err-at.result c.from_residual-in_err-at.ensures.1 in
    rw (p.1, p.2) (exit_mark (λ (v : Vec ExprId Global) (ts : List Tree). IsList (IsTree a) v.items ts) c.args.tokens.now c.args.from c.in_ok-found.at (read_sign c.args.text.now (mark_kind m.RightParen) (drop c.in_ok-found.at c.args.tokens.now)) _ c.in_err-at.field-0.0 (λ x h. rw (o.4, deeper, r.4, h) refl) (omega (arith, o.1, r.2)) r.3 c.in_err-at.ensures)

pub returns-clause-gives : goal.returns-clause-gives
unfolding read_between
returns-clause-gives c =
    let a : Arena = (record { names = c.list.new.names; exprs = c.list.new.nodes; stmts = c.args.arena.now.stmts }) in
    let o = c.in_ok-inside.ensures.passes in
    let deeper = inner_at c.args.text.now c.args.room c.in_ok-inside.ensures.has_room in
    let r = c.in_ok-found.ensures.gives in
    let k = c.in_ok-at.ensures in
    (r.0, list_from a r.0 c.in_ok-found.found.items c.in_ok-found.ensures.fits r.1, omega (arith, o.1, r.2, k.1), k.2, rw (o.4, deeper, r.4, k.4) refl)

pub returns-clause-sound : goal.returns-clause-sound
returns-clause-sound c = sound_by _ _ c.requires.sound c.list.ensures.grows refl
