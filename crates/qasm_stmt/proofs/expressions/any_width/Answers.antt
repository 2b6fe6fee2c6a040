use Rattle.std.proofs.Common.{true, Some, drop, refl, sym, ◌∙◌, arith}
use Rattle.qasm_lexer.specs.declared.token.Mark.TheVariants as m
use Rattle.qasm_expr.specs.TokenKinds.{mark_kind}
use Rattle.qasm_expr.proofs.Places.{heads_sign}
use Rattle.qasm_stmt.proofs.Growing.{grown_same, sound_by}
use Rattle.qasm_stmt.proofs.Showing.{inner_is, tree_from}
use Rattle.qasm_stmt.proofs.expressions.any_width.Goals as goal

pub returns-then-not-sees-clause-grown : goal.returns-then-not-sees-clause-grown
returns-then-not-sees-clause-grown c = grown_same _

pub returns-clause-gives : goal.returns-clause-gives
returns-clause-gives c =
    let square = heads_sign c.args.text.now (mark_kind m.LeftBracket) (drop c.args.from c.args.tokens.now) true (omega arith) (sym c.sees.ensures.value ∙ c.if-not-sees.false) in
    let r = c.in_ok-found.ensures.gives in
    (Some r.0, tree_from (record { names = c.between.new.names; exprs = c.between.new.nodes; stmts = c.args.arena.now.stmts }) c.in_ok-found.found r.0 r.1, r.2, r.3, rw (square, sym (inner_is c.args.text.now c.args.room), r.4) refl)

pub returns-clause-sound : goal.returns-clause-sound
returns-clause-sound c = sound_by _ _ c.requires.sound c.between.ensures.grows refl
