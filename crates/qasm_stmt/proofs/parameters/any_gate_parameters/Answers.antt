use Rattle.std.proofs.Common.{[], List, Vec, Global, true, false, drop, refl, sym, ◌∙◌, le_refl, arith}
use Rattle.std.proofs.lemmas.Result.{err_from_is_err_and}
use Rattle.qasm_lexer.specs.declared.token.Mark.TheVariants as m
use Rattle.qasm_ast.specs.declared.stmt.Declared.{Declared}
use Rattle.qasm_ast.specs.Tree.{Name}
use Rattle.grammar_parts.specs.Kinds.{take_any_list}
use Rattle.qasm_expr.specs.TokenKinds.{mark_kind, kind}
use Rattle.qasm_expr.specs.Grammar.{comma}
use Rattle.qasm_expr.specs.Reader.{read_sign, read_opener, read_between}
use Rattle.qasm_expr.proofs.Places.{heads_sign}
use Rattle.qasm_expr.proofs.Exits.{exit, exit_mark}
use Rattle.qasm_grammar.specs.Reader.{read_name, name_kinds, read_any_gate_parameters}
use Rattle.qasm_stmt.specs.Seen.{IsList, IsName}
use Rattle.qasm_stmt.proofs.Growing.{grown_same}
use Rattle.qasm_stmt.proofs.Filling.{no_items}
use Rattle.qasm_stmt.proofs.parameters.any_gate_parameters.Goals as goal

pub returns-then-not-sees-clause-gives : goal.returns-then-not-sees-clause-gives
unfolding read_any_gate_parameters
returns-then-not-sees-clause-gives c =
    let paren = heads_sign c.args.text.now (mark_kind m.LeftParen) (drop c.args.from c.args.tokens.now) false (omega arith) (sym c.sees.ensures.value ∙ c.if-not-sees.true) in
    ([], no_items (IsName c.args.arena.now) c.new.result.items c.new.ensures.items, le_refl _, c.requires.within, rw (paren) refl)

pub returns-then-not-sees-clause-grown : goal.returns-then-not-sees-clause-grown
returns-then-not-sees-clause-grown c = grown_same _

pub returns-in_err-inside-clause-gives : goal.returns-in_err-inside-clause-gives
unfolding read_any_gate_parameters read_between
returns-in_err-inside-clause-gives c =
    let paren = heads_sign c.args.text.now (mark_kind m.LeftParen) (drop c.args.from c.args.tokens.now) true (omega arith) (sym c.sees.ensures.value ∙ c.if-not-sees.false) in
    let p = err_from_is_err_and c.from_residual.result c.from_residual.ensures.1 in
    rw (p.1, p.2) (exit_mark (λ (v : Vec Declared Global) (xs : List Name). IsList (IsName c.args.arena.now) v.items xs) c.args.tokens.now c.args.from c.args.from (read_opener c.args.text.now c.args.room (mark_kind m.LeftParen) (drop c.args.from c.args.tokens.now)) _ c.in_err-inside.field-0.0 (λ x h. rw (paren, h) refl) (le_refl _) c.requires.within c.in_err-inside.ensures.passes)

pub returns-in_err-found-clause-gives : goal.returns-in_err-found-clause-gives
unfolding read_any_gate_parameters read_between
returns-in_err-found-clause-gives c =
    let paren = heads_sign c.args.text.now (mark_kind m.LeftParen) (drop c.args.from c.args.tokens.now) true (omega arith) (sym c.sees.ensures.value ∙ c.if-not-sees.false) in
    let o = c.in_ok-inside.ensures.passes in
    let p = err_from_is_err_and c.from_residual-in_err-found.result c.from_residual-in_err-found.ensures.1 in
    rw (p.1, p.2) (exit (λ (v : Vec Declared Global) (xs : List Name). IsList (IsName c.names.new.arena) v.items xs) (λ (v : Vec Declared Global) (xs : List Name). IsList (IsName c.names.new.arena) v.items xs) c.args.tokens.now c.args.from c.in_ok-inside.inside (take_any_list (kind c.args.text.now) comma name_kinds (read_name c.args.text.now) (drop c.in_ok-inside.inside c.args.tokens.now)) _ c.in_err-found.field-0.0 (λ x h. rw (paren, o.4, h) refl) (omega (arith, o.1)) c.in_err-found.ensures.gives)

pub returns-in_err-at-clause-gives : goal.returns-in_err-at-clause-gives
unfolding read_any_gate_parameters read_between
returns-in_err-at-clause-gives c =
    let paren = heads_sign c.args.text.now (mark_kind m.LeftParen) (drop c.args.from c.args.tokens.now) true (omega arith) (sym c.sees.ensures.value ∙ c.if-not-sees.false) in
    let o = c.in_ok-inside.ensures.passes in
    let r = c.in_ok-found.ensures.gives in
    let p = err_from_is_err_and c.from_residual-in_err-at.result c.from_residual-in_err-at.ensures.1 in
    rw (p.1, p.2) (exit_mark (λ (v : Vec Declared Global) (xs : List Name). IsList (IsName c.names.new.arena) v.items xs) c.args.tokens.now c.args.from c.in_ok-found.at (read_sign c.args.text.now (mark_kind m.RightParen) (drop c.in_ok-found.at c.args.tokens.now)) _ c.in_err-at.field-0.0 (λ x h. rw (paren, o.4, r.4, h) refl) (omega (arith, o.1, r.2)) r.3 c.in_err-at.ensures)

pub returns-clause-gives : goal.returns-clause-gives
unfolding read_any_gate_parameters read_between
returns-clause-gives c =
    let paren = heads_sign c.args.text.now (mark_kind m.LeftParen) (drop c.args.from c.args.tokens.now) true (omega arith) (sym c.sees.ensures.value ∙ c.if-not-sees.false) in
    let o = c.in_ok-inside.ensures.passes in
    let r = c.in_ok-found.ensures.gives in
    let s = c.in_ok-at.ensures in
    (r.0, r.1, omega (arith, o.1, r.2, s.1), s.2, rw (paren, o.4, r.4, s.4) refl)
