use Rattle.std.proofs.Common.{◌≡◌, Some, drop, refl, sym, ◌∙◌, le_refl, arith}
use Rattle.std.proofs.lemmas.Result.{err_from_is_err_and}
use Rattle.qq_base.specs.declared.refusal.Span.{Span}
use Rattle.qasm_lexer.specs.declared.token.Token.{Token}
use Rattle.qasm_lexer.specs.declared.token.Keyword.TheVariants as k
use Rattle.qasm_ast.specs.declared.expr.Base.TheVariants as b
use Rattle.qasm_ast.specs.Tree.{maybe}
use Rattle.qasm_expr.specs.Grammar.{scalar}
use Rattle.qasm_expr.proofs.Exits.{exit}
use Rattle.qasm_grammar.specs.Reader.{read_keyword, read_name, read_any_width, read_any_type, read_parameter}
use Rattle.qasm_stmt.specs.Seen.{IfBoth, IsTree, IsName, IsType, IsParameter}
use Rattle.qasm_stmt.proofs.Growing.{type_later, tree_later, if_both_on}
use Rattle.qasm_stmt.proofs.Handed.{qubit_from, parameter_from}
use Rattle.qasm_stmt.proofs.parameters.parameter.Goals as goal

pub returns-in_err-ty-clause-gives : goal.returns-in_err-ty-clause-gives
unfolding read_parameter
returns-in_err-ty-clause-gives c =
    let p = err_from_is_err_and c.from_residual.result c.from_residual.ensures.1 in
    rw (p.1, p.2) (exit (IsType c.any_type.new.arena) (IsParameter c.any_type.new.arena) c.args.tokens.now c.args.from c.args.from (read_any_type c.args.text.now (Some 64) c.args.room (drop c.args.from c.args.tokens.now)) _ c.in_err-ty.field-0.0 (λ x h. rw (sym c.begins_type.ensures ∙ c.if-begins_type.true, h) refl) (le_refl _) c.in_err-ty.ensures.gives)

pub returns-in_err-name-clause-gives : goal.returns-in_err-name-clause-gives
unfolding read_parameter
returns-in_err-name-clause-gives c =
    let r = c.in_ok-ty.ensures.gives in
    let p = err_from_is_err_and c.from_residual-in_err-name.result c.from_residual-in_err-name.ensures.1 in
    rw (p.1, p.2) (exit (IsName c.declared.new.arena) (IsParameter c.declared.new.arena) c.args.tokens.now c.args.from c.in_ok-ty.at (read_name c.args.text.now (drop c.in_ok-ty.at c.args.tokens.now)) _ c.in_err-name.field-0.0 (λ x h. rw (sym c.begins_type.ensures ∙ c.if-begins_type.true, r.4, h) refl) r.2 c.in_err-name.ensures.gives)

pub returns-then-begins_type-clause-gives : goal.returns-then-begins_type-clause-gives
unfolding read_parameter
returns-then-begins_type-clause-gives c =
    let r = c.in_ok-ty.ensures.gives in
    let n = c.in_ok-name.ensures.gives in
    let type = type_later c.in_ok-ty.ensures.sound c.in_ok-name.ensures.grown c.in_ok-ty.ty r.0 r.1 in
    (record { type = r.0; name = n.0 }, parameter_from c.declared.new.arena c.in_ok-ty.ty c.in_ok-name.name r.0 n.0 type.0.fits type.1 n.1, omega (arith, r.2, n.2), n.3, rw (sym c.begins_type.ensures ∙ c.if-begins_type.true, r.4, n.4) refl)

pub returns-in_err-place-clause-gives : goal.returns-in_err-place-clause-gives
unfolding read_parameter
returns-in_err-place-clause-gives c =
    let p = err_from_is_err_and c.from_residual-in_err-place.result c.from_residual-in_err-place.ensures.1 in
    rw (p.1, p.2) (exit (λ (place : Span) (x : Token). place ≡ x.at) (IsParameter c.args.arena.now) c.args.tokens.now c.args.from c.args.from (read_keyword c.args.text.now k.Qubit (drop c.args.from c.args.tokens.now)) _ c.in_err-place.field-0.0 (λ x h. rw (sym c.begins_type.ensures ∙ c.if-begins_type.false, h) refl) (le_refl _) c.in_err-place.ensures.gives)

pub returns-in_err-width-clause-gives : goal.returns-in_err-width-clause-gives
unfolding read_parameter
returns-in_err-width-clause-gives c =
    let w = c.in_ok-place.ensures.gives in
    let p = err_from_is_err_and c.from_residual-in_err-width.result c.from_residual-in_err-width.ensures.1 in
    rw (p.1, p.2) (exit (IfBoth (IsTree c.any_width.new.arena)) (IsParameter c.any_width.new.arena) c.args.tokens.now c.args.from c.in_ok-place.at (read_any_width c.args.text.now (Some 64) c.args.room (drop c.in_ok-place.at c.args.tokens.now)) _ c.in_err-width.field-0.0 (λ x h. rw (sym c.begins_type.ensures ∙ c.if-begins_type.false, w.4, h) refl) w.2 c.in_err-width.ensures.gives)

pub returns-in_err-name-2-clause-gives : goal.returns-in_err-name-2-clause-gives
unfolding read_parameter
returns-in_err-name-2-clause-gives c =
    let w = c.in_ok-place.ensures.gives in
    let r = c.in_ok-width.ensures.gives in
    let p = err_from_is_err_and c.from_residual-in_err-name-2.result c.from_residual-in_err-name-2.ensures.1 in
    rw (p.1, p.2) (exit (IsName c.declared-2.new.arena) (IsParameter c.declared-2.new.arena) c.args.tokens.now c.args.from c.in_ok-width.at (read_name c.args.text.now (drop c.in_ok-width.at c.args.tokens.now)) _ c.in_err-name-2.field-0.0 (λ x h. rw (sym c.begins_type.ensures ∙ c.if-begins_type.false, w.4, r.4, h) refl) (omega (arith, w.2, r.2)) c.in_err-name-2.ensures.gives)

pub returns-clause-gives : goal.returns-clause-gives
unfolding read_parameter
returns-clause-gives c =
    let w = c.in_ok-place.ensures.gives in
    let r = c.in_ok-width.ensures.gives in
    let n = c.in_ok-name-2.ensures.gives in
    let a = c.declared-2.new.arena in
    let width = if_both_on (IsTree c.any_width.new.arena) (IsTree a) (tree_later c.in_ok-width.ensures.sound c.in_ok-name-2.ensures.grown) c.in_ok-width.width r.0 r.1 in
    let type = qubit_from a c.in_ok-width.width r.0 c.in_ok-place.place w.0.at width w.1 in
    (record { type = scalar b.Qubit (maybe r.0) w.0.at; name = n.0 }, parameter_from a (record { base = b.Qubit; width = c.in_ok-width.width; at = c.in_ok-place.place }) c.in_ok-name-2.name (scalar b.Qubit (maybe r.0) w.0.at) n.0 type.0 type.1 n.1, omega (arith, w.2, r.2, n.2), n.3, rw (sym c.begins_type.ensures ∙ c.if-begins_type.false, w.4, r.4, n.4) refl)
