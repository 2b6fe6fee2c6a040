use Rattle.std.proofs.Common.{le_refl, refl, sym, ap, ◌∙◌, arith}
use Rattle.qasm_ast.specs.Tree.{expression, measured}
use Rattle.qasm_grammar.specs.Reader.{read_value}
use Rattle.qasm_expr.proofs.Exits.{handed}
use Rattle.qasm_stmt.proofs.operands.value.Goals as goal

pub returns-in_err-found-clause-gives : goal.returns-in_err-found-clause-gives
unfolding read_value
returns-in_err-found-clause-gives c =
    let some = sym c.begins_expr.ensures ∙ c.if-begins_expr.true in
    handed _ _ _ _ c.from_residual.ensures c.in_err-found.ensures.gives (le_refl _) (λ e h. rw (some, h) refl)

pub returns-then-begins_expr-clause-gives : goal.returns-then-begins_expr-clause-gives
unfolding read_value
returns-then-begins_expr-clause-gives c =
    let some = sym c.begins_expr.ensures ∙ c.if-begins_expr.true in
    let r = c.in_ok-found.ensures.gives in
    (expression r.0, (r.1.0, ap expression r.1.1), r.2, r.3, rw (some, r.4) refl)

pub returns-in_err-at-clause-gives : goal.returns-in_err-at-clause-gives
unfolding read_value
returns-in_err-at-clause-gives c =
    let none = sym c.begins_expr.ensures ∙ c.if-begins_expr.false in
    handed _ _ _ _ c.from_residual-in_err-at.ensures c.in_err-at.ensures.gives (le_refl _) (λ e h. rw (none, h) refl)

pub returns-in_err-measured-clause-gives : goal.returns-in_err-measured-clause-gives
unfolding read_value
returns-in_err-measured-clause-gives c =
    let none = sym c.begins_expr.ensures ∙ c.if-begins_expr.false in
    let w = c.in_ok-at.ensures.gives in
    handed _ _ _ _ c.from_residual-in_err-measured.ensures c.in_err-measured.ensures.gives w.2 (λ e h. rw (none, w.4, h) refl)

pub returns-clause-gives : goal.returns-clause-gives
unfolding read_value
returns-clause-gives c =
    let none = sym c.begins_expr.ensures ∙ c.if-begins_expr.false in
    let w = c.in_ok-at.ensures.gives in
    let r = c.in_ok-measured.ensures.gives in
    (measured r.0, (r.1.0, ap measured r.1.1), omega (arith, w.2, r.2), r.3, rw (none, w.4, r.4) refl)
