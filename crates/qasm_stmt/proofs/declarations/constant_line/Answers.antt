use Rattle.std.proofs.Common.{refl, le_refl, arith}
use Rattle.qasm_ast.specs.Tree.{constant}
use Rattle.qasm_grammar.specs.Reader.{read_constant_line}
use Rattle.qasm_grammar.specs.Grammar.{at_one}
use Rattle.qasm_stmt.proofs.Growing.{grown_on, name_later, type_later}
use Rattle.qasm_expr.proofs.Exits.{handed, handed_mark}
use Rattle.qasm_stmt.proofs.Lines.{line_shows}
use Rattle.qasm_stmt.proofs.declarations.constant_line.Goals as goal

pub returns-in_err-at-clause-gives : goal.returns-in_err-at-clause-gives
unfolding read_constant_line
returns-in_err-at-clause-gives c =
    handed _ _ _ _ c.from_residual.ensures c.in_err-at.ensures.gives (le_refl _) (λ x h. rw h refl)

pub returns-in_err-ty-clause-gives : goal.returns-in_err-ty-clause-gives
unfolding read_constant_line
returns-in_err-ty-clause-gives c =
    let w = c.in_ok-at.ensures.gives in
    handed _ _ _ _ c.from_residual-in_err-ty.ensures c.in_err-ty.ensures.gives w.2 (λ x h. rw (w.4, h) refl)

pub returns-in_err-name-clause-gives : goal.returns-in_err-name-clause-gives
unfolding read_constant_line
returns-in_err-name-clause-gives c =
    let w = c.in_ok-at.ensures.gives in
    let t = c.in_ok-ty.ensures.gives in
    handed _ _ _ _ c.from_residual-in_err-name.ensures c.in_err-name.ensures.gives (omega arith) (λ x h. rw (w.4, t.4, h) refl)

pub returns-in_err-next-clause-gives : goal.returns-in_err-next-clause-gives
unfolding read_constant_line
returns-in_err-next-clause-gives c =
    let w = c.in_ok-at.ensures.gives in
    let t = c.in_ok-ty.ensures.gives in
    let n = c.in_ok-name.ensures.gives in
    handed_mark _ _ _ _ c.from_residual-in_err-next.ensures c.in_err-next.ensures (omega arith) n.3 (λ x h. rw (w.4, t.4, n.4, h) refl)

pub returns-in_err-value-clause-gives : goal.returns-in_err-value-clause-gives
unfolding read_constant_line
returns-in_err-value-clause-gives c =
    let w = c.in_ok-at.ensures.gives in
    let t = c.in_ok-ty.ensures.gives in
    let n = c.in_ok-name.ensures.gives in
    let a = c.in_ok-next.ensures in
    handed _ _ _ _ c.from_residual-in_err-value.ensures c.in_err-value.ensures.gives (omega arith) (λ x h. rw (w.4, t.4, n.4, a.4, h) refl)

pub returns-in_err-next-2-clause-gives : goal.returns-in_err-next-2-clause-gives
unfolding read_constant_line
returns-in_err-next-2-clause-gives c =
    let w = c.in_ok-at.ensures.gives in
    let t = c.in_ok-ty.ensures.gives in
    let n = c.in_ok-name.ensures.gives in
    let a = c.in_ok-next.ensures in
    let e = c.in_ok-value.ensures.gives in
    handed_mark _ _ _ _ c.from_residual-in_err-next-2.ensures c.in_err-next-2.ensures (omega arith) e.3 (λ x h. rw (w.4, t.4, n.4, a.4, e.4, h) refl)

pub returns-clause-gives : goal.returns-clause-gives
unfolding read_constant_line
returns-clause-gives c =
    let w = c.in_ok-at.ensures.gives in
    let t = c.in_ok-ty.ensures.gives in
    let n = c.in_ok-name.ensures.gives in
    let a = c.in_ok-next.ensures in
    let e = c.in_ok-value.ensures.gives in
    let s = c.in_ok-next-2.ensures in
    let t2 = type_later c.in_ok-ty.ensures.sound (grown_on c.in_ok-name.ensures.grown c.in_ok-value.ensures.grown) _ _ t.1 in
    let n2 = name_later c.in_ok-name.ensures.sound c.in_ok-value.ensures.grown _ _ n.1 in
    (at_one (constant t.0 n.0 e.0) w.0.at, line_shows c.expression.new.arena _ _ _ _ c.line.ensures ((t2.0, n2.0, e.1.0), rw (t2.1, n2.1, e.1.1, w.1) refl), omega arith, s.2, rw (w.4, t.4, n.4, a.4, e.4, s.4) refl)

pub returns-clause-grown : goal.returns-clause-grown
returns-clause-grown c = grown_on c.in_ok-ty.ensures.grown (grown_on c.in_ok-name.ensures.grown c.in_ok-value.ensures.grown)
