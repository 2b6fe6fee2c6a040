use Rattle.std.proofs.Common.{refl, ap, le_refl, arith}
use Rattle.qasm_ast.specs.Tree.{Scalar, variable}
use Rattle.qasm_grammar.specs.Reader.{read_variable_line}
use Rattle.qasm_grammar.specs.Grammar.{at_one}
use Rattle.qasm_stmt.proofs.Growing.{grown_on, name_later, type_later}
use Rattle.qasm_expr.proofs.Exits.{handed, handed_mark}
use Rattle.qasm_stmt.proofs.Lines.{line_shows, value_if}
use Rattle.qasm_stmt.proofs.declarations.variable_line.Goals as goal

pub returns-in_err-ty-clause-gives : goal.returns-in_err-ty-clause-gives
unfolding read_variable_line
returns-in_err-ty-clause-gives c =
    handed _ _ _ _ c.from_residual.ensures c.in_err-ty.ensures.gives (le_refl _) (λ x h. rw h refl)

pub returns-in_err-name-clause-gives : goal.returns-in_err-name-clause-gives
unfolding read_variable_line
returns-in_err-name-clause-gives c =
    let t = c.in_ok-ty.ensures.gives in
    handed _ _ _ _ c.from_residual-in_err-name.ensures c.in_err-name.ensures.gives t.2 (λ x h. rw (t.4, h) refl)

pub returns-in_err-initial-clause-gives : goal.returns-in_err-initial-clause-gives
unfolding read_variable_line
returns-in_err-initial-clause-gives c =
    let t = c.in_ok-ty.ensures.gives in
    let n = c.in_ok-name.ensures.gives in
    handed _ _ _ _ c.from_residual-in_err-initial.ensures c.in_err-initial.ensures.gives (omega arith) (λ x h. rw (t.4, n.4, h) refl)

pub returns-in_err-next-clause-gives : goal.returns-in_err-next-clause-gives
unfolding read_variable_line
returns-in_err-next-clause-gives c =
    let t = c.in_ok-ty.ensures.gives in
    let n = c.in_ok-name.ensures.gives in
    let v = c.in_ok-initial.ensures.gives in
    handed_mark _ _ _ _ c.from_residual-in_err-next.ensures c.in_err-next.ensures (omega arith) v.3 (λ x h. rw (t.4, n.4, v.4, h) refl)

pub returns-clause-gives : goal.returns-clause-gives
unfolding read_variable_line
returns-clause-gives c =
    let t = c.in_ok-ty.ensures.gives in
    let n = c.in_ok-name.ensures.gives in
    let v = c.in_ok-initial.ensures.gives in
    let s = c.in_ok-next.ensures in
    let t2 = type_later c.in_ok-ty.ensures.sound (grown_on c.in_ok-name.ensures.grown c.in_ok-initial.ensures.grown) _ _ t.1 in
    let n2 = name_later c.in_ok-name.ensures.sound c.in_ok-initial.ensures.grown _ _ n.1 in
    let v2 = value_if c.initial.new.arena _ _ v.1 in
    let place = ap (λ (x : Scalar). x.place) t.1.1 in
    (at_one (variable t.0 n.0 v.0) t.0.place, line_shows c.initial.new.arena _ _ _ _ c.line.ensures ((t2.0, n2.0, v2.0), rw (t2.1, n2.1, v2.1, place) refl), omega arith, s.2, rw (t.4, n.4, v.4, s.4) refl)

pub returns-clause-grown : goal.returns-clause-grown
returns-clause-grown c = grown_on c.in_ok-ty.ensures.grown (grown_on c.in_ok-name.ensures.grown c.in_ok-initial.ensures.grown)
