use Rattle.std.proofs.Common.{refl, le_refl, arith}
use Rattle.qasm_ast.specs.declared.expr.Base.TheVariants as b
use Rattle.qasm_ast.specs.Tree.{maybe, qubits}
use Rattle.qasm_expr.specs.Grammar.{scalar}
use Rattle.qasm_grammar.specs.Reader.{read_qubit_line}
use Rattle.qasm_grammar.specs.Grammar.{at_one}
use Rattle.qasm_stmt.proofs.Growing.{if_both_on, tree_later}
use Rattle.qasm_expr.proofs.Exits.{handed, handed_mark}
use Rattle.qasm_stmt.proofs.Lines.{line_shows, qubit_type}
use Rattle.qasm_stmt.proofs.declarations.qubit_line.Goals as goal

pub returns-in_err-at-clause-gives : goal.returns-in_err-at-clause-gives
unfolding read_qubit_line
returns-in_err-at-clause-gives c =
    handed _ _ _ _ c.from_residual.ensures c.in_err-at.ensures.gives (le_refl _) (λ x h. rw h refl)

pub returns-in_err-width-clause-gives : goal.returns-in_err-width-clause-gives
unfolding read_qubit_line
returns-in_err-width-clause-gives c =
    let w = c.in_ok-at.ensures.gives in
    handed _ _ _ _ c.from_residual-in_err-width.ensures c.in_err-width.ensures.gives w.2 (λ x h. rw (w.4, h) refl)

pub returns-in_err-name-clause-gives : goal.returns-in_err-name-clause-gives
unfolding read_qubit_line
returns-in_err-name-clause-gives c =
    let w = c.in_ok-at.ensures.gives in
    let e = c.in_ok-width.ensures.gives in
    handed _ _ _ _ c.from_residual-in_err-name.ensures c.in_err-name.ensures.gives (omega arith) (λ x h. rw (w.4, e.4, h) refl)

pub returns-in_err-next-clause-gives : goal.returns-in_err-next-clause-gives
unfolding read_qubit_line
returns-in_err-next-clause-gives c =
    let w = c.in_ok-at.ensures.gives in
    let e = c.in_ok-width.ensures.gives in
    let n = c.in_ok-name.ensures.gives in
    handed_mark _ _ _ _ c.from_residual-in_err-next.ensures c.in_err-next.ensures (omega arith) n.3 (λ x h. rw (w.4, e.4, n.4, h) refl)

pub returns-clause-gives : goal.returns-clause-gives
unfolding read_qubit_line
returns-clause-gives c =
    let w = c.in_ok-at.ensures.gives in
    let e = c.in_ok-width.ensures.gives in
    let n = c.in_ok-name.ensures.gives in
    let s = c.in_ok-next.ensures in
    let e2 = if_both_on _ _ (tree_later c.in_ok-width.ensures.sound c.in_ok-name.ensures.grown) _ _ e.1 in
    let p = qubit_type c.declared.new.arena _ _ _ _ e2 w.1 in
    (at_one (qubits (scalar b.Qubit (maybe e.0) w.0.at) n.0) w.0.at, line_shows c.declared.new.arena _ _ _ _ c.line.ensures ((p.0, n.1.0), rw (p.1, n.1.1, w.1) refl), omega arith, s.2, rw (w.4, e.4, n.4, s.4) refl)
