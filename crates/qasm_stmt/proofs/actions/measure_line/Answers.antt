use Rattle.std.proofs.Common.{refl, le_refl, arith}
use Rattle.qasm_ast.specs.Tree.{measurement}
use Rattle.qasm_grammar.specs.Reader.{read_measure_line}
use Rattle.qasm_grammar.specs.Grammar.{at_one}
use Rattle.qasm_stmt.proofs.Growing.{operand_later}
use Rattle.qasm_expr.proofs.Exits.{handed, handed_mark}
use Rattle.qasm_stmt.proofs.Lines.{line_shows, operand_if}
use Rattle.qasm_stmt.proofs.actions.measure_line.Goals as goal

pub returns-in_err-at-clause-gives : goal.returns-in_err-at-clause-gives
unfolding read_measure_line
returns-in_err-at-clause-gives c =
    handed _ _ _ _ c.from_residual.ensures c.in_err-at.ensures.gives (le_refl _) (λ x h. rw h refl)

pub returns-in_err-found-clause-gives : goal.returns-in_err-found-clause-gives
unfolding read_measure_line
returns-in_err-found-clause-gives c =
    let w = c.in_ok-at.ensures.gives in
    handed _ _ _ _ c.from_residual-in_err-found.ensures c.in_err-found.ensures.gives w.2 (λ x h. rw (w.4, h) refl)

pub returns-in_err-aim-clause-gives : goal.returns-in_err-aim-clause-gives
unfolding read_measure_line
returns-in_err-aim-clause-gives c =
    let w = c.in_ok-at.ensures.gives in
    let o = c.in_ok-found.ensures.gives in
    handed _ _ _ _ c.from_residual-in_err-aim.ensures c.in_err-aim.ensures.gives (omega arith) (λ x h. rw (w.4, o.4, h) refl)

pub returns-in_err-next-clause-gives : goal.returns-in_err-next-clause-gives
unfolding read_measure_line
returns-in_err-next-clause-gives c =
    let w = c.in_ok-at.ensures.gives in
    let o = c.in_ok-found.ensures.gives in
    let g = c.in_ok-aim.ensures.gives in
    handed_mark _ _ _ _ c.from_residual-in_err-next.ensures c.in_err-next.ensures (omega arith) g.3 (λ x h. rw (w.4, o.4, g.4, h) refl)

pub returns-clause-gives : goal.returns-clause-gives
unfolding read_measure_line
returns-clause-gives c =
    let w = c.in_ok-at.ensures.gives in
    let o = c.in_ok-found.ensures.gives in
    let g = c.in_ok-aim.ensures.gives in
    let s = c.in_ok-next.ensures in
    let p = operand_later c.in_ok-found.ensures.sound c.in_ok-aim.ensures.grown _ _ o.1 in
    let q = operand_if c.aim.new.arena _ _ g.1 in
    (at_one (measurement o.0 g.0) w.0.at, line_shows c.aim.new.arena _ _ _ _ c.line.ensures ((p.0, q.0), rw (p.1, q.1, w.1) refl), omega arith, s.2, rw (w.4, o.4, g.4, s.4) refl)
