use Rattle.std.proofs.Common.{refl, le_refl, arith}
use Rattle.qasm_ast.specs.Tree.{give}
use Rattle.qasm_grammar.specs.Reader.{read_return_line}
use Rattle.qasm_grammar.specs.Grammar.{at_one}
use Rattle.qasm_expr.proofs.Exits.{handed, handed_mark}
use Rattle.qasm_stmt.proofs.Lines.{line_shows, value_if}
use Rattle.qasm_stmt.proofs.actions.return_line.Goals as goal

pub returns-in_err-at-clause-gives : goal.returns-in_err-at-clause-gives
unfolding read_return_line
returns-in_err-at-clause-gives c =
    handed _ _ _ _ c.from_residual.ensures c.in_err-at.ensures.gives (le_refl _) (λ x h. rw h refl)

pub returns-in_err-found-clause-gives : goal.returns-in_err-found-clause-gives
unfolding read_return_line
returns-in_err-found-clause-gives c =
    let w = c.in_ok-at.ensures.gives in
    handed _ _ _ _ c.from_residual-in_err-found.ensures c.in_err-found.ensures.gives w.2 (λ x h. rw (w.4, h) refl)

pub returns-in_err-next-clause-gives : goal.returns-in_err-next-clause-gives
unfolding read_return_line
returns-in_err-next-clause-gives c =
    let w = c.in_ok-at.ensures.gives in
    let v = c.in_ok-found.ensures.gives in
    handed_mark _ _ _ _ c.from_residual-in_err-next.ensures c.in_err-next.ensures (omega arith) v.3 (λ x h. rw (w.4, v.4, h) refl)

pub returns-clause-gives : goal.returns-clause-gives
unfolding read_return_line
returns-clause-gives c =
    let w = c.in_ok-at.ensures.gives in
    let v = c.in_ok-found.ensures.gives in
    let s = c.in_ok-next.ensures in
    let p = value_if c.returned.new.arena _ _ v.1 in
    (at_one (give v.0) w.0.at, line_shows c.returned.new.arena _ _ _ _ c.line.ensures (p.0, rw (p.1, w.1) refl), omega arith, s.2, rw (w.4, v.4, s.4) refl)
