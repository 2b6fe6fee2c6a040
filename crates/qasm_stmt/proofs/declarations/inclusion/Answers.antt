use Rattle.std.proofs.Common.{refl, le_refl, arith}
use Rattle.qasm_ast.specs.Tree.{include}
use Rattle.qasm_grammar.specs.Reader.{read_inclusion}
use Rattle.qasm_grammar.specs.Grammar.{at_one}
use Rattle.qasm_stmt.proofs.Growing.{grown_same}
use Rattle.qasm_expr.proofs.Exits.{handed, handed_mark, handed_memory, mark_memory}
use Rattle.qasm_stmt.proofs.Lines.{line_shows}
use Rattle.qasm_stmt.proofs.declarations.inclusion.Goals as goal

pub returns-in_err-at-clause-gives : goal.returns-in_err-at-clause-gives
unfolding read_inclusion
returns-in_err-at-clause-gives c =
    handed _ _ _ _ c.from_residual.ensures c.in_err-at.ensures.gives (le_refl _) (λ x h. rw h refl)

pub returns-in_err-next-clause-gives : goal.returns-in_err-next-clause-gives
unfolding read_inclusion
returns-in_err-next-clause-gives c =
    let w = c.in_ok-at.ensures.gives in
    handed _ _ _ _ c.from_residual-in_err-next.ensures c.in_err-next.ensures.gives w.2 (λ x h. rw (w.4, h) refl)

pub returns-in_err-next-2-clause-gives : goal.returns-in_err-next-2-clause-gives
unfolding read_inclusion
returns-in_err-next-2-clause-gives c =
    let w = c.in_ok-at.ensures.gives in
    let t = c.in_ok-next.ensures.gives in
    handed_mark _ _ _ _ c.from_residual-in_err-next-2.ensures c.in_err-next-2.ensures (omega arith) t.3 (λ x h. rw (w.4, t.4, h) refl)

pub returns-clause-gives : goal.returns-clause-gives
unfolding read_inclusion
returns-clause-gives c =
    let w = c.in_ok-at.ensures.gives in
    let t = c.in_ok-next.ensures.gives in
    let s = c.in_ok-next-2.ensures in
    (at_one include w.0.at, line_shows c.args.arena.now _ _ _ _ c.line.ensures (tt, rw w.1 refl), omega arith, s.2, rw (w.4, t.4, s.4) refl)

pub returns-clause-grown : goal.returns-clause-grown
returns-clause-grown c = grown_same _

pub returns-in_err-next-2-clause-memory : goal.returns-in_err-next-2-clause-memory
returns-in_err-next-2-clause-memory c = handed_memory _ _ c.from_residual-in_err-next-2.ensures.1 (mark_memory _ _ _ _ c.in_err-next-2.ensures)
