use Rattle.std.proofs.Common.{le_refl, refl, ap, arith}
use Rattle.qasm_ast.specs.Tree.{Name}
use Rattle.qasm_grammar.specs.Parts.{operand_at}
use Rattle.qasm_grammar.specs.Reader.{read_target}
use Rattle.qasm_stmt.proofs.Growing.{name_later}
use Rattle.qasm_expr.proofs.Exits.{handed}
use Rattle.qasm_stmt.proofs.Spellings.{word_read, word_refused}
use Rattle.qasm_stmt.proofs.operands.target.Goals as goal

pub returns-in_err-name-clause-gives : goal.returns-in_err-name-clause-gives
unfolding read_target
returns-in_err-name-clause-gives c =
    handed _ _ _ _ c.from_residual.ensures c.in_err-name.ensures.gives (le_refl _) (λ e h. rw (word_refused _ _ e h) refl)

pub returns-in_err-index-clause-gives : goal.returns-in_err-index-clause-gives
unfolding read_target
returns-in_err-index-clause-gives c =
    let x = c.in_ok-name.ensures.gives in
    handed _ _ _ _ c.from_residual-in_err-index.ensures c.in_err-index.ensures.gives x.2 (λ e h. rw (word_read _ _ _ _ x.4, h) refl)

pub returns-clause-gives : goal.returns-clause-gives
unfolding read_target
returns-clause-gives c =
    let x = c.in_ok-name.ensures.gives in
    let i = c.in_ok-index.ensures.gives in
    let named = name_later c.in_ok-name.ensures.sound c.in_ok-index.ensures.grown c.in_ok-name.name x.0 x.1 in
    let read = word_read _ _ _ _ x.4 in
    (operand_at (x.0.text, x.0.place) i.0, (record { name = named.0; index = i.1.0 }, rw i.1.1 (ap (λ (n : Name). operand_at (n.text, n.place) i.0) named.1)), omega (arith, x.2, i.2), i.3, rw (read, i.4) refl)
