use Rattle.std.proofs.Common.{◌∷◌, refl, sym, subst, ◌∙◌, le_refl, arith}
use Rattle.qasm_ast.specs.Tree.{alias}
use Rattle.qasm_grammar.specs.Reader.{read_alias_line}
use Rattle.qasm_expr.proofs.Units.{pushed}
use Rattle.qasm_grammar.specs.Grammar.{at_one}
use Rattle.qasm_stmt.specs.Seen.{IsList, IsOperand}
use Rattle.qasm_stmt.proofs.Growing.{grown_on, name_later, operand_later}
use Rattle.qasm_expr.proofs.Exits.{handed, handed_mark}
use Rattle.qasm_stmt.proofs.Lines.{line_shows, operands_whole}
use Rattle.qasm_stmt.proofs.declarations.alias_line.Goals as goal

pub returns-in_err-at-clause-gives : goal.returns-in_err-at-clause-gives
unfolding read_alias_line
returns-in_err-at-clause-gives c =
    handed _ _ _ _ c.from_residual.ensures c.in_err-at.ensures.gives (le_refl _) (λ x h. rw h refl)

pub returns-in_err-name-clause-gives : goal.returns-in_err-name-clause-gives
unfolding read_alias_line
returns-in_err-name-clause-gives c =
    let w = c.in_ok-at.ensures.gives in
    handed _ _ _ _ c.from_residual-in_err-name.ensures c.in_err-name.ensures.gives w.2 (λ x h. rw (w.4, h) refl)

pub returns-in_err-next-clause-gives : goal.returns-in_err-next-clause-gives
unfolding read_alias_line
returns-in_err-next-clause-gives c =
    let w = c.in_ok-at.ensures.gives in
    let n = c.in_ok-name.ensures.gives in
    handed_mark _ _ _ _ c.from_residual-in_err-next.ensures c.in_err-next.ensures (omega arith) n.3 (λ x h. rw (w.4, n.4, h) refl)

pub returns-in_err-first-clause-gives : goal.returns-in_err-first-clause-gives
unfolding read_alias_line
returns-in_err-first-clause-gives c =
    let w = c.in_ok-at.ensures.gives in
    let n = c.in_ok-name.ensures.gives in
    let a = c.in_ok-next.ensures in
    handed _ _ _ _ c.from_residual-in_err-first.ensures c.in_err-first.ensures.gives (omega arith) (λ x h. rw (w.4, n.4, a.4, h) refl)

pub returns-in_err-operands-clause-gives : goal.returns-in_err-operands-clause-gives
unfolding read_alias_line
returns-in_err-operands-clause-gives c =
    let w = c.in_ok-at.ensures.gives in
    let n = c.in_ok-name.ensures.gives in
    let a = c.in_ok-next.ensures in
    let o = c.in_ok-first.ensures.gives in
    handed _ _ _ _ c.from_residual-in_err-operands.ensures c.in_err-operands.ensures.gives (omega arith) (λ x h. rw (w.4, n.4, a.4, o.4, h) refl)

pub returns-in_err-next-2-clause-gives : goal.returns-in_err-next-2-clause-gives
unfolding read_alias_line
returns-in_err-next-2-clause-gives c =
    let w = c.in_ok-at.ensures.gives in
    let n = c.in_ok-name.ensures.gives in
    let a = c.in_ok-next.ensures in
    let o = c.in_ok-first.ensures.gives in
    let j = c.in_ok-operands.ensures.gives in
    handed_mark _ _ _ _ c.from_residual-in_err-next-2.ensures c.in_err-next-2.ensures (omega arith) j.3 (λ x h. rw (w.4, n.4, a.4, o.4, j.4, h) refl)

pub returns-clause-gives : goal.returns-clause-gives
unfolding read_alias_line
returns-clause-gives c =
    let w = c.in_ok-at.ensures.gives in
    let n = c.in_ok-name.ensures.gives in
    let a = c.in_ok-next.ensures in
    let o = c.in_ok-first.ensures.gives in
    let j = c.in_ok-operands.ensures.gives in
    let s = c.in_ok-next-2.ensures in
    let n2 = name_later c.in_ok-name.ensures.sound (grown_on c.in_ok-first.ensures.grown c.in_ok-operands.ensures.grown) _ _ n.1 in
    let o2 = operand_later c.in_ok-first.ensures.sound c.in_ok-operands.ensures.grown _ _ o.1 in
    let put = pushed c.insert.result c.in_ok-operands.operands.items c.insert.new.self.items (c.in_ok-first.first ∷ c.in_ok-operands.operands.items) c.insert.ensures.items (sym c.is_err.ensures.value ∙ c.if-is_err.false) in
    let all = subst (λ l. IsList (IsOperand c.joins.new.arena) l (o.0 ∷ j.0)) (sym put) (omega (arith, c.in_ok-operands.ensures.count, c.requires.cut.few), (o2, j.1.1)) in
    let p = operands_whole c.joins.new.arena _ _ all in
    (at_one (alias n.0 (o.0 ∷ j.0)) w.0.at, line_shows c.joins.new.arena _ _ _ _ c.line.ensures ((n2.0, p.0), rw (n2.1, p.1, w.1) refl), omega arith, s.2, rw (w.4, n.4, a.4, o.4, j.4, s.4) refl)

pub returns-clause-grown : goal.returns-clause-grown
returns-clause-grown c = grown_on c.in_ok-name.ensures.grown (grown_on c.in_ok-first.ensures.grown c.in_ok-operands.ensures.grown)
