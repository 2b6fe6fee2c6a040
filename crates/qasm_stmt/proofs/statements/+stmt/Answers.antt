use Rattle.std.proofs.Common.{◌≡◌, ◌+◌, ◌≤◌, ◌<◌, ◌∷◌, ◌++◌, [], true, false, Some, None, Ok, length, drop, refl, sym, ap, subst, ◌∙◌, le_refl, length-drop, length-append, arith}
use Rattle.qasm_lexer.specs.declared.token.Keyword.TheVariants as k
use Rattle.qasm_lexer.specs.declared.token.Mark.TheVariants as m
use Rattle.qasm_ast.specs.declared.stmt.StmtId.{StmtId}
use Rattle.qasm_ast.specs.Tree.{a_statement, no_statement, while, subroutine}
use Rattle.qasm_expr.specs.TokenKinds.{keyword_kind, mark_kind}
use Rattle.qasm_expr.proofs.Exits.{behind, handed, handed_mark}
use Rattle.qasm_expr.proofs.Places.{heads_sign, passes_yes}
use Rattle.qasm_expr.proofs.Units.{pushed}
use Rattle.qasm_grammar.specs.Grammar.{without_else, with_else, for_of}
use Rattle.qasm_grammar.specs.Parts.{Opened, opened_statements, close_or}
use Rattle.qasm_grammar.specs.Reader.{stmt_kinds, read_inclusion, read_qubit_line, read_qreg_line, read_creg_line, read_variable_line, read_constant_line, read_output_line, read_alias_line, read_gate_definition, read_subroutine_definition, read_declaration, read_behind_body, read_conditional, read_while_loop, read_for_loop, read_control, read_stmt_at, read_stmt}
use Rattle.qasm_grammar.proofs.Moves.{stmt_moves}
use Rattle.qasm_stmt.specs.Seen.{Each, IsType, IsParameter, IsTurns, IsStatement, IsStatements, IsLine, IsOpenLine, deeper_block, deeper_body}
use Rattle.qasm_stmt.proofs.Growing.{each_none, grown_same, grown_on, each_on, each_push, if_both_on, tree_later, type_later, name_later, parameter_later, statement_later, statements_later}
use Rattle.qasm_stmt.proofs.Showing.{pushed_statement, pushed_sound}
use Rattle.qasm_expr.proofs.Loops.{repeating_start, repeating_stop, repeating_err, repeating_more}
use Rattle.qasm_stmt.proofs.Nesting.{stmt_open, block_shut, block_inside, body_braced, body_alone, behind_open, behind_alone, behind_else, opened_list, one_statement}
use Rattle.qasm_stmt.proofs.Filling.{goes_on}
use Rattle.qasm_stmt.proofs.Paying.{pushed_few, pushed_paid, kept_spare}
use Rattle.qasm_stmt.proofs.Lines.{word_heads}
use Rattle.qasm_stmt.proofs.Compound.{close_same, turns_later, list_on, branch_line, while_line, subroutine_line, range_line, set_line}
use Rattle.qasm_stmt.proofs.statements.+stmt.Goals.{conditional-then-taken-via-then-taken, conditional-then-taken-via-else-taken+then-not-sees_word, for_loop-in-Range, for_loop-in-Set}
use Rattle.qasm_stmt.proofs.statements.+stmt.Goals as goal

pub block-returns-in_err-inside-clause-gives : goal.block-returns-in_err-inside-clause-gives
block-returns-in_err-inside-clause-gives t c =
    handed_mark _ _ _ _ c.from_residual.ensures c.in_err-inside.ensures.passes (le_refl _) c.requires.within (λ x h. block_shut c.args.text.now c.args.room (drop c.args.from c.args.tokens.now) x h)

pub block-returns-in_err-statements-clause-gives : goal.block-returns-in_err-statements-clause-gives
block-returns-in_err-statements-clause-gives t c =
    let o = c.in_ok-inside.ensures.passes in
    let inside = block_inside c.args.text.now c.args.room (drop c.args.from c.args.tokens.now) (drop c.in_ok-inside.inside c.args.tokens.now) o.0 c.in_ok-inside.ensures.has_room o.4 in
    handed _ _ _ _ c.from_residual-in_err-statements.ensures c.in_err-statements.ensures.gives (omega (arith, o.1)) (λ x h. inside ∙ rw (h) refl)

pub block-returns-in_err-close-clause-gives : goal.block-returns-in_err-close-clause-gives
block-returns-in_err-close-clause-gives t c =
    let o = c.in_ok-inside.ensures.passes in
    let inside = block_inside c.args.text.now c.args.room (drop c.args.from c.args.tokens.now) (drop c.in_ok-inside.inside c.args.tokens.now) o.0 c.in_ok-inside.ensures.has_room o.4 in
    let ss = c.in_ok-statements.ensures.gives in
    handed _ _ _ _ c.from_residual-in_err-close.ensures c.in_err-close.ensures.gives (omega (arith, o.1, ss.2)) (λ x h. inside ∙ rw (ss.4, h) refl)

pub block-returns-clause-gives : goal.block-returns-clause-gives
block-returns-clause-gives t c =
    let o = c.in_ok-inside.ensures.passes in
    let inside = block_inside c.args.text.now c.args.room (drop c.args.from c.args.tokens.now) (drop c.in_ok-inside.inside c.args.tokens.now) o.0 c.in_ok-inside.ensures.has_room o.4 in
    let ss = c.in_ok-statements.ensures.gives in
    let e = c.in_ok-close.ensures.gives in
    (record { statements = opened_statements ss.0; close = e.0.at }, (ss.1, e.1), omega (arith, o.1, ss.2, e.2), e.3, inside ∙ rw (ss.4, e.4) refl)

pub block-returns-clause-spare : goal.block-returns-clause-spare
block-returns-clause-spare t c =
    let o = c.in_ok-inside.ensures.passes in
    let e = c.in_ok-close.ensures.gives in
    omega (arith, o.1, c.in_ok-statements.ensures.paid, e.2)

pub body-returns-in_err-found-clause-gives : goal.body-returns-in_err-found-clause-gives
body-returns-in_err-found-clause-gives t c =
    let braced = body_braced c.args.text.now c.args.room (drop c.args.from c.args.tokens.now) (heads_sign c.args.text.now (mark_kind m.LeftBrace) (drop c.args.from c.args.tokens.now) true (omega arith) (sym c.sees.ensures.value ∙ c.if-sees.true)) in
    handed _ _ _ _ c.from_residual.ensures c.in_err-found.ensures.gives (le_refl _) (λ x h. braced ∙ rw (h) refl)

pub body-returns-then-sees-clause-gives : goal.body-returns-then-sees-clause-gives
body-returns-then-sees-clause-gives t c =
    let braced = body_braced c.args.text.now c.args.room (drop c.args.from c.args.tokens.now) (heads_sign c.args.text.now (mark_kind m.LeftBrace) (drop c.args.from c.args.tokens.now) true (omega arith) (sym c.sees.ensures.value ∙ c.if-sees.true)) in
    let b = c.in_ok-found.ensures.gives in
    (record { statements = b.0.statements; is_open = false; close = Some b.0.close }, (b.1.0, refl, ap Some b.1.1), b.2, b.3, braced ∙ rw b.4 refl)

pub body-returns-in_err-id-clause-gives : goal.body-returns-in_err-id-clause-gives
body-returns-in_err-id-clause-gives t c =
    let alone = body_alone c.args.text.now c.args.room (drop c.args.from c.args.tokens.now) (omega (arith, c.if-room-eq0.false)) (heads_sign c.args.text.now (mark_kind m.LeftBrace) (drop c.args.from c.args.tokens.now) false (omega arith) (sym c.sees.ensures.value ∙ c.if-sees.false)) in
    handed _ _ _ _ c.from_residual-in_err-id.ensures c.in_err-id.ensures.gives (le_refl _) (λ x h. alone ∙ rw (h) refl)

pub body-returns-clause-gives : goal.body-returns-clause-gives
body-returns-clause-gives t c =
    let alone = body_alone c.args.text.now c.args.room (drop c.args.from c.args.tokens.now) (omega (arith, c.if-room-eq0.false)) (heads_sign c.args.text.now (mark_kind m.LeftBrace) (drop c.args.from c.args.tokens.now) false (omega arith) (sym c.sees.ensures.value ∙ c.if-sees.false)) in
    let s = c.in_ok-id.ensures.gives in
    let push = pushed c.push.result c.new-statements.result.items c.push.new.self.items (c.new-statements.result.items ++ c.in_ok-id.id ∷ []) c.push.ensures.items (sym c.is_err.ensures.value ∙ c.if-is_err.false) ∙ ap (λ l. l ++ c.in_ok-id.id ∷ []) c.new-statements.ensures.items in
    (record { statements = a_statement s.0.0 no_statement; is_open = s.0.1; close = None }, (one_statement c.stmt.new.arena c.push.new.self.items c.in_ok-id.id s.0.0 push s.1.0, s.1.1, refl), s.2, s.3, alone ∙ rw s.4 refl)

pub conditional-returns-in_err-at-clause-gives : goal.conditional-returns-in_err-at-clause-gives
unfolding read_conditional
conditional-returns-in_err-at-clause-gives t c =
    handed _ _ _ _ c.from_residual.ensures c.in_err-at.ensures.gives (le_refl _) (λ x h. rw (h) refl)

pub conditional-returns-in_err-test-clause-gives : goal.conditional-returns-in_err-test-clause-gives
unfolding read_conditional
conditional-returns-in_err-test-clause-gives t c =
    let w = c.in_ok-at.ensures.gives in
    handed _ _ _ _ c.from_residual-in_err-test.ensures c.in_err-test.ensures.gives w.2 (λ x h. rw (w.4, h) refl)

pub conditional-returns-in_err-taken-clause-gives : goal.conditional-returns-in_err-taken-clause-gives
unfolding read_conditional
conditional-returns-in_err-taken-clause-gives t c =
    let w = c.in_ok-at.ensures.gives in
    let e = c.in_ok-test.ensures.gives in
    handed _ _ _ _ c.from_residual-in_err-taken.ensures c.in_err-taken.ensures.gives (omega (arith, w.2, e.2)) (λ x h. rw (w.4, e.4, h) refl)

pub conditional-returns-then-taken-clause-gives : goal.conditional-returns-then-taken-clause-gives
unfolding read_conditional
conditional-returns-then-taken-clause-gives t c =
    let w = c.in_ok-at.ensures.gives in
    let e = c.in_ok-test.ensures.gives in
    let b = c.in_ok-taken.ensures.gives in
    let shut = c.close_or-close.ensures ∙ close_same c.in_ok-taken.taken.close b.0.close c.in_ok-at.at w.0.at b.1.2 w.1 in
    let test = tree_later c.in_ok-test.ensures.sound c.in_ok-taken.ensures.grown c.in_ok-test.test e.0 e.1 in
    let empty : IsStatements c.body.new.arena c.new.result.items no_statement = subst (λ l. IsStatements c.body.new.arena l no_statement) (sym c.new.ensures.items) (opened_list c.body.new.arena [] [] (omega arith) tt) in
    let last = elim c.then-taken.branch as (λ z. read_behind_body c.args.text.now (deeper_body c.args.text.now c.args.room) e.0 w.0.at b.0 (drop c.in_ok-taken.next c.args.tokens.now) ≡ Ok (without_else e.0 w.0.at b.0, (drop c.in_ok-taken.next c.args.tokens.now))) [
      | conditional-then-taken-via-then-taken v ↦ behind_open c.args.text.now (deeper_body c.args.text.now c.args.room) e.0 w.0.at b.0 (drop c.in_ok-taken.next c.args.tokens.now) (sym b.1.1 ∙ v.if-taken.true)
      | conditional-then-taken-via-else-taken+then-not-sees_word v ↦ behind_alone c.args.text.now (deeper_body c.args.text.now c.args.room) e.0 w.0.at b.0 (drop c.in_ok-taken.next c.args.tokens.now) (sym b.1.1 ∙ v.if-taken.false) (word_heads c.args.text.now (drop c.in_ok-taken.next c.args.tokens.now) k.Else false (sym v.sees_word.ensures.value ∙ v.if-not-sees_word.true))
    ] in
    (without_else e.0 w.0.at b.0, (branch_line c.body.new.arena c.in_ok-at.at c.close_or-close.result w.0.at (close_or b.0.close w.0.at) w.1 shut c.in_ok-test.test c.in_ok-taken.taken.statements.items c.new.result.items e.0 b.0.statements no_statement test b.1.0 empty, refl), omega (arith, w.2, e.2, b.2), b.3, rw (w.4, e.4, b.4) last)

pub conditional-returns-then-taken-clause-spare : goal.conditional-returns-then-taken-clause-spare
conditional-returns-then-taken-clause-spare t c =
    let e = c.in_ok-test.ensures.gives in
    omega (arith, c.in_ok-at.ensures.next, ap length c.in_ok-test.ensures.kept, e.2, c.in_ok-taken.ensures.paid)

pub conditional-returns-in_err-other-clause-gives : goal.conditional-returns-in_err-other-clause-gives
unfolding read_conditional
conditional-returns-in_err-other-clause-gives t c =
    let w = c.in_ok-at.ensures.gives in
    let e = c.in_ok-test.ensures.gives in
    let b = c.in_ok-taken.ensures.gives in
    let here = word_heads c.args.text.now (drop c.in_ok-taken.next c.args.tokens.now) k.Else true (sym c.sees_word.ensures.value ∙ c.if-not-sees_word.false) in
    let x = passes_yes c.args.text.now c.args.tokens.now c.in_ok-taken.next (keyword_kind k.Else) (omega arith) b.3 (sym c.sees_word.ensures.value ∙ c.if-not-sees_word.false) in
    let last = behind_else c.args.text.now (deeper_body c.args.text.now c.args.room) e.0 w.0.at b.0 (drop c.in_ok-taken.next c.args.tokens.now) x.0 (drop (c.in_ok-taken.next + 1) c.args.tokens.now) (sym b.1.1 ∙ c.if-taken.false) here x.4 in
    handed _ _ _ _ c.from_residual-in_err-other.ensures c.in_err-other.ensures.gives (omega (arith, w.2, e.2, b.2)) (λ x h. rw (w.4, e.4, b.4) (last ∙ rw h refl))

pub conditional-returns-clause-gives : goal.conditional-returns-clause-gives
unfolding read_conditional
conditional-returns-clause-gives t c =
    let w = c.in_ok-at.ensures.gives in
    let e = c.in_ok-test.ensures.gives in
    let b = c.in_ok-taken.ensures.gives in
    let here = word_heads c.args.text.now (drop c.in_ok-taken.next c.args.tokens.now) k.Else true (sym c.sees_word.ensures.value ∙ c.if-not-sees_word.false) in
    let x = passes_yes c.args.text.now c.args.tokens.now c.in_ok-taken.next (keyword_kind k.Else) (omega arith) b.3 (sym c.sees_word.ensures.value ∙ c.if-not-sees_word.false) in
    let last = behind_else c.args.text.now (deeper_body c.args.text.now c.args.room) e.0 w.0.at b.0 (drop c.in_ok-taken.next c.args.tokens.now) x.0 (drop (c.in_ok-taken.next + 1) c.args.tokens.now) (sym b.1.1 ∙ c.if-taken.false) here x.4 in
    let d = c.in_ok-other.ensures.gives in
    let shut = c.close_or-close-2.ensures ∙ close_same c.in_ok-other.other.close d.0.close c.close_or-close.result (close_or b.0.close w.0.at) d.1.2 (c.close_or-close.ensures ∙ close_same c.in_ok-taken.taken.close b.0.close c.in_ok-at.at w.0.at b.1.2 w.1) in
    let test = tree_later c.in_ok-test.ensures.sound (grown_on c.in_ok-taken.ensures.grown c.in_ok-other.ensures.grown) c.in_ok-test.test e.0 e.1 in
    let taken = statements_later c.in_ok-taken.ensures.sound c.in_ok-other.ensures.grown c.in_ok-taken.taken.statements.items b.0.statements b.1.0 in
    (with_else e.0 w.0.at b.0 d.0, (branch_line c.body-2.new.arena c.in_ok-at.at c.close_or-close-2.result w.0.at (close_or d.0.close (close_or b.0.close w.0.at)) w.1 shut c.in_ok-test.test c.in_ok-taken.taken.statements.items c.in_ok-other.other.statements.items e.0 b.0.statements d.0.statements test taken d.1.0, d.1.1), omega (arith, w.2, e.2, b.2, d.2), d.3, rw (w.4, e.4, b.4) (last ∙ rw d.4 refl))

pub conditional-returns-clause-spare : goal.conditional-returns-clause-spare
conditional-returns-clause-spare t c =
    let e = c.in_ok-test.ensures.gives in
    omega (arith, c.in_ok-at.ensures.next, ap length c.in_ok-test.ensures.kept, e.2, c.in_ok-taken.ensures.paid, c.in_ok-other.ensures.paid)

pub while_loop-returns-in_err-at-clause-gives : goal.while_loop-returns-in_err-at-clause-gives
unfolding read_while_loop
while_loop-returns-in_err-at-clause-gives t c =
    handed _ _ _ _ c.from_residual.ensures c.in_err-at.ensures.gives (le_refl _) (λ x h. rw (h) refl)

pub while_loop-returns-in_err-test-clause-gives : goal.while_loop-returns-in_err-test-clause-gives
unfolding read_while_loop
while_loop-returns-in_err-test-clause-gives t c =
    let w = c.in_ok-at.ensures.gives in
    handed _ _ _ _ c.from_residual-in_err-test.ensures c.in_err-test.ensures.gives w.2 (λ x h. rw (w.4, h) refl)

pub while_loop-returns-in_err-turn-clause-gives : goal.while_loop-returns-in_err-turn-clause-gives
unfolding read_while_loop
while_loop-returns-in_err-turn-clause-gives t c =
    let w = c.in_ok-at.ensures.gives in
    let e = c.in_ok-test.ensures.gives in
    handed _ _ _ _ c.from_residual-in_err-turn.ensures c.in_err-turn.ensures.gives (omega (arith, w.2, e.2)) (λ x h. rw (w.4, e.4, h) refl)

pub while_loop-returns-clause-gives : goal.while_loop-returns-clause-gives
unfolding read_while_loop
while_loop-returns-clause-gives t c =
    let w = c.in_ok-at.ensures.gives in
    let e = c.in_ok-test.ensures.gives in
    let b = c.in_ok-turn.ensures.gives in
    let shut = c.close_or-close.ensures ∙ close_same c.in_ok-turn.turn.close b.0.close c.in_ok-at.at w.0.at b.1.2 w.1 in
    let test = tree_later c.in_ok-test.ensures.sound c.in_ok-turn.ensures.grown c.in_ok-test.test e.0 e.1 in
    ((while e.0 b.0.statements w.0.at (close_or b.0.close w.0.at), b.0.is_open), (while_line c.body.new.arena c.in_ok-at.at c.close_or-close.result w.0.at (close_or b.0.close w.0.at) w.1 shut c.in_ok-test.test c.in_ok-turn.turn.statements.items e.0 b.0.statements test b.1.0, b.1.1), omega (arith, w.2, e.2, b.2), b.3, rw (w.4, e.4, b.4) refl)

pub while_loop-returns-clause-spare : goal.while_loop-returns-clause-spare
while_loop-returns-clause-spare t c =
    let e = c.in_ok-test.ensures.gives in
    omega (arith, c.in_ok-at.ensures.next, ap length c.in_ok-test.ensures.kept, e.2, c.in_ok-turn.ensures.paid)

pub for_loop-returns-in_err-at-clause-gives : goal.for_loop-returns-in_err-at-clause-gives
unfolding read_for_loop
for_loop-returns-in_err-at-clause-gives t c =
    handed _ _ _ _ c.from_residual.ensures c.in_err-at.ensures.gives (le_refl _) (λ x h. rw (h) refl)

pub for_loop-returns-in_err-ty-clause-gives : goal.for_loop-returns-in_err-ty-clause-gives
unfolding read_for_loop
for_loop-returns-in_err-ty-clause-gives t c =
    let w = c.in_ok-at.ensures.gives in
    handed _ _ _ _ c.from_residual-in_err-ty.ensures c.in_err-ty.ensures.gives w.2 (λ x h. rw (w.4, h) refl)

pub for_loop-returns-in_err-name-clause-gives : goal.for_loop-returns-in_err-name-clause-gives
unfolding read_for_loop
for_loop-returns-in_err-name-clause-gives t c =
    let w = c.in_ok-at.ensures.gives in
    let s = c.in_ok-ty.ensures.gives in
    handed _ _ _ _ c.from_residual-in_err-name.ensures c.in_err-name.ensures.gives (omega (arith, w.2, s.2)) (λ x h. rw (w.4, s.4, h) refl)

pub for_loop-returns-in_err-next-clause-gives : goal.for_loop-returns-in_err-next-clause-gives
unfolding read_for_loop
for_loop-returns-in_err-next-clause-gives t c =
    let w = c.in_ok-at.ensures.gives in
    let s = c.in_ok-ty.ensures.gives in
    let n = c.in_ok-name.ensures.gives in
    handed _ _ _ _ c.from_residual-in_err-next.ensures c.in_err-next.ensures.gives (omega (arith, w.2, s.2, n.2)) (λ x h. rw (w.4, s.4, n.4, h) refl)

pub for_loop-returns-in_err-over-clause-gives : goal.for_loop-returns-in_err-over-clause-gives
unfolding read_for_loop
for_loop-returns-in_err-over-clause-gives t c =
    let w = c.in_ok-at.ensures.gives in
    let s = c.in_ok-ty.ensures.gives in
    let n = c.in_ok-name.ensures.gives in
    let i = c.in_ok-next.ensures.gives in
    handed _ _ _ _ c.from_residual-in_err-over.ensures c.in_err-over.ensures.gives (omega (arith, w.2, s.2, n.2, i.2)) (λ x h. rw (w.4, s.4, n.4, i.4, h) refl)

pub for_loop-returns-in_err-turn-clause-gives : goal.for_loop-returns-in_err-turn-clause-gives
unfolding read_for_loop
for_loop-returns-in_err-turn-clause-gives t c =
    let w = c.in_ok-at.ensures.gives in
    let s = c.in_ok-ty.ensures.gives in
    let n = c.in_ok-name.ensures.gives in
    let i = c.in_ok-next.ensures.gives in
    let r = c.in_ok-over.ensures.gives in
    handed _ _ _ _ c.from_residual-in_err-turn.ensures c.in_err-turn.ensures.gives (omega (arith, w.2, s.2, n.2, i.2, r.2)) (λ x h. rw (w.4, s.4, n.4, i.4, r.4, h) refl)

pub for_loop-returns-clause-gives : goal.for_loop-returns-clause-gives
unfolding read_for_loop
for_loop-returns-clause-gives t c =
    let w = c.in_ok-at.ensures.gives in
    let s = c.in_ok-ty.ensures.gives in
    let n = c.in_ok-name.ensures.gives in
    let i = c.in_ok-next.ensures.gives in
    let r = c.in_ok-over.ensures.gives in
    let b = c.in_ok-turn.ensures.gives in
    let shut = c.close_or-close.ensures ∙ close_same c.in_ok-turn.turn.close b.0.close c.in_ok-at.at w.0.at b.1.2 w.1 in
    let type = type_later c.in_ok-ty.ensures.sound (grown_on c.in_ok-name.ensures.grown (grown_on c.in_ok-over.ensures.grown c.in_ok-turn.ensures.grown)) c.in_ok-ty.ty s.0 s.1 in
    let name = name_later c.in_ok-name.ensures.sound (grown_on c.in_ok-over.ensures.grown c.in_ok-turn.ensures.grown) c.in_ok-name.name n.0 n.1 in
    let over = turns_later c.in_ok-over.ensures.sound c.in_ok-turn.ensures.grown c.in_ok-over.over r.0 r.1 in
    let line = elim c.match-over-2.branch as (λ z. IsOpenLine c.body.new.arena (record { kind = c.match-over-2.kind; at = c.in_ok-at.at; close = c.close_or-close.result }, c.in_ok-turn.turn.is_open) (for_of s.0 n.0 r.0 b.0 w.0.at)) [
      | for_loop-in-Range v ↦ subst (λ z. IsOpenLine c.body.new.arena (record { kind = z; at = c.in_ok-at.at; close = c.close_or-close.result }, c.in_ok-turn.turn.is_open) (for_of s.0 n.0 r.0 b.0 w.0.at)) (sym v.kind-is) (range_line c.body.new.arena c.in_ok-at.at c.close_or-close.result w.0.at w.1 c.in_ok-ty.ty c.in_ok-name.name c.in_ok-turn.turn.statements.items c.in_ok-turn.turn.is_open s.0 n.0 b.0 shut b.1.1 type name b.1.0 v.in-Range.start v.in-Range.step v.in-Range.stop r.0 (subst (λ z. IsTurns c.body.new.arena z r.0) v.in-Range.is over))
      | for_loop-in-Set v ↦ subst (λ z. IsOpenLine c.body.new.arena (record { kind = z; at = c.in_ok-at.at; close = c.close_or-close.result }, c.in_ok-turn.turn.is_open) (for_of s.0 n.0 r.0 b.0 w.0.at)) (sym v.kind-is) (set_line c.body.new.arena c.in_ok-at.at c.close_or-close.result w.0.at w.1 c.in_ok-ty.ty c.in_ok-name.name c.in_ok-turn.turn.statements.items c.in_ok-turn.turn.is_open s.0 n.0 b.0 shut b.1.1 type name b.1.0 v.in-Set.members r.0 (subst (λ z. IsTurns c.body.new.arena z r.0) v.in-Set.is over))
    ] in
    (for_of s.0 n.0 r.0 b.0 w.0.at, line, omega (arith, w.2, s.2, n.2, i.2, r.2, b.2), b.3, rw (w.4, s.4, n.4, i.4, r.4, b.4) refl)

pub for_loop-returns-clause-spare : goal.for_loop-returns-clause-spare
for_loop-returns-clause-spare t c =
    let s = c.in_ok-ty.ensures.gives in
    let n = c.in_ok-name.ensures.gives in
    let i = c.in_ok-next.ensures.gives in
    let r = c.in_ok-over.ensures.gives in
    omega (arith, c.in_ok-at.ensures.next, ap length c.in_ok-ty.ensures.kept, s.2, ap length c.in_ok-name.ensures.kept, n.2, i.2, ap length c.in_ok-over.ensures.kept, r.2, c.in_ok-turn.ensures.paid)

pub for_loop-returns-clause-grown : goal.for_loop-returns-clause-grown
for_loop-returns-clause-grown t c =
    grown_on c.in_ok-ty.ensures.grown (grown_on c.in_ok-name.ensures.grown (grown_on c.in_ok-over.ensures.grown c.in_ok-turn.ensures.grown))

pub control-returns-then-sees_word-clause-gives : goal.control-returns-then-sees_word-clause-gives
unfolding read_control
control-returns-then-sees_word-clause-gives t c =
    behind (IsOpenLine c.conditional.new.arena) c.args.tokens.now c.args.from c.args.from (read_control c.args.text.now (Some 64) c.args.room (deeper_body c.args.text.now c.args.room) (drop c.args.from c.args.tokens.now)) (read_conditional c.args.text.now (Some 64) c.args.room (deeper_body c.args.text.now c.args.room) (drop c.args.from c.args.tokens.now)) c.conditional.result (le_refl _) (rw (word_heads c.args.text.now (drop c.args.from c.args.tokens.now) k.If true (sym c.sees_word.ensures.value ∙ c.if-sees_word.true)) refl) c.conditional.ensures.gives

pub control-returns-then-sees_word-2-clause-gives : goal.control-returns-then-sees_word-2-clause-gives
unfolding read_control
control-returns-then-sees_word-2-clause-gives t c =
    behind (IsOpenLine c.while_loop.new.arena) c.args.tokens.now c.args.from c.args.from (read_control c.args.text.now (Some 64) c.args.room (deeper_body c.args.text.now c.args.room) (drop c.args.from c.args.tokens.now)) (read_while_loop c.args.text.now (Some 64) c.args.room (deeper_body c.args.text.now c.args.room) (drop c.args.from c.args.tokens.now)) c.while_loop.result (le_refl _) (rw (word_heads c.args.text.now (drop c.args.from c.args.tokens.now) k.If false (sym c.sees_word.ensures.value ∙ c.if-sees_word.false), word_heads c.args.text.now (drop c.args.from c.args.tokens.now) k.While true (sym c.sees_word-2.ensures.value ∙ c.if-sees_word-2.true)) refl) c.while_loop.ensures.gives

pub control-returns-clause-gives : goal.control-returns-clause-gives
unfolding read_control
control-returns-clause-gives t c =
    behind (IsOpenLine c.for_loop.new.arena) c.args.tokens.now c.args.from c.args.from (read_control c.args.text.now (Some 64) c.args.room (deeper_body c.args.text.now c.args.room) (drop c.args.from c.args.tokens.now)) (read_for_loop c.args.text.now (Some 64) c.args.room (deeper_body c.args.text.now c.args.room) (drop c.args.from c.args.tokens.now)) c.for_loop.result (le_refl _) (rw (word_heads c.args.text.now (drop c.args.from c.args.tokens.now) k.If false (sym c.sees_word.ensures.value ∙ c.if-sees_word.false), word_heads c.args.text.now (drop c.args.from c.args.tokens.now) k.While false (sym c.sees_word-2.ensures.value ∙ c.if-sees_word-2.false)) refl) c.for_loop.ensures.gives

pub declaration-returns-then-sees_word-clause-gives : goal.declaration-returns-then-sees_word-clause-gives
unfolding read_declaration
declaration-returns-then-sees_word-clause-gives t c =
    behind (IsLine c.args.arena.now) c.args.tokens.now c.args.from c.args.from (read_declaration c.args.text.now (Some 64) c.args.room (deeper_block c.args.text.now c.args.room) (drop c.args.from c.args.tokens.now)) (read_inclusion c.args.text.now (drop c.args.from c.args.tokens.now)) c.inclusion.result (le_refl _) (rw (word_heads c.args.text.now (drop c.args.from c.args.tokens.now) k.Include true (sym c.sees_word.ensures.value ∙ c.if-sees_word.true)) refl) c.inclusion.ensures.gives

pub declaration-returns-then-sees_word-2-clause-gives : goal.declaration-returns-then-sees_word-2-clause-gives
unfolding read_declaration
declaration-returns-then-sees_word-2-clause-gives t c =
    behind (IsLine c.qubit_line.new.arena) c.args.tokens.now c.args.from c.args.from (read_declaration c.args.text.now (Some 64) c.args.room (deeper_block c.args.text.now c.args.room) (drop c.args.from c.args.tokens.now)) (read_qubit_line c.args.text.now (Some 64) c.args.room (drop c.args.from c.args.tokens.now)) c.qubit_line.result (le_refl _) (rw (word_heads c.args.text.now (drop c.args.from c.args.tokens.now) k.Include false (sym c.sees_word.ensures.value ∙ c.if-sees_word.false), word_heads c.args.text.now (drop c.args.from c.args.tokens.now) k.Qubit true (sym c.sees_word-2.ensures.value ∙ c.if-sees_word-2.true)) refl) c.qubit_line.ensures.gives

pub declaration-returns-then-sees_word-3-clause-gives : goal.declaration-returns-then-sees_word-3-clause-gives
unfolding read_declaration
declaration-returns-then-sees_word-3-clause-gives t c =
    behind (IsLine c.qreg_line.new.arena) c.args.tokens.now c.args.from c.args.from (read_declaration c.args.text.now (Some 64) c.args.room (deeper_block c.args.text.now c.args.room) (drop c.args.from c.args.tokens.now)) (read_qreg_line c.args.text.now (Some 64) c.args.room (drop c.args.from c.args.tokens.now)) c.qreg_line.result (le_refl _) (rw (word_heads c.args.text.now (drop c.args.from c.args.tokens.now) k.Include false (sym c.sees_word.ensures.value ∙ c.if-sees_word.false), word_heads c.args.text.now (drop c.args.from c.args.tokens.now) k.Qubit false (sym c.sees_word-2.ensures.value ∙ c.if-sees_word-2.false), word_heads c.args.text.now (drop c.args.from c.args.tokens.now) k.Qreg true (sym c.sees_word-3.ensures.value ∙ c.if-sees_word-3.true)) refl) c.qreg_line.ensures.gives

pub declaration-returns-then-sees_word-4-clause-gives : goal.declaration-returns-then-sees_word-4-clause-gives
unfolding read_declaration
declaration-returns-then-sees_word-4-clause-gives t c =
    behind (IsLine c.creg_line.new.arena) c.args.tokens.now c.args.from c.args.from (read_declaration c.args.text.now (Some 64) c.args.room (deeper_block c.args.text.now c.args.room) (drop c.args.from c.args.tokens.now)) (read_creg_line c.args.text.now (Some 64) c.args.room (drop c.args.from c.args.tokens.now)) c.creg_line.result (le_refl _) (rw (word_heads c.args.text.now (drop c.args.from c.args.tokens.now) k.Include false (sym c.sees_word.ensures.value ∙ c.if-sees_word.false), word_heads c.args.text.now (drop c.args.from c.args.tokens.now) k.Qubit false (sym c.sees_word-2.ensures.value ∙ c.if-sees_word-2.false), word_heads c.args.text.now (drop c.args.from c.args.tokens.now) k.Qreg false (sym c.sees_word-3.ensures.value ∙ c.if-sees_word-3.false), word_heads c.args.text.now (drop c.args.from c.args.tokens.now) k.Creg true (sym c.sees_word-4.ensures.value ∙ c.if-sees_word-4.true)) refl) c.creg_line.ensures.gives

pub declaration-returns-then-begins_type-clause-gives : goal.declaration-returns-then-begins_type-clause-gives
unfolding read_declaration
declaration-returns-then-begins_type-clause-gives t c =
    behind (IsLine c.variable_line.new.arena) c.args.tokens.now c.args.from c.args.from (read_declaration c.args.text.now (Some 64) c.args.room (deeper_block c.args.text.now c.args.room) (drop c.args.from c.args.tokens.now)) (read_variable_line c.args.text.now (Some 64) c.args.room (drop c.args.from c.args.tokens.now)) c.variable_line.result (le_refl _) (rw (word_heads c.args.text.now (drop c.args.from c.args.tokens.now) k.Include false (sym c.sees_word.ensures.value ∙ c.if-sees_word.false), word_heads c.args.text.now (drop c.args.from c.args.tokens.now) k.Qubit false (sym c.sees_word-2.ensures.value ∙ c.if-sees_word-2.false), word_heads c.args.text.now (drop c.args.from c.args.tokens.now) k.Qreg false (sym c.sees_word-3.ensures.value ∙ c.if-sees_word-3.false), word_heads c.args.text.now (drop c.args.from c.args.tokens.now) k.Creg false (sym c.sees_word-4.ensures.value ∙ c.if-sees_word-4.false), sym c.begins_type.ensures ∙ c.if-begins_type.true) refl) c.variable_line.ensures.gives

pub declaration-returns-then-sees_word-5-clause-gives : goal.declaration-returns-then-sees_word-5-clause-gives
unfolding read_declaration
declaration-returns-then-sees_word-5-clause-gives t c =
    behind (IsLine c.constant_line.new.arena) c.args.tokens.now c.args.from c.args.from (read_declaration c.args.text.now (Some 64) c.args.room (deeper_block c.args.text.now c.args.room) (drop c.args.from c.args.tokens.now)) (read_constant_line c.args.text.now (Some 64) c.args.room (drop c.args.from c.args.tokens.now)) c.constant_line.result (le_refl _) (rw (word_heads c.args.text.now (drop c.args.from c.args.tokens.now) k.Include false (sym c.sees_word.ensures.value ∙ c.if-sees_word.false), word_heads c.args.text.now (drop c.args.from c.args.tokens.now) k.Qubit false (sym c.sees_word-2.ensures.value ∙ c.if-sees_word-2.false), word_heads c.args.text.now (drop c.args.from c.args.tokens.now) k.Qreg false (sym c.sees_word-3.ensures.value ∙ c.if-sees_word-3.false), word_heads c.args.text.now (drop c.args.from c.args.tokens.now) k.Creg false (sym c.sees_word-4.ensures.value ∙ c.if-sees_word-4.false), sym c.begins_type.ensures ∙ c.if-begins_type.false, word_heads c.args.text.now (drop c.args.from c.args.tokens.now) k.Const true (sym c.sees_word-5.ensures.value ∙ c.if-sees_word-5.true)) refl) c.constant_line.ensures.gives

pub declaration-returns-then-sees_word-6-clause-gives : goal.declaration-returns-then-sees_word-6-clause-gives
unfolding read_declaration
declaration-returns-then-sees_word-6-clause-gives t c =
    behind (IsLine c.output_line.new.arena) c.args.tokens.now c.args.from c.args.from (read_declaration c.args.text.now (Some 64) c.args.room (deeper_block c.args.text.now c.args.room) (drop c.args.from c.args.tokens.now)) (read_output_line c.args.text.now (Some 64) c.args.room (drop c.args.from c.args.tokens.now)) c.output_line.result (le_refl _) (rw (word_heads c.args.text.now (drop c.args.from c.args.tokens.now) k.Include false (sym c.sees_word.ensures.value ∙ c.if-sees_word.false), word_heads c.args.text.now (drop c.args.from c.args.tokens.now) k.Qubit false (sym c.sees_word-2.ensures.value ∙ c.if-sees_word-2.false), word_heads c.args.text.now (drop c.args.from c.args.tokens.now) k.Qreg false (sym c.sees_word-3.ensures.value ∙ c.if-sees_word-3.false), word_heads c.args.text.now (drop c.args.from c.args.tokens.now) k.Creg false (sym c.sees_word-4.ensures.value ∙ c.if-sees_word-4.false), sym c.begins_type.ensures ∙ c.if-begins_type.false, word_heads c.args.text.now (drop c.args.from c.args.tokens.now) k.Const false (sym c.sees_word-5.ensures.value ∙ c.if-sees_word-5.false), word_heads c.args.text.now (drop c.args.from c.args.tokens.now) k.Output true (sym c.sees_word-6.ensures.value ∙ c.if-sees_word-6.true)) refl) c.output_line.ensures.gives

pub declaration-returns-then-sees_word-7-clause-gives : goal.declaration-returns-then-sees_word-7-clause-gives
unfolding read_declaration
declaration-returns-then-sees_word-7-clause-gives t c =
    behind (IsLine c.alias_line.new.arena) c.args.tokens.now c.args.from c.args.from (read_declaration c.args.text.now (Some 64) c.args.room (deeper_block c.args.text.now c.args.room) (drop c.args.from c.args.tokens.now)) (read_alias_line c.args.text.now (Some 64) c.args.room (drop c.args.from c.args.tokens.now)) c.alias_line.result (le_refl _) (rw (word_heads c.args.text.now (drop c.args.from c.args.tokens.now) k.Include false (sym c.sees_word.ensures.value ∙ c.if-sees_word.false), word_heads c.args.text.now (drop c.args.from c.args.tokens.now) k.Qubit false (sym c.sees_word-2.ensures.value ∙ c.if-sees_word-2.false), word_heads c.args.text.now (drop c.args.from c.args.tokens.now) k.Qreg false (sym c.sees_word-3.ensures.value ∙ c.if-sees_word-3.false), word_heads c.args.text.now (drop c.args.from c.args.tokens.now) k.Creg false (sym c.sees_word-4.ensures.value ∙ c.if-sees_word-4.false), sym c.begins_type.ensures ∙ c.if-begins_type.false, word_heads c.args.text.now (drop c.args.from c.args.tokens.now) k.Const false (sym c.sees_word-5.ensures.value ∙ c.if-sees_word-5.false), word_heads c.args.text.now (drop c.args.from c.args.tokens.now) k.Output false (sym c.sees_word-6.ensures.value ∙ c.if-sees_word-6.false), word_heads c.args.text.now (drop c.args.from c.args.tokens.now) k.Let true (sym c.sees_word-7.ensures.value ∙ c.if-sees_word-7.true)) refl) c.alias_line.ensures.gives

pub declaration-returns-then-sees_word-8-clause-gives : goal.declaration-returns-then-sees_word-8-clause-gives
unfolding read_declaration
declaration-returns-then-sees_word-8-clause-gives t c =
    behind (IsLine c.gate_definition.new.arena) c.args.tokens.now c.args.from c.args.from (read_declaration c.args.text.now (Some 64) c.args.room (deeper_block c.args.text.now c.args.room) (drop c.args.from c.args.tokens.now)) (read_gate_definition c.args.text.now (Some 64) c.args.room (drop c.args.from c.args.tokens.now)) c.gate_definition.result (le_refl _) (rw (word_heads c.args.text.now (drop c.args.from c.args.tokens.now) k.Include false (sym c.sees_word.ensures.value ∙ c.if-sees_word.false), word_heads c.args.text.now (drop c.args.from c.args.tokens.now) k.Qubit false (sym c.sees_word-2.ensures.value ∙ c.if-sees_word-2.false), word_heads c.args.text.now (drop c.args.from c.args.tokens.now) k.Qreg false (sym c.sees_word-3.ensures.value ∙ c.if-sees_word-3.false), word_heads c.args.text.now (drop c.args.from c.args.tokens.now) k.Creg false (sym c.sees_word-4.ensures.value ∙ c.if-sees_word-4.false), sym c.begins_type.ensures ∙ c.if-begins_type.false, word_heads c.args.text.now (drop c.args.from c.args.tokens.now) k.Const false (sym c.sees_word-5.ensures.value ∙ c.if-sees_word-5.false), word_heads c.args.text.now (drop c.args.from c.args.tokens.now) k.Output false (sym c.sees_word-6.ensures.value ∙ c.if-sees_word-6.false), word_heads c.args.text.now (drop c.args.from c.args.tokens.now) k.Let false (sym c.sees_word-7.ensures.value ∙ c.if-sees_word-7.false), word_heads c.args.text.now (drop c.args.from c.args.tokens.now) k.Gate true (sym c.sees_word-8.ensures.value ∙ c.if-sees_word-8.true)) refl) c.gate_definition.ensures.gives

pub declaration-returns-clause-gives : goal.declaration-returns-clause-gives
unfolding read_declaration
declaration-returns-clause-gives t c =
    behind (IsLine c.subroutine_definition.new.arena) c.args.tokens.now c.args.from c.args.from (read_declaration c.args.text.now (Some 64) c.args.room (deeper_block c.args.text.now c.args.room) (drop c.args.from c.args.tokens.now)) (read_subroutine_definition c.args.text.now (Some 64) c.args.room (deeper_block c.args.text.now c.args.room) (drop c.args.from c.args.tokens.now)) c.subroutine_definition.result (le_refl _) (rw (word_heads c.args.text.now (drop c.args.from c.args.tokens.now) k.Include false (sym c.sees_word.ensures.value ∙ c.if-sees_word.false), word_heads c.args.text.now (drop c.args.from c.args.tokens.now) k.Qubit false (sym c.sees_word-2.ensures.value ∙ c.if-sees_word-2.false), word_heads c.args.text.now (drop c.args.from c.args.tokens.now) k.Qreg false (sym c.sees_word-3.ensures.value ∙ c.if-sees_word-3.false), word_heads c.args.text.now (drop c.args.from c.args.tokens.now) k.Creg false (sym c.sees_word-4.ensures.value ∙ c.if-sees_word-4.false), sym c.begins_type.ensures ∙ c.if-begins_type.false, word_heads c.args.text.now (drop c.args.from c.args.tokens.now) k.Const false (sym c.sees_word-5.ensures.value ∙ c.if-sees_word-5.false), word_heads c.args.text.now (drop c.args.from c.args.tokens.now) k.Output false (sym c.sees_word-6.ensures.value ∙ c.if-sees_word-6.false), word_heads c.args.text.now (drop c.args.from c.args.tokens.now) k.Let false (sym c.sees_word-7.ensures.value ∙ c.if-sees_word-7.false), word_heads c.args.text.now (drop c.args.from c.args.tokens.now) k.Gate false (sym c.sees_word-8.ensures.value ∙ c.if-sees_word-8.false)) refl) c.subroutine_definition.ensures.gives

pub subroutine_definition-returns-in_err-at-clause-gives : goal.subroutine_definition-returns-in_err-at-clause-gives
unfolding read_subroutine_definition
subroutine_definition-returns-in_err-at-clause-gives t c =
    handed _ _ _ _ c.from_residual.ensures c.in_err-at.ensures.gives (le_refl _) (λ x h. rw (h) refl)

pub subroutine_definition-returns-in_err-name-clause-gives : goal.subroutine_definition-returns-in_err-name-clause-gives
unfolding read_subroutine_definition
subroutine_definition-returns-in_err-name-clause-gives t c =
    let w = c.in_ok-at.ensures.gives in
    handed _ _ _ _ c.from_residual-in_err-name.ensures c.in_err-name.ensures.gives w.2 (λ x h. rw (w.4, h) refl)

pub subroutine_definition-returns-in_err-params-clause-gives : goal.subroutine_definition-returns-in_err-params-clause-gives
unfolding read_subroutine_definition
subroutine_definition-returns-in_err-params-clause-gives t c =
    let w = c.in_ok-at.ensures.gives in
    let n = c.in_ok-name.ensures.gives in
    handed _ _ _ _ c.from_residual-in_err-params.ensures c.in_err-params.ensures.gives (omega (arith, w.2, n.2)) (λ x h. rw (w.4, n.4, h) refl)

pub subroutine_definition-returns-in_err-result-clause-gives : goal.subroutine_definition-returns-in_err-result-clause-gives
unfolding read_subroutine_definition
subroutine_definition-returns-in_err-result-clause-gives t c =
    let w = c.in_ok-at.ensures.gives in
    let n = c.in_ok-name.ensures.gives in
    let ps = c.in_ok-params.ensures.gives in
    handed _ _ _ _ c.from_residual-in_err-result.ensures c.in_err-result.ensures.gives (omega (arith, w.2, n.2, ps.2)) (λ x h. rw (w.4, n.4, ps.4, h) refl)

pub subroutine_definition-returns-in_err-body-clause-gives : goal.subroutine_definition-returns-in_err-body-clause-gives
unfolding read_subroutine_definition
subroutine_definition-returns-in_err-body-clause-gives t c =
    let w = c.in_ok-at.ensures.gives in
    let n = c.in_ok-name.ensures.gives in
    let ps = c.in_ok-params.ensures.gives in
    let r = c.in_ok-result.ensures.gives in
    handed _ _ _ _ c.from_residual-in_err-body.ensures c.in_err-body.ensures.gives (omega (arith, w.2, n.2, ps.2, r.2)) (λ x h. rw (w.4, n.4, ps.4, r.4, h) refl)

pub subroutine_definition-returns-clause-gives : goal.subroutine_definition-returns-clause-gives
unfolding read_subroutine_definition
subroutine_definition-returns-clause-gives t c =
    let w = c.in_ok-at.ensures.gives in
    let n = c.in_ok-name.ensures.gives in
    let ps = c.in_ok-params.ensures.gives in
    let r = c.in_ok-result.ensures.gives in
    let b = c.in_ok-body.ensures.gives in
    let on_result = grown_on c.in_ok-result.ensures.grown c.in_ok-body.ensures.grown in
    let name = name_later c.in_ok-name.ensures.sound (grown_on c.in_ok-params.ensures.grown on_result) c.in_ok-name.name n.0 n.1 in
    let params = list_on (IsParameter c.parameters.new.arena) (IsParameter c.block.new.arena) c.in_ok-params.params.items ps.0 (parameter_later c.in_ok-params.ensures.sound on_result) ps.1 in
    let type = if_both_on (IsType c.result.new.arena) (IsType c.block.new.arena) (type_later c.in_ok-result.ensures.sound c.in_ok-body.ensures.grown) c.in_ok-result.result r.0 r.1 in
    (subroutine n.0 ps.0 r.0 b.0.statements w.0.at b.0.close, subroutine_line c.block.new.arena c.in_ok-at.at c.in_ok-body.body.close w.0.at b.0.close w.1 b.1.1 c.in_ok-name.name c.in_ok-params.params.items c.in_ok-result.result c.in_ok-body.body.statements.items n.0 ps.0 r.0 b.0.statements name params type b.1.0, omega (arith, w.2, n.2, ps.2, r.2, b.2), b.3, rw (w.4, n.4, ps.4, r.4, b.4) refl)

pub subroutine_definition-returns-clause-spare : goal.subroutine_definition-returns-clause-spare
subroutine_definition-returns-clause-spare t c =
    let w = c.in_ok-at.ensures.gives in
    let n = c.in_ok-name.ensures.gives in
    let ps = c.in_ok-params.ensures.gives in
    let r = c.in_ok-result.ensures.gives in
    omega (arith, w.2, ap length c.in_ok-name.ensures.kept, n.2, ap length c.in_ok-params.ensures.kept, ps.2, ap length c.in_ok-result.ensures.kept, r.2, c.in_ok-body.ensures.spare)

pub subroutine_definition-returns-clause-grown : goal.subroutine_definition-returns-clause-grown
subroutine_definition-returns-clause-grown t c =
    grown_on c.in_ok-name.ensures.grown (grown_on c.in_ok-params.ensures.grown (grown_on c.in_ok-result.ensures.grown c.in_ok-body.ensures.grown))

pub unlisted-returns-in_err-found-clause-gives : goal.unlisted-returns-in_err-found-clause-gives
unfolding read_stmt_at
unlisted-returns-in_err-found-clause-gives t c =
    let opened = stmt_open c.args.text.now c.args.room (drop c.args.from c.args.tokens.now) in
    handed _ _ _ _ c.from_residual.ensures c.in_err-found.ensures.gives (le_refl _) (λ x h. opened ∙ rw (sym c.begins_declaration.ensures ∙ c.if-begins_declaration.true, h) refl)

pub unlisted-returns-then-begins_declaration-clause-gives : goal.unlisted-returns-then-begins_declaration-clause-gives
unfolding read_stmt_at
unlisted-returns-then-begins_declaration-clause-gives t c =
    let opened = stmt_open c.args.text.now c.args.room (drop c.args.from c.args.tokens.now) in
    let s = c.in_ok-found.ensures.gives in
    ((s.0, false), (s.1, refl), s.2, s.3, opened ∙ rw (sym c.begins_declaration.ensures ∙ c.if-begins_declaration.true, s.4) refl)

pub unlisted-returns-then-begins_declaration-clause-spare : goal.unlisted-returns-then-begins_declaration-clause-spare
unlisted-returns-then-begins_declaration-clause-spare t c =
    let s = unlisted-returns-then-begins_declaration-clause-gives t c in
    c.in_ok-found.ensures.spare (goes_on c.args.tokens.now c.args.from c.in_ok-found.next (stmt_moves c.args.text.now (Some 64) c.args.room (drop c.args.from c.args.tokens.now) s.0 (drop c.in_ok-found.next c.args.tokens.now) s.4))

pub unlisted-returns-in_err-found-2-clause-gives : goal.unlisted-returns-in_err-found-2-clause-gives
unfolding read_stmt_at
unlisted-returns-in_err-found-2-clause-gives t c =
    let opened = stmt_open c.args.text.now c.args.room (drop c.args.from c.args.tokens.now) in
    handed _ _ _ _ c.from_residual-in_err-found-2.ensures c.in_err-found-2.ensures.gives (le_refl _) (λ x h. opened ∙ rw (sym c.begins_declaration.ensures ∙ c.if-begins_declaration.false, sym c.begins_action.ensures ∙ c.if-begins_action.true, h) refl)

pub unlisted-returns-then-begins_action-clause-gives : goal.unlisted-returns-then-begins_action-clause-gives
unfolding read_stmt_at
unlisted-returns-then-begins_action-clause-gives t c =
    let opened = stmt_open c.args.text.now c.args.room (drop c.args.from c.args.tokens.now) in
    let s = c.in_ok-found-2.ensures.gives in
    ((s.0, false), (s.1, refl), s.2, s.3, opened ∙ rw (sym c.begins_declaration.ensures ∙ c.if-begins_declaration.false, sym c.begins_action.ensures ∙ c.if-begins_action.true, s.4) refl)

pub unlisted-returns-then-begins_action-clause-spare : goal.unlisted-returns-then-begins_action-clause-spare
unlisted-returns-then-begins_action-clause-spare t c =
    let s = unlisted-returns-then-begins_action-clause-gives t c in
    kept_spare c.args.arena.now c.action.new.arena c.args.from c.in_ok-found-2.next c.in_ok-found-2.ensures.kept (goes_on c.args.tokens.now c.args.from c.in_ok-found-2.next (stmt_moves c.args.text.now (Some 64) c.args.room (drop c.args.from c.args.tokens.now) s.0 (drop c.in_ok-found-2.next c.args.tokens.now) s.4))

pub unlisted-returns-clause-gives : goal.unlisted-returns-clause-gives
unfolding read_stmt_at
unlisted-returns-clause-gives t c =
    behind (IsOpenLine c.control.new.arena) c.args.tokens.now c.args.from c.args.from (read_stmt c.args.text.now (Some 64) c.args.room (drop c.args.from c.args.tokens.now)) (read_control c.args.text.now (Some 64) c.args.room (deeper_body c.args.text.now c.args.room) (drop c.args.from c.args.tokens.now)) c.control.result (le_refl _) (stmt_open c.args.text.now c.args.room (drop c.args.from c.args.tokens.now) ∙ rw (sym c.begins_declaration.ensures ∙ c.if-begins_declaration.false, sym c.begins_action.ensures ∙ c.if-begins_action.false) refl) c.control.ensures.gives

pub stmt-returns-clause-gives : goal.stmt-returns-clause-gives
stmt-returns-clause-gives t c =
    let s = c.in_ok-found.ensures.gives in
    (s.0, (pushed_statement c.unlisted.new.arena c.push.new.arena c.in_ok-found.found c.in_ok-id.id c.in_ok-found.ensures.sound c.in_ok-id.ensures.pushed s.0.0 s.1.0, s.1.1), s.2, s.3, s.4)

pub stmt-returns-clause-paid : goal.stmt-returns-clause-paid
stmt-returns-clause-paid t c =
    pushed_paid c.args.arena.now c.unlisted.new.arena c.push.new.arena c.in_ok-found.found c.in_ok-id.id c.args.from c.in_ok-found.next c.in_ok-id.ensures.pushed c.in_ok-found.ensures.spare

pub stmt-returns-clause-few : goal.stmt-returns-clause-few
stmt-returns-clause-few t c =
    pushed_few c.args.arena.now c.unlisted.new.arena c.push.new.arena c.in_ok-found.found c.in_ok-id.id c.args.from c.in_ok-found.next c.in_ok-id.ensures.pushed c.in_ok-found.ensures.spare c.requires.few c.in_ok-found.ensures.few

pub stmt-returns-clause-sound : goal.stmt-returns-clause-sound
stmt-returns-clause-sound t c =
    pushed_sound c.unlisted.new.arena c.push.new.arena c.in_ok-found.found c.in_ok-id.id c.in_ok-found.ensures.sound c.in_ok-id.ensures.pushed c.in_ok-found.ensures.gives.1.0.0

pub stmts-stmts-init : goal.stmts-stmts-init
stmts-stmts-init t c =
    record {
      repeating = repeating_start c.args.text.now stmt_kinds (read_stmt c.args.text.now (Some 64) c.args.room) c.args.tokens.now c.args.from (Each (λ id s. IsStatement c.args.arena.now id s.0)) c.new-found.result.items (each_none _ _ c.new-found.ensures.items) c.requires.within;
      count = omega (arith, ap length c.new-found.ensures.items);
      grown = grown_same c.args.arena.now;
      paid = le_refl _;
      few = c.requires.few;
      sound = c.requires.sound;
    }

pub stmts-returns-in_err-id-clause-gives : goal.stmts-returns-in_err-id-clause-gives
stmts-returns-in_err-id-clause-gives t c =
    let g = c.stmts.invariant.repeating in
    handed _ _ _ _ c.from_residual.ensures c.in_err-id.ensures.gives g.from_at (λ x h. repeating_err c.args.text.now stmt_kinds (read_stmt c.args.text.now (Some 64) c.args.room) c.args.tokens.now c.args.from g (sym c.begins_stmt.ensures ∙ c.stmts-test.true) x h)

pub stmts-stmts-smaller : goal.stmts-stmts-smaller
stmts-stmts-smaller t c =
    let r = c.in_ok-id.ensures.gives in
    let shorter : length (drop c.in_ok-id.next c.args.tokens.now) < length (drop c.stmts.at c.args.tokens.now) = stmt_moves c.args.text.now (Some 64) c.args.room (drop c.stmts.at c.args.tokens.now) r.0 (drop c.in_ok-id.next c.args.tokens.now) r.4 in
    let on : c.stmts.at < c.in_ok-id.next = omega (arith, shorter, length-drop c.in_ok-id.next c.args.tokens.now, length-drop c.stmts.at c.args.tokens.now) in
    omega (arith, on, r.3)

pub stmts-stmts-preserved : goal.stmts-stmts-preserved
stmts-stmts-preserved t c =
    let g = c.stmts.invariant.repeating in
    let r = c.in_ok-id.ensures.gives in
    let shorter : length (drop c.in_ok-id.next c.args.tokens.now) < length (drop c.stmts.at c.args.tokens.now) = stmt_moves c.args.text.now (Some 64) c.args.room (drop c.stmts.at c.args.tokens.now) r.0 (drop c.in_ok-id.next c.args.tokens.now) r.4 in
    let on : c.stmts.at < c.in_ok-id.next = omega (arith, shorter, length-drop c.in_ok-id.next c.args.tokens.now, length-drop c.stmts.at c.args.tokens.now) in
    let push = pushed c.push.result c.stmts.found.items c.push.new.self.items (c.stmts.found.items ++ c.in_ok-id.id ∷ []) c.push.ensures.items (sym c.is_err.ensures.value ∙ c.if-is_err.false) in
    let kept = each_on (λ (id : StmtId) (s : Opened). IsStatement c.stmts.arena id s.0) (λ (id : StmtId) (s : Opened). IsStatement c.stmt.new.arena id s.0) (λ id s. statement_later c.stmts.invariant.sound c.in_ok-id.ensures.grown id s.0) c.stmts.found.items g.acc g.sees in
    let seen = subst (λ l. Each (λ (id : StmtId) (s : Opened). IsStatement c.stmt.new.arena id s.0) l (g.acc ++ r.0 ∷ [])) (sym push) (each_push (λ (id : StmtId) (s : Opened). IsStatement c.stmt.new.arena id s.0) c.stmts.found.items g.acc c.in_ok-id.id r.0 kept r.1.0) in
    record {
      repeating = repeating_more c.args.text.now stmt_kinds (read_stmt c.args.text.now (Some 64) c.args.room) c.args.tokens.now c.args.from g (sym c.begins_stmt.ensures ∙ c.stmts-test.true) (Each (λ id s. IsStatement c.stmt.new.arena id s.0)) c.in_ok-id.next r.0 c.push.new.self.items seen on r.3 r.4;
      count = omega (arith, ap length push, length-append c.stmts.found.items (c.in_ok-id.id ∷ []), on, c.stmts.invariant.count);
      grown = grown_on c.stmts.invariant.grown c.in_ok-id.ensures.grown;
      paid = omega (arith, c.stmts.invariant.paid, c.in_ok-id.ensures.paid);
      few = c.in_ok-id.ensures.few;
      sound = c.in_ok-id.ensures.sound;
    }

pub stmts-returns-clause-gives : goal.stmts-returns-clause-gives
stmts-returns-clause-gives t c =
    let g = c.stmts.invariant.repeating in
    let end : c.stmts.at ≤ length c.args.tokens.now = g.at_end in
    (g.acc, opened_list c.stmts.arena c.stmts.found.items g.acc (omega (arith, end, c.stmts.invariant.count, c.requires.cut.few)) g.sees, g.from_at, g.at_end, repeating_stop c.args.text.now stmt_kinds (read_stmt c.args.text.now (Some 64) c.args.room) c.args.tokens.now c.args.from g (sym c.begins_stmt.ensures ∙ c.stmts-test.false))
