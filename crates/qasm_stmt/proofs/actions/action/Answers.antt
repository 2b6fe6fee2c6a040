use Rattle.std.proofs.Common.{Some, true, false, drop, refl, sym, ap, ◌∙◌, le_refl}
use Rattle.qasm_lexer.specs.declared.token.Keyword.TheVariants as k
use Rattle.qasm_ast.specs.Tree.{break, continue, end}
use Rattle.grammar_parts.specs.Reading.{and_then}
use Rattle.qasm_expr.proofs.Exits.{behind, handed}
use Rattle.qasm_grammar.specs.Reader.{read_word_line, read_barrier_line, read_reset_line, read_measure_line, read_return_line, read_call_line, read_behind_name, read_action}
use Rattle.qasm_stmt.specs.Seen.{IsLine}
use Rattle.qasm_stmt.proofs.Spellings.{word_read, word_refused}
use Rattle.qasm_stmt.proofs.Lines.{word_heads}
use Rattle.qasm_stmt.proofs.actions.action.Goals.{then-begins_change-via-then-begins_change, then-begins_change-via-else-begins_change+then-sees_word-8}
use Rattle.qasm_stmt.proofs.actions.action.Goals as goal

pub returns-then-sees_word-clause-gives : goal.returns-then-sees_word-clause-gives
unfolding read_action
returns-then-sees_word-clause-gives c =
    let begun = word_heads c.args.text.now (drop c.args.from c.args.tokens.now) k.Barrier true (sym c.sees_word.ensures.value ∙ c.if-sees_word.true) in
    behind (IsLine c.barrier_line.new.arena) c.args.tokens.now c.args.from c.args.from _ (read_barrier_line c.args.text.now (Some 64) c.args.room (drop c.args.from c.args.tokens.now)) c.barrier_line.result (le_refl _) (rw begun refl) c.barrier_line.ensures.gives

pub returns-then-sees_word-2-clause-gives : goal.returns-then-sees_word-2-clause-gives
unfolding read_action
returns-then-sees_word-2-clause-gives c =
    let no_barrier = word_heads c.args.text.now (drop c.args.from c.args.tokens.now) k.Barrier false (sym c.sees_word.ensures.value ∙ c.if-sees_word.false) in
    let begun = word_heads c.args.text.now (drop c.args.from c.args.tokens.now) k.Reset true (sym c.sees_word-2.ensures.value ∙ c.if-sees_word-2.true) in
    behind (IsLine c.reset_line.new.arena) c.args.tokens.now c.args.from c.args.from _ (read_reset_line c.args.text.now (Some 64) c.args.room (drop c.args.from c.args.tokens.now)) c.reset_line.result (le_refl _) (rw (no_barrier, begun) refl) c.reset_line.ensures.gives

pub returns-then-sees_word-3-clause-gives : goal.returns-then-sees_word-3-clause-gives
unfolding read_action
returns-then-sees_word-3-clause-gives c =
    let no_barrier = word_heads c.args.text.now (drop c.args.from c.args.tokens.now) k.Barrier false (sym c.sees_word.ensures.value ∙ c.if-sees_word.false) in
    let no_reset = word_heads c.args.text.now (drop c.args.from c.args.tokens.now) k.Reset false (sym c.sees_word-2.ensures.value ∙ c.if-sees_word-2.false) in
    let begun = word_heads c.args.text.now (drop c.args.from c.args.tokens.now) k.Measure true (sym c.sees_word-3.ensures.value ∙ c.if-sees_word-3.true) in
    behind (IsLine c.measure_line.new.arena) c.args.tokens.now c.args.from c.args.from _ (read_measure_line c.args.text.now (Some 64) c.args.room (drop c.args.from c.args.tokens.now)) c.measure_line.result (le_refl _) (rw (no_barrier, no_reset, begun) refl) c.measure_line.ensures.gives

pub returns-then-sees_word-4-clause-gives : goal.returns-then-sees_word-4-clause-gives
unfolding read_action
returns-then-sees_word-4-clause-gives c =
    let no_barrier = word_heads c.args.text.now (drop c.args.from c.args.tokens.now) k.Barrier false (sym c.sees_word.ensures.value ∙ c.if-sees_word.false) in
    let no_reset = word_heads c.args.text.now (drop c.args.from c.args.tokens.now) k.Reset false (sym c.sees_word-2.ensures.value ∙ c.if-sees_word-2.false) in
    let no_measure = word_heads c.args.text.now (drop c.args.from c.args.tokens.now) k.Measure false (sym c.sees_word-3.ensures.value ∙ c.if-sees_word-3.false) in
    let begun = word_heads c.args.text.now (drop c.args.from c.args.tokens.now) k.Break true (sym c.sees_word-4.ensures.value ∙ c.if-sees_word-4.true) in
    behind (IsLine c.args.arena.now) c.args.tokens.now c.args.from c.args.from _ (read_word_line c.args.text.now k.Break break (drop c.args.from c.args.tokens.now)) c.break_line.result (le_refl _) (rw (no_barrier, no_reset, no_measure, begun) refl) c.break_line.ensures.gives

pub returns-then-sees_word-5-clause-gives : goal.returns-then-sees_word-5-clause-gives
unfolding read_action
returns-then-sees_word-5-clause-gives c =
    let no_barrier = word_heads c.args.text.now (drop c.args.from c.args.tokens.now) k.Barrier false (sym c.sees_word.ensures.value ∙ c.if-sees_word.false) in
    let no_reset = word_heads c.args.text.now (drop c.args.from c.args.tokens.now) k.Reset false (sym c.sees_word-2.ensures.value ∙ c.if-sees_word-2.false) in
    let no_measure = word_heads c.args.text.now (drop c.args.from c.args.tokens.now) k.Measure false (sym c.sees_word-3.ensures.value ∙ c.if-sees_word-3.false) in
    let no_break = word_heads c.args.text.now (drop c.args.from c.args.tokens.now) k.Break false (sym c.sees_word-4.ensures.value ∙ c.if-sees_word-4.false) in
    let begun = word_heads c.args.text.now (drop c.args.from c.args.tokens.now) k.Continue true (sym c.sees_word-5.ensures.value ∙ c.if-sees_word-5.true) in
    behind (IsLine c.args.arena.now) c.args.tokens.now c.args.from c.args.from _ (read_word_line c.args.text.now k.Continue continue (drop c.args.from c.args.tokens.now)) c.continue_line.result (le_refl _) (rw (no_barrier, no_reset, no_measure, no_break, begun) refl) c.continue_line.ensures.gives

pub returns-then-sees_word-6-clause-gives : goal.returns-then-sees_word-6-clause-gives
unfolding read_action
returns-then-sees_word-6-clause-gives c =
    let no_barrier = word_heads c.args.text.now (drop c.args.from c.args.tokens.now) k.Barrier false (sym c.sees_word.ensures.value ∙ c.if-sees_word.false) in
    let no_reset = word_heads c.args.text.now (drop c.args.from c.args.tokens.now) k.Reset false (sym c.sees_word-2.ensures.value ∙ c.if-sees_word-2.false) in
    let no_measure = word_heads c.args.text.now (drop c.args.from c.args.tokens.now) k.Measure false (sym c.sees_word-3.ensures.value ∙ c.if-sees_word-3.false) in
    let no_break = word_heads c.args.text.now (drop c.args.from c.args.tokens.now) k.Break false (sym c.sees_word-4.ensures.value ∙ c.if-sees_word-4.false) in
    let no_continue = word_heads c.args.text.now (drop c.args.from c.args.tokens.now) k.Continue false (sym c.sees_word-5.ensures.value ∙ c.if-sees_word-5.false) in
    let begun = word_heads c.args.text.now (drop c.args.from c.args.tokens.now) k.End true (sym c.sees_word-6.ensures.value ∙ c.if-sees_word-6.true) in
    behind (IsLine c.args.arena.now) c.args.tokens.now c.args.from c.args.from _ (read_word_line c.args.text.now k.End end (drop c.args.from c.args.tokens.now)) c.end_line.result (le_refl _) (rw (no_barrier, no_reset, no_measure, no_break, no_continue, begun) refl) c.end_line.ensures.gives

pub returns-then-sees_word-7-clause-gives : goal.returns-then-sees_word-7-clause-gives
unfolding read_action
returns-then-sees_word-7-clause-gives c =
    let no_barrier = word_heads c.args.text.now (drop c.args.from c.args.tokens.now) k.Barrier false (sym c.sees_word.ensures.value ∙ c.if-sees_word.false) in
    let no_reset = word_heads c.args.text.now (drop c.args.from c.args.tokens.now) k.Reset false (sym c.sees_word-2.ensures.value ∙ c.if-sees_word-2.false) in
    let no_measure = word_heads c.args.text.now (drop c.args.from c.args.tokens.now) k.Measure false (sym c.sees_word-3.ensures.value ∙ c.if-sees_word-3.false) in
    let no_break = word_heads c.args.text.now (drop c.args.from c.args.tokens.now) k.Break false (sym c.sees_word-4.ensures.value ∙ c.if-sees_word-4.false) in
    let no_continue = word_heads c.args.text.now (drop c.args.from c.args.tokens.now) k.Continue false (sym c.sees_word-5.ensures.value ∙ c.if-sees_word-5.false) in
    let no_end = word_heads c.args.text.now (drop c.args.from c.args.tokens.now) k.End false (sym c.sees_word-6.ensures.value ∙ c.if-sees_word-6.false) in
    let begun = word_heads c.args.text.now (drop c.args.from c.args.tokens.now) k.Return true (sym c.sees_word-7.ensures.value ∙ c.if-sees_word-7.true) in
    behind (IsLine c.return_line.new.arena) c.args.tokens.now c.args.from c.args.from _ (read_return_line c.args.text.now (Some 64) c.args.room (drop c.args.from c.args.tokens.now)) c.return_line.result (le_refl _) (rw (no_barrier, no_reset, no_measure, no_break, no_continue, no_end, begun) refl) c.return_line.ensures.gives

pub returns-then-begins_change-clause-gives : goal.returns-then-begins_change-clause-gives
unfolding read_action
returns-then-begins_change-clause-gives c =
    let no_barrier = word_heads c.args.text.now (drop c.args.from c.args.tokens.now) k.Barrier false (sym c.sees_word.ensures.value ∙ c.if-sees_word.false) in
    let no_reset = word_heads c.args.text.now (drop c.args.from c.args.tokens.now) k.Reset false (sym c.sees_word-2.ensures.value ∙ c.if-sees_word-2.false) in
    let no_measure = word_heads c.args.text.now (drop c.args.from c.args.tokens.now) k.Measure false (sym c.sees_word-3.ensures.value ∙ c.if-sees_word-3.false) in
    let no_break = word_heads c.args.text.now (drop c.args.from c.args.tokens.now) k.Break false (sym c.sees_word-4.ensures.value ∙ c.if-sees_word-4.false) in
    let no_continue = word_heads c.args.text.now (drop c.args.from c.args.tokens.now) k.Continue false (sym c.sees_word-5.ensures.value ∙ c.if-sees_word-5.false) in
    let no_end = word_heads c.args.text.now (drop c.args.from c.args.tokens.now) k.End false (sym c.sees_word-6.ensures.value ∙ c.if-sees_word-6.false) in
    let no_return = word_heads c.args.text.now (drop c.args.from c.args.tokens.now) k.Return false (sym c.sees_word-7.ensures.value ∙ c.if-sees_word-7.false) in
    elim c.then-begins_change.branch [
      | then-begins_change-via-then-begins_change w ↦
          let begun = sym c.begins_change.ensures ∙ w.if-begins_change.true in
          behind (IsLine c.call_line.new.arena) c.args.tokens.now c.args.from c.args.from _ (read_call_line c.args.text.now (Some 64) c.args.room (drop c.args.from c.args.tokens.now)) c.call_line.result (le_refl _) (rw (no_barrier, no_reset, no_measure, no_break, no_continue, no_end, no_return, begun) refl) c.call_line.ensures.gives
      | then-begins_change-via-else-begins_change+then-sees_word-8 w ↦
          let no_change = sym c.begins_change.ensures ∙ w.if-begins_change.false in
          let begun = word_heads c.args.text.now (drop c.args.from c.args.tokens.now) k.Gphase true (sym w.sees_word-else-begins_change.ensures.value ∙ w.if-sees_word-8.true) in
          behind (IsLine c.call_line.new.arena) c.args.tokens.now c.args.from c.args.from _ (read_call_line c.args.text.now (Some 64) c.args.room (drop c.args.from c.args.tokens.now)) c.call_line.result (le_refl _) (rw (no_barrier, no_reset, no_measure, no_break, no_continue, no_end, no_return, no_change, begun) refl) c.call_line.ensures.gives
    ]

pub returns-in_err-name-clause-gives : goal.returns-in_err-name-clause-gives
unfolding read_action
returns-in_err-name-clause-gives c =
    let no_barrier = word_heads c.args.text.now (drop c.args.from c.args.tokens.now) k.Barrier false (sym c.sees_word.ensures.value ∙ c.if-sees_word.false) in
    let no_reset = word_heads c.args.text.now (drop c.args.from c.args.tokens.now) k.Reset false (sym c.sees_word-2.ensures.value ∙ c.if-sees_word-2.false) in
    let no_measure = word_heads c.args.text.now (drop c.args.from c.args.tokens.now) k.Measure false (sym c.sees_word-3.ensures.value ∙ c.if-sees_word-3.false) in
    let no_break = word_heads c.args.text.now (drop c.args.from c.args.tokens.now) k.Break false (sym c.sees_word-4.ensures.value ∙ c.if-sees_word-4.false) in
    let no_continue = word_heads c.args.text.now (drop c.args.from c.args.tokens.now) k.Continue false (sym c.sees_word-5.ensures.value ∙ c.if-sees_word-5.false) in
    let no_end = word_heads c.args.text.now (drop c.args.from c.args.tokens.now) k.End false (sym c.sees_word-6.ensures.value ∙ c.if-sees_word-6.false) in
    let no_return = word_heads c.args.text.now (drop c.args.from c.args.tokens.now) k.Return false (sym c.sees_word-7.ensures.value ∙ c.if-sees_word-7.false) in
    let no_change = sym c.begins_change.ensures ∙ c.if-begins_change.false in
    let no_phase = word_heads c.args.text.now (drop c.args.from c.args.tokens.now) k.Gphase false (sym c.sees_word-else-begins_change.ensures.value ∙ c.if-sees_word-8.false) in
    handed _ _ _ _ c.from_residual.ensures c.in_err-name.ensures.gives (le_refl _) (λ x h. rw (no_barrier, no_reset, no_measure, no_break, no_continue, no_end, no_return, no_change, no_phase, word_refused c.args.text.now (drop c.args.from c.args.tokens.now) x h) refl)

pub returns-clause-gives : goal.returns-clause-gives
unfolding read_action
returns-clause-gives c =
    let no_barrier = word_heads c.args.text.now (drop c.args.from c.args.tokens.now) k.Barrier false (sym c.sees_word.ensures.value ∙ c.if-sees_word.false) in
    let no_reset = word_heads c.args.text.now (drop c.args.from c.args.tokens.now) k.Reset false (sym c.sees_word-2.ensures.value ∙ c.if-sees_word-2.false) in
    let no_measure = word_heads c.args.text.now (drop c.args.from c.args.tokens.now) k.Measure false (sym c.sees_word-3.ensures.value ∙ c.if-sees_word-3.false) in
    let no_break = word_heads c.args.text.now (drop c.args.from c.args.tokens.now) k.Break false (sym c.sees_word-4.ensures.value ∙ c.if-sees_word-4.false) in
    let no_continue = word_heads c.args.text.now (drop c.args.from c.args.tokens.now) k.Continue false (sym c.sees_word-5.ensures.value ∙ c.if-sees_word-5.false) in
    let no_end = word_heads c.args.text.now (drop c.args.from c.args.tokens.now) k.End false (sym c.sees_word-6.ensures.value ∙ c.if-sees_word-6.false) in
    let no_return = word_heads c.args.text.now (drop c.args.from c.args.tokens.now) k.Return false (sym c.sees_word-7.ensures.value ∙ c.if-sees_word-7.false) in
    let no_change = sym c.begins_change.ensures ∙ c.if-begins_change.false in
    let no_phase = word_heads c.args.text.now (drop c.args.from c.args.tokens.now) k.Gphase false (sym c.sees_word-else-begins_change.ensures.value ∙ c.if-sees_word-8.false) in
    let g = c.in_ok-name.ensures.gives in
    let read = word_read c.args.text.now (drop c.args.from c.args.tokens.now) g.0 (drop c.in_ok-name.next c.args.tokens.now) g.4 in
    behind (IsLine c.behind_name.new.arena) c.args.tokens.now c.args.from c.in_ok-name.next _ (read_behind_name c.args.text.now (Some 64) c.args.room (g.0.text, g.0.place) (drop c.in_ok-name.next c.args.tokens.now)) c.behind_name.result g.2 (rw (no_barrier, no_reset, no_measure, no_break, no_continue, no_end, no_return, no_change, no_phase) (ap (λ o. and_then o (read_behind_name c.args.text.now (Some 64) c.args.room)) read)) (c.behind_name.ensures.gives (g.0.text, g.0.place) (g.1.0, g.1.1 ∙ sym refl))
