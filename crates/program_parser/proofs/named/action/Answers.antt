use Rattle.std.proofs.Common.{refl, sym, ◌∙◌}
use Rattle.qasm_grammar.specs.Reader.{read_action}
use Rattle.program_parser.proofs.Exits.{instead}
use Rattle.program_parser.proofs.Bodies.{plainly}
use Rattle.program_parser.proofs.named.action.Goals as goal

pub returns-then-sees_word : goal.returns-then-sees_word
unfolding read_action
returns-then-sees_word c = instead _ _ _ _ _ _ c.barrier_line.result (rw (sym c.sees_word.ensures ∙ c.if-sees_word.true) refl) (plainly _ _ _ _ c.barrier_line.result c.barrier_line.ensures)

pub returns-then-sees_word-2 : goal.returns-then-sees_word-2
unfolding read_action
returns-then-sees_word-2 c = instead _ _ _ _ _ _ c.reset_line.result (rw (sym c.sees_word.ensures ∙ c.if-sees_word.false, sym c.sees_word-2.ensures ∙ c.if-sees_word-2.true) refl) c.reset_line.ensures

pub returns-then-sees_word-3 : goal.returns-then-sees_word-3
unfolding read_action
returns-then-sees_word-3 c = instead _ _ _ _ _ _ c.measure_line.result (rw (sym c.sees_word.ensures ∙ c.if-sees_word.false, sym c.sees_word-2.ensures ∙ c.if-sees_word-2.false, sym c.sees_word-3.ensures ∙ c.if-sees_word-3.true) refl) c.measure_line.ensures

pub returns-then-sees_word-4 : goal.returns-then-sees_word-4
unfolding read_action
returns-then-sees_word-4 c = instead _ _ _ _ _ _ c.word_line.result (rw (sym c.sees_word.ensures ∙ c.if-sees_word.false, sym c.sees_word-2.ensures ∙ c.if-sees_word-2.false, sym c.sees_word-3.ensures ∙ c.if-sees_word-3.false, sym c.sees_word-4.ensures ∙ c.if-sees_word-4.true) refl) c.word_line.ensures

pub returns-then-sees_word-5 : goal.returns-then-sees_word-5
unfolding read_action
returns-then-sees_word-5 c = instead _ _ _ _ _ _ c.word_line-then-sees_word-5.result (rw (sym c.sees_word.ensures ∙ c.if-sees_word.false, sym c.sees_word-2.ensures ∙ c.if-sees_word-2.false, sym c.sees_word-3.ensures ∙ c.if-sees_word-3.false, sym c.sees_word-4.ensures ∙ c.if-sees_word-4.false, sym c.sees_word-5.ensures ∙ c.if-sees_word-5.true) refl) c.word_line-then-sees_word-5.ensures

pub returns-then-sees_word-6 : goal.returns-then-sees_word-6
unfolding read_action
returns-then-sees_word-6 c = instead _ _ _ _ _ _ c.word_line-then-sees_word-6.result (rw (sym c.sees_word.ensures ∙ c.if-sees_word.false, sym c.sees_word-2.ensures ∙ c.if-sees_word-2.false, sym c.sees_word-3.ensures ∙ c.if-sees_word-3.false, sym c.sees_word-4.ensures ∙ c.if-sees_word-4.false, sym c.sees_word-5.ensures ∙ c.if-sees_word-5.false, sym c.sees_word-6.ensures ∙ c.if-sees_word-6.true) refl) c.word_line-then-sees_word-6.ensures

pub returns-then-sees_word-7 : goal.returns-then-sees_word-7
unfolding read_action
returns-then-sees_word-7 c = instead _ _ _ _ _ _ c.return_line.result (rw (sym c.sees_word.ensures ∙ c.if-sees_word.false, sym c.sees_word-2.ensures ∙ c.if-sees_word-2.false, sym c.sees_word-3.ensures ∙ c.if-sees_word-3.false, sym c.sees_word-4.ensures ∙ c.if-sees_word-4.false, sym c.sees_word-5.ensures ∙ c.if-sees_word-5.false, sym c.sees_word-6.ensures ∙ c.if-sees_word-6.false, sym c.sees_word-7.ensures ∙ c.if-sees_word-7.true) refl) c.return_line.ensures

pub returns-then-begins : goal.returns-then-begins
unfolding read_action
returns-then-begins c = instead _ _ _ _ _ _ c.call_line.result (rw (sym c.sees_word.ensures ∙ c.if-sees_word.false, sym c.sees_word-2.ensures ∙ c.if-sees_word-2.false, sym c.sees_word-3.ensures ∙ c.if-sees_word-3.false, sym c.sees_word-4.ensures ∙ c.if-sees_word-4.false, sym c.sees_word-5.ensures ∙ c.if-sees_word-5.false, sym c.sees_word-6.ensures ∙ c.if-sees_word-6.false, sym c.sees_word-7.ensures ∙ c.if-sees_word-7.false, sym c.begins.ensures ∙ c.if-begins.true) refl) (plainly _ _ _ _ c.call_line.result c.call_line.ensures)

pub returns-then-sees_word-8 : goal.returns-then-sees_word-8
unfolding read_action
returns-then-sees_word-8 c = instead _ _ _ _ _ _ c.call_line-then-sees_word-8.result (rw (sym c.sees_word.ensures ∙ c.if-sees_word.false, sym c.sees_word-2.ensures ∙ c.if-sees_word-2.false, sym c.sees_word-3.ensures ∙ c.if-sees_word-3.false, sym c.sees_word-4.ensures ∙ c.if-sees_word-4.false, sym c.sees_word-5.ensures ∙ c.if-sees_word-5.false, sym c.sees_word-6.ensures ∙ c.if-sees_word-6.false, sym c.sees_word-7.ensures ∙ c.if-sees_word-7.false, sym c.begins.ensures ∙ c.if-begins.false, sym c.sees_word-8.ensures ∙ c.if-sees_word-8.true) refl) (plainly _ _ _ _ c.call_line-then-sees_word-8.result c.call_line-then-sees_word-8.ensures)

pub returns : goal.returns
unfolding read_action
returns c = instead _ _ _ _ _ _ c.named_line.result (rw (sym c.sees_word.ensures ∙ c.if-sees_word.false, sym c.sees_word-2.ensures ∙ c.if-sees_word-2.false, sym c.sees_word-3.ensures ∙ c.if-sees_word-3.false, sym c.sees_word-4.ensures ∙ c.if-sees_word-4.false, sym c.sees_word-5.ensures ∙ c.if-sees_word-5.false, sym c.sees_word-6.ensures ∙ c.if-sees_word-6.false, sym c.sees_word-7.ensures ∙ c.if-sees_word-7.false, sym c.begins.ensures ∙ c.if-begins.false, sym c.sees_word-8.ensures ∙ c.if-sees_word-8.false) refl) c.named_line.ensures
