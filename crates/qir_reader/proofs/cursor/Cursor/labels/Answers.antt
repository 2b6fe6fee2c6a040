use Rattle.std.proofs.Common.{◌≡◌, ◌+◌, ◌-◌, ◌++◌, ◌∷◌, [], length, sym, ◌∙◌, subst, add-one}
use Rattle.std.proofs.lemmas.Result.{err_from_is_err_and}
use Rattle.grammar_parts.specs.Kinds.{among}
use Rattle.qir_module.specs.Words.{kind}
use Rattle.qir_module.specs.Reader.{label_kinds, read_label, next_label, read_labels, read_labels_from}
use Rattle.qir_reader.proofs.Going.{Going, going_stops, going_ends, going_on, going_fails}
use Rattle.qir_reader.proofs.cursor.Cursor.labels.Goals as goal

pub returns-then-not-sees : goal.returns-then-not-sees
unfolding read_labels
returns-then-not-sees c = going_stops (λ s. among kind label_kinds) read_label next_label c.loop-number.invariant (sym c.sees.ensures ∙ c.if-not-sees.true)

pub returns : goal.returns
unfolding read_labels
returns c = going_ends (λ s. among kind label_kinds) read_label next_label c.loop-number.invariant c.loop-number-test.false

pub returns-in_err-label : goal.returns-in_err-label
unfolding read_labels
returns-in_err-label c =
    let p = err_from_is_err_and c.from_residual.result c.from_residual.ensures.1 in
    rw (p.1, p.2) (λ other. going_fails (λ s. among kind label_kinds) read_label next_label c.loop-number.invariant c.loop-number-test.true (sym c.sees.ensures ∙ c.if-not-sees.false) (c.in_err-label.ensures other))

pub loop-number-preserved : goal.loop-number-preserved
loop-number-preserved c =
    let next = going_on (λ s. among kind label_kinds) read_label next_label c.loop-number.invariant c.loop-number-test.true (sym c.sees.ensures ∙ c.if-not-sees.false) c.in_ok-label.ensures in
    let items : c.push.new.self.items ≡ c.loop-number.found.items ++ c.in_ok-label.field-0 ∷ [] = c.in_ok-push.ensures.items in
    let old = c.args.self.now in
    subst (λ xs. Going (λ s. among kind label_kinds) read_label next_label (read_labels_from (length old) 0 old) (c.count-number-end.result - (c.loop-number.number + 1)) (c.loop-number.number + 1) xs c.label.new.self) (sym items)
    (subst (λ k. Going (λ s. among kind label_kinds) read_label next_label (read_labels_from (length old) 0 old) (c.count-number-end.result - (c.loop-number.number + 1)) k (c.loop-number.found.items ++ c.in_ok-label.field-0 ∷ []) c.label.new.self) (sym (add-one c.loop-number.number)) next)
