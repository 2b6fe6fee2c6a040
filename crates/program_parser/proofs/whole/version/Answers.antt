use Rattle.std.proofs.Common.{Some, None, refl, sym, ◌∙◌, arith}
use Rattle.qasm_grammar.specs.Reader.{read_version_line}
use Rattle.qasm_parser.proofs.Growing.{after_same, after_on, fewer}
use Rattle.program_parser.proofs.Exits.{handed}
use Rattle.program_parser.proofs.whole.version.Goals as goal

pub returns-then-not-sees_word : goal.returns-then-not-sees_word
returns-then-not-sees_word c = record { value = None; shown = record { holds = λ v f. tt }; read = rw (sym c.sees_word.ensures ∙ c.if-not-sees_word.true) refl; after = after_same _ }

pub returns-in_err-word : goal.returns-in_err-word
unfolding read_version_line
returns-in_err-word c = handed _ _ _ _ _ _ c.from_residual.ensures (λ no. rw (sym c.sees_word.ensures ∙ c.if-not-sees_word.false, c.in_err-word.ensures.read no) refl)

pub returns-in_err-version_number : goal.returns-in_err-version_number
unfolding read_version_line
returns-in_err-version_number c =
    let w = c.in_ok-word.ensures in
    handed _ _ _ _ _ _ c.from_residual-in_err-version_number.ensures (λ no. rw (sym c.sees_word.ensures ∙ c.if-not-sees_word.false, w.read, c.in_err-version_number.ensures no) refl)

pub returns-in_err-mark : goal.returns-in_err-mark
unfolding read_version_line
returns-in_err-mark c =
    let w = c.in_ok-word.ensures in
    let n = c.in_ok-version_number.ensures in
    handed _ _ _ _ _ _ c.from_residual-in_err-mark.ensures (λ no. rw (sym c.sees_word.ensures ∙ c.if-not-sees_word.false, w.read, n.read, sym w.after.text, sym n.after.text, c.in_err-mark.ensures.read no) refl)

pub returns : goal.returns
unfolding read_version_line
returns c =
    let w = c.in_ok-word.ensures in
    let n = c.in_ok-version_number.ensures in
    let s = c.in_ok-mark.ensures in
    record {
      value = Some n.value;
      shown = record { holds = λ v f. tt };
      read = rw (sym c.sees_word.ensures ∙ c.if-not-sees_word.false, w.read, n.read, sym w.after.text, sym n.after.text, s.read) refl;
      after = fewer 3 0 (omega arith) (after_on w.after (after_on n.after s.after));
    }
