use Rattle.std.proofs.Common.{rules, ◌≡◌, w64}
use Rattle.std.specs.Int.{cast_signed, cast_unsigned}
use Rattle.qir_machine.proofs.Arguments.{with_word, without_word, with_id, without_id, with_truth, with_null, with_label}
use Rattle.qir_machine.proofs.given.Arguments.with.Goals as goal

pub returns-then-all-lt4 : goal.returns-then-all-lt4
returns-then-all-lt4 c = λ front r.
    let back : cast_signed w64 (cast_unsigned w64 c.in-Word.word) ≡ c.in-Word.word = search rules in
    rw (back, c.in-Word.is) (with_word front _ _ c.if-all-lt4.true r)

pub returns-else-all-lt4 : goal.returns-else-all-lt4
returns-else-all-lt4 c = λ front r. rw c.in-Word.is (without_word front _ _ c.if-all-lt4.false r)

pub returns-in-Truth : goal.returns-in-Truth
returns-in-Truth c = λ front r. rw c.in-Truth.is (with_truth front _ _ r)

pub returns-in-Null : goal.returns-in-Null
returns-in-Null c = λ front r. rw c.in-Null.is (with_null front _ r)

pub returns-then-all-lt3 : goal.returns-then-all-lt3
returns-then-all-lt3 c = λ front r. rw c.in-Id.is (with_id front _ _ c.if-all-lt3.true r)

pub returns-else-all-lt3 : goal.returns-else-all-lt3
returns-else-all-lt3 c = λ front r. rw c.in-Id.is (without_id front _ _ c.if-all-lt3.false r)

pub returns-in-Label : goal.returns-in-Label
returns-in-Label c = λ front r. rw c.in-Label.is (with_label front _ _ r)
