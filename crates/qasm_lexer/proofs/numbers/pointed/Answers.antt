use Rattle.std.proofs.Common.{inl, inr, ◌<◌, ◌⊎◌, length}
use Rattle.qasm_lexer.proofs.NumberSteps.{cut_nothing}
use Rattle.qasm_lexer.proofs.NumberFinds.{lone_point, float_at_point, none_false, some_digits, Never, FrontEmpty, BackEmpty, HasScale}
use Rattle.qasm_lexer.proofs.numbers.pointed.Goals as goal
use Rattle.qasm_lexer.proofs.numbers.pointed.Goals.{else-not-has_front-via-then-not-has_front+else-not-has_back, else-not-has_front-via-else-not-has_front, else-version-via-then-version+then-has_front+then-has_back+else-is_none, else-version-via-then-version+then-has_front+else-has_back, else-version-via-then-version+else-has_front, else-version-via-else-version}

pub returns-then-not-has_back : goal.returns-then-not-has_back
returns-then-not-has_back c =
    lone_point c.args.version c.requires.digits c.requires.point c.skip_passing-end.ensures (cut_nothing c.requires.digits.cuts c.if-not-has_front.true) (cut_nothing c.skip_passing-end.ensures.cuts c.if-not-has_back.true)

pub returns : goal.returns
returns c =
    let some : (length c.args.point.now < length c.args.text.now) ⊎ (length c.skip_passing-end.result.now < length c.args.fraction.now) = elim c.else-not-has_front.branch [
      | else-not-has_front-via-then-not-has_front+else-not-has_back w ↦ inr w.if-not-has_back.false
      | else-not-has_front-via-else-not-has_front w ↦ inl w.if-not-has_front.false
    ] in
    float_at_point c.args.version c.requires.digits c.requires.point c.skip_passing-end.ensures (some_digits c.requires.digits c.skip_passing-end.ensures some) c.skip_exponent-scale.result c.skip_exponent-scale.ensures (elim c.else-version.branch [
      | else-version-via-then-version+then-has_front+then-has_back+else-is_none w ↦ HasScale (none_false _ _ w.is_none.ensures w.if-is_none.false)
      | else-version-via-then-version+then-has_front+else-has_back w ↦ BackEmpty (cut_nothing c.skip_passing-end.ensures.cuts w.if-has_back.false)
      | else-version-via-then-version+else-has_front w ↦ FrontEmpty (cut_nothing c.requires.digits.cuts w.if-has_front.false)
      | else-version-via-else-version w ↦ Never w.if-version.false
    ])
