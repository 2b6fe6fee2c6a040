use Rattle.std.proofs.Common.{◌≡◌, length, sym, ap, ◌∙◌, arith}
use Rattle.std.proofs.lemmas.List.{length-reverse}
use Rattle.const_eval.proofs.BitNumbers.{length-bits_of, pattern_pushed}
use Rattle.const_eval.proofs.cast.pattern.Goals as goal

pub loop-passed-preserved : goal.loop-passed-preserved
loop-passed-preserved c =
    pattern_pushed c.loop-passed.bits.items c.push.new.self.items c.args.number c.args.width c.loop-passed.passed c.loop-passed-test.true c.in_ok-push.ensures.items c.loop-passed.invariant

pub invariant_of-result : goal.invariant_of-result
invariant_of-result c =
    let size = sym (length-reverse c.loop-passed.bits.items) ∙ ap length c.loop-passed.invariant ∙ length-bits_of c.loop-passed.passed _ in
    record { few = omega (arith, size, c.requires) }

pub returns-clause-count : goal.returns-clause-count
returns-clause-count c =
    let all : c.loop-passed.passed ≡ c.args.width = omega arith in
    ap length c.loop-passed.invariant ∙ length-bits_of c.loop-passed.passed _ ∙ all
