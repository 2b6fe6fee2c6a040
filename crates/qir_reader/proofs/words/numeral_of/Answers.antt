use Rattle.std.proofs.Common.{refl, arith}
use Rattle.qir_reader.proofs.Digits.{too_large}
use Rattle.qir_reader.proofs.words.numeral_of.Goals as goal

pub returns-then-value-from : goal.returns-then-value-from
returns-then-value-from c =
    let digit = c.if-not-is_ascii_digit.ensures in
    let i = c.loop-byte in
    too_large i.value i.byte-index _ c.args.body.now c.loop-byte-test.true refl digit.cases.0 digit.cases.1 i.invariant.value (omega arith)
