use Rattle.std.proofs.Common.{◌≡◌, true, get_or, rules, arith}
use Rattle.const_eval.proofs.BitNumbers.{one_is_not_zero}
use Rattle.const_eval.proofs.number.has_one.Goals as goal

pub returns-then-bit : goal.returns-then-bit
returns-then-bit c =
    let e : true ≡ get_or c.args.bits.now c.loop-bit.bit-index true = search rules in
    one_is_not_zero c.args.bits.now c.loop-bit.bit-index (omega arith) e
