use Rattle.std.proofs.Common.{◌+◌, ◌∙◌, drop, pos, arith}
use Rattle.qasm_types.specs.Values.{number_of_bits}
use Rattle.source_values.proofs.RegisterBits.{next_bit, odd_at, half_at, one_more}
use Rattle.source_values.proofs.bits.resized.Goals as goal

pub loop-place-preserved : goal.loop-place-preserved
loop-place-preserved c =
    let bits = c.args.bits.now in
    let k = c.loop-place.place in
    record {
      bits =
          rw c.in_ok-push.ensures.items
          (next_bit c.loop-place.others.items c.args.width k (pos (number_of_bits bits)) (pos (number_of_bits (drop k bits))) (pos (number_of_bits (drop (k + 1) bits))) c.bit_at.result (omega arith) (c.bit_at.ensures ∙ odd_at k bits) (half_at k bits) c.loop-place.invariant.bits);
      count = one_more c.loop-place.others.items c.bit_at.result c.push.new.self.items k c.in_ok-push.ensures.items c.loop-place.invariant.count;
    }
