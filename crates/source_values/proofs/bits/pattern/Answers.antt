use Rattle.std.proofs.Common.{◌∙◌, arith}
use Rattle.std.specs.Int.{w128}
use Rattle.std.proofs.lemmas.Int.{to_z-of_z}
use Rattle.source_values.proofs.RegisterBits.{next_bit, one_more}
use Rattle.source_values.proofs.bits.pattern.Goals as goal

pub loop-preserved : goal.loop-preserved
loop-preserved c =
    let back = to_z-of_z w128 c.div_euclid-rest.result (record { sfits = c.div_euclid-rest.type_inv }) in
    record {
      bits = rw c.in_ok-push.ensures.items (next_bit c.loop.bits.items c.args.width c.loop.counter _ _ _ _ (omega arith) c.is_odd.ensures (back ∙ c.div_euclid-rest.ensures) c.loop.invariant.bits);
      count = one_more c.loop.bits.items _ c.push.new.self.items c.loop.counter c.in_ok-push.ensures.items c.loop.invariant.count;
    }
