use Rattle.source_values.proofs.Casting.{zero_register}
use Rattle.source_values.proofs.cast.zero_value.Goals as goal

pub returns-in_ok-pattern-in-Bits : goal.returns-in_ok-pattern-in-Bits
returns-in_ok-pattern-in-Bits c =
    zero_register c.args.ty c.in-Bits.width c.in_ok-pattern-in-Bits.field-0.bits.items c.in-Bits.is c.in_ok-pattern-in-Bits.ensures.bits c.in_ok-pattern-in-Bits.ensures.count
