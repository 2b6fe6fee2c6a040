use Rattle.const_eval.proofs.Registers.{complement_of_register}
use Rattle.const_eval.proofs.unary.complement.Goals as goal

pub returns-in_ok-turned-in-Bits : goal.returns-in_ok-turned-in-Bits
returns-in_ok-turned-in-Bits c =
    complement_of_register c.args.value.now c.in-Bits.bits c.in_ok-turned-in-Bits.field-0 c.args.at c.in-Bits.is c.in_ok-turned-in-Bits.ensures
