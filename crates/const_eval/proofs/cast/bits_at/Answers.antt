use Rattle.const_eval.proofs.Registers.{copied_register}
use Rattle.const_eval.proofs.cast.bits_at.Goals as goal

pub returns-in-Bits-clause-bits : goal.returns-in-Bits-clause-bits
returns-in-Bits-clause-bits c = copied_register c.args.value.now c.in-Bits.bits c.args.width c.copied.result c.in-Bits.is c.requires c.copied.ensures
