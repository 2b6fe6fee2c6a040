use Rattle.std.proofs.Common.{◌<◌, length, arith}
use Rattle.profile_check.proofs.BitLemmas.{bit_set}
use Rattle.profile_check.proofs.carried.add_bit.Goals as goal

pub returns-then-block-len-clause-bits : goal.returns-then-block-len-clause-bits
returns-then-block-len-clause-bits c =
    let within : c.args.block < length c.args.words.now.items = omega arith in
    bit_set c.args.words.now.items c.args.block c.args.slot c.index_mut.result.now within c.index_mut.ensures.value
