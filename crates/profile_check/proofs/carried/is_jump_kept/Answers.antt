use Rattle.std.proofs.Common.{◌<◌, ◌^◌, arith}
use Rattle.profile_check.proofs.BitLemmas.{jump_words}
use Rattle.profile_check.proofs.carried.is_jump_kept.Goals as goal

pub returns : goal.returns
returns c =
    let small : c.word-wanted.result < 2 ^ 64 = omega (arith, c.word-wanted.type_inv) in
    jump_words c.args.carried.now c.args.assigned.now c.args.jump c.word-wanted.result c.word.result c.word-2.result c.word-wanted.ensures c.word.ensures c.word-2.ensures small
