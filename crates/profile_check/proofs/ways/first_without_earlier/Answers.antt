use Rattle.std.proofs.Common.{◌≡◌, ◌<◌, false, true, None, Some, length, arith}
use Rattle.std.proofs.lemmas.Grind.{common_steps}
use Rattle.profile_check.specs.Ways.{row, any_below, without_earlier}
use Rattle.profile_check.proofs.NameLemmas.{no_earlier, some_earlier, first_entered}
use Rattle.profile_check.proofs.ways.first_without_earlier.Goals as goal
use Rattle.profile_check.proofs.ways.first_without_earlier.Goals.{else-block-ne0-via-then-block-ne0+else-not-has_earlier, else-block-ne0-via-else-block-ne0}

pub returns-then-not-has_earlier : goal.returns-then-not-has_earlier
returns-then-not-has_earlier c =
    let blocks = c.args.blocks.now in
    let k = c.loop-block.block in
    let within : k < length blocks = omega arith in
    let none : any_below k (row c.args.ways.now.items k) ≡ false = cc in
    let found : without_earlier blocks k c.index-blocks-block.result ≡ Some 0 = no_earlier c.args.ways.now.items blocks k c.index-blocks-block.result c.requires within (omega arith) none in
    grind (arith, common_steps)

pub loop-block-preserved : goal.loop-block-preserved
loop-block-preserved c =
    let blocks = c.args.blocks.now in
    let k = c.loop-block.block in
    let within : k < length blocks = omega arith in
    let found : without_earlier blocks k c.index-blocks-block.result ≡ None = elim c.else-block-ne0.branch [
      | else-block-ne0-via-then-block-ne0+else-not-has_earlier w ↦
          let some : any_below k (row c.args.ways.now.items k) ≡ true = cc in
          some_earlier c.args.ways.now.items blocks k c.index-blocks-block.result c.requires within some
      | else-block-ne0-via-else-block-ne0 w ↦ first_entered blocks k c.index-blocks-block.result (omega arith)
    ] in
    grind (arith, common_steps)
