use Rattle.std.proofs.Common.{◌<◌, length, arith}
use Rattle.profile_check.proofs.WaysLemmas.{row_set}
use Rattle.profile_check.proofs.rows.push_in_row.Goals as goal

pub returns-in_ok-push : goal.returns-in_ok-push
returns-in_ok-push g c =
    let within : c.args.to < length c.args.rows.now.items = omega arith in
    row_set c.args.rows.now.items c.args.to c.index_mut.result.now c.push.new.self c.args.one within c.index_mut.ensures.value c.in_ok-push.ensures.items
