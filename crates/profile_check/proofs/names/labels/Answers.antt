use Rattle.std.proofs.Common.{arith}
use Rattle.profile_check.proofs.NameLemmas.{labels_at, labels_none_apart}
use Rattle.profile_check.proofs.names.labels.Goals as goal

pub returns-clause-apart : goal.returns-clause-apart
returns-clause-apart c = labels_none_apart c.args.module.now c.first_same_name.result (grind (arith, labels_at))
