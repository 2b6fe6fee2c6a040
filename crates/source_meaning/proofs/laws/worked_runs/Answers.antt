use Rattle.std.proofs.Common.{refl}
use Rattle.std.specs.Fmt.{digits}
use Rattle.source_meaning.proofs.laws.worked_runs.Goals as goal

pub returns-clause-runs : goal.returns-clause-runs
returns-clause-runs c = record { swapped = refl; asked = refl; asked_at = refl; stopped = refl; no_turn = refl; no_turn_at = refl; repeated = refl; running = refl; running_stopped = refl; running_stopped_at = refl; in_copies = refl; in_members = refl; ended = refl }

pub returns-clause-values : goal.returns-clause-values
returns-clause-values c = record { wrapped = refl; row_r5a = refl; row_v1 = refl; row_v2 = refl; row_v3 = refl; row_v4 = refl; row_v5 = refl; row_v6 = refl; row_v8 = refl; row_v9 = refl; row_v10 = refl; row_p1 = refl; row_p2 = refl; row_p3 = refl; row_p4 = refl; row_l1 = refl; row_l2 = refl; row_l3 = refl; row_l4 = refl; row_l5 = refl; row_l6 = refl; row_l7 = refl; row_l8 = refl; row_l9 = refl; row_l10 = refl; row_f1 = refl; row_f2 = refl; row_f5 = refl; row_f6 = refl; row_f7 = refl }

pub returns-clause-labels : goal.returns-clause-labels
unfolding digits
returns-clause-labels c = record { labelled = refl }
