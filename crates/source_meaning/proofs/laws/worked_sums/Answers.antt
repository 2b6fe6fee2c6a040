use Rattle.std.proofs.Common.{refl}
use Rattle.source_meaning.proofs.laws.worked_sums.Goals as goal

pub returns : goal.returns
returns c = record { row_k0 = refl; row_k1 = refl; row_k2 = refl; row_k3 = refl; row_k4 = refl; row_k5 = refl; row_k6 = refl; row_k7 = refl; row_k8 = refl; row_k9 = refl; row_k10 = refl; row_k11 = refl; row_k12 = refl; row_k14 = refl; row_k15 = refl; row_k16 = refl }
