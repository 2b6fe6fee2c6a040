-- A level in a list, at its place.
use Rattle.std.proofs.Common.{◌≡◌, ℕ, zero, suc, ◌<◌, ◌≤◌, List, [], ◌∷◌, ◌++◌, length, get_or, refl, ap, arith}
use Rattle.std.specs.Prelude.{slice_set}
use Rattle.phi_place.specs.State.{CellState}
use Rattle.block_graph.specs.Work.{Level}
use Rattle.block_graph.specs.Lowering.{add_way, label_at}

pub label_at_get : (ls : List Level) (k : ℕ) (d : Level) → k < length ls → (get_or ls k d).label ≡ label_at ls k
label_at_get [] k d lt = absurd (omega (arith, lt))
label_at_get (l ∷ ls) zero d lt = refl
label_at_get (l ∷ ls) (suc k) d lt = label_at_get ls k d (omega (arith, lt))

pub label_at_past : (ls : List Level) (k : ℕ) → length ls ≤ k → label_at ls k ≡ 0
label_at_past [] k le = refl
label_at_past (l ∷ ls) zero le = absurd (omega (arith, le))
label_at_past (l ∷ ls) (suc k) le = label_at_past ls k (omega (arith, le))

pub add_way_set : (ls : List Level) (k : ℕ) (way : CellState) (d : Level) → k < length ls → slice_set ls k (record (get_or ls k d) { ways = (get_or ls k d).ways ++ way ∷ [] }) ≡ add_way ls k way
add_way_set [] k way d lt = absurd (omega (arith, lt))
add_way_set (l ∷ ls) zero way d lt = refl
add_way_set (l ∷ ls) (suc k) way d lt = ap (λ r. l ∷ r) (add_way_set ls k way d (omega (arith, lt)))

pub add_way_past : (ls : List Level) (k : ℕ) (way : CellState) → length ls ≤ k → ls ≡ add_way ls k way
add_way_past [] k way le = refl
add_way_past (l ∷ ls) zero way le = absurd (omega (arith, le))
add_way_past (l ∷ ls) (suc k) way le = ap (λ r. l ∷ r) (add_way_past ls k way (omega (arith, le)))
