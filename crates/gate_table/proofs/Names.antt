-- No two names of the table are the same, by the test of all pairs.
use Rattle.std.proofs.Common.{◌≡◌, ℕ, nat_eq, List, length, refl}
use Rattle.std.specs.Set.{distinct_count}
use Rattle.std.specs.Cmp.Lexicographic.{pointwise}
use Rattle.std.proofs.lemmas.Cmp.{nat_list_eq_equiv}
use Rattle.std.proofs.lemmas.Map.Made.{IsDistinct-from_count, AllPairs-from_IsDistinct}
use Rattle.std.proofs.lemmas.Slice.Eq.{bytes_eq-Decides}
use Rattle.gate_table.specs.Table.{names}
use Rattle.gate_table.specs.Laws.{Differ, all_source_names}

differ : (those : List (List ℕ)) → distinct_count (pointwise nat_eq) those ≡ length those → Differ those
differ those count = AllPairs-from_IsDistinct bytes_eq-Decides those (IsDistinct-from_count nat_list_eq_equiv those count)

pub row_names_differ : Differ names
row_names_differ = differ names refl

pub source_names_differ : Differ all_source_names
source_names_differ = differ all_source_names refl
