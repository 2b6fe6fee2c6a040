-- Where the rules stand that are asked of the whole module, or of each item alone.
use Rattle.std.proofs.Common.{◌≡◌, ◌<◌, nat_eq, nat_lt, nat_le, Bool, true, false, not, ◌&&◌, if◌then◌else◌, List, [], ◌∷◌, length, map, Some, None, refl, ap, sym, ◌∙◌}
use Rattle.std.specs.List.{list_all}
use Rattle.qir_module.specs.declared.function.Function.{Function}
use Rattle.qir_module.specs.Module.{Module}
use Rattle.qir_module.specs.Numbered.{is_among}
use Rattle.qir_module.specs.Spots.{Spot, spots_from}
use Rattle.qir_module.specs.Passes.{at_first_item, is_adaptive, is_qubit, is_result, is_null, item_ids, item_fits, item_functions, item_constants_fit, initializes, is_only_zero, declared, are_distinct, flags_kept, entry_kept, qubit_ids_kept, result_ids_kept, declarations_kept, calls_kept, initialize_kept, constants_kept, distinct_qubits_kept, label_texts_kept, limits_kept, item_registers}
use Rattle.qir_module.specs.Broken.{first_failing, first_breach}
use Rattle.profile_check.specs.Walk.{first_place, first_in}
use Rattle.profile_check.specs.Calls.{ids_below, labels_below, called_among}
use Rattle.profile_check.proofs.Walks.{by_items, first_failing_same, start_or, whole_module}

none_fails : (ss : List Spot) → first_failing (λ s. true) ss ≡ None
none_fails [] = refl
none_fails (s ∷ ss) = none_fails ss

-- a demand on the whole module alone
pub whole_alone : (m : Module) (wanted : Bool) → 0 < length m.blocks → first_failing (λ s. at_first_item s wanted) (spots_from 0 m.blocks) ≡ start_or wanted None
whole_alone m wanted some =
    first_failing_same (λ s. at_first_item s wanted) (λ s. at_first_item s wanted && true) (spots_from 0 m.blocks) (λ s. with_true (at_first_item s wanted))
    ∙ whole_module wanted (λ s. true) m.blocks some
    ∙ ap (start_or wanted) (none_fails (spots_from 0 m.blocks))
  where
    with_true : (t : Bool) → t ≡ (t && true)
    with_true true = refl
    with_true false = refl

pub flags_at : (m : Module) → 0 < length m.blocks → first_breach m flags_kept ≡ start_or (nat_eq m.major 2 && nat_eq m.minor 0 && not m.dynamic_qubits && not m.dynamic_results) None
flags_at m some = whole_alone m (nat_eq m.major 2 && nat_eq m.minor 0 && not m.dynamic_qubits && not m.dynamic_results) some

pub entry_at : (m : Module) → 0 < length m.blocks → first_breach m entry_kept ≡ start_or (is_adaptive m.profile) None
entry_at m some = whole_alone m (is_adaptive m.profile) some

pub qubit_ids_at : (m : Module) → first_breach m qubit_ids_kept ≡ first_place (first_in (ids_below is_qubit m.qubits)) 0 m.blocks
unfolding ids_below
qubit_ids_at m = by_items (ids_below is_qubit m.qubits) 0 m.blocks

pub result_ids_at : (m : Module) → first_breach m result_ids_kept ≡ first_place (first_in (ids_below is_result m.results)) 0 m.blocks
unfolding ids_below
result_ids_at m = by_items (ids_below is_result m.results) 0 m.blocks

pub declarations_at : (m : Module) → 0 < length m.blocks → first_breach m declarations_kept ≡ start_or (are_distinct (declared m)) (first_place (first_in (called_among (declared m))) 0 m.blocks)
unfolding called_among
declarations_at m some =
    whole_module (are_distinct (declared m)) (λ s. list_all (is_among (declared m)) (item_functions s.here)) m.blocks some
    ∙ ap (start_or (are_distinct (declared m))) (by_items (called_among (declared m)) 0 m.blocks)

-- a function is declared twice
pub declared_twice_at : (m : Module) (ds : List Function) → ds ≡ m.declarations → 0 < length m.blocks → are_distinct (map (λ (f : Function). f.0) ds) ≡ false → first_breach m declarations_kept ≡ Some (record { block = 0; item = 0 })
declared_twice_at m ds is some twice =
    declarations_at m some
    ∙ ap (λ (t : Bool). start_or t (first_place (first_in (called_among (declared m))) 0 m.blocks)) (ap (λ (fs : List Function). are_distinct (map (λ (f : Function). f.0) fs)) (sym is) ∙ twice)

-- none is
pub declared_once_at : (m : Module) (ds : List Function) → ds ≡ m.declarations → 0 < length m.blocks → are_distinct (map (λ (f : Function). f.0) ds) ≡ true
    → first_breach m declarations_kept ≡ first_place (first_in (called_among (map (λ (f : Function). f.0) ds))) 0 m.blocks
declared_once_at m ds is some once =
    declarations_at m some
    ∙ ap (λ (t : Bool). start_or t (first_place (first_in (called_among (declared m))) 0 m.blocks)) (ap (λ (fs : List Function). are_distinct (map (λ (f : Function). f.0) fs)) (sym is) ∙ once)
    ∙ ap (λ (fs : List Function). first_place (first_in (called_among (map (λ (f : Function). f.0) fs))) 0 m.blocks) (sym is)

pub calls_at : (m : Module) → first_breach m calls_kept ≡ first_place (first_in (λ b i item. item_fits item)) 0 m.blocks
calls_at m = by_items (λ b i item. item_fits item) 0 m.blocks

pub initialize_at : (m : Module)
    → first_breach m initialize_kept ≡ first_place (first_in (λ b i item. if nat_eq b 0 && nat_eq i 0 then initializes item && is_only_zero (item_ids is_null item) else not (initializes item))) 0 m.blocks
initialize_at m = by_items (λ b i item. if nat_eq b 0 && nat_eq i 0 then initializes item && is_only_zero (item_ids is_null item) else not (initializes item)) 0 m.blocks

pub constants_at : (m : Module) → first_breach m constants_kept ≡ first_place (first_in (λ b i item. item_constants_fit item)) 0 m.blocks
constants_at m = by_items (λ b i item. item_constants_fit item) 0 m.blocks

pub distinct_qubits_at : (m : Module) → first_breach m distinct_qubits_kept ≡ first_place (first_in (λ b i item. are_distinct (item_ids is_qubit item))) 0 m.blocks
distinct_qubits_at m = by_items (λ b i item. are_distinct (item_ids is_qubit item)) 0 m.blocks

pub label_texts_at : (m : Module) → first_breach m label_texts_kept ≡ first_place (first_in (labels_below (length m.labels))) 0 m.blocks
unfolding labels_below
label_texts_at m = by_items (labels_below (length m.labels)) 0 m.blocks

pub limits_at : (m : Module) → 0 < length m.blocks
    → first_breach m limits_kept ≡ start_or (nat_le (length m.blocks) 16_384 && nat_le (length m.labels) 16_384 && nat_le m.qubits 1_024 && nat_le m.results 1_048_576) (first_place (first_in (λ b i item. list_all (λ n. nat_lt n 8_388_608) (item_registers item))) 0 m.blocks)
limits_at m some =
    let wanted = nat_le (length m.blocks) 16_384 && nat_le (length m.labels) 16_384 && nat_le m.qubits 1_024 && nat_le m.results 1_048_576 in
    whole_module wanted (λ s. list_all (λ n. nat_lt n 8_388_608) (item_registers s.here)) m.blocks some
    ∙ ap (start_or wanted) (by_items (λ b i item. list_all (λ n. nat_lt n 8_388_608) (item_registers item)) 0 m.blocks)
