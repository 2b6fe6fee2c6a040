-- Serves private contracts: the rules in order, from one on, and the first that is broken.
use Rattle.std.specs.Prelude.{ℕ, List, [], ◌∷◌, Option, Some, None}
use Rattle.qir_module.specs.Passes.{Demand, labels_kept, assigned_once_kept, targets_kept, phis_kept, operand_types_kept, constants_kept, carried_registers_kept, carried_results_kept, distinct_qubits_kept, records_kept, label_texts_kept, earlier_way_kept, limits_kept}
use Rattle.qir_module.specs.Broken.{Breach}
use Rattle.profile_check.specs.declared.first_broken.Found.{Found}
use Rattle.profile_check.specs.Rule.{number_of}

-- what was found, as a breach
abbrev pub breach_of : Option Found → Option Breach
breach_of None = None
breach_of (Some found) = Some (record { rule = number_of found.rule; at = record { block = found.at.block; item = found.at.item } })

abbrev pub rules_from_qubits : List (ℕ × Demand)
rules_from_qubits = (16, distinct_qubits_kept) ∷ (17, records_kept) ∷ (18, label_texts_kept) ∷ (19, earlier_way_kept) ∷ (20, limits_kept) ∷ []

abbrev pub rules_from_carried : List (ℕ × Demand)
rules_from_carried = (14, carried_registers_kept) ∷ (15, carried_results_kept) ∷ rules_from_qubits

abbrev pub rules_from_phis : List (ℕ × Demand)
rules_from_phis = (11, phis_kept) ∷ (12, operand_types_kept) ∷ (13, constants_kept) ∷ rules_from_carried

abbrev pub rules_from_labels : List (ℕ × Demand)
rules_from_labels = (8, labels_kept) ∷ (9, assigned_once_kept) ∷ (10, targets_kept) ∷ rules_from_phis
