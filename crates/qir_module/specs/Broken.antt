-- The rule that a module is refused by, and where: the least of the twenty that is not kept, at the first
-- item in the order of the text that does not meet its demand.
use Rattle.std.specs.Prelude.{ℕ, if◌then◌else◌, Bool, List, [], ◌∷◌, Option, Some, None}
use Rattle.qir_module.specs.Module.{Module}
use Rattle.qir_module.specs.Spots.{Spot, spots}
use Rattle.qir_module.specs.Passes.{Demand, flags_kept, entry_kept, qubit_ids_kept, result_ids_kept, declarations_kept, calls_kept, initialize_kept, labels_kept, assigned_once_kept, targets_kept, phis_kept, operand_types_kept, constants_kept, carried_registers_kept, carried_results_kept, distinct_qubits_kept, records_kept, label_texts_kept, earlier_way_kept, limits_kept}

-- a place in the text: a block and an item of it, both from 0
pub record Place : Type 0 where
  pub block : ℕ
  pub item : ℕ

-- a rule, by its number, that is not kept at a place
pub record Breach : Type 0 where
  pub rule : ℕ
  pub at : Place

-- the first of the items that does not pass a test
abbrev pub first_failing : (Spot → Bool) → List Spot → Option Place
first_failing test [] = None
first_failing test (s ∷ ss) = if test s then first_failing test ss else Some (record { block = s.block; item = s.item })

-- the first place at which a demand is not met
abbrev pub first_breach : Module → Demand → Option Place
first_breach m demand = first_failing (demand m) (spots m)

abbrev pub breach_or : ℕ → Option Place → Option Breach → Option Breach
breach_or rule (Some place) others = Some (record { rule = rule; at = place })
breach_or rule None others = others

abbrev pub first_rule : Module → List (ℕ × Demand) → Option Breach
first_rule m [] = None
first_rule m (rule ∷ rules) = breach_or rule.0 (first_breach m rule.1) (first_rule m rules)

-- the rules by their numbers
abbrev pub rules : List (ℕ × Demand)
rules =
    (1, flags_kept) ∷ (2, entry_kept) ∷ (3, qubit_ids_kept) ∷ (4, result_ids_kept) ∷ (5, declarations_kept)
    ∷ (6, calls_kept) ∷ (7, initialize_kept) ∷ (8, labels_kept) ∷ (9, assigned_once_kept) ∷ (10, targets_kept)
    ∷ (11, phis_kept) ∷ (12, operand_types_kept) ∷ (13, constants_kept) ∷ (14, carried_registers_kept) ∷ (15, carried_results_kept)
    ∷ (16, distinct_qubits_kept) ∷ (17, records_kept) ∷ (18, label_texts_kept) ∷ (19, earlier_way_kept) ∷ (20, limits_kept)
    ∷ []

abbrev pub broken : Module → Option Breach
broken m = first_rule m rules
