-- A module passes exactly where it breaks no rule.
use Rattle.std.proofs.Common.{◌≡◌, ℕ, Bool, true, false, if◌then◌else◌, List, [], ◌∷◌, Option, Some, None, refl, ap, ◌∙◌}
use Rattle.std.specs.List.{AllByRecursion}
use Rattle.qir_module.specs.Module.{Module}
use Rattle.qir_module.specs.Spots.{Spot, spots}
use Rattle.qir_module.specs.Passes.{Demand, Passes, flags_kept, entry_kept, qubit_ids_kept, result_ids_kept, declarations_kept, calls_kept, initialize_kept, labels_kept, assigned_once_kept, targets_kept, phis_kept, operand_types_kept, constants_kept, carried_registers_kept, carried_results_kept, distinct_qubits_kept, records_kept, label_texts_kept, earlier_way_kept, limits_kept}
use Rattle.qir_module.specs.Broken.{Place, Breach, first_failing, first_breach, breach_or, first_rule, rules, broken}

abbrev first_or : Option Place → Spot → Bool → Option Place
first_or others s t = if t then others else Some (record { block = s.block; item = s.item })

passes_first : (others : Option Place) (s : Spot) (t : Bool) → first_or others s t ≡ None → (t ≡ true) × (others ≡ None)
passes_first others s true none = (refl, none)
passes_first others s false none = absurd (cc)

all_pass : (test : Spot → Bool) (ss : List Spot) → first_failing test ss ≡ None → AllByRecursion (λ (s : Spot). test s ≡ true) ss
all_pass test [] none = tt
all_pass test (s ∷ ss) none =
    let both = passes_first (first_failing test ss) s (test s) none in
    (both.0, all_pass test ss both.1)

none_fails : (test : Spot → Bool) (ss : List Spot) → AllByRecursion (λ (s : Spot). test s ≡ true) ss → first_failing test ss ≡ None
none_fails test [] all = refl
none_fails test (s ∷ ss) all = ap (λ (b : Bool). if b then first_failing test ss else Some (record { block = s.block; item = s.item })) all.0 ∙ none_fails test ss all.1

both_none : (rule : ℕ) (o : Option Place) (others : Option Breach) → breach_or rule o others ≡ None → (o ≡ None) × (others ≡ None)
both_none rule None others none = (refl, none)
both_none rule (Some p) others none = absurd (cc)

each_none : (m : Module) (rs : List (ℕ × Demand)) → first_rule m rs ≡ None → AllByRecursion (λ (r : ℕ × Demand). first_breach m r.1 ≡ None) rs
each_none m [] none = tt
each_none m (r ∷ rs) none =
    let both = both_none r.0 (first_breach m r.1) (first_rule m rs) none in
    (both.0, each_none m rs both.1)

none_each : (m : Module) (rs : List (ℕ × Demand)) → AllByRecursion (λ (r : ℕ × Demand). first_breach m r.1 ≡ None) rs → first_rule m rs ≡ None
none_each m [] all = refl
none_each m (r ∷ rs) all = ap (λ (o : Option Place). breach_or r.0 o (first_rule m rs)) all.0 ∙ none_each m rs all.1

pub unbroken_passes : (m : Module) → broken m ≡ None → Passes m
unbroken_passes m none =
    let a = each_none m rules none in
    let kept = λ (demand : Demand) (is : first_breach m demand ≡ None). all_pass (demand m) (spots m) is in
    record {
      flags = kept flags_kept a.0;
      entry = kept entry_kept a.1.0;
      qubit_ids = kept qubit_ids_kept a.1.1.0;
      result_ids = kept result_ids_kept a.1.1.1.0;
      declarations = kept declarations_kept a.1.1.1.1.0;
      calls = kept calls_kept a.1.1.1.1.1.0;
      initialize = kept initialize_kept a.1.1.1.1.1.1.0;
      labels = kept labels_kept a.1.1.1.1.1.1.1.0;
      assigned_once = kept assigned_once_kept a.1.1.1.1.1.1.1.1.0;
      targets = kept targets_kept a.1.1.1.1.1.1.1.1.1.0;
      phis = kept phis_kept a.1.1.1.1.1.1.1.1.1.1.0;
      operand_types = kept operand_types_kept a.1.1.1.1.1.1.1.1.1.1.1.0;
      constants = kept constants_kept a.1.1.1.1.1.1.1.1.1.1.1.1.0;
      carried_registers = kept carried_registers_kept a.1.1.1.1.1.1.1.1.1.1.1.1.1.0;
      carried_results = kept carried_results_kept a.1.1.1.1.1.1.1.1.1.1.1.1.1.1.0;
      distinct_qubits = kept distinct_qubits_kept a.1.1.1.1.1.1.1.1.1.1.1.1.1.1.1.0;
      records = kept records_kept a.1.1.1.1.1.1.1.1.1.1.1.1.1.1.1.1.0;
      label_texts = kept label_texts_kept a.1.1.1.1.1.1.1.1.1.1.1.1.1.1.1.1.1.0;
      earlier_way = kept earlier_way_kept a.1.1.1.1.1.1.1.1.1.1.1.1.1.1.1.1.1.1.0;
      limits = kept limits_kept a.1.1.1.1.1.1.1.1.1.1.1.1.1.1.1.1.1.1.1.0;
    }

pub passing_is_unbroken : (m : Module) → Passes m → broken m ≡ None
passing_is_unbroken m p =
    let none = λ (demand : Demand) (all : AllByRecursion (λ (s : Spot). demand m s ≡ true) (spots m)). none_fails (demand m) (spots m) all in
    none_each m rules (
      none flags_kept p.flags,
      (
        none entry_kept p.entry,
        (
          none qubit_ids_kept p.qubit_ids,
          (
            none result_ids_kept p.result_ids,
            (
              none declarations_kept p.declarations,
              (
                none calls_kept p.calls,
                (
                  none initialize_kept p.initialize,
                  (
                    none labels_kept p.labels,
                    (
                      none assigned_once_kept p.assigned_once,
                      (
                        none targets_kept p.targets,
                        (
                          none phis_kept p.phis,
                          (
                            none operand_types_kept p.operand_types,
                            (
                              none constants_kept p.constants,
                              (
                                none carried_registers_kept p.carried_registers,
                                (
                                  none carried_results_kept p.carried_results,
                                  (none distinct_qubits_kept p.distinct_qubits, (none records_kept p.records, (none label_texts_kept p.label_texts, (none earlier_way_kept p.earlier_way, (none limits_kept p.limits, tt))))),
                                ),
                              ),
                            ),
                          ),
                        ),
                      ),
                    ),
                  ),
                ),
              ),
            ),
          ),
        ),
      ),
    )
