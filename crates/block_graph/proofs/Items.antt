-- The rules on single items and on their order in the text, together.
use Rattle.std.proofs.Common.{◌≡◌, nat_lt, true, length, refl}
use Rattle.std.specs.List.{list_all}
use Rattle.qir_module.specs.Spots.{Spot}
use Rattle.qir_module.specs.Passes.{are_distinct, item_ids, is_qubit, is_result, item_fits, item_labels, item_constants_fit, flags_kept, entry_kept, qubit_ids_kept, result_ids_kept, calls_kept, constants_kept, distinct_qubits_kept, label_texts_kept}
use Rattle.core_ir.specs.Core.{Core}
use Rattle.core_ir.specs.Laws.{StmtsUnfold}
use Rattle.phi_place.specs.Phis.{WaysCarry, SameWhereNotDiffer}
use Rattle.block_graph.specs.Laws.{IsLowerable, KeepsItemRules}
use Rattle.block_graph.specs.Lowering.{Coder, whole_work, lowered}
use Rattle.block_graph.proofs.Spotting.{spot_at, each_spot}
use Rattle.block_graph.proofs.Ruling.{module_instrs, first_true, item_rule, declarations_rule, labels_rule, assigned_rule, begins_once, initialize_rule}
use Rattle.block_graph.proofs.Limiting.{limits_rule}
use Rattle.block_graph.proofs.Ordering.{is_in_order}
use Rattle.block_graph.proofs.Whole.{is_graph, program_fits}

pub keeps_items : StmtsUnfold → WaysCarry → SameWhereNotDiffer → (core : Core) (coder : Coder) → IsLowerable core coder → KeepsItemRules (lowered core coder)
keeps_items unfolds carry keeps core coder l =
    let m = lowered core coder in
    let instrs = module_instrs carry keeps core coder l in
    let n = is_in_order carry keeps core coder l in
    let graph = is_graph carry keeps core coder l.coder_fits (program_fits core l.fits l.held) l.fits.well_formed.levels in
    let st = graph.starts in
    record {
      flags = each_spot (λ (s : Spot). flags_kept m s ≡ true) m (λ k b is front item rest e. first_true (spot_at k b front item) true refl);
      entry = each_spot (λ (s : Spot). entry_kept m s ≡ true) m (λ k b is front item rest e. first_true (spot_at k b front item) true refl);
      qubit_ids = item_rule core (whole_work core coder).next m instrs qubit_ids_kept (λ item. list_all (λ n. nat_lt n m.qubits) (item_ids is_qubit item)) (λ s. refl) (λ p. refl) (λ l. refl) refl (λ i g. g.qubits);
      result_ids = item_rule core (whole_work core coder).next m instrs result_ids_kept (λ item. list_all (λ n. nat_lt n m.results) (item_ids is_result item)) (λ s. refl) (λ p. refl) (λ l. refl) refl (λ i g. g.measured);
      declarations = declarations_rule core (whole_work core coder).next m instrs n;
      calls = item_rule core (whole_work core coder).next m instrs calls_kept item_fits (λ s. refl) (λ p. refl) (λ l. refl) refl (λ i g. g.fits);
      initialize = initialize_rule core (whole_work core coder).next m instrs (begins_once core (whole_work core coder).next m instrs st.target graph.start.rest m.blocks refl st.found st.phis st.body);
      labels = labels_rule core (whole_work core coder).next m instrs n;
      assigned_once = assigned_rule core (whole_work core coder).next m instrs n;
      constants = item_rule core (whole_work core coder).next m instrs constants_kept item_constants_fit (λ s. refl) (λ p. refl) (λ l. refl) refl (λ i g. g.constants);
      distinct_qubits = item_rule core (whole_work core coder).next m instrs distinct_qubits_kept (λ item. are_distinct (item_ids is_qubit item)) (λ s. refl) (λ p. refl) (λ l. refl) refl (λ i g. g.apart);
      label_texts = item_rule core (whole_work core coder).next m instrs label_texts_kept (λ item. list_all (λ k. nat_lt k (length m.labels)) (item_labels item)) (λ s. refl) (λ p. refl) (λ l. refl) refl (λ i g. g.labels);
      limits = limits_rule unfolds carry keeps core coder l;
    }
