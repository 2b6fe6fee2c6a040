-- What a call behind the first item of a block has to meet so that no rule is broken there.
use Rattle.std.proofs.Common.{◌≡◌, ℕ, suc, Bool, true, not, ◌&&◌, ◌||◌, if◌then◌else◌, nat_eq, nat_lt, List, [], ◌∷◌, length, pos, Option, refl, sym, subst, arith}
use Rattle.std.specs.List.{AllByRecursion, list_all, list_any}
use Rattle.std.proofs.lemmas.Bool.{and_from, and_parts, or_left, ne_eqb}
use Rattle.qir_module.specs.declared.instruction.Operand.{Operand}
use Rattle.qir_module.specs.declared.instruction.Arg.{Arg}
use Rattle.qir_module.specs.declared.instruction.Instr.{Instr}
use Rattle.qir_module.specs.declared.instruction.Instr.TheVariants.{Call}
use Rattle.qir_module.specs.declared.instruction.Last.TheVariants.{Return}
use Rattle.qir_module.specs.declared.function.Function.{Function}
use Rattle.qir_module.specs.declared.block.Block.{Block}
use Rattle.qir_module.specs.Module.{Module}
use Rattle.qir_module.specs.Numbered.{registers_of, functions_of, is_among}
use Rattle.qir_module.specs.Spots.{Item, TheInstr, TheLast, Spot, spots}
use Rattle.qir_module.specs.Carried.{Thing, are_assigning, is_carried}
use Rattle.qir_module.specs.Passes.{Demand, IsKept, Passes, flags_kept, entry_kept, qubit_ids_kept, result_ids_kept, declarations_kept, calls_kept, initialize_kept, labels_kept, assigned_once_kept, targets_kept, phis_kept, operand_types_kept, constants_kept, carried_registers_kept, carried_results_kept, distinct_qubits_kept, records_kept, label_texts_kept, earlier_way_kept, limits_kept, are_distinct, declared, instr_ids, is_qubit, is_result, instr_fits, initializes, registers_assigned, instr_operands, has_type, registers_read, results_read, is_record, returns, instr_labels}

-- ---- all rules at one item

-- the demands of all rules are met at an item
pub record IsFine (m : Module) (s : Spot) : Type 0 where
  pub flags : flags_kept m s ≡ true
  pub entry : entry_kept m s ≡ true
  pub qubit_ids : qubit_ids_kept m s ≡ true
  pub result_ids : result_ids_kept m s ≡ true
  pub declarations : declarations_kept m s ≡ true
  pub calls : calls_kept m s ≡ true
  pub initialize : initialize_kept m s ≡ true
  pub labels : labels_kept m s ≡ true
  pub assigned_once : assigned_once_kept m s ≡ true
  pub targets : targets_kept m s ≡ true
  pub phis : phis_kept m s ≡ true
  pub operand_types : operand_types_kept m s ≡ true
  pub constants : constants_kept m s ≡ true
  pub carried_registers : carried_registers_kept m s ≡ true
  pub carried_results : carried_results_kept m s ≡ true
  pub distinct_qubits : distinct_qubits_kept m s ≡ true
  pub records : records_kept m s ≡ true
  pub label_texts : label_texts_kept m s ≡ true
  pub earlier_way : earlier_way_kept m s ≡ true
  pub limits : limits_kept m s ≡ true

each_kept : (m : Module) (demand : Demand) → ((s : Spot) → IsFine m s → demand m s ≡ true) → (ss : List Spot) → AllByRecursion (IsFine m) ss → AllByRecursion (λ (s : Spot). demand m s ≡ true) ss
each_kept m demand meets [] fine = tt
each_kept m demand meets (s ∷ ss) fine = (meets s fine.0, each_kept m demand meets ss fine.1)

-- a module passes where they are met at every item
pub passes_by_items : (m : Module) → AllByRecursion (IsFine m) (spots m) → Passes m
passes_by_items m fine = record {
  flags = kept flags_kept (λ s at. at.flags);
  entry = kept entry_kept (λ s at. at.entry);
  qubit_ids = kept qubit_ids_kept (λ s at. at.qubit_ids);
  result_ids = kept result_ids_kept (λ s at. at.result_ids);
  declarations = kept declarations_kept (λ s at. at.declarations);
  calls = kept calls_kept (λ s at. at.calls);
  initialize = kept initialize_kept (λ s at. at.initialize);
  labels = kept labels_kept (λ s at. at.labels);
  assigned_once = kept assigned_once_kept (λ s at. at.assigned_once);
  targets = kept targets_kept (λ s at. at.targets);
  phis = kept phis_kept (λ s at. at.phis);
  operand_types = kept operand_types_kept (λ s at. at.operand_types);
  constants = kept constants_kept (λ s at. at.constants);
  carried_registers = kept carried_registers_kept (λ s at. at.carried_registers);
  carried_results = kept carried_results_kept (λ s at. at.carried_results);
  distinct_qubits = kept distinct_qubits_kept (λ s at. at.distinct_qubits);
  records = kept records_kept (λ s at. at.records);
  label_texts = kept label_texts_kept (λ s at. at.label_texts);
  earlier_way = kept earlier_way_kept (λ s at. at.earlier_way);
  limits = kept limits_kept (λ s at. at.limits);
}
  where
    kept : (demand : Demand) → ((s : Spot) → IsFine m s → demand m s ≡ true) → IsKept m demand
    kept demand meets = each_kept m demand meets (spots m) fine

-- ---- items behind the first of the first block

abbrev pub spot : Block → ℕ → List Item → Item → Spot
spot b i front item = record { block = 0; item = i; of = b; front = front; here = item }

-- what is asked of the first item alone
abbrev if_first : ℕ → Bool → Bool → Bool
if_first i wanted otherwise = if nat_eq (suc i) 0 then wanted else otherwise

not_first : (i : ℕ) (wanted otherwise : Bool) → otherwise ≡ true → if_first i wanted otherwise ≡ true
not_first i wanted otherwise holds = subst (λ (c : Bool). (if c then wanted else otherwise) ≡ true) (sym (ne_eqb (suc i) 0 differs)) holds
  where
    differs : suc i ≡ 0 → ⊥
    differs same = absurd (omega (arith, same))

also_not_first : (i : ℕ) (wanted rest : Bool) → rest ≡ true → (if_first i wanted true && rest) ≡ true
also_not_first i wanted rest holds = and_from (if_first i wanted true) rest (not_first i wanted true refl) holds

-- what is assigned in front need not be carried into the block
assigned_or : (test other : Thing → Bool) (things : List Thing) → list_all test things ≡ true → list_all (λ t. test t || other t) things ≡ true
assigned_or test other [] holds = refl
assigned_or test other (t ∷ things) holds =
    let both = and_parts (test t) (list_all test things) holds in
    and_from (test t || other t) (list_all (λ x. test x || other x) things) (or_left (test t) (other t) both.0) (assigned_or test other things both.1)

-- what the rules ask of a call behind the items in front
pub record IsCallKept (m : Module) (b : Block) (front : List Item) (instr : Instr) : Type 0 where
  pub qubit_ids : list_all (λ n. nat_lt n m.qubits) (instr_ids is_qubit instr) ≡ true
  pub result_ids : list_all (λ n. nat_lt n m.results) (instr_ids is_result instr) ≡ true
  pub declared : list_all (is_among (declared m)) (functions_of instr) ≡ true
  pub fits : instr_fits instr ≡ true
  pub begins_nothing : not (initializes (TheInstr instr)) ≡ true
  pub assigned_once : list_all (λ r. not (is_among (registers_assigned front) r)) (registers_of instr) ≡ true
  pub types : list_all (λ (o : Operand × Bool). has_type m o.0 o.1) (instr_operands instr) ≡ true
  pub registers : list_all (are_assigning front) (registers_read (TheInstr instr)) ≡ true
  pub results : list_all (are_assigning front) (results_read (TheInstr instr)) ≡ true
  pub distinct_qubits : are_distinct (instr_ids is_qubit instr) ≡ true
  pub records : (if is_record (TheInstr instr) then returns b.last else not (list_any is_record front)) ≡ true
  pub labels : list_all (λ k. nat_lt k (length m.labels)) (instr_labels instr) ≡ true
  pub limits : list_all (λ r. nat_lt r 8_388_608) (registers_of instr) ≡ true

pub call_fine : (m : Module) (b : Block) (i : ℕ) (front : List Item) (register : Option ℕ) (f : Function) (args : List Arg) → IsCallKept m b front (Call register f args) → IsFine m (spot b (suc i) front (TheInstr (Call register f args)))
call_fine m b i front register f args kept = record {
  flags = not_first i _ true refl;
  entry = not_first i _ true refl;
  qubit_ids = kept.qubit_ids;
  result_ids = kept.result_ids;
  declarations = also_not_first i _ _ kept.declared;
  calls = kept.fits;
  initialize = not_first i _ _ kept.begins_nothing;
  labels = not_first i _ true refl;
  assigned_once = kept.assigned_once;
  targets = refl;
  phis = refl;
  operand_types = kept.types;
  constants = refl;
  carried_registers = and_from _ _ (and_from _ _ (carried (registers_read (TheInstr (Call register f args))) kept.registers) refl) refl;
  carried_results = and_from _ _ (carried (results_read (TheInstr (Call register f args))) kept.results) refl;
  distinct_qubits = kept.distinct_qubits;
  records = also_not_first i _ _ kept.records;
  label_texts = kept.labels;
  earlier_way = not_first i _ true refl;
  limits = also_not_first i _ _ kept.limits;
}
  where
    carried : (things : List Thing) → list_all (are_assigning front) things ≡ true → list_all (λ t. are_assigning front t || is_carried m.blocks 0 t) things ≡ true
    carried things holds = assigned_or (are_assigning front) (is_carried m.blocks 0) things holds

-- the return of 0 at the end
pub return_fine : (m : Module) (b : Block) (i : ℕ) (front : List Item) → IsFine m (spot b (suc i) front (TheLast (Return (pos 0))))
return_fine m b i front = record {
  flags = not_first i _ true refl;
  entry = not_first i _ true refl;
  qubit_ids = refl;
  result_ids = refl;
  declarations = also_not_first i _ true refl;
  calls = refl;
  initialize = not_first i _ true refl;
  labels = not_first i _ true refl;
  assigned_once = refl;
  targets = refl;
  phis = refl;
  operand_types = refl;
  constants = refl;
  carried_registers = refl;
  carried_results = refl;
  distinct_qubits = refl;
  records = also_not_first i _ true refl;
  label_texts = refl;
  earlier_way = not_first i _ true refl;
  limits = also_not_first i _ true refl;
}
