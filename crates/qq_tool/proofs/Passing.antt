-- The module of a thin program passes every rule.
--
-- Behind the lines so far, the registers that are assigned are those below the number of measurements, and nothing is
-- recorded; so each measurement has a register of its own, and a bit that is recorded has its register assigned.
use Rattle.std.proofs.Common.{◌≡◌, ℕ, zero, suc, ◌+◌, ◌<◌, ◌≤◌, ◌≢◌, Bool, true, false, not, ◌&&◌, ◌||◌, if◌then◌else◌, nat_eq, nat_lt, nat_le, List, [], ◌∷◌, ◌++◌, length, map, filter, replicate, slice_set, pos, Some, None, inl, inr, refl, sym, ap, ◌∙◌, subst, arith, append-nil}
use Rattle.std.specs.List.{AllByRecursion, list_all, list_any, flat_map}
use Rattle.std.proofs.lemmas.Bool.{and_from, or_left, or_right, or_from, not_from_false, lt-ltb, le-leb, eq-eqb, ne_eqb, eqb-true, cases_lt, cond_both}
use Rattle.std.proofs.lemmas.Grind.{flat_map-append}
use Rattle.std.proofs.lemmas.List.Folds.{list_any-append}
use Rattle.std.proofs.lemmas.Map.Views.{any-filter_same}
use Rattle.qir_module.specs.declared.instruction.Operand.{Operand}
use Rattle.qir_module.specs.declared.instruction.Operand.TheVariants.{Register, Fixed}
use Rattle.qir_module.specs.declared.instruction.Arg.{Arg}
use Rattle.qir_module.specs.declared.instruction.Arg.TheVariants.{Number, Truth, Id, Text}
use Rattle.qir_module.specs.declared.instruction.Instr.{Instr}
use Rattle.qir_module.specs.declared.instruction.Instr.TheVariants.{Op, Zext, Trunc, Select, Call}
use Rattle.qir_module.specs.declared.instruction.Last.TheVariants.{Return}
use Rattle.qir_module.specs.declared.block.Block.{Block}
use Rattle.qir_module.specs.Module.{Module, IsShapedInstr}
use Rattle.qir_module.specs.Numbered.{counted, functions_of, called_functions, read_in, is_among, IsNumbered}
use Rattle.qir_module.specs.Spots.{Item, TheInstr, TheLast, items_in, Spot, spots_behind, block_spots}
use Rattle.qir_module.specs.Carried.{Thing, TheRegister, TheResult, same_thing, assigned_by, are_assigning}
use Rattle.qir_module.specs.Passes.{Passes, are_distinct, declared, instr_ids, is_qubit, is_result, instr_fits, initializes, instr_operands, has_type, register_in, instr_labels, item_registers, registers_assigned, assigned_with, assigned_as, is_fixed_truth, is_record, returns}
use Rattle.qq_tool.specs.declared.thin.ThinLine.{ThinLine}
use Rattle.qq_tool.specs.declared.thin.ThinLine.TheVariants.{Hadamard, Not, ControlledNot, Measure}
use Rattle.qq_tool.specs.Thin.{Thin, IsThin, IsWithin}
use Rattle.qq_tool.specs.ThinRun.{labels_of}
use Rattle.qq_tool.specs.Lowered.{function, call, lines_instrs, lines_count, lines_operands, bit_record_instrs, record_instrs, last_operands, lowered_block, lowered_body, lowered}
use Rattle.qq_tool.proofs.Orders.{lowered_numbered}
use Rattle.qq_tool.proofs.PassingCalls.{IsFine, spot, IsCallKept, call_fine, return_fine, passes_by_items}
use Rattle.qq_tool.proofs.Runs.{length-bit_labels}
use Rattle.qq_tool.proofs.Shapes.{lines_count-le, length-last_operands, lowered_shaped}

-- ---- tests of one and of two

alone : (b : Bool) → b ≡ true → (b && true) ≡ true
alone b holds = and_from b true holds refl

pair : (a b : Bool) → a ≡ true → b ≡ true → (a && (b && true)) ≡ true
pair a b first second = and_from a (b && true) first (alone b second)

-- ---- declarations

-- a number from k on is among so many from k on
among_counted : (k n j : ℕ) → k ≤ j → j < k + n → is_among (counted k n) j ≡ true
among_counted k zero j low high = absurd (omega (arith, low, high))
among_counted k (suc n) j low high = elim (cases_lt k j) [
  | inl above ↦ or_right (nat_eq j k) (is_among (counted (suc k) n) j) (among_counted (suc k) n j (omega (arith, above)) (omega (arith, high)))
  | inr below ↦ or_left (nat_eq j k) (is_among (counted (suc k) n) j) (eq-eqb j k (omega (arith, low, below)))
]

none_before : (test : ℕ → Bool) (k n j : ℕ) → j < k → is_among (filter test (counted k n)) j ≡ false
none_before test k zero j before = refl
none_before test k (suc n) j before =
    let others = filter test (counted (suc k) n) in
    let behind : is_among others j ≡ false = none_before test (suc k) n j (omega (arith, before)) in
    let differs : j ≡ k → ⊥ = λ same. absurd (omega (arith, before, same)) in
    cond_both (test k) (k ∷ others) others (λ (ns : List ℕ). is_among ns j ≡ false) (λ e. or_from (nat_eq j k) (is_among others j) (ne_eqb j k differs) behind) (λ e. behind)

distinct_filtered : (test : ℕ → Bool) (k n : ℕ) → are_distinct (filter test (counted k n)) ≡ true
distinct_filtered test k zero = refl
distinct_filtered test k (suc n) =
    let others = filter test (counted (suc k) n) in
    let distinct : are_distinct others ≡ true = distinct_filtered test (suc k) n in
    let other : is_among others k ≡ false = none_before test (suc k) n k (omega arith) in
    cond_both (test k) (k ∷ others) others (λ (ns : List ℕ). are_distinct ns ≡ true) (λ e. and_from (not (is_among others k)) (are_distinct others) (not_from_false (is_among others k) other) distinct) (λ e. distinct)

-- of a numbered module, each declaration is one of a kind, and each called function is declared
distinct_declared : (m : Module) → IsNumbered m → are_distinct (declared m) ≡ true
distinct_declared m numbered =
    subst (λ (ns : List ℕ). are_distinct ns ≡ true) (sym numbered.declarations) (distinct_filtered (is_among (called_functions m.blocks)) 0 37)

called_declared : (m : Module) → IsNumbered m → (n : ℕ) → n < 37 → is_among (called_functions m.blocks) n ≡ true → is_among (declared m) n ≡ true
called_declared m numbered n small called =
    let of_called = is_among (called_functions m.blocks) in
    let same : (k : ℕ) → nat_eq n k ≡ true → of_called k ≡ true = λ k equal. subst (λ (j : ℕ). of_called j ≡ true) (eqb-true n k equal) called in
    subst (λ (ns : List ℕ). is_among ns n ≡ true) (sym numbered.declarations)
    (any-filter_same (nat_eq n) of_called true same (counted 0 37) ∙ among_counted 0 37 n (omega arith) (omega (arith, small)))

abbrev IsDeclared : Module → Instr → Type 0
IsDeclared m instr = list_all (is_among (declared m)) (functions_of instr) ≡ true

all_declared : (m : Module) (instrs : List Instr) → AllByRecursion IsShapedInstr instrs → ((n : ℕ) → n < 37 → is_among (flat_map functions_of instrs) n ≡ true → is_among (declared m) n ≡ true) → AllByRecursion (IsDeclared m) instrs
all_declared m [] shaped known = tt
all_declared m (Op r op truth left right ∷ instrs) shaped known = (refl, all_declared m instrs shaped.1 known)
all_declared m (Zext r from ∷ instrs) shaped known = (refl, all_declared m instrs shaped.1 known)
all_declared m (Trunc r from ∷ instrs) shaped known = (refl, all_declared m instrs shaped.1 known)
all_declared m (Select r truth test chosen other ∷ instrs) shaped known = (refl, all_declared m instrs shaped.1 known)
all_declared m (Call register f args ∷ instrs) shaped known =
    let behind = is_among (flat_map functions_of instrs) in (
      alone (is_among (declared m) f.0) (known f.0 shaped.0.1 (or_left (nat_eq f.0 f.0) (behind f.0) (eq-eqb f.0 f.0 refl))),
      all_declared m instrs shaped.1 (λ n small called. known n small (or_right (nat_eq n f.0) (behind n) called)),
    )

-- ---- what stands in front

assigning_append : (front : List Item) (item : Item) (t : Thing) → are_assigning (front ++ item ∷ []) t ≡ (are_assigning front t || are_assigning (item ∷ []) t)
assigning_append front item t =
    ap (λ (things : List Thing). list_any (same_thing t) things) (flat_map-append assigned_by front (item ∷ []))
    ∙ list_any-append (same_thing t) (flat_map assigned_by front) (flat_map assigned_by (item ∷ []))

registers_append : (front : List Item) (item : Item) (r : ℕ) → is_among (registers_assigned (front ++ item ∷ [])) r ≡ (is_among (registers_assigned front) r || is_among (registers_assigned (item ∷ [])) r)
registers_append front item r =
    ap (λ (ns : List ℕ). is_among ns r) (flat_map-append item_registers front (item ∷ []))
    ∙ list_any-append (nat_eq r) (registers_assigned front) (registers_assigned (item ∷ []))

-- the first k registers are assigned
abbrev AreAssigned : ℕ → List Item → Type 0
AreAssigned k front = (r : ℕ) → r < k → are_assigning front (TheRegister r) ≡ true

still_assigned : (k : ℕ) (front : List Item) (item : Item) → AreAssigned k front → AreAssigned k (front ++ item ∷ [])
still_assigned k front item assigned r below =
    assigning_append front item (TheRegister r) ∙ or_left (are_assigning front (TheRegister r)) (are_assigning (item ∷ []) (TheRegister r)) (assigned r below)

-- behind some lines with k measurements
record AreLines (k : ℕ) (front : List Item) : Type 0 where
  assigned : AreAssigned k front
  fresh : (r : ℕ) → k ≤ r → is_among (registers_assigned front) r ≡ false
  unrecorded : list_any is_record front ≡ false

-- a call that assigns no register and records nothing
with_call : (k : ℕ) (front : List Item) (item : Item) → item_registers item ≡ [] → is_record item ≡ false → AreLines k front → AreLines k (front ++ item ∷ [])
with_call k front item none unrecorded so_far = record {
  assigned = still_assigned k front item so_far.assigned;
  fresh = λ r above. registers_append front item r ∙ or_from (is_among (registers_assigned front) r) (is_among (registers_assigned (item ∷ [])) r) (so_far.fresh r above) (ap (λ (ns : List ℕ). is_among (ns ++ []) r) none);
  unrecorded = list_any-append is_record front (item ∷ []) ∙ or_from (list_any is_record front) (list_any is_record (item ∷ [])) so_far.unrecorded (or_from (is_record item) false unrecorded refl);
}

abbrev measurement : ℕ → ℕ → Item
measurement qubit k = TheInstr (call 6 (Id qubit ∷ Id k ∷ []))

abbrev reading : ℕ → Item
reading k = TheInstr (Call (Some k) (function 1) (Id k ∷ []))

is_measured : (front : List Item) (qubit k : ℕ) → are_assigning (front ++ measurement qubit k ∷ []) (TheResult k) ≡ true
is_measured front qubit k =
    assigning_append front (measurement qubit k) (TheResult k)
    ∙ or_right (are_assigning front (TheResult k)) (are_assigning (measurement qubit k ∷ []) (TheResult k)) (or_left (nat_eq k k) false (eq-eqb k k refl))

-- the reading of the next result
with_reading : (k : ℕ) (front : List Item) → AreLines k front → AreLines (suc k) (front ++ reading k ∷ [])
with_reading k front so_far = record {
  assigned = λ r below. elim (cases_lt r k) [
    | inl before ↦ still_assigned k front (reading k) so_far.assigned r before
    | inr not_before ↦ assigning_append front (reading k) (TheRegister r) ∙ or_right (are_assigning front (TheRegister r)) (are_assigning (reading k ∷ []) (TheRegister r)) (or_left (nat_eq r k) false (eq-eqb r k (omega (arith, below, not_before))))
  ];
  fresh = λ r above. registers_append front (reading k) r ∙ or_from (is_among (registers_assigned front) r) (is_among (registers_assigned (reading k ∷ [])) r) (so_far.fresh r (omega (arith, above))) (or_from (nat_eq r k) false (ne_eqb r k (λ same. absurd (omega (arith, above, same)))) refl);
  unrecorded = list_any-append is_record front (reading k ∷ []) ∙ or_from (list_any is_record front) false so_far.unrecorded refl;
}

-- ---- the calls of the lines

lines_count-ge : (k : ℕ) (lines : List ThinLine) → k ≤ lines_count k lines
lines_count-ge k [] = omega arith
lines_count-ge k (Hadamard qubit ∷ lines) = lines_count-ge k lines
lines_count-ge k (Not qubit ∷ lines) = lines_count-ge k lines
lines_count-ge k (ControlledNot control target ∷ lines) = lines_count-ge k lines
lines_count-ge k (Measure qubit bit ∷ lines) = omega (arith, lines_count-ge (suc k) lines)

-- A call of a gate on qubits, as its row in the table says it: it names no result, fits, is not the call at the start,
-- has no operand, reads no result, records nothing and names no label.
abbrev IsGateCall : Instr → Type 0
IsGateCall instr =
    (instr_ids is_result instr ≡ []) × (instr_fits instr ≡ true) × (initializes (TheInstr instr) ≡ false) × (instr_operands instr ≡ [])
    × (read_in instr ≡ []) × (is_record (TheInstr instr) ≡ false) × (instr_labels instr ≡ [])

-- a fixed truth value, or one of the first registers
abbrev IsKnown : ℕ → Operand → Type 0
IsKnown count (Register r) = r < count
IsKnown count (Fixed z) = is_fixed_truth z ≡ true

-- a block that returns, in a module that requires the results of so many measurements, not too many, and assigns truth
-- values to so many registers
record IsAround (m : Module) (b : Block) (count : ℕ) : Type 0 where
  required : count ≤ m.results
  few : count ≤ 10000
  typed : (r : ℕ) → r < count → assigned_as m true r ≡ true
  ended : returns b.last ≡ true

module _ (m : Module) (b : Block) (count : ℕ) (around : IsAround m b count) where
  abbrev AreFine : ℕ → List Item → List Item → Type 0
  AreFine i front items = AllByRecursion (IsFine m) (spots_behind 0 b (suc i) front items)

  abbrev AreDeclared : List Instr → Type 0
  AreDeclared instrs = AllByRecursion (IsDeclared m) instrs

  gate_kept : (k : ℕ) (front : List Item) (n : ℕ) (args : List Arg) → AreLines k front → IsGateCall (call n args) → IsDeclared m (call n args)
      → list_all (λ q. nat_lt q m.qubits) (instr_ids is_qubit (call n args)) ≡ true → are_distinct (instr_ids is_qubit (call n args)) ≡ true → IsCallKept m b front (call n args)
  gate_kept k front n args so_far gate declared within distinct = record {
    qubit_ids = within;
    result_ids = ap (λ (ns : List ℕ). list_all (λ k. nat_lt k m.results) ns) gate.0;
    declared = declared;
    fits = gate.1;
    begins_nothing = not_from_false (initializes (TheInstr (call n args))) gate.2;
    assigned_once = refl;
    types = ap (λ (os : List (Operand × Bool)). list_all (λ (o : Operand × Bool). has_type m o.0 o.1) os) gate.3;
    registers = ap (λ (os : List (Operand × Bool)). list_all (are_assigning front) (flat_map (λ (o : Operand × Bool). register_in o.0) os)) gate.3;
    results = ap (λ (ns : List ℕ). list_all (are_assigning front) (map TheResult ns)) gate.4;
    distinct_qubits = distinct;
    records = ap (λ (c : Bool). if c then returns b.last else not (list_any is_record front)) gate.5 ∙ not_from_false (list_any is_record front) so_far.unrecorded;
    labels = ap (λ (ns : List ℕ). list_all (λ k. nat_lt k (length m.labels)) ns) gate.6;
    limits = refl;
  }

  one_qubit : (qubit : ℕ) → qubit < m.qubits → (nat_lt qubit m.qubits && true) ≡ true
  one_qubit qubit within = alone (nat_lt qubit m.qubits) (lt-ltb qubit m.qubits within)

  two_qubits : (first second : ℕ) → first < m.qubits → second < m.qubits → (nat_lt first m.qubits && (nat_lt second m.qubits && true)) ≡ true
  two_qubits first second within also = pair (nat_lt first m.qubits) (nat_lt second m.qubits) (lt-ltb first m.qubits within) (lt-ltb second m.qubits also)

  distinct_pair : (first second : ℕ) → first ≢ second → are_distinct (first ∷ second ∷ []) ≡ true
  distinct_pair first second differ =
      alone (not (nat_eq first second || false)) (not_from_false (nat_eq first second || false) (or_from (nat_eq first second) false (ne_eqb first second differ) refl))

  measurement_kept : (k : ℕ) (front : List Item) (qubit : ℕ) → AreLines k front → IsDeclared m (call 6 (Id qubit ∷ Id k ∷ [])) → qubit < m.qubits → k < m.results → IsCallKept m b front (call 6 (Id qubit ∷ Id k ∷ []))
  measurement_kept k front qubit so_far declared within required = record {
    qubit_ids = one_qubit qubit within;
    result_ids = alone (nat_lt k m.results) (lt-ltb k m.results required);
    declared = declared;
    fits = refl;
    begins_nothing = refl;
    assigned_once = refl;
    types = refl;
    registers = refl;
    results = refl;
    distinct_qubits = refl;
    records = not_from_false (list_any is_record front) so_far.unrecorded;
    labels = refl;
    limits = refl;
  }

  -- the reading of a result that is measured in front
  reading_kept : (k : ℕ) (front : List Item) → AreLines k front → are_assigning front (TheResult k) ≡ true → IsDeclared m (Call (Some k) (function 1) (Id k ∷ [])) → k < count → IsCallKept m b front (Call (Some k) (function 1) (Id k ∷ []))
  reading_kept k front so_far measured declared counted = record {
    qubit_ids = refl;
    result_ids = alone (nat_lt k m.results) (lt-ltb k m.results (omega (arith, counted, around.required)));
    declared = declared;
    fits = refl;
    begins_nothing = refl;
    assigned_once = alone (not (is_among (registers_assigned front) k)) (not_from_false (is_among (registers_assigned front) k) (so_far.fresh k (omega arith)));
    types = refl;
    registers = refl;
    results = alone (are_assigning front (TheResult k)) measured;
    distinct_qubits = refl;
    records = not_from_false (list_any is_record front) so_far.unrecorded;
    labels = refl;
    limits = alone (nat_lt k 8_388_608) (lt-ltb k 8_388_608 (omega (arith, counted, around.few)));
  }

  -- the lines that are left, in front of instructions that are fine behind all of them
  lines_fine : (bits i k : ℕ) (front : List Item) (lines : List ThinLine) (behind : List Instr) (last : Item)
      → AllByRecursion (IsWithin m.qubits bits) lines → AreDeclared (lines_instrs k lines ++ behind) → lines_count k lines ≡ count → AreLines k front
      → ((j : ℕ) (all : List Item) → AreLines count all → AreFine j all (map TheInstr behind ++ last ∷ []))
      → AreFine i front (map TheInstr (lines_instrs k lines ++ behind) ++ last ∷ [])
  lines_fine bits i k front [] behind last within declared counted so_far fine =
      fine i front (subst (λ (n : ℕ). AreLines n front) counted so_far)
  lines_fine bits i k front (Hadamard qubit ∷ lines) behind last within declared counted so_far fine =
      let args = Id qubit ∷ [] in (
        call_fine m b i front None (function 10) args (gate_kept k front 10 args so_far (refl, refl, refl, refl, refl, refl, refl) declared.0 (one_qubit qubit within.0) refl),
        lines_fine bits (suc i) k (front ++ TheInstr (call 10 args) ∷ []) lines behind last within.1 declared.1 counted (with_call k front (TheInstr (call 10 args)) refl refl so_far) fine,
      )
  lines_fine bits i k front (Not qubit ∷ lines) behind last within declared counted so_far fine =
      let args = Id qubit ∷ [] in (
        call_fine m b i front None (function 7) args (gate_kept k front 7 args so_far (refl, refl, refl, refl, refl, refl, refl) declared.0 (one_qubit qubit within.0) refl),
        lines_fine bits (suc i) k (front ++ TheInstr (call 7 args) ∷ []) lines behind last within.1 declared.1 counted (with_call k front (TheInstr (call 7 args)) refl refl so_far) fine,
      )
  lines_fine bits i k front (ControlledNot control target ∷ lines) behind last within declared counted so_far fine =
      let args = Id control ∷ Id target ∷ [] in (
        call_fine m b i front None (function 22) args
            (gate_kept k front 22 args so_far (refl, refl, refl, refl, refl, refl, refl) declared.0 (two_qubits control target within.0.0 within.0.1) (distinct_pair control target within.0.2)),
        lines_fine bits (suc i) k (front ++ TheInstr (call 22 args) ∷ []) lines behind last within.1 declared.1 counted (with_call k front (TheInstr (call 22 args)) refl refl so_far) fine,
      )
  lines_fine bits i k front (Measure qubit bit ∷ lines) behind last within declared counted so_far fine =
      let one_more : k < count = omega (arith, lines_count-ge (suc k) lines, counted) in
      let named : k < m.results = omega (arith, one_more, around.required) in
      let behind_it : AreLines k (front ++ measurement qubit k ∷ []) = with_call k front (measurement qubit k) refl refl so_far in
      let read = reading_kept k (front ++ measurement qubit k ∷ []) behind_it (is_measured front qubit k) declared.1.0 one_more in (
        call_fine m b i front None (function 6) (Id qubit ∷ Id k ∷ []) (measurement_kept k front qubit so_far declared.0 within.0.0 named),
        (
          call_fine m b (suc i) (front ++ measurement qubit k ∷ []) (Some k) (function 1) (Id k ∷ []) read,
          lines_fine bits (suc (suc i)) (suc k) (front ++ measurement qubit k ∷ [] ++ reading k ∷ []) lines behind last within.1 declared.1.1 counted (with_reading k (front ++ measurement qubit k ∷ []) behind_it) fine,
        ),
      )

  -- ---- the records

  known_has_type : (operand : Operand) → IsKnown count operand → has_type m operand true ≡ true
  known_has_type (Register r) known = around.typed r known
  known_has_type (Fixed z) known = known

  known_is_assigned : (front : List Item) (operand : Operand) → IsKnown count operand → AreAssigned count front → list_all (are_assigning front) (register_in operand ++ []) ≡ true
  known_is_assigned front (Register r) known assigned = alone (are_assigning front (TheRegister r)) (assigned r known)
  known_is_assigned front (Fixed z) known assigned = refl

  bit_kept : (k : ℕ) (front : List Item) (operand : Operand) → IsKnown count operand → AreAssigned count front → IsDeclared m (call 3 (Truth operand ∷ Text k ∷ [])) → k < length m.labels → IsCallKept m b front (call 3 (Truth operand ∷ Text k ∷ []))
  bit_kept k front operand known assigned declared labelled = record {
    qubit_ids = refl;
    result_ids = refl;
    declared = declared;
    fits = refl;
    begins_nothing = refl;
    assigned_once = refl;
    types = alone (has_type m operand true) (known_has_type operand known);
    registers = known_is_assigned front operand known assigned;
    results = refl;
    distinct_qubits = refl;
    records = around.ended;
    labels = alone (nat_lt k (length m.labels)) (lt-ltb k (length m.labels) labelled);
    limits = refl;
  }

  array_kept : (front : List Item) (n : ℕ) → IsDeclared m (call 2 (Number (Fixed (pos n)) ∷ Text 0 ∷ [])) → 0 < length m.labels → IsCallKept m b front (call 2 (Number (Fixed (pos n)) ∷ Text 0 ∷ []))
  array_kept front n declared labelled = record {
    qubit_ids = refl;
    result_ids = refl;
    declared = declared;
    fits = refl;
    begins_nothing = refl;
    assigned_once = refl;
    types = refl;
    registers = refl;
    results = refl;
    distinct_qubits = refl;
    records = around.ended;
    labels = alone (nat_lt 0 (length m.labels)) (lt-ltb 0 (length m.labels) labelled);
    limits = refl;
  }

  bits_fine : (i k : ℕ) (front : List Item) (operands : List Operand) → AllByRecursion (IsKnown count) operands → AreAssigned count front → AreDeclared (bit_record_instrs k operands) → k + length operands ≤ length m.labels
      → AreFine i front (map TheInstr (bit_record_instrs k operands) ++ TheLast (Return (pos 0)) ∷ [])
  bits_fine i k front [] known assigned declared labelled = (return_fine m b i front, tt)
  bits_fine i k front (operand ∷ operands) known assigned declared labelled =
      let args = Truth operand ∷ Text k ∷ [] in (
        call_fine m b i front None (function 3) args (bit_kept k front operand known.0 assigned declared.0 (omega (arith, labelled))),
        bits_fine (suc i) (suc k) (front ++ TheInstr (call 3 args) ∷ []) operands known.1 (still_assigned count front (TheInstr (call 3 args)) assigned) declared.1 (omega (arith, labelled)),
      )

  records_fine : (i : ℕ) (front : List Item) (operands : List Operand) → AllByRecursion (IsKnown count) operands → AreAssigned count front → AreDeclared (record_instrs operands) → 1 + length operands ≤ length m.labels
      → AreFine i front (map TheInstr (record_instrs operands) ++ TheLast (Return (pos 0)) ∷ [])
  records_fine i front operands known assigned declared labelled =
      let args = Number (Fixed (pos (length operands))) ∷ Text 0 ∷ [] in (
        call_fine m b i front None (function 2) args (array_kept front (length operands) declared.0 (omega (arith, labelled))),
        bits_fine (suc i) 1 (front ++ TheInstr (call 2 args) ∷ []) operands known (still_assigned count front (TheInstr (call 2 args)) assigned) declared.1 labelled,
      )

-- ---- the operands of bits

more_known : (k : ℕ) (operands : List Operand) → AllByRecursion (IsKnown k) operands → AllByRecursion (IsKnown (suc k)) operands
more_known k [] known = tt
more_known k (Register r ∷ operands) known = (omega (arith, known.0), more_known k operands known.1)
more_known k (Fixed z ∷ operands) known = (known.0, more_known k operands known.1)

stored_known : (k : ℕ) (operands : List Operand) (at : ℕ) → AllByRecursion (IsKnown (suc k)) operands → AllByRecursion (IsKnown (suc k)) (slice_set operands at (Register k))
stored_known k [] at known = tt
stored_known k (operand ∷ operands) zero known = (omega arith, known.1)
stored_known k (operand ∷ operands) (suc at) known = (known.0, stored_known k operands at known.1)

operands_known : (k : ℕ) (lines : List ThinLine) (operands : List Operand) → AllByRecursion (IsKnown k) operands → AllByRecursion (IsKnown (lines_count k lines)) (lines_operands k lines operands)
operands_known k [] operands known = known
operands_known k (Hadamard qubit ∷ lines) operands known = operands_known k lines operands known
operands_known k (Not qubit ∷ lines) operands known = operands_known k lines operands known
operands_known k (ControlledNot control target ∷ lines) operands known = operands_known k lines operands known
operands_known k (Measure qubit bit ∷ lines) operands known =
    operands_known (suc k) lines (slice_set operands bit (Register k)) (stored_known k operands bit (more_known k operands known))

zeros_known : (n : ℕ) → AllByRecursion (IsKnown 0) (replicate n (Fixed (pos 0)))
zeros_known zero = tt
zeros_known (suc n) = (refl, zeros_known n)

-- their registers are assigned truth values
typed_lines : (k : ℕ) (lines : List ThinLine) (behind : List Instr) (last : Item) (r : ℕ) → k ≤ r → r < lines_count k lines → is_among (flat_map (assigned_with true) (map TheInstr (lines_instrs k lines ++ behind) ++ last ∷ [])) r ≡ true
typed_lines k [] behind last r low high = absurd (omega (arith, low, high))
typed_lines k (Hadamard qubit ∷ lines) behind last r low high = typed_lines k lines behind last r low high
typed_lines k (Not qubit ∷ lines) behind last r low high = typed_lines k lines behind last r low high
typed_lines k (ControlledNot control target ∷ lines) behind last r low high = typed_lines k lines behind last r low high
typed_lines k (Measure qubit bit ∷ lines) behind last r low high =
    let others = is_among (flat_map (assigned_with true) (map TheInstr (lines_instrs (suc k) lines ++ behind) ++ last ∷ [])) r in
    elim (cases_lt k r) [
      | inl above ↦ or_right (nat_eq r k) others (typed_lines (suc k) lines behind last r (omega (arith, above)) high)
      | inr below ↦ or_left (nat_eq r k) others (eq-eqb r k (omega (arith, low, below)))
    ]

-- ---- the module

abbrev first_call : Instr
first_call = call 0 (Id 0 ∷ [])

-- the limits on labels, qubits and results
abbrev is_small : Thin → Bool
is_small p = nat_le (length (labels_of p)) 16_384 && nat_le p.qubits 1_024 && nat_le (lines_count 0 p.lines) 1_048_576

small : (p : Thin) → IsThin p → is_small p ≡ true
small p thin =
    let labels : nat_le (length (labels_of p)) 16_384 ≡ true = le-leb (length (labels_of p)) 16_384 (omega (arith, length-bit_labels 0 p.bits, thin.few_bits)) in
    let qubits : nat_le p.qubits 1_024 ≡ true = le-leb p.qubits 1_024 (omega (arith, thin.few_qubits)) in
    let results : nat_le (lines_count 0 p.lines) 1_048_576 ≡ true = le-leb (lines_count 0 p.lines) 1_048_576 (omega (arith, lines_count-le 0 p.lines, thin.few_lines)) in
    and_from (nat_le (length (labels_of p)) 16_384 && nat_le p.qubits 1_024) (nat_le (lines_count 0 p.lines) 1_048_576)
    (and_from (nat_le (length (labels_of p)) 16_384) (nat_le p.qubits 1_024) labels qubits) results

first_fine : (p : Thin) → IsThin p → IsFine (lowered p) (spot (lowered_block p) 0 [] (TheInstr first_call))
first_fine p thin = record {
  flags = refl;
  entry = refl;
  qubit_ids = refl;
  result_ids = refl;
  declarations = pair (are_distinct (declared (lowered p))) true (distinct_declared (lowered p) (lowered_numbered p thin)) refl;
  calls = refl;
  initialize = refl;
  labels = refl;
  assigned_once = refl;
  targets = refl;
  phis = refl;
  operand_types = refl;
  constants = refl;
  carried_registers = refl;
  carried_results = refl;
  distinct_qubits = refl;
  records = refl;
  label_texts = refl;
  earlier_way = refl;
  limits = alone (is_small p) (small p thin);
}

first_lines : AreLines 0 (TheInstr first_call ∷ [])
first_lines = record { assigned = λ r none. absurd (omega (arith, none)); fresh = λ r above. refl; unrecorded = refl }

pub lowered_passes : (p : Thin) → IsThin p → Passes (lowered p)
lowered_passes p thin =
    passes_by_items (lowered p) (subst (λ (ss : List Spot). AllByRecursion (IsFine (lowered p)) ss) (sym (append-nil (block_spots 0 (lowered_block p)))) (first_fine p thin, behind_first))
  where
    known_function : (n : ℕ) → n < 37 → is_among (flat_map functions_of (lowered_body p)) n ≡ true → is_among (declared (lowered p)) n ≡ true
    known_function n few called =
        called_declared (lowered p) (lowered_numbered p thin) n few (ap (λ (ns : List ℕ). is_among ns n) (append-nil (flat_map functions_of (lowered_body p))) ∙ called)

    shaped : AllByRecursion IsShapedInstr (lowered_body p)
    shaped = (lowered_shaped p thin).each_block.0.3

    all : AllByRecursion (IsDeclared (lowered p)) (lowered_body p)
    all = all_declared (lowered p) (lowered_body p) shaped known_function

    typed : (r : ℕ) → r < lines_count 0 p.lines → assigned_as (lowered p) true r ≡ true
    typed r below =
        ap (λ (ns : List ℕ). is_among ns r) (append-nil (flat_map (assigned_with true) (items_in (lowered_block p))))
        ∙ typed_lines 0 p.lines (record_instrs (last_operands p)) (TheLast (Return (pos 0))) r (omega arith) below

    around : IsAround (lowered p) (lowered_block p) (lines_count 0 p.lines)
    around = record { required = omega arith; few = omega (arith, lines_count-le 0 p.lines, thin.few_lines); typed = typed; ended = refl }

    known : AllByRecursion (IsKnown (lines_count 0 p.lines)) (last_operands p)
    known = operands_known 0 p.lines (replicate p.bits (Fixed (pos 0))) (zeros_known p.bits)

    labelled : 1 + length (last_operands p) ≤ length (lowered p).labels
    labelled = omega (arith, length-last_operands p, length-bit_labels 0 p.bits)

    of_records : (lines : List Instr) → AllByRecursion (IsDeclared (lowered p)) (lines ++ record_instrs (last_operands p)) → AllByRecursion (IsDeclared (lowered p)) (record_instrs (last_operands p))
    of_records [] each = each
    of_records (instr ∷ lines) each = of_records lines each.1

    behind_first : AllByRecursion (IsFine (lowered p)) (spots_behind 0 (lowered_block p) 1 (TheInstr first_call ∷ []) (map TheInstr (lines_instrs 0 p.lines ++ record_instrs (last_operands p)) ++ TheLast (Return (pos 0)) ∷ []))
    behind_first =
        lines_fine (lowered p) (lowered_block p) (lines_count 0 p.lines) around p.bits 0 0 (TheInstr first_call ∷ []) p.lines (record_instrs (last_operands p)) (TheLast (Return (pos 0))) thin.within all.1 refl first_lines
        (λ j front so_far. records_fine (lowered p) (lowered_block p) (lines_count 0 p.lines) around j front (last_operands p) known so_far.assigned (of_records (lines_instrs 0 p.lines) all.1) labelled)
