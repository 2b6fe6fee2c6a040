-- What the rules of a module that passes give at an instruction and at the end of a block.
use Rattle.std.proofs.Common.{◌≡◌, ◌⊎◌, inl, inr, ℕ, zero, suc, Bool, true, false, not, ◌&&◌, ◌||◌, nat_eq, if◌then◌else◌, List, [], ◌∷◌, ◌++◌, length, map, slice_get, Option, Some, None, refl, sym, ap, ◌∙◌, append-nil}
use Rattle.std.specs.List.{list_any, list_all, flat_map, AllByRecursion}
use Rattle.std.proofs.lemmas.List.Concat.{flat_map-append}
use Rattle.qir_module.specs.declared.instruction.Operand.{Operand}
use Rattle.qir_module.specs.declared.instruction.Arg.{Arg}
use Rattle.qir_module.specs.declared.instruction.Instr.{Instr}
use Rattle.qir_module.specs.declared.instruction.Instr.TheVariants.{Op, Zext, Trunc, Select, Call}
use Rattle.qir_module.specs.declared.block.Block.{Block}
use Rattle.qir_module.specs.Module.{Module, IsShapedInstr}
use Rattle.qir_module.specs.Functions.{Kind, Row, row_of}
use Rattle.qir_module.specs.Machine.{State}
use Rattle.qir_module.specs.Carried.{Thing, TheResult, same_thing, assigned_by, are_assigning, is_carried}
use Rattle.qir_module.specs.Numbered.{read_in, is_among, task_of}
use Rattle.qir_module.specs.Spots.{Item, TheInstr, items_in}
use Rattle.qir_module.specs.Passes.{Passes, assigned_as, assigned_with, has_type, register_in, instr_operands, instr_ids, ids_where, id_in, takes_of, is_null, is_initialize, initializes, is_only_zero, item_ids, operand_types_kept, carried_registers_kept, carried_results_kept, calls_kept, constants_kept, label_texts_kept, initialize_kept, reads_carried, registers_read, results_read, entries_carried, jumps_carry, registers_named, results_named}
use Rattle.qir_machine.proofs.SpotFacts.{and_left, and_right, spot_at, kept_at}
use Rattle.qir_machine.proofs.UniqueTypes.{or_left, or_right, or_cases, any_cases, flat_front}
use Rattle.qir_machine.proofs.Calls.{gate_at}
use Rattle.qir_machine.proofs.Operands.{has, IsSound, IsReadable}
use Rattle.qir_machine.proofs.Instructions.{IsMet, few_gates, gate_found, every_left, every_right}

-- what is known behind some items of a block
abbrev pub known_at : Module → ℕ → List Item → Thing → Bool
known_at m k front t = are_assigning front t || is_carried m.blocks k t

pub every_weaker : {A : Type 0} (p q : A → Bool) (xs : List A) → ((x : A) → p x ≡ true → q x ≡ true) → list_all p xs ≡ true → list_all q xs ≡ true
every_weaker p q [] weaker all = refl
every_weaker p q (x ∷ xs) weaker all = both (q x) (list_all q xs) (weaker x (and_left (p x) (list_all p xs) all)) (every_weaker p q xs weaker (and_right (p x) (list_all p xs) all))
  where
    both : (a b : Bool) → a ≡ true → b ≡ true → (a && b) ≡ true
    both true b e f = f
    both false b e f = e

pub readable_all : (m : Module) (s : State) (known : Thing → Bool) (os : List (Operand × Bool)) → ((t : Thing) → known t ≡ true → has s t ≡ true)
    → list_all (λ (o : Operand × Bool). has_type m o.0 o.1) os ≡ true → list_all known (flat_map (λ (o : Operand × Bool). register_in o.0) os) ≡ true → AllByRecursion (IsReadable m s) os
readable_all m s known [] there types all = tt
readable_all m s known (o ∷ os) there types all = (
  record {
    type = and_left (has_type m o.0 o.1) (list_all (λ (p : Operand × Bool). has_type m p.0 p.1) os) types;
    there = every_weaker known (has s) (register_in o.0) there (every_left known (register_in o.0) (flat_map (λ (p : Operand × Bool). register_in p.0) os) all);
  },
  readable_all m s known os there (and_right (has_type m o.0 o.1) (list_all (λ (p : Operand × Bool). has_type m p.0 p.1) os) types) (every_right known (register_in o.0) (flat_map (λ (p : Operand × Bool). register_in p.0) os) all),
)

-- ---- the null pointer stands in initialize alone

no_ids : (kinds : List Kind) (args : List Arg) → list_all (λ kind. not (is_null kind)) kinds ≡ true → ids_where is_null kinds args ≡ []
no_ids [] args none = refl
no_ids (kind ∷ kinds) [] none = refl
no_ids (kind ∷ kinds) (arg ∷ args) none = by_kind (is_null kind) (and_left (not (is_null kind)) (list_all (λ k. not (is_null k)) kinds) none) (no_ids kinds args (and_right (not (is_null kind)) (list_all (λ k. not (is_null k)) kinds) none))
  where
    by_kind : (b : Bool) → not b ≡ true → ids_where is_null kinds args ≡ [] → (if b then id_in arg else []) ++ ids_where is_null kinds args ≡ []
    by_kind true wrong rest = absurd (let no : false ≡ true = wrong in cc)
    by_kind false right rest = rest

zero_only : (ns : List ℕ) → is_only_zero ns ≡ true → list_all (λ n. nat_eq n 0) ns ≡ true
zero_only [] is = refl
zero_only (zero ∷ []) is = refl
zero_only (suc n ∷ []) is = absurd (let wrong : false ≡ true = is in cc)
zero_only (zero ∷ n ∷ ns) is = absurd (let wrong : false ≡ true = is in cc)
zero_only (suc k ∷ n ∷ ns) is = absurd (let wrong : false ≡ true = is in cc)

none_null : (place : ℕ) (args : List Arg) → (not (is_initialize (task_of (row_of place)) || false)) ≡ true → list_all (λ n. nat_eq n 0) (ids_where is_null (takes_of (row_of place)) args) ≡ true
none_null zero args is = absurd (let wrong : false ≡ true = is in cc)
none_null (suc zero) args is = ap (list_all (λ n. nat_eq n 0)) (no_ids (takes_of (row_of 1)) args refl)
none_null (suc (suc zero)) args is = ap (list_all (λ n. nat_eq n 0)) (no_ids (takes_of (row_of 2)) args refl)
none_null (suc (suc (suc zero))) args is = ap (list_all (λ n. nat_eq n 0)) (no_ids (takes_of (row_of 3)) args refl)
none_null (suc (suc (suc (suc zero)))) args is = ap (list_all (λ n. nat_eq n 0)) (no_ids (takes_of (row_of 4)) args refl)
none_null (suc (suc (suc (suc (suc zero))))) args is = ap (list_all (λ n. nat_eq n 0)) (no_ids (takes_of (row_of 5)) args refl)
none_null (suc (suc (suc (suc (suc (suc zero)))))) args is = ap (list_all (λ n. nat_eq n 0)) (no_ids (takes_of (row_of 6)) args refl)
none_null (suc (suc (suc (suc (suc (suc (suc i))))))) args is = by_row (row_of (suc (suc (suc (suc (suc (suc (suc i)))))))) refl
  where
    by_row : (row : Option Row) → row_of (suc (suc (suc (suc (suc (suc (suc i))))))) ≡ row → list_all (λ n. nat_eq n 0) (ids_where is_null (takes_of row) args) ≡ true
    by_row None e = refl
    by_row (Some row) e =
        let g = gate_at i (few_gates i row e) in
        ap (list_all (λ n. nat_eq n 0)) (no_ids row.takes args (ap (λ (x : Row). list_all (λ kind. not (is_null kind)) x.takes) (sym (gate_found i row e)) ∙ g.no_null))

nulls_of : (m : Module) (k : ℕ) (b : Block) (front : List Item) (instr : Instr) → initialize_kept m (spot_at k b front (TheInstr instr)) ≡ true → list_all (λ n. nat_eq n 0) (instr_ids is_null instr) ≡ true
nulls_of m k b front (Op r op truth left right) kept = refl
nulls_of m k b front (Zext r from) kept = refl
nulls_of m k b front (Trunc r from) kept = refl
nulls_of m k b front (Select r truth test chosen other) kept = refl
nulls_of m k b front (Call register function args) kept = by_place (nat_eq k 0 && nat_eq (length front) 0) kept
  where
    by_place : (first : Bool) → (if first then (initializes (TheInstr (Call register function args)) && is_only_zero (item_ids is_null (TheInstr (Call register function args)))) else not (initializes (TheInstr (Call register function args)))) ≡ true
        → list_all (λ n. nat_eq n 0) (ids_where is_null (takes_of (row_of function.0)) args) ≡ true
    by_place true is = zero_only (ids_where is_null (takes_of (row_of function.0)) args) (and_right (initializes (TheInstr (Call register function args))) (is_only_zero (ids_where is_null (takes_of (row_of function.0)) args)) is)
    by_place false is = none_null function.0 args is

-- ---- an instruction where it stands

pub split_at : {A : Type 0} (xs : List A) (i : ℕ) (x : A) → slice_get xs i ≡ Some x → (front : List A) × (back : List A) × (xs ≡ front ++ x ∷ back)
split_at [] i x is = absurd (cc)
split_at (y ∷ ys) zero x is = ([], ys, let same : y ≡ x = cc in ap (λ z. z ∷ ys) same)
split_at (y ∷ ys) (suc i) x is = let rest = split_at ys i x is in (y ∷ rest.0, rest.1, ap (λ zs. y ∷ zs) rest.2)

pub assigned_in : (m : Module) (k : ℕ) (b : Block) (front : List Item) (here : Item) (back : List Item) (truth : Bool) (r : ℕ) → slice_get m.blocks k ≡ Some b → items_in b ≡ front ++ here ∷ back
    → is_among (assigned_with truth here) r ≡ true → assigned_as m truth r ≡ true
assigned_in m k b front here back truth r found items is =
    let cut = split_at m.blocks k b found in
    ap (λ (bs : List Block). is_among (flat_map (λ (x : Block). flat_map (assigned_with truth) (items_in x)) bs) r) cut.2
    ∙ flat_front (nat_eq r) (λ (x : Block). flat_map (assigned_with truth) (items_in x)) cut.0 b cut.1
    (ap (λ (is : List Item). is_among (flat_map (assigned_with truth) is) r) items ∙ flat_front (nat_eq r) (assigned_with truth) front here back is)

-- one item more is known
pub known_more : (m : Module) (k : ℕ) (front : List Item) (item : Item) (t : Thing) → known_at m k (front ++ item ∷ []) t ≡ true → (known_at m k front t ≡ true) ⊎ (list_any (same_thing t) (assigned_by item) ≡ true)
known_more m k front item t is = elim (or_cases (are_assigning (front ++ item ∷ []) t) (is_carried m.blocks k t) is) [
  | inr a ↦ inl (or_right (are_assigning front t) (is_carried m.blocks k t) a)
  | inl a ↦ elim (any_cases (same_thing t) (flat_map assigned_by front) (flat_map assigned_by (item ∷ [])) (ap (list_any (same_thing t)) (sym (flat_map-append assigned_by front (item ∷ []))) ∙ a)) [
    | inl c ↦ inl (or_left (are_assigning front t) (is_carried m.blocks k t) c)
    | inr c ↦ inr (ap (list_any (same_thing t)) (sym (append-nil (assigned_by item))) ∙ c)
  ]
]

pub instruction_met : (m : Module) (s : State) (k : ℕ) (b : Block) (front : List Item) (instr : Instr) (back : List Item) → Passes m → IsShapedInstr instr → slice_get m.blocks k ≡ Some b
    → items_in b ≡ front ++ TheInstr instr ∷ back → IsSound m s (known_at m k front) → IsMet m s (known_at m k front) (known_at m k (front ++ TheInstr instr ∷ [])) instr
instruction_met m s k b front instr back passes shaped found items sound =
    let here = spot_at k b front (TheInstr instr) in
    let registers = kept_at m carried_registers_kept k b front (TheInstr instr) back passes.carried_registers found items in
    let results = kept_at m carried_results_kept k b front (TheInstr instr) back passes.carried_results found items in
    record {
      sound = sound;
      shaped = shaped;
      operands = readable_all m s (known_at m k front) (instr_operands instr) sound.there
          (kept_at m operand_types_kept k b front (TheInstr instr) back passes.operand_types found items)
          (and_left (reads_carried m here (registers_read (TheInstr instr))) (entries_carried m (TheInstr instr)) (and_left (reads_carried m here (registers_read (TheInstr instr)) && entries_carried m (TheInstr instr)) (jumps_carry m here (registers_named m) (TheInstr instr)) registers));
      fits = kept_at m calls_kept k b front (TheInstr instr) back passes.calls found items;
      constants = kept_at m constants_kept k b front (TheInstr instr) back passes.constants found items;
      labels = kept_at m label_texts_kept k b front (TheInstr instr) back passes.label_texts found items;
      results = every_weaker (known_at m k front) (has s) (map TheResult (read_in instr)) sound.there
          (and_left (reads_carried m here (results_read (TheInstr instr))) (jumps_carry m here (results_named m) (TheInstr instr)) results);
      nulls = nulls_of m k b front instr (kept_at m initialize_kept k b front (TheInstr instr) back passes.initialize found items);
      types = λ truth r is. assigned_in m k b front (TheInstr instr) back truth r found items is;
      adds = λ x is. known_more m k front (TheInstr instr) x is;
    }
