-- In a module that passes the phis of an entered block have values, and behind them all that is known there is.
use Rattle.std.proofs.Common.{◌≡◌, ◌⊎◌, inl, inr, ℕ, zero, suc, ◌+◌, ◌<◌, Bool, true, false, not, ◌&&◌, ◌||◌, nat_eq, if◌then◌else◌, List, [], ◌∷◌, ◌++◌, map, filter, slice_get, Option, Some, count_by, refl, sym, ap, ◌∙◌, arith, append_assoc}
use Rattle.std.proofs.lemmas.Bool.{eqb-true, eq-eqb}
use Rattle.std.proofs.lemmas.List.Recursion.{is_count_by}
use Rattle.std.specs.List.{list_all}
use Rattle.qir_module.specs.declared.instruction.Operand.{Operand}
use Rattle.qir_module.specs.declared.block.Phi.{Phi}
use Rattle.qir_module.specs.declared.block.Block.{Block}
use Rattle.qir_module.specs.Module.{Module}
use Rattle.qir_module.specs.Machine.{State, with_register, place_of, entry_from, phi_value, with_phi, take_phis}
use Rattle.qir_module.specs.Carried.{targets_of, Thing, TheRegister, same_thing, are_assigning, is_carried, is_left}
use Rattle.qir_module.specs.Numbered.{is_among}
use Rattle.qir_module.specs.Spots.{Item, ThePhi, TheInstr, TheLast, items_in}
use Rattle.qir_module.specs.Passes.{Passes, assigned_as, block_names, predecessors, names_each_once, entry_names, phis_kept, has_type, register_in, operand_types_kept, carried_registers_kept, is_left_by, entries_carried, reads_carried, registers_read, jumps_carry, registers_named}
use Rattle.qir_machine.proofs.SpotFacts.{and_left, and_right, spot_at, kept_at}
use Rattle.qir_machine.proofs.UniqueTypes.{or_left, or_right, or_cases, kept_register}
use Rattle.qir_machine.proofs.Operands.{is_truth, has, IsTyped, IsSound, IsValue, value_there}
use Rattle.qir_machine.proofs.Instructions.{register_put}
use Rattle.qir_machine.proofs.Demands.{known_at, every_weaker, assigned_in}
use Rattle.qir_machine.proofs.Arriving.{one_of_name, unequal}

-- ---- the entry of a name

record IsEntry (entries : List (Operand × ℕ)) (name : ℕ) (p q : Operand × ℕ → Bool) : Type 0 where
  operand : Operand
  found : entry_from entries (Some name) ≡ Some operand
  passes_p : p (operand, name) ≡ true
  passes_q : q (operand, name) ≡ true

-- how many of some numbers are the name
abbrev number_of : ℕ → List ℕ → ℕ
number_of name [] = 0
number_of name (x ∷ xs) = if nat_eq name x then 1 + number_of name xs else number_of name xs

entry_there : (entries : List (Operand × ℕ)) (name : ℕ) (p q : Operand × ℕ → Bool) → list_all p entries ≡ true → list_all q entries ≡ true → 0 < number_of name (map (λ (e : Operand × ℕ). e.1) entries) → IsEntry entries name p q
entry_there [] name p q all_p all_q some = absurd (omega arith)
entry_there (e ∷ entries) name p q all_p all_q some = by_name (nat_eq name e.1) refl some (entry_there entries name p q (and_right (p e) (list_all p entries) all_p) (and_right (q e) (list_all q entries) all_q))
  where
    by_name : (same : Bool) → nat_eq name e.1 ≡ same → 0 < (if same then 1 + number_of name (map (λ (x : Operand × ℕ). x.1) entries) else number_of name (map (λ (x : Operand × ℕ). x.1) entries)) → (0 < number_of name (map (λ (x : Operand × ℕ). x.1) entries) → IsEntry entries name p q) → IsEntry (e ∷ entries) name p q
    by_name true is few again =
        let one : name ≡ e.1 = eqb-true name e.1 is in
        let pair : (e.0, name) ≡ e = ap (λ n. (e.0, n)) one in
        record {
          operand = e.0;
          found = ap (λ (t : Bool). if t then Some e.0 else entry_from entries (Some name)) (eq-eqb e.1 name (sym one));
          passes_p = ap p pair ∙ and_left (p e) (list_all p entries) all_p;
          passes_q = ap q pair ∙ and_left (q e) (list_all q entries) all_q;
        }
    by_name false is few again =
        let rest = again few in
        record {
          operand = rest.operand;
          found = ap (λ (t : Bool). if t then Some e.0 else entry_from entries (Some name)) (unequal e.1 name is) ∙ rest.found;
          passes_p = rest.passes_p;
          passes_q = rest.passes_q;
        }

every_map : (f : Operand × ℕ → Operand × Bool) (p : Operand × Bool → Bool) (xs : List (Operand × ℕ)) → list_all p (map f xs) ≡ true → list_all (λ x. p (f x)) xs ≡ true
every_map f p [] all = refl
every_map f p (x ∷ xs) all = both (p (f x)) (list_all (λ y. p (f y)) xs) (and_left (p (f x)) (list_all p (map f xs)) all) (every_map f p xs (and_right (p (f x)) (list_all p (map f xs)) all))
  where
    both : (a b : Bool) → a ≡ true → b ≡ true → (a && b) ≡ true
    both true b e g = g
    both false b e g = e

-- ---- a block among the predecessors

name_kept : (target : ℕ) (blocks : List Block) (i : ℕ) (b : Block) → slice_get blocks i ≡ Some b → is_among (targets_of b.last) target ≡ true → is_among (predecessors blocks target) b.name ≡ true
name_kept target [] i b is jumps = absurd (cc)
name_kept target (x ∷ blocks) zero b is jumps =
    let same : x ≡ b = cc in
    ap (λ (t : Bool). is_among (block_names (if t then x ∷ filter (λ (p : Block). is_among (targets_of p.last) target) blocks else filter (λ (p : Block). is_among (targets_of p.last) target) blocks)) b.name) (ap (λ (y : Block). is_among (targets_of y.last) target) same ∙ jumps)
    ∙ or_left (nat_eq b.name x.name) (is_among (predecessors blocks target) b.name) (eq-eqb b.name x.name (ap (λ (y : Block). y.name) (sym same)))
name_kept target (x ∷ blocks) (suc i) b is jumps = by_test (is_among (targets_of x.last) target) (name_kept target blocks i b is jumps)
  where
    by_test : (t : Bool) → is_among (predecessors blocks target) b.name ≡ true → is_among (block_names (if t then x ∷ filter (λ (p : Block). is_among (targets_of p.last) target) blocks else filter (λ (p : Block). is_among (targets_of p.last) target) blocks)) b.name ≡ true
    by_test true rest = or_right (nat_eq b.name x.name) (is_among (predecessors blocks target) b.name) rest
    by_test false rest = rest

-- ---- one phi, and all

map_split : (xs : List Phi) (x : Phi) (ys : List Phi) (rest : List Item) → map ThePhi (xs ++ x ∷ ys) ++ rest ≡ map ThePhi xs ++ ThePhi x ∷ (map ThePhi ys ++ rest)
map_split [] x ys rest = refl
map_split (y ∷ xs) x ys rest = ap (λ is. ThePhi y ∷ is) (map_split xs x ys rest)

phi_items : (b : Block) (done : List Phi) (p : Phi) (ps : List Phi) → b.phis ≡ done ++ p ∷ ps → items_in b ≡ map ThePhi done ++ ThePhi p ∷ (map ThePhi ps ++ (map TheInstr b.body ++ TheLast b.last ∷ []))
phi_items b done p ps are =
    append_assoc (map ThePhi b.phis) (map TheInstr b.body) (TheLast b.last ∷ [])
    ∙ ap (λ (qs : List Phi). map ThePhi qs ++ (map TheInstr b.body ++ TheLast b.last ∷ [])) are
    ∙ map_split done p ps (map TheInstr b.body ++ TheLast b.last ∷ [])

left_there : (m : Module) (k name : ℕ) (t : Thing) → place_of m.blocks name ≡ Some k → is_left_by m name t ≡ true → is_left m.blocks k t ≡ true
left_there m k name t place is = rw place at is

-- the way from one block into another
pub record IsWay (m : Module) (s : State) (k : ℕ) (b : Block) (to : ℕ) (next : Block) : Type 0 where
  pub passes : Passes m
  pub types : IsTyped m s
  pub left : (t : Thing) → is_left m.blocks k t ≡ true → has s t ≡ true
  pub carried : (t : Thing) → is_carried m.blocks to t ≡ true → has s t ≡ true
  pub here : slice_get m.blocks k ≡ Some b
  pub there : slice_get m.blocks to ≡ Some next
  pub jumps : is_among (targets_of b.last) next.name ≡ true

phi_there : (m : Module) (s : State) (k : ℕ) (b : Block) (to : ℕ) (next : Block) (done : List Phi) (p : Phi) (ps : List Phi) → IsWay m s k b to next → next.phis ≡ done ++ p ∷ ps
    → IsValue (phi_value s p (entry_from p.entries (Some b.name))) (not p.number)
phi_there m s k b to next done p ps w are =
    let back = map ThePhi ps ++ (map TheInstr next.body ++ TheLast next.last ∷ []) in
    let items = phi_items next done p ps are in
    let spot = spot_at to next (map ThePhi done) (ThePhi p) in
    let named = and_right (not (nat_eq to 0)) (names_each_once (entry_names p) (predecessors m.blocks next.name)) (kept_at m phis_kept to next (map ThePhi done) (ThePhi p) back w.passes.phis w.there items) in
    let once = kept_register (λ n. nat_eq (count_by (nat_eq n) (entry_names p)) 1) (predecessors m.blocks next.name) b.name
    (and_left (list_all (λ n. nat_eq (count_by (nat_eq n) (entry_names p)) 1) (predecessors m.blocks next.name)) (list_all (is_among (predecessors m.blocks next.name)) (entry_names p)) named)
    (name_kept next.name m.blocks k b w.here w.jumps) in
    let one : count_by (nat_eq b.name) (entry_names p) ≡ 1 = eqb-true (count_by (nat_eq b.name) (entry_names p)) 1 once in
    let counted = is_count_by (number_of b.name) (nat_eq b.name) refl (λ x xs. refl) (entry_names p) in
    let registers = kept_at m carried_registers_kept to next (map ThePhi done) (ThePhi p) back w.passes.carried_registers w.there items in
    let carried = and_right (reads_carried m spot (registers_read (ThePhi p))) (entries_carried m (ThePhi p)) (and_left (reads_carried m spot (registers_read (ThePhi p)) && entries_carried m (ThePhi p)) (jumps_carry m spot (registers_named m) (ThePhi p)) registers) in
    let types = every_map (λ (e : Operand × ℕ). (e.0, not p.number)) (λ (o : Operand × Bool). has_type m o.0 o.1) p.entries (kept_at m operand_types_kept to next (map ThePhi done) (ThePhi p) back w.passes.operand_types w.there items) in
    let entry = entry_there p.entries b.name (λ (e : Operand × ℕ). list_all (is_left_by m e.1) (register_in e.0)) (λ (e : Operand × ℕ). has_type m e.0 (not p.number)) carried types (let same : number_of b.name (entry_names p) ≡ 1 = counted ∙ one in omega arith) in
    let value = value_there m s (not p.number) entry.operand w.passes w.types (record {
      type = entry.passes_q;
      there = every_weaker (is_left_by m b.name) (has s) (register_in entry.operand) (λ t is. w.left t (left_there m k b.name t (one_of_name m k b w.passes w.here) is)) entry.passes_p;
    }) in
    record { v = value.v; is = ap (phi_value s p) entry.found ∙ value.is; type = value.type }

phi_assigned : (number : Bool) (r : ℕ) → is_among (if number then (if not number then [] else r ∷ []) else (if not number then r ∷ [] else [])) r ≡ true
phi_assigned true r = or_left (nat_eq r r) false (eq-eqb r r refl)
phi_assigned false r = or_left (nat_eq r r) false (eq-eqb r r refl)

-- the phis are taken, and all that is known behind them is there
pub record AreTaken (m : Module) (to : ℕ) (phis : List Phi) (from : Option ℕ) (s : State) : Type 0 where
  pub s' : State
  pub taken : take_phis phis from s ≡ Some s'
  pub sound : IsSound m s' (known_at m to (map ThePhi phis))

split_known : (m : Module) (to : ℕ) (p : Phi) (ps : List Phi) (x : Thing) → known_at m to (map ThePhi (p ∷ ps)) x ≡ true → (known_at m to (map ThePhi ps) x ≡ true) ⊎ (same_thing x (TheRegister p.register) ≡ true)
split_known m to p ps x is = elim (or_cases (same_thing x (TheRegister p.register) || are_assigning (map ThePhi ps) x) (is_carried m.blocks to x) is) [
  | inr a ↦ inl (or_right (are_assigning (map ThePhi ps) x) (is_carried m.blocks to x) a)
  | inl a ↦ elim (or_cases (same_thing x (TheRegister p.register)) (are_assigning (map ThePhi ps) x) a) [ inl c ↦ inr c | inr c ↦ inl (or_left (are_assigning (map ThePhi ps) x) (is_carried m.blocks to x) c) ]
]

phis_from : (m : Module) (s : State) (k : ℕ) (b : Block) (to : ℕ) (next : Block) (done phis : List Phi) → IsWay m s k b to next → next.phis ≡ done ++ phis → AreTaken m to phis (Some b.name) s
phis_from m s k b to next done [] w are = record { s' = s; taken = refl; sound = record { types = w.types; there = w.carried } }
phis_from m s k b to next done (p ∷ ps) w are =
    let more : next.phis ≡ (done ++ p ∷ []) ++ ps = are ∙ sym (append_assoc done (p ∷ []) ps) in
    let rest = phis_from m s k b to next (done ++ p ∷ []) ps w more in
    let value = phi_there m s k b to next done p ps w are in
    let type : assigned_as m (is_truth value.v) p.register ≡ true =
    ap (λ t. assigned_as m t p.register) value.type
    ∙ assigned_in m to next (map ThePhi done) (ThePhi p) (map ThePhi ps ++ (map TheInstr next.body ++ TheLast next.last ∷ [])) (not p.number) p.register w.there (phi_items next done p ps are) (phi_assigned p.number p.register) in
    record {
      s' = with_register rest.s' p.register value.v;
      taken = ap (λ t. with_phi t p.register (phi_value s p (entry_from p.entries (Some b.name)))) rest.taken ∙ ap (λ v. with_phi (Some rest.s') p.register v) value.is;
      sound = register_put m rest.s' (known_at m to (map ThePhi ps)) (known_at m to (map ThePhi (p ∷ ps))) p.register value.v rest.sound type (record { only = λ x is. split_known m to p ps x is });
    }

pub phis_there : (m : Module) (s : State) (k : ℕ) (b : Block) (to : ℕ) (next : Block) → IsWay m s k b to next → AreTaken m to next.phis (Some b.name) s
phis_there m s k b to next w = phis_from m s k b to next [] next.phis w refl
