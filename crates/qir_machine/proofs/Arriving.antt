-- A jump in a module that passes finds its block, and all that is carried into it is there.
use Rattle.std.proofs.Common.{◌≡◌, inl, inr, ℕ, zero, suc, ◌+◌, Bool, true, false, not, ◌&&◌, ◌||◌, nat_eq, nat_lt, if◌then◌else◌, List, [], ◌∷◌, ◌++◌, map, take, slice_get, Option, Some, None, refl, sym, ap, ◌∙◌, arith}
use Rattle.std.proofs.lemmas.Bool.{eqb-true, eq-eqb, ltb-true}
use Rattle.std.proofs.lemmas.List.Concat.{flat_map-append}
use Rattle.std.specs.List.{list_any, list_all, flat_map}
use Rattle.qir_module.specs.declared.instruction.Instr.{Instr}
use Rattle.qir_module.specs.declared.block.Phi.{Phi}
use Rattle.qir_module.specs.declared.block.Block.{Block}
use Rattle.qir_module.specs.Module.{Module}
use Rattle.qir_module.specs.Machine.{place_from, place_of}
use Rattle.qir_module.specs.Carried.{targets_of, jumps_to, Thing, TheRegister, TheResult, same_thing, assigned_by, are_assigning, block_assigns, assigns, is_carried, is_left}
use Rattle.qir_module.specs.Numbered.{registers_of, measured_in, is_among}
use Rattle.qir_module.specs.Spots.{Item, ThePhi, TheInstr, TheLast, items_in}
use Rattle.qir_module.specs.Passes.{Passes, block_assigned, block_names, registers_named, results_named, leaves_carried, jumps_carry, carried_registers_kept, carried_results_kept, reads_carried, registers_read, results_read, entries_carried, is_target, targets_kept, are_distinct, labels_kept}
use Rattle.qir_machine.proofs.SpotFacts.{and_left, and_right, spot_at, kept_at}
use Rattle.qir_machine.proofs.UniqueTypes.{or_left, or_right, or_cases, any_left, any_right, any_cases, flat_front, kept_register}
use Rattle.qir_machine.proofs.Demands.{known_at, known_more, split_at}
use Rattle.qir_machine.proofs.CarriedIn.{left_forwards, some_assigns, register_named, result_among}

-- the items of a block in front of its last one
abbrev pub front_of : Block → List Item
front_of b = map ThePhi b.phis ++ map TheInstr b.body

-- ---- results that are measured

no_phi_measures : (phis : List Phi) (k : ℕ) → list_any (same_thing (TheResult k)) (flat_map assigned_by (map ThePhi phis)) ≡ true → ⊥
no_phi_measures [] k is = let wrong : false ≡ true = is in cc
no_phi_measures (p ∷ ps) k is = no_phi_measures ps k is

measured_in_body : (body : List Instr) (k : ℕ) → list_any (same_thing (TheResult k)) (flat_map assigned_by (map TheInstr body)) ≡ true → is_among (flat_map measured_in body) k ≡ true
measured_in_body [] k is = is
measured_in_body (i ∷ body) k is = elim (any_cases (same_thing (TheResult k)) (assigned_by (TheInstr i)) (flat_map assigned_by (map TheInstr body)) is) [
  | inl a ↦ any_left (nat_eq k) (measured_in i) (flat_map measured_in body) (result_among (registers_of i) (measured_in i) k a)
  | inr a ↦ any_right (nat_eq k) (measured_in i) (flat_map measured_in body) (measured_in_body body k a)
]

result_of_block : (b : Block) (k : ℕ) → are_assigning (items_in b) (TheResult k) ≡ true → is_among (flat_map measured_in b.body) k ≡ true
result_of_block b k is =
    elim (any_cases (same_thing (TheResult k)) (flat_map assigned_by (front_of b)) (flat_map assigned_by (TheLast b.last ∷ [])) (ap (list_any (same_thing (TheResult k))) (sym (flat_map-append assigned_by (front_of b) (TheLast b.last ∷ []))) ∙ is)) [
      | inr a ↦ absurd (let wrong : false ≡ true = a in cc)
      | inl a ↦ elim (any_cases (same_thing (TheResult k)) (flat_map assigned_by (map ThePhi b.phis)) (flat_map assigned_by (map TheInstr b.body)) (ap (list_any (same_thing (TheResult k))) (sym (flat_map-append assigned_by (map ThePhi b.phis) (map TheInstr b.body))) ∙ a)) [
        | inl c ↦ absurd (no_phi_measures b.phis k c)
        | inr c ↦ measured_in_body b.body k c
      ]
    ]

result_named : (blocks : List Block) (p k : ℕ) → assigns blocks p (TheResult k) ≡ true → is_among (flat_map (λ (b : Block). flat_map measured_in b.body) blocks) k ≡ true
result_named blocks p k is = by_block (slice_get blocks p) refl is
  where
    by_block : (o : Option Block) → slice_get blocks p ≡ o → block_assigns o (TheResult k) ≡ true → is_among (flat_map (λ (b : Block). flat_map measured_in b.body) blocks) k ≡ true
    by_block None e a = absurd (let wrong : false ≡ true = a in cc)
    by_block (Some b) e a =
        let cut = split_at blocks p b e in
        ap (λ (bs : List Block). is_among (flat_map (λ (x : Block). flat_map measured_in x.body) bs) k) cut.2 ∙ flat_front (nat_eq k) (λ (x : Block). flat_map measured_in x.body) cut.0 b cut.1 (result_of_block b k a)

-- ---- a jump back

kept_mapped : (f : ℕ → Thing) (q : Thing → Bool) (xs : List ℕ) (x : ℕ) → list_all q (map f xs) ≡ true → is_among xs x ≡ true → q (f x) ≡ true
kept_mapped f q [] x all is = absurd (let wrong : false ≡ true = is in cc)
kept_mapped f q (y ∷ ys) x all is = elim (or_cases (nat_eq x y) (is_among ys x) is) [
  | inl a ↦ let same : x ≡ y = eqb-true x y a in ap (λ z. q (f z)) same ∙ and_left (q (f y)) (list_all q (map f ys)) all
  | inr a ↦ kept_mapped f q ys x (and_right (q (f y)) (list_all q (map f ys)) all) a
]

leaves : (m : Module) (k to : ℕ) (things : List Thing) (place : Option ℕ) → place ≡ Some to → nat_lt k to ≡ false → leaves_carried m k things place ≡ true
    → list_all (λ t. if is_carried m.blocks to t then is_left m.blocks k t else true) things ≡ true
leaves m k to things None is before kept = absurd (cc)
leaves m k to things (Some p) is before kept =
    let same : p ≡ to = cc in
    ap (λ (later : Bool). if later then true else list_all (λ t. if is_carried m.blocks to t then is_left m.blocks k t else true) things) (sym before)
    ∙ ap (λ q. leaves_carried m k things (Some q)) (sym same) ∙ kept

if_carried : (carried left : Bool) → carried ≡ true → (if carried then left else true) ≡ true → left ≡ true
if_carried true left is kept = kept
if_carried false left is kept = absurd (let wrong : false ≡ true = is in cc)

-- a block that a jump goes to
pub record IsTarget (m : Module) (name : ℕ) : Type 0 where
  pub to : ℕ
  pub next : Block
  pub place : place_of m.blocks name ≡ Some to
  pub found : slice_get m.blocks to ≡ Some next
  pub named : next.name ≡ name

pub left_back : (m : Module) (k : ℕ) (b : Block) (name to : ℕ) (t : Thing) → Passes m → slice_get m.blocks k ≡ Some b → is_among (targets_of b.last) name ≡ true → place_of m.blocks name ≡ Some to → nat_lt k to ≡ false
    → is_carried m.blocks to t ≡ true → is_left m.blocks k t ≡ true
left_back m k b name to (TheRegister r) passes here target place before carried =
    let spot = spot_at k b (front_of b) (TheLast b.last) in
    let kept = kept_at m carried_registers_kept k b (front_of b) (TheLast b.last) [] passes.carried_registers here refl in
    let jumps = and_right (reads_carried m spot (registers_read (TheLast b.last)) && entries_carried m (TheLast b.last)) (jumps_carry m spot (registers_named m) (TheLast b.last)) kept in
    let leaving = leaves m k to (registers_named m) (place_of m.blocks name) place before (kept_register (λ n. leaves_carried m k (registers_named m) (place_of m.blocks n)) (targets_of b.last) name jumps target) in
    let from = some_assigns m.blocks (TheRegister r) (suc to) to carried in
    if_carried (is_carried m.blocks to (TheRegister r)) (is_left m.blocks k (TheRegister r)) carried
    (kept_mapped TheRegister (λ t. if is_carried m.blocks to t then is_left m.blocks k t else true) (flat_map block_assigned m.blocks) r leaving (register_named m.blocks from.0 r from.1))
left_back m k b name to (TheResult r) passes here target place before carried =
    let spot = spot_at k b (front_of b) (TheLast b.last) in
    let kept = kept_at m carried_results_kept k b (front_of b) (TheLast b.last) [] passes.carried_results here refl in
    let jumps = and_right (reads_carried m spot (results_read (TheLast b.last))) (jumps_carry m spot (results_named m) (TheLast b.last)) kept in
    let leaving = leaves m k to (results_named m) (place_of m.blocks name) place before (kept_register (λ n. leaves_carried m k (results_named m) (place_of m.blocks n)) (targets_of b.last) name jumps target) in
    let from = some_assigns m.blocks (TheResult r) (suc to) to carried in
    if_carried (is_carried m.blocks to (TheResult r)) (is_left m.blocks k (TheResult r)) carried
    (kept_mapped TheResult (λ t. if is_carried m.blocks to t then is_left m.blocks k t else true) (flat_map (λ (x : Block). flat_map measured_in x.body) m.blocks) r leaving (result_named m.blocks from.0 r from.1))

pub left_by_jump : (m : Module) (k : ℕ) (b : Block) (name : ℕ) (target : IsTarget m name) (t : Thing) → Passes m → slice_get m.blocks k ≡ Some b → is_among (targets_of b.last) name ≡ true
    → is_carried m.blocks target.to t ≡ true → is_left m.blocks k t ≡ true
left_by_jump m k b name target t passes here among carried = by_test (nat_lt k target.to) refl
  where
    by_test : (later : Bool) → nat_lt k target.to ≡ later → is_left m.blocks k t ≡ true
    by_test true e =
        left_forwards m.blocks k target.to t (ltb-true k target.to e)
        (ap (λ o. jumps_to o (slice_get m.blocks target.to)) here ∙ ap (λ o. jumps_to (Some b) o) target.found ∙ ap (is_among (targets_of b.last)) target.named ∙ among) carried
    by_test false e = left_back m k b name target.to t passes here among target.place e carried

-- what is left by a block is known at its end
pub left_known : (m : Module) (k : ℕ) (b : Block) (t : Thing) → slice_get m.blocks k ≡ Some b → is_left m.blocks k t ≡ true → known_at m k (front_of b) t ≡ true
left_known m k b t here is = elim (or_cases (is_carried m.blocks k t) (assigns m.blocks k t) is) [
  | inl a ↦ or_right (are_assigning (front_of b) t) (is_carried m.blocks k t) a
  | inr a ↦ elim (known_more m k (front_of b) (TheLast b.last) t (or_left (are_assigning (items_in b) t) (is_carried m.blocks k t) (ap (λ o. block_assigns o t) (sym here) ∙ a))) [ inl c ↦ c | inr c ↦ absurd (let wrong : false ≡ true = c in cc) ]
]

-- ---- names

place_found : (k : ℕ) (blocks : List Block) (name p : ℕ) → place_from k blocks name ≡ Some p → (i : ℕ) × (next : Block) × (p ≡ k + i) × (slice_get blocks i ≡ Some next) × (next.name ≡ name)
place_found k [] name p is = absurd (cc)
place_found k (b ∷ blocks) name p is = by_name (nat_eq b.name name) refl is (place_found (suc k) blocks name p)
  where
    by_name : (same : Bool) → nat_eq b.name name ≡ same → (if same then Some k else place_from (suc k) blocks name) ≡ Some p
        → (place_from (suc k) blocks name ≡ Some p → (i : ℕ) × (next : Block) × (p ≡ suc k + i) × (slice_get blocks i ≡ Some next) × (next.name ≡ name))
        → (i : ℕ) × (next : Block) × (p ≡ k + i) × (slice_get (b ∷ blocks) i ≡ Some next) × (next.name ≡ name)
    by_name true e found again = let here : k ≡ p = cc in (0, b, (omega arith), refl, eqb-true b.name name e)
    by_name false e found again = let rest = again found in let place : p ≡ suc k + rest.0 = rest.2 in (suc rest.0, rest.1, (omega arith), rest.3, rest.4)

target_found : (m : Module) (name : ℕ) (place : Option ℕ) → place_of m.blocks name ≡ place → is_target place ≡ true → IsTarget m name
target_found m name None e is = absurd (let wrong : false ≡ true = is in cc)
target_found m name (Some to) e is =
    let found = place_found 0 m.blocks name to e in
    let same : to ≡ found.0 = (let p = found.2 in omega arith) in
    record { to = to; next = found.1; place = e; found = ap (slice_get m.blocks) same ∙ found.3; named = found.4 }

pub target_there : (m : Module) (k : ℕ) (b : Block) (name : ℕ) → Passes m → slice_get m.blocks k ≡ Some b → is_among (targets_of b.last) name ≡ true → IsTarget m name
target_there m k b name passes here among =
    let kept = kept_at m targets_kept k b (front_of b) (TheLast b.last) [] passes.targets here refl in
    target_found m name (place_of m.blocks name) refl
    (kept_register (λ n. is_target (place_of m.blocks n)) (targets_of b.last) name (and_left (list_all (λ n. is_target (place_of m.blocks n)) (targets_of b.last)) (are_distinct (targets_of b.last)) kept) among)

-- the first block of a name is the only one
pub unequal : (x y : ℕ) → nat_eq y x ≡ false → nat_eq x y ≡ false
unequal x y e = by_test (nat_eq x y) refl
  where
    by_test : (t : Bool) → nat_eq x y ≡ t → nat_eq x y ≡ false
    by_test true a = absurd (let wrong : false ≡ true = sym e ∙ eq-eqb y x (sym (eqb-true x y a)) in cc)
    by_test false a = a

by_name : (k i x n : ℕ) (among : Bool) (behind : Option ℕ) (same : Bool) → nat_eq n x ≡ same → not (same || among) ≡ true → (not among ≡ true → behind ≡ Some (suc k + i)) → (if nat_eq x n then Some k else behind) ≡ Some (k + suc i)
by_name k i x n among behind true e none again = absurd (let wrong : false ≡ true = none in cc)
by_name k i x n among behind false e none again =
    let place : suc k + i ≡ k + suc i = omega arith in
    ap (λ (t : Bool). if t then Some k else behind) (unequal x n e) ∙ again none ∙ ap (λ p. Some p) place

no_items : (front : List Item) (item : Item) → front ++ item ∷ [] ≡ [] → ⊥
no_items [] item is = cc
no_items (x ∷ front) item is = cc

first_of_name : (k : ℕ) (blocks : List Block) (i : ℕ) (b : Block) → slice_get blocks i ≡ Some b → not (is_among (block_names (take i blocks)) b.name) ≡ true → place_from k blocks b.name ≡ Some (k + i)
first_of_name k [] i b is apart = absurd (cc)
first_of_name k (x ∷ blocks) zero b is apart =
    let same : x ≡ b = cc in
    let here : k ≡ k + 0 = omega arith in
    ap (λ (t : Bool). if t then Some k else place_from (suc k) blocks b.name) (eq-eqb x.name b.name (ap (λ (y : Block). y.name) same)) ∙ ap (λ n. Some n) here
first_of_name k (x ∷ blocks) (suc i) b is apart = by_name k i x.name b.name (is_among (block_names (take i blocks)) b.name) (place_from (suc k) blocks b.name) (nat_eq b.name x.name) refl apart (first_of_name (suc k) blocks i b is)

pub one_of_name : (m : Module) (k : ℕ) (b : Block) → Passes m → slice_get m.blocks k ≡ Some b → place_of m.blocks b.name ≡ Some k
one_of_name m k b passes here = by_items (items_in b) refl
  where
    zero_k : 0 + k ≡ k
    zero_k = omega arith

    by_items : (items : List Item) → items_in b ≡ items → place_of m.blocks b.name ≡ Some k
    by_items [] e = absurd (no_items (front_of b) (TheLast b.last) e)
    by_items (item ∷ items) e = first_of_name 0 m.blocks k b here (kept_at m labels_kept k b [] item items passes.labels here e) ∙ ap (λ n. Some n) zero_k
