-- The mentions and the jumps back of a module, item by item of its text, and what they assign.
use Rattle.std.proofs.Common.{◌≡◌, ℕ, zero, suc, ◌+◌, ◌<◌, nat_eq, Bool, true, false, ◌&&◌, ◌||◌, if◌then◌else◌, List, [], ◌∷◌, ◌++◌, length, map, Option, Some, None, slice_get, refl, ap, sym, ◌∙◌, arith, eq-eqb, append_assoc, append-nil}
use Rattle.std.proofs.lemmas.Bool.{ne_eqb}
use Rattle.std.proofs.lemmas.Grind.{flat_map-append}
use Rattle.std.proofs.lemmas.List.Folds.{list_any-append}
use Rattle.std.specs.List.{flat_map, list_any}
use Rattle.qir_module.specs.declared.instruction.Instr.{Instr}
use Rattle.qir_module.specs.declared.instruction.Last.{Last}
use Rattle.qir_module.specs.declared.block.Phi.{Phi}
use Rattle.qir_module.specs.declared.block.Block.{Block}
use Rattle.qir_module.specs.Numbered.{registers_of, measured_in, is_among}
use Rattle.qir_module.specs.Spots.{Item, ThePhi, TheInstr, TheLast, items_in, Spot, spots_behind, block_spots, spots_from}
use Rattle.qir_module.specs.Carried.{Thing, TheRegister, TheResult, same_thing, assigned_by, are_assigning, block_assigns, assigns, targets_of}
use Rattle.profile_check.specs.declared.place.Place.{Place}
use Rattle.profile_check.specs.declared.mentions.How.TheVariants.{Read}
use Rattle.profile_check.specs.declared.mentions.Mention.{Mention}
use Rattle.profile_check.specs.declared.jumps.Jump.{Jump}
use Rattle.profile_check.specs.Names.{is_at}
use Rattle.profile_check.specs.Visits.{placed_items, placed_in, placed_from}
use Rattle.profile_check.specs.Mentions.{Things, Registers, Results, thing, assigned, read, taken, read_mentions, taken_mentions, assigned_mentions, item_mentions, latest_behind, latest_from, mentions_from, mentions_of, nowhere}
use Rattle.profile_check.specs.Rounds.{is_assigning, jumps_at, jumps_from}
use Rattle.profile_check.proofs.FirstLemmas.{at_spot}
use Rattle.profile_check.proofs.MentionLemmas.{item_same, mentions-append}

or_true : (t : Bool) → (t || true) ≡ true
or_true true = refl
or_true false = refl

or_false : (t : Bool) → (t || false) ≡ t
or_false true = refl
or_false false = refl

and_false : (t : Bool) → (t && false) ≡ false
and_false true = refl
and_false false = refl

or_comm : (a b : Bool) → (a || b) ≡ (b || a)
or_comm true b = sym (or_true b)
or_comm false b = sym (or_false b)

-- ---- what an item assigns

registers_any : (n : ℕ) (rs : List ℕ) → list_any (same_thing (TheRegister n)) (map TheRegister rs) ≡ is_among rs n
registers_any n [] = refl
registers_any n (r ∷ rs) = ap (λ (t : Bool). nat_eq n r || t) (registers_any n rs)

registers_none : (n : ℕ) (ks : List ℕ) → list_any (same_thing (TheRegister n)) (map TheResult ks) ≡ false
registers_none n [] = refl
registers_none n (k ∷ ks) = registers_none n ks

results_any : (n : ℕ) (ks : List ℕ) → list_any (same_thing (TheResult n)) (map TheResult ks) ≡ is_among ks n
results_any n [] = refl
results_any n (k ∷ ks) = ap (λ (t : Bool). nat_eq n k || t) (results_any n ks)

results_none : (n : ℕ) (rs : List ℕ) → list_any (same_thing (TheResult n)) (map TheRegister rs) ≡ false
results_none n [] = refl
results_none n (r ∷ rs) = results_none n rs

pub assigned_is : (things : Things) (item : Item) (n : ℕ) → list_any (same_thing (thing things n)) (assigned_by item) ≡ is_among (assigned things item) n
assigned_is Registers (ThePhi phi) n = refl
assigned_is Registers (TheInstr instr) n =
    list_any-append (same_thing (TheRegister n)) (map TheRegister (registers_of instr)) (map TheResult (measured_in instr))
    ∙ ap (λ (t : Bool). t || list_any (same_thing (TheRegister n)) (map TheResult (measured_in instr))) (registers_any n (registers_of instr))
    ∙ ap (λ (t : Bool). is_among (registers_of instr) n || t) (registers_none n (measured_in instr))
    ∙ or_false (is_among (registers_of instr) n)
assigned_is Registers (TheLast last) n = refl
assigned_is Results (ThePhi phi) n = refl
assigned_is Results (TheInstr instr) n =
    list_any-append (same_thing (TheResult n)) (map TheRegister (registers_of instr)) (map TheResult (measured_in instr))
    ∙ ap (λ (t : Bool). t || list_any (same_thing (TheResult n)) (map TheResult (measured_in instr))) (results_none n (registers_of instr))
    ∙ results_any n (measured_in instr)
assigned_is Results (TheLast last) n = refl

assigning_more : (things : Things) (front : List Item) (x : Item) (n : ℕ) → are_assigning (front ++ x ∷ []) (thing things n) ≡ (is_among (assigned things x) n || are_assigning front (thing things n))
assigning_more things front x n =
    ap (list_any (same_thing (thing things n))) (flat_map-append assigned_by front (x ∷ []) ∙ ap (λ (ts : List Thing). flat_map assigned_by front ++ ts) (append-nil (assigned_by x)))
    ∙ list_any-append (same_thing (thing things n)) (flat_map assigned_by front) (assigned_by x)
    ∙ ap (λ (t : Bool). are_assigning front (thing things n) || t) (assigned_is things x n)
    ∙ or_comm (are_assigning front (thing things n)) (is_among (assigned things x) n)

-- ---- mentions

abbrev pub front_latest : Things → Spot → ℕ → Option ℕ
front_latest things s n = if are_assigning s.front (thing things n) then Some s.block else None

abbrev pub spot_mentions : Things → Spot → List Mention
spot_mentions things s = item_mentions things (front_latest things s) (at_spot s) s.here

pub front_is : (t : Bool) (k : ℕ) → is_at k (if t then Some k else None) ≡ t
front_is true k = eq-eqb k k refl
front_is false k = refl

mentions_in_block : (things : Things) (k : ℕ) (b : Block) (i : ℕ) (front items : List Item) (latest : ℕ → Option ℕ) → ((n : ℕ) → is_at k (latest n) ≡ are_assigning front (thing things n))
    → mentions_from things latest (placed_items k i items) ≡ flat_map (spot_mentions things) (spots_behind k b i front items)
mentions_in_block things k b i front [] latest same = refl
mentions_in_block things k b i front (x ∷ xs) latest same =
    let s : Spot = record { block = k; item = i; of = b; front = front; here = x } in
    let after = latest_behind (assigned things x) latest k in
    ap (λ (ms : List Mention). ms ++ mentions_from things after (placed_items k (suc i) xs))
    (item_same things latest (front_latest things s) (at_spot s) x (λ n. same n ∙ sym (front_is (are_assigning front (thing things n)) k)))
    ∙ ap (λ (ms : List Mention). spot_mentions things s ++ ms) (mentions_in_block things k b (suc i) (front ++ x ∷ []) xs after (λ n.
    elim (is_among (assigned things x) n) as (λ t. is_at k (if t then Some k else latest n) ≡ (t || are_assigning front (thing things n))) [ true ↦ eq-eqb k k refl | false ↦ same n ]
    ∙ sym (assigning_more things front x n)))

bound_if : (t : Bool) (o : Option ℕ) (k j : ℕ) → (o ≡ Some j → j < suc k) → (if t then Some k else o) ≡ Some j → j < suc k
bound_if true o k j below at =
    let same : k ≡ j = cc in
    omega (arith, same)
bound_if false o k j below at = below at

latest_bound : (things : Things) (k i : ℕ) (items : List Item) (latest : ℕ → Option ℕ) → ((n j : ℕ) → latest n ≡ Some j → j < suc k) → (n j : ℕ) → latest_from things latest (placed_items k i items) n ≡ Some j → j < suc k
latest_bound things k i [] latest below n j at = below n j at
latest_bound things k i (x ∷ xs) latest below n j at =
    latest_bound things k (suc i) xs (latest_behind (assigned things x) latest k) (λ m l. bound_if (is_among (assigned things x) m) (latest m) k l (below m l)) n j at

not_at : (k : ℕ) (o : Option ℕ) → ((j : ℕ) → o ≡ Some j → j < k) → is_at k o ≡ false
not_at k None below = refl
not_at k (Some j) below =
    let lower : j < k = below j refl in
    ne_eqb j k (λ e. absurd (omega (arith, lower, e)))

mentions_in_blocks : (things : Things) (k : ℕ) (blocks : List Block) (latest : ℕ → Option ℕ) → ((n j : ℕ) → latest n ≡ Some j → j < k) → mentions_from things latest (placed_from k blocks) ≡ flat_map (spot_mentions things) (spots_from k blocks)
mentions_in_blocks things k [] latest below = refl
mentions_in_blocks things k (b ∷ bs) latest below =
    let after = latest_from things latest (placed_in k b) in
    let grown : (n j : ℕ) → latest n ≡ Some j → j < suc k = λ n j at. omega (arith, below n j at) in
    mentions-append things latest (placed_in k b) (placed_from (suc k) bs)
    ∙ ap (λ (ms : List Mention). ms ++ mentions_from things after (placed_from (suc k) bs)) (mentions_in_block things k b 0 [] (items_in b) latest (λ n. not_at k (latest n) (below n)))
    ∙ ap (λ (ms : List Mention). flat_map (spot_mentions things) (block_spots k b) ++ ms) (mentions_in_blocks things (suc k) bs after (latest_bound things k 0 (items_in b) latest grown))
    ∙ sym (flat_map-append (spot_mentions things) (block_spots k b) (spots_from (suc k) bs))

pub mentions_by_spots : (things : Things) (blocks : List Block) → mentions_of things (placed_from 0 blocks) ≡ flat_map (spot_mentions things) (spots_from 0 blocks)
mentions_by_spots things blocks = mentions_in_blocks things 0 blocks nowhere (λ n j at. absurd (cc))

-- ---- what mentions assign

abbrev pub assigns_at : ℕ → ℕ → Mention → Bool
assigns_at b n m = is_assigning m.how && nat_eq m.at.block b && nat_eq n m.number

abbrev pub assigned_at : List Mention → ℕ → ℕ → Bool
assigned_at ms b n = list_any (assigns_at b n) ms

reads_assign : (latest : ℕ → Option ℕ) (at : Place) (ns : List ℕ) (b n : ℕ) → assigned_at (read_mentions latest at ns) b n ≡ false
reads_assign latest at [] b n = refl
reads_assign latest at (k ∷ ks) b n = elim (is_at at.block (latest k)) as (λ t. assigned_at ((if t then [] else record { how = Read; at = at; number = k } ∷ []) ++ read_mentions latest at ks) b n ≡ false) [
  | true ↦ reads_assign latest at ks b n
  | false ↦ reads_assign latest at ks b n
]

takes_assign : (at : Place) (es : List (ℕ × ℕ)) (b n : ℕ) → assigned_at (taken_mentions at es) b n ≡ false
takes_assign at [] b n = refl
takes_assign at (e ∷ es) b n = takes_assign at es b n

both_or : (x p q : Bool) → ((x && p) || (x && q)) ≡ (x && (p || q))
both_or true p q = refl
both_or false p q = refl

assigned_assign : (at : Place) (ns : List ℕ) (b n : ℕ) → assigned_at (assigned_mentions at ns) b n ≡ (nat_eq at.block b && is_among ns n)
assigned_assign at [] b n = sym (and_false (nat_eq at.block b))
assigned_assign at (k ∷ ks) b n =
    ap (λ (t : Bool). (nat_eq at.block b && nat_eq n k) || t) (assigned_assign at ks b n)
    ∙ both_or (nat_eq at.block b) (nat_eq n k) (is_among ks n)

item_assigns : (things : Things) (latest : ℕ → Option ℕ) (at : Place) (item : Item) (b n : ℕ) → assigned_at (item_mentions things latest at item) b n ≡ (nat_eq at.block b && is_among (assigned things item) n)
item_assigns things latest at item b n =
    let r = read_mentions latest at (read things item) in
    let t = taken_mentions at (taken things item) in
    let a = assigned_mentions at (assigned things item) in
    list_any-append (assigns_at b n) (r ++ t) a
    ∙ ap (λ (x : Bool). x || assigned_at a b n) (list_any-append (assigns_at b n) r t)
    ∙ ap (λ (x : Bool). (x || assigned_at t b n) || assigned_at a b n) (reads_assign latest at (read things item) b n)
    ∙ ap (λ (x : Bool). x || assigned_at a b n) (takes_assign at (taken things item) b n)
    ∙ assigned_assign at (assigned things item) b n

spots_assign : (things : Things) (k : ℕ) (b : Block) (i : ℕ) (front items : List Item) (p n : ℕ) → assigned_at (flat_map (spot_mentions things) (spots_behind k b i front items)) p n ≡ (nat_eq k p && are_assigning items (thing things n))
spots_assign things k b i front [] p n = sym (and_false (nat_eq k p))
spots_assign things k b i front (x ∷ xs) p n =
    let s : Spot = record { block = k; item = i; of = b; front = front; here = x } in
    let rest = flat_map (spot_mentions things) (spots_behind k b (suc i) (front ++ x ∷ []) xs) in
    list_any-append (assigns_at p n) (spot_mentions things s) rest
    ∙ ap (λ (t : Bool). t || assigned_at rest p n) (item_assigns things (front_latest things s) (at_spot s) x p n)
    ∙ ap (λ (t : Bool). (nat_eq k p && is_among (assigned things x) n) || t) (spots_assign things k b (suc i) (front ++ x ∷ []) xs p n)
    ∙ both_or (nat_eq k p) (is_among (assigned things x) n) (are_assigning xs (thing things n))
    ∙ ap (λ (t : Bool). nat_eq k p && (t || are_assigning xs (thing things n))) (sym (assigned_is things x n))
    ∙ ap (λ (t : Bool). nat_eq k p && t) (sym (list_any-append (same_thing (thing things n)) (assigned_by x) (flat_map assigned_by xs)))

abbrev blocks_assign : ℕ → List Block → ℕ → Thing → Bool
blocks_assign k [] p t = false
blocks_assign k (b ∷ bs) p t = (nat_eq k p && are_assigning (items_in b) t) || blocks_assign (suc k) bs p t

all_assign : (things : Things) (k : ℕ) (bs : List Block) (p n : ℕ) → assigned_at (flat_map (spot_mentions things) (spots_from k bs)) p n ≡ blocks_assign k bs p (thing things n)
all_assign things k [] p n = refl
all_assign things k (b ∷ bs) p n =
    ap (λ (ms : List Mention). assigned_at ms p n) (flat_map-append (spot_mentions things) (block_spots k b) (spots_from (suc k) bs))
    ∙ list_any-append (assigns_at p n) (flat_map (spot_mentions things) (block_spots k b)) (flat_map (spot_mentions things) (spots_from (suc k) bs))
    ∙ ap (λ (t : Bool). t || assigned_at (flat_map (spot_mentions things) (spots_from (suc k) bs)) p n) (spots_assign things k b 0 [] (items_in b) p n)
    ∙ ap (λ (t : Bool). (nat_eq k p && are_assigning (items_in b) (thing things n)) || t) (all_assign things (suc k) bs p n)

blocks_none : (k : ℕ) (bs : List Block) (p : ℕ) (t : Thing) → p < k → blocks_assign k bs p t ≡ false
blocks_none k [] p t lower = refl
blocks_none k (b ∷ bs) p t lower =
    ap (λ (x : Bool). (x && are_assigning (items_in b) t) || blocks_assign (suc k) bs p t) (ne_eqb k p (λ e. absurd (omega (arith, lower, e))))
    ∙ blocks_none (suc k) bs p t (omega arith)

blocks_at : (k : ℕ) (bs : List Block) (j : ℕ) (t : Thing) → blocks_assign k bs (k + j) t ≡ block_assigns (slice_get bs j) t
blocks_at k [] j t = refl
blocks_at k (b ∷ bs) zero t =
    let here : k ≡ k + 0 = omega arith in
    ap (λ (x : Bool). (x && are_assigning (items_in b) t) || blocks_assign (suc k) bs (k + 0) t) (eq-eqb k (k + 0) here)
    ∙ ap (λ (x : Bool). are_assigning (items_in b) t || x) (blocks_none (suc k) bs (k + 0) t (omega arith))
    ∙ or_false (are_assigning (items_in b) t)
blocks_at k (b ∷ bs) (suc j) t =
    let e : k + suc j ≡ suc k + j = omega arith in
    ap (λ (x : Bool). (x && are_assigning (items_in b) t) || blocks_assign (suc k) bs (k + suc j) t) (ne_eqb k (k + suc j) (λ same. absurd (omega (arith, same))))
    ∙ ap (λ (p : ℕ). blocks_assign (suc k) bs p t) e
    ∙ blocks_at (suc k) bs j t

pub mentions_assign : (things : Things) (blocks : List Block) (p n : ℕ) → assigned_at (flat_map (spot_mentions things) (spots_from 0 blocks)) p n ≡ assigns blocks p (thing things n)
mentions_assign things blocks p n =
    let e : p ≡ 0 + p = omega arith in
    all_assign things 0 blocks p n ∙ ap (λ (q : ℕ). blocks_assign 0 blocks q (thing things n)) e ∙ blocks_at 0 blocks p (thing things n)

-- ---- jumps back

abbrev pub item_jumps : (ℕ → Option ℕ) → Place → Item → List Jump
item_jumps place at (ThePhi phi) = []
item_jumps place at (TheInstr instr) = []
item_jumps place at (TheLast last) = jumps_at place at (targets_of last)

abbrev pub spot_jumps : (ℕ → Option ℕ) → Spot → List Jump
spot_jumps place s = item_jumps place (at_spot s) s.here

jumps_past_body : (place : ℕ → Option ℕ) (k : ℕ) (b : Block) (i : ℕ) (front : List Item) (body : List Instr) (last : Last)
    → flat_map (spot_jumps place) (spots_behind k b i front (map TheInstr body ++ TheLast last ∷ [])) ≡ jumps_at place (record { block = k; item = i + length body }) (targets_of last)
jumps_past_body place k b i front [] last =
    let e : i ≡ i + 0 = omega arith in
    append-nil (jumps_at place (record { block = k; item = i }) (targets_of last)) ∙ ap (λ (n : ℕ). jumps_at place (record { block = k; item = n }) (targets_of last)) e
jumps_past_body place k b i front (x ∷ xs) last =
    let e : suc i + length xs ≡ i + suc (length xs) = omega arith in
    jumps_past_body place k b (suc i) (front ++ TheInstr x ∷ []) xs last ∙ ap (λ (n : ℕ). jumps_at place (record { block = k; item = n }) (targets_of last)) e

jumps_past_phis : (place : ℕ → Option ℕ) (k : ℕ) (b : Block) (i : ℕ) (front : List Item) (phis : List Phi) (body : List Instr) (last : Last)
    → flat_map (spot_jumps place) (spots_behind k b i front (map ThePhi phis ++ (map TheInstr body ++ TheLast last ∷ []))) ≡ jumps_at place (record { block = k; item = i + length phis + length body }) (targets_of last)
jumps_past_phis place k b i front [] body last =
    let e : i + length body ≡ i + 0 + length body = omega arith in
    jumps_past_body place k b i front body last ∙ ap (λ (n : ℕ). jumps_at place (record { block = k; item = n }) (targets_of last)) e
jumps_past_phis place k b i front (x ∷ xs) body last =
    let e : suc i + length xs + length body ≡ i + suc (length xs) + length body = omega arith in
    jumps_past_phis place k b (suc i) (front ++ ThePhi x ∷ []) xs body last ∙ ap (λ (n : ℕ). jumps_at place (record { block = k; item = n }) (targets_of last)) e

jumps_in_blocks : (place : ℕ → Option ℕ) (k : ℕ) (bs : List Block) → jumps_from place k bs ≡ flat_map (spot_jumps place) (spots_from k bs)
jumps_in_blocks place k [] = refl
jumps_in_blocks place k (b ∷ bs) =
    let e : 0 + length b.phis + length b.body ≡ length b.phis + length b.body = omega arith in
    ap (λ (js : List Jump). js ++ jumps_from place (suc k) bs) (sym (
    ap (λ (items : List Item). flat_map (spot_jumps place) (spots_behind k b 0 [] items)) (append_assoc (map ThePhi b.phis) (map TheInstr b.body) (TheLast b.last ∷ []))
    ∙ jumps_past_phis place k b 0 [] b.phis b.body b.last
    ∙ ap (λ (n : ℕ). jumps_at place (record { block = k; item = n }) (targets_of b.last)) e))
    ∙ ap (λ (js : List Jump). flat_map (spot_jumps place) (block_spots k b) ++ js) (jumps_in_blocks place (suc k) bs)
    ∙ sym (flat_map-append (spot_jumps place) (block_spots k b) (spots_from (suc k) bs))

pub jumps_by_spots : (place : ℕ → Option ℕ) (bs : List Block) → jumps_from place 0 bs ≡ flat_map (spot_jumps place) (spots_from 0 bs)
jumps_by_spots place bs = jumps_in_blocks place 0 bs
