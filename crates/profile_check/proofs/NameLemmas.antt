-- The rules on names of blocks, on targets and on earlier ways, block by block.
use Rattle.std.proofs.Common.{◌≡◌, ◌≢◌, ℕ, zero, suc, ◌+◌, ◌-◌, ◌<◌, ◌≤◌, nat_eq, nat_lt, Bool, true, false, not, ◌&&◌, ◌||◌, cond, if◌then◌else◌, List, [], ◌∷◌, ◌++◌, length, map, take, filter, Option, Some, None, slice_get, refl, ap, sym, ◌∙◌, arith, inl, inr, eq-eqb, lt-ltb, append-nil, get_or}
use Rattle.std.proofs.lemmas.Bool.{ne_eqb, le-ltb}
use Rattle.std.proofs.lemmas.Bool.Decides.{eqb_tells}
use Rattle.std.proofs.lemmas.List.Elements.{filter-append}
use Rattle.std.proofs.Math.Dec.{eqb-suc-zero}
use Rattle.std.specs.List.{list_all}
use Rattle.std.specs.HashMap.{get}
use Rattle.qir_module.specs.declared.block.Block.{Block}
use Rattle.qir_module.specs.Module.{Module}
use Rattle.qir_module.specs.Machine.{place_from, place_of}
use Rattle.qir_module.specs.Numbered.{counted, is_among}
use Rattle.qir_module.specs.Spots.{Item, ThePhi, TheInstr, TheLast, Spot, spots_behind, spots_from}
use Rattle.qir_module.specs.Carried.{targets_of, is_way, earlier, is_empty}
use Rattle.qir_module.specs.Passes.{at_block_start, block_names, is_target, are_distinct, targets_kept_at, labels_kept, targets_kept, earlier_way_kept}
use Rattle.qir_module.specs.Broken.{Place, first_failing, first_breach}
use Rattle.profile_check.specs.Walk.{seen, place_or, first_place, first_in, passed_by}
use Rattle.profile_check.specs.Names.{Table, HasPlaces, AreApart, is_at, named_before, item_targets_fit, targets_fit}
use Rattle.profile_check.specs.Ways.{Rows, items_of, row, ways_among, AreWays, without_earlier, any_below}
use Rattle.std.specs.Prelude.{IfNone}
use Rattle.std.specs.declared.vec.Vec.{Vec}
use Rattle.std.specs.declared.alloc.Global.{Global}
use Rattle.std.proofs.lemmas.Option.{slice_get_read}
use Rattle.profile_check.specs.declared.place.Place.{Place as CodePlace}
use Rattle.profile_check.proofs.Walks.{item_at, first_in_spots, by_blocks, by_items, first_place_same, first_failing_same}

-- ---- demands on blocks

later_none : (test : Spot → Bool) (wanted : ℕ → Block → Bool) → ((s : Spot) → test s ≡ at_block_start s (wanted s.block s.of)) → (k : ℕ) (b : Block) (i : ℕ) (front items : List Item) → first_failing test (spots_behind k b (suc i) front items) ≡ None
later_none test wanted same k b i front [] = refl
later_none test wanted same k b i front (x ∷ xs) =
    let s : Spot = record { block = k; item = suc i; of = b; front = front; here = x } in
    let rest = spots_behind k b (suc (suc i)) (front ++ x ∷ []) xs in
    let kept : test s ≡ true = same s ∙ ap (λ (t : Bool). if t then wanted k b else true) (eqb-suc-zero i) in
    ap (λ (t : Bool). if t then first_failing test rest else Some (record { block = k; item = suc i })) kept
    ∙ later_none test wanted same k b (suc i) (front ++ x ∷ []) xs

start_item : (test : Spot → Bool) (wanted : ℕ → Block → Bool) → ((s : Spot) → test s ≡ at_block_start s (wanted s.block s.of)) → (k : ℕ) (b : Block) (x : Item) (xs : List Item)
    → item_at (first_failing test (spots_behind k b 0 [] (x ∷ xs))) ≡ (if wanted k b then None else Some 0)
start_item test wanted same k b x xs =
    let s : Spot = record { block = k; item = 0; of = b; front = []; here = x } in
    ap (λ (t : Bool). item_at (if t then first_failing test (spots_behind k b 1 (x ∷ []) xs) else Some (record { block = k; item = 0 }))) (same s)
    ∙ ap (λ (o : Option Place). item_at (if wanted k b then o else Some (record { block = k; item = 0 }))) (later_none test wanted same k b 0 (x ∷ []) xs)
    ∙ elim (wanted k b) as (λ t. item_at (if t then None else Some (record { block = k; item = 0 })) ≡ (if t then None else Some 0)) [ true ↦ refl | false ↦ refl ]

block_start : (test : Spot → Bool) (wanted : ℕ → Block → Bool) → ((s : Spot) → test s ≡ at_block_start s (wanted s.block s.of)) → (k : ℕ) (b : Block) → first_in_spots test k b ≡ (if wanted k b then None else Some 0)
block_start test wanted same k b = elim b.phis as (λ phis. item_at (first_failing test (spots_behind k b 0 [] (map ThePhi phis ++ map TheInstr b.body ++ TheLast b.last ∷ []))) ≡ (if wanted k b then None else Some 0)) [
  | [] ↦ elim b.body as (λ body. item_at (first_failing test (spots_behind k b 0 [] ([] ++ map TheInstr body ++ TheLast b.last ∷ []))) ≡ (if wanted k b then None else Some 0)) [
    | [] ↦ start_item test wanted same k b (TheLast b.last) []
    | instr ∷ body ↦ start_item test wanted same k b (TheInstr instr) (map TheInstr body ++ TheLast b.last ∷ [])
  ]
  | phi ∷ phis ↦ start_item test wanted same k b (ThePhi phi) (map ThePhi phis ++ map TheInstr b.body ++ TheLast b.last ∷ [])
]

-- a demand at the start of each block stands there
pub by_starts : (test : Spot → Bool) (wanted : ℕ → Block → Bool) → ((s : Spot) → test s ≡ at_block_start s (wanted s.block s.of)) → (blocks : List Block)
    → first_failing test (spots_from 0 blocks) ≡ first_place (λ k b. if wanted k b then None else Some 0) 0 blocks
by_starts test wanted same blocks =
    by_blocks test 0 blocks ∙ first_place_same (first_in_spots test) (λ k b. if wanted k b then None else Some 0) 0 blocks (block_start test wanted same)

-- two ways to find that find the same in the blocks of a list
pub first_place_at : (all : List Block) (find other : ℕ → Block → Option ℕ) (k : ℕ) (blocks : List Block) → ((j : ℕ) → slice_get all (k + j) ≡ slice_get blocks j) → ((j : ℕ) (b : Block) → slice_get all j ≡ Some b → find j b ≡ other j b)
    → first_place find k blocks ≡ first_place other k blocks
first_place_at all find other k [] stands same = refl
first_place_at all find other k (b ∷ blocks) stands same =
    let here : k ≡ k + 0 = omega arith in
    ap (λ (o : Option ℕ). place_or k o (first_place find (suc k) blocks)) (same k b (ap (slice_get all) here ∙ stands 0))
    ∙ ap (place_or k (other k b)) (first_place_at all find other (suc k) blocks (λ j. let e : suc k + j ≡ k + suc j = omega arith in ap (slice_get all) e ∙ stands (suc j)) same)

pub first_place_all : (blocks : List Block) (find other : ℕ → Block → Option ℕ) → ((j : ℕ) (b : Block) → slice_get blocks j ≡ Some b → find j b ≡ other j b) → first_place find 0 blocks ≡ first_place other 0 blocks
first_place_all blocks find other same = first_place_at blocks find other 0 blocks (λ j. let e : 0 + j ≡ j = omega arith in ap (slice_get blocks) e) same

place_none : (k : ℕ) (o : Option ℕ) (others : Option Place) → place_or k o others ≡ None → (o ≡ None) × (others ≡ None)
place_none k None others none = (refl, none)
place_none k (Some i) others none = absurd (cc)

-- where nothing is found, nothing is found in any block
pub none_found : (find : ℕ → Block → Option ℕ) (k : ℕ) (blocks : List Block) → first_place find k blocks ≡ None → (j : ℕ) (b : Block) → slice_get blocks j ≡ Some b → find (k + j) b ≡ None
none_found find k [] none j b at = absurd (cc)
none_found find k (x ∷ xs) none zero b at =
    let both = place_none k (find k x) (first_place find (suc k) xs) none in
    let one : x ≡ b = cc in
    let here : k + 0 ≡ k = omega arith in
    ap (λ (n : ℕ). find n b) here ∙ ap (find k) (sym one) ∙ both.0
none_found find k (x ∷ xs) none (suc j) b at =
    let both = place_none k (find k x) (first_place find (suc k) xs) none in
    let e : k + suc j ≡ suc k + j = omega arith in
    ap (λ (n : ℕ). find n b) e ∙ none_found find (suc k) xs both.1 j b at

-- ---- names

named_first : (o : ℕ) (all : List Block) (k : ℕ) (b : Block) → slice_get all k ≡ Some b → is_at (o + k) (place_from o all b.name) ≡ not (is_among (block_names (take k all)) b.name)
named_first o [] k b at = absurd (cc)
named_first o (x ∷ xs) zero b at =
    let one : x ≡ b = cc in
    let here : o ≡ o + 0 = omega arith in
    ap (λ (t : Bool). is_at (o + 0) (if t then Some o else place_from (suc o) xs b.name)) (eq-eqb x.name b.name (ap (λ (y : Block). y.name) one))
    ∙ eq-eqb o (o + 0) here
named_first o (x ∷ xs) (suc k) b at =
    elim (eqb_tells x.name b.name) [
      | inl same ↦
          ap (λ (t : Bool). is_at (o + suc k) (if t then Some o else place_from (suc o) xs b.name)) same.0
          ∙ ne_eqb o (o + suc k) (λ e. absurd (omega (arith, e)))
          ∙ ap (λ (t : Bool). not (t || is_among (block_names (take k xs)) b.name)) (sym (eq-eqb b.name x.name (sym same.1)))
      | inr other ↦
          let e : o + suc k ≡ suc o + k = omega arith in
          ap (λ (t : Bool). is_at (o + suc k) (if t then Some o else place_from (suc o) xs b.name)) other.0
          ∙ ap (λ (n : ℕ). is_at n (place_from (suc o) xs b.name)) e
          ∙ named_first (suc o) xs k b at
          ∙ ap (λ (t : Bool). not (t || is_among (block_names (take k xs)) b.name)) (sym (ne_eqb b.name x.name (λ same. other.1 (sym same))))
    ]

pub labels_at : (m : Module) → first_breach m labels_kept ≡ first_place (named_before m.blocks) 0 m.blocks
labels_at m =
    let wanted = λ (k : ℕ) (b : Block). not (is_among (block_names (take k m.blocks)) b.name) in
    by_starts (labels_kept m) wanted (λ s. refl) m.blocks
    ∙ first_place_all m.blocks (λ k b. if wanted k b then None else Some 0) (named_before m.blocks) (λ k b at.
    let e : 0 + k ≡ k = omega arith in
    ap (λ (t : Bool). if t then None else Some 0) (sym (named_first 0 m.blocks k b at) ∙ ap (λ (n : ℕ). is_at n (place_of m.blocks b.name)) e))

abbrev found_unless : Bool → Option ℕ
found_unless t = if t then None else Some 0

-- where all names are kept, each block is the first of its name
pub labels_apart : (blocks : List Block) → first_place (named_before blocks) 0 blocks ≡ None → AreApart blocks
labels_apart blocks none k b at =
    let e : 0 + k ≡ k = omega arith in
    is_place k (place_of blocks b.name) (sym (ap (λ (n : ℕ). named_before blocks n b) e) ∙ none_found (named_before blocks) 0 blocks none k b at)
  where
    is_place : (k : ℕ) (o : Option ℕ) → found_unless (is_at k o) ≡ None → o ≡ Some k
    is_place k None none = absurd (cc)
    is_place k (Some q) none = elim (eqb_tells q k) [ inl same ↦ ap Some same.1 | inr other ↦ let e : found_unless false ≡ None = sym (ap found_unless other.0) ∙ none in cc ]

pub labels_none_apart : (m : Module) (found : Option CodePlace) → seen found ≡ first_breach m labels_kept → IfNone found (AreApart m.blocks)
labels_none_apart m None is = labels_apart m.blocks (sym (labels_at m) ∙ sym is)
labels_none_apart m (Some p) is = tt

-- ---- targets

all_targets : (place other : ℕ → Option ℕ) (names : List ℕ) → ((n : ℕ) → place n ≡ other n) → list_all (λ n. is_target (place n)) names ≡ list_all (λ n. is_target (other n)) names
all_targets place other [] same = refl
all_targets place other (n ∷ ns) same =
    ap (λ (o : Option ℕ). is_target o && list_all (λ k. is_target (place k)) ns) (same n)
    ∙ ap (λ (t : Bool). is_target (other n) && t) (all_targets place other ns same)

pub targets_at : (m : Module) (places : Table) → HasPlaces places m.blocks → first_breach m targets_kept ≡ first_place (first_in (targets_fit (get nat_eq places))) 0 m.blocks
unfolding targets_fit
targets_at m places has =
    first_failing_same (targets_kept m) (passed_by (targets_fit (get nat_eq places))) (spots_from 0 m.blocks) (λ s. of_item s.here)
    ∙ by_items (targets_fit (get nat_eq places)) 0 m.blocks
  where
    of_item : (x : Item) → targets_kept_at m x ≡ item_targets_fit (get nat_eq places) x
    of_item (ThePhi phi) = refl
    of_item (TheInstr instr) = refl
    of_item (TheLast last) = ap (λ (t : Bool). t && are_distinct (targets_of last)) (all_targets (place_of m.blocks) (get nat_eq places) (targets_of last) (λ n. sym (has n)))

-- ---- earlier ways

counted_split : (k a n : ℕ) → counted k (a + n) ≡ counted k a ++ counted (k + a) n
counted_split k zero n = let e : 0 + n ≡ n = omega arith in let f : k ≡ k + 0 = omega arith in ap (counted k) e ∙ ap (λ (o : ℕ). counted o n) f
counted_split k (suc a) n =
    let e : suc a + n ≡ suc (a + n) = omega arith in
    let f : suc k + a ≡ k + suc a = omega arith in
    ap (counted k) e ∙ ap (λ (ns : List ℕ). k ∷ ns) (counted_split (suc k) a n ∙ ap (λ (o : ℕ). counted (suc k) a ++ counted o n) f)

none_below : (p : ℕ → Bool) (b k n : ℕ) → b ≤ k → filter (λ q. nat_lt q b) (filter p (counted k n)) ≡ []
none_below p b k zero past = refl
none_below p b k (suc n) past = elim (p k) as (λ t. filter (λ q. nat_lt q b) (cond t (k ∷ filter p (counted (suc k) n)) (filter p (counted (suc k) n))) ≡ []) [
  | true ↦ ap (λ (t : Bool). cond t (k ∷ filter (λ q. nat_lt q b) (filter p (counted (suc k) n))) (filter (λ q. nat_lt q b) (filter p (counted (suc k) n)))) (le-ltb k b past) ∙ none_below p b (suc k) n (omega arith)
  | false ↦ none_below p b (suc k) n (omega arith)
]

all_below : (p : ℕ → Bool) (b k n : ℕ) → k + n ≤ b → filter (λ q. nat_lt q b) (filter p (counted k n)) ≡ filter p (counted k n)
all_below p b k zero within = refl
all_below p b k (suc n) within = elim (p k) as (λ t. filter (λ q. nat_lt q b) (cond t (k ∷ filter p (counted (suc k) n)) (filter p (counted (suc k) n))) ≡ cond t (k ∷ filter p (counted (suc k) n)) (filter p (counted (suc k) n))) [
  | true ↦
      ap (λ (t : Bool). cond t (k ∷ filter (λ q. nat_lt q b) (filter p (counted (suc k) n))) (filter (λ q. nat_lt q b) (filter p (counted (suc k) n)))) (lt-ltb k b (omega arith))
      ∙ ap (λ (ns : List ℕ). k ∷ ns) (all_below p b (suc k) n (omega arith))
  | false ↦ all_below p b (suc k) n (omega arith)
]

-- of the predecessors of a block those that stand earlier
pub earlier_ways : (blocks : List Block) (b : ℕ) → b ≤ length blocks → filter (λ q. nat_lt q b) (ways_among blocks (length blocks) b) ≡ earlier blocks b
earlier_ways blocks b within =
    let p = λ (q : ℕ). is_way blocks q b in
    let n = length blocks in
    let split : n ≡ b + (n - b) = omega arith in
    let start : b ≤ 0 + b = omega arith in
    let small : 0 + b ≤ b = omega arith in
    ap (λ (m : ℕ). filter (λ q. nat_lt q b) (filter p (counted 0 m))) split
    ∙ ap (λ (ns : List ℕ). filter (λ q. nat_lt q b) (filter p ns)) (counted_split 0 b (n - b))
    ∙ ap (filter (λ q. nat_lt q b)) (filter-append p (counted 0 b) (counted (0 + b) (n - b)))
    ∙ filter-append (λ q. nat_lt q b) (filter p (counted 0 b)) (filter p (counted (0 + b) (n - b)))
    ∙ ap (λ (ns : List ℕ). filter (λ q. nat_lt q b) (filter p (counted 0 b)) ++ ns) (none_below p b (0 + b) (n - b) start)
    ∙ ap (λ (ns : List ℕ). ns ++ []) (all_below p b 0 b small)
    ∙ append-nil (filter p (counted 0 b))

any_kept : (b : ℕ) (ns : List ℕ) → any_below b ns ≡ not (is_empty (filter (λ q. nat_lt q b) ns))
any_kept b [] = refl
any_kept b (n ∷ ns) = elim (nat_lt n b) as (λ t. (t || any_below b ns) ≡ not (is_empty (cond t (n ∷ filter (λ q. nat_lt q b) ns) (filter (λ q. nat_lt q b) ns)))) [ true ↦ refl | false ↦ any_kept b ns ]

-- whether a predecessor stands earlier
pub any_earlier : (rows : Rows) (blocks : List Block) (b : ℕ) → AreWays rows blocks → b < length blocks → any_below b (row rows b) ≡ not (is_empty (earlier blocks b))
any_earlier rows blocks b ways within =
    ap (any_below b) (ways.each b within)
    ∙ any_kept b (ways_among blocks (length blocks) b)
    ∙ ap (λ (ns : List ℕ). not (is_empty ns)) (earlier_ways blocks b (omega arith))

pub row_at : (rows : Rows) (b : ℕ) (v : Vec ℕ Global) → b < length rows → v ≡ get_or rows b v → v.items ≡ row rows b
row_at rows b v within is = ap items_of (sym (slice_get_read rows (length rows) b v refl within is))

-- a block that has no earlier way, and one that has one or is the first
pub no_earlier : (rows : Rows) (blocks : List Block) (k : ℕ) (b : Block) → AreWays rows blocks → k < length blocks → k ≢ 0 → any_below k (row rows k) ≡ false → without_earlier blocks k b ≡ Some 0
no_earlier rows blocks k b ways within later none =
    ap (λ (t : Bool). found_unless (t || not (is_empty (earlier blocks k)))) (ne_eqb k 0 later)
    ∙ ap found_unless (sym (any_earlier rows blocks k ways within) ∙ none)

pub some_earlier : (rows : Rows) (blocks : List Block) (k : ℕ) (b : Block) → AreWays rows blocks → k < length blocks → any_below k (row rows k) ≡ true → without_earlier blocks k b ≡ None
some_earlier rows blocks k b ways within some =
    ap (λ (t : Bool). found_unless (nat_eq k 0 || t)) (sym (any_earlier rows blocks k ways within) ∙ some)
    ∙ elim (nat_eq k 0) as (λ t. found_unless (t || true) ≡ None) [ true ↦ refl | false ↦ refl ]

pub first_entered : (blocks : List Block) (k : ℕ) (b : Block) → k ≡ 0 → without_earlier blocks k b ≡ None
first_entered blocks k b is = ap (λ (t : Bool). found_unless (t || not (is_empty (earlier blocks k)))) (eq-eqb k 0 is)

pub earlier_way_at : (m : Module) → first_breach m earlier_way_kept ≡ first_place (without_earlier m.blocks) 0 m.blocks
earlier_way_at m = by_starts (earlier_way_kept m) (λ k b. nat_eq k 0 || not (is_empty (earlier m.blocks k))) (λ s. refl) m.blocks
