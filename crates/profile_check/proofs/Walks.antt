-- The first item of a block that does not pass, part by part, and the first place of a module that does not.
use Rattle.std.proofs.Common.{◌≡◌, ℕ, suc, ◌+◌, ◌<◌, Bool, true, false, if◌then◌else◌, nat_eq, ◌&&◌, List, [], ◌∷◌, ◌++◌, map, length, Option, Some, None, refl, ap, ◌∙◌, arith, length-append}
use Rattle.std.proofs.lemmas.List.{length-map}
use Rattle.qir_module.specs.declared.block.Block.{Block}
use Rattle.qir_module.specs.Spots.{Item, ThePhi, TheInstr, TheLast, items_in, Spot, spots_behind, block_spots, spots_from}
use Rattle.qir_module.specs.Passes.{at_first_item}
use Rattle.qir_module.specs.Broken.{Place, first_failing}
use Rattle.profile_check.specs.Walk.{first_item, place_or, first_place, Test, first_in, passed_by}

-- the first of two, if any
abbrev pub some_or : {A : Type 0} → Option A → Option A → Option A
some_or (Some x) other = Some x
some_or None other = other

pub some_or_assoc : {A : Type 0} (a b c : Option A) → some_or (some_or a b) c ≡ some_or a (some_or b c)
some_or_assoc None b c = refl
some_or_assoc (Some x) b c = refl

pub first_item-append : (keeps : ℕ → Item → Bool) (i : ℕ) (xs ys : List Item) → first_item keeps i (xs ++ ys) ≡ some_or (first_item keeps i xs) (first_item keeps (i + length xs) ys)
first_item-append keeps i [] ys = let e : i ≡ i + 0 = omega arith in ap (λ (n : ℕ). first_item keeps n ys) e
first_item-append keeps i (x ∷ xs) ys =
    let e : suc i + length xs ≡ i + suc (length xs) = omega arith in
    elim (keeps i x) as (λ b. (if b then first_item keeps (suc i) (xs ++ ys) else Some i) ≡ some_or (if b then first_item keeps (suc i) xs else Some i) (first_item keeps (i + suc (length xs)) ys)) [
      | true ↦ first_item-append keeps (suc i) xs ys ∙ ap (λ (n : ℕ). some_or (first_item keeps (suc i) xs) (first_item keeps n ys)) e
      | false ↦ refl
    ]

-- the last item, if it does not pass
abbrev pub last_item : Bool → ℕ → Option ℕ
last_item true i = None
last_item false i = Some i

pub first_in_parts : (keeps : Test) (k : ℕ) (b : Block)
    → first_in keeps k b ≡ some_or (first_item (keeps k) 0 (map ThePhi b.phis)) (some_or (first_item (keeps k) (length b.phis) (map TheInstr b.body)) (last_item (keeps k (length b.phis + length b.body) (TheLast b.last)) (length b.phis + length b.body)))
first_in_parts keeps k b =
    let phis = map ThePhi b.phis in
    let body = map TheInstr b.body in
    let last = TheLast b.last ∷ [] in
    let at : 0 + length phis ≡ length b.phis = simp length-map (omega arith) in
    let end : 0 + length (phis ++ body) ≡ length b.phis + length b.body = simp (length-append, length-map) (omega arith) in
    first_item-append (keeps k) 0 (phis ++ body) last
    ∙ ap (λ (n : ℕ). some_or (first_item (keeps k) 0 (phis ++ body)) (first_item (keeps k) n last)) end
    ∙ ap (λ (o : Option ℕ). some_or o (first_item (keeps k) (length b.phis + length b.body) last)) (
    first_item-append (keeps k) 0 phis body ∙ ap (λ (n : ℕ). some_or (first_item (keeps k) 0 phis) (first_item (keeps k) n body)) at)
    ∙ some_or_assoc (first_item (keeps k) 0 phis) (first_item (keeps k) (length b.phis) body) (first_item (keeps k) (length b.phis + length b.body) last)
    ∙ ap (λ (o : Option ℕ). some_or (first_item (keeps k) 0 phis) (some_or (first_item (keeps k) (length b.phis) body) o)) (of_last (length b.phis + length b.body))
  where
    of_last : (i : ℕ) → first_item (keeps k) i (TheLast b.last ∷ []) ≡ last_item (keeps k i (TheLast b.last)) i
    of_last i = elim (keeps k i (TheLast b.last)) as (λ t. (if t then None else Some i) ≡ last_item t i) [ true ↦ refl | false ↦ refl ]

-- ---- from the items of a text to blocks

-- the item of a place
abbrev pub item_at : Option Place → Option ℕ
item_at None = None
item_at (Some p) = Some p.item

-- the first item of a block that does not pass
abbrev pub first_in_spots : (Spot → Bool) → ℕ → Block → Option ℕ
first_in_spots test k b = item_at (first_failing test (block_spots k b))

-- behind the items of a block stand other items
behind_block : (test : Spot → Bool) (k : ℕ) (b : Block) (i : ℕ) (front items : List Item) (ss : List Spot)
    → first_failing test (spots_behind k b i front items ++ ss) ≡ place_or k (item_at (first_failing test (spots_behind k b i front items))) (first_failing test ss)
behind_block test k b i front [] ss = refl
behind_block test k b i front (x ∷ xs) ss =
    let s : Spot = record { block = k; item = i; of = b; front = front; here = x } in
    let rest = spots_behind k b (suc i) (front ++ x ∷ []) xs in
    elim (test s) as (λ t. (if t then first_failing test (rest ++ ss) else Some (record { block = k; item = i })) ≡ place_or k (item_at (if t then first_failing test rest else Some (record { block = k; item = i }))) (first_failing test ss)) [
      | true ↦ behind_block test k b (suc i) (front ++ x ∷ []) xs ss
      | false ↦ refl
    ]

-- the first place is found block by block
pub by_blocks : (test : Spot → Bool) (k : ℕ) (blocks : List Block) → first_failing test (spots_from k blocks) ≡ first_place (first_in_spots test) k blocks
by_blocks test k [] = refl
by_blocks test k (b ∷ blocks) =
    behind_block test k b 0 [] (items_in b) (spots_from (suc k) blocks)
    ∙ ap (place_or k (first_in_spots test k b)) (by_blocks test (suc k) blocks)

-- two ways to find the first item of a block that find the same
pub first_place_same : (find other : ℕ → Block → Option ℕ) (k : ℕ) (blocks : List Block) → ((j : ℕ) (b : Block) → find j b ≡ other j b) → first_place find k blocks ≡ first_place other k blocks
first_place_same find other k [] same = refl
first_place_same find other k (b ∷ blocks) same =
    ap (λ (o : Option ℕ). place_or k o (first_place find (suc k) blocks)) (same k b)
    ∙ ap (place_or k (other k b)) (first_place_same find other (suc k) blocks same)

-- two tests that give the same
pub first_failing_same : (test other : Spot → Bool) (ss : List Spot) → ((s : Spot) → test s ≡ other s) → first_failing test ss ≡ first_failing other ss
first_failing_same test other [] same = refl
first_failing_same test other (s ∷ ss) same =
    ap (λ (t : Bool). if t then first_failing test ss else Some (record { block = s.block; item = s.item })) (same s)
    ∙ ap (λ (o : Option Place). if other s then o else Some (record { block = s.block; item = s.item })) (first_failing_same test other ss same)

-- ---- tests that go by an item and its place

item_by_item : (keeps : Test) (k : ℕ) (b : Block) (i : ℕ) (front items : List Item) → item_at (first_failing (passed_by keeps) (spots_behind k b i front items)) ≡ first_item (keeps k) i items
item_by_item keeps k b i front [] = refl
item_by_item keeps k b i front (x ∷ xs) =
    let rest = spots_behind k b (suc i) (front ++ x ∷ []) xs in
    elim (keeps k i x) as (λ t. item_at (if t then first_failing (passed_by keeps) rest else Some (record { block = k; item = i })) ≡ (if t then first_item (keeps k) (suc i) xs else Some i)) [
      | true ↦ item_by_item keeps k b (suc i) (front ++ x ∷ []) xs
      | false ↦ refl
    ]

pub by_items : (keeps : Test) (k : ℕ) (blocks : List Block) → first_failing (passed_by keeps) (spots_from k blocks) ≡ first_place (first_in keeps) k blocks
by_items keeps k blocks =
    by_blocks (passed_by keeps) k blocks
    ∙ first_place_same (first_in_spots (passed_by keeps)) (first_in keeps) k blocks (λ j b. item_by_item keeps j b 0 [] (items_in b))

-- ---- demands on the whole module, and on blocks

abbrev pub start_or : Bool → Option Place → Option Place
start_or true found = found
start_or false found = Some (record { block = 0; item = 0 })

at_first_true : (s : Spot) → at_first_item s true ≡ true
at_first_true s = elim (nat_eq s.block 0 && nat_eq s.item 0) as (λ t. (if t then true else true) ≡ true) [ true ↦ refl | false ↦ refl ]

-- a block has a first item
first_spot : (test : Spot → Bool) (b : Block) (ss : List Spot) → first_failing (λ s. at_first_item s false && test s) (block_spots 0 b ++ ss) ≡ Some (record { block = 0; item = 0 })
first_spot test b ss = elim b.phis as (λ phis. first_failing (λ s. at_first_item s false && test s) (spots_behind 0 b 0 [] (map ThePhi phis ++ map TheInstr b.body ++ TheLast b.last ∷ []) ++ ss) ≡ Some (record { block = 0; item = 0 })) [
  | [] ↦ elim b.body as (λ body. first_failing (λ s. at_first_item s false && test s) (spots_behind 0 b 0 [] ([] ++ map TheInstr body ++ TheLast b.last ∷ []) ++ ss) ≡ Some (record { block = 0; item = 0 })) [
    | [] ↦ refl
    | instr ∷ body ↦ refl
  ]
  | phi ∷ phis ↦ refl
]

-- a demand on the whole module, beside one on each item
pub whole_module : (wanted : Bool) (test : Spot → Bool) (blocks : List Block) → 0 < length blocks
    → first_failing (λ s. at_first_item s wanted && test s) (spots_from 0 blocks) ≡ start_or wanted (first_failing test (spots_from 0 blocks))
whole_module true test blocks some = first_failing_same (λ s. at_first_item s true && test s) test (spots_from 0 blocks) (λ s. ap (λ (t : Bool). t && test s) (at_first_true s))
whole_module false test [] some = absurd (omega arith)
whole_module false test (b ∷ blocks) some = first_spot test b (spots_from 1 blocks)
