-- The table of ways, as it grows, and what it says of predecessors.
use Rattle.std.proofs.Common.{◌≡◌, ◌≢◌, ℕ, zero, suc, ◌+◌, ◌<◌, nat_eq, Bool, true, false, ◌||◌, cond, if◌then◌else◌, List, [], ◌∷◌, ◌++◌, length, filter, Option, Some, None, slice_get, refl, ap, sym, ◌∙◌, subst, arith, inl, inr, eq-eqb, get_or, append-nil}
use Rattle.std.proofs.lemmas.Bool.{ne_eqb}
use Rattle.std.proofs.lemmas.Bool.Decides.{eqb_tells}
use Rattle.std.proofs.lemmas.List.Elements.{filter-append}
use Rattle.std.proofs.lemmas.Option.{slice_get_read, slice_get-get_or}
use Rattle.std.proofs.lemmas.List.{get_or-set_same, get_or-set_other}
use Rattle.std.proofs.Math.ListN.{set, length-set}
use Rattle.std.specs.List.{list_any}
use Rattle.std.specs.HashMap.{get}
use Rattle.std.specs.declared.vec.Vec.{Vec}
use Rattle.std.specs.declared.alloc.Global.{Global}
use Rattle.qir_module.specs.declared.block.Block.{Block}
use Rattle.qir_module.specs.Machine.{place_from, place_of}
use Rattle.qir_module.specs.Numbered.{counted}
use Rattle.qir_module.specs.Carried.{targets_of, jumps_to, is_way}
use Rattle.profile_check.specs.Names.{Table, HasPlaces, AreApart, is_at}
use Rattle.profile_check.specs.Ways.{Rows, items_of, row, ways_among, AreWaysAmong, leads, one_if, Adds}

-- one more row with nothing in it
pub row_pushed : {T : Type 0} (rows : List (Vec T Global)) (v : Vec T Global) → ((b : ℕ) → row rows b ≡ []) → v.items ≡ [] → (b : ℕ) → row (rows ++ v ∷ []) b ≡ []
row_pushed [] v empty none zero = none
row_pushed [] v empty none (suc b) = refl
row_pushed (x ∷ xs) v empty none zero = empty 0
row_pushed (x ∷ xs) v empty none (suc b) = row_pushed xs v (λ c. empty (suc c)) none b

-- ---- names and places

-- where a name is found stands a block of the name
pub found_at : (k : ℕ) (blocks : List Block) (name q : ℕ) → place_from k blocks name ≡ Some q → (j : ℕ) × (b : Block) × (q ≡ k + j) × (slice_get blocks j ≡ Some b) × (b.name ≡ name)
found_at k [] name q found = absurd (cc)
found_at k (x ∷ xs) name q found =
    elim (eqb_tells x.name name) [
      | inl here ↦
          let at : k ≡ q = some_same (sym (ap (λ (t : Bool). if t then Some k else place_from (suc k) xs name) here.0) ∙ found) in
          (0, x, omega (arith, at), refl, here.1)
      | inr other ↦
          let rest : place_from (suc k) xs name ≡ Some q = sym (ap (λ (t : Bool). if t then Some k else place_from (suc k) xs name) other.0) ∙ found in
          let behind = found_at (suc k) xs name q rest in
          (suc behind.0, behind.1, omega (arith, behind.2), behind.3, behind.4)
    ]
  where
    some_same : {a b : ℕ} → Some a ≡ Some b → a ≡ b
    some_same e = cc

-- a target's name is that of a block exactly where the target's place is the block's
name_is_place : (blocks : List Block) (b : ℕ) (of : Block) (name : ℕ) → AreApart blocks → slice_get blocks b ≡ Some of → nat_eq of.name name ≡ is_at b (place_of blocks name)
name_is_place blocks b of name apart at =
    elim (eqb_tells of.name name) [
      | inl same ↦ same.0 ∙ sym (ap (is_at b) (ap (place_of blocks) (sym same.1) ∙ apart b of at) ∙ eq-eqb b b refl)
      | inr other ↦ other.0 ∙ sym (elsewhere (place_of blocks name) refl other.1)
    ]
  where
    elsewhere : (o : Option ℕ) → place_of blocks name ≡ o → of.name ≢ name → is_at b o ≡ false
    elsewhere None is differs = refl
    elsewhere (Some q) is differs = ne_eqb q b (λ same.
        let found = found_at 0 blocks name q is in
        let place : found.0 ≡ b = omega (arith, found.2, same) in
        let one : Some found.1 ≡ Some of = sym found.3 ∙ ap (slice_get blocks) place ∙ at in
        let block : found.1 ≡ of = cc in
        differs (ap (λ (x : Block). x.name) (sym block) ∙ found.4))

-- ---- the table, as it grows

counted_more : (k n : ℕ) → counted k (suc n) ≡ counted k n ++ (k + n) ∷ []
counted_more k zero = let e : k ≡ k + 0 = omega arith in ap (λ (m : ℕ). m ∷ []) e
counted_more k (suc n) = let e : suc k + n ≡ k + suc n = omega arith in ap (λ (ns : List ℕ). k ∷ ns) (counted_more (suc k) n ∙ ap (λ (m : ℕ). counted (suc k) n ++ m ∷ []) e)

filter_one : (p : ℕ → Bool) (n : ℕ) → filter p (n ∷ []) ≡ one_if (p n) n
filter_one p n = elim (p n) as (λ t. cond t (n ∷ []) [] ≡ (if t then n ∷ [] else [])) [ true ↦ refl | false ↦ refl ]

-- the ways from one block more
ways_more : (blocks : List Block) (n b : ℕ) → ways_among blocks (n + 1) b ≡ ways_among blocks n b ++ one_if (is_way blocks n b) n
ways_more blocks n b =
    let one : n + 1 ≡ suc n = omega arith in
    let same : 0 + n ≡ n = omega arith in
    let p = λ (q : ℕ). is_way blocks q b in
    ap (λ (m : ℕ). filter p (counted 0 m)) one
    ∙ ap (filter p) (counted_more 0 n)
    ∙ filter-append p (counted 0 n) ((0 + n) ∷ [])
    ∙ ap (λ (m : ℕ). filter p (counted 0 n) ++ filter p (m ∷ [])) same
    ∙ ap (λ (ns : List ℕ). filter p (counted 0 n) ++ ns) (filter_one p n)

-- what a last instruction names is where it leads
any_name : (blocks : List Block) (b : ℕ) (of : Block) (names : List ℕ) → AreApart blocks → slice_get blocks b ≡ Some of → list_any (nat_eq of.name) names ≡ list_any (λ name. is_at b (place_of blocks name)) names
any_name blocks b of [] apart at = refl
any_name blocks b of (n ∷ ns) apart at =
    ap (λ (t : Bool). t || list_any (nat_eq of.name) ns) (name_is_place blocks b of n apart at)
    ∙ ap (λ (t : Bool). is_at b (place_of blocks n) || t) (any_name blocks b of ns apart at)

any_place : (place other : ℕ → Option ℕ) (b : ℕ) (names : List ℕ) → ((n : ℕ) → place n ≡ other n) → list_any (λ name. is_at b (place name)) names ≡ list_any (λ name. is_at b (other name)) names
any_place place other b [] same = refl
any_place place other b (n ∷ ns) same =
    ap (λ (o : Option ℕ). is_at b o || list_any (λ name. is_at b (place name)) ns) (same n)
    ∙ ap (λ (t : Bool). is_at b (other n) || t) (any_place place other b ns same)

pub way_leads : (blocks : List Block) (places : Table) (p b : ℕ) (from of : Block) → HasPlaces places blocks → AreApart blocks → slice_get blocks p ≡ Some from → slice_get blocks b ≡ Some of
    → is_way blocks p b ≡ leads (get nat_eq places) from.last b
way_leads blocks places p b from of has apart at_p at_b =
    ap (λ (o : Option Block). jumps_to o (slice_get blocks b)) at_p
    ∙ ap (jumps_to (Some from)) at_b
    ∙ any_name blocks b of (targets_of from.last) apart at_b
    ∙ any_place (place_of blocks) (get nat_eq places) b (targets_of from.last) (λ n. sym (has n))

-- the rows have the ways from one block more
pub ways_grown : (old new : Rows) (blocks : List Block) (places : Table) (n : ℕ) (from : Block) → HasPlaces places blocks → AreApart blocks → n < length blocks → from ≡ get_or blocks n from
    → AreWaysAmong old blocks n → Adds old new (leads (get nat_eq places) from.last) n → AreWaysAmong new blocks (n + 1)
ways_grown old new blocks places n from has apart within is ways adds = record {
  long = adds.long ∙ ways.long;
  each = λ b below.
      let at : slice_get blocks n ≡ Some from = slice_get_read blocks (length blocks) n from refl within is in
      let of : Block = get_or blocks b from in
      let row_within : b < length old = subst (λ (m : ℕ). b < m) (sym ways.long) below in
      adds.each b row_within
      ∙ ap (λ (ns : List ℕ). ns ++ one_if (leads (get nat_eq places) from.last b) n) (ways.each b below)
      ∙ ap (λ (t : Bool). ways_among blocks n b ++ one_if t n) (sym (way_leads blocks places n b from of has apart at (slice_get-get_or blocks b from below)))
      ∙ sym (ways_more blocks n b);
}

-- ---- one row, as it grows

row_read : {T : Type 0} (rows : List (Vec T Global)) (b : ℕ) (d : Vec T Global) → b < length rows → row rows b ≡ (get_or rows b d).items
row_read rows b d within = ap items_of (slice_get-get_or rows b d within)

pub row_set : {T : Type 0} (rows : List (Vec T Global)) (to : ℕ) (old new : Vec T Global) (x : T) → to < length rows → old ≡ get_or rows to old → new.items ≡ old.items ++ x ∷ [] → Adds rows (set rows to new) (λ b. is_at b (Some to)) x
row_set rows to old new x within is grown = record {
  long = length-set rows to new;
  each = λ b below.
      let inside : b < length (set rows to new) = simp length-set below in
      row_read (set rows to new) b new inside
      ∙ elim (eqb_tells to b) [
        | inl same ↦
            ap (λ (v : Vec _ Global). v.items) (ap (λ (n : ℕ). get_or (set rows to new) n new) (sym same.1) ∙ get_or-set_same rows to new new within)
            ∙ grown
            ∙ ap (λ (v : Vec _ Global). v.items ++ x ∷ []) (is ∙ ap (λ (n : ℕ). get_or rows n old) same.1)
            ∙ ap (λ (xs : List _). xs ++ x ∷ []) (sym (row_read rows b old below))
            ∙ ap (λ (t : Bool). row rows b ++ one_if t x) (sym same.0)
        | inr other ↦
            ap (λ (v : Vec _ Global). v.items) (get_or-set_other rows to b new new (λ e. other.1 (sym e)))
            ∙ sym (row_read rows b new below)
            ∙ sym (append-nil (row rows b))
            ∙ ap (λ (t : Bool). row rows b ++ one_if t x) (sym other.0)
      ];
}
