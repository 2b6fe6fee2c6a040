-- Registers that are assigned again, as items are visited.
use Rattle.std.proofs.Common.{◌≡◌, ℕ, zero, suc, ◌+◌, nat_eq, Bool, true, false, not, ◌&&◌, ◌||◌, cond, if◌then◌else◌, List, [], ◌∷◌, ◌++◌, take, Option, Some, None, is_some, slice_get, refl, ap, sym, ◌∙◌, subst, arith, inl, inr, eq-eqb, append_assoc, append-nil}
use Rattle.std.proofs.lemmas.Bool.{ne_eqb}
use Rattle.std.proofs.lemmas.Bool.Decides.{eqb_tells}
use Rattle.std.specs.List.{list_all, flat_map}
use Rattle.std.specs.HashSet.{contains, Updates}
use Rattle.qir_module.specs.Numbered.{is_among}
use Rattle.qir_module.specs.declared.block.Block.{Block}
use Rattle.qir_module.specs.Module.{Module}
use Rattle.qir_module.specs.Spots.{Item, items_in, Spot, spots_behind, block_spots, spots_from}
use Rattle.qir_module.specs.Broken.{Place, first_failing, first_breach}
use Rattle.qir_module.specs.Passes.{item_registers, registers_assigned, block_assigned, assigned_once_kept, assigned_with, assigned_as, has_type, item_operands, operand_types_kept}
use Rattle.qir_module.specs.declared.instruction.Operand.{Operand}
use Rattle.qir_module.specs.declared.instruction.Operand.TheVariants.{Register, Fixed}
use Rattle.profile_check.specs.declared.place.Place.{Place as CodePlace}
use Rattle.profile_check.specs.Walk.{first_place, first_in, passed_by}
use Rattle.profile_check.specs.Visits.{Placed, placed_items, placed_in, placed_from}
use Rattle.profile_check.specs.Registers.{Numbers, HasAll, registers_in, place_in, first_again, HoldsAssigned, typed_in, operand_fits, operands_fit, in_sets}
use Rattle.profile_check.proofs.Walks.{some_or, first_failing_same, by_items}

pub registers_in-append : (ps qs : List Placed) → registers_in (ps ++ qs) ≡ registers_in ps ++ registers_in qs
registers_in-append [] qs = refl
registers_in-append (p ∷ ps) qs = ap (λ (ns : List ℕ). item_registers p.here ++ ns) (registers_in-append ps qs) ∙ sym (append_assoc (item_registers p.here) (registers_in ps) (registers_in qs))

abbrev found_unless : Bool → Placed → Option Place
found_unless t p = if t then None else Some (place_in p)

again_snoc : (before : List ℕ) (ps : List Placed) (p : Placed)
    → first_again before (ps ++ p ∷ []) ≡ some_or (first_again before ps) (found_unless (list_all (λ r. not (is_among (before ++ registers_in ps) r)) (item_registers p.here)) p)
again_snoc before [] p = ap (λ (ns : List ℕ). found_unless (list_all (λ r. not (is_among ns r)) (item_registers p.here)) p) (sym (append-nil before))
again_snoc before (q ∷ ps) p =
    let rest = λ (ns : List ℕ). found_unless (list_all (λ r. not (is_among ns r)) (item_registers p.here)) p in
    elim (list_all (λ r. not (is_among before r)) (item_registers q.here)) as (λ t. (if t then first_again (before ++ item_registers q.here) (ps ++ p ∷ []) else Some (place_in q)) ≡ some_or (if t then first_again (before ++ item_registers q.here) ps else Some (place_in q)) (rest (before ++ (item_registers q.here ++ registers_in ps)))) [
      | true ↦
          again_snoc (before ++ item_registers q.here) ps p
          ∙ ap (λ (ns : List ℕ). some_or (first_again (before ++ item_registers q.here) ps) (rest ns)) (append_assoc before (item_registers q.here) (registers_in ps))
      | false ↦ refl
    ]

-- one was found already
pub again_found : (assigned : Numbers) (q : CodePlace) (visited : List Placed) (p : Placed) → HoldsAssigned assigned (Some q) visited → HoldsAssigned assigned (Some q) (visited ++ p ∷ [])
again_found assigned q visited p holds = record {
  found = ap (λ (o : Option Place). some_or o (found_unless (list_all (λ r. not (is_among ([] ++ registers_in visited) r)) (item_registers p.here)) p)) holds.found ∙ sym (again_snoc [] visited p);
  all = λ none. absurd (cc);
}

-- the item assigns nothing
pub again_nothing : (assigned : Numbers) (visited : List Placed) (p : Placed) → item_registers p.here ≡ [] → HoldsAssigned assigned None visited → HoldsAssigned assigned None (visited ++ p ∷ [])
again_nothing assigned visited p none holds =
    let same : registers_in (visited ++ p ∷ []) ≡ registers_in visited =
    registers_in-append visited (p ∷ []) ∙ ap (λ (ns : List ℕ). registers_in visited ++ (ns ++ [])) none ∙ append-nil (registers_in visited) in
    record {
      found =
          ap (λ (o : Option Place). some_or o (found_unless (list_all (λ r. not (is_among ([] ++ registers_in visited) r)) []) p)) holds.found
          ∙ ap (λ (ns : List ℕ). some_or (first_again [] visited) (found_unless (list_all (λ r. not (is_among ([] ++ registers_in visited) r)) ns) p)) (sym none)
          ∙ sym (again_snoc [] visited p);
      all = λ e. λ n. holds.all refl n ∙ ap (λ (ns : List ℕ). is_among ns n) (sym same);
    }

among_snoc : (ns : List ℕ) (r n : ℕ) → is_among (ns ++ r ∷ []) n ≡ cond (nat_eq r n) true (is_among ns n)
among_snoc [] r n = elim (eqb_tells r n) [
  | inl same ↦ ap (λ (t : Bool). t || false) (eq-eqb n r (sym same.1)) ∙ ap (λ (t : Bool). cond t true false) (sym same.0)
  | inr other ↦ ap (λ (t : Bool). t || false) (ne_eqb n r (λ e. other.1 (sym e))) ∙ ap (λ (t : Bool). cond t true false) (sym other.0)
]
among_snoc (m ∷ ns) r n =
    ap (λ (t : Bool). nat_eq n m || t) (among_snoc ns r n)
    ∙ elim (nat_eq r n) as (λ t. (nat_eq n m || cond t true (is_among ns n)) ≡ cond t true (nat_eq n m || is_among ns n)) [
      | true ↦ elim (nat_eq n m) as (λ t. (t || true) ≡ true) [ true ↦ refl | false ↦ refl ]
      | false ↦ refl
    ]

-- one more number in a set
pub has_more : (old new : Numbers) (ns : List ℕ) (r : ℕ) → HasAll old ns → ((n : ℕ) → contains nat_eq new n ≡ cond (nat_eq r n) true (contains nat_eq old n)) → HasAll new (ns ++ r ∷ [])
has_more old new ns r has updates n = updates n ∙ ap (cond (nat_eq r n) true) (has n) ∙ sym (among_snoc ns r n)

-- the item assigns a new register
pub again_new : (old new : Numbers) (visited : List Placed) (p : Placed) (r : ℕ) → item_registers p.here ≡ r ∷ [] → HoldsAssigned old None visited → contains nat_eq old r ≡ false
    → ((n : ℕ) → contains nat_eq new n ≡ cond (nat_eq r n) true (contains nat_eq old n)) → HoldsAssigned new None (visited ++ p ∷ [])
again_new old new visited p r is holds fresh updates =
    let same : registers_in (visited ++ p ∷ []) ≡ registers_in visited ++ r ∷ [] = registers_in-append visited (p ∷ []) ∙ ap (λ (ns : List ℕ). registers_in visited ++ (ns ++ [])) is in
    record {
      found =
          ap (λ (o : Option Place). some_or o (found_unless (not false && true) p)) holds.found
          ∙ ap (λ (t : Bool). some_or (first_again [] visited) (found_unless (not t && true) p)) (sym fresh ∙ holds.all refl r)
          ∙ ap (λ (ns : List ℕ). some_or (first_again [] visited) (found_unless (list_all (λ q. not (is_among (registers_in visited) q)) ns) p)) (sym is)
          ∙ sym (again_snoc [] visited p);
      all = λ e. subst (HasAll new) (sym same) (has_more old new (registers_in visited) r (holds.all refl) updates);
    }

-- the item assigns a register again
pub again_old : (old new : Numbers) (visited : List Placed) (p : Placed) (q : CodePlace) (r : ℕ) → item_registers p.here ≡ r ∷ [] → HoldsAssigned old None visited → contains nat_eq old r ≡ true
    → q.block ≡ p.block → q.item ≡ p.item → HoldsAssigned new (Some q) (visited ++ p ∷ [])
again_old old new visited p q r is holds known block item = record {
  found =
      ap (λ (b : ℕ). Some (record { block = b; item = q.item })) block
      ∙ ap (λ (i : ℕ). Some (record { block = p.block; item = i })) item
      ∙ ap (λ (o : Option Place). some_or o (found_unless (not true && true) p)) holds.found
      ∙ ap (λ (t : Bool). some_or (first_again [] visited) (found_unless (not t && true) p)) (sym known ∙ holds.all refl r)
      ∙ ap (λ (ns : List ℕ). some_or (first_again [] visited) (found_unless (list_all (λ m. not (is_among (registers_in visited) m)) ns) p)) (sym is)
      ∙ sym (again_snoc [] visited p);
  all = λ none. absurd (cc);
}

-- ---- the same as the code's tests say it

pub visit_found : (assigned : Numbers) (again : Option CodePlace) (visited : List Placed) (p : Placed) → is_some again ≡ true → HoldsAssigned assigned again visited → HoldsAssigned assigned again (visited ++ p ∷ [])
visit_found assigned (Some q) visited p some holds = again_found assigned q visited p holds
visit_found assigned None visited p some holds = absurd (cc)

pub visit_nothing : (assigned : Numbers) (again : Option CodePlace) (visited : List Placed) (p : Placed) → is_some again ≡ false → item_registers p.here ≡ [] → HoldsAssigned assigned again visited → HoldsAssigned assigned again (visited ++ p ∷ [])
visit_nothing assigned None visited p none nothing holds = again_nothing assigned visited p nothing holds
visit_nothing assigned (Some q) visited p none nothing holds = absurd (cc)

was_absent : (t : Bool) → true ≡ not t → t ≡ false
was_absent true e = absurd (cc)
was_absent false e = refl

was_there : (t : Bool) → false ≡ not t → t ≡ true
was_there true e = refl
was_there false e = absurd (cc)

pub visit_new : (old new : Numbers) (again : Option CodePlace) (visited : List Placed) (p : Placed) (r : ℕ) → is_some again ≡ false → item_registers p.here ≡ r ∷ [] → true ≡ not (contains nat_eq old r) → Updates nat_eq old new r true
    → HoldsAssigned old again visited → HoldsAssigned new again (visited ++ p ∷ [])
visit_new old new None visited p r none is added updates holds = again_new old new visited p r is holds (was_absent (contains nat_eq old r) added) updates.0
visit_new old new (Some q) visited p r none is added updates holds = absurd (cc)

pub visit_old : (old new : Numbers) (again : Option CodePlace) (visited : List Placed) (p : Placed) (r : ℕ) → is_some again ≡ false → item_registers p.here ≡ r ∷ [] → false ≡ not (contains nat_eq old r)
    → HoldsAssigned old again visited → HoldsAssigned new (Some (record { block = p.block; item = p.item })) (visited ++ p ∷ [])
visit_old old new None visited p r none is added holds = again_old old new visited p (record { block = p.block; item = p.item }) r is holds (was_there (contains nat_eq old r) added) refl refl
visit_old old new (Some q) visited p r none is added holds = absurd (cc)

-- ---- as the demand says it

again_by_items : (m : Module) (k : ℕ) (b : Block) (i : ℕ) (front items : List Item)
    → first_failing (assigned_once_kept m) (spots_behind k b i front items) ≡ first_again (flat_map block_assigned (take k m.blocks) ++ registers_assigned front) (placed_items k i items)
again_by_items m k b i front [] = refl
again_by_items m k b i front (x ∷ xs) =
    let earlier = flat_map block_assigned (take k m.blocks) in
    let more : earlier ++ registers_assigned (front ++ x ∷ []) ≡ (earlier ++ registers_assigned front) ++ item_registers x =
    ap (λ (ns : List ℕ). earlier ++ ns) (assigned_more front x) ∙ sym (append_assoc earlier (registers_assigned front) (item_registers x)) in
    ap (λ (o : Option Place). if list_all (λ r. not (is_among (earlier ++ registers_assigned front) r)) (item_registers x) then o else Some (record { block = k; item = i })) (
    again_by_items m k b (suc i) (front ++ x ∷ []) xs ∙ ap (λ (ns : List ℕ). first_again ns (placed_items k (suc i) xs)) more)
  where
    assigned_more : (front : List Item) (x : Item) → registers_assigned (front ++ x ∷ []) ≡ registers_assigned front ++ item_registers x
    assigned_more [] x = append-nil (item_registers x)
    assigned_more (y ∷ front) x = ap (λ (ns : List ℕ). item_registers y ++ ns) (assigned_more front x) ∙ sym (append_assoc (item_registers y) (registers_assigned front) (item_registers x))

again-append : (before : List ℕ) (ps qs : List Placed) → first_again before (ps ++ qs) ≡ some_or (first_again before ps) (first_again (before ++ registers_in ps) qs)
again-append before [] qs = ap (λ (ns : List ℕ). first_again ns qs) (sym (append-nil before))
again-append before (p ∷ ps) qs = elim (list_all (λ r. not (is_among before r)) (item_registers p.here)) as (λ t. (if t then first_again (before ++ item_registers p.here) (ps ++ qs) else Some (place_in p)) ≡ some_or (if t then first_again (before ++ item_registers p.here) ps else Some (place_in p)) (first_again (before ++ (item_registers p.here ++ registers_in ps)) qs)) [
  | true ↦
      again-append (before ++ item_registers p.here) ps qs
      ∙ ap (λ (ns : List ℕ). some_or (first_again (before ++ item_registers p.here) ps) (first_again ns qs)) (append_assoc before (item_registers p.here) (registers_in ps))
  | false ↦ refl
]

-- the registers of a block's items are those that it assigns
placed_registers : (k i : ℕ) (items : List Item) → registers_in (placed_items k i items) ≡ registers_assigned items
placed_registers k i [] = refl
placed_registers k i (x ∷ xs) = ap (λ (ns : List ℕ). item_registers x ++ ns) (placed_registers k (suc i) xs)

first_failing-append : (test : Spot → Bool) (ss ts : List Spot) → first_failing test (ss ++ ts) ≡ some_or (first_failing test ss) (first_failing test ts)
first_failing-append test [] ts = refl
first_failing-append test (s ∷ ss) ts = elim (test s) as (λ t. (if t then first_failing test (ss ++ ts) else Some (record { block = s.block; item = s.item })) ≡ some_or (if t then first_failing test ss else Some (record { block = s.block; item = s.item })) (first_failing test ts)) [ true ↦ first_failing-append test ss ts | false ↦ refl ]

again_by_blocks : (m : Module) (k : ℕ) (blocks : List Block) → ((j : ℕ) → slice_get m.blocks (k + j) ≡ slice_get blocks j)
    → first_failing (assigned_once_kept m) (spots_from k blocks) ≡ first_again (flat_map block_assigned (take k m.blocks)) (placed_from k blocks)
again_by_blocks m k [] stands = refl
again_by_blocks m k (b ∷ blocks) stands =
    let earlier = flat_map block_assigned (take k m.blocks) in
    let here : k ≡ k + 0 = omega arith in
    let more : flat_map block_assigned (take (suc k) m.blocks) ≡ earlier ++ block_assigned b = taken k m.blocks b (ap (slice_get m.blocks) here ∙ stands 0) in
    first_failing-append (assigned_once_kept m) (block_spots k b) (spots_from (suc k) blocks)
    ∙ ap (λ (o : Option Place). some_or o (first_failing (assigned_once_kept m) (spots_from (suc k) blocks))) (again_by_items m k b 0 [] (items_in b) ∙ ap (λ (ns : List ℕ). first_again ns (placed_in k b)) (append-nil earlier))
    ∙ ap (some_or (first_again earlier (placed_in k b))) (
    again_by_blocks m (suc k) blocks (λ j. let e : suc k + j ≡ k + suc j = omega arith in ap (slice_get m.blocks) e ∙ stands (suc j))
    ∙ ap (λ (ns : List ℕ). first_again ns (placed_from (suc k) blocks)) (more ∙ ap (λ (ns : List ℕ). earlier ++ ns) (sym (placed_registers k 0 (items_in b)))))
    ∙ sym (again-append earlier (placed_in k b) (placed_from (suc k) blocks))
  where
    taken : (n : ℕ) (bs : List Block) (x : Block) → slice_get bs n ≡ Some x → flat_map block_assigned (take (suc n) bs) ≡ flat_map block_assigned (take n bs) ++ block_assigned x
    taken n [] x at = absurd (cc)
    taken zero (y ∷ ys) x at = let one : y ≡ x = cc in append-nil (block_assigned y) ∙ ap block_assigned one
    taken (suc n) (y ∷ ys) x at = ap (λ (ns : List ℕ). block_assigned y ++ ns) (taken n ys x at) ∙ sym (append_assoc (block_assigned y) (flat_map block_assigned (take n ys)) (block_assigned x))

pub assigned_once_at : (m : Module) → first_breach m assigned_once_kept ≡ first_again [] (placed_from 0 m.blocks)
assigned_once_at m = again_by_blocks m 0 m.blocks (λ j. let e : 0 + j ≡ j = omega arith in ap (slice_get m.blocks) e)

-- ---- types

placed_typed : (truth : Bool) (k i : ℕ) (items : List Item) → typed_in truth (placed_items k i items) ≡ flat_map (assigned_with truth) items
placed_typed truth k i [] = refl
placed_typed truth k i (x ∷ xs) = ap (λ (ns : List ℕ). assigned_with truth x ++ ns) (placed_typed truth k (suc i) xs)

typed_in-append : (truth : Bool) (ps qs : List Placed) → typed_in truth (ps ++ qs) ≡ typed_in truth ps ++ typed_in truth qs
typed_in-append truth [] qs = refl
typed_in-append truth (p ∷ ps) qs = ap (λ (ns : List ℕ). assigned_with truth p.here ++ ns) (typed_in-append truth ps qs) ∙ sym (append_assoc (assigned_with truth p.here) (typed_in truth ps) (typed_in truth qs))

typed_blocks : (truth : Bool) (k : ℕ) (blocks : List Block) → typed_in truth (placed_from k blocks) ≡ flat_map (λ (b : Block). flat_map (assigned_with truth) (items_in b)) blocks
typed_blocks truth k [] = refl
typed_blocks truth k (b ∷ blocks) =
    typed_in-append truth (placed_in k b) (placed_from (suc k) blocks)
    ∙ ap (λ (ns : List ℕ). ns ++ typed_in truth (placed_from (suc k) blocks)) (placed_typed truth k 0 (items_in b))
    ∙ ap (λ (ns : List ℕ). flat_map (assigned_with truth) (items_in b) ++ ns) (typed_blocks truth (suc k) blocks)

all_fit : (m : Module) (has : Bool → ℕ → Bool) (os : List (Operand × Bool)) → ((truth : Bool) (r : ℕ) → assigned_as m truth r ≡ has truth r) → list_all (λ (o : Operand × Bool). has_type m o.0 o.1) os ≡ list_all (λ (o : Operand × Bool). operand_fits has o.0 o.1) os
all_fit m has [] same = refl
all_fit m has (o ∷ os) same =
    ap (λ (t : Bool). t && list_all (λ (p : Operand × Bool). has_type m p.0 p.1) os) (one o.0 o.1)
    ∙ ap (λ (t : Bool). operand_fits has o.0 o.1 && t) (all_fit m has os same)
  where
    one : (x : Operand) (truth : Bool) → has_type m x truth ≡ operand_fits has x truth
    one (Register r) truth = same truth r
    one (Fixed z) truth = refl

pub operand_types_at : (m : Module) (words truths : Numbers) → HasAll words (typed_in false (placed_from 0 m.blocks)) → HasAll truths (typed_in true (placed_from 0 m.blocks))
    → first_breach m operand_types_kept ≡ first_place (first_in (operands_fit (in_sets words truths))) 0 m.blocks
unfolding operands_fit
operand_types_at m words truths in_words in_truths =
    first_failing_same (operand_types_kept m) (passed_by (operands_fit (in_sets words truths))) (spots_from 0 m.blocks) (λ s. all_fit m (in_sets words truths) (item_operands s.here) typed)
    ∙ by_items (operands_fit (in_sets words truths)) 0 m.blocks
  where
    typed : (truth : Bool) (r : ℕ) → assigned_as m truth r ≡ in_sets words truths truth r
    typed true r = ap (λ (ns : List ℕ). is_among ns r) (sym (typed_blocks true 0 m.blocks)) ∙ sym (in_truths r)
    typed false r = ap (λ (ns : List ℕ). is_among ns r) (sym (typed_blocks false 0 m.blocks)) ∙ sym (in_words r)

-- a register of a type is in its set, and nothing comes to the other
pub typed_more : (old new : Numbers) (truth : Bool) (visited : List Placed) (p : Placed) (r : ℕ) → HasAll old (typed_in truth visited) → r ∷ [] ≡ assigned_with truth p.here → Updates nat_eq old new r true → HasAll new (typed_in truth (visited ++ p ∷ []))
typed_more old new truth visited p r has is updates =
    subst (HasAll new) (ap (λ (ns : List ℕ). typed_in truth visited ++ ns) (ap (λ (ns : List ℕ). ns ++ []) is) ∙ sym (typed_in-append truth visited (p ∷ []))) (has_more old new (typed_in truth visited) r has updates.0)

pub typed_same : (set : Numbers) (truth : Bool) (visited : List Placed) (p : Placed) → HasAll set (typed_in truth visited) → [] ≡ assigned_with truth p.here → HasAll set (typed_in truth (visited ++ p ∷ []))
typed_same set truth visited p has is =
    subst (HasAll set) (sym (append-nil (typed_in truth visited)) ∙ ap (λ (ns : List ℕ). typed_in truth visited ++ ns) (ap (λ (ns : List ℕ). ns ++ []) is) ∙ sym (typed_in-append truth visited (p ∷ []))) has
