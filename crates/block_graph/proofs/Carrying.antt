-- What is carried into the target of a jump back is left where the jump is; and a result is read only behind its measurement.
use Rattle.std.proofs.Common.{◌≡◌, ℕ, zero, suc, ◌+◌, ◌<◌, ◌≤◌, ◌⊎◌, inl, inr, ⊎_elim, nat_eq, nat_lt, Bool, true, false, not, ◌&&◌, ◌||◌, List, [], ◌∷◌, ◌++◌, map, length, get_or, Option, Some, None, refl, sym, ap, ◌∙◌, subst, arith, append_assoc, append-nil, lt-ltb, eq-eqb, eqb-true, ne_eqb}
use Rattle.std.specs.Prelude.{slice_get, filter, if◌then◌else◌}
use Rattle.std.specs.List.{flat_map, list_all, list_any, AllByRecursion}
use Rattle.std.proofs.lemmas.Bool.{cases_lt}
use Rattle.std.proofs.lemmas.Option.{slice_get_within}
use Rattle.qir_module.specs.declared.instruction.Arg.{Arg}
use Rattle.qir_module.specs.declared.instruction.Arg.TheVariants.{Number, Truth, Id, Text}
use Rattle.qir_module.specs.declared.instruction.Instr.{Instr}
use Rattle.qir_module.specs.declared.instruction.Instr.TheVariants.{Op, Zext, Trunc, Select, Call}
use Rattle.qir_module.specs.declared.instruction.Last.{Last}
use Rattle.qir_module.specs.declared.instruction.Last.TheVariants.{Jump, Branch, Return}
use Rattle.qir_module.specs.declared.block.Phi.{Phi}
use Rattle.qir_module.specs.declared.block.Block.{Block as ModuleBlock}
use Rattle.qir_module.specs.Module.{Module}
use Rattle.qir_module.specs.Machine.{place_of}
use Rattle.qir_module.specs.Functions.{Task, Initialize, ReadResult, ArrayRecord, BoolRecord, IntRecord, ResetQubit, MeasureQubit, ApplyGate, row_of}
use Rattle.qir_module.specs.Numbered.{task_of, read_by, read_in, measured_in, registers_of, IsReadOf, ReadsFollow, EachReadsFollow, is_among, counted}
use Rattle.qir_module.specs.Spots.{Item, ThePhi, TheInstr, TheLast, items_in, Spot}
use Rattle.qir_module.specs.Carried.{Thing, TheRegister, TheResult, same_thing, targets_of, is_way, jumps_to, earlier, assigned_by, are_assigning, assigns, is_empty, carried_within, is_carried, is_left}
use Rattle.qir_module.specs.Passes.{IsKept, results_read, results_named, reads_carried, leaves_carried, jumps_carry, carried_results_kept}
use Rattle.core_ir.specs.Core.{Core}
use Rattle.phi_place.specs.Phis.{WaysCarry, SameWhereNotDiffer}
use Rattle.block_graph.specs.Laws.{IsLowerable}
use Rattle.block_graph.specs.Work.{Draft, Work}
use Rattle.block_graph.specs.Lowering.{Coder, whole_work, settled, settled_last, lowered}
use Rattle.block_graph.proofs.Coding.{both, flat_append}
use Rattle.block_graph.proofs.Flow.{or_left, or_right, or_cases}
use Rattle.block_graph.proofs.Running.{block_place}
use Rattle.block_graph.proofs.Spotting.{spot_at, each_spot, all_middle, all_items, all_true}
use Rattle.block_graph.proofs.Looping.{some_block}
use Rattle.block_graph.proofs.Jumps.{named, jumps_in}
use Rattle.block_graph.proofs.Targets.{labels_settled, settled_long}
use Rattle.block_graph.proofs.Whole.{settled_get, settled_names}
use Rattle.block_graph.proofs.Ordering.{is_in_order}
use Rattle.block_graph.proofs.Preceding.{earlier_fine}
use Rattle.block_graph.proofs.Backing.{IsBack, whole_backs}
use Rattle.block_graph.proofs.Walking.{late_phis}

-- ---- the recursion of what is carried

all_same : (f g : ℕ → Bool) (P : ℕ → Type 0) (xs : List ℕ) → ((x : ℕ) → P x → f x ≡ g x) → AllByRecursion P xs → list_all f xs ≡ list_all g xs
all_same f g P [] h all = refl
all_same f g P (x ∷ xs) h all = ap (λ (b : Bool). b && list_all f xs) (h x all.0) ∙ ap (λ (b : Bool). g x && b) (all_same f g P xs h all.1)

all_hold : (f : ℕ → Bool) (P : ℕ → Type 0) (xs : List ℕ) → ((x : ℕ) → P x → f x ≡ true) → AllByRecursion P xs → list_all f xs ≡ true
all_hold f P [] h all = refl
all_hold f P (x ∷ xs) h all = both (f x) (list_all f xs) (h x all.0) (all_hold f P xs h all.1)

module _ (before : ℕ → List ℕ) (assigned : ℕ → Bool) (less : (b : ℕ) → AllByRecursion (λ (p : ℕ). p < b) (before b)) where
  pub same_depth : (n m b : ℕ) → b < n → b < m → carried_within before assigned n b ≡ carried_within before assigned m b
  same_depth zero m b ln lm = absurd (omega (arith, ln))
  same_depth (suc n) zero b ln lm = absurd (omega (arith, lm))
  same_depth (suc n) (suc m) b ln lm =
      ap (λ (x : Bool). if is_empty (before b) then false else x)
      (all_same (λ p. carried_within before assigned n p || assigned p) (λ p. carried_within before assigned m p || assigned p) (λ (p : ℕ). p < b) (before b) (λ p lt. ap (λ (x : Bool). x || assigned p) (same_depth n m p (omega (arith, lt, ln)) (omega (arith, lt, lm)))) (less b))

  abbrev carried : ℕ → Bool
  carried b = carried_within before assigned (suc b) b

  -- what each earlier predecessor leaves is carried in
  carries_in : (b : ℕ) (P : ℕ → Type 0) → is_empty (before b) ≡ false → AllByRecursion (λ (p : ℕ). (p < b) × P p) (before b) → ((p : ℕ) → p < b → P p → (carried p || assigned p) ≡ true) → carried b ≡ true
  carries_in b P some all h =
      ap (λ (x : Bool). if x then false else list_all (λ p. carried_within before assigned b p || assigned p) (before b)) some
      ∙ all_hold (λ p. carried_within before assigned b p || assigned p) (λ (p : ℕ). (p < b) × P p) (before b) (λ p q. ap (λ (x : Bool). x || assigned p) (same_depth b (suc p) p q.0 (omega arith)) ∙ h p q.0 q.1) all

  -- a stretch of blocks that is entered at its front alone
  through : (h b : ℕ) → ((x : ℕ) → h < x → x ≤ b → (is_empty (before x) ≡ false) × AllByRecursion (λ (p : ℕ). (p < x) × (h ≤ p)) (before x)) → carried h ≡ true → (n x : ℕ) → x < n → h ≤ x → x ≤ b → carried x ≡ true
  through h b inside c zero x lt le lb = absurd (omega (arith, lt))
  through h b inside c (suc n) x lt le lb = at (cases_lt h x) (λ p pn hp. through h b inside c n p pn hp)
    where
      at : (h < x) ⊎ (x ≤ h) → ((p : ℕ) → p < n → h ≤ p → p ≤ b → carried p ≡ true) → carried x ≡ true
      at (inl above) rest = let i = inside x above lb in carries_in x (λ (p : ℕ). h ≤ p) i.0 i.1 (λ p px hp. or_left (carried p) (assigned p) (rest p (omega (arith, px, lt)) hp (omega (arith, px, lb))))
      at (inr same) rest = let e : h ≡ x = omega (arith, same, le) in subst (λ (k : ℕ). carried k ≡ true) e c

-- ---- the earlier predecessors

counted_with : (q : ℕ → Bool) (k n : ℕ) → AllByRecursion (λ (x : ℕ). (x < k + n) × (q x ≡ true)) (filter q (counted k n))
counted_with q k zero = tt
counted_with q k (suc n) = two (q k) refl (weaker (filter q (counted (suc k) n)) (counted_with q (suc k) n))
  where
    weaker : (xs : List ℕ) → AllByRecursion (λ (x : ℕ). (x < suc k + n) × (q x ≡ true)) xs → AllByRecursion (λ (x : ℕ). (x < k + suc n) × (q x ≡ true)) xs
    weaker [] all = tt
    weaker (x ∷ xs) all = ((omega (arith, all.0.0), all.0.1), weaker xs all.1)

    two : (b : Bool) → q k ≡ b → AllByRecursion (λ (x : ℕ). (x < k + suc n) × (q x ≡ true)) (filter q (counted (suc k) n)) → AllByRecursion (λ (x : ℕ). (x < k + suc n) × (q x ≡ true)) (if b then k ∷ filter q (counted (suc k) n) else filter q (counted (suc k) n))
    two true e all = ((omega arith, e), all)
    two false e all = all

all_turn : (P Q : ℕ → Type 0) (xs : List ℕ) → ((x : ℕ) → P x → Q x) → AllByRecursion P xs → AllByRecursion Q xs
all_turn P Q [] f all = tt
all_turn P Q (x ∷ xs) f all = (f x all.0, all_turn P Q xs f all.1)

pub earlier_ways : (blocks : List ModuleBlock) (b : ℕ) → AllByRecursion (λ (p : ℕ). (p < b) × (is_way blocks p b ≡ true)) (earlier blocks b)
earlier_ways blocks b = all_turn (λ (x : ℕ). (x < 0 + b) × (is_way blocks x b ≡ true)) (λ (p : ℕ). (p < b) × (is_way blocks p b ≡ true)) (earlier blocks b) (λ x h. (omega (arith, h.0), h.1)) (counted_with (λ p. is_way blocks p b) 0 b)

pub earlier_less : (blocks : List ModuleBlock) (b : ℕ) → AllByRecursion (λ (p : ℕ). p < b) (earlier blocks b)
earlier_less blocks b = all_turn (λ (p : ℕ). (p < b) × (is_way blocks p b ≡ true)) (λ (p : ℕ). p < b) (earlier blocks b) (λ x h. h.0) (earlier_ways blocks b)

-- the label by which a last instruction leads to a block
label_to : (labels : ℕ → ℕ) (last : Last) (x : ℕ) → is_among (targets_of (settled_last labels last)) x ≡ true → (l : ℕ) × (is_among (targets_of last) l ≡ true) × (labels l ≡ x)
label_to labels (Jump to) x e = ⊎_elim (λ h. (to, or_left (nat_eq to to) false (eq-eqb to to refl), sym (eqb-true x (labels to) h))) (λ h. absurd (cc h)) (or_cases (nat_eq x (labels to)) false e)
label_to labels (Branch test first second) x e =
    ⊎_elim (λ h. (first, or_left (nat_eq first first) (nat_eq first second || false) (eq-eqb first first refl), sym (eqb-true x (labels first) h)))
    (λ g. ⊎_elim (λ h. (second, or_right (nat_eq second first) (nat_eq second second || false) (or_left (nat_eq second second) false (eq-eqb second second refl)), sym (eqb-true x (labels second) h))) (λ h. absurd (cc h)) (or_cases (nat_eq x (labels second)) false g))
    (or_cases (nat_eq x (labels first)) (nat_eq x (labels second) || false) e)
label_to labels (Return code) x e = absurd (cc e)

draft_at : (ds : List Draft) (k : ℕ) → k < length ds → (d : Draft) × (slice_get ds k ≡ Some d)
draft_at [] k lt = absurd (omega (arith, lt))
draft_at (d ∷ ds) zero lt = (d, refl)
draft_at (d ∷ ds) (suc k) lt = draft_at ds k (omega (arith, lt))

-- ---- jumps back

pub not_empty_of : (k : ℕ) (e : Bool) → 0 < k → (nat_eq k 0 || not e) ≡ true → e ≡ false
not_empty_of k e lt h = at (nat_eq k 0) e (ne_eqb k 0 (λ q. absurd (omega (arith, q, lt)))) h
  where
    at : (a e : Bool) → a ≡ false → (a || not e) ≡ true → e ≡ false
    at true e q h = absurd (cc q)
    at false true q h = absurd (cc h)
    at false false q h = refl

module _ (carry : WaysCarry) (keeps : SameWhereNotDiffer) (core : Core) (coder : Coder) (l : IsLowerable core coder) where
  abbrev m : Module
  m = lowered core coder

  abbrev z : Work
  z = whole_work core coder

  abbrev labels : ℕ → ℕ
  labels k = get_or z.targets k 0

  block_at : (k : ℕ) (d : Draft) → slice_get z.done k ≡ Some d → slice_get m.blocks k ≡ Some (settled labels (late_phis core coder) k d)
  block_at k d is = let z_more : 0 + k ≡ k = omega arith in settled_get labels (late_phis core coder) 0 z.done k d is ∙ ap (λ (n : ℕ). Some (settled labels (late_phis core coder) n d)) z_more

  long : length m.blocks ≡ length z.done
  long = settled_long labels (late_phis core coder) 0 z.done

  -- between a block and one that it jumps back to
  inside : (n h b : ℕ) → IsBack z.done labels n h b → b < length z.done → (x : ℕ) → h < x → x ≤ b → (is_empty (earlier m.blocks x) ≡ false) × AllByRecursion (λ (p : ℕ). (p < x) × (h ≤ p)) (earlier m.blocks x)
  inside n h b back lt x above below =
      let dx = draft_at z.done x (omega (arith, lt, below)) in
      let is_x = block_at x dx.0 dx.1 in (
        not_empty_of x (is_empty (earlier m.blocks x)) (omega (arith, above)) (earlier_fine carry keeps core coder l x (settled labels (late_phis core coder) x dx.0) is_x),
        all_turn (λ (p : ℕ). (p < x) × (is_way m.blocks p x ≡ true)) (λ (p : ℕ). (p < x) × (h ≤ p)) (earlier m.blocks x) (λ p q. (q.0, from p q.0 q.1 is_x)) (earlier_ways m.blocks x),
      )
    where
      from : (p : ℕ) → p < x → is_way m.blocks p x ≡ true → slice_get m.blocks x ≡ Some (settled labels (late_phis core coder) x (draft_at z.done x (omega (arith, lt, below))).0) → h ≤ p
      from p px way is_x = at (cases_lt p h)
        where
          dp : (d : Draft) × (slice_get z.done p ≡ Some d)
          dp = draft_at z.done p (omega (arith, px, lt, below))

          leads : is_among (targets_of (settled_last labels dp.0.last)) x ≡ true
          leads = sym (ap (λ (o : Option ModuleBlock). jumps_to o (slice_get m.blocks x)) (block_at p dp.0 dp.1) ∙ ap (jumps_to (Some (settled labels (late_phis core coder) p dp.0))) is_x) ∙ way

          to : (i : ℕ) × (is_among (targets_of dp.0.last) i ≡ true) × (labels i ≡ x)
          to = label_to labels dp.0.last x leads

          by_name : named to.0 z.done p ≡ true
          by_name = ap (λ (o : Option Draft). jumps_in o to.0) dp.1 ∙ to.1

          at : (p < h) ⊎ (h ≤ p) → h ≤ p
          at (inr le) = le
          at (inl lower) = absurd (⊎_elim (λ g. cc (by_name, back.front p to.0 lower g)) (λ g. back.between x to.0 g above below to.2) (cases_lt n to.0))

  -- a jump leaves what its target carries
  leaves : (things : List Thing) (b : ℕ) (d : Draft) → slice_get z.done b ≡ Some d → (i : ℕ) → is_among (targets_of d.last) i ≡ true → leaves_carried m b things (place_of m.blocks (labels i)) ≡ true
  leaves things b d is i e =
      let st = labels_settled carry keeps core coder l in
      let by_name : named i z.done b ≡ true = ap (λ (o : Option Draft). jumps_in o i) is ∙ e in
      let lt = st.mention i b by_name in
      let within : labels i < length m.blocks = ⊎_elim (λ h. absurd (omega (arith, h, lt))) (λ h. omega (arith, h, long)) (st.bound i) in
      let place = block_place 0 m.blocks (labels i) (settled_names labels (late_phis core coder) 0 z.done) (omega arith) (omega (arith, within)) in
      let few = slice_get_within z.done b d is in
      ap (leaves_carried m b things) place ∙ at (nat_lt b (labels i)) refl (⊎_elim (λ h. absurd (omega (arith, h, lt))) (λ g. g) ((whole_backs carry keeps core coder l).jumps b i by_name)) few
    where
      at : (c : Bool) → nat_lt b (labels i) ≡ c → (b < labels i) ⊎ IsBack z.done labels i (labels i) b → b < length z.done → (if c then true else list_all (λ t. if is_carried m.blocks (labels i) t then is_left m.blocks b t else true) things) ≡ true
      at true c g few = refl
      at false c (inl h) few = absurd (cc (c, lt-ltb b (labels i) h))
      at false c (inr back) few = each things (cases_lt b (labels i))
        where
          each : (ts : List Thing) → (b < labels i) ⊎ (labels i ≤ b) → list_all (λ t. if is_carried m.blocks (labels i) t then is_left m.blocks b t else true) ts ≡ true
          each ts (inl h) = absurd (cc (c, lt-ltb b (labels i) h))
          each [] (inr le) = refl
          each (t ∷ ts) (inr le) = both (if is_carried m.blocks (labels i) t then is_left m.blocks b t else true) (list_all (λ t. if is_carried m.blocks (labels i) t then is_left m.blocks b t else true) ts) (one (is_carried m.blocks (labels i) t) refl) (each ts (inr le))
            where
              one : (k : Bool) → is_carried m.blocks (labels i) t ≡ k → (if k then is_left m.blocks b t else true) ≡ true
              one false q = refl
              one true q = or_left (is_carried m.blocks b t) (assigns m.blocks b t) (through (earlier m.blocks) (λ p. assigns m.blocks p t) (earlier_less m.blocks) (labels i) b (inside i (labels i) b back few) q (suc b) b (omega arith) le (omega arith))

  last_leaves : (things : List Thing) (k : ℕ) (d : Draft) → slice_get z.done k ≡ Some d → (last : Last) → d.last ≡ last → list_all (λ name. leaves_carried m k things (place_of m.blocks name)) (targets_of (settled_last labels last)) ≡ true
  last_leaves things k d is (Jump to) e =
      both (leaves_carried m k things (place_of m.blocks (labels to))) true (leaves things k d is to (ap (λ (t : Last). is_among (targets_of t) to) e ∙ or_left (nat_eq to to) false (eq-eqb to to refl))) refl
  last_leaves things k d is (Branch test first second) e =
      both (leaves_carried m k things (place_of m.blocks (labels first))) (leaves_carried m k things (place_of m.blocks (labels second)) && true)
      (leaves things k d is first (ap (λ (t : Last). is_among (targets_of t) first) e ∙ or_left (nat_eq first first) (nat_eq first second || false) (eq-eqb first first refl)))
      (both (leaves_carried m k things (place_of m.blocks (labels second))) true (leaves things k d is second (ap (λ (t : Last). is_among (targets_of t) second) e ∙ or_right (nat_eq second first) (nat_eq second second || false) (or_left (nat_eq second second) false (eq-eqb second second refl)))) refl)
  last_leaves things k d is (Return code) e = refl

  -- of each block
  pub block_leaves : (things : List Thing) (k : ℕ) (b : ModuleBlock) → slice_get m.blocks k ≡ Some b → list_all (λ name. leaves_carried m k things (place_of m.blocks name)) (targets_of b.last) ≡ true
  block_leaves things k b is =
      let d = draft_at z.done k (omega (arith, slice_get_within m.blocks k b is, long)) in
      let same : b ≡ settled labels (late_phis core coder) k d.0 = some_block b (settled labels (late_phis core coder) k d.0) (sym is ∙ block_at k d.0 d.1) in
      ap (λ (x : ModuleBlock). list_all (λ name. leaves_carried m k things (place_of m.blocks name)) (targets_of x.last)) same ∙ last_leaves things k d.0 d.1 d.0.last refl

-- ---- items, each with those in front

abbrev pub AllAt : (List Item → Item → Type 0) → List Item → List Item → Type 0
AllAt Q front [] = Unit {0}
AllAt Q front (x ∷ xs) = Q front x × AllAt Q (front ++ x ∷ []) xs

pub at_middle : (Q : List Item → Item → Type 0) (before front : List Item) (item : Item) (rest : List Item) → AllAt Q before (front ++ item ∷ rest) → Q (before ++ front) item
at_middle Q before [] item rest all = subst (λ (f : List Item). Q f item) (sym (append-nil before)) all.0
at_middle Q before (x ∷ front) item rest all = subst (λ (f : List Item). Q f item) (append_assoc before (x ∷ []) front) (at_middle Q (before ++ x ∷ []) front item rest all.1)

any_right : (f : Thing → Bool) (xs ys : List Thing) → list_any f ys ≡ true → list_any f (xs ++ ys) ≡ true
any_right f [] ys e = e
any_right f (x ∷ xs) ys e = or_right (f x) (list_any f (xs ++ ys)) (any_right f xs ys e)

assigning_last : (front : List Item) (item : Item) (t : Thing) → list_any (same_thing t) (assigned_by item) ≡ true → are_assigning (front ++ item ∷ []) t ≡ true
assigning_last front item t e =
    ap (list_any (same_thing t)) (flat_append assigned_by front (item ∷ []) ∙ ap (λ (xs : List Thing). flat_map assigned_by front ++ xs) (append-nil (assigned_by item)))
    ∙ any_right (same_thing t) (flat_map assigned_by front) (assigned_by item) e

measured_assigns : (i : Instr) (k : ℕ) → measured_in i ≡ k ∷ [] → list_any (same_thing (TheResult k)) (assigned_by (TheInstr i)) ≡ true
measured_assigns i k e =
    ap (λ (ks : List ℕ). list_any (same_thing (TheResult k)) (map TheRegister (registers_of i) ++ map TheResult ks)) e
    ∙ any_right (same_thing (TheResult k)) (map TheRegister (registers_of i)) (TheResult k ∷ []) (or_left (nat_eq k k) false (eq-eqb k k refl))

one_read : (t : Option Task) (args : List Arg) → (read_by t args ≡ []) ⊎ ((k : ℕ) × (read_by t args ≡ k ∷ []))
one_read None args = inl refl
one_read (Some Initialize) args = inl refl
one_read (Some ArrayRecord) args = inl refl
one_read (Some BoolRecord) args = inl refl
one_read (Some IntRecord) args = inl refl
one_read (Some ResetQubit) args = inl refl
one_read (Some MeasureQubit) args = inl refl
one_read (Some (ApplyGate gate)) args = inl refl
one_read (Some ReadResult) [] = inl refl
one_read (Some ReadResult) (Number o ∷ args) = inl refl
one_read (Some ReadResult) (Truth o ∷ args) = inl refl
one_read (Some ReadResult) (Text k ∷ args) = inl refl
one_read (Some ReadResult) (Id k ∷ []) = inr (k, refl)
one_read (Some ReadResult) (Id k ∷ a ∷ args) = inl refl

reading : (i : Instr) → (read_in i ≡ []) ⊎ ((k : ℕ) × (read_in i ≡ k ∷ []))
reading (Op r op truth left right) = inl refl
reading (Zext r from) = inl refl
reading (Trunc r from) = inl refl
reading (Select r truth test chosen other) = inl refl
reading (Call register function args) = one_read (task_of (row_of function.0)) args

module _ (m : Module) (k : ℕ) where
  abbrev is_there : List Item → Thing → Bool
  is_there front t = are_assigning front t || is_carried m.blocks k t

  abbrev IsThere : List Item → Item → Type 0
  IsThere front item = list_all (is_there front) (results_read item) ≡ true

  body_there : (front : List Item) (measured : List ℕ) (body : List Instr) (rest : List Item) → ((r : ℕ) → measured ≡ r ∷ [] → are_assigning front (TheResult r) ≡ true) → ReadsFollow measured body → ((f : List Item) → AllAt IsThere f rest) → AllAt IsThere front (map TheInstr body ++ rest)
  body_there front measured [] rest known follow others = others front
  body_there front measured (i ∷ is) rest known follow others = (
    ⊎_elim (λ e. ap (λ (ks : List ℕ). list_all (is_there front) (map TheResult ks)) e)
        (λ r. ap (λ (ks : List ℕ). list_all (is_there front) (map TheResult ks)) r.1 ∙ both (is_there front (TheResult r.0)) true (or_left (are_assigning front (TheResult r.0)) (is_carried m.blocks k (TheResult r.0)) (known r.0 (subst (IsReadOf measured) r.1 follow.0))) refl)
        (reading i),
    body_there (front ++ TheInstr i ∷ []) (measured_in i) is rest (λ r e. assigning_last front (TheInstr i) (TheResult r) (measured_assigns i r e)) follow.1 others,
  )

  phis_there : (front : List Item) (phis : List Phi) (rest : List Item) → ((f : List Item) → AllAt IsThere f rest) → AllAt IsThere front (map ThePhi phis ++ rest)
  phis_there front [] rest others = others front
  phis_there front (p ∷ phis) rest others = (refl, phis_there (front ++ ThePhi p ∷ []) phis rest others)

  block_there : (b : ModuleBlock) → ReadsFollow [] b.body → AllAt IsThere [] (items_in b)
  block_there b follow =
      subst (AllAt IsThere []) (sym (append_assoc (map ThePhi b.phis) (map TheInstr b.body) (TheLast b.last ∷ [])))
      (phis_there [] b.phis (map TheInstr b.body ++ TheLast b.last ∷ []) (λ f. body_there f [] b.body (TheLast b.last ∷ []) (λ r e. absurd (cc e)) follow (λ g. (refl, tt))))

follow_at : (blocks : List ModuleBlock) (k : ℕ) (b : ModuleBlock) → EachReadsFollow blocks → slice_get blocks k ≡ Some b → ReadsFollow [] b.body
follow_at [] k b all e = absurd (cc e)
follow_at (x ∷ blocks) zero b all e = let same : x ≡ b = cc e in subst (λ (y : ModuleBlock). ReadsFollow [] y.body) same all.0
follow_at (x ∷ blocks) (suc k) b all e = follow_at blocks k b all.1 e

pub results_rule : WaysCarry → SameWhereNotDiffer → (core : Core) (coder : Coder) → IsLowerable core coder → IsKept (lowered core coder) carried_results_kept
results_rule carry keeps core coder l =
    let m = lowered core coder in
    let things = results_named m in
    let order = is_in_order carry keeps core coder l in
    each_spot (λ (s : Spot). carried_results_kept m s ≡ true) m (λ k b is front item rest e.
    let P : Item → Type 0 = λ x. jumps_carry m (spot_at k b front x) things x ≡ true in
    both (reads_carried m (spot_at k b front item) (results_read item)) (jumps_carry m (spot_at k b front item) things item)
    (at_middle (IsThere m k) [] front item rest (subst (AllAt (IsThere m k) []) e (block_there m k b (follow_at m.blocks k b order.reads is))))
    (all_middle P front item rest (subst (AllByRecursion P) e (all_items P b (record {
      phis = all_true (λ (p : Phi). P (ThePhi p)) b.phis (λ p. refl);
      body = all_true (λ (i : Instr). P (TheInstr i)) b.body (λ i. refl);
      last = block_leaves carry keeps core coder l things k b is;
    })))))
