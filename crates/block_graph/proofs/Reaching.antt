-- The rule on carried registers: where one is neither carried nor assigned in front, some way forward comes there without it,
-- and on each way forward what is taken has a value.
use Rattle.std.proofs.Common.{◌≡◌, ℕ, zero, suc, ◌+◌, ◌<◌, inl, inr, ⊎_elim, nat_eq, Bool, true, false, not, ◌&&◌, ◌||◌, List, [], ◌∷◌, ◌++◌, length, map, get_or, Option, Some, None, refl, sym, ap, ◌∙◌, subst, arith, append_assoc, append-nil, eq-eqb, eqb-true}
use Rattle.std.specs.Prelude.{slice_get, filter, count_by, cond, if◌then◌else◌}
use Rattle.std.specs.List.{flat_map, list_all, AllByRecursion}
use Rattle.std.proofs.lemmas.Option.{slice_get_within}
use Rattle.std.proofs.lemmas.List.Sums.{sum_by-cons}
use Rattle.std.proofs.lemmas.List.Elements.{recursion_from_All}
use Rattle.qir_module.specs.declared.instruction.Operand.{Operand}
use Rattle.qir_module.specs.declared.instruction.Operand.TheVariants.{Register, Fixed}
use Rattle.qir_module.specs.declared.instruction.Instr.{Instr}
use Rattle.qir_module.specs.declared.block.Phi.{Phi}
use Rattle.qir_module.specs.declared.block.Block.{Block as ModuleBlock}
use Rattle.qir_module.specs.Module.{Module}
use Rattle.qir_module.specs.Machine.{State, first_state, entry_from, phi_value, take_phis, place_of}
use Rattle.qir_module.specs.Numbered.{is_among}
use Rattle.qir_module.specs.Spots.{Item, ThePhi, TheInstr, TheLast, items_in, Spot}
use Rattle.qir_module.specs.Carried.{Thing, TheRegister, targets_of, is_way, jumps_to, earlier, are_assigning, block_assigns, assigns, is_empty, carried_within, is_carried, is_left}
use Rattle.qir_module.specs.Passes.{IsKept, block_names, predecessors, names_each_once, entry_names, item_operands, register_in, registers_read, registers_named, reads_carried, is_left_by, entries_carried, jumps_carry, carried_registers_kept}
use Rattle.core_ir.specs.Core.{Core}
use Rattle.core_ir.specs.WellFormed.{OutputFits}
use Rattle.phi_place.specs.Phis.{WaysCarry, SameWhereNotDiffer}
use Rattle.block_graph.specs.Bounds.{IsHeldOutput}
use Rattle.block_graph.specs.Laws.{IsLowerable}
use Rattle.block_graph.specs.Lowering.{Coder, whole_work, lowered}
use Rattle.block_graph.specs.Stretch.{IsGraphOf}
use Rattle.block_graph.proofs.Coding.{both}
use Rattle.block_graph.proofs.Flow.{or_cases, and_cases}
use Rattle.block_graph.proofs.Running.{block_name, block_place}
use Rattle.block_graph.proofs.Spotting.{spot_at, each_spot, all_middle, all_items, all_true}
use Rattle.block_graph.proofs.Whole.{settled_names, is_graph, program_fits}
use Rattle.block_graph.proofs.Preceding.{phis_fine, earlier_fine}
use Rattle.block_graph.proofs.Carrying.{same_depth, earlier_ways, earlier_less, not_empty_of, block_leaves, AllAt, at_middle}
use Rattle.block_graph.proofs.Walking.{late_phis}
use Rattle.block_graph.proofs.Passing.{GoesOn, Runs, Ends, graph_fine}
use Rattle.block_graph.proofs.Reading.{or_neither, IsRead, Absent, Untaken, front_silent, value_absent, body_untaken, body_ends, phis_leave, phis_take}

-- ---- lists

some_fails : (f : ℕ → Bool) (P : ℕ → Type 0) (xs : List ℕ) → AllByRecursion P xs → list_all f xs ≡ false → (x : ℕ) × P x × (f x ≡ false)
some_fails f P [] all e = absurd (cc e)
some_fails f P (x ∷ xs) all e = at (f x) refl e (λ q. some_fails f P xs all.1 q)
  where
    at : (b : Bool) → f x ≡ b → (b && list_all f xs) ≡ false → (list_all f xs ≡ false → (y : ℕ) × P y × (f y ≡ false)) → (y : ℕ) × P y × (f y ≡ false)
    at false q e next = (x, all.0, q)
    at true q e next = next e

block_in : (blocks : List ModuleBlock) (k : ℕ) → k < length blocks → (b : ModuleBlock) × (slice_get blocks k ≡ Some b)
block_in [] k lt = absurd (omega (arith, lt))
block_in (b ∷ blocks) zero lt = (b, refl)
block_in (b ∷ blocks) (suc k) lt = block_in blocks k (omega (arith, lt))

all_reads : (f : Thing → Bool) (os : List (Operand × Bool)) → ((r : ℕ) → IsRead r os → f (TheRegister r) ≡ true) → list_all f (flat_map (λ (o : Operand × Bool). register_in o.0) os) ≡ true
all_reads f [] h = refl
all_reads f (o ∷ os) h = at o.0 refl (all_reads f os (λ r q. h r (inr q)))
  where
    at : (x : Operand) → o.0 ≡ x → list_all f (flat_map (λ (o : Operand × Bool). register_in o.0) os) ≡ true → list_all f (register_in x ++ flat_map (λ (o : Operand × Bool). register_in o.0) os) ≡ true
    at (Register r) e rest = both (f (TheRegister r)) (list_all f (flat_map (λ (o : Operand × Bool). register_in o.0) os)) (h r (inl e)) rest
    at (Fixed z) e rest = rest

-- a block of a filtered list, by its name
name_from : (f : ModuleBlock → Bool) (blocks : List ModuleBlock) (n : ℕ) → is_among (block_names (filter f blocks)) n ≡ true → (k : ℕ) × (b : ModuleBlock) × (slice_get blocks k ≡ Some b) × (f b ≡ true) × (b.name ≡ n)
name_from f [] n e = absurd (cc e)
name_from f (b ∷ blocks) n e = at (f b) refl e (λ q. let r = name_from f blocks n q in (suc r.0, r.1, r.2, r.3, r.4))
  where
    at : (c : Bool) → f b ≡ c → is_among (block_names (cond c (b ∷ filter f blocks) (filter f blocks))) n ≡ true → (is_among (block_names (filter f blocks)) n ≡ true → (k : ℕ) × (x : ModuleBlock) × (slice_get (b ∷ blocks) k ≡ Some x) × (f x ≡ true) × (x.name ≡ n)) → (k : ℕ) × (x : ModuleBlock) × (slice_get (b ∷ blocks) k ≡ Some x) × (f x ≡ true) × (x.name ≡ n)
    at true q e next = ⊎_elim (λ h. (zero, b, refl, q, sym (eqb-true n b.name h))) next (or_cases (nat_eq n b.name) (is_among (block_names (filter f blocks)) n) e)
    at false q e next = next e

all_among : (f : ℕ → Bool) (xs : List ℕ) (n : ℕ) → list_all f xs ≡ true → is_among xs n ≡ true → f n ≡ true
all_among f [] n all e = absurd (cc e)
all_among f (x ∷ xs) n all e =
    let two = and_cases (f x) (list_all f xs) all in
    ⊎_elim (λ h. ap f (eqb-true n x h) ∙ two.0) (λ h. all_among f xs n two.1 h) (or_cases (nat_eq n x) (is_among xs n) e)

-- ---- the entry of a name

abbrev names_in : List (Operand × ℕ) → List ℕ
names_in entries = map (λ (e : Operand × ℕ). e.1) entries

counts : (n : ℕ) (x : ℕ) (xs : List ℕ) → count_by (nat_eq n) (x ∷ xs) ≡ cond (nat_eq n x) 1 0 + count_by (nat_eq n) xs
counts n x xs = sum_by-cons (λ y. cond (nat_eq n y) 1 0) x xs

counted_in : (front : List (Operand × ℕ)) (e : Operand × ℕ) (rest : List (Operand × ℕ)) → 0 < count_by (nat_eq e.1) (names_in (front ++ e ∷ rest))
counted_in [] e rest = let c = counts e.1 e.1 (names_in rest) ∙ ap (λ (b : Bool). cond b 1 0 + count_by (nat_eq e.1) (names_in rest)) (eq-eqb e.1 e.1 refl) in omega (arith, c)
counted_in (x ∷ front) e rest = let c = counts e.1 x.1 (names_in (front ++ e ∷ rest)) in let more = counted_in front e rest in omega (arith, c, more)

entry_once : (front : List (Operand × ℕ)) (e : Operand × ℕ) (rest : List (Operand × ℕ)) → count_by (nat_eq e.1) (names_in (front ++ e ∷ rest)) ≡ 1 → entry_from (front ++ e ∷ rest) (Some e.1) ≡ Some e.0
entry_once [] e rest one = ap (λ (b : Bool). if b then Some e.0 else entry_from rest (Some e.1)) (eq-eqb e.1 e.1 refl)
entry_once (x ∷ front) e rest one = at (nat_eq x.1 e.1) refl (counts e.1 x.1 (names_in (front ++ e ∷ rest))) (λ q. entry_once front e rest q)
  where
    swap : nat_eq x.1 e.1 ≡ true → nat_eq e.1 x.1 ≡ true
    swap h = eq-eqb e.1 x.1 (sym (eqb-true x.1 e.1 h))

    at : (b : Bool) → nat_eq x.1 e.1 ≡ b → count_by (nat_eq e.1) (names_in (x ∷ (front ++ e ∷ rest))) ≡ cond (nat_eq e.1 x.1) 1 0 + count_by (nat_eq e.1) (names_in (front ++ e ∷ rest)) → (count_by (nat_eq e.1) (names_in (front ++ e ∷ rest)) ≡ 1 → entry_from (front ++ e ∷ rest) (Some e.1) ≡ Some e.0) → (if b then Some x.0 else entry_from (front ++ e ∷ rest) (Some e.1)) ≡ Some e.0
    at true h c next =
        let d = c ∙ ap (λ (b : Bool). cond b 1 0 + count_by (nat_eq e.1) (names_in (front ++ e ∷ rest))) (swap h) in
        let more = counted_in front e rest in
        absurd (omega (arith, d, more, one))
    at false h c next = next (without (nat_eq e.1 x.1) refl c)
      where
        without : (b : Bool) → nat_eq e.1 x.1 ≡ b → count_by (nat_eq e.1) (names_in (x ∷ (front ++ e ∷ rest))) ≡ cond b 1 0 + count_by (nat_eq e.1) (names_in (front ++ e ∷ rest)) → count_by (nat_eq e.1) (names_in (front ++ e ∷ rest)) ≡ 1
        without true q c = absurd (cc (h, eq-eqb x.1 e.1 (sym (eqb-true e.1 x.1 q))))
        without false q c = omega (arith, c, one)

-- ---- items behind the phis

phis_untaken : (r : ℕ) (labels : ℕ) (front : List Item) (phis : List Phi) (rest : List Item) → AllAt (Untaken labels r) (front ++ map ThePhi phis) rest → AllAt (Untaken labels r) front (map ThePhi phis ++ rest)
phis_untaken r labels front [] rest all = subst (λ (f : List Item). AllAt (Untaken labels r) f rest) (append-nil front) all
phis_untaken r labels front (p ∷ phis) rest all = (tt, phis_untaken r labels (front ++ ThePhi p ∷ []) phis rest (subst (λ (f : List Item). AllAt (Untaken labels r) f rest) (sym (append_assoc front (ThePhi p ∷ []) (map ThePhi phis))) all))

module _ (carry : WaysCarry) (keeps : SameWhereNotDiffer) (core : Core) (coder : Coder) (l : IsLowerable core coder) where
  abbrev m : Module
  m = lowered core coder

  abbrev n_labels : ℕ
  n_labels = length m.labels

  abbrev graph : IsGraphOf core m
  graph = is_graph carry keeps core coder l.coder_fits (program_fits core l.fits l.held) l.fits.well_formed.levels

  fine : (n : ℕ) → Runs n_labels graph.starts.target.body (Ends m n 0 graph.starts.target.last) first_state
  fine n = graph_fine core m refl (program_fits core l.fits l.held) (recursion_from_All (OutputFits core) core.outputs l.fits.well_formed.outputs) (recursion_from_All IsHeldOutput core.outputs l.held.outputs) graph n

  named : (k : ℕ) (b : ModuleBlock) → slice_get m.blocks k ≡ Some b → b.name ≡ k
  named k b is = let more : 0 + k ≡ k = omega arith in block_name 0 m.blocks k b (settled_names (λ j. get_or (whole_work core coder).targets j 0) (late_phis core coder) 0 (whole_work core coder).done) is ∙ more

  placed : (k : ℕ) → k < length m.blocks → place_of m.blocks k ≡ Some k
  placed k lt = block_place 0 m.blocks k (settled_names (λ j. get_or (whole_work core coder).targets j 0) (late_phis core coder) 0 (whole_work core coder).done) (omega arith) (omega (arith, lt))

  -- a way forward comes to the block without the register, behind its phis, and goes on for up to n blocks
  record Reached (r n b : ℕ) : Type 0 where
    block : ModuleBlock
    found : slice_get m.blocks b ≡ Some block
    state : State
    absent : Absent n_labels r (map ThePhi block.phis) state
    runs : Runs n_labels block.body (Ends m n b block.last) state

  -- and to its end
  record Behind (r n b : ℕ) : Type 0 where
    block : ModuleBlock
    found : slice_get m.blocks b ≡ Some block
    state : State
    absent : state.registers r ≡ None
    ends : Ends m n b block.last state

  goes_behind : (r n b : ℕ) → Reached r n b → assigns m.blocks b (TheRegister r) ≡ false → Behind r n b
  goes_behind r n b x e =
      let z = body_ends n_labels r (Ends m n b x.block.last) (map ThePhi x.block.phis) x.block.body x.state x.absent x.runs in
      let none : are_assigning (items_in x.block) (TheRegister r) ≡ false = sym (ap (λ (o : Option ModuleBlock). block_assigns o (TheRegister r)) x.found) ∙ e in
      record { block = x.block; found = x.found; state = z.0; absent = z.2 (front_silent n_labels r (map ThePhi x.block.phis ++ map TheInstr x.block.body) (TheLast x.block.last) none).0; ends = z.1 }

  arrives : (r n p x : ℕ) (b : ModuleBlock) → slice_get m.blocks x ≡ Some b → (s : State) → s.registers r ≡ None → p < x → (o : Option State) → take_phis b.phis (Some p) s ≡ o → GoesOn o (λ s'. p < x → Runs n_labels b.body (Ends m n x b.last) s') → Reached r n x
  arrives r n p x b is s absent lt None e q = absurd q
  arrives r n p x b is s absent lt (Some t) e q = record { block = b; found = is; state = t; absent = phis_leave n_labels r b.phis (Some p) s t absent e; runs = q lt }

  leads : (p x : ℕ) (a b : ModuleBlock) → slice_get m.blocks p ≡ Some a → slice_get m.blocks x ≡ Some b → is_way m.blocks p x ≡ true → is_among (targets_of a.last) x ≡ true
  leads p x a b at_p at_x way =
      subst (λ (k : ℕ). is_among (targets_of a.last) k ≡ true) (named x b at_x) (sym (ap (λ (o : Option ModuleBlock). jumps_to o (slice_get m.blocks x)) at_p ∙ ap (jumps_to (Some a)) at_x) ∙ way)

  reach : (bound r n b : ℕ) → b < bound → b < length m.blocks → is_carried m.blocks b (TheRegister r) ≡ false → Reached r n b
  reach zero r n b lt within e = absurd (omega (arith, lt))
  reach (suc bound) r n zero lt within e = record { block = graph.starts.target; found = graph.starts.found; state = first_state; absent = λ none. refl; runs = fine n }
  reach (suc bound) r n (suc b) lt within e = from (some_fails (λ p. carried_within before assigned (suc b) p || assigned p) (λ p. (p < suc b) × (is_way m.blocks p (suc b) ≡ true)) (before (suc b)) (earlier_ways m.blocks (suc b)) fails) (λ p px pw c. reach bound r (suc n) p px pw c)
    where
      before : ℕ → List ℕ
      before = earlier m.blocks

      assigned : ℕ → Bool
      assigned p = assigns m.blocks p (TheRegister r)

      here : (x : ModuleBlock) × (slice_get m.blocks (suc b) ≡ Some x)
      here = block_in m.blocks (suc b) within

      some : is_empty (before (suc b)) ≡ false
      some = not_empty_of (suc b) (is_empty (before (suc b))) (omega arith) (earlier_fine carry keeps core coder l (suc b) here.0 here.1)

      fails : list_all (λ p. carried_within before assigned (suc b) p || assigned p) (before (suc b)) ≡ false
      fails = sym (ap (λ (x : Bool). if x then false else list_all (λ p. carried_within before assigned (suc b) p || assigned p) (before (suc b))) some) ∙ e

      from : (p : ℕ) × ((p < suc b) × (is_way m.blocks p (suc b) ≡ true)) × ((carried_within before assigned (suc b) p || assigned p) ≡ false) → ((p : ℕ) → p < bound → p < length m.blocks → is_carried m.blocks p (TheRegister r) ≡ false → Reached r (suc n) p) → Reached r n (suc b)
      from f next =
          let p = f.0 in
          let px : p < suc b = f.1.0 in
          let two = or_neither (carried_within before assigned (suc b) p) (assigned p) f.2 in
          let not_carried : is_carried m.blocks p (TheRegister r) ≡ false = sym (same_depth before assigned (earlier_less m.blocks) (suc b) (suc p) p px (omega arith)) ∙ two.0 in
          let x = goes_behind r (suc n) p (next p (omega (arith, px, lt)) (omega (arith, px, within)) not_carried) two.1 in
          arrives r n p (suc b) here.0 here.1 x.state x.absent px (take_phis here.0.phis (Some p) x.state) refl (x.ends.1 (suc b) here.0 (leads p (suc b) x.block here.0 x.found here.1 f.1.1) here.1)

  -- ---- what instructions and last instructions read

  untaken : (k : ℕ) (b : ModuleBlock) (r : ℕ) → slice_get m.blocks k ≡ Some b → Reached r 0 k → AllAt (Untaken n_labels r) [] (items_in b)
  untaken k b r is x =
      let same : x.block ≡ b = cc (sym x.found ∙ is) in
      subst (λ (y : ModuleBlock). AllAt (Untaken n_labels r) [] (items_in y)) same
      (subst (AllAt (Untaken n_labels r) []) (sym (append_assoc (map ThePhi x.block.phis) (map TheInstr x.block.body) (TheLast x.block.last ∷ [])))
      (phis_untaken r n_labels [] x.block.phis (map TheInstr x.block.body ++ TheLast x.block.last ∷ []) (body_untaken n_labels r (Ends m 0 k x.block.last) (map ThePhi x.block.phis) x.block.body x.block.last x.state (λ t h. h) x.absent x.runs)))

  there : (k : ℕ) (b : ModuleBlock) (front : List Item) (item : Item) (rest : List Item) → slice_get m.blocks k ≡ Some b → items_in b ≡ front ++ item ∷ rest → (r : ℕ) → (Untaken n_labels r front item → are_assigning front (TheRegister r) ≡ false → ⊥) → (are_assigning front (TheRegister r) || is_carried m.blocks k (TheRegister r)) ≡ true
  there k b front item rest is e r taken = at (are_assigning front (TheRegister r)) refl (is_carried m.blocks k (TheRegister r)) refl
    where
      at : (a : Bool) → are_assigning front (TheRegister r) ≡ a → (c : Bool) → is_carried m.blocks k (TheRegister r) ≡ c → (a || c) ≡ true
      at true p c q = refl
      at false p true q = refl
      at false p false q = absurd (taken (at_middle (Untaken n_labels r) [] front item rest (subst (AllAt (Untaken n_labels r) []) e (untaken k b r is (reach (suc k) r 0 k (omega arith) (slice_get_within m.blocks k b is) q)))) p)

  read_there : (k : ℕ) (b : ModuleBlock) (front : List Item) (item : Item) (rest : List Item) → slice_get m.blocks k ≡ Some b → items_in b ≡ front ++ item ∷ rest → reads_carried m (spot_at k b front item) (registers_read item) ≡ true
  read_there k b front (ThePhi p) rest is e = refl
  read_there k b front (TheInstr i) rest is e = all_reads (λ t. are_assigning front t || is_carried m.blocks k t) (item_operands (TheInstr i)) (λ r read. there k b front (TheInstr i) rest is e r (λ u none. u none read))
  read_there k b front (TheLast last) rest is e = all_reads (λ t. are_assigning front t || is_carried m.blocks k t) (item_operands (TheLast last)) (λ r read. there k b front (TheLast last) rest is e r (λ u none. u none read))

  -- ---- what phis take

  left_by : (name p : ℕ) (t : Thing) → place_of m.blocks name ≡ Some p → is_left m.blocks p t ≡ true → is_left_by m name t ≡ true
  left_by name p t e h = rw e h

  -- a phi of a block that a block leads to takes what is there
  entry_left : (k : ℕ) (b : ModuleBlock) (before : List Phi) (p : Phi) (after : List Phi) (q : ℕ) (r : ℕ) → slice_get m.blocks k ≡ Some b → b.phis ≡ before ++ p ∷ after → q < length m.blocks → ((a : ModuleBlock) → slice_get m.blocks q ≡ Some a → is_among (targets_of a.last) k ≡ true) → entry_from p.entries (Some q) ≡ Some (Register r) → is_left m.blocks q (TheRegister r) ≡ true
  entry_left k b before p after q r is split within leads_here entry = at (is_left m.blocks q (TheRegister r)) refl
    where
      lost : Behind r 1 q → (o : Option State) → GoesOn o (λ s'. q < k → Runs n_labels b.body (Ends m 0 k b.last) s') → (x : Behind r 1 q) → take_phis b.phis (Some q) x.state ≡ o → ⊥
      lost y None g x e = g
      lost y (Some t) g x e =
          let takes = all_middle (λ (p : Phi). phi_value x.state p (entry_from p.entries (Some q)) ≡ None → ⊥) before p after (subst (AllByRecursion (λ (p : Phi). phi_value x.state p (entry_from p.entries (Some q)) ≡ None → ⊥)) split (phis_take b.phis (Some q) x.state t e)) in
          takes (ap (phi_value x.state p) entry ∙ value_absent x.state r x.absent (not p.number) (Register r) refl)

      at : (c : Bool) → is_left m.blocks q (TheRegister r) ≡ c → c ≡ true
      at true e = refl
      at false e =
          let two = or_neither (is_carried m.blocks q (TheRegister r)) (assigns m.blocks q (TheRegister r)) e in
          let x = goes_behind r 1 q (reach (suc q) r 1 q (omega arith) within two.0) two.1 in
          absurd (lost x (take_phis b.phis (Some q) x.state) (x.ends.1 k b (leads_here x.block x.found) is) x refl)

  abbrev IsEntryLeft : Operand × ℕ → Type 0
  IsEntryLeft e = list_all (is_left_by m e.1) (register_in e.0) ≡ true

  one_left : (k : ℕ) (b : ModuleBlock) (before : List Phi) (p : Phi) (after : List Phi) → slice_get m.blocks k ≡ Some b → b.phis ≡ before ++ p ∷ after → names_each_once (entry_names p) (predecessors m.blocks b.name) ≡ true → (front : List (Operand × ℕ)) (e : Operand × ℕ) (rest : List (Operand × ℕ)) → p.entries ≡ front ++ e ∷ rest → is_among (predecessors m.blocks b.name) e.1 ≡ true → IsEntryLeft e
  one_left k b before p after is split once front e rest are among = at e.0 refl
    where
      from : (j : ℕ) × (a : ModuleBlock) × (slice_get m.blocks j ≡ Some a) × (is_among (targets_of a.last) b.name ≡ true) × (a.name ≡ e.1)
      from = name_from (λ (a : ModuleBlock). is_among (targets_of a.last) b.name) m.blocks e.1 among

      same : from.0 ≡ e.1
      same = sym (named from.0 from.1 from.2) ∙ from.4

      within : e.1 < length m.blocks
      within = let lt = slice_get_within m.blocks from.0 from.1 from.2 in omega (arith, lt, same)

      found : slice_get m.blocks e.1 ≡ Some from.1
      found = ap (slice_get m.blocks) (sym same) ∙ from.2

      leads_here : (a : ModuleBlock) → slice_get m.blocks e.1 ≡ Some a → is_among (targets_of a.last) k ≡ true
      leads_here a at_a =
          let blocks : from.1 ≡ a = cc (sym found ∙ at_a) in
          subst (λ (y : ModuleBlock). is_among (targets_of y.last) k ≡ true) blocks (subst (λ (x : ℕ). is_among (targets_of from.1.last) x ≡ true) (named k b is) from.3)

      one : count_by (nat_eq e.1) (names_in (front ++ e ∷ rest)) ≡ 1
      one = ap (λ (es : List (Operand × ℕ)). count_by (nat_eq e.1) (names_in es)) (sym are) ∙ eqb-true (count_by (nat_eq e.1) (entry_names p)) 1 (all_among (λ n. nat_eq (count_by (nat_eq n) (entry_names p)) 1) (predecessors m.blocks b.name) e.1 (and_cases (list_all (λ n. nat_eq (count_by (nat_eq n) (entry_names p)) 1) (predecessors m.blocks b.name)) (list_all (is_among (predecessors m.blocks b.name)) (entry_names p)) once).0 among)

      entry : entry_from p.entries (Some e.1) ≡ Some e.0
      entry = ap (λ (es : List (Operand × ℕ)). entry_from es (Some e.1)) are ∙ entry_once front e rest one

      at : (o : Operand) → e.0 ≡ o → list_all (is_left_by m e.1) (register_in o) ≡ true
      at (Fixed z) q = refl
      at (Register r) q = both (is_left_by m e.1 (TheRegister r)) true (left_by e.1 e.1 (TheRegister r) (placed e.1 within) (entry_left k b before p after e.1 r is split within leads_here (entry ∙ ap (λ (o : Operand). Some o) q))) refl

  entries_left : (k : ℕ) (b : ModuleBlock) (before : List Phi) (p : Phi) (after : List Phi) → slice_get m.blocks k ≡ Some b → b.phis ≡ before ++ p ∷ after → names_each_once (entry_names p) (predecessors m.blocks b.name) ≡ true → (front rest : List (Operand × ℕ)) → p.entries ≡ front ++ rest → list_all (is_among (predecessors m.blocks b.name)) (names_in rest) ≡ true → list_all (λ (e : Operand × ℕ). list_all (is_left_by m e.1) (register_in e.0)) rest ≡ true
  entries_left k b before p after is split once front [] are names = refl
  entries_left k b before p after is split once front (e ∷ rest) are names =
      let two = and_cases (is_among (predecessors m.blocks b.name) e.1) (list_all (is_among (predecessors m.blocks b.name)) (names_in rest)) names in
      both (list_all (is_left_by m e.1) (register_in e.0)) (list_all (λ (e : Operand × ℕ). list_all (is_left_by m e.1) (register_in e.0)) rest)
      (one_left k b before p after is split once front e rest are two.0)
      (entries_left k b before p after is split once (front ++ e ∷ []) rest (are ∙ sym (append_assoc front (e ∷ []) rest)) two.1)

  phis_left : (k : ℕ) (b : ModuleBlock) → slice_get m.blocks k ≡ Some b → (before after : List Phi) → b.phis ≡ before ++ after → AllByRecursion (λ (p : Phi). (not (nat_eq k 0) && names_each_once (entry_names p) (predecessors m.blocks b.name)) ≡ true) after → AllByRecursion (λ (p : Phi). entries_carried m (ThePhi p) ≡ true) after
  phis_left k b is before [] split all = tt
  phis_left k b is before (p ∷ after) split all =
      let once = (and_cases (not (nat_eq k 0)) (names_each_once (entry_names p) (predecessors m.blocks b.name)) all.0).1 in
      let names = (and_cases (list_all (λ n. nat_eq (count_by (nat_eq n) (entry_names p)) 1) (predecessors m.blocks b.name)) (list_all (is_among (predecessors m.blocks b.name)) (entry_names p)) once).1 in (
        entries_left k b before p after is split once [] p.entries refl names,
        phis_left k b is (before ++ p ∷ []) after (split ∙ sym (append_assoc before (p ∷ []) after)) all.1,
      )

  -- ---- the rule

  pub registers_rule : IsKept m carried_registers_kept
  registers_rule = each_spot (λ (s : Spot). carried_registers_kept m s ≡ true) m (λ k b is front item rest e.
      let things = registers_named m in
      let E : Item → Type 0 = λ x. entries_carried m x ≡ true in
      let J : Item → Type 0 = λ x. jumps_carry m (spot_at k b front x) things x ≡ true in
      both (reads_carried m (spot_at k b front item) (registers_read item) && entries_carried m item) (jumps_carry m (spot_at k b front item) things item)
      (both (reads_carried m (spot_at k b front item) (registers_read item)) (entries_carried m item)
      (read_there k b front item rest is e)
      (all_middle E front item rest (subst (AllByRecursion E) e (all_items E b (record {
        phis = phis_left k b is [] b.phis refl (phis_fine carry keeps core coder l k b is);
        body = all_true (λ (i : Instr). E (TheInstr i)) b.body (λ i. refl);
        last = refl;
      })))))
      (all_middle J front item rest (subst (AllByRecursion J) e (all_items J b (record {
        phis = all_true (λ (p : Phi). J (ThePhi p)) b.phis (λ p. refl);
        body = all_true (λ (i : Instr). J (TheInstr i)) b.body (λ i. refl);
        last = block_leaves carry keeps core coder l things k b is;
      })))))
