-- The rules of the profile that single items and their order in the text decide.
use Rattle.std.proofs.Common.{◌≡◌, ◌≢◌, ℕ, zero, suc, ◌+◌, ◌<◌, ◌≤◌, nat_eq, nat_lt, if◌then◌else◌, Bool, true, false, not, ◌&&◌, ◌||◌, List, [], ◌∷◌, ◌++◌, map, length, get_or, pos, take, Option, Some, None, refl, sym, ap, ◌∙◌, subst, arith, append_assoc, append-nil, ltb-true, eq-eqb, eqb-true, ne_eqb}
use Rattle.std.specs.Prelude.{slice_get, filter}
use Rattle.std.specs.List.{flat_map, list_all, AllByRecursion}
use Rattle.qir_module.specs.declared.instruction.Operand.{Operand}
use Rattle.qir_module.specs.declared.instruction.Instr.{Instr}
use Rattle.qir_module.specs.declared.instruction.Last.{Last}
use Rattle.qir_module.specs.declared.instruction.Last.TheVariants.{Return}
use Rattle.qir_module.specs.declared.block.Phi.{Phi}
use Rattle.qir_module.specs.declared.block.Block.{Block as ModuleBlock}
use Rattle.qir_module.specs.Module.{Module}
use Rattle.qir_module.specs.Numbered.{CountsFrom, registers_of, block_registers, functions_of, called_functions, is_among, counted, IsNumbered}
use Rattle.qir_module.specs.Spots.{Item, ThePhi, TheInstr, TheLast, items_in, Spot}
use Rattle.qir_module.specs.Passes.{Demand, IsKept, at_first_item, at_block_start, are_distinct, item_registers, item_functions, item_ids, is_null, initializes, is_only_zero, declared, block_names, registers_assigned, block_assigned, declarations_kept, initialize_kept, labels_kept, assigned_once_kept}
use Rattle.core_ir.specs.Core.{Core}
use Rattle.core_ir.specs.Tree.{program_of}
use Rattle.phi_place.specs.Phis.{WaysCarry, SameWhereNotDiffer}
use Rattle.block_graph.specs.Laws.{IsLowerable}
use Rattle.block_graph.specs.Work.{Draft, Open, Work}
use Rattle.block_graph.specs.Lowering.{Coder, initialize_call, record_call, end_work, first_work, lower_of, whole_work, settled_from, lowered}
use Rattle.block_graph.specs.Claims.{body_now, instrs_in, IsGoodInstr, InstrsStand}
use Rattle.block_graph.proofs.Coding.{flat_append, all_append, good_more, both, both_cases, IsNextCode}
use Rattle.block_graph.proofs.Walking.{Steps, late_phis, walk_program, end_none}
use Rattle.block_graph.proofs.Spotting.{spot_at, each_spot, all_middle, all_items, all_true, all_get, kept_by_instrs}
use Rattle.block_graph.proofs.Flow.{or_left, or_right}
use Rattle.block_graph.proofs.Running.{names_of, block_name}

-- ---- the instructions so far

instrs_more : (w v : Work) (o : Open) (code : List Instr) (values : List Operand) → w.now ≡ Some o → v.done ≡ w.done → v.now ≡ Some (record o { body = o.body ++ code; values = values }) → instrs_in v ≡ instrs_in w ++ code
instrs_more w v o code values is done now =
    ap (λ (d : List Draft). flat_map (λ (d : Draft). d.body) d ++ body_now v.now) done
    ∙ ap (λ (n : Option Open). flat_map (λ (d : Draft). d.body) w.done ++ body_now n) now
    ∙ sym (append_assoc (flat_map (λ (d : Draft). d.body) w.done) o.body code)
    ∙ ap (λ (n : Option Open). (flat_map (λ (d : Draft). d.body) w.done ++ body_now n) ++ code) (sym is)

instrs_ends : (w v : Work) (o : Open) (code : List Instr) (last : Last) → w.now ≡ Some o → v.done ≡ w.done ++ record { phis = o.phis; body = o.body ++ code; last = last } ∷ [] → v.now ≡ None → instrs_in v ≡ instrs_in w ++ code
instrs_ends w v o code last is done none =
    let d : Draft = record { phis = o.phis; body = o.body ++ code; last = last } in
    ap (λ (ds : List Draft). flat_map (λ (d : Draft). d.body) ds ++ body_now v.now) done
    ∙ ap (λ (n : Option Open). flat_map (λ (d : Draft). d.body) (w.done ++ d ∷ []) ++ body_now n) none
    ∙ append-nil (flat_map (λ (d : Draft). d.body) (w.done ++ d ∷ []))
    ∙ flat_append (λ (d : Draft). d.body) w.done (d ∷ [])
    ∙ ap (λ (l : List Instr). flat_map (λ (d : Draft). d.body) w.done ++ l) (append-nil (o.body ++ code))
    ∙ sym (append_assoc (flat_map (λ (d : Draft). d.body) w.done) o.body code)
    ∙ ap (λ (n : Option Open). (flat_map (λ (d : Draft). d.body) w.done ++ body_now n) ++ code) (sym is)

instrs_begins : (x v : Work) (o : Open) → x.now ≡ None → v.done ≡ x.done → v.now ≡ Some o → o.body ≡ [] → instrs_in v ≡ instrs_in x
instrs_begins x v o none done now body =
    ap (λ (d : List Draft). flat_map (λ (d : Draft). d.body) d ++ body_now v.now) done
    ∙ ap (λ (n : Option Open). flat_map (λ (d : Draft). d.body) x.done ++ body_now n) now
    ∙ ap (λ (l : List Instr). flat_map (λ (d : Draft). d.body) x.done ++ l) body
    ∙ ap (λ (n : Option Open). flat_map (λ (d : Draft). d.body) x.done ++ body_now n) (sym none)

instrs_same : (w v : Work) → v.done ≡ w.done → v.now ≡ w.now → instrs_in v ≡ instrs_in w
instrs_same w v done now = ap (λ (d : List Draft). flat_map (λ (d : Draft). d.body) d ++ body_now v.now) done ∙ ap (λ (n : Option Open). flat_map (λ (d : Draft). d.body) w.done ++ body_now n) now

module _ (core : Core) (lates : ℕ → List Phi) where
  stand_more : (w v : Work) (code : List Instr) → instrs_in v ≡ instrs_in w ++ code → IsNextCode core w.next w.results v.next v.results code → InstrsStand core w → InstrsStand core v
  stand_more w v code e c s = record {
    more = s.more ++ code;
    starts = e ∙ ap (λ (l : List Instr). l ++ code) s.starts;
    good = all_append (IsGoodInstr core v.next v.results) s.more code (good_more core w.next v.next w.results v.results (omega (arith, c.after)) (omega (arith, c.measured)) s.more s.good) c.good;
  }

  stand_same : (w v : Work) → instrs_in v ≡ instrs_in w → w.next ≤ v.next → v.results ≡ w.results → InstrsStand core w → InstrsStand core v
  stand_same w v e le r s = record { more = s.more; starts = e ∙ s.starts; good = good_more core w.next v.next w.results v.results le (omega (arith, r)) s.more s.good }

  instr_steps : Steps core lates (InstrsStand core)
  instr_steps = record {
    more = λ w v o code values is done now c q s. stand_more w v code (instrs_more w v o code values is done now) c s;
    ends = λ w v o code last is done none c q t s. stand_more w v code (instrs_ends w v o code last is done none) c s;
    begins = λ x v o none done now body c n r s. stand_same x v (instrs_begins x v o none done now body) (omega (arith, n)) r s;
    same = λ w v done now n r s. stand_same w v (instrs_same w v done now) (omega (arith, n)) r s;
  }

instrs_settled : (labels : ℕ → ℕ) (lates : ℕ → List Phi) (k : ℕ) (ds : List Draft) → flat_map (λ (b : ModuleBlock). b.body) (settled_from labels lates k ds) ≡ flat_map (λ (d : Draft). d.body) ds
instrs_settled labels lates k [] = refl
instrs_settled labels lates k (d ∷ ds) = ap (λ (l : List Instr). d.body ++ l) (instrs_settled labels lates (suc k) ds)

-- the instructions of the module
pub record ModuleInstrs (core : Core) (next : ℕ) (m : Module) : Type 0 where
  pub more : List Instr
  pub starts : flat_map (λ (b : ModuleBlock). b.body) m.blocks ≡ initialize_call ∷ more
  pub good : AllByRecursion (IsGoodInstr core next m.results) more

pub module_instrs : WaysCarry → SameWhereNotDiffer → (core : Core) (coder : Coder) → IsLowerable core coder → ModuleInstrs core (whole_work core coder).next (lowered core coder)
module_instrs carry keeps core coder l =
    let z = whole_work core coder in
    let v = lower_of core coder (program_of core) (first_work (length core.cells)) in
    let s = walk_program carry keeps core coder l (InstrsStand core) (InstrsStand core) (instr_steps core (late_phis core coder)) (record { more = []; starts = refl; good = tt }) (λ v is s. s) (λ v o is c s. stand_more core (late_phis core coder) v (end_work core.outputs v o) (map (record_call o.values) core.outputs) (instrs_ends v (end_work core.outputs v o) o (map (record_call o.values) core.outputs) (Return (pos 0)) is refl refl) c s) in
    let none : z.now ≡ None = end_none core.outputs v v.now refl in
    record {
      more = s.more;
      starts = instrs_settled (λ k. get_or z.targets k 0) (λ k. get_or z.lates k []) 0 z.done ∙ sym (append-nil (flat_map (λ (d : Draft). d.body) z.done)) ∙ ap (λ (n : Option Open). flat_map (λ (d : Draft). d.body) z.done ++ body_now n) (sym none) ∙ s.starts;
      good = s.good;
    }

-- ---- lists of lists

pub all_left : {A : Type 0} (P : A → Type 0) (xs ys : List A) → AllByRecursion P (xs ++ ys) → AllByRecursion P xs × AllByRecursion P ys
all_left P [] ys all = (tt, all)
all_left P (x ∷ xs) ys all = let r = all_left P xs ys all.1 in ((all.0, r.0), r.1)

pub flat_split : {A B : Type 0} (P : B → Type 0) (f : A → List B) (xs : List A) → AllByRecursion P (flat_map f xs) → AllByRecursion (λ (x : A). AllByRecursion P (f x)) xs
flat_split P f [] all = tt
flat_split P f (x ∷ xs) all = let r = all_left P (f x) (flat_map f xs) all in (r.0, flat_split P f xs r.1)

true_left : {A : Type 0} (p : A → Bool) (xs ys : List A) → list_all p (xs ++ ys) ≡ true → (list_all p xs ≡ true) × (list_all p ys ≡ true)
true_left p [] ys e = (refl, e)
true_left p (x ∷ xs) ys e =
    let c = both_cases (p x) (list_all p (xs ++ ys)) e in
    let r = true_left p xs ys c.1 in
    (both (p x) (list_all p xs) c.0 r.0, r.1)

pub true_split : {A B : Type 0} (p : B → Bool) (f : A → List B) (xs : List A) → list_all p (flat_map f xs) ≡ true → AllByRecursion (λ (x : A). list_all p (f x) ≡ true) xs
true_split p f [] e = tt
true_split p f (x ∷ xs) e = let r = true_left p (f x) (flat_map f xs) e in (r.0, true_split p f xs r.1)

true_append : {A : Type 0} (p : A → Bool) (xs ys : List A) → list_all p xs ≡ true → list_all p ys ≡ true → list_all p (xs ++ ys) ≡ true
true_append p [] ys a b = b
true_append p (x ∷ xs) ys a b = let c = both_cases (p x) (list_all p xs) a in both (p x) (list_all p (xs ++ ys)) c.0 (true_append p xs ys c.1 b)

true_join : {A B : Type 0} (p : B → Bool) (f : A → List B) (xs : List A) → AllByRecursion (λ (x : A). list_all p (f x) ≡ true) xs → list_all p (flat_map f xs) ≡ true
true_join p f [] all = refl
true_join p f (x ∷ xs) all = true_append p (f x) (flat_map f xs) all.0 (true_join p f xs all.1)

all_each : {A : Type 0} (P Q : A → Type 0) (xs : List A) → ((x : A) → P x → Q x) → AllByRecursion P xs → AllByRecursion Q xs
all_each P Q [] f all = tt
all_each P Q (x ∷ xs) f all = (f x all.0, all_each P Q xs f all.1)

-- ---- numbers among numbers

among_append : (xs ys : List ℕ) (n : ℕ) → is_among xs n ≡ false → is_among ys n ≡ false → is_among (xs ++ ys) n ≡ false
among_append [] ys n a b = b
among_append (x ∷ xs) ys n a b = at (nat_eq n x) (is_among xs n) a (among_append xs ys n)
  where
    at : (p q : Bool) → (p || q) ≡ false → (q ≡ false → is_among ys n ≡ false → is_among (xs ++ ys) n ≡ false) → (p || is_among (xs ++ ys) n) ≡ false
    at true q e f = absurd (cc e)
    at false q e f = f e b

among_middle : (front : List ℕ) (x : ℕ) (xs : List ℕ) → is_among (front ++ x ∷ xs) x ≡ true
among_middle [] x xs = or_left (nat_eq x x) (is_among xs x) (eq-eqb x x refl)
among_middle (y ∷ front) x xs = or_right (nat_eq x y) (is_among (front ++ x ∷ xs) x) (among_middle front x xs)

self_among : (front xs : List ℕ) → list_all (is_among (front ++ xs)) xs ≡ true
self_among front [] = refl
self_among front (x ∷ xs) =
    both (is_among (front ++ x ∷ xs) x) (list_all (is_among (front ++ x ∷ xs)) xs) (among_middle front x xs)
    (subst (λ (l : List ℕ). list_all (is_among l) xs ≡ true) (append_assoc front (x ∷ []) xs) (self_among (front ++ x ∷ []) xs))

-- ---- numbers that count

counts_left : (n : ℕ) (xs ys : List ℕ) → CountsFrom n (xs ++ ys) → CountsFrom n xs
counts_left n [] ys c = tt
counts_left n (x ∷ xs) ys c = (c.0, counts_left (suc n) xs ys c.1)

counts_right : (n : ℕ) (xs ys : List ℕ) → CountsFrom n (xs ++ ys) → CountsFrom (n + length xs) ys
counts_right n [] ys c = let z : n ≡ n + 0 = omega arith in subst (λ (k : ℕ). CountsFrom k ys) z c
counts_right n (x ∷ xs) ys c = let z : suc n + length xs ≡ n + suc (length xs) = omega arith in subst (λ (k : ℕ). CountsFrom k ys) z (counts_right (suc n) xs ys c.1)

-- none that is past them is among them
counts_past : (n : ℕ) (xs : List ℕ) (r : ℕ) → CountsFrom n xs → n + length xs ≤ r → is_among xs r ≡ false
counts_past n [] r c le = refl
counts_past n (x ∷ xs) r c le = ap (λ (b : Bool). b || is_among xs r) (ne_eqb r x (λ e. absurd (omega (arith, e, c.0, le)))) ∙ counts_past (suc n) xs r c.1 (omega (arith, le))

counts_apart : (others : List ℕ) (n : ℕ) (xs : List ℕ) → CountsFrom n xs → ((r : ℕ) → n ≤ r → is_among others r ≡ false) → list_all (λ r. not (is_among others r)) xs ≡ true
counts_apart others n [] c h = refl
counts_apart others n (x ∷ xs) c h =
    both (not (is_among others x)) (list_all (λ r. not (is_among others r)) xs) (ap not (h x (omega (arith, c.0)))) (counts_apart others (suc n) xs c.1 (λ r le. h r (omega (arith, le))))

-- ---- the functions of the table that are called

filter_below : (p : ℕ → Bool) (k n j : ℕ) → j < k → is_among (filter p (counted k n)) j ≡ false
filter_below p k zero j lt = refl
filter_below p k (suc n) j lt = at (p k) (filter_below p (suc k) n j (omega (arith, lt)))
  where
    at : (b : Bool) → is_among (filter p (counted (suc k) n)) j ≡ false → is_among (if b then k ∷ filter p (counted (suc k) n) else filter p (counted (suc k) n)) j ≡ false
    at true e = ap (λ (c : Bool). c || is_among (filter p (counted (suc k) n)) j) (ne_eqb j k (λ h. absurd (omega (arith, h, lt)))) ∙ e
    at false e = e

filter_apart : (p : ℕ → Bool) (k n : ℕ) → are_distinct (filter p (counted k n)) ≡ true
filter_apart p k zero = refl
filter_apart p k (suc n) = at (p k) (filter_apart p (suc k) n)
  where
    at : (b : Bool) → are_distinct (filter p (counted (suc k) n)) ≡ true → are_distinct (if b then k ∷ filter p (counted (suc k) n) else filter p (counted (suc k) n)) ≡ true
    at true e = both (not (is_among (filter p (counted (suc k) n)) k)) (are_distinct (filter p (counted (suc k) n))) (ap not (filter_below p (suc k) n k (omega arith))) e
    at false e = e

pub filter_keeps : (p : ℕ → Bool) (k n f : ℕ) → k ≤ f → f < k + n → p f ≡ true → is_among (filter p (counted k n)) f ≡ true
filter_keeps p k zero f le lt e = absurd (omega (arith, le, lt))
filter_keeps p k (suc n) f le lt e = at (nat_eq f k) refl (p k) refl (λ above. filter_keeps p (suc k) n f above (omega (arith, lt)) e)
  where
    later : nat_eq f k ≡ false → suc k ≤ f
    later ne = omega (arith, le, apart)
      where
        apart : f ≢ k
        apart h = cc (ne, eq-eqb f k h)

    at : (here : Bool) → nat_eq f k ≡ here → (b : Bool) → p k ≡ b → (suc k ≤ f → is_among (filter p (counted (suc k) n)) f ≡ true) → is_among (if b then k ∷ filter p (counted (suc k) n) else filter p (counted (suc k) n)) f ≡ true
    at true h true pk next = or_left (nat_eq f k) (is_among (filter p (counted (suc k) n)) f) h
    at true h false pk next = absurd (cc (e, ap p (eqb-true f k h) ∙ pk))
    at false h true pk next = or_right (nat_eq f k) (is_among (filter p (counted (suc k) n)) f) (next (later h))
    at false h false pk next = next (later h)

filter_all : (p : ℕ → Bool) (n : ℕ) (fs : List ℕ) → list_all p fs ≡ true → list_all (λ f. nat_lt f n) fs ≡ true → list_all (is_among (filter p (counted 0 n))) fs ≡ true
filter_all p n [] a b = refl
filter_all p n (f ∷ fs) a b =
    let c = both_cases (p f) (list_all p fs) a in
    let d = both_cases (nat_lt f n) (list_all (λ f. nat_lt f n) fs) b in
    both (is_among (filter p (counted 0 n)) f) (list_all (is_among (filter p (counted 0 n))) fs) (filter_keeps p 0 n f (omega arith) (omega (arith, ltb-true f n d.0)) c.0) (filter_all p n fs c.1 d.1)

-- ---- registers

registers_phis : (phis : List Phi) → flat_map item_registers (map ThePhi phis) ≡ map (λ (p : Phi). p.register) phis
registers_phis [] = refl
registers_phis (p ∷ phis) = ap (λ (l : List ℕ). p.register ∷ l) (registers_phis phis)

registers_body : (body : List Instr) → flat_map item_registers (map TheInstr body) ≡ flat_map registers_of body
registers_body [] = refl
registers_body (i ∷ body) = ap (λ (l : List ℕ). registers_of i ++ l) (registers_body body)

block_same : (b : ModuleBlock) → block_assigned b ≡ block_registers b
block_same b =
    flat_append item_registers (map ThePhi b.phis ++ map TheInstr b.body) (TheLast b.last ∷ [])
    ∙ append-nil (flat_map item_registers (map ThePhi b.phis ++ map TheInstr b.body))
    ∙ flat_append item_registers (map ThePhi b.phis) (map TheInstr b.body)
    ∙ ap (λ (l : List ℕ). l ++ flat_map item_registers (map TheInstr b.body)) (registers_phis b.phis)
    ∙ ap (λ (l : List ℕ). map (λ (p : Phi). p.register) b.phis ++ l) (registers_body b.body)

pub blocks_same : (blocks : List ModuleBlock) → flat_map block_registers blocks ≡ flat_map block_assigned blocks
blocks_same [] = refl
blocks_same (b ∷ blocks) = ap (λ (l : List ℕ). l ++ flat_map block_registers blocks) (sym (block_same b)) ∙ ap (λ (l : List ℕ). block_assigned b ++ l) (blocks_same blocks)

-- the k-th block has registers from n on, and earlier ones have others
record AssignedAt (j : ℕ) (blocks : List ModuleBlock) (k : ℕ) (b : ModuleBlock) : Type 0 where
  n : ℕ
  from : j ≤ n
  own : CountsFrom n (block_assigned b)
  earlier : (r : ℕ) → n ≤ r → is_among (flat_map block_assigned (take k blocks)) r ≡ false

assigned_at : (j : ℕ) (blocks : List ModuleBlock) (k : ℕ) (b : ModuleBlock) → CountsFrom j (flat_map block_assigned blocks) → slice_get blocks k ≡ Some b → AssignedAt j blocks k b
assigned_at j [] k b c e = absurd (cc e)
assigned_at j (x ∷ blocks) zero b c e =
    let same : x ≡ b = cc e in
    record { n = j; from = omega arith; own = subst (λ (y : ModuleBlock). CountsFrom j (block_assigned y)) same (counts_left j (block_assigned x) (flat_map block_assigned blocks) c); earlier = λ r le. refl }
assigned_at j (x ∷ blocks) (suc k) b c e =
    let r = assigned_at (j + length (block_assigned x)) blocks k b (counts_right j (block_assigned x) (flat_map block_assigned blocks) c) e in
    record {
      n = r.n;
      from = omega (arith, r.from);
      own = r.own;
      earlier = λ q le. among_append (block_assigned x) (flat_map block_assigned (take k blocks)) q (counts_past j (block_assigned x) q (counts_left j (block_assigned x) (flat_map block_assigned blocks) c) (omega (arith, r.from, le))) (r.earlier q le);
    }

names_before : (j : ℕ) (blocks : List ModuleBlock) (k n : ℕ) → CountsFrom j (names_of blocks) → j + k ≤ n → is_among (block_names (take k blocks)) n ≡ false
names_before j blocks zero n c le = refl
names_before j [] (suc k) n c le = refl
names_before j (b ∷ blocks) (suc k) n c le = ap (λ (x : Bool). x || is_among (block_names (take k blocks)) n) (ne_eqb n b.name (λ e. absurd (omega (arith, e, c.0, le)))) ∙ names_before (suc j) blocks k n c.1 (omega (arith, le))

-- ---- the rules

pub first_true : (s : Spot) (wanted : Bool) → wanted ≡ true → at_first_item s wanted ≡ true
first_true s wanted e = at (nat_eq s.block 0 && nat_eq s.item 0)
  where
    at : (b : Bool) → (if b then wanted else true) ≡ true
    at true = e
    at false = refl

pub start_true : (s : Spot) (wanted : Bool) → wanted ≡ true → at_block_start s wanted ≡ true
start_true s wanted e = at (nat_eq s.item 0)
  where
    at : (b : Bool) → (if b then wanted else true) ≡ true
    at true = e
    at false = refl

module _ (core : Core) (next : ℕ) (m : Module) (instrs : ModuleInstrs core next m) where
  bodies_keep : (f : Instr → Bool) → f initialize_call ≡ true → ((i : Instr) → IsGoodInstr core next m.results i → f i ≡ true) → AllByRecursion (λ (b : ModuleBlock). AllByRecursion (λ (i : Instr). f i ≡ true) b.body) m.blocks
  bodies_keep f first h =
      flat_split (λ (i : Instr). f i ≡ true) (λ (b : ModuleBlock). b.body) m.blocks
      (subst (AllByRecursion (λ (i : Instr). f i ≡ true)) (sym instrs.starts) (first, all_each (IsGoodInstr core next m.results) (λ (i : Instr). f i ≡ true) instrs.more h instrs.good))

  pub item_rule : (demand : Demand) (f : Item → Bool) → ((s : Spot) → demand m s ≡ f s.here) → ((p : Phi) → f (ThePhi p) ≡ true) → ((l : Last) → f (TheLast l) ≡ true) → f (TheInstr initialize_call) ≡ true → ((i : Instr) → IsGoodInstr core next m.results i → f (TheInstr i) ≡ true) → IsKept m demand
  item_rule demand f same phis lasts first h = kept_by_instrs m demand f same phis lasts (bodies_keep (λ (i : Instr). f (TheInstr i)) first h)

  -- every called function is declared
  functions_keep : declared m ≡ filter (is_among (called_functions m.blocks)) (counted 0 37) → AllByRecursion (λ (b : ModuleBlock). AllByRecursion (λ (i : Instr). list_all (is_among (declared m)) (functions_of i) ≡ true) b.body) m.blocks
  functions_keep e =
      let called = called_functions m.blocks in
      let small = bodies_keep (λ (i : Instr). list_all (λ f. nat_lt f 37) (functions_of i)) refl (λ i g. g.function) in
      let small_all : list_all (λ f. nat_lt f 37) called ≡ true = true_join (λ f. nat_lt f 37) (λ (b : ModuleBlock). flat_map functions_of b.body) m.blocks (all_each (λ (b : ModuleBlock). AllByRecursion (λ (i : Instr). list_all (λ f. nat_lt f 37) (functions_of i) ≡ true) b.body) (λ (b : ModuleBlock). list_all (λ f. nat_lt f 37) (flat_map functions_of b.body) ≡ true) m.blocks (λ b h. true_join (λ f. nat_lt f 37) functions_of b.body h) small) in
      let all : list_all (is_among (declared m)) called ≡ true = ap (λ (l : List ℕ). list_all (is_among l) called) e ∙ filter_all (is_among called) 37 called (self_among [] called) small_all in
      all_each (λ (b : ModuleBlock). list_all (is_among (declared m)) (flat_map functions_of b.body) ≡ true) (λ (b : ModuleBlock). AllByRecursion (λ (i : Instr). list_all (is_among (declared m)) (functions_of i) ≡ true) b.body) m.blocks (λ b h. true_split (is_among (declared m)) functions_of b.body h) (true_split (is_among (declared m)) (λ (b : ModuleBlock). flat_map functions_of b.body) m.blocks all)

  pub declarations_rule : IsNumbered m → IsKept m declarations_kept
  declarations_rule n =
      let f : Item → Bool = λ item. list_all (is_among (declared m)) (item_functions item) in
      kept_by_instrs m declarations_kept f (λ s. ap (λ (b : Bool). b && f s.here) (first_true s (are_distinct (declared m)) (ap are_distinct n.declarations ∙ filter_apart (is_among (called_functions m.blocks)) 0 37))) (λ p. refl) (λ l. refl) (functions_keep n.declarations)

  pub labels_rule : IsNumbered m → IsKept m labels_kept
  labels_rule n = each_spot (λ (s : Spot). labels_kept m s ≡ true) m (λ k b is front item rest e.
      let name : b.name ≡ 0 + k = block_name 0 m.blocks k b n.names is in
      start_true (spot_at k b front item) (not (is_among (block_names (take k m.blocks)) b.name)) (ap not (names_before 0 m.blocks k b.name n.names (omega (arith, name)))))

  pub assigned_rule : IsNumbered m → IsKept m assigned_once_kept
  assigned_rule n = each_spot (λ (s : Spot). assigned_once_kept m s ≡ true) m (λ k b is front item rest e.
      let a = assigned_at 0 m.blocks k b (subst (CountsFrom 0) (blocks_same m.blocks) n.registers) is in
      let parts : block_assigned b ≡ registers_assigned front ++ (item_registers item ++ registers_assigned rest) = ap registers_assigned e ∙ flat_append item_registers front (item ∷ rest) in
      let own : CountsFrom a.n (registers_assigned front ++ (item_registers item ++ registers_assigned rest)) = subst (CountsFrom a.n) parts a.own in
      let here = counts_left (a.n + length (registers_assigned front)) (item_registers item) (registers_assigned rest) (counts_right a.n (registers_assigned front) (item_registers item ++ registers_assigned rest) own) in
      counts_apart (flat_map block_assigned (take k m.blocks) ++ registers_assigned front) (a.n + length (registers_assigned front)) (item_registers item) here (λ r le. among_append (flat_map block_assigned (take k m.blocks)) (registers_assigned front) r (a.earlier r (omega (arith, le))) (counts_past a.n (registers_assigned front) r (counts_left a.n (registers_assigned front) (item_registers item ++ registers_assigned rest) own) le)))

  -- ---- the first instruction

  -- the first block begins with it, and it stands nowhere else
  pub record BeginsOnce : Type 0 where
    pub first : ModuleBlock
    pub others : List ModuleBlock
    pub rest : List Instr
    pub are : m.blocks ≡ first ∷ others
    pub phis : first.phis ≡ []
    pub body : first.body ≡ initialize_call ∷ rest
    pub rest_later : AllByRecursion (λ (i : Instr). initializes (TheInstr i) ≡ false) rest
    pub others_later : AllByRecursion (λ (b : ModuleBlock). AllByRecursion (λ (i : Instr). initializes (TheInstr i) ≡ false) b.body) others

  pub begins_once : (target : ModuleBlock) (rest : List Instr) (blocks : List ModuleBlock) → m.blocks ≡ blocks → slice_get blocks 0 ≡ Some target → target.phis ≡ [] → target.body ≡ initialize_call ∷ rest → BeginsOnce
  begins_once target rest [] are found phis body = absurd (cc found)
  begins_once target rest (b ∷ blocks) are found phis body =
      let same : b ≡ target = cc found in
      let parts : initialize_call ∷ (rest ++ flat_map (λ (b : ModuleBlock). b.body) blocks) ≡ initialize_call ∷ instrs.more = ap (λ (l : List Instr). l ++ flat_map (λ (b : ModuleBlock). b.body) blocks) (sym body ∙ ap (λ (x : ModuleBlock). x.body) (sym same)) ∙ ap (flat_map (λ (b : ModuleBlock). b.body)) (sym are) ∙ instrs.starts in
      let tails : instrs.more ≡ rest ++ flat_map (λ (b : ModuleBlock). b.body) blocks = sym (tail_same (rest ++ flat_map (λ (b : ModuleBlock). b.body) blocks) instrs.more parts) in
      let later : AllByRecursion (λ (i : Instr). initializes (TheInstr i) ≡ false) (rest ++ flat_map (λ (b : ModuleBlock). b.body) blocks) = subst (AllByRecursion (λ (i : Instr). initializes (TheInstr i) ≡ false)) tails (all_each (IsGoodInstr core next m.results) (λ (i : Instr). initializes (TheInstr i) ≡ false) instrs.more (λ i g. g.later) instrs.good) in
      let two = all_left (λ (i : Instr). initializes (TheInstr i) ≡ false) rest (flat_map (λ (b : ModuleBlock). b.body) blocks) later in
      record {
        first = target;
        others = blocks;
        rest = rest;
        are = are ∙ ap (λ (x : ModuleBlock). x ∷ blocks) same;
        phis = phis;
        body = body;
        rest_later = two.0;
        others_later = flat_split (λ (i : Instr). initializes (TheInstr i) ≡ false) (λ (b : ModuleBlock). b.body) blocks two.1;
      }
    where
      tail_same : (xs ys : List Instr) → initialize_call ∷ xs ≡ initialize_call ∷ ys → xs ≡ ys
      tail_same xs ys e = cc e

  later_items : (phis : List Phi) (body : List Instr) (last : Last) → AllByRecursion (λ (i : Instr). initializes (TheInstr i) ≡ false) body → AllByRecursion (λ (x : Item). initializes x ≡ false) (map ThePhi phis ++ map TheInstr body ++ TheLast last ∷ [])
  later_items phis body last all = all_items (λ (x : Item). initializes x ≡ false) (record { name = 0; phis = phis; body = body; last = last }) (record { phis = all_true (λ (p : Phi). initializes (ThePhi p) ≡ false) phis (λ p. refl); body = all; last = refl })

  later_kept : (s : Spot) → (nat_eq s.block 0 && nat_eq s.item 0) ≡ false → initializes s.here ≡ false → initialize_kept m s ≡ true
  later_kept s e h = ap (λ (b : Bool). if b then initializes s.here && is_only_zero (item_ids is_null s.here) else not (initializes s.here)) e ∙ ap not h

  not_zero : (n : ℕ) → nat_eq (suc n) 0 ≡ false
  not_zero n = ne_eqb (suc n) 0 (λ e. absurd (omega (arith, e)))

  pub initialize_rule : BeginsOnce → IsKept m initialize_kept
  initialize_rule g = each_spot (λ (s : Spot). initialize_kept m s ≡ true) m (λ k b is front item rest e. at k b (subst (λ (blocks : List ModuleBlock). slice_get blocks k ≡ Some b) g.are is) front item rest e)
    where
      at : (k : ℕ) (b : ModuleBlock) → slice_get (g.first ∷ g.others) k ≡ Some b → (front : List Item) (item : Item) (rest : List Item) → items_in b ≡ front ++ item ∷ rest → initialize_kept m (spot_at k b front item) ≡ true
      at zero b is front item rest e = here front (sym items ∙ ap items_in (same) ∙ e)
        where
          same : g.first ≡ b
          same = cc is

          tail : List Item
          tail = map TheInstr g.rest ++ TheLast g.first.last ∷ []

          items : items_in g.first ≡ TheInstr initialize_call ∷ tail
          items = ap (λ (ps : List Phi). map ThePhi ps ++ map TheInstr g.first.body ++ TheLast g.first.last ∷ []) g.phis ∙ ap (λ (is : List Instr). map TheInstr is ++ TheLast g.first.last ∷ []) g.body

          later : AllByRecursion (λ (x : Item). initializes x ≡ false) tail
          later = later_items [] g.rest g.first.last g.rest_later

          here : (front : List Item) → TheInstr initialize_call ∷ tail ≡ front ++ item ∷ rest → initialize_kept m (spot_at 0 b front item) ≡ true
          here [] e = let first : TheInstr initialize_call ≡ item = cc e in subst (λ (x : Item). (initializes x && is_only_zero (item_ids is_null x)) ≡ true) first refl
          here (y ∷ front) e = let rest_is : tail ≡ front ++ item ∷ rest = cc e in later_kept (spot_at 0 b (y ∷ front) item) (not_zero (length front)) (all_middle (λ (x : Item). initializes x ≡ false) front item rest (subst (AllByRecursion (λ (x : Item). initializes x ≡ false)) rest_is later))
      at (suc k) b is front item rest e = later_kept (spot_at (suc k) b front item) (ap (λ (x : Bool). x && nat_eq (length front) 0) (not_zero k)) (all_middle (λ (x : Item). initializes x ≡ false) front item rest (subst (AllByRecursion (λ (x : Item). initializes x ≡ false)) e (later_items b.phis b.body b.last (all_get (λ (b : ModuleBlock). AllByRecursion (λ (i : Instr). initializes (TheInstr i) ≡ false) b.body) g.others k b g.others_later is))))
