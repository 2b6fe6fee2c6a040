-- Which drafts name a label, and where labels are settled.
use Rattle.std.proofs.Common.{◌≡◌, ◌≢◌, ℕ, zero, suc, ◌<◌, ◌≤◌, ◌⊎◌, inl, inr, ⊎_elim, Bool, true, false, ◌||◌, List, [], ◌∷◌, ◌++◌, length, Option, Some, None, refl, sym, ap, ◌∙◌, subst, arith, length-append, nat_eq, eq-eqb, eqb-true, ne_eqb}
use Rattle.std.specs.Prelude.{slice_get, if◌then◌else◌}
use Rattle.std.proofs.lemmas.Bool.{cases_lt}
use Rattle.qir_module.specs.declared.instruction.Last.TheVariants.{Jump}
use Rattle.qir_module.specs.Carried.{targets_of}
use Rattle.qir_module.specs.Numbered.{is_among}
use Rattle.phi_place.specs.State.{CellState}
use Rattle.block_graph.specs.Work.{Draft, Level}
use Rattle.block_graph.specs.Lowering.{add_way, label_at}
use Rattle.block_graph.proofs.Flow.{or_left, or_cases}

abbrev pub IsIn : ℕ → List ℕ → Type 0
IsIn x [] = ⊥
IsIn x (y ∷ ys) = (x ≡ y) ⊎ IsIn x ys

abbrev pub once : Bool → ℕ
once true = 1
once false = 0

-- the k-th draft names the label
abbrev pub jumps_in : Option Draft → ℕ → Bool
jumps_in None l = false
jumps_in (Some d) l = is_among (targets_of d.last) l

abbrev pub named : ℕ → List Draft → ℕ → Bool
named l done k = jumps_in (slice_get done k) l

abbrev pub times : ℕ → List CellState → ℕ
times k [] = 0
times k (w ∷ ws) = if nat_eq k w.block then suc (times k ws) else times k ws

pub eq_self : (k : ℕ) → nat_eq k k ≡ true
eq_self k = eq-eqb k k refl

pub eq_or : (a b : ℕ) → (a ≡ b) ⊎ (a ≢ b)
eq_or a b = at (nat_eq a b) refl
  where
    at : (n : Bool) → nat_eq a b ≡ n → (a ≡ b) ⊎ (a ≢ b)
    at true e = inl (eqb-true a b e)
    at false e = inr (λ h. cc (e, eq-eqb a b h))

-- ---- drafts

pub named_past : (l : ℕ) (done : List Draft) (k : ℕ) → length done ≤ k → named l done k ≡ false
named_past l [] k le = refl
named_past l (d ∷ done) zero le = absurd (omega (arith, le))
named_past l (d ∷ done) (suc k) le = named_past l done k (omega (arith, le))

pub named_left : (l : ℕ) (done more : List Draft) (k : ℕ) → k < length done → named l (done ++ more) k ≡ named l done k
named_left l [] more k lt = absurd (omega (arith, lt))
named_left l (d ∷ done) more zero lt = refl
named_left l (d ∷ done) more (suc k) lt = named_left l done more k (omega (arith, lt))

pub named_end : (l : ℕ) (done : List Draft) (d : Draft) → named l (done ++ d ∷ []) (length done) ≡ is_among (targets_of d.last) l
named_end l [] d = refl
named_end l (x ∷ done) d = named_end l done d

pub named_within : (l : ℕ) (done : List Draft) (k : ℕ) → named l done k ≡ true → k < length done
named_within l [] k e = absurd (cc e)
named_within l (d ∷ done) zero e = omega arith
named_within l (d ∷ done) (suc k) e = let r = named_within l done k e in omega (arith, r)

-- a draft more
pub named_push : (l : ℕ) (done : List Draft) (d : Draft) (k : ℕ) → named l (done ++ d ∷ []) k ≡ true → (named l done k ≡ true) ⊎ ((k ≡ length done) × (is_among (targets_of d.last) l ≡ true))
named_push l [] d zero e = inr (refl, e)
named_push l [] d (suc k) e = absurd (cc e)
named_push l (x ∷ done) d zero e = inl e
named_push l (x ∷ done) d (suc k) e = ⊎_elim (λ h. inl h) (λ h. inr (ap suc h.0, h.1)) (named_push l done d k e)

pub named_kept : (l : ℕ) (done : List Draft) (d : Draft) (k : ℕ) → is_among (targets_of d.last) l ≡ false → named l (done ++ d ∷ []) k ≡ named l done k
named_kept l [] d zero e = e
named_kept l [] d (suc k) e = refl
named_kept l (x ∷ done) d zero e = refl
named_kept l (x ∷ done) d (suc k) e = named_kept l done d k e

-- ---- the ways to a label are the drafts that name it

-- the last way counts as a first one does
times_last : (k : ℕ) (ws : List CellState) (way : CellState) → times k (ws ++ way ∷ []) ≡ times k (way ∷ ws)
times_last k [] way = refl
times_last k (w ∷ ws) way = at (nat_eq k w.block) (nat_eq k way.block) (times_last k ws way)
  where
    at : (a b : Bool) → times k (ws ++ way ∷ []) ≡ (if b then suc (times k ws) else times k ws) → (if a then suc (times k (ws ++ way ∷ [])) else times k (ws ++ way ∷ [])) ≡ (if b then suc (if a then suc (times k ws) else times k ws) else (if a then suc (times k ws) else times k ws))
    at true true e = ap suc e
    at true false e = ap suc e
    at false true e = e
    at false false e = e

pub record Exact (l : ℕ) (ws : List CellState) (done : List Draft) : Type 0 where
  pub by : (k : ℕ) → times k ws ≡ once (named l done k)

pub exact_kept : (l : ℕ) (ws : List CellState) (done : List Draft) (d : Draft) → is_among (targets_of d.last) l ≡ false → Exact l ws done → Exact l ws (done ++ d ∷ [])
exact_kept l ws done d e x = record { by = λ k. x.by k ∙ ap once (sym (named_kept l done d k e)) }

pub exact_more : (l : ℕ) (ws : List CellState) (done : List Draft) (d : Draft) (way : CellState) → is_among (targets_of d.last) l ≡ true → way.block ≡ length done → Exact l ws done → Exact l (ws ++ way ∷ []) (done ++ d ∷ [])
exact_more l ws done d way e f x = record { by = λ k. times_last k ws way ∙ at k (eq_or k way.block) }
  where
    at : (k : ℕ) → (k ≡ way.block) ⊎ (k ≢ way.block) → times k (way ∷ ws) ≡ once (named l (done ++ d ∷ []) k)
    at k (inl h) =
        let k_is : k ≡ length done = h ∙ f in
        ap (λ (b : Bool). if b then suc (times k ws) else times k ws) (eq-eqb k way.block h) ∙ ap suc (x.by k ∙ ap once (named_past l done k (omega (arith, k_is)))) ∙ ap once (sym (ap (named l (done ++ d ∷ [])) k_is ∙ named_end l done d ∙ e))
    at k (inr ne) = ap (λ (b : Bool). if b then suc (times k ws) else times k ws) (ne_eqb k way.block ne) ∙ x.by k ∙ ap once (old k ne (cases_lt k (length done)))
      where
        old : (k : ℕ) → k ≢ way.block → (k < length done) ⊎ (length done ≤ k) → named l done k ≡ named l (done ++ d ∷ []) k
        old k ne (inl lt) = sym (named_left l done (d ∷ []) k lt)
        old k ne (inr le) =
            let long = length-append done (d ∷ []) in
            named_past l done k le ∙ sym (named_past l (done ++ d ∷ []) k (omega (arith, long, le, apart k ne)))
          where
            apart : (k : ℕ) → k ≢ way.block → k ≢ length done
            apart k ne h = ne (h ∙ sym f)

-- ---- levels

abbrev pub labels_of : List Level → List ℕ
labels_of [] = []
labels_of (l ∷ ls) = l.label ∷ labels_of ls

abbrev pub NoTwice : List ℕ → Type 0
NoTwice [] = Unit {0}
NoTwice (x ∷ xs) = (IsIn x xs → ⊥) × NoTwice xs

abbrev pub EachExact : List Level → List Draft → Type 0
EachExact [] done = Unit {0}
EachExact (l ∷ ls) done = Exact l.label l.ways done × EachExact ls done

abbrev pub EachBelow : ℕ → List ℕ → Type 0
EachBelow n [] = Unit {0}
EachBelow n (x ∷ xs) = (x < n) × EachBelow n xs

pub below_in : (n : ℕ) (xs : List ℕ) (x : ℕ) → EachBelow n xs → IsIn x xs → x < n
below_in n [] x b i = absurd i
below_in n (y ∷ xs) x b i = ⊎_elim (λ e. omega (arith, e, b.0)) (λ j. below_in n xs x b.1 j) i

pub below_more : (n m : ℕ) (xs : List ℕ) → n ≤ m → EachBelow n xs → EachBelow m xs
below_more n m [] le b = tt
below_more n m (x ∷ xs) le b = (omega (arith, le, b.0), below_more n m xs le b.1)

pub label_in : (ls : List Level) (k : ℕ) → k < length ls → IsIn (label_at ls k) (labels_of ls)
label_in [] k lt = absurd (omega (arith, lt))
label_in (l ∷ ls) zero lt = inl refl
label_in (l ∷ ls) (suc k) lt = inr (label_in ls k (omega (arith, lt)))

pub add_labels : (ls : List Level) (k : ℕ) (way : CellState) → labels_of (add_way ls k way) ≡ labels_of ls
add_labels [] k way = refl
add_labels (l ∷ ls) zero way = refl
add_labels (l ∷ ls) (suc k) way = ap (λ x. l.label ∷ x) (add_labels ls k way)

-- a jump to one label is none to another
pub one_target : (a b : ℕ) → a ≢ b → is_among (a ∷ []) b ≡ false
one_target a b ne = ap (λ (x : Bool). x || false) (ne_eqb b a (λ h. ne (sym h)))

pub one_target_is : (a : ℕ) → is_among (a ∷ []) a ≡ true
one_target_is a = or_left (nat_eq a a) false (eq_self a)

pub one_target_eq : (a b : ℕ) → is_among (a ∷ []) b ≡ true → b ≡ a
one_target_eq a b e = eqb-true b a (⊎_elim (λ h. h) (λ h. absurd (cc h)) (or_cases (nat_eq b a) false e))

pub each_kept : (ls : List Level) (done : List Draft) (d : Draft) (label : ℕ) → d.last ≡ Jump label → (IsIn label (labels_of ls) → ⊥) → EachExact ls done → EachExact ls (done ++ d ∷ [])
each_kept [] done d label e none x = tt
each_kept (l ∷ ls) done d label e none x = (exact_kept l.label l.ways done d (ap (λ t. is_among (targets_of t) l.label) e ∙ one_target label l.label (λ h. none (inl h))) x.0, each_kept ls done d label e (λ i. none (inr i)) x.1)

pub each_added : (ls : List Level) (done : List Draft) (d : Draft) (k : ℕ) (way : CellState) → d.last ≡ Jump (label_at ls k) → way.block ≡ length done → k < length ls → NoTwice (labels_of ls) → EachExact ls done → EachExact (add_way ls k way) (done ++ d ∷ [])
each_added [] done d k way e f lt none x = absurd (omega (arith, lt))
each_added (l ∷ ls) done d zero way e f lt none x = (exact_more l.label l.ways done d way (ap (λ t. is_among (targets_of t) l.label) e ∙ one_target_is l.label) f x.0, each_kept ls done d l.label e none.0 x.1)
each_added (l ∷ ls) done d (suc k) way e f lt none x = (exact_kept l.label l.ways done d (ap (λ t. is_among (targets_of t) l.label) e ∙ one_target (label_at ls k) l.label (λ h. none.0 (subst (λ y. IsIn y (labels_of ls)) h (label_in ls k (omega (arith, lt)))))) x.0, each_added ls done d k way e f (omega (arith, lt)) none.1 x.1)

-- where none of the labels is named
pub each_unnamed : (ls : List Level) (done : List Draft) (d : Draft) → ((l : ℕ) → IsIn l (labels_of ls) → is_among (targets_of d.last) l ≡ false) → EachExact ls done → EachExact ls (done ++ d ∷ [])
each_unnamed [] done d none x = tt
each_unnamed (l ∷ ls) done d none x = (exact_kept l.label l.ways done d (none l.label (inl refl)) x.0, each_unnamed ls done d (λ y i. none y (inr i)) x.1)

-- the labels that are open, and the drafts that name them
pub record Pending (done : List Draft) (count : ℕ) (ends starts : List Level) : Type 0 where
  pub ends_once : NoTwice (labels_of ends)
  pub starts_once : NoTwice (labels_of starts)
  pub apart : (l : ℕ) → IsIn l (labels_of ends) → IsIn l (labels_of starts) → ⊥
  pub ends_below : EachBelow count (labels_of ends)
  pub starts_below : EachBelow count (labels_of starts)
  pub ends_exact : EachExact ends done
  pub starts_exact : EachExact starts done
  pub fresh : (l k : ℕ) → count ≤ l → named l done k ≡ false

-- a jump to a label that is no level's
pub pending_push : (done : List Draft) (count : ℕ) (ends starts : List Level) (d : Draft) → ((l : ℕ) → is_among (targets_of d.last) l ≡ true → (l < count) × (IsIn l (labels_of ends) → ⊥) × (IsIn l (labels_of starts) → ⊥)) → Pending done count ends starts → Pending (done ++ d ∷ []) count ends starts
pending_push done count ends starts d none p = record {
  ends_once = p.ends_once;
  starts_once = p.starts_once;
  apart = p.apart;
  ends_below = p.ends_below;
  starts_below = p.starts_below;
  ends_exact = each_unnamed ends done d (λ l i. not_named l (λ h. h.1 i)) p.ends_exact;
  starts_exact = each_unnamed starts done d (λ l i. not_named l (λ h. h.2 i)) p.starts_exact;
  fresh = λ l k le. named_kept l done d k (not_named l (λ h. absurd (omega (arith, h.0, le)))) ∙ p.fresh l k le;
}
  where
    not_named : (l : ℕ) → ((l < count) × (IsIn l (labels_of ends) → ⊥) × (IsIn l (labels_of starts) → ⊥) → ⊥) → is_among (targets_of d.last) l ≡ false
    not_named l f = at (is_among (targets_of d.last) l) refl
      where
        at : (b : Bool) → is_among (targets_of d.last) l ≡ b → is_among (targets_of d.last) l ≡ false
        at true e = absurd (f (none l e))
        at false e = e

-- more labels
pub pending_more : (done : List Draft) (count more : ℕ) (ends starts : List Level) → count ≤ more → Pending done count ends starts → Pending done more ends starts
pending_more done count more ends starts le p = record {
  ends_once = p.ends_once;
  starts_once = p.starts_once;
  apart = p.apart;
  ends_below = below_more count more (labels_of ends) le p.ends_below;
  starts_below = below_more count more (labels_of starts) le p.starts_below;
  ends_exact = p.ends_exact;
  starts_exact = p.starts_exact;
  fresh = λ l k lt. p.fresh l k (omega (arith, lt, le));
}

pub pending_leave : (done : List Draft) (count : ℕ) (ends starts : List Level) (d : Draft) (k : ℕ) (way : CellState) → d.last ≡ Jump (label_at ends k) → way.block ≡ length done → k < length ends → Pending done count ends starts → Pending (done ++ d ∷ []) count (add_way ends k way) starts
pending_leave done count ends starts d k way e f lt p =
    let same = add_labels ends k way in
    let at = label_in ends k lt in
    record {
      ends_once = subst NoTwice (sym same) p.ends_once;
      starts_once = p.starts_once;
      apart = λ l i j. p.apart l (subst (IsIn l) same i) j;
      ends_below = subst (EachBelow count) (sym same) p.ends_below;
      starts_below = p.starts_below;
      ends_exact = each_added ends done d k way e f lt p.ends_once p.ends_exact;
      starts_exact = each_kept starts done d (label_at ends k) e (λ i. p.apart (label_at ends k) at i) p.starts_exact;
      fresh = λ l j le. let low = below_in count (labels_of ends) (label_at ends k) p.ends_below at in named_kept l done d j (ap (λ t. is_among (targets_of t) l) e ∙ one_target (label_at ends k) l (λ h. absurd (omega (arith, h, le, low)))) ∙ p.fresh l j le;
    }

pub pending_again : (done : List Draft) (count : ℕ) (ends starts : List Level) (d : Draft) (k : ℕ) (way : CellState) → d.last ≡ Jump (label_at starts k) → way.block ≡ length done → k < length starts → Pending done count ends starts → Pending (done ++ d ∷ []) count ends (add_way starts k way)
pending_again done count ends starts d k way e f lt p =
    let same = add_labels starts k way in
    let at = label_in starts k lt in
    record {
      ends_once = p.ends_once;
      starts_once = subst NoTwice (sym same) p.starts_once;
      apart = λ l i j. p.apart l i (subst (IsIn l) same j);
      ends_below = p.ends_below;
      starts_below = subst (EachBelow count) (sym same) p.starts_below;
      ends_exact = each_kept ends done d (label_at starts k) e (λ i. p.apart (label_at starts k) i at) p.ends_exact;
      starts_exact = each_added starts done d k way e f lt p.starts_once p.starts_exact;
      fresh = λ l j le. let low = below_in count (labels_of starts) (label_at starts k) p.starts_below at in named_kept l done d j (ap (λ t. is_among (targets_of t) l) e ∙ one_target (label_at starts k) l (λ h. absurd (omega (arith, h, le, low)))) ∙ p.fresh l j le;
    }

-- ---- settled labels

pub record Settled (done : List Draft) (label : ℕ → ℕ) (opened : ℕ) (waits : ℕ → Type 0) : Type 0 where
  pub mention : (l k : ℕ) → named l done k ≡ true → (0 < label l) ⊎ waits l
  pub bound : (l : ℕ) → (label l ≡ 0) ⊎ (label l < opened)
  pub inj : (l l' : ℕ) → 0 < label l → label l ≡ label l' → l ≡ l'

pub settled_push : (done : List Draft) (label : ℕ → ℕ) (opened more : ℕ) (waits : ℕ → Type 0) (d : Draft) → opened ≤ more → ((l : ℕ) → is_among (targets_of d.last) l ≡ true → (0 < label l) ⊎ waits l) → Settled done label opened waits → Settled (done ++ d ∷ []) label more waits
settled_push done label opened more waits d le f s = record {
  mention = λ l k e. ⊎_elim (λ h. s.mention l k h) (λ h. f l h.1) (named_push l done d k e);
  bound = λ l. ⊎_elim (λ h. inl h) (λ h. inr (omega (arith, h, le))) (s.bound l);
  inj = s.inj;
}

-- another table, with the same labels
pub settled_same : (done : List Draft) (label label' : ℕ → ℕ) (opened more : ℕ) (waits waits' : ℕ → Type 0) → ((l : ℕ) → label' l ≡ label l) → opened ≤ more → ((l : ℕ) → waits l → waits' l) → Settled done label opened waits → Settled done label' more waits'
settled_same done label label' opened more waits waits' same le f s = record {
  mention = λ l k e. ⊎_elim (λ h. inl (subst (λ x. 0 < x) (sym (same l)) h)) (λ h. inr (f l h)) (s.mention l k e);
  bound = λ l. ⊎_elim (λ h. inl (same l ∙ h)) (λ h. inr (let e = same l in omega (arith, e, h, le))) (s.bound l);
  inj = λ l l' lt e. s.inj l l' (subst (λ x. 0 < x) (same l) lt) (sym (same l) ∙ e ∙ same l');
}

-- a label is settled to a block that is opened
pub settled_set : (done : List Draft) (label label' : ℕ → ℕ) (opened n at : ℕ) (waits waits' : ℕ → Type 0) → label' at ≡ n → ((l : ℕ) → l ≢ at → label' l ≡ label l) → opened ≤ n → 0 < n → ((l : ℕ) → waits l → (l ≡ at) ⊎ waits' l) → Settled done label opened waits → Settled done label' (suc n) waits'
settled_set done label label' opened n at waits waits' here other le pos f s = record {
  mention = λ l k e. mention l (eq_or l at) (s.mention l k e);
  bound = λ l. bound l (eq_or l at) (s.bound l);
  inj = λ l l' lt e. inj l l' (eq_or l at) (eq_or l' at) lt e;
}
  where
    mention : (l : ℕ) → (l ≡ at) ⊎ (l ≢ at) → (0 < label l) ⊎ waits l → (0 < label' l) ⊎ waits' l
    mention l (inl h) m = let e : label' l ≡ n = ap label' h ∙ here in inl (omega (arith, e, pos))
    mention l (inr ne) (inl lt) = inl (subst (λ x. 0 < x) (sym (other l ne)) lt)
    mention l (inr ne) (inr i) = ⊎_elim (λ h. absurd (ne h)) (λ h. inr h) (f l i)

    bound : (l : ℕ) → (l ≡ at) ⊎ (l ≢ at) → (label l ≡ 0) ⊎ (label l < opened) → (label' l ≡ 0) ⊎ (label' l < suc n)
    bound l (inl h) b = let e : label' l ≡ n = ap label' h ∙ here in inr (omega (arith, e))
    bound l (inr ne) (inl z) = inl (other l ne ∙ z)
    bound l (inr ne) (inr lt) = let e = other l ne in inr (omega (arith, e, lt, le))

    -- no other label has this block
    apart : (l : ℕ) → l ≢ at → 0 < label' l → label' l ≡ n → ⊥
    apart l ne lt e = let o = other l ne in ⊎_elim (λ z. absurd (omega (arith, z, o, lt))) (λ b. absurd (omega (arith, b, o, e, le))) (s.bound l)

    inj : (l l' : ℕ) → (l ≡ at) ⊎ (l ≢ at) → (l' ≡ at) ⊎ (l' ≢ at) → 0 < label' l → label' l ≡ label' l' → l ≡ l'
    inj l l' (inl h) (inl h') lt e = h ∙ sym h'
    inj l l' (inl h) (inr ne') lt e = absurd (apart l' ne' (subst (λ x. 0 < x) e lt) (sym e ∙ ap label' h ∙ here))
    inj l l' (inr ne) (inl h') lt e = absurd (apart l ne lt (e ∙ ap label' h' ∙ here))
    inj l l' (inr ne) (inr ne') lt e = s.inj l l' (subst (λ x. 0 < x) (other l ne) lt) (sym (other l ne) ∙ e ∙ other l' ne')

-- a label that no draft names waits no more
pub settled_drop : (done : List Draft) (label : ℕ → ℕ) (opened at : ℕ) (waits waits' : ℕ → Type 0) → ((k : ℕ) → named at done k ≡ false) → ((l : ℕ) → waits l → (l ≡ at) ⊎ waits' l) → Settled done label opened waits → Settled done label opened waits'
settled_drop done label opened at waits waits' none f s = record {
  mention = λ l k e. ⊎_elim (λ h. inl h) (λ i. ⊎_elim (λ h. absurd (cc (none k, ap (λ x. named x done k) (sym h) ∙ e))) (λ j. inr j) (f l i)) (s.mention l k e);
  bound = s.bound;
  inj = s.inj;
}
