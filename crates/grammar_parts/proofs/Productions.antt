-- The laws of the parts, over sets of kinds. A production costs one term whose conditions compute.
use Rattle.std.proofs.Common.{◌≡◌, inl, inr, ℕ, zero, suc, Bool, true, false, List, [], ◌∷◌, ◌++◌, length, Option, Some, None, refl, sym, ap, subst, ◌∙◌}
use Rattle.grammar_parts.specs.Part.{Part, nothing, never, one, then, either, many, nothing_kept, repeated}
use Rattle.grammar_parts.specs.Reading.{Reader, done, ◌>>=◌, take_one, take_never, choose, take_many, take_repeated}
use Rattle.grammar_parts.specs.Kinds.{has, within, disjoint, among, Among, marked, is_some, by, mark, take_mark, opening, take_opening, allowed, take_allowed, is_item, items, entry, entries, any_list, some_list, take_entry, entry_kinds, take_entries, take_any_list, take_some_list}
use Rattle.grammar_parts.specs.Law.{Fine, Follows, Filled}
use Rattle.grammar_parts.proofs.Fine.{fine_never, fine_wider}
use Rattle.grammar_parts.proofs.Taking.{below_self}
use Rattle.grammar_parts.proofs.Following.{follows_one, follows_nothing, follows_never, follows_then, follows_wider, follows_either, follows_many}
use Rattle.grammar_parts.proofs.Sets.{Tells, tells_marked, value_of, has_within, has_apart, has_front, has_back, has_either, miss}

module _ {T : Type 0} (kind : T → ℕ) where
  -- A part that is not empty. The kinds in F are those that begin it, and only those in M go on behind a whole one.
  pub record Reads (C : Type 0) {A : Type 0} (p q : Part T A) (r : Reader T A) (F M : List ℕ) : Type 0 where
    pub follows : Follows C p q r (Among kind F) (λ a. Among kind M)
    pub filled : Filled q
    pub hit : C → (t : T) → Among kind F t → q.begins (t ∷ [])

  -- A part that may be empty.
  pub record May (C : Type 0) {A : Type 0} (p q : Part T A) (r : Reader T A) (F M : List ℕ) : Type 0 where
    pub follows : Follows C p q r (Among kind F) (λ a. Among kind M)
    pub hit : C → (t : T) → Among kind F t → q.begins (t ∷ [])
    pub none : C → (a : A) × q.derives [] a

  -- ---- one token

  pub one_hit : {A : Type 0} (test : T → Option A) (t : T) → by test t ≡ true → (one test).begins (t ∷ [])
  one_hit test t e = let v = value_of (test t) e in inr (t, v.0, refl, v.1)

  no_token : (t : T) → [] ≡ t ∷ [] → ⊥
  no_token t e = cc

  pub filled_one : {A : Type 0} (test : T → Option A) → Filled (one test)
  filled_one test = record { never_empty = λ a (t, e, h). no_token t e }

  pub reads_one : {C A : Type 0} {test : T → Option A} {F : List ℕ} → Tells kind test F → Reads C (one test) (one test) (take_one test) F []
  reads_one {test = test} tells = record {
    follows = follows_wider (follows_one test) (λ t h. tells.sound t h.0 h.1) (λ a t x. absurd x);
    filled = filled_one test;
    hit = λ c t h. one_hit test t (tells.complete t h);
  }

  pub reads_mark : {C : Type 0} (k : ℕ) → Reads C (mark kind k) (mark kind k) (take_mark kind k) (k ∷ []) []
  reads_mark k = reads_one (tells_marked kind k)

  -- where no level is left, or the chain is full
  pub reads_shut : {C A : Type 0} {p q : Part T A} {r : Reader T A} {F M : List ℕ} (test : T → Bool) → ((t : T) → test t ≡ has F (kind t)) → Reads C p q r F M → Reads C never q (take_never test) F M
  reads_shut test same h = record {
    follows = follows_never test h.follows.wide h.filled (λ c t e. h.hit c t (sym (same t) ∙ e)) (λ t e g. miss (test t) e (same t ∙ g));
    filled = h.filled;
    hit = h.hit;
  }

  -- the same, by what is known of the wide part
  pub reads_never : {C D A : Type 0} {p q : Part T A} {r : Reader T A} {F M : List ℕ} → Reads D p q r F M → ((t : T) → Among kind F t → q.begins (t ∷ [])) → Reads C never q (take_never (among kind F)) F M
  reads_never {F = F} h hit = record {
    follows = follows_never (among kind F) h.follows.wide h.filled (λ c. hit) (λ t e g. miss (has F (kind t)) e g);
    filled = h.filled;
    hit = λ c. hit;
  }

  -- ---- one part behind another

  module _ {A B : Type 0} {q : Part T A} {q' : A → Part T B} where
    pub filled_then : Filled q → Filled (then q q')
    filled_then f = record { never_empty = λ b (xs, ys, a, e, d, w). split b xs ys a e d }
      where
        split : (b : B) (xs ys : List T) (a : A) → [] ≡ xs ++ ys → q.derives xs a → ⊥
        split b [] ys a e d = f.never_empty a d
        split b (x ∷ xs) ys a e d = cc

    pub filled_behind : ((a : A) → Filled (q' a)) → Filled (then q q')
    filled_behind f = record { never_empty = λ b (xs, ys, a, e, d, w). split b xs ys a e w }
      where
        split : (b : B) (xs ys : List T) (a : A) → [] ≡ xs ++ ys → (q' a).derives ys b → ⊥
        split b [] [] a e w = (f a).never_empty b w
        split b [] (y ∷ ys) a e w = cc
        split b (x ∷ xs) ys a e w = cc

  module _ {C A B : Type 0} {p q : Part T A} {p' q' : A → Part T B} {r : Reader T A} {s : A → Reader T B} {F M G L : List ℕ} where
    -- neither is empty
    pub reads_then : Reads C p q r F M → ((a : A) → Reads C (p' a) (q' a) (s a) G L) → disjoint M G ≡ true → Reads C (then p p') (then q q') (r >>= s) F L
    reads_then f g e = record {
      follows = follows_then f.follows (λ a. (g a).follows) (λ a t. has_apart M G e (kind t)) (λ t h. h) (λ a t d h. absurd (f.filled.never_empty a d)) (λ a b t d m. absurd ((g a).filled.never_empty b d));
      filled = filled_then f.filled;
      hit = λ c t h. inl (f.hit c t h);
    }

    -- the second may be empty
    pub reads_more : Reads C p q r F M → ((a : A) → May C (p' a) (q' a) (s a) G L) → disjoint M G ≡ true → Reads C (then p p') (then q q') (r >>= s) F (M ++ L)
    reads_more f g e = record {
      follows = follows_then f.follows (λ a. follows_wider (g a).follows (λ t h. h) (λ b t. has_back M L (kind t))) (λ a t. has_apart M G e (kind t)) (λ t h. h) (λ a t d h. absurd (f.filled.never_empty a d)) (λ a b t d. has_front M L (kind t));
      filled = filled_then f.filled;
      hit = λ c t h. inl (f.hit c t h);
    }

    -- the first may be empty
    pub may_then : May C p q r F M → ((a : A) → Reads C (p' a) (q' a) (s a) G L) → disjoint M G ≡ true → Reads C (then p p') (then q q') (r >>= s) (F ++ G) L
    may_then f g e = record {
      follows = follows_then f.follows (λ a. (g a).follows) (λ a t. has_apart M G e (kind t)) (λ t. has_front F G (kind t)) (λ a t d. has_back F G (kind t)) (λ a b t d m. absurd ((g a).filled.never_empty b d));
      filled = filled_behind (λ a. (g a).filled);
      hit = λ c t h. elim (has_either F G (kind t) h) [ inl i ↦ inl (f.hit c t i) | inr j ↦ let n = f.none c in inr ([], t ∷ [], n.0, refl, n.1, (g n.0).hit c t j) ];
    }

  -- ---- a value made of another

  nothing_behind : {C A B : Type 0} (f : A → B) (M : List ℕ) (a : A) → Follows C (nothing (f a)) (nothing (f a)) (done (f a)) (λ t. ⊥) (λ b. Among kind M)
  nothing_behind f M a = follows_wider (follows_nothing (f a)) (λ t x. x) (λ b t x. absurd x)

  map_follows : {C A B : Type 0} {p q : Part T A} {r : Reader T A} (F M : List ℕ) (f : A → B) → Follows C p q r (Among kind F) (λ a. Among kind M) → Follows C (then p (λ a. nothing (f a))) (then q (λ a. nothing (f a))) (r >>= (λ a. done (f a))) (Among kind F) (λ b. Among kind M)
  map_follows F M f h = follows_then h (nothing_behind f M) (λ a t m g. g) (λ t x. x) (λ a t d x. absurd x) (λ a b t d m. m)

  pub reads_map : {C A B : Type 0} {p q : Part T A} {r : Reader T A} {F M : List ℕ} (f : A → B) → Reads C p q r F M → Reads C (then p (λ a. nothing (f a))) (then q (λ a. nothing (f a))) (r >>= (λ a. done (f a))) F M
  reads_map {F = F} {M = M} f h = record { follows = map_follows F M f h.follows; filled = filled_then h.filled; hit = λ c t i. inl (h.hit c t i) }

  pub may_map : {C A B : Type 0} {p q : Part T A} {r : Reader T A} {F M : List ℕ} (f : A → B) → May C p q r F M → May C (then p (λ a. nothing (f a))) (then q (λ a. nothing (f a))) (r >>= (λ a. done (f a))) F M
  may_map {F = F} {M = M} f h = record { follows = map_follows F M f h.follows; hit = λ c t i. inl (h.hit c t i); none = λ c. let n = h.none c in (f n.0, ([], [], n.0, refl, n.1, (refl, refl))) }

  pub may_nothing : {C A : Type 0} (a : A) → May C (nothing a) (nothing a) (done a) [] []
  may_nothing a = record {
    follows = follows_wider (follows_nothing a) (λ t x. absurd x) (λ b t x. absurd x);
    hit = λ c t h. absurd (cc);
    none = λ c. (a, (refl, refl));
  }

  -- ---- one of two parts

  filled_either : {A : Type 0} {q q' : Part T A} → Filled q → Filled q' → Filled (either q q')
  filled_either {A} {q} {q'} f g = record { never_empty = empty_of }
    where
      empty_of : (a : A) → (either q q').derives [] a → ⊥
      empty_of a (inl d) = f.never_empty a d
      empty_of a (inr d) = g.never_empty a d

  hit_either : {C A : Type 0} (q q' : Part T A) (F G : List ℕ) → (C → (t : T) → Among kind F t → q.begins (t ∷ [])) → (C → (t : T) → Among kind G t → q'.begins (t ∷ [])) → C → (t : T) → Among kind (F ++ G) t → (either q q').begins (t ∷ [])
  hit_either q q' F G f g c t h = elim (has_either F G (kind t) h) [ inl i ↦ inl (f c t i) | inr j ↦ inr (g c t j) ]

  module _ {C A : Type 0} {p q p' q' : Part T A} {r s : Reader T A} {F M G N : List ℕ} where
    pub reads_either : Reads C p q r F M → Reads C p' q' s G N → disjoint F G ≡ true → Reads C (either p p') (either q q') (choose (among kind F) r s) (F ++ G) (M ++ N)
    reads_either f g e = record {
      follows = follows_either (among kind F) f.follows g.follows f.filled (λ t. has_apart F G e (kind t)) f.hit (λ t. miss (has F (kind t))) (λ t. has_front F G (kind t)) (λ t. has_back F G (kind t)) (λ a t. has_front M N (kind t)) (λ a t. has_back M N (kind t)) (λ a t d. absurd (g.filled.never_empty a d));
      filled = filled_either f.filled g.filled;
      hit = hit_either q q' F G f.hit g.hit;
    }

    -- the second may be empty
    pub may_either : Reads C p q r F M → May C p' q' s G N → disjoint F G ≡ true → May C (either p p') (either q q') (choose (among kind F) r s) (F ++ G) (F ++ (M ++ N))
    may_either f g e = record {
      follows = follows_either (among kind F) f.follows g.follows f.filled (λ t. has_apart F G e (kind t)) f.hit (λ t. miss (has F (kind t))) (λ t. has_front F G (kind t)) (λ t. has_back F G (kind t)) (λ a t h. has_back F (M ++ N) (kind t) (has_front M N (kind t) h)) (λ a t h. has_back F (M ++ N) (kind t) (has_back M N (kind t) h)) (λ a t d. has_front F (M ++ N) (kind t));
      hit = hit_either q q' F G f.hit g.hit;
      none = λ c. let n = g.none c in (n.0, inr n.1);
    }

  -- a part that may be left out
  pub may_left_out : {C A : Type 0} {p q : Part T A} {r : Reader T A} {F M : List ℕ} (a : A) → Reads C p q r F M → disjoint F [] ≡ true → May C (either p (nothing a)) (either q (nothing a)) (choose (among kind F) r (done a)) (F ++ []) (F ++ (M ++ []))
  may_left_out a f e = may_either f (may_nothing a) e

  -- ---- sets

  pub reads_sets : {C A : Type 0} {p q : Part T A} {r : Reader T A} {F M : List ℕ} (G N : List ℕ) → Reads C p q r F M → within F G ≡ true → within G F ≡ true → within M N ≡ true → Reads C p q r G N
  reads_sets {F = F} {M = M} G N f e e' n = record {
    follows = follows_wider f.follows (λ t. has_within F G e (kind t)) (λ a t. has_within M N n (kind t));
    filled = f.filled;
    hit = λ c t h. f.hit c t (has_within G F e' (kind t) h);
  }

  -- more kinds behind it
  pub reads_wider : {C A : Type 0} {p q : Part T A} {r : Reader T A} {F M : List ℕ} (N : List ℕ) → Reads C p q r F M → ((k : ℕ) → has M k ≡ true → has N k ≡ true) → Reads C p q r F N
  reads_wider N f n = record { follows = follows_wider f.follows (λ t h. h) (λ a t. n (kind t)); filled = f.filled; hit = f.hit }

  pub may_sets : {C A : Type 0} {p q : Part T A} {r : Reader T A} {F M : List ℕ} (G N : List ℕ) → May C p q r F M → within F G ≡ true → within G F ≡ true → within M N ≡ true → May C p q r G N
  may_sets {F = F} {M = M} G N f e e' n = record {
    follows = follows_wider f.follows (λ t. has_within F G e (kind t)) (λ a t. has_within M N n (kind t));
    hit = λ c t h. f.hit c t (has_within G F e' (kind t) h);
    none = f.none;
  }

  -- ---- any number of parts

  pub may_many : {C S A : Type 0} {p q : S → Part T A} {r : S → Reader T A} {F M : List ℕ} (next : S → A → S) → ((s : S) → Reads C (p s) (q s) (r s) F M) → disjoint M F ≡ true → (s : S) → May C (many p next s) (many q next s) (λ ts. take_many (λ s. among kind F) r next (length ts) s ts) F (F ++ M)
  may_many {p = p} {q = q} {r = r} {F = F} {M = M} next f e s = record {
    follows = follows_many next (λ s. among kind F) (λ s. (f s).follows) (λ s. (f s).filled) (λ s a t. has_apart M F e (kind t)) (λ s a t. has_back F M (kind t)) (λ s t. has_front F M (kind t)) (λ c s t h. (f s).hit c t h) (λ s t. miss (has F (kind t))) s;
    hit = λ c t h. ([], [], t ∷ [], refl, refl, (f s).hit c t h);
    none = λ c. ([], refl);
  }

  pub may_repeated : {C A : Type 0} {p q : Part T A} {r : Reader T A} {F M : List ℕ} → Reads C p q r F M → disjoint M F ≡ true → May C (repeated p) (repeated q) (take_repeated (among kind F) r) F (F ++ M)
  may_repeated f e = may_many (λ s a. s) (λ s. f) e nothing_kept

  -- ---- limits

  -- what is known of tokens that open a level, with this much room and, in the wide grammar, that much
  pub record Opens (C : Type 0) (room wide : ℕ) : Type 1 where
    pub reads : {A : Type 0} {test : T → Option A} {F : List ℕ} → Tells kind test F → Reads C (opening room test) (opening wide test) (take_opening room test) F []
    pub shut : {A : Type 0} {test : T → Option A} {F : List ℕ} → Tells kind test F → Reads C never (opening wide test) (take_never (by test)) F []

  by_set : {A : Type 0} {test : T → Option A} {F : List ℕ} → Tells kind test F → (t : T) → by test t ≡ has F (kind t)
  by_set {A} {test} {F} tells t = at (test t) refl (has F (kind t)) refl
    where
      at : (o : Option A) → test t ≡ o → (b : Bool) → has F (kind t) ≡ b → is_some (test t) ≡ has F (kind t)
      at (Some a) e b h = ap is_some e ∙ sym (tells.sound t a e)
      at None e true h = tells.complete t h ∙ sym h
      at None e false h = ap is_some e ∙ sym h

  shut_one : {C A : Type 0} {test : T → Option A} {F : List ℕ} → Tells kind test F → Reads C never (one test) (take_never (by test)) F []
  shut_one {test = test} tells = reads_shut (by test) (by_set tells) (reads_one tells)

  pub opens_none : {C : Type 0} (wide : ℕ) → Opens C zero (suc wide)
  opens_none wide = record { reads = shut_one; shut = shut_one }

  pub opens_some : {C : Type 0} (room wide : ℕ) → Opens C (suc room) (suc wide)
  opens_some room wide = record { reads = reads_one; shut = shut_one }

  -- a part that nothing derives, against itself, where nothing is said of its reader
  pub reads_nowhere : {A : Type 0} {r : Reader T A} (F M : List ℕ) → Reads ⊥ never never r F M
  reads_nowhere {A} F M =
      let f : Fine {T = T} {A = A} never (Among kind F) (λ a. Among kind M) = fine_wider fine_never (λ t x. absurd x) (λ a t x. absurd x) in
      record { follows = record { fine = f; wide = f; below = below_self; takes = λ c. absurd c }; filled = record { never_empty = λ a d. d }; hit = λ c. absurd c }

  pub opens_self : (room : ℕ) → Opens ⊥ room room
  opens_self zero = record { reads = λ {A} {test} {F} tells. reads_nowhere F []; shut = λ {A} {test} {F} tells. reads_nowhere F [] }
  opens_self (suc room) = opens_some room room

  -- where a chain may be full
  pub reads_allowed : {C A : Type 0} {p q : Part T A} {r : Reader T A} {F M : List ℕ} (test : T → Bool) (b : Bool) → Reads C p q r F M → Reads C never q (take_never test) F M → Reads C (allowed b p) q (take_allowed b test r) F M
  reads_allowed test true f g = f
  reads_allowed test false f g = g

  pub reads_free : {C A : Type 0} {test : T → Option A} {F : List ℕ} (b : Bool) → Tells kind test F → Reads C (allowed b (one test)) (one test) (take_allowed b (by test) (take_one test)) F []
  reads_free {test = test} b tells = reads_allowed (by test) b (reads_one tells) (shut_one tells)

  pub reads_open_free : {C A : Type 0} {room wide : ℕ} {test : T → Option A} {F : List ℕ} (b : Bool) → Opens C room wide → Tells kind test F → Reads C (allowed b (opening room test)) (opening wide test) (take_allowed b (by test) (take_opening room test)) F []
  reads_open_free {test = test} b opens tells = reads_allowed (by test) b (opens.reads tells) (opens.shut tells)

  -- ---- lists with commas

  module _ {C A : Type 0} {p q : Part T A} {r : Reader T A} {F M : List ℕ} (comma : ℕ) (i : Reads C p q r F M) (apart : disjoint M (comma ∷ []) ≡ true) where
    abbrev more_kinds : Option A → List ℕ
    more_kinds None = []
    more_kinds (Some a) = M

    entry_at : (s : Bool) → Follows C (entry kind comma p s) (entry kind comma q s) (take_entry kind comma r s) (Among kind (entry_kinds comma F s)) (λ o. Among kind (more_kinds o))
    entry_at false = follows_then i.follows (λ a. follows_wider (follows_nothing (Some a)) (λ t x. x) (λ b t x. absurd x)) (λ a t m g. g) (λ t x. x) (λ a t d x. absurd x) (λ a b t d m. subst (λ o. Among kind (more_kinds o) t) d.1 m)
    entry_at true = follows_wider (map_follows {A = T} {B = Option A} (comma ∷ []) [] (λ u. None) (reads_mark comma).follows) (λ t x. x) (λ o t x. absurd (cc))

    entry_filled : (s : Bool) → Filled (entry kind comma q s)
    entry_filled false = filled_then i.filled
    entry_filled true = filled_then (filled_one (marked kind comma))

    entry_apart : (s : Bool) (o : Option A) (t : T) → Among kind (more_kinds o) t → Among kind (entry_kinds comma F (is_item o)) t → ⊥
    entry_apart s None t m f = absurd (cc)
    entry_apart s (Some a) t m f = has_apart M (comma ∷ []) apart (kind t) m f

    item_more : (s : Bool) (o : Option A) (t : T) → Among kind (more_kinds o) t → Among kind (comma ∷ (F ++ M)) t
    item_more s None t m = absurd (cc)
    item_more s (Some a) t m = has_back (comma ∷ F) M (kind t) m

    next_more : (s : Bool) (t : T) → Among kind (entry_kinds comma F s) t → Among kind (comma ∷ (F ++ M)) t
    next_more false t f = has_back (comma ∷ []) (F ++ M) (kind t) (has_front F M (kind t) f)
    next_more true t f = has_front (comma ∷ []) (F ++ M) (kind t) f

    entry_hit : C → (s : Bool) (t : T) → Among kind (entry_kinds comma F s) t → (entry kind comma q s).begins (t ∷ [])
    entry_hit c false t h = inl (i.hit c t h)
    entry_hit c true t h = inl ((reads_mark {C = C} comma).hit c t h)

    may_entries : (s : Bool) → May C (entries kind comma p s) (entries kind comma q s) (λ ts. take_entries kind comma F r (length ts) s ts) (entry_kinds comma F s) (comma ∷ (F ++ M))
    may_entries s = record {
      follows = follows_many (λ s a. is_item a) (λ s. among kind (entry_kinds comma F s)) entry_at entry_filled entry_apart item_more next_more entry_hit (λ s t. miss (has (entry_kinds comma F s) (kind t))) s;
      hit = λ c t h. ([], [], t ∷ [], refl, refl, entry_hit c s t h);
      none = λ c. ([], refl);
    }

    pub may_list : May C (any_list kind comma p) (any_list kind comma q) (take_any_list kind comma F r) F (comma ∷ (F ++ M))
    may_list = may_map items (may_entries false)

    pub reads_list : Reads C (some_list kind comma p) (some_list kind comma q) (take_some_list kind comma F r) F (M ++ (comma ∷ (F ++ M)))
    reads_list = reads_more i (λ a. may_map (λ found. a ∷ items found) (may_entries true)) apart
