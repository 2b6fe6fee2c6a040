-- A part that is fine can be read from the left with one token ahead.
use Rattle.std.proofs.Common.{◌≡◌, ◌⊎◌, inl, inr, List, [], ◌∷◌, ◌++◌, Option, Some, None, refl, sym, ap, subst, ◌∙◌, append_assoc, append-nil}
use Rattle.grammar_parts.specs.Part.{Part, nothing, never, one, then, either, Many, state, many}
use Rattle.grammar_parts.specs.Law.{Fine}

-- ---- two ways to cut one list

abbrev pub Longer : {T : Type 0} → List T → List T → List T → List T → Type 0
Longer {T} xs ys us vs = (t : T) × (r : List T) × (us ≡ xs ++ t ∷ r) × (ys ≡ t ∷ (r ++ vs))

abbrev pub Cuts : {T : Type 0} → List T → List T → List T → List T → Type 0
Cuts xs ys us vs = ((xs ≡ us) × (ys ≡ vs)) ⊎ (Longer xs ys us vs ⊎ Longer us vs xs ys)

heads : {T : Type 0} (x u : T) (xs us : List T) → x ∷ xs ≡ u ∷ us → (x ≡ u) × (xs ≡ us)
heads x u xs us e = (cc, cc)

pub tails : {T : Type 0} (x u : T) (xs us : List T) → x ∷ xs ≡ u ∷ us → xs ≡ us
tails x u xs us e = cc

pub cons_same : {T : Type 0} (x u : T) (xs us : List T) → x ≡ u → xs ≡ us → x ∷ xs ≡ u ∷ us
cons_same x u xs us e f = cc

cuts_more : {T : Type 0} (x u : T) (xs ys us vs : List T) → x ≡ u → Cuts xs ys us vs → Cuts (x ∷ xs) ys (u ∷ us) vs
cuts_more x u xs ys us vs e (inl c) = inl (cons_same x u xs us e c.0, c.1)
cuts_more x u xs ys us vs e (inr (inl c)) = inr (inl (c.0, c.1, cons_same u x us _ (sym e) c.2, c.3))
cuts_more x u xs ys us vs e (inr (inr c)) = inr (inr (c.0, c.1, cons_same x u xs _ e c.2, c.3))

pub cuts : {T : Type 0} (xs ys us vs : List T) → xs ++ ys ≡ us ++ vs → Cuts xs ys us vs
cuts [] ys [] vs e = inl (refl, e)
cuts [] ys (u ∷ us) vs e = inr (inl (u, us, refl, e))
cuts (x ∷ xs) ys [] vs e = inr (inr (x, xs, refl, sym e))
cuts (x ∷ xs) ys (u ∷ us) vs e = let h = heads x u (xs ++ ys) (us ++ vs) e in cuts_more x u xs ys us vs h.0 (cuts xs ys us vs h.1)

-- ---- fine parts

pub goes : {T A : Type 0} {p : Part T A} {F : T → Type 0} {M : A → T → Type 0} → Fine p F M → (xs : List T) (a : A) (t : T) (r : List T) → p.derives xs a → p.begins (xs ++ t ∷ r) → M a t
goes {p = p} f xs a t r d b = f.more xs a t d (f.fronts (xs ++ t ∷ []) r (subst (λ l. p.begins l) (sym (append_assoc xs (t ∷ []) r)) b))

-- ---- one part behind another

module _ {T A B : Type 0} {p : Part T A} {q : A → Part T B} {F : T → Type 0} {M : A → T → Type 0} {G : A → T → Type 0} {K : B → T → Type 0} (fp : Fine p F M) (fq : (a : A) → Fine (q a) (G a) K) (apart : (a : A) (t : T) → M a t → G a t → ⊥) where
  not_longer : (xs ys us vs : List T) (a b : A) → p.derives xs a → p.derives us b → (q a).begins ys → Longer xs ys us vs → ⊥
  not_longer xs ys us vs a b d d' w c =
      apart a c.0 (goes fp xs a c.0 c.1 d (subst (λ l. p.begins l) c.2 (fp.whole us b d'))) ((fq a).first c.0 _ (subst (λ l. (q a).begins l) c.3 w))

  pub same_cut : (xs ys us vs : List T) (a b : A) → p.derives xs a → p.derives us b → (q a).begins ys → (q b).begins vs → xs ++ ys ≡ us ++ vs → (xs ≡ us) × (ys ≡ vs)
  same_cut xs ys us vs a b d d' w w' e = elim (cuts xs ys us vs e) [ inl c ↦ c | inr (inl c) ↦ absurd (not_longer xs ys us vs a b d d' w c) | inr (inr c) ↦ absurd (not_longer us vs xs ys b a d' d w' c) ]

  -- behind a whole first part, what begins the second begins the first no longer
  pub ended : (xs ys : List T) (a : A) → p.derives xs a → p.begins (xs ++ ys) → (q a).begins ys → ys ≡ []
  ended xs [] a d b w = refl
  ended xs (t ∷ ys) a d b w = absurd (apart a t (goes fp xs a t ys d b) ((fq a).first t ys w))

  then_fronts : (xs ys : List T) → (then p q).begins (xs ++ ys) → (then p q).begins xs
  then_fronts xs ys (inl b) = inl (fp.fronts xs ys b)
  then_fronts xs ys (inr (us, vs, a, e, d, b)) = elim (cuts xs ys us vs e) [
    | inl c ↦ inl (subst (λ l. p.begins l) (sym c.0) (fp.whole us a d))
    | inr (inl c) ↦ inl (fp.fronts xs (c.0 ∷ c.1) (subst (λ l. p.begins l) c.2 (fp.whole us a d)))
    | inr (inr c) ↦ inr (us, c.0 ∷ c.1, a, c.2, d, (fq a).fronts (c.0 ∷ c.1) ys (subst (λ l. (q a).begins l) c.3 b))
  ]

  then_whole : (ts : List T) (b : B) → (then p q).derives ts b → (then p q).begins ts
  then_whole ts b (xs, ys, a, e, d, w) = inr (xs, ys, a, e, d, (fq a).whole ys b w)

  then_single : (ts : List T) (b c : B) → (then p q).derives ts b → (then p q).derives ts c → b ≡ c
  then_single ts b c (xs, ys, x, e, d, w) (us, vs, y, e', d', w') =
      let s : (xs ≡ us) × (ys ≡ vs) = same_cut xs ys us vs x y d d' ((fq x).whole ys b w) ((fq y).whole vs c w') (sym e ∙ e') in
      let same : x ≡ y = fp.single xs x y d (subst (λ l. p.derives l y) (sym s.0) d') in
      let w'' : (q x).derives ys c = subst (λ l. (q x).derives l c) (sym s.1) (subst (λ z. (q z).derives vs c) (sym same) w') in
      (fq x).single ys b c w w''

  module _ {H : T → Type 0} (first_of_p : (t : T) → F t → H t) (first_of_q : (a : A) (t : T) → p.derives [] a → G a t → H t) (more_of_p : (a : A) (b : B) (t : T) → (q a).derives [] b → M a t → K b t) where
    then_first : (t : T) (ts : List T) → (then p q).begins (t ∷ ts) → H t
    then_first t ts (inl b) = first_of_p t (fp.first t ts b)
    then_first t ts (inr ([], vs, a, e, d, b)) = first_of_q a t d ((fq a).first t ts (subst (λ l. (q a).begins l) (sym e) b))
    then_first t ts (inr (u ∷ us, vs, a, e, d, b)) = let same : t ≡ u = cc in first_of_p t (fp.first t us (subst (λ z. p.begins (z ∷ us)) (sym same) (fp.whole (u ∷ us) a d)))

    -- a token behind a whole second part still belongs to the first: then the second is empty
    more_at : (xs vs : List T) (a : A) (b : B) (t : T) → p.derives xs a → (q a).derives vs b → p.begins (xs ++ (vs ++ t ∷ [])) → K b t
    more_at xs [] a b t d w g = more_of_p a b t w (goes fp xs a t [] d g)
    more_at xs (v ∷ vs) a b t d w g = absurd (apart a v (goes fp xs a v (vs ++ t ∷ []) d g) ((fq a).first v vs ((fq a).whole (v ∷ vs) b w)))

    more_behind : (xs ys : List T) (a : A) (b : B) (t u : T) (r tail : List T) → p.derives xs a → (q a).derives ys b → p.begins (xs ++ u ∷ r) → ys ++ t ∷ [] ≡ u ∷ tail → K b t
    more_behind xs [] a b t u r tail d w g e = let same : t ≡ u = cc in more_of_p a b t w (subst (λ z. M a z) (sym same) (goes fp xs a u r d g))
    more_behind xs (v ∷ ys) a b t u r tail d w g e = let same : v ≡ u = cc in absurd (apart a v (subst (λ z. M a z) (sym same) (goes fp xs a u r d g)) ((fq a).first v ys ((fq a).whole (v ∷ ys) b w)))

    then_more : (ts : List T) (b : B) (t : T) → (then p q).derives ts b → (then p q).begins (ts ++ t ∷ []) → K b t
    then_more ts b t (xs, ys, a, e, d, w) (inl g) = more_at xs ys a b t d w (subst (λ l. p.begins l) (ap (λ l. l ++ t ∷ []) e ∙ append_assoc xs ys (t ∷ [])) g)
    then_more ts b t (xs, ys, a, e, d, w) (inr (us, vs, c, e', d', g)) =
        let whole_list : xs ++ (ys ++ t ∷ []) ≡ us ++ vs = sym (append_assoc xs ys (t ∷ [])) ∙ sym (ap (λ l. l ++ t ∷ []) e) ∙ e' in
        elim (cuts xs (ys ++ t ∷ []) us vs whole_list) [
          | inl s ↦
              let same : a ≡ c = fp.single xs a c d (subst (λ l. p.derives l c) (sym s.0) d') in
              (fq a).more ys b t w (subst (λ l. (q a).begins l) (sym s.1) (subst (λ z. (q z).begins vs) (sym same) g))
          | inr (inl s) ↦
              more_behind xs ys a b t s.0 s.1 (s.1 ++ vs) d w (subst (λ l. p.begins l) s.2 (fp.whole us c d')) s.3
          | inr (inr s) ↦ absurd (not_longer us vs xs (ys ++ t ∷ []) c a d' d g s)
        ]

    pub fine_then : Fine (then p q) H K
    fine_then = record {
      starts = inl fp.starts;
      fronts = then_fronts;
      whole = then_whole;
      single = then_single;
      first = then_first;
      more = then_more;
    }

-- ---- the other parts

pub fine_nothing : {T A : Type 0} (a : A) → Fine (nothing {T = T} a) (λ t. ⊥) (λ b t. ⊥)
fine_nothing {T} a = record {
  starts = refl;
  fronts = front_of_none;
  whole = λ xs b d. d.0;
  single = λ xs b c d e. sym d.1 ∙ e.1;
  first = λ t ts b. cc;
  more = λ xs b t d g. none_behind xs t g;
}
  where
    front_of_none : (xs ys : List T) → xs ++ ys ≡ [] → xs ≡ []
    front_of_none [] ys e = refl
    front_of_none (x ∷ xs) ys e = cc

    none_behind : (xs : List T) (t : T) → xs ++ t ∷ [] ≡ [] → ⊥
    none_behind [] t e = cc
    none_behind (x ∷ xs) t e = cc

pub fine_never : {T A : Type 0} → Fine (never {T = T} {A = A}) (λ t. ⊥) (λ b t. ⊥)
fine_never {T} = record {
  starts = refl;
  fronts = front_of_none;
  whole = λ xs b d. absurd d;
  single = λ xs b c d e. absurd d;
  first = λ t ts b. cc;
  more = λ xs b t d g. absurd d;
}
  where
    front_of_none : (xs ys : List T) → xs ++ ys ≡ [] → xs ≡ []
    front_of_none [] ys e = refl
    front_of_none (x ∷ xs) ys e = cc

abbrev pub IsSome : {A : Type 0} → Option A → Type 0
IsSome None = ⊥
IsSome (Some a) = Unit {0}

pub fine_one : {T A : Type 0} (test : T → Option A) → Fine (one test) (λ t. (a : A) × (test t ≡ Some a)) (λ b t. ⊥)
fine_one {T} {A} test = record {
  starts = inl refl;
  fronts = fronts;
  whole = λ xs b d. inr (d.0, b, d.1, d.2);
  single = λ xs b c d e. single xs b c d.0 e.0 d.1 e.1 d.2 e.2;
  first = first;
  more = λ xs b t d g. none_behind xs d.0 t d.1 g;
}
  where
    front_of_none : (xs ys : List T) → xs ++ ys ≡ [] → xs ≡ []
    front_of_none [] ys e = refl
    front_of_none (x ∷ xs) ys e = cc

    fronts : (xs ys : List T) → (one test).begins (xs ++ ys) → (one test).begins xs
    fronts [] ys b = inl refl
    fronts (x ∷ xs) ys (inl e) = cc
    fronts (x ∷ xs) ys (inr (u, a, e, h)) = let none : xs ≡ [] = front_of_none xs ys (tails x u (xs ++ ys) [] e) in let same : x ≡ u = cc in inr (u, a, cons_same x u xs [] same none, h)

    single : (xs : List T) (b c : A) (t u : T) → xs ≡ t ∷ [] → xs ≡ u ∷ [] → test t ≡ Some b → test u ≡ Some c → b ≡ c
    single xs b c t u e f g h = cc

    first : (t : T) (ts : List T) → (one test).begins (t ∷ ts) → (a : A) × (test t ≡ Some a)
    first t ts (inl e) = cc
    first t ts (inr (u, a, e, h)) = let same : t ≡ u = cc in (a, subst (λ z. test z ≡ Some a) (sym same) h)

    none_behind : (xs : List T) (u t : T) → xs ≡ u ∷ [] → (one test).begins (xs ++ t ∷ []) → ⊥
    none_behind [] u t e b = cc
    none_behind (x ∷ []) u t e (inl g) = cc
    none_behind (x ∷ []) u t e (inr (v, a, g, h)) = cc
    none_behind (x ∷ y ∷ xs) u t e b = cc

-- one of two parts: the first token tells which
module _ {T A : Type 0} {p q : Part T A} {F G H : T → Type 0} {M N K : A → T → Type 0} (fp : Fine p F M) (fq : Fine q G N) (apart : (t : T) → F t → G t → ⊥) (not_both : (a b : A) → p.derives [] a → q.derives [] b → ⊥) (first_of_p : (t : T) → F t → H t) (first_of_q : (t : T) → G t → H t) (more_of_p : (a : A) (t : T) → M a t → K a t) (more_of_q : (a : A) (t : T) → N a t → K a t) (p_empty : (a : A) (t : T) → p.derives [] a → G t → K a t) (q_empty : (a : A) (t : T) → q.derives [] a → F t → K a t) where
  either_fronts : (xs ys : List T) → (either p q).begins (xs ++ ys) → (either p q).begins xs
  either_fronts xs ys (inl b) = inl (fp.fronts xs ys b)
  either_fronts xs ys (inr b) = inr (fq.fronts xs ys b)

  either_whole : (xs : List T) (a : A) → (either p q).derives xs a → (either p q).begins xs
  either_whole xs a (inl d) = inl (fp.whole xs a d)
  either_whole xs a (inr d) = inr (fq.whole xs a d)

  not_two : (xs : List T) (a b : A) → p.derives xs a → q.derives xs b → ⊥
  not_two [] a b d e = not_both a b d e
  not_two (x ∷ xs) a b d e = apart x (fp.first x xs (fp.whole _ a d)) (fq.first x xs (fq.whole _ b e))

  either_single : (xs : List T) (a b : A) → (either p q).derives xs a → (either p q).derives xs b → a ≡ b
  either_single xs a b (inl d) (inl e) = fp.single xs a b d e
  either_single xs a b (inl d) (inr e) = absurd (not_two xs a b d e)
  either_single xs a b (inr d) (inl e) = absurd (not_two xs b a e d)
  either_single xs a b (inr d) (inr e) = fq.single xs a b d e

  either_first : (t : T) (ts : List T) → (either p q).begins (t ∷ ts) → H t
  either_first t ts (inl b) = first_of_p t (fp.first t ts b)
  either_first t ts (inr b) = first_of_q t (fq.first t ts b)

  more_pq : (xs : List T) (a : A) (t : T) → p.derives xs a → q.begins (xs ++ t ∷ []) → K a t
  more_pq [] a t d b = p_empty a t d (fq.first t [] b)
  more_pq (x ∷ xs) a t d b = absurd (apart x (fp.first x xs (fp.whole _ a d)) (fq.first x (xs ++ t ∷ []) b))

  more_qp : (xs : List T) (a : A) (t : T) → q.derives xs a → p.begins (xs ++ t ∷ []) → K a t
  more_qp [] a t d b = q_empty a t d (fp.first t [] b)
  more_qp (x ∷ xs) a t d b = absurd (apart x (fp.first x (xs ++ t ∷ []) b) (fq.first x xs (fq.whole _ a d)))

  either_more : (xs : List T) (a : A) (t : T) → (either p q).derives xs a → (either p q).begins (xs ++ t ∷ []) → K a t
  either_more xs a t (inl d) (inl b) = more_of_p a t (fp.more xs a t d b)
  either_more xs a t (inl d) (inr b) = more_pq xs a t d b
  either_more xs a t (inr d) (inl b) = more_qp xs a t d b
  either_more xs a t (inr d) (inr b) = more_of_q a t (fq.more xs a t d b)

  pub fine_either : Fine (either p q) H K
  fine_either = record { starts = inl fp.starts; fronts = either_fronts; whole = either_whole; single = either_single; first = either_first; more = either_more }

-- any number of parts
module _ {S T A : Type 0} {p : S → Part T A} {next : S → A → S} {F : S → T → Type 0} {M : S → A → T → Type 0} {N : T → Type 0} (fp : (s : S) → Fine (p s) (F s) (M s)) (filled : (s : S) (a : A) → (p s).derives [] a → ⊥) (apart : (s : S) (a : A) (t : T) → M s a t → F (next s a) t → ⊥) (more_of_item : (s : S) (a : A) (t : T) → M s a t → N t) (more_of_next : (s : S) (t : T) → F s t → N t) where
  abbrev Rest : S → A → Part T (List A)
  Rest s a = many p next (next s a)

  -- one part and more of them
  unroll : (s : S) (ts : List T) → (many p next s).begins ts → (then (p s) (Rest s)).begins ts
  unroll s ts ([], xs, ys, e, d, b) = inl (subst (λ l. (p s).begins l) (sym (e ∙ ap (λ l. l ++ ys) d)) b)
  unroll s ts (a ∷ items, xs, ys, e, (us, vs, e', d, m), b) = inr (us, vs ++ ys, a, e ∙ ap (λ l. l ++ ys) e' ∙ append_assoc us vs ys, d, (items, vs, ys, refl, m, b))

  roll : (s : S) (ts : List T) → (then (p s) (Rest s)).begins ts → (many p next s).begins ts
  roll s ts (inl b) = ([], [], ts, refl, refl, b)
  roll s ts (inr (us, vs, a, e, d, (items, xs, ys, e', m, b))) = (a ∷ items, us ++ xs, ys, e ∙ ap (λ l. us ++ l) e' ∙ sym (append_assoc us xs ys), (us, xs, refl, d, m), b)

  first_of : (s : S) (t : T) (ts : List T) → (then (p s) (Rest s)).begins (t ∷ ts) → F s t
  first_of s t ts (inl b) = (fp s).first t ts b
  first_of s t ts (inr ([], vs, a, e, d, b)) = absurd (filled s a d)
  first_of s t ts (inr (u ∷ us, vs, a, e, d, b)) = let same : t ≡ u = cc in (fp s).first t us (subst (λ z. (p s).begins (z ∷ us)) (sym same) ((fp s).whole (u ∷ us) a d))

  many_first : (s : S) (t : T) (ts : List T) → (many p next s).begins (t ∷ ts) → F s t
  many_first s t ts b = first_of s t ts (unroll s (t ∷ ts) b)

  pub many_starts : (s : S) → (many p next s).begins []
  many_starts s = roll s [] (inl (fp s).starts)

  pub many_whole : (s : S) (ts : List T) (items : List A) → Many p next s ts items → (many p next s).begins ts
  many_whole s ts items d = (items, ts, [], sym (append-nil ts), d, (fp (state next s items)).starts)

  not_longer_item : (s : S) (xs ys us vs : List T) (a b : A) → (p s).derives xs a → (p s).derives us b → (Rest s a).begins ys → Longer xs ys us vs → ⊥
  not_longer_item s xs ys us vs a b d d' w c =
      apart s a c.0 (goes (fp s) xs a c.0 c.1 d (subst (λ l. (p s).begins l) c.2 ((fp s).whole us b d'))) (many_first (next s a) c.0 _ (subst (λ l. (Rest s a).begins l) c.3 w))

  many_fronts : (items : List A) (s : S) (xs ys us vs : List T) → xs ++ ys ≡ us ++ vs → Many p next s us items → (p (state next s items)).begins vs → (many p next s).begins xs
  many_fronts [] s xs ys us vs e d b = roll s xs (inl ((fp s).fronts xs ys (subst (λ l. (p s).begins l) (sym (e ∙ ap (λ l. l ++ vs) d)) b)))
  many_fronts (a ∷ items) s xs ys us vs e (w, z, e', d, m) b =
      elim (cuts xs ys w (z ++ vs) (e ∙ ap (λ l. l ++ vs) e' ∙ append_assoc w z vs)) [
        | inl c ↦ roll s xs (inl (subst (λ l. (p s).begins l) (sym c.0) ((fp s).whole w a d)))
        | inr (inl c) ↦ roll s xs (inl ((fp s).fronts xs (c.0 ∷ c.1) (subst (λ l. (p s).begins l) c.2 ((fp s).whole w a d))))
        | inr (inr c) ↦ roll s xs (inr (w, c.0 ∷ c.1, a, c.2, d, many_fronts items (next s a) (c.0 ∷ c.1) ys z vs (sym c.3) m b))
      ]

  none_filled : (s : S) (a : A) (us vs : List T) → (p s).derives us a → us ++ vs ≡ [] → ⊥
  none_filled s a [] vs d e = filled s a d
  none_filled s a (u ∷ us) vs d e = cc

  item_cut : (s : S) (xs ys us vs : List T) (a b : A) (is js : List A) → (p s).derives xs a → (p s).derives us b → Many p next (next s a) ys is → Many p next (next s b) vs js → xs ++ ys ≡ us ++ vs → (xs ≡ us) × (ys ≡ vs)
  item_cut s xs ys us vs a b is js d d' m m' e = elim (cuts xs ys us vs e) [
    | inl c ↦ c
    | inr (inl c) ↦ absurd (not_longer_item s xs ys us vs a b d d' (many_whole _ ys is m) c)
    | inr (inr c) ↦ absurd (not_longer_item s us vs xs ys b a d' d (many_whole _ vs js m') c)
  ]

  many_single : (items others : List A) (s : S) (ts : List T) → Many p next s ts items → Many p next s ts others → items ≡ others
  many_single [] [] s ts d e = refl
  many_single [] (b ∷ others) s ts d (us, vs, e, d', m) = absurd (none_filled s b us vs d' (sym e ∙ d))
  many_single (a ∷ items) [] s ts (us, vs, e, d', m) d = absurd (none_filled s a us vs d' (sym e ∙ d))
  many_single (a ∷ items) (b ∷ others) s ts (xs, ys, e, d, m) (us, vs, e', d', m') =
      let c : (xs ≡ us) × (ys ≡ vs) = item_cut s xs ys us vs a b items others d d' m m' (sym e ∙ e') in
      let same : a ≡ b = (fp s).single xs a b d (subst (λ l. (p s).derives l b) (sym c.0) d') in
      let n : Many p next (next s a) ys others = subst (λ l. Many p next (next s a) l others) (sym c.1) (subst (λ z. Many p next (next s z) vs others) (sym same) m') in
      cons_same a b items others same (many_single items others (next s a) ys m n)

  behind_item : (s : S) (xs ys : List T) (a : A) (items : List A) (t u : T) (r tail : List T) → (p s).derives xs a → Many p next (next s a) ys items → (p s).begins (xs ++ u ∷ r) → ys ++ t ∷ [] ≡ u ∷ tail → N t
  behind_item s xs [] a items t u r tail d w g e = let same : t ≡ u = cc in more_of_item s a t (subst (λ z. M s a z) (sym same) (goes (fp s) xs a u r d g))
  behind_item s xs (v ∷ ys) a items t u r tail d w g e = let same : v ≡ u = cc in absurd (apart s a v (subst (λ z. M s a z) (sym same) (goes (fp s) xs a u r d g)) (many_first (next s a) v ys (many_whole (next s a) (v ∷ ys) items w)))

  many_more : (items : List A) (s : S) (ts : List T) (t : T) → Many p next s ts items → (then (p s) (Rest s)).begins (ts ++ t ∷ []) → N t
  many_more [] s ts t d b = more_of_next s t (first_of s t [] (subst (λ l. (then (p s) (Rest s)).begins (l ++ t ∷ [])) d b))
  many_more (a ∷ items) s ts t (xs, ys, e, d, m) (inl g) = more_inside (ys ++ t ∷ []) refl
    where
      more_inside : (l : List T) → l ≡ ys ++ t ∷ [] → N t
      more_inside [] h = absurd (not_none ys h)
        where
          not_none : (zs : List T) → [] ≡ zs ++ t ∷ [] → ⊥
          not_none [] k = cc
          not_none (z ∷ zs) k = cc
      more_inside (u ∷ l) h = behind_item s xs ys a items t u l l d m (subst (λ z. (p s).begins z) (ap (λ z. z ++ t ∷ []) e ∙ append_assoc xs ys (t ∷ []) ∙ ap (λ z. xs ++ z) (sym h)) g) (sym h)
  many_more (a ∷ items) s ts t (xs, ys, e, d, m) (inr (us, vs, c, e', d', g)) =
      let whole_list : xs ++ (ys ++ t ∷ []) ≡ us ++ vs = sym (append_assoc xs ys (t ∷ [])) ∙ sym (ap (λ l. l ++ t ∷ []) e) ∙ e' in
      elim (cuts xs (ys ++ t ∷ []) us vs whole_list) [
        | inl k ↦
            let same : a ≡ c = (fp s).single xs a c d (subst (λ l. (p s).derives l c) (sym k.0) d') in
            many_more items (next s a) ys t m (unroll (next s a) _ (subst (λ l. (Rest s a).begins l) (sym k.1) (subst (λ z. (Rest s z).begins vs) (sym same) g)))
        | inr (inl k) ↦ behind_item s xs ys a items t k.0 k.1 (k.1 ++ vs) d m (subst (λ l. (p s).begins l) k.2 ((fp s).whole us c d')) k.3
        | inr (inr k) ↦ absurd (not_longer_item s us vs xs (ys ++ t ∷ []) c a d' d g k)
      ]

  pub fine_many : (s : S) → Fine (many p next s) (F s) (λ items t. N t)
  fine_many s = record {
    starts = many_starts s;
    fronts = λ xs ys b. many_fronts b.0 s xs ys b.1 b.2 b.3 b.4 b.5;
    whole = many_whole s;
    single = λ xs a b d e. many_single a b s xs d e;
    first = many_first s;
    more = λ xs a t d b. many_more a s xs t d (unroll s _ b);
  }

-- larger sets
pub fine_wider : {T A : Type 0} {p : Part T A} {F G : T → Type 0} {M N : A → T → Type 0} → Fine p F M → ((t : T) → F t → G t) → ((a : A) (t : T) → M a t → N a t) → Fine p G N
fine_wider f g n = record { starts = f.starts; fronts = f.fronts; whole = f.whole; single = f.single; first = λ t ts b. g t (f.first t ts b); more = λ xs a t d b. n a t (f.more xs a t d b) }
