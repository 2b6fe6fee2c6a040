-- What a reader from the left answers, one law for each way to make a part.
use Rattle.std.proofs.Common.{Bool, true, false, cond, length-append, ◌≡◌, inl, inr, ℕ, zero, suc, ◌≤◌, List, [], ◌∷◌, ◌++◌, length, Option, Some, None, Ok, Err, refl, sym, ap, subst, ◌∙◌, append_assoc, append-nil, arith}
use Rattle.grammar_parts.specs.Part.{Part, nothing, never, one, then, either, Many, state, many}
use Rattle.grammar_parts.specs.Reading.{syntax, deep, Outcome, Stops, Answers, and_then, taken, take_one, take_never, choose, take_many}
use Rattle.grammar_parts.specs.Law.{Fine, Below}
use Rattle.grammar_parts.proofs.Fine.{goes, cuts, tails, ended, same_cut, fine_then, fine_nothing, fine_many, fine_wider, many_whole}

pub below_self : {T A : Type 0} {p : Part T A} → Below p p
below_self = record { derived = λ ts a d. d; begun = λ ts b. b }

last_one : {T : Type 0} (t u : T) (r vs : List T) → t ∷ [] ≡ u ∷ (r ++ vs) → (r ≡ []) × (vs ≡ [])
last_one t u [] vs e = (refl, sym (tails t u [] vs e))
last_one t u (x ∷ r) vs e = absurd (cc)

-- ---- one part behind another

module _ {T A B : Type 0} {p q : Part T A} {p' q' : A → Part T B} {F : T → Type 0} {M : A → T → Type 0} {G : A → T → Type 0} {K : B → T → Type 0} (fq : Fine q F M) (fq' : (a : A) → Fine (q' a) (G a) K) (apart : (a : A) (t : T) → M a t → G a t → ⊥) where
  -- Where the first part took what it could, what goes on behind it begins the second part.
  inside : Below p q → ((a : A) → Below (p' a) (q' a)) → (xs rest : List T) (a : A) (z : T) (zs more : List T) → p.derives xs a → Stops q xs rest → rest ≡ z ∷ more → (then p p').begins (xs ++ z ∷ zs) → (p' a).begins (z ∷ zs)
  inside below below' xs rest a z zs more d stops h (inl g) = absurd (stops z more h (fq.fronts (xs ++ z ∷ []) zs (subst (λ l. q.begins l) (sym (append_assoc xs (z ∷ []) zs)) (below.begun _ g))))
  inside below below' xs rest a z zs more d stops h (inr (us, vs, c, e, d', w)) = elim (cuts xs (z ∷ zs) us vs e) [
    | inl k ↦
        let same : a ≡ c = fq.single xs a c (below.derived xs a d) (subst (λ l. q.derives l c) (sym k.0) (below.derived us c d')) in
        subst (λ l. (p' a).begins l) (sym k.1) (subst (λ x. (p' x).begins vs) (sym same) w)
    | inr (inl k) ↦
        let begun : q.begins (xs ++ k.0 ∷ k.1) = subst (λ l. q.begins l) k.2 (fq.whole us c (below.derived us c d')) in
        let front : q.begins (xs ++ k.0 ∷ []) = fq.fronts (xs ++ k.0 ∷ []) k.1 (subst (λ l. q.begins l) (sym (append_assoc xs (k.0 ∷ []) k.1)) begun) in
        let same : z ≡ k.0 = cc in
        absurd (stops z more h (subst (λ x. q.begins (xs ++ x ∷ [])) (sym same) front))
    | inr (inr k) ↦
        absurd (apart c k.0 (goes fq us c k.0 k.1 (below.derived us c d') (subst (λ l. q.begins l) k.2 (fq.whole xs a (below.derived xs a d)))) ((fq' c).first k.0 _ (subst (λ l. (q' c).begins l) k.3 ((below' c).begun vs w))))
  ]

  inside_front : Below p q → ((a : A) → Below (p' a) (q' a)) → (ys xs rest r : List T) (a : A) (t : T) (more : List T) → p.derives xs a → Stops q xs rest → rest ≡ ys ++ r → r ≡ t ∷ more → (then p p').begins ((xs ++ ys) ++ t ∷ []) → (p' a).begins (ys ++ t ∷ [])
  inside_front below below' [] xs rest r a t more d stops e h g = inside below below' xs rest a t [] more d stops (e ∙ h) (subst (λ l. (then p p').begins (l ++ t ∷ [])) (append-nil xs) g)
  inside_front below below' (y ∷ ys) xs rest r a t more d stops e h g = inside below below' xs rest a y (ys ++ t ∷ []) (ys ++ r) d stops e (subst (λ l. (then p p').begins l) (append_assoc xs (y ∷ ys) (t ∷ [])) g)

module _ {T A B : Type 0} {p q : Part T A} {p' q' : A → Part T B} {F : T → Type 0} {M : A → T → Type 0} {G : A → T → Type 0} {K : B → T → Type 0} (fq : Fine q F M) (fq' : (a : A) → Fine (q' a) (G a) K) (apart : (a : A) (t : T) → M a t → G a t → ⊥) where
  module _ (below : Below p q) (below' : (a : A) → Below (p' a) (q' a)) (whole : (xs : List T) (a : A) → p.derives xs a → p.begins xs) where
    then_refused : (xs : List T) → q.begins xs → ((a : A) → q.derives xs a → ⊥) → (b : B) → (then q q').derives xs b → ⊥
    then_refused xs g none b (us, vs, a, e, d, w) =
        let nil : vs ≡ [] = ended fq fq' apart us vs a d (subst (λ l. q.begins l) e g) ((fq' a).whole vs b w) in
        none a (subst (λ l. q.derives l a) (sym (e ∙ ap (λ l. us ++ l) nil ∙ append-nil us)) d)

    then_stops : (xs rest : List T) → q.begins xs → ((a : A) → q.derives xs a → ⊥) → Stops q xs rest → Stops (then q q') xs rest
    then_stops xs rest g none stops t more h (inl b) = stops t more h b
    then_stops xs rest g none stops t more h (inr (us, vs, a, e, d, w)) = elim (cuts xs (t ∷ []) us vs e) [
      | inl k ↦ none a (subst (λ l. q.derives l a) (sym k.0) d)
      | inr (inl k) ↦
          let nil : k.1 ≡ [] = (last_one t k.0 k.1 vs k.3).0 in
          let same : t ≡ k.0 = cc in
          stops t more h (subst (λ l. q.begins l) (k.2 ∙ ap (λ l. xs ++ k.0 ∷ l) nil ∙ ap (λ z. xs ++ z ∷ []) (sym same)) (fq.whole us a d))
      | inr (inr k) ↦ absurd (apart a k.0 (goes fq us a k.0 k.1 d (subst (λ l. q.begins l) k.2 g)) ((fq' a).first k.0 _ (subst (λ l. (q' a).begins l) k.3 w)))
    ]

    then_deep : (xs : List T) (t : T) → (p.begins (xs ++ t ∷ []) → ⊥) → q.begins (xs ++ t ∷ []) → (then p p').begins (xs ++ t ∷ []) → ⊥
    then_deep xs t nb g (inl b) = nb b
    then_deep xs t nb g (inr (us, vs, a, e, d, w)) =
        let nil : vs ≡ [] = ended fq fq' apart us vs a (below.derived us a d) (subst (λ l. q.begins l) e g) ((below' a).begun vs w) in
        nb (subst (λ l. p.begins l) (sym (e ∙ ap (λ l. us ++ l) nil ∙ append-nil us)) (whole us a d))

    behind : (ts xs rest : List T) (a : A) (out : Outcome T B) → ts ≡ xs ++ rest → p.derives xs a → Stops q xs rest → Answers (p' a) (q' a) rest out → Answers (then p p') (then q q') ts out
    behind ts xs rest a (Ok r) e d stops (ys, e', w, stops') =
        (xs ++ ys, e ∙ ap (λ l. xs ++ l) e' ∙ sym (append_assoc xs ys r.1), (xs, ys, a, refl, d, w), stops_behind)
      where
        stops_behind : Stops (then q q') (xs ++ ys) r.1
        stops_behind t more h g = stops' t more h (inside_front fq fq' apart below_self (λ c. below_self) ys xs rest r.1 a t more (below.derived xs a d) stops e' h g)
    behind ts xs rest a (Err (syntax r)) e d stops (ys, e', b, none, stops') =
        (xs ++ ys, e ∙ ap (λ l. xs ++ l) e' ∙ sym (append_assoc xs ys r), inr (xs, ys, a, refl, d, b), refused, stops_behind)
      where
        stops_behind : Stops (then q q') (xs ++ ys) r
        stops_behind t more h g = stops' t more h (inside_front fq fq' apart below_self (λ c. below_self) ys xs rest r a t more (below.derived xs a d) stops e' h g)

        refused : (z : B) → (then q q').derives (xs ++ ys) z → ⊥
        refused z (us, vs, c, k, d', w) =
            let s : (xs ≡ us) × (ys ≡ vs) = same_cut fq fq' apart xs ys us vs a c (below.derived xs a d) d' ((below' a).begun ys b) ((fq' c).whole vs z w) k in
            let same : a ≡ c = fq.single xs a c (below.derived xs a d) (subst (λ l. q.derives l c) (sym s.0) d') in
            none z (subst (λ l. (q' a).derives l z) (sym s.1) (subst (λ x. (q' x).derives vs z) (sym same) w))
    behind ts xs rest a (Err (deep r)) e d stops (ys, t, more, h, e', b, nb, g) = (
      xs ++ ys,
      t,
      more,
      h,
      e ∙ ap (λ l. xs ++ l) e' ∙ sym (append_assoc xs ys r),
      inr (xs, ys, a, refl, d, b),
      (λ w. nb (inside_front fq fq' apart below below' ys xs rest r a t more d stops e' h w)),
      inr (xs, ys ++ t ∷ [], a, append_assoc xs ys (t ∷ []), below.derived xs a d, g),
    )

    pub answers_then : (ts : List T) (out : Outcome T A) (f : A → List T → Outcome T B) → Answers p q ts out → ((a : A) (rest : List T) → out ≡ Ok (a, rest) → Answers (p' a) (q' a) rest (f a rest)) → Answers (then p p') (then q q') ts (and_then out f)
    answers_then ts (Ok r) f (xs, e, d, stops) g = behind ts xs r.1 r.0 (f r.0 r.1) e d stops (g r.0 r.1 refl)
    answers_then ts (Err (syntax rest)) f (xs, e, b, none, stops) g = (xs, e, inl b, then_refused xs (below.begun xs b) none, then_stops xs rest (below.begun xs b) none stops)
    answers_then ts (Err (deep rest)) f (xs, t, more, h, e, b, nb, w) g = (xs, t, more, h, e, inl b, then_deep xs t nb w, inl w)

-- ---- the other parts

pub answers_nothing : {T A : Type 0} (a : A) (ts : List T) → Answers (nothing a) (nothing a) ts (Ok (a, ts))
answers_nothing a ts = ([], refl, (refl, refl), λ t more h g. cc)

pub below_then : {T A B : Type 0} {p q : Part T A} {p' q' : A → Part T B} → Below p q → ((a : A) → Below (p' a) (q' a)) → Below (then p p') (then q q')
below_then {T} {A} {B} {p} {q} {p'} {q'} b b' = record { derived = derived; begun = begun }
  where
    derived : (ts : List T) (c : B) → (then p p').derives ts c → (then q q').derives ts c
    derived ts c (xs, ys, a, e, d, w) = (xs, ys, a, e, b.derived xs a d, (b' a).derived ys c w)

    begun : (ts : List T) → (then p p').begins ts → (then q q').begins ts
    begun ts (inl g) = inl (b.begun ts g)
    begun ts (inr (xs, ys, a, e, d, w)) = inr (xs, ys, a, e, b.derived xs a d, (b' a).begun ys w)

pub below_either : {T A : Type 0} {p q p' q' : Part T A} → Below p q → Below p' q' → Below (either p p') (either q q')
below_either {T} {A} {p} {q} {p'} {q'} b b' = record { derived = derived; begun = begun }
  where
    derived : (ts : List T) (c : A) → (either p p').derives ts c → (either q q').derives ts c
    derived ts c (inl d) = inl (b.derived ts c d)
    derived ts c (inr d) = inr (b'.derived ts c d)

    begun : (ts : List T) → (either p p').begins ts → (either q q').begins ts
    begun ts (inl g) = inl (b.begun ts g)
    begun ts (inr g) = inr (b'.begun ts g)

pub below_never : {T A : Type 0} {q : Part T A} → q.begins [] → Below never q
below_never {q = q} b = record { derived = λ ts a d. absurd d; begun = λ ts e. subst (λ l. q.begins l) (sym e) b }

pub answers_one : {T A : Type 0} (test : T → Option A) (ts : List T) → Answers (one test) (one test) ts (take_one test ts)
answers_one {T} {A} test [] = ([], refl, inl refl, none, λ t more h g. cc)
  where
    none : (a : A) → (one test).derives [] a → ⊥
    none a (t, e, h) = cc
answers_one {T} {A} test (t ∷ ts) = at (test t) refl
  where
    two_behind : (u : T) → (one test).begins (t ∷ u ∷ []) → ⊥
    two_behind u (inl e) = cc
    two_behind u (inr (v, a, e, h)) = cc

    none : (a : A) → (one test).derives [] a → ⊥
    none a (u, e, h) = cc

    stays : test t ≡ None → (u : T) (more : List T) → t ∷ ts ≡ u ∷ more → (one test).begins (u ∷ []) → ⊥
    stays n u more e (inl g) = cc
    stays n u more e (inr (v, a, g, h)) = cc

    at : (o : Option A) → test t ≡ o → Answers (one test) (one test) (t ∷ ts) (taken t ts o)
    at (Some a) e = (t ∷ [], refl, (t, refl, e), λ u more h g. two_behind u g)
    at None e = ([], refl, inl refl, none, stays e)

-- where no level is left
pub answers_never : {T A : Type 0} {q : Part T A} {F : T → Type 0} {M : A → T → Type 0} (test : T → Bool) → Fine q F M → ((a : A) → q.derives [] a → ⊥) → ((t : T) → test t ≡ true → q.begins (t ∷ [])) → ((t : T) → test t ≡ false → F t → ⊥) → (ts : List T) → Answers never q ts (take_never test ts)
answers_never test f filled hit miss [] = ([], refl, refl, filled, λ t more h g. cc)
answers_never {T} {A} {q} {F} test f filled hit miss (t ∷ ts) = at (test t) refl
  where
    at : (b : Bool) → test t ≡ b → Answers never q (t ∷ ts) (cond b (Err (deep (t ∷ ts))) (Err (syntax (t ∷ ts))))
    at true e = ([], t, ts, refl, refl, refl, (λ g. cc), hit t e)
    at false e = ([], refl, refl, filled, λ u more h g. let same : t ≡ u = cc in miss t e (subst F (sym same) (f.first u [] g)))

module _ {T A : Type 0} {p q p' q' : Part T A} {F G : T → Type 0} {M N : A → T → Type 0} (fq : Fine q F M) (fq' : Fine q' G N) (below : Below p q) (below' : Below p' q') where
  left : (t : T) (ts : List T) → q.begins (t ∷ []) → (G t → ⊥) → (out : Outcome T A) → Answers p q (t ∷ ts) out → Answers (either p p') (either q q') (t ∷ ts) out
  left t ts g other (Ok r) ([], e, d, stops) = absurd (stops t ts (sym e) g)
  left t ts g other (Ok r) (x ∷ xs, e, d, stops) = (x ∷ xs, e, inl d, stops_here)
    where
      stops_here : Stops (either q q') (x ∷ xs) r.1
      stops_here u more h (inl b) = stops u more h b
      stops_here u more h (inr b) = let same : x ≡ t = cc in other (subst G same (fq'.first x _ b))
  left t ts g other (Err (syntax r)) ([], e, d, none, stops) = absurd (stops t ts (sym e) g)
  left t ts g other (Err (syntax r)) (x ∷ xs, e, d, none, stops) = (x ∷ xs, e, inl d, none_here, stops_here)
    where
      same : x ≡ t
      same = cc

      none_here : (a : A) → (either q q').derives (x ∷ xs) a → ⊥
      none_here a (inl w) = none a w
      none_here a (inr w) = other (subst G same (fq'.first x xs (fq'.whole _ a w)))

      stops_here : Stops (either q q') (x ∷ xs) r
      stops_here u more h (inl b) = stops u more h b
      stops_here u more h (inr b) = other (subst G same (fq'.first x _ b))
  left t ts g other (Err (deep r)) (xs, u, more, h, e, b, nb, w) = (xs, u, more, h, e, inl b, not_begun xs e nb, inl w)
    where
      not_other : (xs : List T) → t ∷ ts ≡ xs ++ r → p'.begins (xs ++ u ∷ []) → ⊥
      not_other [] e b = let same : u ≡ t = cc in other (subst G same (fq'.first u [] (below'.begun _ b)))
      not_other (x ∷ xs) e b = let same : x ≡ t = cc in other (subst G same (fq'.first x _ (below'.begun _ b)))

      not_begun : (xs : List T) → t ∷ ts ≡ xs ++ r → (p.begins (xs ++ u ∷ []) → ⊥) → (either p p').begins (xs ++ u ∷ []) → ⊥
      not_begun xs e nb (inl b) = nb b
      not_begun xs e nb (inr b) = not_other xs e b

  right : ((a : A) → q.derives [] a → ⊥) → (ts : List T) → ((t : T) (more : List T) → ts ≡ t ∷ more → F t → ⊥) → (out : Outcome T A) → Answers p' q' ts out → Answers (either p p') (either q q') ts out
  right filled ts other (Ok r) (xs, e, d, stops) = (xs, e, inr d, stops_here)
    where
      not_other : (xs : List T) (u : T) (more : List T) → ts ≡ xs ++ r.1 → r.1 ≡ u ∷ more → q.begins (xs ++ u ∷ []) → ⊥
      not_other [] u more e h b = other u more (e ∙ h) (fq.first u [] b)
      not_other (x ∷ xs) u more e h b = other x (xs ++ r.1) e (fq.first x _ b)

      stops_here : Stops (either q q') xs r.1
      stops_here u more h (inl b) = not_other xs u more e h b
      stops_here u more h (inr b) = stops u more h b
  right filled ts other (Err (syntax r)) (xs, e, d, none, stops) = (xs, e, inr d, none_here xs e none, stops_here)
    where
      not_other : (xs : List T) (u : T) (more : List T) → ts ≡ xs ++ r → r ≡ u ∷ more → q.begins (xs ++ u ∷ []) → ⊥
      not_other [] u more e h b = other u more (e ∙ h) (fq.first u [] b)
      not_other (x ∷ xs) u more e h b = other x (xs ++ r) e (fq.first x _ b)

      none_here : (xs : List T) → ts ≡ xs ++ r → ((a : A) → q'.derives xs a → ⊥) → (a : A) → (either q q').derives xs a → ⊥
      none_here [] e none a (inl w) = filled a w
      none_here (x ∷ xs) e none a (inl w) = other x (xs ++ r) e (fq.first x _ (fq.whole _ a w))
      none_here [] e none a (inr w) = none a w
      none_here (x ∷ xs) e none a (inr w) = none a w

      stops_here : Stops (either q q') xs r
      stops_here u more h (inl b) = not_other xs u more e h b
      stops_here u more h (inr b) = stops u more h b
  right filled ts other (Err (deep r)) (xs, u, more, h, e, b, nb, w) = (xs, u, more, h, e, inr b, not_begun, inr w)
    where
      not_other : (xs : List T) → ts ≡ xs ++ r → p.begins (xs ++ u ∷ []) → ⊥
      not_other [] e b = other u more (e ∙ h) (fq.first u [] (below.begun _ b))
      not_other (x ∷ xs) e b = other x (xs ++ r) e (fq.first x _ (below.begun _ b))

      not_begun : (either p p').begins (xs ++ u ∷ []) → ⊥
      not_begun (inl b) = not_other xs e b
      not_begun (inr b) = nb b

  pub answers_choose : (test : T → Bool) (r s : List T → Outcome T A) → ((a : A) → q.derives [] a → ⊥) → ((t : T) → F t → G t → ⊥) → ((t : T) → test t ≡ true → q.begins (t ∷ [])) → ((t : T) → test t ≡ false → F t → ⊥) → (ts : List T) → Answers p q ts (r ts) → Answers p' q' ts (s ts) → Answers (either p p') (either q q') ts (choose test r s ts)
  answers_choose test r s filled apart hit miss [] h k = right filled [] (λ t more e f. cc) (s []) k
  answers_choose test r s filled apart hit miss (t ∷ ts) h k = at (test t) refl
    where
      at : (b : Bool) → test t ≡ b → Answers (either p p') (either q q') (t ∷ ts) (cond b (r (t ∷ ts)) (s (t ∷ ts)))
      at true e = left t ts (hit t e) (apart t (fq.first t [] (hit t e))) (r (t ∷ ts)) h
      at false e = right filled (t ∷ ts) (λ u more w f. let same : t ≡ u = cc in miss t e (subst F (sym same) f)) (s (t ∷ ts)) k

-- ---- any number of parts

pub answers_same : {T A : Type 0} {p q p' q' : Part T A} → Below p p' → Below p' p → Below q' q → (ts : List T) (out : Outcome T A) → Below q q' → Answers p q ts out → Answers p' q' ts out
answers_same a b c ts (Ok r) d (xs, e, w, stops) = (xs, e, a.derived xs r.0 w, λ t more h g. stops t more h (c.begun _ g))
answers_same a b c ts (Err (syntax r)) d (xs, e, w, none, stops) = (xs, e, a.begun xs w, (λ x g. none x (c.derived xs x g)), λ t more h g. stops t more h (c.begun _ g))
answers_same a b c ts (Err (deep r)) d (xs, t, more, h, e, w, nb, g) = (xs, t, more, h, e, a.begun xs w, (λ k. nb (b.begun _ k)), d.begun _ g)

-- the loop, unrolled once
abbrev pub Onward : {S T A : Type 0} → (S → Part T A) → (S → A → S) → S → A → Part T (List A)
Onward p next s a = then (many p next (next s a)) (λ items. nothing (a ∷ items))

abbrev pub Turn : {S T A : Type 0} → (S → Part T A) → (S → A → S) → S → Part T (List A)
Turn p next s = either (then (p s) (Onward p next s)) (nothing [])

turn_out : {S T A : Type 0} (p : S → Part T A) (next : S → A → S) (s : S) → ((s : S) → (p s).begins []) → Below (Turn p next s) (many p next s)
turn_out {S} {T} {A} p next s starts = record { derived = derived; begun = begun }
  where
    unrolled : (xs ys us vs : List T) (items : List A) → ys ≡ us ++ vs → vs ≡ [] → xs ++ ys ≡ xs ++ us
    unrolled xs ys us vs items e h = ap (λ l. xs ++ l) (e ∙ ap (λ l. us ++ l) h ∙ append-nil us)

    derived : (ts : List T) (items : List A) → (Turn p next s).derives ts items → Many p next s ts items
    derived ts items (inl (xs, ys, a, e, d, (us, vs, rest, e', m, h))) = subst (λ l. Many p next s ts l) h.1 (xs, us, e ∙ unrolled xs ys us vs rest e' h.0, d, m)
    derived ts items (inr h) = subst (λ l. Many p next s ts l) h.1 h.0

    begun : (ts : List T) → (Turn p next s).begins ts → (many p next s).begins ts
    begun ts (inl (inl b)) = ([], [], ts, refl, refl, b)
    begun ts (inl (inr (xs, ys, a, e, d, inl (items, us, vs, e', m, b)))) = (a ∷ items, xs ++ us, vs, e ∙ ap (λ l. xs ++ l) e' ∙ sym (append_assoc xs us vs), (xs, us, refl, d, m), b)
    begun ts (inl (inr (xs, ys, a, e, d, inr (us, vs, items, e', m, h)))) = (a ∷ items, xs ++ us, [], e ∙ unrolled xs ys us vs items e' h ∙ sym (append-nil (xs ++ us)), (xs, us, refl, d, m), starts _)
    begun ts (inr h) = ([], [], ts, refl, refl, subst (λ l. (p s).begins l) (sym h) (starts s))

turn_in : {S T A : Type 0} (p : S → Part T A) (next : S → A → S) (s : S) → Below (many p next s) (Turn p next s)
turn_in {S} {T} {A} p next s = record { derived = derived; begun = begun }
  where
    derived : (ts : List T) (items : List A) → Many p next s ts items → (Turn p next s).derives ts items
    derived ts [] d = inr (d, refl)
    derived ts (a ∷ items) (xs, ys, e, d, m) = inl (xs, ys, a, e, d, (ys, [], items, sym (append-nil ys), m, (refl, refl)))

    begun : (ts : List T) → (many p next s).begins ts → (Turn p next s).begins ts
    begun ts ([], xs, ys, e, d, b) = inl (inl (subst (λ l. (p s).begins l) (sym (e ∙ ap (λ l. l ++ ys) d)) b))
    begun ts (a ∷ items, xs, ys, e, (us, vs, e', d, m), b) = inl (inr (us, vs ++ ys, a, e ∙ ap (λ l. l ++ ys) e' ∙ append_assoc us vs ys, d, inl (items, vs, ys, refl, m, b)))

shorter : {T : Type 0} (xs ys ts : List T) (n : ℕ) → ts ≡ xs ++ ys → (xs ≡ [] → ⊥) → length ts ≤ suc n → length ys ≤ n
shorter [] ys ts n e h le = absurd (h refl)
shorter (x ∷ xs) ys ts n e h le = omega (arith, ap length e, length-append xs ys)

module _ {S T A : Type 0} {p q : S → Part T A} {next : S → A → S} {F : S → T → Type 0} {M : S → A → T → Type 0} {N : T → Type 0} (fp : (s : S) → Fine (p s) (F s) (M s)) (fq : (s : S) → Fine (q s) (F s) (M s)) (below : (s : S) → Below (p s) (q s)) (filled : (s : S) (a : A) → (q s).derives [] a → ⊥) (apart : (s : S) (a : A) (t : T) → M s a t → F (next s a) t → ⊥) (more_of_item : (s : S) (a : A) (t : T) → M s a t → N t) (more_of_next : (s : S) (t : T) → F s t → N t) where
  many_derived : (items : List A) (s : S) (ts : List T) → Many p next s ts items → Many q next s ts items
  many_derived [] s ts d = d
  many_derived (a ∷ items) s ts (xs, ys, e, d, m) = (xs, ys, e, (below s).derived xs a d, many_derived items (next s a) ys m)

  pub below_many : (s : S) → Below (many p next s) (many q next s)
  below_many s = record { derived = λ ts items d. many_derived items s ts d; begun = λ ts (items, xs, ys, e, m, b). (items, xs, ys, e, many_derived items s xs m, (below (state next s items)).begun ys b) }

  all_fine : (s : S) → Fine (many q next s) (F s) (λ items t. N t)
  all_fine s = fine_many fq filled apart more_of_item more_of_next s

  fine_onward : (s : S) (a : A) → Fine (Onward q next s a) (F (next s a)) (λ items t. N t)
  fine_onward s a = fine_then (all_fine (next s a)) (λ items. fine_wider (fine_nothing (a ∷ items)) (λ t x. x) (λ b t x. absurd x)) (λ items t m g. g) (λ t f. f) (λ items t d g. absurd g) (λ items b t d n. n)

  fine_turn : (s : S) → Fine (then (q s) (Onward q next s)) (F s) (λ items t. N t)
  fine_turn s = fine_then (fq s) (fine_onward s) (apart s) (λ t f. f) (λ a t d g. absurd (filled s a d)) (λ a b t d m. more_of_item s a t m)

  filled_turn : (s : S) (items : List A) → (then (q s) (Onward q next s)).derives [] items → ⊥
  filled_turn s items ([], ys, a, e, d, w) = filled s a d
  filled_turn s items (x ∷ xs, ys, a, e, d, w) = cc

  filled_item : (s : S) (xs : List T) (a : A) → (p s).derives xs a → xs ≡ [] → ⊥
  filled_item s xs a d e = filled s a (subst (λ l. (q s).derives l a) e ((below s).derived xs a d))

  rest_shorter : (s : S) (ts : List T) (n : ℕ) (out : Outcome T A) (a : A) (rest : List T) → length ts ≤ suc n → Answers (p s) (q s) ts out → out ≡ Ok (a, rest) → length rest ≤ n
  rest_shorter s ts n (Ok r) a rest le (xs, e, d, stops) h = let same : r.1 ≡ rest = cc in shorter xs rest ts n (e ∙ ap (λ l. xs ++ l) same) (filled_item s xs r.0 d) le
  rest_shorter s ts n (Err r) a rest le takes h = cc

  pub answers_many : (test : S → T → Bool) (r : S → List T → Outcome T A) → ((s : S) (t : T) → test s t ≡ true → (q s).begins (t ∷ [])) → ((s : S) (t : T) → test s t ≡ false → F s t → ⊥) → ((s : S) (ts : List T) → Answers (p s) (q s) ts (r s ts)) → (n : ℕ) (s : S) (ts : List T) → length ts ≤ n → Answers (many p next s) (many q next s) ts (take_many test r next n s ts)
  answers_many test r hit miss reads zero s [] le = ([], refl, refl, λ t more h g. cc)
  answers_many test r hit miss reads zero s (t ∷ ts) le = absurd (omega arith)
  answers_many test r hit miss reads (suc n) s ts le =
      answers_same (turn_out p next s (λ s. (fp s).starts)) (turn_in p next s) (turn_in q next s) ts _ (turn_out q next s (λ s. (fq s).starts))
      (answers_choose (fine_turn s) (fine_nothing []) (below_then (below s) (λ a. below_then (below_many (next s a)) (λ items. below_self))) below_self (test s) (λ l. and_then (r s l) (λ a rest. and_then (take_many test r next n (next s a) rest) (λ items more. Ok (a ∷ items, more)))) (λ l. Ok ([], l)) (filled_turn s) (λ t f g. g) (λ t e. inl (hit s t e)) (miss s) ts
      (answers_then (fq s) (fine_onward s) (apart s) (below s) (λ a. below_then (below_many (next s a)) (λ items. below_self)) (fp s).whole ts (r s ts) (λ a rest. and_then (take_many test r next n (next s a) rest) (λ items more. Ok (a ∷ items, more))) (reads s ts)
      (λ a rest h. answers_then (all_fine (next s a)) (λ items. fine_nothing (a ∷ items)) (λ items t m g. g) (below_many (next s a)) (λ items. below_self) (λ xs items d. many_whole fp (λ u b e. filled u b ((below u).derived [] b e)) apart more_of_item more_of_next (next s a) xs items d) rest (take_many test r next n (next s a) rest) (λ items more. Ok (a ∷ items, more)) (answers_many test r hit miss reads n (next s a) rest (rest_shorter s ts n (r s ts) a rest le (reads s ts) h)) (λ items rest' k. answers_nothing (a ∷ items) rest')))
      (answers_nothing {A = List A} [] ts))
