-- Sets of kinds: what is in one, and what follows from a test that computes.
use Rattle.std.proofs.Common.{◌≡◌, ◌⊎◌, inl, inr, ℕ, Bool, true, false, cond, not, ◌&&◌, ◌||◌, List, [], ◌∷◌, ◌++◌, Option, Some, None, refl, sym, ap, subst, ◌∙◌}
use Rattle.std.specs.Prelude.{◌==◌}
use Rattle.std.proofs.lemmas.Bool.{eqb-true, eq-eqb}
use Rattle.grammar_parts.specs.Reading.{heads}
use Rattle.grammar_parts.specs.Kinds.{has, within, disjoint, among, Among, marked, kinds_of, found_in, with_token, picked, is_some, by}

either_true : (a b : Bool) → (a || b) ≡ true → (a ≡ true) ⊎ (b ≡ true)
either_true true b e = inl refl
either_true false b e = inr e

true_left : (a b : Bool) → a ≡ true → (a || b) ≡ true
true_left true b e = refl
true_left false b e = absurd (cc)

true_right : (a b : Bool) → b ≡ true → (a || b) ≡ true
true_right true b e = refl
true_right false b e = e

pub both_true : (a b : Bool) → (a && b) ≡ true → (a ≡ true) × (b ≡ true)
both_true true b e = (refl, e)
both_true false b e = absurd (cc)

not_both : (b : Bool) → b ≡ true → not b ≡ true → ⊥
not_both true p q = cc
not_both false p q = cc

pub has_here : (x : ℕ) (xs : List ℕ) (k : ℕ) → k ≡ x → has (x ∷ xs) k ≡ true
has_here x xs k e = true_left (k == x) (has xs k) (eq-eqb k x e)

pub has_later : (x : ℕ) (xs : List ℕ) (k : ℕ) → has xs k ≡ true → has (x ∷ xs) k ≡ true
has_later x xs k e = true_right (k == x) (has xs k) e

pub has_cases : (x : ℕ) (xs : List ℕ) (k : ℕ) → has (x ∷ xs) k ≡ true → (k ≡ x) ⊎ (has xs k ≡ true)
has_cases x xs k e = elim (either_true (k == x) (has xs k) e) [ inl h ↦ inl (eqb-true k x h) | inr h ↦ inr h ]

pub has_within : (xs ys : List ℕ) → within xs ys ≡ true → (k : ℕ) → has xs k ≡ true → has ys k ≡ true
has_within [] ys e k h = absurd (cc)
has_within (x ∷ xs) ys e k h =
    let b = both_true (has ys x) (within xs ys) e in
    elim (has_cases x xs k h) [ inl s ↦ subst (λ z. has ys z ≡ true) (sym s) b.0 | inr r ↦ has_within xs ys b.1 k r ]

pub has_apart : (xs ys : List ℕ) → disjoint xs ys ≡ true → (k : ℕ) → has xs k ≡ true → has ys k ≡ true → ⊥
has_apart [] ys e k h g = cc
has_apart (x ∷ xs) ys e k h g =
    let b = both_true (not (has ys x)) (disjoint xs ys) e in
    elim (has_cases x xs k h) [ inl s ↦ not_both (has ys x) (subst (λ z. has ys z ≡ true) s g) b.0 | inr r ↦ has_apart xs ys b.1 k r g ]

pub has_front : (xs ys : List ℕ) (k : ℕ) → has xs k ≡ true → has (xs ++ ys) k ≡ true
has_front [] ys k h = absurd (cc)
has_front (x ∷ xs) ys k h = elim (has_cases x xs k h) [ inl s ↦ has_here x (xs ++ ys) k s | inr r ↦ has_later x (xs ++ ys) k (has_front xs ys k r) ]

pub has_back : (xs ys : List ℕ) (k : ℕ) → has ys k ≡ true → has (xs ++ ys) k ≡ true
has_back [] ys k h = h
has_back (x ∷ xs) ys k h = has_later x (xs ++ ys) k (has_back xs ys k h)

pub has_either : (xs ys : List ℕ) (k : ℕ) → has (xs ++ ys) k ≡ true → (has xs k ≡ true) ⊎ (has ys k ≡ true)
has_either [] ys k h = inr h
has_either (x ∷ xs) ys k h = elim (has_cases x (xs ++ ys) k h) [
  | inl s ↦ inl (has_here x xs k s)
  | inr r ↦ elim (has_either xs ys k r) [ inl a ↦ inl (has_later x xs k a) | inr b ↦ inr b ]
]

pub miss : (b : Bool) → b ≡ false → b ≡ true → ⊥
miss b e h = cc

-- ---- tests of tokens

-- The kinds are those of the tokens for which the test has a value.
pub record Tells {T A : Type 0} (kind : T → ℕ) (test : T → Option A) (set : List ℕ) : Type 0 where
  pub sound : (t : T) (a : A) → test t ≡ Some a → Among kind set t
  pub complete : (t : T) → Among kind set t → by test t ≡ true

pub value_of : {A : Type 0} (o : Option A) → is_some o ≡ true → (a : A) × (o ≡ Some a)
value_of None e = absurd (cc)
value_of (Some a) e = (a, refl)

module _ {T : Type 0} (kind : T → ℕ) where
  marked_at : (k : ℕ) (t a : T) (b : Bool) → (kind t == k) ≡ b → cond b (Some t) None ≡ Some a → Among kind (k ∷ []) t
  marked_at k t a true e h = has_here k [] (kind t) (eqb-true (kind t) k e)
  marked_at k t a false e h = absurd (cc)

  told_at : (k : ℕ) (t : T) → Among kind (k ∷ []) t → by (marked kind k) t ≡ true
  told_at k t h = elim (has_cases k [] (kind t) h) [ inl e ↦ ap (λ b. is_some (cond b (Some t) None)) (eq-eqb (kind t) k e) | inr r ↦ absurd (cc) ]

  pub tells_marked : (k : ℕ) → Tells kind (marked kind k) (k ∷ [])
  tells_marked k = record { sound = λ t a e. marked_at k t a (kind t == k) refl e; complete = told_at k }

  module _ {A : Type 0} where
    found_sound : (rows : List (ℕ × A)) (k : ℕ) (a : A) → found_in rows k ≡ Some a → has (kinds_of rows) k ≡ true
    found_sound [] k a e = absurd (cc)
    found_sound (row ∷ rows) k a e = at (k == row.0) refl e (λ h. found_sound rows k a h)
      where
        at : (b : Bool) → (k == row.0) ≡ b → cond b (Some row.1) (found_in rows k) ≡ Some a → (found_in rows k ≡ Some a → has (kinds_of rows) k ≡ true) → has (kinds_of (row ∷ rows)) k ≡ true
        at true h e later = has_here row.0 (kinds_of rows) k (eqb-true k row.0 h)
        at false h e later = has_later row.0 (kinds_of rows) k (later e)

    found_complete : (rows : List (ℕ × A)) (k : ℕ) → has (kinds_of rows) k ≡ true → is_some (found_in rows k) ≡ true
    found_complete [] k h = absurd (cc)
    found_complete (row ∷ rows) k h = at (k == row.0) h (λ g. found_complete rows k g)
      where
        at : (b : Bool) → (b || has (kinds_of rows) k) ≡ true → (has (kinds_of rows) k ≡ true → is_some (found_in rows k) ≡ true) → is_some (cond b (Some row.1) (found_in rows k)) ≡ true
        at true h later = refl
        at false h later = later h

    token_sound : (t : T) (o : Option A) (a : A × T) → with_token t o ≡ Some a → (b : A) × (o ≡ Some b)
    token_sound t None a e = absurd (cc)
    token_sound t (Some b) a e = (b, refl)

    token_complete : (t : T) (o : Option A) → is_some o ≡ true → is_some (with_token t o) ≡ true
    token_complete t None e = e
    token_complete t (Some a) e = refl

    pub tells_picked : (rows : List (ℕ × A)) → Tells kind (picked kind rows) (kinds_of rows)
    tells_picked rows = record {
      sound = λ t a e. let s = token_sound t (found_in rows (kind t)) a e in found_sound rows (kind t) s.0 s.1;
      complete = λ t h. token_complete t (found_in rows (kind t)) (found_complete rows (kind t) h);
    }

  -- whether a token is in the set, by the test
  pub among_by : {A : Type 0} {test : T → Option A} {set : List ℕ} → Tells kind test set → (t : T) → among kind set t ≡ by test t
  among_by {A} {test} {set} tells t = at (test t) refl (has set (kind t)) refl
    where
      at : (o : Option A) → test t ≡ o → (b : Bool) → has set (kind t) ≡ b → has set (kind t) ≡ is_some (test t)
      at (Some a) e b h = tells.sound t a e ∙ sym (ap is_some e)
      at None e true h = h ∙ sym (tells.complete t h)
      at None e false h = h ∙ sym (ap is_some e)

  pub heads_by : {A : Type 0} {test : T → Option A} {set : List ℕ} → Tells kind test set → (ts : List T) → heads (among kind set) ts ≡ heads (by test) ts
  heads_by tells [] = refl
  heads_by tells (t ∷ ts) = among_by tells t
