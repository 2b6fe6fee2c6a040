-- Parts of the grammar by the kinds of their tokens: whatever tokens have these kinds, and wherever they stand, they
-- are the part.
use Rattle.std.proofs.Common.{◌≡◌, ℕ, true, cond, List, [], ◌∷◌, ◌++◌, map, Option, Some, None, sym, refl, ap, ◌∙◌, inl, inr}
use Rattle.std.specs.Prelude.{nat_eq}
use Rattle.std.specs.List.{flat_map, AllByRecursion}
use Rattle.std.proofs.lemmas.List.{append-nil}
use Rattle.std.proofs.lemmas.Bool.Decides.{nat_tests}
use Rattle.std.proofs.Common.{arith}
use Rattle.grammar_parts.specs.Part.{Part, nothing, then, either, many, repeated}
use Rattle.grammar_parts.specs.Kinds.{marked}
use Rattle.qir_module.specs.Tokens.{TokenKind, Token}
use Rattle.qir_module.specs.Words.{class_of, kind}
use Rattle.qir_module.specs.Grammar.{sign, ◌▸◌, value_of, separated, in_parens}
use Rattle.qir_text_tokens.specs.Signs.{kinds_of, joined_tokens, comma, left_paren, right_paren}

-- tokens of these kinds are the part with this value
pub record Makes {A : Type 0} (p : Part Token A) (tokens : List TokenKind) (a : A) : Type 0 where
  pub made : (xs : List Token) → kinds_of xs ≡ tokens → p.derives xs a

-- tokens of these kinds are the part with a value of this sort
pub record MakesSome {A : Type 0} (p : Part Token A) (tokens : List TokenKind) (P : A → Type 0) : Type 0 where
  pub made : (xs : List Token) → kinds_of xs ≡ tokens → (a : A) × p.derives xs a × P a

-- ---- tokens by their kinds

pub record Front (xs : List Token) (front : List TokenKind) (back : List TokenKind) : Type 0 where
  pub first : List Token
  pub rest : List Token
  pub split : xs ≡ first ++ rest
  pub first_are : kinds_of first ≡ front
  pub rest_are : kinds_of rest ≡ back

pub front_of : (xs : List Token) (front back : List TokenKind) → kinds_of xs ≡ front ++ back → Front xs front back
front_of xs [] back e = record { first = []; rest = xs; split = refl; first_are = refl; rest_are = e }
front_of [] (k ∷ front) back e = absurd (cc)
front_of (x ∷ xs) (k ∷ front) back e =
    let head : x.kind ≡ k = cc in
    let tail : kinds_of xs ≡ front ++ back = cc in
    let more = front_of xs front back tail in
    record {
      first = x ∷ more.first;
      rest = more.rest;
      split = ap (λ (ys : List Token). x ∷ ys) more.split;
      first_are = ap (λ (y : TokenKind). y ∷ kinds_of more.first) head ∙ ap (λ (ys : List TokenKind). k ∷ ys) more.first_are;
      rest_are = more.rest_are;
    }

pub no_tokens : (xs : List Token) → kinds_of xs ≡ [] → xs ≡ []
no_tokens [] e = refl
no_tokens (x ∷ xs) e = absurd (cc)

pub record Single (xs : List Token) (k : TokenKind) : Type 0 where
  pub token : Token
  pub is : xs ≡ token ∷ []
  pub kind_is : token.kind ≡ k

pub single : (xs : List Token) (k : TokenKind) → kinds_of xs ≡ k ∷ [] → Single xs k
single [] k e = absurd (cc)
single (x ∷ xs) k e =
    let head : x.kind ≡ k = cc in
    let tail : kinds_of xs ≡ [] = cc in
    record { token = x; is = ap (λ (ys : List Token). x ∷ ys) (no_tokens xs tail); kind_is = head }

-- ---- one token

pub value_made : {A : Type 0} (test : TokenKind → Option A) {k : TokenKind} {a : A} → test k ≡ Some a → Makes (value_of test) (k ∷ []) a
value_made test {k} e = record { made = λ xs f. let s = single xs k f in (s.token, s.is, ap test s.kind_is ∙ e) }

pub eqb_same : (n : ℕ) → nat_eq n n ≡ true
eqb_same n = grind (arith, nat_tests)

sign_at : (x : Token) (k : TokenKind) (n : ℕ) → x.kind ≡ k → class_of k ≡ n → marked kind n x ≡ Some x
sign_at x k n e f = ap (λ (m : ℕ). cond (nat_eq m n) (Some x) None) (ap class_of e ∙ f) ∙ ap (λ b. cond b (Some x) None) (eqb_same n)

pub behind : {A : Type 0} {q : Part Token A} {tokens : List TokenKind} {a : A} {n : ℕ} {k : TokenKind} → class_of k ≡ n → Makes q tokens a → Makes (sign n ▸ q) (k ∷ tokens) a
behind {tokens = tokens} {n = n} {k = k} e m = record {
  made = λ xs f.
      let s = front_of xs (k ∷ []) tokens f in
      let x = single s.first k s.first_are in
      (s.first, s.rest, x.token, s.split, (x.token, x.is, sign_at x.token k n x.kind_is e), m.made s.rest s.rest_are);
}

-- ---- parts one behind the other

pub nothing_made : {A : Type 0} {a b : A} → a ≡ b → Makes (nothing a) [] b
nothing_made e = record { made = λ xs f. (no_tokens xs f, e) }

pub then_made : {A B : Type 0} {p : Part Token A} {q : A → Part Token B} {front back : List TokenKind} {a : A} {b : B} → Makes p front a → Makes (q a) back b → Makes (then p q) (front ++ back) b
then_made {front = front} {back = back} {a = a} m n = record {
  made = λ xs f. let s = front_of xs front back f in (s.first, s.rest, a, s.split, m.made s.first s.first_are, n.made s.rest s.rest_are);
}

pub with_value : {A B : Type 0} {p : Part Token A} {f : A → B} {tokens : List TokenKind} {a : A} {b : B} → Makes p tokens a → f a ≡ b → Makes (then p (λ x. nothing (f x))) tokens b
with_value {tokens = tokens} m e = record {
  made = λ xs g. let s = front_of xs tokens [] (g ∙ sym (append-nil tokens)) in (s.first, s.rest, _, s.split, m.made s.first s.first_are, (no_tokens s.rest s.rest_are, e));
}

-- the same, in other words
pub tokens_so : {A : Type 0} {p : Part Token A} {xs ys : List TokenKind} {a : A} → xs ≡ ys → Makes p ys a → Makes p xs a
tokens_so e m = record { made = λ zs f. m.made zs (f ∙ e) }

pub left_made : {A : Type 0} {p q : Part Token A} {tokens : List TokenKind} {a : A} → Makes p tokens a → Makes (either p q) tokens a
left_made m = record { made = λ xs e. inl (m.made xs e) }

pub right_made : {A : Type 0} {p q : Part Token A} {tokens : List TokenKind} {a : A} → Makes q tokens a → Makes (either p q) tokens a
right_made m = record { made = λ xs e. inr (m.made xs e) }

-- ---- values of some sort

pub sign_some : {n : ℕ} {k : TokenKind} → class_of k ≡ n → MakesSome (sign n) (k ∷ []) (λ x. Unit {0})
sign_some {n} {k} e = record { made = λ xs f. let x = single xs k f in (x.token, (x.token, x.is, sign_at x.token k n x.kind_is e), tt) }

pub behind_some : {A : Type 0} {q : Part Token A} {tokens : List TokenKind} {P : A → Type 0} {n : ℕ} {k : TokenKind} → class_of k ≡ n → MakesSome q tokens P → MakesSome (sign n ▸ q) (k ∷ tokens) P
behind_some {tokens = tokens} {n = n} {k = k} e m = record {
  made = λ xs f.
      let s = front_of xs (k ∷ []) tokens f in
      let x = single s.first k s.first_are in
      let r = m.made s.rest s.rest_are in
      (r.0, (s.first, s.rest, x.token, s.split, (x.token, x.is, sign_at x.token k n x.kind_is e), r.1), r.2);
}

pub then_some : {A B : Type 0} {p : Part Token A} {q : A → Part Token B} {front back : List TokenKind} {a : A} {P : B → Type 0} → Makes p front a → MakesSome (q a) back P → MakesSome (then p q) (front ++ back) P
then_some {front = front} {back = back} {a = a} m n = record {
  made = λ xs f.
      let s = front_of xs front back f in
      let r = n.made s.rest s.rest_are in
      (r.0, (s.first, s.rest, a, s.split, m.made s.first s.first_are, r.1), r.2);
}

pub some_then : {A B : Type 0} {p : Part Token A} {q : A → Part Token B} {front back : List TokenKind} {P : A → Type 0} {b : B} → MakesSome p front P → ((a : A) → P a → Makes (q a) back b) → Makes (then p q) (front ++ back) b
some_then {front = front} {back = back} m n = record {
  made = λ xs f.
      let s = front_of xs front back f in
      let r = m.made s.first s.first_are in
      (s.first, s.rest, r.0, s.split, r.1, (n r.0 r.2).made s.rest s.rest_are);
}

pub some_nothing : {A : Type 0} {a : A} {P : A → Type 0} → P a → MakesSome (nothing a) [] P
some_nothing {a = a} h = record { made = λ xs f. (a, (no_tokens xs f, refl), h) }

pub some_value : {A B : Type 0} {p : Part Token A} {f : A → B} {tokens : List TokenKind} {P : A → Type 0} {Q : B → Type 0} → MakesSome p tokens P → ((a : A) → P a → Q (f a)) → MakesSome (then p (λ x. nothing (f x))) tokens Q
some_value {f = f} {tokens = tokens} m h = record {
  made = λ xs g.
      let s = front_of xs tokens [] (g ∙ sym (append-nil tokens)) in
      let r = m.made s.first s.first_are in
      (f r.0, (s.first, s.rest, r.0, s.split, r.1, (no_tokens s.rest s.rest_are, refl)), h r.0 r.2);
}

pub some_so : {A : Type 0} {p : Part Token A} {xs ys : List TokenKind} {P : A → Type 0} → xs ≡ ys → MakesSome p ys P → MakesSome p xs P
some_so e m = record { made = λ zs f. m.made zs (f ∙ e) }

-- ---- any number of parts

module _ {S A : Type 0} (p : S → Part Token A) (next : S → A → S) where
  pub many_none : (s : S) → Makes (many p next s) [] []
  many_none s = record { made = λ xs e. no_tokens xs e }

  pub many_more : (s : S) (a : A) (items : List A) {front back : List TokenKind} → Makes (p s) front a → Makes (many p next (next s a)) back items → Makes (many p next s) (front ++ back) (a ∷ items)
  many_more s a items {front} {back} m n = record {
    made = λ xs e. let f = front_of xs front back e in (f.first, f.rest, f.split, m.made f.first f.first_are, n.made f.rest f.rest_are);
  }

pub repeated_made : {A : Type 0} (p : Part Token A) (tokens : A → List TokenKind) (good : A → Type 0) → ((a : A) → good a → Makes p (tokens a) a) → (items : List A) → AllByRecursion good items → Makes (repeated p) (flat_map tokens items) items
repeated_made p tokens good each [] h = many_none (λ s. p) (λ s a. s) tt
repeated_made p tokens good each (a ∷ items) h = many_more (λ s. p) (λ s a. s) tt a items (each a h.0) (repeated_made p tokens good each items h.1)

-- ---- lists

joined_split : {A : Type 0} (tokens : A → List TokenKind) (x : A) (xs : List A) → joined_tokens (map tokens (x ∷ xs)) ≡ tokens x ++ flat_map (λ y. comma ∷ tokens y) xs
joined_split tokens x [] = sym (append-nil (tokens x))
joined_split tokens x (y ∷ ys) = ap (λ (zs : List TokenKind). tokens x ++ comma ∷ zs) (joined_split tokens y ys)

pub separated_made : {A : Type 0} (item : Part Token A) (tokens : A → List TokenKind) (good : A → Type 0) → ((a : A) → good a → Makes item (tokens a) a) → (x : A) (xs : List A) → AllByRecursion good (x ∷ xs) → Makes (separated item) (joined_tokens (map tokens (x ∷ xs))) (x ∷ xs)
separated_made item tokens good each x xs h =
    tokens_so (joined_split tokens x xs)
    (then_made (each x h.0) (with_value (repeated_made (sign 44 ▸ item) (λ y. comma ∷ tokens y) good (λ y k. behind refl (each y k)) xs h.1) refl))

pub in_parens_made : {A : Type 0} (item : Part Token A) (tokens : A → List TokenKind) (good : A → Type 0) → ((a : A) → good a → Makes item (tokens a) a) → (xs : List A) → AllByRecursion good xs → Makes (in_parens item) (left_paren ∷ joined_tokens (map tokens xs) ++ right_paren ∷ []) xs
in_parens_made item tokens good each [] h = behind refl (then_made (right_made (nothing_made refl)) (behind refl (nothing_made refl)))
in_parens_made item tokens good each (x ∷ xs) h = behind refl (then_made (left_made (separated_made item tokens good each x xs h)) (behind refl (nothing_made refl)))
