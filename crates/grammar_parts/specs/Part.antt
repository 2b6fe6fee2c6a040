-- A part of a grammar: which lists of tokens it derives, each with its value, and which lists begin it.
--
-- A list of tokens begins a part by the cases of the grammar: the earlier parts are derived whole, the
-- rest of the list begins the next part, and the empty list begins every part. Nothing is asked of the
-- parts that are still to come.
use Rattle.std.specs.Prelude.{◌≡◌, ◌⊎◌, List, [], ◌∷◌, ◌++◌, Option, Some}

pub record Part (T A : Type 0) : Type 1 where
  pub derives : List T → A → Type 0
  pub begins : List T → Type 0

-- no token, and this value
abbrev pub nothing : {T A : Type 0} → A → Part T A
nothing a = record {
  derives = λ ts b. (ts ≡ []) × (a ≡ b);
  begins = λ ts. ts ≡ [];
}

-- what no list of tokens is; the empty list begins it, as it begins every part
abbrev pub never : {T A : Type 0} → Part T A
never = record {
  derives = λ ts b. ⊥;
  begins = λ ts. ts ≡ [];
}

-- one token, which has a value by the test
abbrev pub one : {T A : Type 0} → (T → Option A) → Part T A
one {T} {A} test = record {
  derives = λ ts a. (t : T) × (ts ≡ t ∷ []) × (test t ≡ Some a);
  begins = λ ts. (ts ≡ []) ⊎ ((t : T) × (a : A) × (ts ≡ t ∷ []) × (test t ≡ Some a));
}

-- the first part, and behind it the part that its value asks for
abbrev pub then : {T A B : Type 0} → Part T A → (A → Part T B) → Part T B
then {T} {A} {B} p q = record {
  derives = λ ts b. (xs : List T) × (ys : List T) × (a : A) × (ts ≡ xs ++ ys) × p.derives xs a × (q a).derives ys b;
  begins = λ ts. p.begins ts ⊎ ((xs : List T) × (ys : List T) × (a : A) × (ts ≡ xs ++ ys) × p.derives xs a × (q a).begins ys);
}

-- one of the two parts
abbrev pub either : {T A : Type 0} → Part T A → Part T A → Part T A
either p q = record {
  derives = λ ts a. p.derives ts a ⊎ q.derives ts a;
  begins = λ ts. p.begins ts ⊎ q.begins ts;
}

-- any number of parts, each by the state that those before it leave
abbrev pub Many : {S T A : Type 0} → (S → Part T A) → (S → A → S) → S → List T → List A → Type 0
Many {S} {T} {A} p next s ts [] = ts ≡ []
Many {S} {T} {A} p next s ts (a ∷ items) = (xs : List T) × (ys : List T) × (ts ≡ xs ++ ys) × (p s).derives xs a × Many p next (next s a) ys items

-- the state behind some parts
abbrev pub state : {S A : Type 0} → (S → A → S) → S → List A → S
state next s [] = s
state next s (a ∷ items) = state next (next s a) items

abbrev pub many : {S T A : Type 0} → (S → Part T A) → (S → A → S) → S → Part T (List A)
many {S} {T} {A} p next s = record {
  derives = Many p next s;
  begins = λ ts. (items : List A) × (xs : List T) × (ys : List T) × (ts ≡ xs ++ ys) × Many p next s xs items × (p (state next s items)).begins ys;
}

-- any number of equal parts
abbrev pub nothing_kept : Unit {0}
nothing_kept = tt

abbrev pub repeated : {T A : Type 0} → Part T A → Part T (List A)
repeated p = many (λ s. p) (λ s a. s) nothing_kept
