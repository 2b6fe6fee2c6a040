-- Members of lists.
use Rattle.std.proofs.Common.{◌≡◌, ◌⊎◌, subst, Bool, true, false, ◌&&◌, ◌||◌, cond, List, [], ◌∷◌, ◌++◌, map, filter, refl, ap, sym, ◌∙◌, inl, inr}
use Rattle.std.proofs.lemmas.Bool.{false≢true}
use Rattle.std.specs.List.{list_all, list_any, flat_map}

abbrev pub In : {A : Type 0} → A → List A → Type 0
In x [] = ⊥
In x (y ∷ ys) = (x ≡ y) ⊎ In x ys

pub in_left : {A : Type 0} (xs ys : List A) (x : A) → In x xs → In x (xs ++ ys)
in_left [] ys x within = absurd within
in_left (y ∷ xs) ys x (inl is) = inl is
in_left (y ∷ xs) ys x (inr within) = inr (in_left xs ys x within)

pub in_right : {A : Type 0} (xs ys : List A) (x : A) → In x ys → In x (xs ++ ys)
in_right [] ys x within = within
in_right (y ∷ xs) ys x within = inr (in_right xs ys x within)

pub in_either : {A : Type 0} (xs ys : List A) (x : A) → In x (xs ++ ys) → In x xs ⊎ In x ys
in_either [] ys x within = inr within
in_either (y ∷ xs) ys x (inl is) = inl (inl is)
in_either (y ∷ xs) ys x (inr within) = elim (in_either xs ys x within) [ inl here ↦ inl (inr here) | inr there ↦ inr there ]

pub in_map : {A B : Type 0} (f : A → B) (xs : List A) (x : A) → In x xs → In (f x) (map f xs)
in_map f [] x within = absurd within
in_map f (y ∷ xs) x (inl is) = inl (ap f is)
in_map f (y ∷ xs) x (inr within) = inr (in_map f xs x within)

pub of_map : {A B : Type 0} (f : A → B) (xs : List A) (z : B) → In z (map f xs) → (x : A) × In x xs × (z ≡ f x)
of_map f [] z within = absurd within
of_map f (y ∷ xs) z (inl is) = (y, inl refl, is)
of_map f (y ∷ xs) z (inr within) = let rest = of_map f xs z within in (rest.0, inr rest.1, rest.2)

pub in_filter : {A : Type 0} (p : A → Bool) (xs : List A) (x : A) → In x xs → p x ≡ true → In x (filter p xs)
in_filter p [] x within passes = absurd within
in_filter p (y ∷ xs) x (inl is) passes = subst_front (p y) (ap p (sym is) ∙ passes)
  where
    subst_front : (t : Bool) → t ≡ true → In x (cond t (y ∷ filter p xs) (filter p xs))
    subst_front true e = inl is
    subst_front false e = absurd (false≢true e)
in_filter p (y ∷ xs) x (inr within) passes = elim (p y) as (λ t. In x (cond t (y ∷ filter p xs) (filter p xs))) [ true ↦ inr (in_filter p xs x within passes) | false ↦ in_filter p xs x within passes ]

filter_tells : {A : Type 0} (p : A → Bool) (y : A) (xs : List A) (x : A) → (In x (filter p xs) → In x xs × (p x ≡ true)) → (t : Bool) → p y ≡ t → In x (cond t (y ∷ filter p xs) (filter p xs)) → In x (y ∷ xs) × (p x ≡ true)
filter_tells p y xs x rest true passes (inl is) = (inl is, ap p is ∙ passes)
filter_tells p y xs x rest true passes (inr inside) = (inr (rest inside).0, (rest inside).1)
filter_tells p y xs x rest false fails inside = (inr (rest inside).0, (rest inside).1)

pub of_filter : {A : Type 0} (p : A → Bool) (xs : List A) (x : A) → In x (filter p xs) → In x xs × (p x ≡ true)
of_filter p [] x within = absurd within
of_filter p (y ∷ xs) x within = filter_tells p y xs x (of_filter p xs x) (p y) refl within

pub in_flat : {A B : Type 0} (f : A → List B) (xs : List A) (x : A) (z : B) → In x xs → In z (f x) → In z (flat_map f xs)
in_flat f [] x z within inside = absurd within
in_flat {A = A} f (y ∷ xs) x z (inl is) inside = let P : A → Type 0 = λ v. In z (f v) in in_left (f y) (flat_map f xs) z (subst P is inside)
in_flat f (y ∷ xs) x z (inr within) inside = in_right (f y) (flat_map f xs) z (in_flat f xs x z within inside)

pub of_flat : {A B : Type 0} (f : A → List B) (xs : List A) (z : B) → In z (flat_map f xs) → (x : A) × In x xs × In z (f x)
of_flat f [] z within = absurd within
of_flat f (y ∷ xs) z within = elim (in_either (f y) (flat_map f xs) z within) [
  | inl here ↦ (y, inl refl, here)
  | inr there ↦ let rest = of_flat f xs z there in (rest.0, inr rest.1, rest.2)
]

-- ---- tests of all and of some

pub any_in : {A : Type 0} (p : A → Bool) (xs : List A) (x : A) → In x xs → p x ≡ true → list_any p xs ≡ true
any_in p [] x within passes = absurd within
any_in p (y ∷ xs) x (inl is) passes = ap (λ (t : Bool). t || list_any p xs) (ap p (sym is) ∙ passes)
any_in p (y ∷ xs) x (inr within) passes = ap (λ (t : Bool). p y || t) (any_in p xs x within passes) ∙ or_true (p y)
  where
    or_true : (t : Bool) → (t || true) ≡ true
    or_true true = refl
    or_true false = refl

any_tells : {A : Type 0} (p : A → Bool) (y : A) (xs : List A) → (list_any p xs ≡ true → (x : A) × In x xs × (p x ≡ true)) → (t : Bool) → p y ≡ t → (t || list_any p xs) ≡ true → (x : A) × In x (y ∷ xs) × (p x ≡ true)
any_tells p y xs rest true passes some = (y, inl refl, passes)
any_tells p y xs rest false fails some = ((rest some).0, inr (rest some).1, (rest some).2)

pub of_any : {A : Type 0} (p : A → Bool) (xs : List A) → list_any p xs ≡ true → (x : A) × In x xs × (p x ≡ true)
of_any p [] some = absurd (false≢true some)
of_any p (y ∷ xs) some = any_tells p y xs (of_any p xs) (p y) refl some

pub any_same : {A : Type 0} (p q : A → Bool) (xs : List A) → ((x : A) → In x xs → p x ≡ q x) → list_any p xs ≡ list_any q xs
any_same p q [] same = refl
any_same p q (y ∷ xs) same = ap (λ (t : Bool). t || list_any p xs) (same y (inl refl)) ∙ ap (λ (t : Bool). q y || t) (any_same p q xs (λ x within. same x (inr within)))

-- one that fails
pub all_fails : {A : Type 0} (p : A → Bool) (xs : List A) (x : A) → In x xs → p x ≡ false → list_all p xs ≡ false
all_fails p [] x within fails = absurd within
all_fails p (y ∷ xs) x (inl is) fails = ap (λ (t : Bool). t && list_all p xs) (ap p (sym is) ∙ fails)
all_fails p (y ∷ xs) x (inr within) fails = ap (λ (t : Bool). p y && t) (all_fails p xs x within fails) ∙ and_false (p y)
  where
    and_false : (t : Bool) → (t && false) ≡ false
    and_false true = refl
    and_false false = refl

all_tells : {A : Type 0} (p : A → Bool) (y : A) (xs : List A) → (list_all p xs ≡ false → (x : A) × In x xs × (p x ≡ false)) → (t : Bool) → p y ≡ t → (t && list_all p xs) ≡ false → (x : A) × In x (y ∷ xs) × (p x ≡ false)
all_tells p y xs rest true passes some = ((rest some).0, inr (rest some).1, (rest some).2)
all_tells p y xs rest false fails some = (y, inl refl, fails)

pub one_fails : {A : Type 0} (p : A → Bool) (xs : List A) → list_all p xs ≡ false → (x : A) × In x xs × (p x ≡ false)
one_fails p [] some = absurd (false≢true (sym some))
one_fails p (y ∷ xs) some = all_tells p y xs (one_fails p xs) (p y) refl some

pub all_same_test : {A : Type 0} (p q : A → Bool) (xs : List A) → ((x : A) → p x ≡ q x) → list_all p xs ≡ list_all q xs
all_same_test p q [] same = refl
all_same_test p q (y ∷ xs) same = ap (λ (t : Bool). t && list_all p xs) (same y) ∙ ap (λ (t : Bool). q y && t) (all_same_test p q xs same)
