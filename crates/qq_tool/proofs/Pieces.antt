-- Steps of reading, and the bytes behind a prefix: what is taken stood there, and what stands there is taken.
use Rattle.std.proofs.Common.{◌≡◌, ℕ, Bool, true, false, cond, eqb, List, [], ◌∷◌, ◌++◌, Option, Some, None, ◌⊎◌, inl, inr, refl, ◌≢◌}
use Rattle.std.specs.Prelude.{MatchOption}
use Rattle.std.specs.Borrow.{Bor}
use Rattle.std.proofs.lemmas.Bool.{eqb-true, eq-eqb}
use Rattle.qq_tool.specs.Reading.{◌>>=◌, Gives, after}

-- the value of a step that gave one
pub bind_some : {A B : Type 0} (o : Option A) (f : A → Option B) (y : B) → (o >>= f) ≡ Some y → (x : A) × (o ≡ Some x) × (f x ≡ Some y)
bind_some (Some x) f y e = (x, refl, e)
bind_some None f y e = absurd cc

-- a step behind a test
pub test_some : {A : Type 0} (b : Bool) (o : Option A) (y : A) → cond b o None ≡ Some y → (b ≡ true) × (o ≡ Some y)
test_some true o y e = (refl, e)
test_some false o y e = absurd cc

-- a value behind a test
pub unless_some : {A : Type 0} (b : Bool) (o : Option A) (y : A) → cond b None o ≡ Some y → (b ≡ false) × (o ≡ Some y)
unless_some true o y e = absurd cc
unless_some false o y e = (refl, e)

abbrev given : {A : Type 0} → A → Option A
given x = Some x

pub some_is : {A : Type 0} (x y : A) → given x ≡ given y → x ≡ y
some_is x y e = cc

pub none_or_some : {A : Type 0} (o : Option A) → (o ≡ None) ⊎ ((x : A) × (o ≡ Some x))
none_or_some None = inl refl
none_or_some (Some x) = inr (x, refl)

pub after_takes : (prefix bytes rest : List ℕ) → after prefix bytes ≡ Some rest → bytes ≡ prefix ++ rest
unfolding after
after_takes [] bytes rest e = cc
after_takes (c ∷ prefix) [] rest e = absurd cc
after_takes (c ∷ prefix) (byte ∷ bytes) rest e =
    let t = test_some (eqb byte c) (after prefix bytes) rest e in
    let same : byte ≡ c = eqb-true byte c t.0 in
    let others : bytes ≡ prefix ++ rest = after_takes prefix bytes rest t.1 in
    cc

pub after_again : (prefix rest : List ℕ) → after prefix (prefix ++ rest) ≡ Some rest
unfolding after
after_again [] rest = refl
after_again (c ∷ prefix) rest = rw (eq-eqb c c refl) (after_again prefix rest)

pub after_given : (prefix bytes : List ℕ) (found : Option (Bor (List ℕ))) → MatchOption found ((rest : List ℕ) → bytes ≢ prefix ++ rest) (λ rest. bytes ≡ prefix ++ rest.now) → Gives (λ rest. rest.now) found (after prefix bytes)
after_given prefix bytes (Some rest) e = rw e (after_again prefix rest.now)
after_given prefix bytes None none =
    elim (none_or_some (after prefix bytes)) [
      | inl e ↦ e
      | inr (rest, e) ↦ absurd (none rest (after_takes prefix bytes rest e))
    ]
