-- A fact of each element of a list, one element further.
use Rattle.std.proofs.Common.{◌≡◌, ℕ, zero, suc, ◌+◌, ◌<◌, ⊎_elim, List, [], ◌∷◌, length, get_or, refl, subst, arith}
use Rattle.std.proofs.lemmas.Bool.{cases_lt}

any_default : {A : Type 0} (xs : List A) (i : ℕ) (d e : A) → i < length xs → get_or xs i d ≡ get_or xs i e
any_default [] i d e l = absurd (omega (arith, l))
any_default (x ∷ xs) zero d e l = refl
any_default (x ∷ xs) (suc i) d e l = any_default xs i d e (omega (arith, l))

pub held_next : {A : Type 0} (P : A → Type 0) (xs : List A) (i : ℕ) (e : A) → i < length xs → ((k : ℕ) (d : A) → k < i → P (get_or xs k d)) → P (get_or xs i e) → (k : ℕ) (d : A) → k < i + 1 → P (get_or xs k d)
held_next P xs i e l before here k d lt =
    ⊎_elim (λ below. before k d below)
    (λ past. let same : i ≡ k = omega (arith, past, lt) in subst (λ (n : ℕ). P (get_or xs n d)) same (subst P (any_default xs i e d l) here))
    (cases_lt k i)
