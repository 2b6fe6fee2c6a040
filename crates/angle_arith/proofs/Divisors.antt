-- Common divisors of naturals, and fractions of naturals in lowest terms.
use Rattle.std.proofs.Common.{◌≡◌, ℕ, zero, suc, ◌+◌, ◌*◌, ◌/◌, ◌%◌, ◌<◌, ◌≤◌, sym, ◌∙◌, ap, subst, arith, mul-one, one-mul, mul_comm, mul-zero, eq-zero-or-pos, mul-lt-mul_of_pos_right, mul-pos, div-add-mod', ⊎_elim}
use Rattle.std.proofs.Math.Nat.{dvd-mul_left, dvd-mul_right, dvd_of_mul-dvd-mul_right, mul-dvd-mul_right, one-dvd, dvd-mod_iff}
use Rattle.std.proofs.lemmas.Nat.{mod-mul-add}
use Rattle.std.proofs.lemmas.Nat.Gcd.{dvd_refl, dvd-zero, dvd_antisymm, le_of_dvd, IsGcd-from_zero, IsGcd-from_mod, IsGcd-swap}
use Rattle.std.specs.Int.{IsGcd, ◌∣◌}

-- one step of Euclid's algorithm, forwards
IsGcd-to_mod : (a b g : ℕ) → IsGcd a b g → IsGcd b (a % b) g
IsGcd-to_mod a b g h = (h.1, (dvd-mod_iff g h.1).1 h.0, λ d p q. h.2 d ((dvd-mod_iff d p).0 q) p)

mod-mul : (k a b : ℕ) → 0 < k → 0 < b → k * a % (k * b) ≡ k * (a % b)
mod-mul k a b k_some b_some =
    let below : a % b < b = omega arith in
    let small : k * (a % b) < k * b = omega (arith, mul-lt-mul_of_pos_right below k_some) in
    let parts : k * a ≡ a / b * (k * b) + k * (a % b) = omega (arith, ap (λ n. k * n) (div-add-mod' a b)) in
    rw parts (mod-mul-add (a / b) (k * b) (k * (a % b)) small)

-- a factor of both numbers is one of their greatest common divisor, by Euclid's algorithm on a and b
IsGcd-mul_below : (n k a b g : ℕ) → 0 < k → b < n → IsGcd a b g → IsGcd (k * a) (k * b) (k * g)
IsGcd-mul_below zero k a b g some below h = absurd (omega arith)
IsGcd-mul_below (suc n) k a zero g some below h =
    let same = dvd_antisymm (h.2 a (dvd_refl a) (dvd-zero a)) h.0 in
    subst (λ x. IsGcd (k * a) (k * zero) (k * x)) same (IsGcd-from_zero (k * a) (k * zero) (mul-zero k))
IsGcd-mul_below (suc n) k a (suc b) g some below h =
    let rest : a % suc b < suc b = omega arith in
    let step = IsGcd-mul_below n k (suc b) (a % suc b) g some (omega arith) (IsGcd-to_mod a (suc b) g h) in
    let turned = subst (λ x. IsGcd (k * suc b) x (k * g)) (sym (mod-mul k a (suc b) some (omega arith))) step in
    IsGcd-from_mod (k * a) (k * suc b) (k * g) turned

-- a divisor of a product that has no divisor in common with one factor divides the other
pub dvd_from_coprime : (n d q : ℕ) → IsGcd n d 1 → d ∣ n * q → d ∣ q
dvd_from_coprime n d q coprime h =
    ⊎_elim (λ none. subst (λ x. d ∣ x) (sym none) (dvd-zero d)) (λ some. by some) (eq-zero-or-pos q)
  where
    by : 0 < q → d ∣ q
    by some =
        let both = IsGcd-mul_below (suc d) q n d 1 some (omega arith) coprime in
        subst (λ x. d ∣ x) (mul-one q) (both.2 d (subst (λ x. d ∣ x) (mul_comm n q) h) (dvd-mul_left d q))

-- what is left of two numbers without their greatest common divisor has no divisor in common
pub coprime_from_IsGcd : (n d g : ℕ) → 0 < g → IsGcd (n * g) (d * g) g → IsGcd n d 1
coprime_from_IsGcd n d g some h = (
  one-dvd n,
  one-dvd d,
  λ e p q.
      let both = h.2 (e * g) (mul-dvd-mul_right e p g) (mul-dvd-mul_right e q g) in
      dvd_of_mul-dvd-mul_right e some (subst (λ x. e * g ∣ x) (sym (one-mul g)) both),
)

-- no fraction that is the same has smaller numbers
pub least_from_coprime : (n d p q : ℕ) → 0 < q → IsGcd n d 1 → p * d ≡ n * q → (n ≤ p) × (d ≤ q)
least_from_coprime n d p q some coprime e =
    let d_divides = dvd_from_coprime n d q coprime (subst (λ x. d ∣ x) e (dvd-mul_left d p)) in
    let n_divides = dvd_from_coprime d n p (IsGcd-swap n d 1 coprime) (subst (λ x. n ∣ x) (sym e ∙ mul_comm p d) (dvd-mul_right n q)) in
    (⊎_elim (λ none. by none) (λ more. le_of_dvd more n_divides) (eq-zero-or-pos p), le_of_dvd some d_divides)
  where
    by : p ≡ 0 → n ≤ p
    by none = ⊎_elim (λ zero_n. omega arith) (λ some_n. absurd (omega (arith, mul-pos some_n some, ap (λ x. x * d) none))) (eq-zero-or-pos n)
