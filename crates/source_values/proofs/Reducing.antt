-- Numbers that are congruent modulo 2^64.
use Rattle.std.proofs.Common.{◌≡◌, ℕ, zero, suc, ◌+◌, ◌-◌, ◌*◌, ◌/◌, ◌%◌, ◌^◌, ◌≤◌, ◌↔◌, Bool, true, false, Some, ℤ, pos, negsuc, ◌+ℤ◌, ◌-ℤ◌, ◌*ℤ◌, refl, sym, ap, subst, ◌∙◌, arith}
use Rattle.std.specs.Int.{int_rem_euclid}
use Rattle.std.specs.Int.RustNames.{unsigned_abs}
use Rattle.std.specs.Ordering.{int_eq}
use Rattle.std.proofs.Math.Nat.{div-add-mod'}
use Rattle.std.proofs.lemmas.Int.{ints}
use Rattle.std.proofs.lemmas.Nat.{pow-add}
use Rattle.word_arith.specs.declared.word_ty.WordTy.{WordTy}
use Rattle.word_arith.specs.Whole.{IsCongruent}
use Rattle.word_arith.specs.WordTy.{reduced}
use Rattle.qasm_types.specs.declared.ty.Ty.TheVariants as t
use Rattle.qasm_types.specs.Values.{Truth, Number, Count}
use Rattle.source_values.specs.Reduced.{ReduceAlike}

pub same_congruent : (a b : ℤ) → a ≡ b → IsCongruent (2 ^ 64) a b
same_congruent a b e = (pos 0, omega (arith, ints, e))

less : (m j : ℕ) (a b : ℤ) → a +ℤ pos (j * m) ≡ b → IsCongruent m a b
less m zero a b e = (pos 0, omega (arith, ints, e))
less m (suc j) a b e = (negsuc j, omega (arith, ints, e))

more : (m j : ℕ) (a b : ℤ) → a ≡ b +ℤ pos (j * m) → IsCongruent m a b
more m j a b e = (pos j, omega (arith, ints, e))

pub rest_congruent : (n : ℕ) → IsCongruent (2 ^ 64) (pos (n % 2 ^ 64)) (pos n)
rest_congruent n = less (2 ^ 64) (n / 2 ^ 64) (pos (n % 2 ^ 64)) (pos n) (omega (arith, ints, div-add-mod' n (2 ^ 64)))

-- ---- modulo a lower power

regroup : (j m k : ℕ) → j * (m * k) ≡ j * k * m
regroup j m k = grind arith

fewer : (m k : ℕ) (a b : ℤ) → IsCongruent (m * k) a b → IsCongruent m a b
fewer m k a b h = by h.0 h.1
  where
    by : (j : ℤ) → a ≡ b +ℤ j *ℤ pos (m * k) → IsCongruent m a b
    by (pos j) e = more m (j * k) a b (e ∙ ap (λ x. b +ℤ pos x) (regroup j m k))
    by (negsuc j) e =
        let back : a +ℤ pos (suc j * (m * k)) ≡ b = omega (arith, ints, e) in
        less m (suc j * k) a b (sym (ap (λ x. a +ℤ pos x) (regroup (suc j) m k)) ∙ back)

lower : (n : ℕ) (a b : ℤ) → n ≤ 64 → IsCongruent (2 ^ 64) a b → IsCongruent (2 ^ n) a b
lower n a b h e =
    let all : n + (64 - n) ≡ 64 = omega arith in
    let whole : 2 ^ 64 ≡ 2 ^ n * 2 ^ (64 - n) = ap (λ x. 2 ^ x) (sym all) ∙ pow-add 2 n (64 - n) in
    fewer (2 ^ n) (2 ^ (64 - n)) a b (subst (λ m. IsCongruent m a b) whole e)

-- ---- one value

from_zero : (z : ℤ) (n : ℕ) → pos 0 +ℤ int_rem_euclid (z -ℤ pos 0) (pos n) ≡ int_rem_euclid z (pos n)
from_zero z n = let e : z -ℤ pos 0 ≡ z = omega (arith, ints) in rw e (omega (arith, ints))

module _ (one_word : (ty : WordTy) (x y : ℤ) → IsCongruent (2 ^ ty.width) x y ↔ (reduced ty x ≡ reduced ty y)) where
  same_word : (signed : Bool) (n : ℕ) (a b : ℤ) → 1 ≤ n → n ≤ 64 → IsCongruent (2 ^ 64) a b → (e : WordTy) → e.signed ≡ signed → e.width ≡ n → reduced e a ≡ reduced e b
  same_word signed n a b some few h e s w = (one_word e a b).0 (subst (λ m. IsCongruent (2 ^ m) a b) (sym w) (lower n a b few h))

  same_rest : (n : ℕ) (a b : ℤ) → 1 ≤ n → n ≤ 64 → IsCongruent (2 ^ 64) a b → int_rem_euclid a (pos (2 ^ n)) ≡ int_rem_euclid b (pos (2 ^ n))
  same_rest n a b some few h =
      sym (from_zero a (2 ^ n)) ∙ same_word false n a b some few h (record { signed = false; width = n; has_bits = some; fits_i64 = few }) refl refl ∙ from_zero b (2 ^ n)

  pub reduce_alike : ReduceAlike
  reduce_alike t.Bit is reducing a b h = ap (λ z. Some (Truth (int_eq z (pos 1)))) (same_rest 1 a b (omega arith) (omega arith) h)
  reduce_alike (t.Int n) is reducing a b h = ap (λ z. Some (Number z)) (same_word true n a b is.0 is.1 h (record { signed = true; width = n; has_bits = is.0; fits_i64 = is.1 }) refl refl)
  reduce_alike (t.Uint n) is reducing a b h = ap (λ z. Some (Number z)) (same_word false n a b is.0 is.1 h (record { signed = false; width = n; has_bits = is.0; fits_i64 = is.1 }) refl refl)
  reduce_alike (t.Angle n) is reducing a b h = ap (λ z. Some (Count (unsigned_abs z))) (same_rest n a b is.0 (omega (arith, is.1)) h)
  reduce_alike t.Bool is reducing a b h = absurd cc
  reduce_alike (t.Bits n) is reducing a b h = absurd cc
  reduce_alike t.Turn is reducing a b h = absurd cc
  reduce_alike t.Whole is reducing a b h = absurd cc
  reduce_alike t.Pi is reducing a b h = absurd cc
