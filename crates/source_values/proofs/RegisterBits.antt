-- The bits of registers as numbers, one after the other.
use Rattle.std.proofs.Common.{◌≡◌, ℕ, zero, suc, ◌+◌, ◌-◌, ◌*◌, ◌/◌, ◌%◌, ◌<◌, ◌≤◌, Bool, true, false, List, [], ◌∷◌, ◌++◌, length, drop, get_or, replicate, ℤ, pos, refl, sym, ap, ◌∙◌, append_assoc, length-append, arith}
use Rattle.std.specs.Int.{int_div_euclid}
use Rattle.std.specs.Ordering.{int_eq}
use Rattle.qasm_types.specs.Values.{number_of_bits, is_odd, bits_of}

even_rest : (m : ℕ) → (0 + 2 * m) % 2 ≡ 0
even_rest m = omega arith

odd_rest : (m : ℕ) → (1 + 2 * m) % 2 ≡ 1
odd_rest m = omega arith

even_half : (m : ℕ) → (0 + 2 * m) / 2 ≡ m
even_half m = omega arith

odd_half : (m : ℕ) → (1 + 2 * m) / 2 ≡ m
odd_half m = omega arith

pub length-bits_of : (n : ℕ) (z : ℤ) → length (bits_of n z) ≡ n
length-bits_of zero z = refl
length-bits_of (suc n) z = ap suc (length-bits_of n (int_div_euclid z (pos 2)))

pub bits_of-zero : (n : ℕ) → bits_of n (pos 0) ≡ replicate n false
bits_of-zero zero = refl
bits_of-zero (suc n) = ap (λ r. false ∷ r) (bits_of-zero n)

pub one_more : (bits : List Bool) (b : Bool) (new : List Bool) (k : ℕ) → new ≡ bits ++ (b ∷ []) → length bits ≡ k → length new ≡ k + 1
one_more bits b new k e l = omega (arith, ap length e, length-append bits (b ∷ []), l)

-- one more of a number's lowest bits
pub next_bit : (bits : List Bool) (w k : ℕ) (z rest half : ℤ) (b : Bool) → k < w → b ≡ is_odd rest → half ≡ int_div_euclid rest (pos 2)
    → bits ++ bits_of (w - k) rest ≡ bits_of w z → (bits ++ (b ∷ [])) ++ bits_of (w - (k + 1)) half ≡ bits_of w z
next_bit bits w k z rest half b h e f so_far =
    let one : w - k ≡ suc (w - (k + 1)) = omega arith in
    append_assoc bits (b ∷ []) (bits_of (w - (k + 1)) half)
    ∙ ap (λ r. bits ++ r) ((λ i. e i ∷ bits_of (w - (k + 1)) (f i)) ∙ ap (λ n. bits_of n rest) (sym one)) ∙ so_far

-- all of them
pub all_bits : (bits : List Bool) (w k : ℕ) (z rest : ℤ) → w ≤ k → bits ++ bits_of (w - k) rest ≡ bits_of w z → bits ≡ bits_of w z
all_bits bits w k z rest h so_far =
    let none : w - k ≡ 0 = omega arith in
    sym (append_nil bits) ∙ ap (λ n. bits ++ bits_of n rest) (sym none) ∙ so_far
  where
    append_nil : (xs : List Bool) → xs ++ [] ≡ xs
    append_nil [] = refl
    append_nil (x ∷ xs) = ap (λ r. x ∷ r) (append_nil xs)

-- what the bits from a place on say of their number
pub odd_at : (k : ℕ) (bits : List Bool) → get_or bits k false ≡ is_odd (pos (number_of_bits (drop k bits)))
odd_at zero [] = refl
odd_at zero (true ∷ bits) = sym (ap (λ x. int_eq (pos x) (pos 1)) (odd_rest (number_of_bits bits)))
odd_at zero (false ∷ bits) = sym (ap (λ x. int_eq (pos x) (pos 1)) (even_rest (number_of_bits bits)))
odd_at (suc k) [] = refl
odd_at (suc k) (b ∷ bits) = odd_at k bits

half_behind : (k : ℕ) (bits : List Bool) → pos (number_of_bits (drop (suc k) bits)) ≡ int_div_euclid (pos (number_of_bits (drop k bits))) (pos 2)
half_behind zero [] = refl
half_behind zero (true ∷ bits) = sym (ap pos (odd_half (number_of_bits bits)))
half_behind zero (false ∷ bits) = sym (ap pos (even_half (number_of_bits bits)))
half_behind (suc k) [] = refl
half_behind (suc k) (b ∷ bits) = half_behind k bits

pub half_at : (k : ℕ) (bits : List Bool) → pos (number_of_bits (drop (k + 1) bits)) ≡ int_div_euclid (pos (number_of_bits (drop k bits))) (pos 2)
half_at k bits = let e : k + 1 ≡ suc k = omega arith in ap (λ n. pos (number_of_bits (drop n bits))) e ∙ half_behind k bits
