-- Bits as numbers: what the operations on the bits of a register are on its number.
use Rattle.std.proofs.Common.{◌≡◌, ℕ, zero, suc, ◌+◌, ◌-◌, ◌*◌, ◌/◌, ◌%◌, ◌^◌, ◌<◌, ◌≤◌, min, Bool, true, false, not, eqb, Some, List, [], ◌∷◌, ◌++◌, length, map, reverse, take, drop, replicate, get_or, ℤ, pos, negsuc, neg_ℤ, ◌-ℤ◌, refl, sym, ap, subst, ◌∙◌, arith}
use Rattle.std.specs.Int.{int_div_euclid, int_rem_euclid, bit_at}
use Rattle.std.specs.Ordering.{int_eq}
use Rattle.std.proofs.Math.Nat.{mod-eq_of_lt, mod-lt, pow-suc, pow-succ', div-div-eq-div-mul}
use Rattle.std.proofs.lemmas.Nat.{pow_pos}
use Rattle.std.proofs.lemmas.Bool.{eqb-true}
use Rattle.std.specs.Int.Bits.{bit_and}
use Rattle.std.proofs.lemmas.Int.{ints}
use Rattle.std.proofs.Math.Pow.{pow_mono}
use Rattle.std.specs.Int.RustNames.{unsigned_abs}
use Rattle.std.proofs.lemmas.List.{map-append, length-map, length-reverse, length-take-le, length-drop, take_more, reverse-append, take-append-drop}
use Rattle.std.proofs.lemmas.Nat.Bits.{bit_at_lowest, bit_at-suc, same_from_bits, shr_and_one}
use Rattle.qasm_types.specs.Values.{Count, number_of_truth, number_of_bits, is_odd, bits_of}

pub number_of_bits-below : (xs : List Bool) → number_of_bits xs < 2 ^ length xs
number_of_bits-below [] = omega arith
number_of_bits-below (true ∷ xs) = omega (arith, number_of_bits-below xs, pow-suc 2 (length xs))
number_of_bits-below (false ∷ xs) = omega (arith, number_of_bits-below xs, pow-suc 2 (length xs))

-- a number in front of whose bits stands one more, the lowest
abbrev pub with_bit : Bool → ℤ → ℤ
with_bit b (pos m) = pos (number_of_truth b + 2 * m)
with_bit b (negsuc m) = negsuc (number_of_truth (not b) + 2 * m)

even_rest : (m : ℕ) → (0 + 2 * m) % 2 ≡ 0
even_rest m = omega arith

odd_rest : (m : ℕ) → (1 + 2 * m) % 2 ≡ 1
odd_rest m = omega arith

even_half : (m : ℕ) → (0 + 2 * m) / 2 ≡ m
even_half m = omega arith

odd_half : (m : ℕ) → (1 + 2 * m) / 2 ≡ m
odd_half m = omega arith

is_odd-with_bit : (b : Bool) (z : ℤ) → is_odd (with_bit b z) ≡ b
is_odd-with_bit true (pos m) = ap (λ x. int_eq (pos x) (pos 1)) (odd_rest m)
is_odd-with_bit false (pos m) = ap (λ x. int_eq (pos x) (pos 1)) (even_rest m)
is_odd-with_bit true (negsuc m) = ap (λ x. int_eq (pos (2 - 1 - x)) (pos 1)) (even_rest m)
is_odd-with_bit false (negsuc m) = ap (λ x. int_eq (pos (2 - 1 - x)) (pos 1)) (odd_rest m)

half-with_bit : (b : Bool) (z : ℤ) → int_div_euclid (with_bit b z) (pos 2) ≡ z
half-with_bit true (pos m) = ap pos (odd_half m)
half-with_bit false (pos m) = ap pos (even_half m)
half-with_bit true (negsuc m) = ap negsuc (even_half m)
half-with_bit false (negsuc m) = ap negsuc (odd_half m)

pub bits_of-with_bit : (n : ℕ) (b : Bool) (z : ℤ) → bits_of (suc n) (with_bit b z) ≡ b ∷ bits_of n z
bits_of-with_bit n b z = λ i. is_odd-with_bit b z i ∷ bits_of n (half-with_bit b z i)

pub length-bits_of : (n : ℕ) (z : ℤ) → length (bits_of n z) ≡ n
length-bits_of zero z = refl
length-bits_of (suc n) z = ap suc (length-bits_of n (int_div_euclid z (pos 2)))

-- ---- bits and back

pub bits_of-number : (xs : List Bool) → bits_of (length xs) (pos (number_of_bits xs)) ≡ xs
bits_of-number [] = refl
bits_of-number (b ∷ xs) = bits_of-with_bit (length xs) b (pos (number_of_bits xs)) ∙ ap (λ r. b ∷ r) (bits_of-number xs)

bits_of-zero : (n : ℕ) → bits_of n (pos 0) ≡ replicate n false
bits_of-zero zero = refl
bits_of-zero (suc n) = bits_of-with_bit n false (pos 0) ∙ ap (λ r. false ∷ r) (bits_of-zero n)

-- beyond the bits stand zeros
pub bits_of-longer : (xs : List Bool) (k : ℕ) → bits_of (length xs + k) (pos (number_of_bits xs)) ≡ xs ++ replicate k false
bits_of-longer [] k = ap (λ n. bits_of n (pos 0)) (let e : 0 + k ≡ k = omega arith in e) ∙ bits_of-zero k
bits_of-longer (b ∷ xs) k =
    let e : suc (length xs) + k ≡ suc (length xs + k) = omega arith in
    ap (λ n. bits_of n (pos (number_of_bits (b ∷ xs)))) e ∙ bits_of-with_bit (length xs + k) b (pos (number_of_bits xs)) ∙ ap (λ r. b ∷ r) (bits_of-longer xs k)

-- two registers of one width with one number are one
pub same_bits_from_number : (xs ys : List Bool) → length xs ≡ length ys → number_of_bits xs ≡ number_of_bits ys → xs ≡ ys
same_bits_from_number xs ys l e = sym (bits_of-number xs) ∙ (λ i. bits_of (l i) (pos (e i))) ∙ bits_of-number ys

-- ---- each bit turned over

pub bits_of-complement : (xs : List Bool) → bits_of (length xs) (negsuc (number_of_bits xs)) ≡ map not xs
bits_of-complement [] = refl
bits_of-complement (true ∷ xs) = bits_of-with_bit (length xs) false (negsuc (number_of_bits xs)) ∙ ap (λ r. false ∷ r) (bits_of-complement xs)
bits_of-complement (false ∷ xs) = bits_of-with_bit (length xs) true (negsuc (number_of_bits xs)) ∙ ap (λ r. true ∷ r) (bits_of-complement xs)

-- ---- operations bit by bit

abbrev pub bits_by : (Bool → Bool → Bool) → List Bool → List Bool → List Bool
bits_by f [] ys = []
bits_by f (x ∷ xs) [] = []
bits_by f (x ∷ xs) (y ∷ ys) = f x y ∷ bits_by f xs ys

double_rest : (b : Bool) (m : ℕ) → (number_of_truth b + 2 * m) % 2 ≡ number_of_truth b
double_rest true m = odd_rest m
double_rest false m = even_rest m

double_half : (b : Bool) (m : ℕ) → (number_of_truth b + 2 * m) / 2 ≡ m
double_half true m = odd_half m
double_half false m = even_half m

module _ (op g : ℕ → ℕ → ℕ) (f : Bool → Bool → Bool)
    (law : (m n i : ℕ) → bit_at (op m n) i ≡ g (bit_at m i) (bit_at n i))
    (agrees : (a b : Bool) → number_of_truth (f a b) ≡ g (number_of_truth a) (number_of_truth b)) where
  op-with_bit : (a b : Bool) (m n : ℕ) → op (number_of_truth a + 2 * m) (number_of_truth b + 2 * n) ≡ number_of_truth (f a b) + 2 * op m n
  op-with_bit a b m n = same_from_bits _ _ each
    where
      each : (i : ℕ) → bit_at (op (number_of_truth a + 2 * m) (number_of_truth b + 2 * n)) i ≡ bit_at (number_of_truth (f a b) + 2 * op m n) i
      each zero =
          law _ _ 0 ∙ (λ t. g (bit_at_lowest (number_of_truth a + 2 * m) t) (bit_at_lowest (number_of_truth b + 2 * n) t))
          ∙ (λ t. g (double_rest a m t) (double_rest b n t)) ∙ sym (agrees a b) ∙ sym (double_rest (f a b) (op m n)) ∙ sym (bit_at_lowest _)
      each (suc i) =
          law _ _ (suc i) ∙ (λ t. g (bit_at-suc (number_of_truth a + 2 * m) i t) (bit_at-suc (number_of_truth b + 2 * n) i t))
          ∙ (λ t. g (bit_at (double_half a m t) i) (bit_at (double_half b n t) i)) ∙ sym (law m n i)
          ∙ sym (ap (λ x. bit_at x i) (double_half (f a b) (op m n))) ∙ sym (bit_at-suc (number_of_truth (f a b) + 2 * op m n) i)

  pub bits_of-by : (xs ys : List Bool) → length xs ≡ length ys → bits_of (length xs) (pos (op (number_of_bits xs) (number_of_bits ys))) ≡ bits_by f xs ys
  bits_of-by [] ys e = refl
  bits_of-by (x ∷ xs) [] e = absurd cc
  bits_of-by (x ∷ xs) (y ∷ ys) e =
      let l : length xs ≡ length ys = omega arith in
      ap (λ n. bits_of (suc (length xs)) (pos n)) (op-with_bit x y (number_of_bits xs) (number_of_bits ys))
      ∙ bits_of-with_bit (length xs) (f x y) (pos (op (number_of_bits xs) (number_of_bits ys)))
      ∙ ap (λ r. f x y ∷ r) (bits_of-by xs ys l)

-- ---- shifts

bits_of-shifted : (k n : ℕ) (m : ℕ) → bits_of (k + n) (pos (m * 2 ^ k)) ≡ replicate k false ++ bits_of n (pos m)
bits_of-shifted zero n m =
    let e : zero + n ≡ n = omega arith in
    let d : m * 2 ^ zero ≡ m = omega arith in
    λ i. bits_of (e i) (pos (d i))
bits_of-shifted (suc k) n m =
    let e : suc k + n ≡ suc (k + n) = omega arith in
    let d : m * 2 ^ suc k ≡ 0 + 2 * (m * 2 ^ k) = omega (arith, ap (λ x. m * x) (pow-suc 2 k)) in
    (λ i. bits_of (e i) (pos (d i))) ∙ bits_of-with_bit (k + n) false (pos (m * 2 ^ k)) ∙ ap (λ r. false ∷ r) (bits_of-shifted k n m)

bits_of-take : (n j : ℕ) (z : ℤ) → take n (bits_of (n + j) z) ≡ bits_of n z
bits_of-take zero j z = refl
bits_of-take (suc n) j z =
    let e : suc n + j ≡ suc (n + j) = omega arith in
    ap (λ m. take (suc n) (bits_of m z)) e ∙ ap (λ r. is_odd z ∷ r) (bits_of-take n j (int_div_euclid z (pos 2)))

-- to the left: zeros come in at index 0
pub bits_of-left : (xs : List Bool) (k : ℕ) → bits_of (length xs) (pos (number_of_bits xs * 2 ^ k)) ≡ take (length xs) (replicate k false ++ xs)
bits_of-left xs k =
    let e : length xs + k ≡ k + length xs = omega arith in
    sym (bits_of-take (length xs) k (pos (number_of_bits xs * 2 ^ k)))
    ∙ ap (λ n. take (length xs) (bits_of n (pos (number_of_bits xs * 2 ^ k)))) e
    ∙ ap (take (length xs)) (bits_of-shifted k (length xs) (number_of_bits xs) ∙ ap (λ r. replicate k false ++ r) (bits_of-number xs))

number_of_bits-drop : (k : ℕ) (xs : List Bool) → number_of_bits xs / 2 ^ k ≡ number_of_bits (drop k xs)
number_of_bits-drop zero xs = omega arith
number_of_bits-drop (suc k) [] = zero_over (2 ^ suc k) (pow_pos (suc k))
  where
    zero_over : (d : ℕ) → 0 < d → 0 / d ≡ 0
    zero_over d h = omega arith
number_of_bits-drop (suc k) (b ∷ xs) =
    ap (λ d. number_of_bits (b ∷ xs) / d) (pow-succ' 2 k) ∙ sym (div-div-eq-div-mul (number_of_bits (b ∷ xs)) 2 (2 ^ k)) ∙ ap (λ n. n / 2 ^ k) (double_half b (number_of_bits xs)) ∙ number_of_bits-drop k xs

-- to the right: zeros come in at the highest index
pub bits_of-right : (xs : List Bool) (k : ℕ) → bits_of (length xs) (pos (number_of_bits xs / 2 ^ k)) ≡ drop k xs ++ replicate (min k (length xs)) false
bits_of-right xs k =
    let e : length xs ≡ length (drop k xs) + min k (length xs) = omega (arith, length-drop k xs) in
    (λ i. bits_of (e i) (pos (number_of_bits-drop k xs i))) ∙ bits_of-longer (drop k xs) (min k (length xs))

-- ---- whether there is a one

pub some_one : (xs ys : List Bool) → 0 < number_of_bits (xs ++ (true ∷ ys))
some_one [] ys = omega arith
some_one (x ∷ xs) ys = omega (arith, some_one xs ys)

-- ---- one bit after the other, the highest first

pub reverse-step : (bits : List Bool) (i : ℕ) (b : Bool) → i < length bits → b ≡ get_or bits i b → reverse (take (i + 1) bits) ≡ b ∷ reverse (take i bits)
reverse-step bits i b h e =
    ap reverse (take_more bits i b h) ∙ reverse-append (take i bits) (get_or bits i b ∷ []) ∙ ap (λ x. x ∷ reverse (take i bits)) (sym e)

pub reverse-split : (bits : List Bool) (i : ℕ) (b : Bool) → i < length bits → b ≡ get_or bits i b → reverse bits ≡ reverse (drop (i + 1) bits) ++ (b ∷ reverse (take i bits))
reverse-split bits i b h e =
    let parts : bits ≡ take (i + 1) bits ++ drop (i + 1) bits = sym (take-append-drop (i + 1) bits) in
    ap reverse parts ∙ reverse-append (take (i + 1) bits) (drop (i + 1) bits) ∙ ap (λ r. reverse (drop (i + 1) bits) ++ r) (reverse-step bits i b h e)

pub bits_so_far : (bits : List Bool) (i : ℕ) → i < length bits → length bits ≤ 64 → 2 * number_of_bits (reverse (take i bits)) + 2 ≤ 2 ^ 64
bits_so_far bits i h l =
    let below = number_of_bits-below (reverse (take i bits)) in
    let size : length (reverse (take i bits)) ≡ i = length-reverse (take i bits) ∙ length-take-le i bits (omega arith) in
    let small : number_of_bits (reverse (take i bits)) < 2 ^ i = subst (λ n. number_of_bits (reverse (take i bits)) < 2 ^ n) size below in
    let most : suc i ≤ 64 = omega arith in
    omega (arith, small, pow-suc 2 i, pow_mono most)

pub bits_in_all : (bits : List Bool) → number_of_bits (reverse bits) < 2 ^ length bits
bits_in_all bits = subst (λ n. number_of_bits (reverse bits) < 2 ^ n) (length-reverse bits) (number_of_bits-below (reverse bits))

positive_is_not_zero : (n : ℕ) → 0 < n → true ≡ not (int_eq (pos n) (pos 0))
positive_is_not_zero n h = grind (arith, ints)

pub one_is_not_zero : (bits : List Bool) (i : ℕ) → i < length bits → true ≡ get_or bits i true → true ≡ not (int_eq (pos (number_of_bits (reverse bits))) (pos 0))
one_is_not_zero bits i h e =
    positive_is_not_zero (number_of_bits (reverse bits)) (subst (λ xs. 0 < number_of_bits xs) (sym (reverse-split bits i true h e)) (some_one (reverse (drop (i + 1) bits)) (reverse (take i bits))))

-- the count of a register of bits
pub count_of_bits : (bits : List Bool) (w n : ℕ) → n ≡ number_of_bits bits → n < 2 ^ w → Some (Count (unsigned_abs (int_rem_euclid (pos (number_of_bits bits)) (pos (2 ^ w))))) ≡ Some (Count n)
count_of_bits bits w n e h = ap (λ m. Some (Count m)) (mod-eq_of_lt (subst (λ m. m < 2 ^ w) e h) ∙ sym e)

-- one more of a number's bits, the highest first
pub bits_of-next : (number width passed : ℕ) → passed < width
    → bits_of (passed + 1) (pos (number / 2 ^ (width - (passed + 1)))) ≡ is_odd (pos (number / 2 ^ (width - 1 - passed))) ∷ bits_of passed (pos (number / 2 ^ (width - passed)))
bits_of-next number width passed h =
    let more : passed + 1 ≡ suc passed = omega arith in
    let here : width - (passed + 1) ≡ width - 1 - passed = omega arith in
    let next : width - passed ≡ suc (width - 1 - passed) = omega arith in
    let half : number / 2 ^ (width - 1 - passed) / 2 ≡ number / 2 ^ (width - passed) =
    div-div-eq-div-mul number (2 ^ (width - 1 - passed)) 2 ∙ ap (λ d. number / d) (sym (ap (λ n. 2 ^ n) next ∙ pow-suc 2 (width - 1 - passed))) in
    (λ i. bits_of (more i) (pos (number / 2 ^ (here i)))) ∙ ap (λ m. is_odd (pos (number / 2 ^ (width - 1 - passed))) ∷ bits_of passed (pos m)) half

map-reverse : (xs : List Bool) → map not (reverse xs) ≡ reverse (map not xs)
map-reverse [] = refl
map-reverse (x ∷ xs) =
    ap (map not) (reverse-append (x ∷ []) xs) ∙ map-append not (reverse xs) (x ∷ []) ∙ ap (λ r. r ++ (not x ∷ [])) (map-reverse xs) ∙ sym (reverse-append (not x ∷ []) (map not xs))

before_zero : (m : ℕ) → neg_ℤ (pos m) -ℤ pos 1 ≡ negsuc m
before_zero m = omega (arith, ints)

-- the register whose bits are turned over, written the highest first
pub complement_of_text : (text turned : List Bool) → turned ≡ map not text → bits_of (length (reverse text)) (neg_ℤ (pos (number_of_bits (reverse text))) -ℤ pos 1) ≡ reverse turned
complement_of_text text turned e =
    ap (bits_of (length (reverse text))) (before_zero (number_of_bits (reverse text))) ∙ bits_of-complement (reverse text) ∙ map-reverse text ∙ ap reverse (sym e)

pub length-turned : (text turned : List Bool) → turned ≡ map not text → length (reverse text) ≡ length (reverse turned)
length-turned text turned e = length-reverse text ∙ sym (length-map text not) ∙ ap length (sym e) ∙ sym (length-reverse turned)

lowest_is_odd : (m : ℕ) → m < 2 → eqb m 1 ≡ int_eq (pos m) (pos 1)
lowest_is_odd zero h = refl
lowest_is_odd (suc zero) h = refl
lowest_is_odd (suc (suc m)) h = absurd (omega arith)

is_odd-lowest : (m : ℕ) → eqb (bit_and m 1) 1 ≡ is_odd (pos m)
is_odd-lowest m = ap (λ x. eqb x 1) (lowest_bit m) ∙ lowest_is_odd (m % 2) (mod-lt m (omega arith))
  where
    lowest_bit : (m : ℕ) → bit_and m 1 ≡ m % 2
    lowest_bit m =
        let e : m / 2 ^ 0 ≡ m = omega arith in
        ap (λ x. bit_and x 1) (sym e) ∙ shr_and_one m 0 ∙ bit_at_lowest m

pub pattern_pushed : (bits new : List Bool) (number width passed : ℕ) → passed < width
    → new ≡ bits ++ (eqb (bit_and (number / 2 ^ (width - 1 - passed)) 1) 1 ∷ []) → reverse bits ≡ bits_of passed (pos (number / 2 ^ (width - passed)))
    → reverse new ≡ bits_of (passed + 1) (pos (number / 2 ^ (width - (passed + 1))))
pattern_pushed bits new number width passed h e invariant =
    ap reverse e ∙ reverse-append bits (eqb (bit_and (number / 2 ^ (width - 1 - passed)) 1) 1 ∷ [])
    ∙ (λ i. is_odd-lowest (number / 2 ^ (width - 1 - passed)) i ∷ invariant i) ∙ sym (bits_of-next number width passed h)

-- the bits of a register of another width that is the same
pub bits_of-same : (text copy : List Bool) (w : ℕ) → copy ≡ text → eqb w (length (reverse text)) ≡ true → bits_of w (pos (number_of_bits (reverse text))) ≡ reverse copy
bits_of-same text copy w e h = ap (λ n. bits_of n (pos (number_of_bits (reverse text)))) (eqb-true w (length (reverse text)) h) ∙ bits_of-number (reverse text) ∙ ap reverse (sym e)
