-- Integers: products that are 0, cancelling, order, and what a call has that is given the result of an operator.
use Rattle.std.proofs.Common.{◌≡◌, ℕ, zero, suc, ◌*◌, ◌^◌, ◌<◌, ◌≤◌, ◌↔◌, ℤ, pos, negsuc, neg_ℤ, int_rem, ◌%◌, ◌+ℤ◌, ◌-ℤ◌, ◌*ℤ◌, ◌≤ℤ◌, ◌<ℤ◌, unsigned_abs, SFits, to_z, of_z, refl, sym, ◌∙◌, ap, arith, int_cmp, Ordering, Less, Equal, Greater, mul-pos, eq-zero-or-pos, ⊎_elim, mul_assoc}
use Rattle.std.proofs.Math.Nat.{eq_of_mul-eq-mul_right, mul-mod_left}
use Rattle.std.proofs.Math.IntN.{*ℤ_comm, zero-*ℤ}
use Rattle.std.proofs.lemmas.Cmp.{int_ranked}
use Rattle.std.proofs.lemmas.Int.{to_z-of_z, fits_signed_mul, ints, unsigned_abs-mul}
use Rattle.std.specs.Int.{w128}
use Rattle.std.specs.Ordering.{MatchOrdering}

pub zero_from_size : (z : ℤ) → unsigned_abs z ≡ 0 → z ≡ pos 0
zero_from_size z e = omega (arith, ints)

-- if a product is 0 and its first factor is not, the second is
pub zero_factor : (x y : ℤ) → pos 1 ≤ℤ x → x *ℤ y ≡ pos 0 → y ≡ pos 0
zero_factor x y positive e =
    let sizes : unsigned_abs x * unsigned_abs y ≡ 0 = sym (unsigned_abs-mul x y) ∙ ap unsigned_abs e in
    let some : 0 < unsigned_abs x = omega (arith, ints) in
    ⊎_elim (λ none. zero_from_size y none) (λ more. absurd (omega (arith, mul-pos some more))) (eq-zero-or-pos (unsigned_abs y))

-- equal products by one positive factor have equal first factors
pub same_from_product : (x y d : ℤ) → pos 1 ≤ℤ d → x *ℤ d ≡ y *ℤ d → x ≡ y
same_from_product x y (negsuc d) positive e = absurd (omega (arith, ints))
same_from_product (pos a) (pos b) (pos d) positive e = ap pos (eq_of_mul-eq-mul_right d (omega (arith, ints)) a b (ap unsigned_abs e))
same_from_product (negsuc a) (negsuc b) (pos d) positive e =
    let same = eq_of_mul-eq-mul_right d (omega (arith, ints)) (suc a) (suc b) (omega (arith, ints)) in
    omega (arith, ints)
same_from_product (pos a) (negsuc b) (pos d) positive e = absurd (omega (arith, ints))
same_from_product (negsuc a) (pos b) (pos d) positive e = absurd (omega (arith, ints))

-- ---- products of three

neg_times : (x y : ℤ) → neg_ℤ x *ℤ y ≡ neg_ℤ (x *ℤ y)
neg_times (pos zero) y = rw zero-*ℤ refl
neg_times (pos (suc a)) (pos b) = refl
neg_times (pos (suc a)) (negsuc b) = omega (arith, ints)
neg_times (negsuc a) (pos b) = omega (arith, ints)
neg_times (negsuc a) (negsuc b) = refl

times_neg : (x y : ℤ) → x *ℤ neg_ℤ y ≡ neg_ℤ (x *ℤ y)
times_neg x y = *ℤ_comm x (neg_ℤ y) ∙ neg_times y x ∙ ap neg_ℤ (*ℤ_comm y x)

mul_int_assoc : (x y z : ℤ) → (x *ℤ y) *ℤ z ≡ x *ℤ (y *ℤ z)
mul_int_assoc = all
  where
    naturals : (a b : ℕ) (z : ℤ) → (pos a *ℤ pos b) *ℤ z ≡ pos a *ℤ (pos b *ℤ z)
    naturals a b (pos c) = ap pos (mul_assoc a b c)
    naturals a b (negsuc c) = times_neg (pos (a * b)) (pos (suc c)) ∙ ap neg_ℤ (ap pos (mul_assoc a b (suc c))) ∙ sym (times_neg (pos a) (pos (b * suc c)))

    natural : (a : ℕ) (y z : ℤ) → (pos a *ℤ y) *ℤ z ≡ pos a *ℤ (y *ℤ z)
    natural a (pos b) z = naturals a b z
    natural a (negsuc b) z =
        ap (λ (w : ℤ). w *ℤ z) (times_neg (pos a) (pos (suc b))) ∙ neg_times (pos a *ℤ pos (suc b)) z ∙ ap neg_ℤ (naturals a (suc b) z)
        ∙ sym (times_neg (pos a) (pos (suc b) *ℤ z)) ∙ sym (ap (λ (w : ℤ). pos a *ℤ w) (neg_times (pos (suc b)) z))

    all : (x y z : ℤ) → (x *ℤ y) *ℤ z ≡ x *ℤ (y *ℤ z)
    all (pos a) y z = natural a y z
    all (negsuc a) y z =
        ap (λ (w : ℤ). w *ℤ z) (neg_times (pos (suc a)) y) ∙ neg_times (pos (suc a) *ℤ y) z ∙ ap neg_ℤ (natural (suc a) y z)
        ∙ sym (neg_times (pos (suc a)) (y *ℤ z))

pub mul_int_right_comm : (x y z : ℤ) → (x *ℤ y) *ℤ z ≡ (x *ℤ z) *ℤ y
mul_int_right_comm x y z = mul_int_assoc x y z ∙ ap (λ (w : ℤ). x *ℤ w) (*ℤ_comm y z) ∙ sym (mul_int_assoc x z y)

-- a multiple of d leaves no remainder
pub rem_from_multiple : (n d z : ℤ) → n ≡ z *ℤ d → int_rem n d ≡ pos 0
rem_from_multiple n d z e = by n (ap unsigned_abs e ∙ unsigned_abs-mul z d)
  where
    rest : (m : ℕ) → m ≡ unsigned_abs z * unsigned_abs d → m % unsigned_abs d ≡ 0
    rest m e = ap (λ x. x % unsigned_abs d) e ∙ mul-mod_left (unsigned_abs z) (unsigned_abs d)

    by : (n : ℤ) → unsigned_abs n ≡ unsigned_abs z * unsigned_abs d → int_rem n d ≡ pos 0
    by (pos a) e = ap pos (rest a e)
    by (negsuc a) e = ap (λ (x : ℕ). neg_ℤ (pos x)) (rest (suc a) e)

-- each answer of a comparison comes exactly where its order holds
pub orders : (x y : ℤ) (r : Ordering) → r ≡ int_cmp x y → ((r ≡ Less) ↔ (x <ℤ y)) × ((r ≡ Equal) ↔ (x ≡ y)) × ((r ≡ Greater) ↔ (y <ℤ x))
orders x y r e = by r (int_ranked x y r e)
  where
    by : (r : Ordering) → MatchOrdering r (x <ℤ y) (x ≡ y) (y <ℤ x) → ((r ≡ Less) ↔ (x <ℤ y)) × ((r ≡ Equal) ↔ (x ≡ y)) × ((r ≡ Greater) ↔ (y <ℤ x))
    by Less h = ((λ _. h, λ _. refl), (λ e. absurd cc, λ k. absurd (omega (arith, ints))), (λ e. absurd cc, λ k. absurd (omega (arith, ints))))
    by Equal h = ((λ e. absurd cc, λ k. absurd (omega (arith, ints))), (λ _. h, λ _. refl), (λ e. absurd cc, λ k. absurd (omega (arith, ints))))
    by Greater h = ((λ e. absurd cc, λ k. absurd (omega (arith, ints))), (λ e. absurd cc, λ k. absurd (omega (arith, ints))), (λ _. h, λ _. refl))

-- ---- arguments

module _ (x y : ℤ) (x_fits : SFits w128 x) (y_fits : SFits w128 y) where
  pub sum_arg : SFits w128 (x +ℤ y) → to_z w128 (of_z w128 (to_z w128 (of_z w128 x) +ℤ to_z w128 (of_z w128 y))) ≡ x +ℤ y
  sum_arg fits = simp to_z-of_z

  pub difference_arg : SFits w128 (x -ℤ y) → to_z w128 (of_z w128 (to_z w128 (of_z w128 x) -ℤ to_z w128 (of_z w128 y))) ≡ x -ℤ y
  difference_arg fits = simp to_z-of_z

  -- m and n bound the sizes of the factors
  pub product_arg : (m n : ℕ) → unsigned_abs x ≤ m → unsigned_abs y ≤ n → m * n < 2 ^ 127 → to_z w128 (of_z w128 (to_z w128 (of_z w128 x) *ℤ to_z w128 (of_z w128 y))) ≡ x *ℤ y
  product_arg m n x_size y_size small = let fits = fits_signed_mul w128 x y m n x_size y_size small in simp to_z-of_z
