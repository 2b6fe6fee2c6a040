-- The reduction of a whole number to a value of a type.
use Rattle.std.proofs.Common.{◌≡◌, ℕ, zero, suc, ◌+◌, ◌-◌, ◌^◌, ◌≤◌, Bool, true, false, cond, ℤ, pos, negsuc, neg_ℤ, ◌+ℤ◌, ◌-ℤ◌, ◌≤ℤ◌, ◌↔◌, FitsSigned, refl, sym, ap, subst, ◌∙◌, arith}
use Rattle.std.proofs.Math.Nat.{pow-suc}
use Rattle.std.proofs.lemmas.Nat.{pow_pos}
use Rattle.std.proofs.lemmas.Int.{ints, to_z-of_z}
use Rattle.std.specs.Int.{w64, cast_unsigned, cast_signed}
use Rattle.word_arith.specs.declared.word_ty.WordTy.{WordTy}
use Rattle.word_arith.specs.Whole.{IsCongruent}
use Rattle.word_arith.specs.WordTy.{lowest, highest, value_of, IsValue, reduced, IsReduction}
use Rattle.word_arith.proofs.Congruence.{congruent_refl, congruent_sym, congruent_trans, cast_unsigned-congruent, same_from_congruent, int_rem_euclid-congruent, int_rem_euclid-inside}

-- 2 ^ n is twice 2 ^ (n - 1)
pub pow_halves : (n : ℕ) → 1 ≤ n → 2 ^ n ≡ 2 ^ (n - 1) + 2 ^ (n - 1)
pow_halves zero h = elim h [ ]
pow_halves (suc n) h = let e : suc n - 1 ≡ n = omega arith in rw e (omega (arith, pow-suc 2 n))

-- ---- the two kinds of types

pub bounds-signed : (ty : WordTy) → ty.signed ≡ true → (lowest ty ≡ neg_ℤ (pos (2 ^ (ty.width - 1)))) × (highest ty ≡ pos (2 ^ (ty.width - 1) - 1))
bounds-signed ty s =
    (ap (λ t. cond t (neg_ℤ (pos (2 ^ (ty.width - 1)))) (pos 0)) s, ap (λ t. cond t (pos (2 ^ (ty.width - 1) - 1)) (pos (2 ^ ty.width - 1))) s)

pub bounds-unsigned : (ty : WordTy) → ty.signed ≡ false → (lowest ty ≡ pos 0) × (highest ty ≡ pos (2 ^ ty.width - 1))
bounds-unsigned ty s =
    (ap (λ t. cond t (neg_ℤ (pos (2 ^ (ty.width - 1)))) (pos 0)) s, ap (λ t. cond t (pos (2 ^ (ty.width - 1) - 1)) (pos (2 ^ ty.width - 1))) s)

pub value_of-unsigned : (ty : WordTy) (a : ℤ) → ty.signed ≡ false → value_of ty a ≡ pos (cast_unsigned w64 a)
value_of-unsigned ty a s = ap (λ t. cond t a (pos (cast_unsigned w64 a))) s

-- ---- the values and the reduction

-- a type of n bits has 2 ^ n values
spread : (s : Bool) (n : ℕ) → 1 ≤ n → cond s (pos (2 ^ (n - 1) - 1)) (pos (2 ^ n - 1)) +ℤ pos 1 ≡ cond s (neg_ℤ (pos (2 ^ (n - 1)))) (pos 0) +ℤ pos (2 ^ n)
spread true n h = omega (arith, ints, pow_halves n h, pow_pos (n - 1))
spread false n h = omega (arith, ints, pow_pos n)

highest_is : (ty : WordTy) → highest ty +ℤ pos 1 ≡ lowest ty +ℤ pos (2 ^ ty.width)
highest_is ty = spread ty.signed ty.width ty.has_bits

reduced-IsReduction : (ty : WordTy) (x : ℤ) → IsReduction ty x (reduced ty x)
reduced-IsReduction ty x =
    let m = 2 ^ ty.width in
    let inside = int_rem_euclid-inside m (x -ℤ lowest ty) (pow_pos ty.width) in
    let near = int_rem_euclid-congruent m (x -ℤ lowest ty) (pow_pos ty.width) in
    let far = highest_is ty in
    ((omega (arith, ints), omega (arith, ints)), (near.0, omega (arith, ints, near.1)))

-- v is the one value of the type that is congruent to x
pub reduced_from_reduction : (ty : WordTy) (x v : ℤ) → IsReduction ty x v → v ≡ reduced ty x
reduced_from_reduction ty x v h =
    let m = 2 ^ ty.width in
    let r = reduced ty x in
    let near = reduced-IsReduction ty x in
    let far = highest_is ty in
    let low : lowest ty ≤ℤ v = h.0.0 in
    let high : v ≤ℤ highest ty = h.0.1 in
    let low_r : lowest ty ≤ℤ r = near.0.0 in
    let high_r : r ≤ℤ highest ty = near.0.1 in
    same_from_congruent m v r (lowest ty) (congruent_trans m v x r h.1 (congruent_sym m r x near.1)) low (omega (arith, ints)) low_r (omega (arith, ints))

pub reduced_law : (ty : WordTy) (x v : ℤ) → (v ≡ reduced ty x) ↔ IsReduction ty x v
reduced_law ty x v = (λ e. subst (λ (r : ℤ). IsReduction ty x r) (sym e) (reduced-IsReduction ty x), reduced_from_reduction ty x v)

-- congruent numbers have one reduction
pub reduced-congruent : (ty : WordTy) (x y : ℤ) → IsCongruent (2 ^ ty.width) x y → reduced ty x ≡ reduced ty y
reduced-congruent ty x y h =
    let near = reduced-IsReduction ty x in
    reduced_from_reduction ty y (reduced ty x) (near.0, congruent_trans (2 ^ ty.width) (reduced ty x) x y near.1 h)

-- a value of the type is its own reduction
pub reduced-value : (ty : WordTy) (v : ℤ) → IsValue ty v → v ≡ reduced ty v
reduced-value ty v h = reduced_from_reduction ty v v (h, congruent_refl (2 ^ ty.width) v)

-- a word is congruent to its value
pub value_of-congruent : (ty : WordTy) (a : ℤ) → FitsSigned w64 a → IsCongruent (2 ^ ty.width) (value_of ty a) a
value_of-congruent ty a f = by ty.signed
  where
    by : (s : Bool) → IsCongruent (2 ^ ty.width) (cond s a (pos (cast_unsigned w64 a))) a
    by true = congruent_refl (2 ^ ty.width) a
    by false = cast_unsigned-congruent w64 ty.width a ty.fits_i64 f

-- an i64 from 0 on is its own value
pub value_of-positive : (ty : WordTy) (a : ℤ) → pos 0 ≤ℤ a → value_of ty a ≡ a
value_of-positive ty (pos n) h = by ty.signed
  where
    by : (s : Bool) → cond s (pos n) (pos n) ≡ pos n
    by true = refl
    by false = refl
value_of-positive ty (negsuc n) h = absurd h.le

-- ---- what the code reads and gives: an i64 that went through its bits, and an i128 x that is the number y

pub value_of-read : (ty : WordTy) (a v : ℤ) → FitsSigned w64 a → v ≡ value_of ty (cast_signed w64 (cast_unsigned w64 a)) → v ≡ value_of ty a
value_of-read ty a v f e = e ∙ ap (value_of ty) (to_z-of_z w64 a f)

pub value_of-given : (ty : WordTy) (r x y : ℤ) → FitsSigned w64 r → value_of ty r ≡ reduced ty x → x ≡ y → value_of ty (cast_signed w64 (cast_unsigned w64 r)) ≡ reduced ty y
value_of-given ty r x y f e d = ap (value_of ty) (to_z-of_z w64 r f) ∙ e ∙ ap (reduced ty) d

-- numbers with one reduction are congruent
pub congruent_from_reduced : (ty : WordTy) (x y : ℤ) → reduced ty x ≡ reduced ty y → IsCongruent (2 ^ ty.width) x y
congruent_from_reduced ty x y e =
    let m = 2 ^ ty.width in
    let near_x = congruent_sym m (reduced ty x) x (reduced-IsReduction ty x).1 in
    let near_y = subst (λ (r : ℤ). IsCongruent m r y) (sym e) (reduced-IsReduction ty y).1 in
    congruent_trans m x (reduced ty x) y near_x near_y
