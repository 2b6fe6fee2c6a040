-- Constants as numbers: casts, counts, and numbers that are reduced.
use Rattle.std.proofs.Common.{◌≡◌, ℕ, suc, ◌+◌, ◌-◌, ◌*◌, ◌/◌, ◌%◌, ◌^◌, ◌<◌, ◌≤◌, Bool, true, false, cond, length, reverse, Some, None, ℤ, pos, negsuc, neg_ℤ, ◌+ℤ◌, ◌*ℤ◌, ◌≤ℤ◌, refl, sym, ap, subst, ◌∙◌, arith}
use Rattle.std.specs.Int.RustNames.{unsigned_abs, int_div, int_rem}
use Rattle.std.specs.Option.{option_and_then}
use Rattle.std.specs.Ordering.{int_eq}
use Rattle.std.proofs.Math.Nat.{mod-eq_of_lt, suc-mul}
use Rattle.std.proofs.lemmas.Bool.Decides.{Decides-int_eq}
use Rattle.std.proofs.lemmas.Bool.{false≢true, eqb-true}
use Rattle.std.proofs.lemmas.Int.{ints, quot-rem}
use Rattle.std.proofs.lemmas.List.{length-reverse}
use Rattle.std.proofs.lemmas.Nat.{pow-add, pow_pos, div_below, div-mul-add, div-add-mod'}
use Rattle.std.proofs.Math.Pow.{pow_mono}
use Rattle.angle_arith.specs.Fraction.{Fraction, IsWhole, IsReducedCount, parts_of}
use Rattle.qasm_types.specs.Plans.{casts}
use Rattle.qasm_types.specs.Types.{IsWholeConstant}
use Rattle.qasm_types.specs.Values.{Count, Number, cast, number_of, number_of_bits, reduced_to, whole_of}
use Rattle.qasm_types.specs.declared.ty.Ty.{Ty}
use Rattle.qasm_types.specs.declared.ty.Ty.TheVariants as t
use Rattle.const_eval.specs.declared.constant.Const.{Const}
use Rattle.const_eval.specs.declared.constant.Const.TheVariants as c
use Rattle.const_eval.specs.declared.constant.BitRegister.{BitRegister}
use Rattle.const_eval.specs.Constant.{whole_in}
use Rattle.const_eval.specs.Numbered.{IsNumberOf, IsReducedNumber, is_numbered, value_for}
use Rattle.const_eval.specs.Seen.{constant_of}
use Rattle.const_eval.proofs.BitNumbers.{count_of_bits}

-- ---- casts to the types other than `bool` and angles

reduced-constant : (z : ℤ) → IsWholeConstant z → reduced_to t.Whole z ≡ Some (Number z)
reduced-constant z h = grind (arith, ints)

pub cast-reduced : (k : Const) (ty : Ty) (z r : ℤ) → casts (constant_of k).type (whole_in (constant_of k)) ty ≡ true → is_numbered ty ≡ true
    → (ty ≡ t.Bool → ⊥) → ((n : ℕ) → ty ≡ t.Angle n → ⊥) → z ≡ number_of (constant_of k).value → IsReducedNumber ty z r
    → (cast (constant_of k).type (constant_of k).value ty ≡ Some (value_for ty r)) × IsNumberOf ty r
cast-reduced (c.Whole w) t.Bit z r row numbered other far e h = (ap (reduced_to t.Bit) (sym e) ∙ h.0, h.1)
cast-reduced (c.Bool w) t.Bit z r row numbered other far e h = (ap (reduced_to t.Bit) (sym e) ∙ h.0, h.1)
cast-reduced (c.Bits w) t.Bit z r row numbered other far e h = (ap (reduced_to t.Bit) (sym e) ∙ h.0, h.1)
cast-reduced (c.Angle w) t.Bit z r row numbered other far e h = (ap (reduced_to t.Bit) (sym e) ∙ h.0, h.1)
cast-reduced (c.Pi w) t.Bit z r row numbered other far e h = (ap (reduced_to t.Bit) (sym e) ∙ h.0, h.1)
cast-reduced (c.Whole w) (t.Int n) z r row numbered other far e h = (ap (reduced_to (t.Int n)) (sym e) ∙ h.0, h.1)
cast-reduced (c.Bool w) (t.Int n) z r row numbered other far e h = (ap (reduced_to (t.Int n)) (sym e) ∙ h.0, h.1)
cast-reduced (c.Bits w) (t.Int n) z r row numbered other far e h = (ap (reduced_to (t.Int n)) (sym e) ∙ h.0, h.1)
cast-reduced (c.Angle w) (t.Int n) z r row numbered other far e h = (ap (reduced_to (t.Int n)) (sym e) ∙ h.0, h.1)
cast-reduced (c.Pi w) (t.Int n) z r row numbered other far e h = (ap (reduced_to (t.Int n)) (sym e) ∙ h.0, h.1)
cast-reduced (c.Whole w) (t.Uint n) z r row numbered other far e h = (ap (reduced_to (t.Uint n)) (sym e) ∙ h.0, h.1)
cast-reduced (c.Bool w) (t.Uint n) z r row numbered other far e h = (ap (reduced_to (t.Uint n)) (sym e) ∙ h.0, h.1)
cast-reduced (c.Bits w) (t.Uint n) z r row numbered other far e h = (ap (reduced_to (t.Uint n)) (sym e) ∙ h.0, h.1)
cast-reduced (c.Angle w) (t.Uint n) z r row numbered other far e h = (ap (reduced_to (t.Uint n)) (sym e) ∙ h.0, h.1)
cast-reduced (c.Pi w) (t.Uint n) z r row numbered other far e h = (ap (reduced_to (t.Uint n)) (sym e) ∙ h.0, h.1)
cast-reduced (c.Whole w) t.Whole z r row numbered other far e h =
    let same : r ≡ w.number = h.0 ∙ e in
    (reduced-constant w.number (subst (λ (x : ℤ). IsWholeConstant x) same h.1) ∙ ap (λ x. Some (Number x)) (sym same), h.1)
cast-reduced (c.Bool w) t.Whole z r row numbered other far e h = absurd (false≢true row)
cast-reduced (c.Bits w) t.Whole z r row numbered other far e h = absurd (false≢true row)
cast-reduced (c.Angle w) t.Whole z r row numbered other far e h = absurd (false≢true row)
cast-reduced (c.Pi w) t.Whole z r row numbered other far e h = absurd (false≢true row)
cast-reduced k t.Bool z r row numbered other far e h = absurd (other refl)
cast-reduced k (t.Angle n) z r row numbered other far e h = absurd (far n refl)
cast-reduced k (t.Bits n) z r row numbered other far e h = absurd (false≢true numbered)
cast-reduced k t.Turn z r row numbered other far e h = absurd (false≢true numbered)
cast-reduced k t.Pi z r row numbered other far e h = absurd (false≢true numbered)

pub kept_number : (ty : Ty) (z r : ℤ) → (ty ≡ t.Bit → ⊥) → ((n : ℕ) → ty ≡ t.Int n → ⊥) → ((n : ℕ) → ty ≡ t.Uint n → ⊥) → r ≡ z → IsWholeConstant z → IsReducedNumber ty z r
kept_number t.Bit z r bit int uint e h = absurd (bit refl)
kept_number (t.Int n) z r bit int uint e h = absurd (int n refl)
kept_number (t.Uint n) z r bit int uint e h = absurd (uint n refl)
kept_number t.Whole z r bit int uint e h = (e, subst (λ (x : ℤ). IsWholeConstant x) (sym e) h)
kept_number t.Bool z r bit int uint e h = tt
kept_number (t.Angle n) z r bit int uint e h = tt
kept_number (t.Bits n) z r bit int uint e h = tt
kept_number t.Turn z r bit int uint e h = tt
kept_number t.Pi z r bit int uint e h = tt

-- ---- counts of angles

product_below : (a p q : ℕ) → a < p → 0 < q → a * q < p * q
product_below a p q h g = grind (arith)

pub widened_below : (count m n : ℕ) → count < 2 ^ m → m ≤ n → n ≤ 32 → count * 2 ^ (n - m) % 18446744073709551616 < 2 ^ n
widened_below count m n h l g =
    let e : n ≡ m + (n - m) = omega arith in
    let whole : 2 ^ n ≡ 2 ^ m * 2 ^ (n - m) = ap (λ x. 2 ^ x) e ∙ pow-add 2 m (n - m) in
    let below : count * 2 ^ (n - m) < 2 ^ n = omega (arith, whole, product_below count (2 ^ m) (2 ^ (n - m)) h (pow_pos (n - m))) in
    let most = pow_mono g in
    let kept : count * 2 ^ (n - m) % 18446744073709551616 ≡ count * 2 ^ (n - m) = mod-eq_of_lt (omega (arith, below, most)) in
    omega (arith, kept, below)

pub narrowed_below : (count m n : ℕ) → count < 2 ^ m → n < m → count / 2 ^ (m - n) < 2 ^ n
narrowed_below count m n h l =
    let e : m ≡ n + (m - n) = omega arith in
    let whole : 2 ^ m ≡ 2 ^ n * 2 ^ (m - n) = ap (λ x. 2 ^ x) e ∙ pow-add 2 n (m - n) in
    div_below count (2 ^ (m - n)) (2 ^ n) (pow_pos (m - n)) (omega (arith, whole))

bits_at : (b : BitRegister) (w n : ℕ) (z : ℤ) → casts (constant_of (c.Bits b)).type (whole_in (constant_of (c.Bits b))) (t.Angle w) ≡ true
    → n ≡ number_of_bits (reverse b.text) → n < 2 ^ length b.text → z ≡ pos n → cast (constant_of (c.Bits b)).type (constant_of (c.Bits b)).value (t.Angle w) ≡ Some (Count (unsigned_abs z))
bits_at b w n z row e h p =
    let same : w ≡ length (reverse b.text) = eqb-true w (length (reverse b.text)) row in
    let small : n < 2 ^ w = subst (λ m. n < 2 ^ m) (sym (same ∙ length-reverse b.text)) h in
    count_of_bits (reverse b.text) w n e small ∙ ap (λ x. Some (Count (unsigned_abs x))) (sym p)

pub bits_at_angle : (k : Const) (b : BitRegister) (w n : ℕ) (z : ℤ) → k ≡ c.Bits b → casts (constant_of k).type (whole_in (constant_of k)) (t.Angle w) ≡ true
    → n ≡ number_of_bits (reverse b.text) → n < 2 ^ length b.text → z ≡ pos n → cast (constant_of k).type (constant_of k).value (t.Angle w) ≡ Some (Count (unsigned_abs z))
bits_at_angle k b w n z same row e h p =
    let P : Const → Type 0 = λ x. casts (constant_of x).type (whole_in (constant_of x)) (t.Angle w) ≡ true → cast (constant_of x).type (constant_of x).value (t.Angle w) ≡ Some (Count (unsigned_abs z)) in
    subst P (sym same) (λ r. bits_at b w n z r e h p) row

-- ---- counts of fractions of pi

times-one : (x : ℤ) → x *ℤ pos 1 ≡ x
times-one x = omega (arith, ints)

+ℤ-zero : (x : ℤ) → x +ℤ pos 0 ≡ x
+ℤ-zero x = omega (arith, ints)

quotient_of_product : (a d : ℕ) → 0 < d → a * d / d ≡ a
quotient_of_product a d h = let e : a * d ≡ a * d + 0 = omega arith in ap (λ n. n / d) e ∙ div-mul-add a d 0 h

pub rest_of_product : (a d : ℕ) → 0 < d → (a * d) % d ≡ 0
rest_of_product a d h = omega (arith, div-add-mod' (a * d) d, ap (λ n. n * d) (quotient_of_product a d h))

multiple : (d : ℕ) (z num : ℤ) → 0 < d → num ≡ z *ℤ pos d → (int_rem num (pos d) ≡ pos 0) × (int_div num (pos d) ≡ z)
multiple d (pos a) num h e =
    let P : ℤ → Type 0 = λ x. (int_rem x (pos d) ≡ pos 0) × (int_div x (pos d) ≡ pos a) in
    subst P (sym e) (ap pos (rest_of_product a d h), ap pos (quotient_of_product a d h))
multiple d (negsuc a) num h e =
    let m = suc a * d - 1 in
    let size : suc a * d ≡ suc m = omega (arith, suc-mul a d) in
    let P : ℤ → Type 0 = λ x. (int_rem x (pos d) ≡ pos 0) × (int_div x (pos d) ≡ negsuc a) in
    let same : num ≡ negsuc m = e ∙ ap (λ x. neg_ℤ (pos x)) size in
    subst P (sym same) (ap (λ x. neg_ℤ (pos (x % d))) (sym size) ∙ ap (λ x. neg_ℤ (pos x)) (rest_of_product (suc a) d h), ap (λ x. neg_ℤ (pos (x / d))) (sym size) ∙ ap (λ x. neg_ℤ (pos x)) (quotient_of_product (suc a) d h))

doubled_positive : (x : ℤ) → pos 1 ≤ℤ x → (d : ℕ) × (0 < d) × (x *ℤ pos 2 ≡ pos d)
doubled_positive (pos k) h = (k * 2, omega (arith, ints), refl)
doubled_positive (negsuc k) h = absurd h.le

pub part_count_some : (f : Fraction) (w n : ℕ) (r : ℤ) → pos 1 ≤ℤ f.den → IsReducedCount (parts_of f w) w n → r ≡ pos n
    → option_and_then (reduced_to (t.Angle w)) (whole_of (parts_of f w)) ≡ Some (Count (unsigned_abs r))
part_count_some f w n r positive h p =
    let num = f.num *ℤ pos (2 ^ w) in
    let den = f.den *ℤ pos 2 in
    let z = h.0 in
    let d = doubled_positive f.den positive in
    let product : num ≡ z *ℤ pos d.0 = sym (times-one num) ∙ h.1 ∙ ap (λ x. z *ℤ x) d.2 in
    let facts = multiple d.0 z num d.1 product in
    let rest : int_rem num den ≡ pos 0 = ap (int_rem num) d.2 ∙ facts.0 in
    let quotient : int_div num den ≡ z = ap (int_div num) d.2 ∙ facts.1 in
    (λ i. option_and_then (reduced_to (t.Angle w)) (cond (int_eq (rest i) (pos 0)) (Some (quotient i)) None)) ∙ ap (λ x. Some (Count (unsigned_abs x))) (sym h.2 ∙ sym p)

pub part_count_none : (f : Fraction) (w : ℕ) → (IsWhole (parts_of f w) → ⊥) → option_and_then (reduced_to (t.Angle w)) (whole_of (parts_of f w)) ≡ None
part_count_none f w none = by (int_eq (int_rem num den) (pos 0)) refl
  where
    num : ℤ
    num = f.num *ℤ pos (2 ^ w)

    den : ℤ
    den = f.den *ℤ pos 2

    whole : int_eq (int_rem num den) (pos 0) ≡ true → IsWhole (parts_of f w)
    whole e = (int_div num den, times-one num ∙ sym (quot-rem num den) ∙ ap (λ x. int_div num den *ℤ den +ℤ x) ((Decides-int_eq (int_rem num den) (pos 0)).0 e) ∙ +ℤ-zero (int_div num den *ℤ den))

    by : (b : Bool) → int_eq (int_rem num den) (pos 0) ≡ b → option_and_then (reduced_to (t.Angle w)) (cond (int_eq (int_rem num den) (pos 0)) (Some (int_div num den)) None) ≡ None
    by true e = absurd (none (whole e))
    by false e = ap (λ b. option_and_then (reduced_to (t.Angle w)) (cond b (Some (int_div num den)) None)) e
