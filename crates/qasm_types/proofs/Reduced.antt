-- What a whole number reduces to, and what casts give, is a value of the type.
use Rattle.std.proofs.Common.{◌≡◌, ℕ, zero, suc, ◌+◌, ◌-◌, ◌*◌, ◌/◌, ◌^◌, ◌<◌, ◌≤◌, Bool, true, false, nat_le, length, ℤ, pos, negsuc, ◌-ℤ◌, ◌≤ℤ◌, ◌<ℤ◌, unsigned_abs, Option, Some, None, refl, sym, ◌∙◌, ap, subst, arith, mul-lt-mul_of_pos_right, if◌then◌else◌}
use Rattle.std.proofs.Math.Nat.{pow-suc, div-lt_iff_lt-mul}
use Rattle.std.proofs.lemmas.Bool.{leb-true, leb-false}
use Rattle.std.proofs.lemmas.Nat.{pow_pos, pow-add}
use Rattle.std.proofs.lemmas.Int.{ints}
use Rattle.std.specs.Int.{int_rem_euclid, int_div_euclid}
use Rattle.std.specs.Option.{option_map, option_and_then}
use Rattle.std.specs.Ordering.{int_eq}
use Rattle.word_arith.specs.WordTy.{least_value, greatest_value, value_modulo}
use Rattle.angle_arith.specs.Fraction.{parts_of}
use Rattle.qasm_types.specs.declared.ty.Ty.{Ty}
use Rattle.qasm_types.specs.declared.ty.Ty.TheVariants as t
use Rattle.qasm_types.specs.Types.{IsWholeConstant}
use Rattle.qasm_types.specs.Values.{Value, Register, Number, Count, Units, PartOfPi, IsValueOf, number_of, bits_of, is_constant, reduced_to, whole_of, count_at, cast, taken}
use Rattle.qasm_types.proofs.Choices.{some_is}

-- ---- answers that are there

pub then_cases : {A B : Type 0} (f : A → Option B) (o : Option A) (y : B) → option_and_then f o ≡ Some y → (x : A) × (o ≡ Some x) × (f x ≡ Some y)
then_cases f None y e = absurd cc
then_cases f (Some x) y e = (x, refl, e)

pub map_cases : {A B : Type 0} (f : A → B) (o : Option A) (y : B) → option_map f o ≡ Some y → (x : A) × (f x ≡ y)
map_cases f None y e = absurd cc
map_cases f (Some x) y e = (x, some_is (f x) y e)

pub where_cases : {A : Type 0} (b : Bool) (x y : A) → (if b then Some x else None) ≡ Some y → (b ≡ true) × (x ≡ y)
where_cases true x y e = (refl, some_is x y e)
where_cases false x y e = absurd cc

-- a value, where an answer is there
pub value_at : (type : Ty) (x y : Value) → IsValueOf type x → x ≡ y → IsValueOf type y
value_at type x y h e = let P : Value → Type 0 = λ v. IsValueOf type v in subst P e h

-- ---- reduction

-- what is left modulo m lies from 0 below m
inside : (z : ℤ) (m : ℕ) → 0 < m → (pos 0 ≤ℤ int_rem_euclid z (pos m)) × (int_rem_euclid z (pos m) <ℤ pos m)
inside (pos a) m some = (omega (arith, ints), omega (arith, ints))
inside (negsuc a) m some = (omega (arith, ints), omega (arith, ints))

pow_within : (n : ℕ) → 2 ^ n ≤ 2 ^ (n - 1) + 2 ^ (n - 1)
pow_within zero = omega arith
pow_within (suc n) = let e : suc n - 1 ≡ n = omega arith in rw e (omega (arith, pow-suc 2 n))

modulo_signed : (n : ℕ) (z : ℤ) → (least_value true n ≤ℤ value_modulo true n z) × (value_modulo true n z ≤ℤ greatest_value true n)
modulo_signed n z =
    let within = inside (z -ℤ least_value true n) (2 ^ n) (pow_pos n) in
    (omega (arith, ints), omega (arith, ints, pow_within n, pow_pos (n - 1)))

modulo_unsigned : (n : ℕ) (z : ℤ) → (least_value false n ≤ℤ value_modulo false n z) × (value_modulo false n z ≤ℤ greatest_value false n)
modulo_unsigned n z =
    let within = inside (z -ℤ least_value false n) (2 ^ n) (pow_pos n) in
    (omega (arith, ints), omega (arith, ints, pow_pos n))

length-bits_of : (n : ℕ) (z : ℤ) → length (bits_of n z) ≡ n
length-bits_of zero z = refl
length-bits_of (suc n) z = ap suc (length-bits_of n (int_div_euclid z (pos 2)))

constant_from_test : (z : ℤ) → is_constant z ≡ true → IsWholeConstant z
constant_from_test (pos a) e = (omega (arith, ints), grind (arith, ints))
constant_from_test (negsuc a) e = (grind (arith, ints), omega (arith, ints))

pub reduced_is_value : (type : Ty) (z : ℤ) (y : Value) → reduced_to type z ≡ Some y → IsValueOf type y
reduced_is_value t.Bool z y e = value_at t.Bool _ y tt (some_is _ y e)
reduced_is_value t.Bit z y e = value_at t.Bit _ y tt (some_is _ y e)
reduced_is_value (t.Bits n) z y e = value_at (t.Bits n) (Register (bits_of n z)) y (length-bits_of n z) (some_is _ y e)
reduced_is_value (t.Int n) z y e = value_at (t.Int n) (Number (value_modulo true n z)) y (modulo_signed n z) (some_is _ y e)
reduced_is_value (t.Uint n) z y e = value_at (t.Uint n) (Number (value_modulo false n z)) y (modulo_unsigned n z) (some_is _ y e)
reduced_is_value (t.Angle n) z y e =
    let within = inside z (2 ^ n) (pow_pos n) in
    value_at (t.Angle n) (Count (unsigned_abs (int_rem_euclid z (pos (2 ^ n))))) y (omega (arith, ints)) (some_is _ y e)
reduced_is_value t.Turn z y e = value_at t.Turn (Units (value_modulo true 64 z)) y (modulo_signed 64 z) (some_is _ y e)
reduced_is_value t.Whole z y e = let (test, is) = where_cases (is_constant z) (Number z) y e in value_at t.Whole (Number z) y (constant_from_test z test) is
reduced_is_value t.Pi z y e = absurd cc

-- ---- casts

pow_parts : (m n : ℕ) → m ≤ n → 2 ^ n ≡ 2 ^ m * 2 ^ (n - m)
pow_parts m n le = let whole : n ≡ m + (n - m) = omega arith in ap (λ k. 2 ^ k) whole ∙ pow-add 2 m (n - m)

count_at_below : (m n c : ℕ) → c < 2 ^ m → count_at m n c < 2 ^ n
count_at_below m n c h = by (nat_le m n) refl
  where
    by : (b : Bool) → nat_le m n ≡ b → (if b then c * 2 ^ (n - m) else c / 2 ^ (m - n)) < 2 ^ n
    by true le = subst (λ k. c * 2 ^ (n - m) < k) (sym (pow_parts m n (leb-true m n le))) (mul-lt-mul_of_pos_right h (pow_pos (n - m)))
    by false le =
        let less : n < m = leb-false m n le in
        (div-lt_iff_lt-mul (pow_pos (m - n))).1 (subst (λ k. c < k) (pow_parts n m (omega arith)) h)

pub cast_is_value : (a b : Ty) (x y : Value) → IsValueOf a x → cast a x b ≡ Some y → IsValueOf b y
cast_is_value a t.Bool x y h e = value_at t.Bool _ y tt (some_is _ y e)
cast_is_value (t.Angle m) (t.Angle n) (Count c) y h e = value_at (t.Angle n) (Count (count_at m n c)) y (count_at_below m n c h) (some_is _ y e)
cast_is_value t.Whole (t.Angle n) (Number z) y h e =
    let (test, is) = where_cases (int_eq z (pos 0)) (Count 0) y e in
    value_at (t.Angle n) (Count 0) y (pow_pos n) is
cast_is_value t.Pi (t.Angle n) (PartOfPi p) y h e =
    let (z, there, is) = then_cases (reduced_to (t.Angle n)) (whole_of (parts_of p n)) y e in
    reduced_is_value (t.Angle n) z y is
cast_is_value t.Pi t.Pi x y h e = value_at t.Pi x y h (some_is x y e)
cast_is_value a b x y h e = reduced_is_value b (number_of x) y e

units_is_value : (z : ℤ) → unsigned_abs z ≤ 2 ^ 40 → IsValueOf t.Turn (Units z)
units_is_value z small = (omega (arith, ints), omega (arith, ints))

pub taken_is_value : (a b : Ty) (x y : Value) → IsValueOf a x → taken a x b ≡ Some y → IsValueOf b y
taken_is_value t.Pi t.Turn (PartOfPi p) y h e =
    let (z, there, is) = then_cases (λ z. if nat_le (unsigned_abs z) (2 ^ 40) then Some (Units z) else None) (whole_of (parts_of p 32)) y e in
    let (test, same) = where_cases (nat_le (unsigned_abs z) (2 ^ 40)) (Units z) y is in
    value_at t.Turn (Units z) y (units_is_value z (leb-true (unsigned_abs z) (2 ^ 40) test)) same
taken_is_value t.Pi b (PartOfPi p) y h e = cast_is_value t.Pi b (PartOfPi p) y h e
taken_is_value t.Pi b _ y h e = absurd h
taken_is_value a b x y h e = cast_is_value a b x y h e
