-- What the rows of constants that are taken as numbers say of their operators and numbers.
use Rattle.std.proofs.Common.{◌≡◌, ℕ, ◌+◌, ◌-◌, ◌*◌, ◌%◌, ◌^◌, ◌<◌, ◌≤◌, Bool, true, false, cond, Option, Some, None, IfSome, mul-le-mul_right, ⊎_elim, ℤ, pos, negsuc, ◌*ℤ◌, ◌≤ℤ◌, refl, sym, ap, subst, ◌∙◌, arith}
use Rattle.std.specs.Int.RustNames.{unsigned_abs, int_le, int_lt}
use Rattle.std.specs.Option.{option_and_then, option_map}
use Rattle.std.proofs.Math.Pow.{pow_mono}
use Rattle.std.proofs.Math.Nat.{mul_assoc, mul_comm}
use Rattle.std.proofs.lemmas.Bool.{false≢true}
use Rattle.std.proofs.lemmas.Int.{ints}
use Rattle.std.proofs.lemmas.Nat.{pow-add, pow_pos}
use Rattle.qasm_ast.specs.declared.expr.BinaryOp.{BinaryOp}
use Rattle.qasm_ast.specs.declared.expr.BinaryOp.TheVariants as op
use Rattle.qasm_types.specs.declared.ty.Ty.{Ty}
use Rattle.qasm_types.specs.declared.ty.Ty.TheVariants as t
use Rattle.qasm_types.specs.Operators.{Group, Bitwise}
use Rattle.qasm_types.specs.Values.{Value, Count, Number, PartOfPi, apply, is_constant, number_of, reduced_to, result_on_numbers}
use Rattle.const_eval.specs.ConstantRows.{ConstantRow, is_bitwise, is_for_counts, Tested, OnWholes, OnBits, OnAngles, AngleBy, ByAngle, OnParts, PartsTested, PartBy, ByPart, OnRegisters, RegistersEqual, RegisterShifted}
use Rattle.const_eval.specs.Numbered.{IsNumberOf, applied, in_range, is_numbered, value_for}
use Rattle.const_eval.proofs.Counting.{rest_of_product}
use Rattle.const_eval.proofs.Powers.{constant_cases}

-- ---- rows by their results

no_angle_bits : (m : Ty) (n : ℕ) → is_bitwise m ≡ true → m ≡ t.Angle n → ⊥
no_angle_bits m n h e = false≢true (sym (ap is_bitwise e) ∙ h)

pub row_for_counts : (g : Group) (l r m : Ty) (n : ℕ) → ConstantRow g l r m → m ≡ t.Angle n → is_for_counts g ≡ true
row_for_counts _ _ _ _ n (OnAngles k) e = refl
row_for_counts _ _ _ _ n (AngleBy g k h) e = h
row_for_counts _ _ _ _ n (ByAngle k) e = refl
row_for_counts _ _ _ _ n (OnBits m h) e = absurd (no_angle_bits m n h e)
row_for_counts _ _ _ _ n _ e = cc

pub row_bitwise : (g : Group) (l r m : Ty) → ConstantRow g l r m → is_numbered l ≡ true → is_numbered r ≡ true → (m ≡ t.Bool → ⊥) → (m ≡ t.Whole → ⊥) → ((n : ℕ) → m ≡ t.Angle n → ⊥) → (is_bitwise m ≡ true) × (g ≡ Bitwise)
row_bitwise _ _ _ _ (Tested g m p q) nl nr bool whole angle = absurd (bool refl)
row_bitwise _ _ _ _ (OnWholes g) nl nr bool whole angle = absurd (whole refl)
row_bitwise _ _ _ _ (OnBits m h) nl nr bool whole angle = (h, refl)
row_bitwise _ _ _ _ (OnAngles n) nl nr bool whole angle = absurd (angle n refl)
row_bitwise _ _ _ _ (AngleBy g n h) nl nr bool whole angle = absurd (angle n refl)
row_bitwise _ _ _ _ (ByAngle n) nl nr bool whole angle = absurd (angle n refl)
row_bitwise _ _ _ _ OnParts nl nr bool whole angle = absurd (false≢true nl)
row_bitwise _ _ _ _ (PartsTested g h) nl nr bool whole angle = absurd (false≢true nl)
row_bitwise _ _ _ _ (PartBy g h) nl nr bool whole angle = absurd (false≢true nl)
row_bitwise _ _ _ _ ByPart nl nr bool whole angle = absurd (false≢true nr)
row_bitwise _ _ _ _ (OnRegisters n) nl nr bool whole angle = absurd (false≢true nl)
row_bitwise _ _ _ _ (RegistersEqual n) nl nr bool whole angle = absurd (false≢true nl)
row_bitwise _ _ _ _ (RegisterShifted n) nl nr bool whole angle = absurd (false≢true nl)

-- the result of a row on numbers is a number
pub row_numbered : (g : Group) (l r m : Ty) → ConstantRow g l r m → is_numbered l ≡ true → is_numbered r ≡ true → is_numbered m ≡ true
row_numbered _ _ _ _ (Tested g m p q) nl nr = refl
row_numbered _ _ _ _ (OnWholes g) nl nr = refl
row_numbered _ _ _ _ (OnBits m h) nl nr = nl
row_numbered _ _ _ _ (OnAngles n) nl nr = refl
row_numbered _ _ _ _ (AngleBy g n h) nl nr = refl
row_numbered _ _ _ _ (ByAngle n) nl nr = refl
row_numbered _ _ _ _ OnParts nl nr = absurd (false≢true nl)
row_numbered _ _ _ _ (PartsTested g h) nl nr = absurd (false≢true nl)
row_numbered _ _ _ _ (PartBy g h) nl nr = absurd (false≢true nl)
row_numbered _ _ _ _ ByPart nl nr = absurd (false≢true nr)
row_numbered _ _ _ _ (OnRegisters n) nl nr = absurd (false≢true nl)
row_numbered _ _ _ _ (RegistersEqual n) nl nr = absurd (false≢true nl)
row_numbered _ _ _ _ (RegisterShifted n) nl nr = absurd (false≢true nl)

-- beside a register of bits that is taken as it is, nothing is a fraction of pi, and beside what is no register the right operand is none
pub row_right_numbered : (g : Group) (l r m : Ty) → ConstantRow g l r m → is_numbered l ≡ true → (r ≡ t.Pi → ⊥) → is_numbered r ≡ true
row_right_numbered _ _ _ _ (Tested g m p q) nl pi = nl
row_right_numbered _ _ _ _ (OnWholes g) nl pi = refl
row_right_numbered _ _ _ _ (OnBits m h) nl pi = nl
row_right_numbered _ _ _ _ (OnAngles n) nl pi = refl
row_right_numbered _ _ _ _ (AngleBy g n h) nl pi = refl
row_right_numbered _ _ _ _ (ByAngle n) nl pi = refl
row_right_numbered _ _ _ _ OnParts nl pi = absurd (false≢true nl)
row_right_numbered _ _ _ _ (PartsTested g h) nl pi = absurd (false≢true nl)
row_right_numbered _ _ _ _ (PartBy g h) nl pi = absurd (false≢true nl)
row_right_numbered _ _ _ _ ByPart nl pi = absurd (pi refl)
row_right_numbered _ _ _ _ (OnRegisters n) nl pi = absurd (false≢true nl)
row_right_numbered _ _ _ _ (RegistersEqual n) nl pi = absurd (false≢true nl)
row_right_numbered _ _ _ _ (RegisterShifted n) nl pi = absurd (false≢true nl)

pub row_left_numbered : (g : Group) (l r m : Ty) → ConstantRow g l r m → (l ≡ t.Pi → ⊥) → ((n : ℕ) → l ≡ t.Bits n → ⊥) → is_numbered l ≡ true
row_left_numbered _ _ _ _ (Tested g m p q) pi bits = q
row_left_numbered _ _ _ _ (OnWholes g) pi bits = refl
row_left_numbered _ _ _ _ (OnBits m h) pi bits = bitwise m h
  where
    bitwise : (m : Ty) → is_bitwise m ≡ true → is_numbered m ≡ true
    bitwise t.Bit h = refl
    bitwise (t.Int n) h = refl
    bitwise (t.Uint n) h = refl
    bitwise _ h = absurd (false≢true h)
row_left_numbered _ _ _ _ (OnAngles n) pi bits = refl
row_left_numbered _ _ _ _ (AngleBy g n h) pi bits = refl
row_left_numbered _ _ _ _ (ByAngle n) pi bits = refl
row_left_numbered _ _ _ _ OnParts pi bits = absurd (pi refl)
row_left_numbered _ _ _ _ (PartsTested g h) pi bits = absurd (pi refl)
row_left_numbered _ _ _ _ (PartBy g h) pi bits = absurd (pi refl)
row_left_numbered _ _ _ _ ByPart pi bits = refl
row_left_numbered _ _ _ _ (OnRegisters n) pi bits = absurd (bits n refl)
row_left_numbered _ _ _ _ (RegistersEqual n) pi bits = absurd (bits n refl)
row_left_numbered _ _ _ _ (RegisterShifted n) pi bits = absurd (bits n refl)

-- ---- how large the numbers are

product_small : (a b n : ℕ) → a < 2 ^ n → n ≤ 32 → b < 2 ^ 64 + 1 → a * b < 2 ^ 126
product_small a b n h l g =
    let most = pow_mono l in
    let small : a ≤ 2 ^ 32 = omega (arith, h, most) in
    let first : a * b ≤ 2 ^ 32 * b = mul-le-mul_right b small in
    omega (arith, first, g)

constant_size : (z : ℤ) → IsNumberOf t.Whole z → unsigned_abs z < 2 ^ 64 + 1
constant_size z h = omega (arith, ints, h.0, h.1)

angle_size : (z : ℤ) (n : ℕ) → n ≤ 32 → IsNumberOf (t.Angle n) z → unsigned_abs z < 2 ^ 64 + 1
angle_size z n l h = let most = pow_mono l in omega (arith, h.1, most)

-- ---- values as numbers

abbrev is_plain : Value → Bool
is_plain (PartOfPi p) = false
is_plain _ = true

apply-plain : (o : BinaryOp) (r : Ty) (x y : Value) → is_plain x ≡ true → is_plain y ≡ true → apply o r x y ≡ applied o r (number_of x) (number_of y)
apply-plain o r (PartOfPi p) y h g = absurd (false≢true h)
apply-plain o r x (PartOfPi q) h g = absurd (false≢true g)
apply-plain o t.Bool x y h g = refl
apply-plain o r x y h g = refl

plain_value : (m : Ty) (x : ℤ) → is_plain (value_for m x) ≡ true
plain_value t.Bool x = refl
plain_value t.Bit x = refl
plain_value (t.Angle n) x = refl
plain_value _ x = refl

number_back : (m : Ty) (x : ℤ) → IsNumberOf m x → number_of (value_for m x) ≡ x
number_back t.Bool x h = grind (arith, ints)
number_back t.Bit x h = grind (arith, ints)
number_back (t.Angle n) (pos x) h = refl
number_back (t.Angle n) (negsuc x) h = absurd h.0.le
number_back _ x h = refl

pub apply-numbers : (o : BinaryOp) (l r m : Ty) (x y : ℤ) → IsNumberOf l x → IsNumberOf r y → apply o m (value_for l x) (value_for r y) ≡ applied o m x y
apply-numbers o l r m x y h g =
    apply-plain o m (value_for l x) (value_for r y) (plain_value l x) (plain_value r y) ∙ (λ i. applied o m (number_back l x h i) (number_back r y g i))

-- ---- counts that are shifted out

pub shifted_out_of_angle : (o : BinaryOp) (x y : ℤ) (n : ℕ) → o ≡ op.ShiftLeft → int_lt y (pos 0) ≡ false → 32 ≤ unsigned_abs y → pos 0 ≤ℤ x → n ≤ 32
    → option_and_then (reduced_to (t.Angle n)) (result_on_numbers o x y) ≡ option_and_then (reduced_to (t.Angle n)) (Some (pos 0))
shifted_out_of_angle o (negsuc m) y n e h l positive g = absurd positive.le
shifted_out_of_angle o (pos m) y n e h l positive g =
    let k = unsigned_abs y in
    let split : k ≡ (k - n) + n = omega arith in
    let whole : m * 2 ^ k ≡ m * 2 ^ (k - n) * 2 ^ n = ap (λ j. m * 2 ^ j) split ∙ ap (λ x. m * x) (pow-add 2 (k - n) n) ∙ sym (mul_assoc m (2 ^ (k - n)) (2 ^ n)) in
    let rest : (m * 2 ^ k) % 2 ^ n ≡ 0 = ap (λ x. x % 2 ^ n) whole ∙ rest_of_product (m * 2 ^ (k - n)) (2 ^ n) (pow_pos n) in
    let zero_product : 0 ≡ 0 * 2 ^ n = omega arith in
    let none : 0 % 2 ^ n ≡ 0 = ap (λ x. x % 2 ^ n) zero_product ∙ rest_of_product 0 (2 ^ n) (pow_pos n) in
    ap (λ p. option_and_then (reduced_to (t.Angle n)) (result_on_numbers p (pos m) y)) e
    ∙ ap (λ b. option_and_then (reduced_to (t.Angle n)) (cond b None (Some (pos m *ℤ pos (2 ^ k))))) h
    ∙ ap (λ c. Some (Count c)) (rest ∙ sym none)

pub far_amount : (y : ℤ) → int_le (pos 32) y ≡ true → 32 ≤ unsigned_abs y
far_amount y h = grind (arith, ints)

pub count_small : (g : Group) (l r m : Ty) (n : ℕ) (x y : ℤ) → ConstantRow g l r m → m ≡ t.Angle n → n ≤ 32 → IsNumberOf l x → IsNumberOf r y → unsigned_abs x * unsigned_abs y < 2 ^ 126
count_small _ _ _ _ n x y (OnAngles k) e l h g =
    let same : k ≡ n = cc in
    product_small (unsigned_abs x) (unsigned_abs y) k h.1 (omega arith) (angle_size y k (omega arith) g)
count_small _ _ _ _ n x y (AngleBy f k c) e l h g =
    let same : k ≡ n = cc in
    product_small (unsigned_abs x) (unsigned_abs y) k h.1 (omega arith) (constant_size y g)
count_small _ _ _ _ n x y (ByAngle k) e l h g =
    let same : k ≡ n = cc in
    subst (λ p. p < 2 ^ 126) (mul_comm (unsigned_abs y) (unsigned_abs x)) (product_small (unsigned_abs y) (unsigned_abs x) k g.1 (omega arith) (constant_size x h))
count_small _ _ _ _ n x y (OnBits k c) e l h g = absurd (no_angle_bits k n c e)
count_small _ _ _ _ n x y _ e l h g = absurd cc

-- ---- whole constants

chosen_both : (b : Bool) (z : ℤ) → cond b (Some (Number z)) None ≡ option_map (value_for t.Whole) (cond b (Some z) None)
chosen_both true z = refl
chosen_both false z = refl

whole_both : (o : Option ℤ) → option_and_then (reduced_to t.Whole) o ≡ option_map (value_for t.Whole) (option_and_then in_range o)
whole_both None = refl
whole_both (Some z) = chosen_both (is_constant z) z

pub applied_whole : (o : BinaryOp) (m : Ty) (x y : ℤ) (r : Option ℤ) → m ≡ t.Whole → r ≡ option_and_then in_range (result_on_numbers o x y) → applied o m x y ≡ option_map (value_for m) r
applied_whole o m x y r e h =
    let P : Ty → Type 0 = λ k. applied o k x y ≡ option_map (value_for k) r in
    subst P (sym e) (whole_both (result_on_numbers o x y) ∙ ap (option_map (value_for t.Whole)) (sym h))

whole_range : (o r : Option ℤ) → r ≡ option_and_then in_range o → IfSome r (IsNumberOf t.Whole)
whole_range None r e = let P : Option ℤ → Type 0 = λ q. IfSome q (IsNumberOf t.Whole) in subst P (sym e) tt
whole_range (Some z) r e =
    let P : Option ℤ → Type 0 = λ q. IfSome q (IsNumberOf t.Whole) in
    ⊎_elim (λ h. subst P (sym (e ∙ h.0)) h.1) (λ h. subst P (sym (e ∙ h.0)) tt) (constant_cases z)

pub whole_stands : (m : Ty) (o r : Option ℤ) → m ≡ t.Whole → r ≡ option_and_then in_range o → IfSome r (IsNumberOf m)
whole_stands m o r e h = let P : Ty → Type 0 = λ k. IfSome r (IsNumberOf k) in subst P (sym e) (whole_range o r h)
