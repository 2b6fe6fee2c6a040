-- The rows of divisors and amounts.
use Rattle.std.proofs.Common.{◌≡◌, ℕ, ◌-◌, ◌^◌, ◌<◌, ◌≤◌, max, nat_le, ◌⊎◌, inl, inr, Bool, true, false, ◌&&◌, if◌then◌else◌, ℤ, pos, ◌≤ℤ◌, int_le, Some, None, refl, sym, ap, subst, ◌∙◌, arith}
use Rattle.std.proofs.Math.Pow.{pow_mono}
use Rattle.std.proofs.lemmas.Bool.{leb-true}
use Rattle.std.proofs.lemmas.Int.{ints}
use Rattle.word_arith.specs.WordTy.{least_value, greatest_value}
use Rattle.qasm_types.specs.declared.ty.Ty.{Ty}
use Rattle.qasm_types.specs.declared.ty.Ty.TheVariants as t
use Rattle.qasm_types.specs.Types.{IsType, IsWord}
use Rattle.qasm_types.specs.Words.{MeetAt, TwoWords, ConstantRight, ConstantLeft, meeting, constant_beside, is_value_of}
use Rattle.qasm_types.specs.Operators as row
use Rattle.qasm_types.specs.Operators.{Group, Quotient, Rest, Shift, HasRow, IsShifted}
use Rattle.qasm_types.specs.Values.{Value, Number, is_constant, taken}
use Rattle.machine_words.specs.Laws.{NumbersAreKept}
use Rattle.cell_exprs.specs.Laws.{IsInCells, IsOneWord}

abbrev pub Scales : Group → Type 0
Scales Quotient = Unit {0}
Scales Rest = Unit {0}
Scales Shift = Unit {0}
Scales _ = ⊥

-- a number in the range of a word type
abbrev pub InRange : Ty → ℤ → Type 0
InRange (t.Int n) v = (1 ≤ n) × (least_value true n ≤ℤ v) × (v ≤ℤ greatest_value true n)
InRange (t.Uint n) v = (1 ≤ n) × (least_value false n ≤ℤ v) × (v ≤ℤ greatest_value false n)
InRange _ v = ⊥

-- what holds of a row whose right operand is a whole constant
pub record ScaledRow (g : Group) (l r m : Ty) (v : ℤ) : Type 0 where
  pub same : l ≡ m
  pub right : (r ≡ t.Whole) ⊎ InRange r v
  pub kind : IsOneWord m ⊎ ((g ≡ Shift) × (n : ℕ) × (m ≡ t.Bits n))

both_of : (x y : Bool) → (x && y) ≡ true → (x ≡ true) × (y ≡ true)
both_of true y e = (refl, e)
both_of false y e = absurd cc

int_le_is : (x y : ℤ) → int_le x y ≡ true → x ≤ℤ y
int_le_is x y e = grind (arith, ints)

no_words : (b : Ty) → b ≡ t.Whole → IsWord b → ⊥
no_words b e h = subst IsWord e h

word_is_one : (m : Ty) → IsWord m → IsType m → IsOneWord m
word_is_one (t.Int n) h ty = ty
word_is_one (t.Uint n) h ty = ty
word_is_one _ h ty = absurd h

-- ---- where a word meets a whole constant

range_is_word : (m : Ty) (v : ℤ) → InRange m v → IsWord m
range_is_word (t.Int n) v h = tt
range_is_word (t.Uint n) v h = tt
range_is_word _ v h = absurd h

own_range : (a : Ty) (v : ℤ) → IsWord a → IsType a → is_value_of a v ≡ true → InRange (meeting a a) v
own_range (t.Int n) v h ty e =
    let (l, g) = both_of (int_le (least_value true n) v) (int_le v (greatest_value true n)) e in
    let same : n ≡ max n n = omega arith in
    subst (λ (k : ℕ). InRange (t.Int k) v) same (ty.0, int_le_is (least_value true n) v l, int_le_is v (greatest_value true n) g)
own_range (t.Uint n) v h ty e =
    let (l, g) = both_of (int_le (least_value false n) v) (int_le v (greatest_value false n)) e in
    let same : n ≡ max n n = omega arith in
    subst (λ (k : ℕ). InRange (t.Uint k) v) same (ty.0, int_le_is (least_value false n) v l, int_le_is v (greatest_value false n) g)
own_range _ v h ty e = absurd h

int_range : (n k : ℕ) → 64 ≤ n → k < 2 ^ 63 → InRange (t.Int n) (pos k)
int_range n k h l =
    let le : 63 ≤ n - 1 = omega arith in
    let more : 2 ^ 63 ≤ 2 ^ (n - 1) = pow_mono le in
    (omega arith, omega (arith, ints), omega (arith, ints, more))

uint_range : (n k : ℕ) → 64 ≤ n → k < 2 ^ 63 → InRange (t.Uint n) (pos k)
uint_range n k h l =
    let more : 2 ^ 64 ≤ 2 ^ n = pow_mono h in
    (omega arith, omega (arith, ints), omega (arith, ints, more))

either_range : (b : Bool) (n k : ℕ) → nat_le 64 n ≡ b → k < 2 ^ 63 → InRange (if b then t.Uint n else t.Int 64) (pos k)
either_range true n k e l = uint_range n k (leb-true 64 n e) l
either_range false n k e l = let all : 64 ≤ 64 = omega arith in int_range 64 k all l

wide_range : (a : Ty) (k : ℕ) → IsWord a → k < 2 ^ 63 → InRange (meeting a (t.Int 64)) (pos k)
wide_range (t.Int n) k h l = int_range (max n 64) k (omega arith) l
wide_range (t.Uint n) k h l = either_range (nat_le 64 n) n k refl l
wide_range _ k h l = absurd h

in_int : (k : ℕ) → k < 2 ^ 63 → is_value_of (t.Int 64) (pos k) ≡ true
in_int k l = grind (arith, ints)

beside_range : (a : Ty) (k : ℕ) (b : Bool) → is_value_of a (pos k) ≡ b → IsWord a → IsType a → k < 2 ^ 63
    → InRange (meeting a (if b then a else (if is_value_of (t.Int 64) (pos k) then t.Int 64 else t.Uint 64))) (pos k)
beside_range a k true e h ty l = own_range a (pos k) h ty e
beside_range a k false e h ty l = subst (λ (c : Bool). InRange (meeting a (if c then t.Int 64 else t.Uint 64)) (pos k)) (sym (in_int k l)) (wide_range a k h l)

met_range : (a b m : Ty) (u v : ℤ) (k : ℕ) → MeetAt a u b v m → v ≡ pos k → b ≡ t.Whole → IsType a → k < 2 ^ 63 → InRange m v
met_range _ _ _ _ _ k (TwoWords a b u v p q) ev e ty l = absurd (no_words b e q)
met_range _ _ _ _ _ k (ConstantRight a u v p) ev e ty l =
    let P : ℤ → Type 0 = λ w. InRange (meeting a (constant_beside a w)) w in
    subst P (sym ev) (beside_range a k (is_value_of a (pos k)) refl p ty l)
met_range _ _ _ _ _ k (ConstantLeft b u v p) ev e ty l = absurd (no_words b e p)

-- ---- the rows

shifted_kind : (a : Ty) → IsShifted a → IsType a → IsOneWord a ⊎ ((Shift ≡ Shift) × (n : ℕ) × (a ≡ t.Bits n))
shifted_kind (t.Int n) h ty = inl ty
shifted_kind (t.Uint n) h ty = inl ty
shifted_kind (t.Bits n) h ty = inr (refl, n, refl)
shifted_kind (t.Angle n) h ty = inl ty
shifted_kind _ h ty = absurd h

words_row : (g : Group) (a b m : Ty) (u v : ℤ) (k : ℕ) → MeetAt a u b v m → v ≡ pos k → b ≡ t.Whole → IsType a → IsType m → k < 2 ^ 63 → ScaledRow g m m m v
words_row g a b m u v k h ev e ta tm l =
    let inside = met_range a b m u v k h ev e ta l in
    record { same = refl; right = inr inside; kind = inl (word_is_one m (range_is_word m v inside) tm) }

few_quotient : (k : ℕ) → (Quotient ≡ Shift) ⊎ (k < 2 ^ 63) → k < 2 ^ 63
few_quotient k (inl e) = absurd cc
few_quotient k (inr h) = h

few_rest : (k : ℕ) → (Rest ≡ Shift) ⊎ (k < 2 ^ 63) → k < 2 ^ 63
few_rest k (inl e) = absurd cc
few_rest k (inr h) = h

pub scaled_row : (g : Group) (a b l r m : Ty) (u v : ℤ) (k : ℕ) → HasRow g a u b v l r m → Scales g → v ≡ pos k → (g ≡ Shift) ⊎ (k < 2 ^ 63) → b ≡ t.Whole → IsInCells a → IsType a → IsType m → ScaledRow g l r m v
scaled_row _ _ _ _ _ _ _ _ k (row.QuotientOfWords a b m u v h) s ev few e c ta tm = words_row Quotient a b m u v k h ev e ta tm (few_quotient k few)
scaled_row _ _ _ _ _ _ _ _ k (row.AngleOver n b u v h) s ev few e c ta tm = record { same = refl; right = inl e; kind = inl ta }
scaled_row _ _ _ _ _ _ _ _ k (row.TurnOver u v) s ev few e c ta tm = record { same = refl; right = inl refl; kind = inl tt }
scaled_row _ _ _ _ _ _ _ _ k (row.QuotientOfWholes u v) s ev few e c ta tm = absurd c
scaled_row _ _ _ _ _ _ _ _ k (row.FractionOver u v) s ev few e c ta tm = absurd c
scaled_row _ _ _ _ _ _ _ _ k (row.RestOfWords a b m u v h) s ev few e c ta tm = words_row Rest a b m u v k h ev e ta tm (few_rest k few)
scaled_row _ _ _ _ _ _ _ _ k (row.RestOfWholes u v) s ev few e c ta tm = absurd c
scaled_row _ _ _ _ _ _ _ _ k (row.Shifted a b u v h j) s ev few e c ta tm = record { same = refl; right = inl e; kind = shifted_kind a h ta }
scaled_row _ _ _ _ _ _ _ _ k (row.ConstantShifted b u v h) s ev few e c ta tm = absurd c
scaled_row _ _ _ _ _ _ _ _ k (row.ShiftOfWholes u v) s ev few e c ta tm = absurd c
scaled_row _ _ _ _ _ _ _ _ k (row.SumOfWords a b m u v h) s ev few e c ta tm = absurd s
scaled_row _ _ _ _ _ _ _ _ k (row.SumOfAngles a b m u v h) s ev few e c ta tm = absurd s
scaled_row _ _ _ _ _ _ _ _ k (row.SumOfTurns a b u v h) s ev few e c ta tm = absurd s
scaled_row _ _ _ _ _ _ _ _ k (row.SumOfConstants a b m u v h) s ev few e c ta tm = absurd s
scaled_row _ _ _ _ _ _ _ _ k (row.ProductOfWords a b m u v h) s ev few e c ta tm = absurd s
scaled_row _ _ _ _ _ _ _ _ k (row.AngleTimes n b u v h) s ev few e c ta tm = absurd s
scaled_row _ _ _ _ _ _ _ _ k (row.TimesAngle n a u v h) s ev few e c ta tm = absurd s
scaled_row _ _ _ _ _ _ _ _ k (row.TurnTimes u v) s ev few e c ta tm = absurd s
scaled_row _ _ _ _ _ _ _ _ k (row.TimesTurn u v) s ev few e c ta tm = absurd s
scaled_row _ _ _ _ _ _ _ _ k (row.ProductOfWholes u v) s ev few e c ta tm = absurd s
scaled_row _ _ _ _ _ _ _ _ k (row.FractionTimes u v) s ev few e c ta tm = absurd s
scaled_row _ _ _ _ _ _ _ _ k (row.TimesFraction u v) s ev few e c ta tm = absurd s
scaled_row _ _ _ _ _ _ _ _ k (row.BitwiseOnWords a b m u v h) s ev few e c ta tm = absurd s
scaled_row _ _ _ _ _ _ _ _ k (row.BitwiseOnBits n u v) s ev few e c ta tm = absurd s
scaled_row _ _ _ _ _ _ _ _ k (row.BitwiseOnTruth a b u v h j) s ev few e c ta tm = absurd s
scaled_row _ _ _ _ _ _ _ _ k (row.TruthAndWord a b m u v h j) s ev few e c ta tm = absurd s
scaled_row _ _ _ _ _ _ _ _ k (row.WordAndTruth a b m u v h j) s ev few e c ta tm = absurd s
scaled_row _ _ _ _ _ _ _ _ k (row.BitwiseOnWholes u v) s ev few e c ta tm = absurd s
scaled_row _ _ _ _ _ _ _ _ k (row.EqualWords a b m u v h) s ev few e c ta tm = absurd s
scaled_row _ _ _ _ _ _ _ _ k (row.EqualTruth a b u v h j) s ev few e c ta tm = absurd s
scaled_row _ _ _ _ _ _ _ _ k (row.EqualBits n u v) s ev few e c ta tm = absurd s
scaled_row _ _ _ _ _ _ _ _ k (row.EqualAngles a b m u v h) s ev few e c ta tm = absurd s
scaled_row _ _ _ _ _ _ _ _ k (row.EqualConstants a b m u v h) s ev few e c ta tm = absurd s
scaled_row _ _ _ _ _ _ _ _ k (row.OrderOfWords a b m u v h) s ev few e c ta tm = absurd s
scaled_row _ _ _ _ _ _ _ _ k (row.OrderOfBits n u v h) s ev few e c ta tm = absurd s
scaled_row _ _ _ _ _ _ _ _ k (row.OrderOfAngles a b m u v h) s ev few e c ta tm = absurd s
scaled_row _ _ _ _ _ _ _ _ k (row.OrderOfConstants a b m u v h) s ev few e c ta tm = absurd s
scaled_row _ _ _ _ _ _ _ _ k (row.EqualMixed n a b m u v h j) s ev few e c ta tm = absurd s
scaled_row _ _ _ _ _ _ _ _ k (row.MixedEqual n a b m u v h j) s ev few e c ta tm = absurd s
scaled_row _ _ _ _ _ _ _ _ k (row.OrderMixed n a b m u v h j) s ev few e c ta tm = absurd s
scaled_row _ _ _ _ _ _ _ _ k (row.MixedOrder n a b m u v h j) s ev few e c ta tm = absurd s
scaled_row _ _ _ _ _ _ _ _ k (row.LogicOnCasts a b u v h j) s ev few e c ta tm = absurd s
scaled_row _ _ _ _ _ _ _ _ k (row.PowerOfWholes u v) s ev few e c ta tm = absurd s

-- ---- the constant as it is taken

if_some : {A : Type 0} (b : Bool) (x m : A) → (if b then Some x else None) ≡ Some m → x ≡ m
if_some true x m e = cc
if_some false x m e = absurd cc

some_is : {A : Type 0} {x y : A} → Some x ≡ Some y → x ≡ y
some_is e = cc

pub taken_number : (kept : NumbersAreKept) (r : Ty) (v : ℤ) (y : Value) → (r ≡ t.Whole) ⊎ InRange r v → taken t.Whole (Number v) r ≡ Some y → y ≡ Number v
taken_number kept r v y (inl e) is =
    let at : taken t.Whole (Number v) t.Whole ≡ Some y = ap (taken t.Whole (Number v)) (sym e) ∙ is in
    sym (if_some (is_constant v) (Number v) y at)
taken_number kept r v y (inr h) is = by r h is
  where
    by : (r : Ty) → InRange r v → taken t.Whole (Number v) r ≡ Some y → y ≡ Number v
    by (t.Int n) h is = sym (some_is is) ∙ ap Number (kept.values true n v h.0 h.1 h.2)
    by (t.Uint n) h is = sym (some_is is) ∙ ap Number (kept.values false n v h.0 h.1 h.2)
    by _ h is = absurd h
