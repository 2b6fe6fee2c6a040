-- What the rows of the table take: types, to which their operands cast.
use Rattle.std.proofs.Common.{◌≡◌, ℕ, ◌≤◌, max, nat_le, eq-eqb, ◌⊎◌, ⊎_elim, Bool, true, false, if◌then◌else◌, ℤ, refl, arith}
use Rattle.std.proofs.lemmas.Bool.{le-leb}
use Rattle.qasm_types.specs.declared.ty.Ty.{Ty}
use Rattle.qasm_types.specs.declared.ty.Ty.TheVariants as t
use Rattle.qasm_types.specs.Types.{IsType, IsTruth, IsWord}
use Rattle.qasm_types.specs.Casts as cast
use Rattle.qasm_types.specs.Casts.{HasCast}
use Rattle.qasm_types.specs.Plans.{casts}
use Rattle.qasm_types.specs.Words.{MeetAt, TwoWords, ConstantRight, ConstantLeft, IsTakenAs, TruthAsWord, BitsAsWord, meeting, constant_beside, is_value_of}
use Rattle.qasm_types.specs.Operators as row
use Rattle.qasm_types.specs.Operators.{Group, HasRow, IsNumber, IsShifted, AnglesAt, AreTurns, AreConstants}
use Rattle.cell_exprs.specs.Laws.{IsInCells, TakesCasts}
use Rattle.cell_exprs.proofs.Rows.{met_is_word, meeting_word, beside_word, word_in_cells, constants_not_in_cells}

-- ---- types

one_is_type : (1 ≤ 1) × (1 ≤ 1)
one_is_type = (omega arith, omega arith)

either_type : (b : Bool) (x y : Ty) → IsType x → IsType y → IsType (if b then x else y)
either_type true x y h k = h
either_type false x y h k = k

int_type : (n : ℕ) → 1 ≤ n → n ≤ 64 → IsType (t.Int n)
int_type n h k = (h, k)

uint_type : (n : ℕ) → 1 ≤ n → n ≤ 64 → IsType (t.Uint n)
uint_type n h k = (h, k)

meeting_type : (a b : Ty) → IsWord a → IsWord b → IsType a → IsType b → IsType (meeting a b)
meeting_type (t.Uint m) (t.Uint n) p q h k = (omega (arith, h.0, k.0), omega (arith, h.1, k.1))
meeting_type (t.Uint m) (t.Int n) p q h k = either_type (nat_le n m) (t.Uint m) (t.Int n) h k
meeting_type (t.Int m) (t.Uint n) p q h k = either_type (nat_le m n) (t.Uint n) (t.Int m) k h
meeting_type (t.Int m) (t.Int n) p q h k = (omega (arith, h.0, k.0), omega (arith, h.1, k.1))
meeting_type (t.Uint m) _ p q h k = absurd q
meeting_type (t.Int m) _ p q h k = absurd q
meeting_type _ b p q h k = absurd p

beside_type : (a : Ty) (v : ℤ) → IsType a → IsType (constant_beside a v)
beside_type a v h =
    either_type (is_value_of a v) a (if is_value_of (t.Int 64) v then t.Int 64 else t.Uint 64) h
    (either_type (is_value_of (t.Int 64) v) (t.Int 64) (t.Uint 64) (int_type 64 (omega arith) (omega arith)) (uint_type 64 (omega arith) (omega arith)))

met_type : (a b m : Ty) (u v : ℤ) → MeetAt a u b v m → IsType a → IsType b → IsType m
met_type _ _ _ _ _ (TwoWords a b u v p q) h k = meeting_type a b p q h k
met_type _ _ _ _ _ (ConstantRight a u v p) h k = meeting_type a (constant_beside a v) p (beside_word a v p) h (beside_type a v h)
met_type _ _ _ _ _ (ConstantLeft b u v p) h k = meeting_type (constant_beside b u) b (beside_word b u p) p (beside_type b u k) k

-- ---- casts

same_casts : (a : Ty) (v : ℤ) → IsInCells a → casts a v a ≡ true
same_casts (t.Bits n) v h = eq-eqb n n refl
same_casts t.Whole v h = absurd h
same_casts t.Pi v h = absurd h
same_casts _ v h = refl

word_to_word : (a b : Ty) (v : ℤ) → IsWord a → IsWord b → casts a v b ≡ true
word_to_word (t.Int m) (t.Int n) v h k = refl
word_to_word (t.Int m) (t.Uint n) v h k = refl
word_to_word (t.Uint m) (t.Int n) v h k = refl
word_to_word (t.Uint m) (t.Uint n) v h k = refl
word_to_word (t.Int m) _ v h k = absurd k
word_to_word (t.Uint m) _ v h k = absurd k
word_to_word _ b v h k = absurd h

truth_to_word : (a b : Ty) (v : ℤ) → IsTruth a → IsWord b → casts a v b ≡ true
truth_to_word t.Bool (t.Int n) v h k = refl
truth_to_word t.Bool (t.Uint n) v h k = refl
truth_to_word t.Bit (t.Int n) v h k = refl
truth_to_word t.Bit (t.Uint n) v h k = refl
truth_to_word t.Bool _ v h k = absurd k
truth_to_word t.Bit _ v h k = absurd k
truth_to_word _ b v h k = absurd h

truth_to_bit : (a : Ty) (v : ℤ) → IsTruth a → casts a v t.Bit ≡ true
truth_to_bit t.Bool v h = refl
truth_to_bit t.Bit v h = refl
truth_to_bit _ v h = absurd h

bits_to_word : (n : ℕ) (b : Ty) (v : ℤ) → n ≤ 64 → IsWord b → casts (t.Bits n) v b ≡ true
bits_to_word n (t.Int m) v h k = le-leb n 64 h
bits_to_word n (t.Uint m) v h k = le-leb n 64 h
bits_to_word n _ v h k = absurd k

taken_to_word : (a b : Ty) (n : ℕ) (v : ℤ) → IsTakenAs a n → IsWord b → casts a v b ≡ true
taken_to_word _ b _ v (TruthAsWord a h) k = truth_to_word a b v h k
taken_to_word _ b _ v (BitsAsWord n h) k = bits_to_word n b v h k

taken_type : (a : Ty) (n : ℕ) → IsTakenAs a n → IsType (t.Uint n)
taken_type _ _ (TruthAsWord a h) = uint_type 1 (omega arith) (omega arith)
taken_type _ _ (BitsAsWord n h) = uint_type (max n 1) (omega arith) (omega arith)

met_left : (a b m : Ty) (u v : ℤ) → MeetAt a u b v m → IsInCells a → casts a u m ≡ true
met_left _ _ _ _ _ (TwoWords a b u v p q) h = word_to_word a (meeting a b) u p (meeting_word a b p q)
met_left _ _ _ _ _ (ConstantRight a u v p) h = word_to_word a (meeting a (constant_beside a v)) u p (meeting_word a (constant_beside a v) p (beside_word a v p))
met_left _ _ _ _ _ (ConstantLeft b u v p) h = absurd h

met_right : (a b m : Ty) (u v : ℤ) → MeetAt a u b v m → IsInCells b → casts b v m ≡ true
met_right _ _ _ _ _ (TwoWords a b u v p q) h = word_to_word b (meeting a b) v q (meeting_word a b p q)
met_right _ _ _ _ _ (ConstantRight a u v p) h = absurd h
met_right _ _ _ _ _ (ConstantLeft b u v p) h = word_to_word b (meeting (constant_beside b u) b) v p (meeting_word (constant_beside b u) b (beside_word b u p) p)

angles_left : (a b m : Ty) (u : ℤ) → AnglesAt a b m → IsInCells a → casts a u m ≡ true
angles_left _ _ _ u (row.TwoAngles n) h = refl
angles_left _ _ _ u (row.AngleAndFraction n) h = refl
angles_left _ _ _ u (row.FractionAndAngle n) h = absurd h

angles_right : (a b m : Ty) (v : ℤ) → AnglesAt a b m → IsInCells b → casts b v m ≡ true
angles_right _ _ _ v (row.TwoAngles n) h = refl
angles_right _ _ _ v (row.AngleAndFraction n) h = absurd h
angles_right _ _ _ v (row.FractionAndAngle n) h = refl

angles_type : (a b m : Ty) → AnglesAt a b m → IsType a → IsType b → IsType m
angles_type _ _ _ (row.TwoAngles n) h k = h
angles_type _ _ _ (row.AngleAndFraction n) h k = h
angles_type _ _ _ (row.FractionAndAngle n) h k = k

turns_left : (a b : Ty) (u : ℤ) → AreTurns a b → IsInCells a → casts a u t.Turn ≡ true
turns_left _ _ u row.TwoTurns h = refl
turns_left _ _ u row.TurnAndFraction h = refl
turns_left _ _ u row.FractionAndTurn h = absurd h

turns_right : (a b : Ty) (v : ℤ) → AreTurns a b → IsInCells b → casts b v t.Turn ≡ true
turns_right _ _ v row.TwoTurns h = refl
turns_right _ _ v row.TurnAndFraction h = absurd h
turns_right _ _ v row.FractionAndTurn h = refl

constants_left : (a b m : Ty) (u : ℤ) → AreConstants a b m → IsInCells a → casts a u m ≡ true
constants_left _ _ _ u row.TwoWholes h = absurd h
constants_left _ _ _ u row.TwoFractions h = absurd h

constants_right : (a b m : Ty) (v : ℤ) → AreConstants a b m → IsInCells b → casts b v m ≡ true
constants_right _ _ _ v row.TwoWholes h = absurd h
constants_right _ _ _ v row.TwoFractions h = absurd h

constants_type : (a b m : Ty) → AreConstants a b m → IsType a → IsType b → IsType m
constants_type _ _ _ row.TwoWholes h k = h
constants_type _ _ _ row.TwoFractions h k = h

-- what casts to `bool` does so by the table
turn_to_bool : (a b : Ty) (v : ℤ) → HasCast a v b → a ≡ t.Turn → b ≡ t.Bool → ⊥
turn_to_bool _ _ _ (cast.SameType a v) p q = cc
turn_to_bool _ _ _ (cast.TruthToTruth t.Bool b v h k) p q = cc
turn_to_bool _ _ _ (cast.TruthToTruth t.Bit b v h k) p q = cc
turn_to_bool _ _ _ (cast.TruthToTruth _ b v h k) p q = h
turn_to_bool _ _ _ (cast.TruthToWord t.Bool b v h k) p q = cc
turn_to_bool _ _ _ (cast.TruthToWord t.Bit b v h k) p q = cc
turn_to_bool _ _ _ (cast.TruthToWord _ b v h k) p q = h
turn_to_bool _ _ _ (cast.WordToBool (t.Int n) v h) p q = cc
turn_to_bool _ _ _ (cast.WordToBool (t.Uint n) v h) p q = cc
turn_to_bool _ _ _ (cast.WordToBool _ v h) p q = h
turn_to_bool _ _ _ (cast.WordToWord (t.Int n) b v h k) p q = cc
turn_to_bool _ _ _ (cast.WordToWord (t.Uint n) b v h k) p q = cc
turn_to_bool _ _ _ (cast.WordToWord _ b v h k) p q = h
turn_to_bool _ _ _ (cast.WordToBits a v h) p q = cc
turn_to_bool _ _ _ (cast.WordToBit a v h k) p q = cc
turn_to_bool _ _ _ (cast.BitsToWord n b v h k) p q = cc
turn_to_bool _ _ _ (cast.BitsToBool n v) p q = cc
turn_to_bool _ _ _ (cast.BitsToAngle n v) p q = cc
turn_to_bool _ _ _ (cast.AngleToBits n v) p q = cc
turn_to_bool _ _ _ (cast.AngleToAngle m n v) p q = cc
turn_to_bool _ _ _ (cast.AngleToBool n v) p q = cc
turn_to_bool _ _ _ (cast.ConstantToWord b v h) p q = cc
turn_to_bool _ _ _ (cast.ConstantToBool v) p q = cc
turn_to_bool _ _ _ (cast.ConstantToBits n v h k) p q = cc
turn_to_bool _ _ _ (cast.ConstantToBit v h) p q = cc
turn_to_bool _ _ _ (cast.ConstantToAngle n v) p q = cc
turn_to_bool _ _ _ (cast.FractionToAngle n v) p q = cc

to_bool : (a : Ty) (v : ℤ) → HasCast a v t.Bool → IsInCells a → casts a v t.Bool ≡ true
to_bool t.Turn v h k = absurd (turn_to_bool t.Turn t.Bool v h refl refl)
to_bool t.Whole v h k = absurd k
to_bool t.Pi v h k = absurd k
to_bool _ v h k = refl

-- ---- the rows

alike : (m : Ty) (x y : Ty) (u v : ℤ) → IsType m → (IsInCells x → casts x u m ≡ true) → (IsInCells y → casts y v m ≡ true) → (IsInCells x ⊎ IsInCells y → IsInCells m) → TakesCasts x u y v m m m
alike m x y u v ty p q c = record { left = ty; right = ty; result = ty; casts_left = p; casts_right = q; in_cells = c }

tested : (m : Ty) (x y : Ty) (u v : ℤ) → IsType m → (IsInCells x → casts x u m ≡ true) → (IsInCells y → casts y v m ≡ true) → TakesCasts x u y v m m t.Bool
tested m x y u v ty p q = record { left = ty; right = ty; result = one_is_type; casts_left = p; casts_right = q; in_cells = λ run. one_is_type }

as_they_are : (a b m : Ty) (u v : ℤ) → IsType a → IsType b → IsType m → (IsInCells a ⊎ IsInCells b → IsInCells m) → TakesCasts a u b v a b m
as_they_are a b m u v h k ty c = record { left = h; right = k; result = ty; casts_left = same_casts a u; casts_right = same_casts b v; in_cells = c }

-- words, angles and what is shifted lie in cells
in_words : (a b m : Ty) (u v : ℤ) → MeetAt a u b v m → IsType m → IsInCells m
in_words a b m u v h ty = word_in_cells m (met_is_word a b m u v h) ty

in_angles : (a b m : Ty) → AnglesAt a b m → IsType m → IsInCells m
in_angles _ _ _ (row.TwoAngles n) ty = ty
in_angles _ _ _ (row.AngleAndFraction n) ty = ty
in_angles _ _ _ (row.FractionAndAngle n) ty = ty

in_shifted : (a : Ty) → IsShifted a → IsType a → IsInCells a
in_shifted (t.Int n) h ty = ty
in_shifted (t.Uint n) h ty = ty
in_shifted (t.Bits n) h ty = ty
in_shifted (t.Angle n) h ty = ty
in_shifted _ h ty = absurd h

no_run : IsInCells t.Whole ⊎ IsInCells t.Whole → ⊥
no_run h = ⊎_elim (λ x. absurd x) (λ x. absurd x) h

pub row_takes : (g : Group) (a b l r m : Ty) (u v : ℤ) → HasRow g a u b v l r m → IsType a → IsType b → TakesCasts a u b v l r m
row_takes _ _ _ _ _ _ _ _ (row.SumOfWords a b m u v h) ta tb = alike m a b u v (met_type a b m u v h ta tb) (met_left a b m u v h) (met_right a b m u v h) (λ run. in_words a b m u v h (met_type a b m u v h ta tb))
row_takes _ _ _ _ _ _ _ _ (row.SumOfAngles a b m u v h) ta tb = alike m a b u v (angles_type a b m h ta tb) (angles_left a b m u h) (angles_right a b m v h) (λ run. in_angles a b m h (angles_type a b m h ta tb))
row_takes _ _ _ _ _ _ _ _ (row.SumOfTurns a b u v h) ta tb = alike t.Turn a b u v one_is_type (turns_left a b u h) (turns_right a b v h) (λ run. one_is_type)
row_takes _ _ _ _ _ _ _ _ (row.SumOfConstants a b m u v h) ta tb = alike m a b u v (constants_type a b m h ta tb) (constants_left a b m u h) (constants_right a b m v h) (λ run. absurd (constants_not_in_cells a b m h run))
row_takes _ _ _ _ _ _ _ _ (row.ProductOfWords a b m u v h) ta tb = alike m a b u v (met_type a b m u v h ta tb) (met_left a b m u v h) (met_right a b m u v h) (λ run. in_words a b m u v h (met_type a b m u v h ta tb))
row_takes _ _ _ _ _ _ _ _ (row.AngleTimes n b u v h) ta tb = as_they_are (t.Angle n) b (t.Angle n) u v ta tb ta (λ run. ta)
row_takes _ _ _ _ _ _ _ _ (row.TimesAngle n a u v h) ta tb = as_they_are a (t.Angle n) (t.Angle n) u v ta tb tb (λ run. tb)
row_takes _ _ _ _ _ _ _ _ (row.TurnTimes u v) ta tb = as_they_are t.Turn t.Whole t.Turn u v ta tb ta (λ run. ta)
row_takes _ _ _ _ _ _ _ _ (row.TimesTurn u v) ta tb = as_they_are t.Whole t.Turn t.Turn u v ta tb tb (λ run. tb)
row_takes _ _ _ _ _ _ _ _ (row.ProductOfWholes u v) ta tb = as_they_are t.Whole t.Whole t.Whole u v ta tb ta (λ run. absurd (no_run run))
row_takes _ _ _ _ _ _ _ _ (row.FractionTimes u v) ta tb = as_they_are t.Pi t.Whole t.Pi u v ta tb ta (λ run. ⊎_elim (λ x. absurd x) (λ x. absurd x) run)
row_takes _ _ _ _ _ _ _ _ (row.TimesFraction u v) ta tb = as_they_are t.Whole t.Pi t.Pi u v ta tb tb (λ run. ⊎_elim (λ x. absurd x) (λ x. absurd x) run)
row_takes _ _ _ _ _ _ _ _ (row.QuotientOfWords a b m u v h) ta tb = alike m a b u v (met_type a b m u v h ta tb) (met_left a b m u v h) (met_right a b m u v h) (λ run. in_words a b m u v h (met_type a b m u v h ta tb))
row_takes _ _ _ _ _ _ _ _ (row.AngleOver n b u v h) ta tb = as_they_are (t.Angle n) b (t.Angle n) u v ta tb ta (λ run. ta)
row_takes _ _ _ _ _ _ _ _ (row.TurnOver u v) ta tb = as_they_are t.Turn t.Whole t.Turn u v ta tb ta (λ run. ta)
row_takes _ _ _ _ _ _ _ _ (row.QuotientOfWholes u v) ta tb = as_they_are t.Whole t.Whole t.Whole u v ta tb ta (λ run. absurd (no_run run))
row_takes _ _ _ _ _ _ _ _ (row.FractionOver u v) ta tb = as_they_are t.Pi t.Whole t.Pi u v ta tb ta (λ run. ⊎_elim (λ x. absurd x) (λ x. absurd x) run)
row_takes _ _ _ _ _ _ _ _ (row.RestOfWords a b m u v h) ta tb = alike m a b u v (met_type a b m u v h ta tb) (met_left a b m u v h) (met_right a b m u v h) (λ run. in_words a b m u v h (met_type a b m u v h ta tb))
row_takes _ _ _ _ _ _ _ _ (row.RestOfWholes u v) ta tb = as_they_are t.Whole t.Whole t.Whole u v ta tb ta (λ run. absurd (no_run run))
row_takes _ _ _ _ _ _ _ _ (row.Shifted a b u v h k) ta tb = as_they_are a b a u v ta tb ta (λ run. in_shifted a h ta)
row_takes _ _ _ _ _ _ _ _ (row.ConstantShifted b u v h) ta tb =
    let ty = beside_type b u tb in
    record { left = ty; right = tb; result = ty; casts_left = λ x. absurd x; casts_right = same_casts b v; in_cells = λ run. word_in_cells (constant_beside b u) (beside_word b u h) ty }
row_takes _ _ _ _ _ _ _ _ (row.ShiftOfWholes u v) ta tb = as_they_are t.Whole t.Whole t.Whole u v ta tb ta (λ run. absurd (no_run run))
row_takes _ _ _ _ _ _ _ _ (row.BitwiseOnWords a b m u v h) ta tb = alike m a b u v (met_type a b m u v h ta tb) (met_left a b m u v h) (met_right a b m u v h) (λ run. in_words a b m u v h (met_type a b m u v h ta tb))
row_takes _ _ _ _ _ _ _ _ (row.BitwiseOnBits n u v) ta tb = as_they_are (t.Bits n) (t.Bits n) (t.Bits n) u v ta tb ta (λ run. ta)
row_takes _ _ _ _ _ _ _ _ (row.BitwiseOnTruth a b u v h k) ta tb = alike t.Bit a b u v one_is_type (λ x. truth_to_bit a u h) (λ x. truth_to_bit b v k) (λ run. one_is_type)
row_takes _ _ _ _ _ _ _ _ (row.TruthAndWord a b m u v h k) ta tb =
    alike m a b u v (met_type (t.Uint 1) b m u v k (uint_type 1 (omega arith) (omega arith)) tb) (λ x. truth_to_word a m u h (met_is_word (t.Uint 1) b m u v k)) (met_right (t.Uint 1) b m u v k)
    (λ run. in_words (t.Uint 1) b m u v k (met_type (t.Uint 1) b m u v k (uint_type 1 (omega arith) (omega arith)) tb))
row_takes _ _ _ _ _ _ _ _ (row.WordAndTruth a b m u v h k) ta tb =
    alike m a b u v (met_type a (t.Uint 1) m u v k ta (uint_type 1 (omega arith) (omega arith))) (met_left a (t.Uint 1) m u v k) (λ x. truth_to_word b m v h (met_is_word a (t.Uint 1) m u v k))
    (λ run. in_words a (t.Uint 1) m u v k (met_type a (t.Uint 1) m u v k ta (uint_type 1 (omega arith) (omega arith))))
row_takes _ _ _ _ _ _ _ _ (row.BitwiseOnWholes u v) ta tb = as_they_are t.Whole t.Whole t.Whole u v ta tb ta (λ run. absurd (no_run run))
row_takes _ _ _ _ _ _ _ _ (row.EqualWords a b m u v h) ta tb = tested m a b u v (met_type a b m u v h ta tb) (met_left a b m u v h) (met_right a b m u v h)
row_takes _ _ _ _ _ _ _ _ (row.EqualTruth a b u v h k) ta tb = tested t.Bit a b u v one_is_type (λ x. truth_to_bit a u h) (λ x. truth_to_bit b v k)
row_takes _ _ _ _ _ _ _ _ (row.EqualBits n u v) ta tb = as_they_are (t.Bits n) (t.Bits n) t.Bool u v ta tb one_is_type (λ run. one_is_type)
row_takes _ _ _ _ _ _ _ _ (row.EqualAngles a b m u v h) ta tb = tested m a b u v (angles_type a b m h ta tb) (angles_left a b m u h) (angles_right a b m v h)
row_takes _ _ _ _ _ _ _ _ (row.EqualConstants a b m u v h) ta tb = tested m a b u v (constants_type a b m h ta tb) (constants_left a b m u h) (constants_right a b m v h)
row_takes _ _ _ _ _ _ _ _ (row.OrderOfWords a b m u v h) ta tb = tested m a b u v (met_type a b m u v h ta tb) (met_left a b m u v h) (met_right a b m u v h)
row_takes _ _ _ _ _ _ _ _ (row.OrderOfBits n u v h) ta tb = tested (t.Uint (max n 1)) (t.Bits n) (t.Bits n) u v (uint_type (max n 1) (omega arith) (omega arith)) (λ x. bits_to_word n (t.Uint (max n 1)) u h tt) (λ x. bits_to_word n (t.Uint (max n 1)) v h tt)
row_takes _ _ _ _ _ _ _ _ (row.OrderOfAngles a b m u v h) ta tb = tested m a b u v (angles_type a b m h ta tb) (angles_left a b m u h) (angles_right a b m v h)
row_takes _ _ _ _ _ _ _ _ (row.OrderOfConstants a b m u v h) ta tb = tested m a b u v (constants_type a b m h ta tb) (constants_left a b m u h) (constants_right a b m v h)
row_takes _ _ _ _ _ _ _ _ (row.EqualMixed n a b m u v h k) ta tb = tested m a b u v (met_type (t.Uint n) b m u v k (taken_type a n h) tb) (λ x. taken_to_word a m n u h (met_is_word (t.Uint n) b m u v k)) (met_right (t.Uint n) b m u v k)
row_takes _ _ _ _ _ _ _ _ (row.MixedEqual n a b m u v h k) ta tb = tested m a b u v (met_type a (t.Uint n) m u v k ta (taken_type b n h)) (met_left a (t.Uint n) m u v k) (λ x. taken_to_word b m n v h (met_is_word a (t.Uint n) m u v k))
row_takes _ _ _ _ _ _ _ _ (row.OrderMixed n a b m u v h k) ta tb = tested m a b u v (met_type (t.Uint n) b m u v k (taken_type a n h) tb) (λ x. taken_to_word a m n u h (met_is_word (t.Uint n) b m u v k)) (met_right (t.Uint n) b m u v k)
row_takes _ _ _ _ _ _ _ _ (row.MixedOrder n a b m u v h k) ta tb = tested m a b u v (met_type a (t.Uint n) m u v k ta (taken_type b n h)) (met_left a (t.Uint n) m u v k) (λ x. taken_to_word b m n v h (met_is_word a (t.Uint n) m u v k))
row_takes _ _ _ _ _ _ _ _ (row.LogicOnCasts a b u v h k) ta tb = tested t.Bool a b u v one_is_type (to_bool a u h) (to_bool b v k)
row_takes _ _ _ _ _ _ _ _ (row.PowerOfWholes u v) ta tb = as_they_are t.Whole t.Whole t.Whole u v ta tb ta (λ run. absurd (no_run run))
