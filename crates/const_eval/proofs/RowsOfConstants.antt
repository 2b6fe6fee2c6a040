-- The rows of the table of operators that constants have.
use Rattle.std.proofs.Common.{◌≡◌, ℕ, ◌≤◌, max, Bool, true, false, cond, ℤ, refl, sym, ap, subst, ◌∙◌, nat_le, nat_eq, eq-eqb}
use Rattle.std.proofs.lemmas.Bool.{false≢true, le-leb}
use Rattle.qasm_types.specs.declared.ty.Ty.{Ty}
use Rattle.qasm_types.specs.declared.ty.Ty.TheVariants as t
use Rattle.qasm_types.specs.Types.{IsTruth, IsWord}
use Rattle.qasm_types.specs.Casts.{HasCast}
use Rattle.qasm_types.specs.Casts as cast
use Rattle.qasm_types.specs.Words.{MeetAt, IsTakenAs, constant_beside, meeting, is_value_of}
use Rattle.qasm_types.specs.Words as word
use Rattle.qasm_types.specs.Operators as row
use Rattle.qasm_types.specs.Operators.{HasRow, Group, IsNumber, IsShifted, AnglesAt, AreConstants}
use Rattle.qasm_types.specs.Plans.{casts, is_word}
use Rattle.const_eval.specs.declared.constant.Const.{Const}
use Rattle.const_eval.specs.declared.constant.Const.TheVariants as c
use Rattle.const_eval.specs.ConstantRows.{ConstantRow, is_bitwise, is_for_counts, Tested, OnWholes, OnBits, OnAngles, AngleBy, ByAngle, OnParts, PartsTested, PartBy, ByPart, OnRegisters, RegistersEqual, RegisterShifted}
use Rattle.const_eval.specs.Numbered.{is_numbered}
use Rattle.const_eval.specs.Seen.{constant_of}

-- the types of constants
abbrev pub IsConstantType : Ty → Type 0
IsConstantType t.Bit = Unit {0}
IsConstantType (t.Bits n) = Unit {0}
IsConstantType (t.Angle n) = Unit {0}
IsConstantType t.Whole = Unit {0}
IsConstantType t.Pi = Unit {0}
IsConstantType _ = ⊥

pub constant_type : (k : Const) → IsConstantType (constant_of k).type
constant_type (c.Whole w) = tt
constant_type (c.Pi f) = tt
constant_type (c.Bool b) = tt
constant_type (c.Bits b) = tt
constant_type (c.Angle a) = tt

no_word : (a : Ty) → IsConstantType a → IsWord a → ⊥
no_word t.Bit p q = q
no_word (t.Bits n) p q = q
no_word (t.Angle n) p q = q
no_word t.Whole p q = q
no_word t.Pi p q = q
no_word t.Bool p q = p
no_word (t.Int n) p q = p
no_word (t.Uint n) p q = p
no_word t.Turn p q = p

no_words : (a b m : Ty) (u v : ℤ) → MeetAt a u b v m → IsConstantType a → IsConstantType b → ⊥
no_words _ _ _ _ _ (word.TwoWords a b u v p q) ca cb = no_word a ca p
no_words _ _ _ _ _ (word.ConstantRight a u v p) ca cb = no_word a ca p
no_words _ _ _ _ _ (word.ConstantLeft b u v p) ca cb = no_word b cb p

-- ---- a word beside a constant

whole_to_word : (m : Ty) (v : ℤ) → is_word m ≡ true → casts t.Whole v m ≡ true
whole_to_word (t.Int n) v h = refl
whole_to_word (t.Uint n) v h = refl
whole_to_word _ v h = absurd (false≢true h)

truth_to_word : (m : Ty) (v : ℤ) → is_word m ≡ true → casts t.Bit v m ≡ true
truth_to_word (t.Int n) v h = refl
truth_to_word (t.Uint n) v h = refl
truth_to_word _ v h = absurd (false≢true h)

bits_to_word : (n : ℕ) (m : Ty) (v : ℤ) → nat_le n 64 ≡ true → is_word m ≡ true → casts (t.Bits n) v m ≡ true
bits_to_word n (t.Int k) v l h = l
bits_to_word n (t.Uint k) v l h = l
bits_to_word n _ v l h = absurd (false≢true h)

word_is_bitwise : (m : Ty) → is_word m ≡ true → is_bitwise m ≡ true
word_is_bitwise (t.Int n) h = refl
word_is_bitwise (t.Uint n) h = refl
word_is_bitwise _ h = absurd (false≢true h)

word_is_numbered : (m : Ty) → is_word m ≡ true → is_numbered m ≡ true
word_is_numbered (t.Int n) h = refl
word_is_numbered (t.Uint n) h = refl
word_is_numbered _ h = absurd (false≢true h)

chosen : (b : Bool) (k n : Ty) → is_word k ≡ true → is_word n ≡ true → is_word (cond b k n) ≡ true
chosen true k n p q = p
chosen false k n p q = q

met_right : (n : ℕ) (b d : Bool) → is_word (meeting (t.Uint n) (cond b (t.Uint n) (cond d (t.Int 64) (t.Uint 64)))) ≡ true
met_right n true d = refl
met_right n false true = chosen (nat_le 64 n) (t.Uint n) (t.Int 64) refl refl
met_right n false false = refl

met_left : (n : ℕ) (b d : Bool) → is_word (meeting (cond b (t.Uint n) (cond d (t.Int 64) (t.Uint 64))) (t.Uint n)) ≡ true
met_left n true d = refl
met_left n false true = chosen (nat_le 64 n) (t.Uint n) (t.Int 64) refl refl
met_left n false false = refl

meets_right : (a b m : Ty) (n : ℕ) (u v : ℤ) → a ≡ t.Uint n → MeetAt a u b v m → IsConstantType b → (is_word m ≡ true) × (casts b v m ≡ true)
meets_right _ _ _ n _ _ e (word.TwoWords a b u v p q) cb = absurd (no_word b cb q)
meets_right _ _ _ n _ _ e (word.ConstantLeft b u v q) cb = absurd (no_word b cb q)
meets_right _ _ _ n _ _ e (word.ConstantRight a u v p) cb =
    let h : is_word (meeting a (constant_beside a v)) ≡ true =
    ap (λ x. is_word (meeting x (constant_beside x v))) e ∙ met_right n (is_value_of (t.Uint n) v) (is_value_of (t.Int 64) v) in
    (h, whole_to_word (meeting a (constant_beside a v)) v h)

meets_left : (a b m : Ty) (n : ℕ) (u v : ℤ) → b ≡ t.Uint n → MeetAt a u b v m → IsConstantType a → (is_word m ≡ true) × (casts a u m ≡ true)
meets_left _ _ _ n _ _ e (word.TwoWords a b u v p q) ca = absurd (no_word a ca p)
meets_left _ _ _ n _ _ e (word.ConstantRight a u v p) ca = absurd (no_word a ca p)
meets_left _ _ _ n _ _ e (word.ConstantLeft b u v p) ca =
    let h : is_word (meeting (constant_beside b u) b) ≡ true =
    ap (λ x. is_word (meeting (constant_beside x u) x)) e ∙ met_left n (is_value_of (t.Uint n) u) (is_value_of (t.Int 64) u) in
    (h, whole_to_word (meeting (constant_beside b u) b) u h)

truth_casts : (a m : Ty) (u : ℤ) → IsTruth a → IsConstantType a → is_word m ≡ true → casts a u m ≡ true
truth_casts t.Bit m u p q h = truth_to_word m u h
truth_casts t.Bool m u p q h = absurd q
truth_casts _ m u p q h = absurd p

taken_casts : (a m : Ty) (n : ℕ) (u : ℤ) → IsTakenAs a n → IsConstantType a → is_word m ≡ true → casts a u m ≡ true
taken_casts _ m _ u (word.TruthAsWord a p) q h = truth_casts a m u p q h
taken_casts _ m _ u (word.BitsAsWord n l) q h = bits_to_word n m u (few n l) h
  where
    few : (n : ℕ) → n ≤ 64 → nat_le n 64 ≡ true
    few n l = le-leb n 64 l

-- ---- other operands

truth_is_bit : (a : Ty) (u : ℤ) → IsTruth a → IsConstantType a → casts a u t.Bit ≡ true
truth_is_bit t.Bit u p q = refl
truth_is_bit t.Bool u p q = absurd q
truth_is_bit _ u p q = absurd p

no_part_to_bool : (a b : Ty) (v : ℤ) → HasCast a v b → a ≡ t.Pi → b ≡ t.Bool → ⊥
no_part_to_bool _ _ _ (cast.SameType a v) e d = absurd cc
no_part_to_bool _ _ _ (cast.TruthToTruth a b v p q) e d = subst IsTruth e p
no_part_to_bool _ _ _ (cast.TruthToWord a b v p q) e d = subst IsTruth e p
no_part_to_bool _ _ _ (cast.WordToBool a v p) e d = subst IsWord e p
no_part_to_bool _ _ _ (cast.WordToWord a b v p q) e d = subst IsWord e p
no_part_to_bool _ _ _ (cast.WordToBits a v p) e d = subst IsWord e p
no_part_to_bool _ _ _ (cast.WordToBit a v p q) e d = subst IsWord e p
no_part_to_bool _ _ _ _ e d = absurd cc

to_bool : (a : Ty) (u : ℤ) → HasCast a u t.Bool → IsConstantType a → casts a u t.Bool ≡ true
to_bool t.Bit u h p = refl
to_bool (t.Bits n) u h p = refl
to_bool (t.Angle n) u h p = refl
to_bool t.Whole u h p = refl
to_bool t.Pi u h p = absurd (no_part_to_bool t.Pi t.Bool u h refl refl)
to_bool _ u h p = absurd p

whole_number : (b : Ty) → IsNumber b → IsConstantType b → b ≡ t.Whole
whole_number t.Whole p q = refl
whole_number (t.Int n) p q = absurd q
whole_number (t.Uint n) p q = absurd q
whole_number _ p q = absurd p

same_width : (n : ℕ) → nat_eq n n ≡ true
same_width n = eq-eqb n n refl

angle_by : (g : Group) (n : ℕ) (b : Ty) (u v : ℤ) → is_for_counts g ≡ true → b ≡ t.Whole → ConstantRow g (t.Angle n) b (t.Angle n) × (casts (t.Angle n) u (t.Angle n) ≡ true) × (casts b v b ≡ true)
angle_by g n b u v h e =
    let P : Ty → Type 0 = λ x. ConstantRow g (t.Angle n) x (t.Angle n) × (casts (t.Angle n) u (t.Angle n) ≡ true) × (casts x v x ≡ true) in
    subst P (sym e) (AngleBy g n h, refl, refl)

by_angle : (n : ℕ) (a : Ty) (u v : ℤ) → a ≡ t.Whole → ConstantRow row.Product a (t.Angle n) (t.Angle n) × (casts a u a ≡ true) × (casts (t.Angle n) v (t.Angle n) ≡ true)
by_angle n a u v e =
    let P : Ty → Type 0 = λ x. ConstantRow row.Product x (t.Angle n) (t.Angle n) × (casts x u x ≡ true) × (casts (t.Angle n) v (t.Angle n) ≡ true) in
    subst P (sym e) (ByAngle n, refl, refl)

register_shifted : (n : ℕ) (b : Ty) (u v : ℤ) → b ≡ t.Whole → ConstantRow row.Shift (t.Bits n) b (t.Bits n) × (casts (t.Bits n) u (t.Bits n) ≡ true) × (casts b v b ≡ true)
register_shifted n b u v e =
    let P : Ty → Type 0 = λ x. ConstantRow row.Shift (t.Bits n) x (t.Bits n) × (casts (t.Bits n) u (t.Bits n) ≡ true) × (casts x v x ≡ true) in
    subst P (sym e) (RegisterShifted n, same_width n, refl)

shifted : (a b : Ty) (u v : ℤ) → IsShifted a → b ≡ t.Whole → IsConstantType a → ConstantRow row.Shift a b a × (casts a u a ≡ true) × (casts b v b ≡ true)
shifted (t.Bits n) b u v p e q = register_shifted n b u v e
shifted (t.Angle n) b u v p e q = angle_by row.Shift n b u v refl e
shifted (t.Int n) b u v p e q = absurd q
shifted (t.Uint n) b u v p e q = absurd q
shifted _ b u v p e q = absurd p

pub constant_row : (g : Group) (a b : Ty) (u v : ℤ) (l r m : Ty) → HasRow g a u b v l r m → IsConstantType a → IsConstantType b → ConstantRow g l r m × (casts a u l ≡ true) × (casts b v r ≡ true)
constant_row _ _ _ _ _ _ _ _ (row.SumOfWords a b m u v q) ca cb = absurd (no_words a b m u v q ca cb)
constant_row _ _ _ _ _ _ _ _ (row.SumOfAngles _ _ _ u v (row.TwoAngles n)) ca cb = (OnAngles n, refl, refl)
constant_row _ _ _ _ _ _ _ _ (row.SumOfAngles _ _ _ u v (row.AngleAndFraction n)) ca cb = (OnAngles n, refl, refl)
constant_row _ _ _ _ _ _ _ _ (row.SumOfAngles _ _ _ u v (row.FractionAndAngle n)) ca cb = (OnAngles n, refl, refl)
constant_row _ _ _ _ _ _ _ _ (row.SumOfTurns _ _ u v row.TwoTurns) ca cb = absurd ca
constant_row _ _ _ _ _ _ _ _ (row.SumOfTurns _ _ u v row.TurnAndFraction) ca cb = absurd ca
constant_row _ _ _ _ _ _ _ _ (row.SumOfTurns _ _ u v row.FractionAndTurn) ca cb = absurd cb
constant_row _ _ _ _ _ _ _ _ (row.SumOfConstants _ _ _ u v row.TwoWholes) ca cb = (OnWholes row.Sum, refl, refl)
constant_row _ _ _ _ _ _ _ _ (row.SumOfConstants _ _ _ u v row.TwoFractions) ca cb = (OnParts, refl, refl)
constant_row _ _ _ _ _ _ _ _ (row.ProductOfWords a b m u v q) ca cb = absurd (no_words a b m u v q ca cb)
constant_row _ _ _ _ _ _ _ _ (row.AngleTimes n b u v q) ca cb = angle_by row.Product n b u v refl (whole_number b q cb)
constant_row _ _ _ _ _ _ _ _ (row.TimesAngle n a u v q) ca cb = by_angle n a u v (whole_number a q ca)
constant_row _ _ _ _ _ _ _ _ (row.TurnTimes u v) ca cb = absurd ca
constant_row _ _ _ _ _ _ _ _ (row.TimesTurn u v) ca cb = absurd cb
constant_row _ _ _ _ _ _ _ _ (row.ProductOfWholes u v) ca cb = (OnWholes row.Product, refl, refl)
constant_row _ _ _ _ _ _ _ _ (row.FractionTimes u v) ca cb = (PartBy row.Product refl, refl, refl)
constant_row _ _ _ _ _ _ _ _ (row.TimesFraction u v) ca cb = (ByPart, refl, refl)
constant_row _ _ _ _ _ _ _ _ (row.QuotientOfWords a b m u v q) ca cb = absurd (no_words a b m u v q ca cb)
constant_row _ _ _ _ _ _ _ _ (row.AngleOver n b u v q) ca cb = angle_by row.Quotient n b u v refl (whole_number b q cb)
constant_row _ _ _ _ _ _ _ _ (row.TurnOver u v) ca cb = absurd ca
constant_row _ _ _ _ _ _ _ _ (row.QuotientOfWholes u v) ca cb = (OnWholes row.Quotient, refl, refl)
constant_row _ _ _ _ _ _ _ _ (row.FractionOver u v) ca cb = (PartBy row.Quotient refl, refl, refl)
constant_row _ _ _ _ _ _ _ _ (row.RestOfWords a b m u v q) ca cb = absurd (no_words a b m u v q ca cb)
constant_row _ _ _ _ _ _ _ _ (row.RestOfWholes u v) ca cb = (OnWholes row.Rest, refl, refl)
constant_row _ _ _ _ _ _ _ _ (row.Shifted a b u v p q) ca cb = shifted a b u v p (whole_number b q cb) ca
constant_row _ _ _ _ _ _ _ _ (row.ConstantShifted b u v q) ca cb = absurd (no_word b cb q)
constant_row _ _ _ _ _ _ _ _ (row.ShiftOfWholes u v) ca cb = (OnWholes row.Shift, refl, refl)
constant_row _ _ _ _ _ _ _ _ (row.BitwiseOnWords a b m u v q) ca cb = absurd (no_words a b m u v q ca cb)
constant_row _ _ _ _ _ _ _ _ (row.BitwiseOnBits n u v) ca cb = (OnRegisters n, same_width n, same_width n)
constant_row _ _ _ _ _ _ _ _ (row.BitwiseOnTruth a b u v p q) ca cb = (OnBits t.Bit refl, truth_is_bit a u p ca, truth_is_bit b v q cb)
constant_row _ _ _ _ _ _ _ _ (row.TruthAndWord a b m u v p q) ca cb =
    let h = meets_right (t.Uint 1) b m 1 u v refl q cb in (OnBits m (word_is_bitwise m h.0), truth_casts a m u p ca h.0, h.1)
constant_row _ _ _ _ _ _ _ _ (row.WordAndTruth a b m u v p q) ca cb =
    let h = meets_left a (t.Uint 1) m 1 u v refl q ca in (OnBits m (word_is_bitwise m h.0), h.1, truth_casts b m v p cb h.0)
constant_row _ _ _ _ _ _ _ _ (row.BitwiseOnWholes u v) ca cb = (OnWholes row.Bitwise, refl, refl)
constant_row _ _ _ _ _ _ _ _ (row.EqualWords a b m u v q) ca cb = absurd (no_words a b m u v q ca cb)
constant_row _ _ _ _ _ _ _ _ (row.EqualTruth a b u v p q) ca cb = (Tested row.Equality t.Bit refl refl, truth_is_bit a u p ca, truth_is_bit b v q cb)
constant_row _ _ _ _ _ _ _ _ (row.EqualBits n u v) ca cb = (RegistersEqual n, same_width n, same_width n)
constant_row _ _ _ _ _ _ _ _ (row.EqualAngles _ _ _ u v (row.TwoAngles n)) ca cb = (Tested row.Equality (t.Angle n) refl refl, refl, refl)
constant_row _ _ _ _ _ _ _ _ (row.EqualAngles _ _ _ u v (row.AngleAndFraction n)) ca cb = (Tested row.Equality (t.Angle n) refl refl, refl, refl)
constant_row _ _ _ _ _ _ _ _ (row.EqualAngles _ _ _ u v (row.FractionAndAngle n)) ca cb = (Tested row.Equality (t.Angle n) refl refl, refl, refl)
constant_row _ _ _ _ _ _ _ _ (row.EqualConstants _ _ _ u v row.TwoWholes) ca cb = (Tested row.Equality t.Whole refl refl, refl, refl)
constant_row _ _ _ _ _ _ _ _ (row.EqualConstants _ _ _ u v row.TwoFractions) ca cb = (PartsTested row.Equality refl, refl, refl)
constant_row _ _ _ _ _ _ _ _ (row.OrderOfWords a b m u v q) ca cb = absurd (no_words a b m u v q ca cb)
constant_row _ _ _ _ _ _ _ _ (row.OrderOfBits n u v few) ca cb = (Tested row.Order (t.Uint (max n 1)) refl refl, le-leb n 64 few, le-leb n 64 few)
constant_row _ _ _ _ _ _ _ _ (row.OrderOfAngles _ _ _ u v (row.TwoAngles n)) ca cb = (Tested row.Order (t.Angle n) refl refl, refl, refl)
constant_row _ _ _ _ _ _ _ _ (row.OrderOfAngles _ _ _ u v (row.AngleAndFraction n)) ca cb = (Tested row.Order (t.Angle n) refl refl, refl, refl)
constant_row _ _ _ _ _ _ _ _ (row.OrderOfAngles _ _ _ u v (row.FractionAndAngle n)) ca cb = (Tested row.Order (t.Angle n) refl refl, refl, refl)
constant_row _ _ _ _ _ _ _ _ (row.OrderOfConstants _ _ _ u v row.TwoWholes) ca cb = (Tested row.Order t.Whole refl refl, refl, refl)
constant_row _ _ _ _ _ _ _ _ (row.OrderOfConstants _ _ _ u v row.TwoFractions) ca cb = (PartsTested row.Order refl, refl, refl)
constant_row _ _ _ _ _ _ _ _ (row.EqualMixed n a b m u v p q) ca cb =
    let h = meets_right (t.Uint n) b m n u v refl q cb in (Tested row.Equality m refl (word_is_numbered m h.0), taken_casts a m n u p ca h.0, h.1)
constant_row _ _ _ _ _ _ _ _ (row.MixedEqual n a b m u v p q) ca cb =
    let h = meets_left a (t.Uint n) m n u v refl q ca in (Tested row.Equality m refl (word_is_numbered m h.0), h.1, taken_casts b m n v p cb h.0)
constant_row _ _ _ _ _ _ _ _ (row.OrderMixed n a b m u v p q) ca cb =
    let h = meets_right (t.Uint n) b m n u v refl q cb in (Tested row.Order m refl (word_is_numbered m h.0), taken_casts a m n u p ca h.0, h.1)
constant_row _ _ _ _ _ _ _ _ (row.MixedOrder n a b m u v p q) ca cb =
    let h = meets_left a (t.Uint n) m n u v refl q ca in (Tested row.Order m refl (word_is_numbered m h.0), h.1, taken_casts b m n v p cb h.0)
constant_row _ _ _ _ _ _ _ _ (row.LogicOnCasts a b u v p q) ca cb = (Tested row.Logic t.Bool refl refl, to_bool a u p ca, to_bool b v q cb)
constant_row _ _ _ _ _ _ _ _ (row.PowerOfWholes u v) ca cb = (OnWholes row.Power, refl, refl)
