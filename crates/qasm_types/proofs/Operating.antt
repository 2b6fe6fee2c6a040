-- The code's plans are rows of the table of operators.
use Rattle.std.proofs.Common.{◌≡◌, max, Bool, true, false, ◌&&◌, ℤ, Some, None, refl, ap, subst, ◌⊎◌, inl, inr, ⊎_elim, nat_le, nat_eq, if◌then◌else◌}
use Rattle.std.specs.Option.{option_or}
use Rattle.std.proofs.lemmas.Bool.{eqb-true, leb-true}
use Rattle.std.proofs.lemmas.Bool.Decides.{Decides-and, Decides-eqb}
use Rattle.qasm_ast.specs.declared.expr.UnaryOp.{UnaryOp}
use Rattle.qasm_ast.specs.declared.expr.UnaryOp.TheVariants as unary
use Rattle.qasm_types.specs.declared.ty.Ty.{Ty}
use Rattle.qasm_types.specs.declared.ty.Ty.TheVariants as t
use Rattle.qasm_types.specs.Types.{IsTruth}
use Rattle.qasm_types.specs.Words.{MeetAt}
use Rattle.qasm_types.specs.Operators as row
use Rattle.qasm_types.specs.Operators.{HasRow, HasUnaryRow, Group, IsNumber, IsShifted, AnglesAt, AreConstants, AreTurns}
use Rattle.qasm_types.specs.Plans.{where_true, is_truth, is_number, words_plan, angles_plan, turns_plan, scales, shifts, wholes_plan, constant_shift, bits_plan, numbers_plan, truth_with_word, mixed_plan, sum_plan, quotient_plan, product_plan, rest_plan, shift_plan, bitwise_plan, compared_plan, equality_plan, order_plan, logic_plan, operator_plan, casts, unary_plan, met}
use Rattle.qasm_types.proofs.ByKind.{word_cases}
use Rattle.qasm_types.proofs.Casting.{casts_from_row, row_from_casts}
use Rattle.qasm_types.proofs.Choices.{some_is, or_cases, where_true_cases, all_at_cases, compared_cases}
use Rattle.qasm_types.proofs.Meeting.{meets_from_met, truth_rows, mixed_rows, small}

-- a row whose types are the three of a plan
abbrev pub RowAt : Group → Ty → ℤ → Ty → ℤ → Ty × Ty × Ty → Type 0
RowAt g a u b v p = HasRow g a u b v p.0 p.1 p.2

truth_from_test : (a : Ty) → is_truth a ≡ true → IsTruth a
truth_from_test t.Bool e = tt
truth_from_test t.Bit e = tt
truth_from_test _ e = absurd cc

number_from_test : (a : Ty) → is_number a ≡ true → IsNumber a
number_from_test (t.Int n) e = tt
number_from_test (t.Uint n) e = tt
number_from_test t.Whole e = tt
number_from_test _ e = absurd cc

both_tests : (x y : Bool) → (x && y) ≡ true → (x ≡ true) × (y ≡ true)
both_tests true y e = (refl, e)
both_tests false y e = absurd cc

words_rows : (a b : Ty) (u v : ℤ) (p : Ty × Ty × Ty) → words_plan a u b v ≡ Some p → (m : Ty) × MeetAt a u b v m × ((m, m, m) ≡ p)
words_rows a b u v p e = let (m, h, is) = all_at_cases (met a u b v) p e in (m, meets_from_met a b u v m h, is)

angles_rows : (a b : Ty) (p : Ty × Ty × Ty) → angles_plan a b ≡ Some p → (m : Ty) × (AnglesAt a b m ⊎ AreConstants a b m) × ((m, m, m) ≡ p)
angles_rows (t.Angle m) (t.Angle n) p e =
    let (test, is) = where_true_cases (nat_eq m n) (t.Angle m, t.Angle m, t.Angle m) p e in
    (t.Angle m, inl (subst (λ k. AnglesAt (t.Angle m) (t.Angle k) (t.Angle m)) (eqb-true m n test) (row.TwoAngles m)), is)
angles_rows (t.Angle m) t.Pi p e = (t.Angle m, inl (row.AngleAndFraction m), some_is _ _ e)
angles_rows t.Pi (t.Angle n) p e = (t.Angle n, inl (row.FractionAndAngle n), some_is _ _ e)
angles_rows t.Pi t.Pi p e = (t.Pi, inr row.TwoFractions, some_is _ _ e)
angles_rows t.Whole t.Whole p e = (t.Whole, inr row.TwoWholes, some_is _ _ e)
angles_rows _ _ p e = absurd cc

turns_rows : (a b : Ty) (p : Ty × Ty × Ty) → turns_plan a b ≡ Some p → AreTurns a b × ((t.Turn, t.Turn, t.Turn) ≡ p)
turns_rows t.Turn t.Turn p e = (row.TwoTurns, some_is _ _ e)
turns_rows t.Turn t.Pi p e = (row.TurnAndFraction, some_is _ _ e)
turns_rows t.Pi t.Turn p e = (row.FractionAndTurn, some_is _ _ e)
turns_rows _ _ p e = absurd cc

scaled_rows : (a b : Ty) (u v : ℤ) → scales a b ≡ true → HasRow row.Quotient a u b v a b a × HasRow row.Product a u b v a b a × HasRow row.Product b v a u b a a
scaled_rows (t.Angle n) b u v e = let h = number_from_test b e in (row.AngleOver n b u v h, row.AngleTimes n b u v h, row.TimesAngle n b v u h)
scaled_rows t.Turn t.Whole u v e = (row.TurnOver u v, row.TurnTimes u v, row.TimesTurn v u)
scaled_rows t.Whole t.Whole u v e = (row.QuotientOfWholes u v, row.ProductOfWholes u v, row.ProductOfWholes v u)
scaled_rows t.Pi t.Whole u v e = (row.FractionOver u v, row.FractionTimes u v, row.TimesFraction v u)
scaled_rows _ _ u v e = absurd cc

shifted_rows : (a b : Ty) (u v : ℤ) → shifts a b ≡ true → HasRow row.Shift a u b v a b a
shifted_rows (t.Int n) b u v e = row.Shifted (t.Int n) b u v tt (number_from_test b e)
shifted_rows (t.Uint n) b u v e = row.Shifted (t.Uint n) b u v tt (number_from_test b e)
shifted_rows (t.Bits n) b u v e = row.Shifted (t.Bits n) b u v tt (number_from_test b e)
shifted_rows (t.Angle n) b u v e = row.Shifted (t.Angle n) b u v tt (number_from_test b e)
shifted_rows t.Whole t.Whole u v e = row.ShiftOfWholes u v
shifted_rows _ _ u v e = absurd cc

constant_rows : (a b : Ty) (u v : ℤ) (p : Ty × Ty × Ty) → constant_shift a u b ≡ Some p → RowAt row.Shift a u b v p
constant_rows t.Whole (t.Int n) u v p e = subst (RowAt row.Shift t.Whole u (t.Int n) v) (some_is _ _ e) (row.ConstantShifted (t.Int n) u v tt)
constant_rows t.Whole (t.Uint n) u v p e = subst (RowAt row.Shift t.Whole u (t.Uint n) v) (some_is _ _ e) (row.ConstantShifted (t.Uint n) u v tt)
constant_rows _ _ u v p e = absurd cc

wholes_rows : (g : Group) (a b : Ty) (u v : ℤ) (p : Ty × Ty × Ty) → HasRow g t.Whole u t.Whole v t.Whole t.Whole t.Whole → wholes_plan a b ≡ Some p → RowAt g a u b v p
wholes_rows g t.Whole t.Whole u v p h e = subst (RowAt g t.Whole u t.Whole v) (some_is _ _ e) h
wholes_rows g _ _ u v p h e = absurd cc

bits_rows : (a b : Ty) (u v : ℤ) (p : Ty × Ty × Ty) → bits_plan a b ≡ Some p → RowAt row.Bitwise a u b v p × RowAt row.Equality a u b v (p.0, p.1, t.Bool)
bits_rows (t.Bits m) (t.Bits n) u v p e =
    let (test, is) = where_true_cases (nat_eq m n) (t.Bits m, t.Bits m, t.Bits m) p e in
    subst (λ q. RowAt row.Bitwise (t.Bits m) u (t.Bits n) v q × RowAt row.Equality (t.Bits m) u (t.Bits n) v (q.0, q.1, t.Bool)) is
    (subst (λ k. HasRow row.Bitwise (t.Bits m) u (t.Bits k) v (t.Bits m) (t.Bits m) (t.Bits m) × HasRow row.Equality (t.Bits m) u (t.Bits k) v (t.Bits m) (t.Bits m) t.Bool) (eqb-true m n test) (row.BitwiseOnBits m u v, row.EqualBits m u v))
bits_rows t.Bool b u v p e =
    let (test, is) = where_true_cases (is_truth b) (t.Bit, t.Bit, t.Bit) p e in
    let h = truth_from_test b test in
    subst (λ q. RowAt row.Bitwise t.Bool u b v q × RowAt row.Equality t.Bool u b v (q.0, q.1, t.Bool)) is (row.BitwiseOnTruth t.Bool b u v tt h, row.EqualTruth t.Bool b u v tt h)
bits_rows t.Bit b u v p e =
    let (test, is) = where_true_cases (is_truth b) (t.Bit, t.Bit, t.Bit) p e in
    let h = truth_from_test b test in
    subst (λ q. RowAt row.Bitwise t.Bit u b v q × RowAt row.Equality t.Bit u b v (q.0, q.1, t.Bool)) is (row.BitwiseOnTruth t.Bit b u v tt h, row.EqualTruth t.Bit b u v tt h)
bits_rows _ _ u v p e = absurd cc

numbers_rows : (a b : Ty) (u v : ℤ) (p : Ty × Ty × Ty) → numbers_plan a b ≡ Some p → RowAt row.Order a u b v (p.0, p.1, t.Bool)
numbers_rows (t.Bits m) (t.Bits n) u v p e =
    let k = t.Uint (max m 1) in
    let (test, is) = where_true_cases (nat_eq m n && nat_le m 64) (k, k, k) p e in
    let both = (Decides-and (nat_eq m n) (nat_le m 64) (Decides-eqb m n) (leb-true m 64, small m)).0 test in
    subst (λ q. RowAt row.Order (t.Bits m) u (t.Bits n) v (q.0, q.1, t.Bool)) is
    (subst (λ j. HasRow row.Order (t.Bits m) u (t.Bits j) v k k t.Bool) both.0 (row.OrderOfBits m u v both.1))
numbers_rows _ _ u v p e = absurd cc

module _ (a b : Ty) (u v : ℤ) (p : Ty × Ty × Ty) where
  at_one : (g : Group) (m : Ty) → HasRow g a u b v m m m → (m, m, m) ≡ p → RowAt g a u b v p
  at_one g m h is = subst (RowAt g a u b v) is h

  sum_rows : sum_plan a u b v ≡ Some p → RowAt row.Sum a u b v p
  sum_rows e = ⊎_elim
      (λ h. let (m, q, is) = words_rows a b u v p h in at_one row.Sum m (row.SumOfWords a b m u v q) is)
      (λ h. ⊎_elim
      (λ k. let (m, q, is) = angles_rows a b p k in at_one row.Sum m (⊎_elim (λ x. row.SumOfAngles a b m u v x) (λ x. row.SumOfConstants a b m u v x) q) is)
      (λ k. let (q, is) = turns_rows a b p k in at_one row.Sum t.Turn (row.SumOfTurns a b u v q) is)
      (or_cases (angles_plan a b) (turns_plan a b) p h))
      (or_cases (words_plan a u b v) (option_or (angles_plan a b) (turns_plan a b)) p e)

  quotient_rows : quotient_plan a u b v ≡ Some p → RowAt row.Quotient a u b v p × RowAt row.Product a u b v p
  quotient_rows e = ⊎_elim
      (λ h. let (m, q, is) = words_rows a b u v p h in (at_one row.Quotient m (row.QuotientOfWords a b m u v q) is, at_one row.Product m (row.ProductOfWords a b m u v q) is))
      (λ h.
      let (test, is) = where_true_cases (scales a b) (a, b, a) p h in
      let rows = scaled_rows a b u v test in
      (subst (RowAt row.Quotient a u b v) is rows.0, subst (RowAt row.Product a u b v) is rows.1))
      (or_cases (words_plan a u b v) (where_true (scales a b) (a, b, a)) p e)

  product_rows : product_plan a u b v ≡ Some p → RowAt row.Product a u b v p
  product_rows e = ⊎_elim
      (λ h. (quotient_rows h).1)
      (λ h.
      let (test, is) = where_true_cases (scales b a) (a, b, b) p h in
      let rows = scaled_rows b a v u test in
      subst (RowAt row.Product a u b v) is rows.2)
      (or_cases (quotient_plan a u b v) (where_true (scales b a) (a, b, b)) p e)

  rest_rows : rest_plan a u b v ≡ Some p → RowAt row.Rest a u b v p × RowAt row.Bitwise a u b v p
  rest_rows e = ⊎_elim
      (λ h. let (m, q, is) = words_rows a b u v p h in (at_one row.Rest m (row.RestOfWords a b m u v q) is, at_one row.Bitwise m (row.BitwiseOnWords a b m u v q) is))
      (λ h. (wholes_rows row.Rest a b u v p (row.RestOfWholes u v) h, wholes_rows row.Bitwise a b u v p (row.BitwiseOnWholes u v) h))
      (or_cases (words_plan a u b v) (wholes_plan a b) p e)

  shift_rows : shift_plan a u b v ≡ Some p → RowAt row.Shift a u b v p
  shift_rows e = ⊎_elim
      (λ h. let (test, is) = where_true_cases (shifts a b) (a, b, a) p h in subst (RowAt row.Shift a u b v) is (shifted_rows a b u v test))
      (λ h. constant_rows a b u v p h)
      (or_cases (where_true (shifts a b) (a, b, a)) (constant_shift a u b) p e)

  bitwise_rows : bitwise_plan a u b v ≡ Some p → RowAt row.Bitwise a u b v p
  bitwise_rows e = ⊎_elim
      (λ h. (rest_rows h).1)
      (λ h. ⊎_elim
      (λ k. (bits_rows a b u v p k).0)
      (λ k. let (m, q, is) = truth_rows a b u v p k in at_one row.Bitwise m (⊎_elim (λ x. row.TruthAndWord a b m u v x.0 x.1) (λ x. row.WordAndTruth a b m u v x.0 x.1) q) is)
      (or_cases (bits_plan a b) (truth_with_word a u b v) p h))
      (or_cases (rest_plan a u b v) (option_or (bits_plan a b) (truth_with_word a u b v)) p e)

  compared_rows : compared_plan a u b v ≡ Some p → RowAt row.Equality a u b v (p.0, p.1, t.Bool) × RowAt row.Order a u b v (p.0, p.1, t.Bool)
  compared_rows e = ⊎_elim
      (λ h. let (m, q, is) = words_rows a b u v p h in both m (row.EqualWords a b m u v q, row.OrderOfWords a b m u v q) is)
      (λ h. ⊎_elim
      (λ k. let (m, q, is) = angles_rows a b p k in both m (⊎_elim (λ x. pair m (row.EqualAngles a b m u v x) (row.OrderOfAngles a b m u v x)) (λ x. pair m (row.EqualConstants a b m u v x) (row.OrderOfConstants a b m u v x)) q) is)
      (λ k. let (m, q, is) = mixed_rows a b u v p k in both m (⊎_elim (λ x. pair m (row.EqualMixed x.0 a b m u v x.1 x.2) (row.OrderMixed x.0 a b m u v x.1 x.2)) (λ x. pair m (row.MixedEqual x.0 a b m u v x.1 x.2) (row.MixedOrder x.0 a b m u v x.1 x.2)) q) is)
      (or_cases (angles_plan a b) (mixed_plan a u b v) p h))
      (or_cases (words_plan a u b v) (option_or (angles_plan a b) (mixed_plan a u b v)) p e)
    where
      pair : (m : Ty) → HasRow row.Equality a u b v m m t.Bool → HasRow row.Order a u b v m m t.Bool → HasRow row.Equality a u b v m m t.Bool × HasRow row.Order a u b v m m t.Bool
      pair m x y = (x, y)

      both : (m : Ty) → HasRow row.Equality a u b v m m t.Bool × HasRow row.Order a u b v m m t.Bool → (m, m, m) ≡ p → RowAt row.Equality a u b v (p.0, p.1, t.Bool) × RowAt row.Order a u b v (p.0, p.1, t.Bool)
      both m h is = subst (λ q. RowAt row.Equality a u b v (q.0, q.1, t.Bool) × RowAt row.Order a u b v (q.0, q.1, t.Bool)) is h

  logic_rows : logic_plan a u b v ≡ Some p → RowAt row.Logic a u b v p
  logic_rows e =
      let (test, is) = where_true_cases (casts a u t.Bool && casts b v t.Bool) (t.Bool, t.Bool, t.Bool) p e in
      let tests = both_tests (casts a u t.Bool) (casts b v t.Bool) test in
      subst (RowAt row.Logic a u b v) is (row.LogicOnCasts a b u v (row_from_casts a t.Bool u tests.0) (row_from_casts b t.Bool v tests.1))

equality_rows : (a b : Ty) (u v : ℤ) (p : Ty × Ty × Ty) → equality_plan a u b v ≡ Some p → RowAt row.Equality a u b v p
equality_rows a b u v p e =
    let (q, h, is) = compared_cases (option_or (compared_plan a u b v) (bits_plan a b)) p e in
    subst (RowAt row.Equality a u b v) is
    (⊎_elim (λ k. (compared_rows a b u v q k).0) (λ k. (bits_rows a b u v q k).1) (or_cases (compared_plan a u b v) (bits_plan a b) q h))

order_rows : (a b : Ty) (u v : ℤ) (p : Ty × Ty × Ty) → order_plan a u b v ≡ Some p → RowAt row.Order a u b v p
order_rows a b u v p e =
    let (q, h, is) = compared_cases (option_or (compared_plan a u b v) (numbers_plan a b)) p e in
    subst (RowAt row.Order a u b v) is
    (⊎_elim (λ k. (compared_rows a b u v q k).1) (λ k. numbers_rows a b u v q k) (or_cases (compared_plan a u b v) (numbers_plan a b) q h))

pub row_from_plan : (g : Group) (a b : Ty) (u v : ℤ) (p : Ty × Ty × Ty) → operator_plan g a u b v ≡ Some p → RowAt g a u b v p
row_from_plan row.Sum a b u v p e = sum_rows a b u v p e
row_from_plan row.Product a b u v p e = product_rows a b u v p e
row_from_plan row.Quotient a b u v p e = (quotient_rows a b u v p e).0
row_from_plan row.Rest a b u v p e = (rest_rows a b u v p e).0
row_from_plan row.Shift a b u v p e = shift_rows a b u v p e
row_from_plan row.Bitwise a b u v p e = bitwise_rows a b u v p e
row_from_plan row.Equality a b u v p e = equality_rows a b u v p e
row_from_plan row.Order a b u v p e = order_rows a b u v p e
row_from_plan row.Logic a b u v p e = logic_rows a b u v p e
row_from_plan row.Power a b u v p e = wholes_rows row.Power a b u v p (row.PowerOfWholes u v) e

-- ---- unary operators

pub unary_from_row : (o : UnaryOp) (a : Ty) (v : ℤ) (m : Ty) → HasUnaryRow o a v m → unary_plan o a v ≡ Some m
unary_from_row _ _ _ _ (row.NotOnCasts a v q) = ap (λ s. if s then Some t.Bool else None) (casts_from_row a t.Bool v q)
unary_from_row _ _ _ _ (row.ComplementOfWord a v q) = word_cases (λ c. unary_plan unary.Complement c v ≡ Some c) (λ n. refl) (λ n. refl) a q
unary_from_row _ _ _ _ (row.ComplementOfBit v) = refl
unary_from_row _ _ _ _ (row.ComplementOfBits n v) = refl
unary_from_row _ _ _ _ (row.ComplementOfWhole v) = refl
unary_from_row _ _ _ _ (row.NegativeOfWord a v q) = word_cases (λ c. unary_plan unary.Negate c v ≡ Some c) (λ n. refl) (λ n. refl) a q
unary_from_row _ _ _ _ (row.NegativeOfAngle n v) = refl
unary_from_row _ _ _ _ (row.NegativeOfTurn v) = refl
unary_from_row _ _ _ _ (row.NegativeOfWhole v) = refl
unary_from_row _ _ _ _ (row.NegativeOfFraction v) = refl

complement_row : (a : Ty) (v : ℤ) (m : Ty) → unary_plan unary.Complement a v ≡ Some m → HasUnaryRow unary.Complement a v m
complement_row (t.Int n) v m e = subst (HasUnaryRow unary.Complement (t.Int n) v) (some_is _ _ e) (row.ComplementOfWord (t.Int n) v tt)
complement_row (t.Uint n) v m e = subst (HasUnaryRow unary.Complement (t.Uint n) v) (some_is _ _ e) (row.ComplementOfWord (t.Uint n) v tt)
complement_row t.Bit v m e = subst (HasUnaryRow unary.Complement t.Bit v) (some_is _ _ e) (row.ComplementOfBit v)
complement_row (t.Bits n) v m e = subst (HasUnaryRow unary.Complement (t.Bits n) v) (some_is _ _ e) (row.ComplementOfBits n v)
complement_row t.Whole v m e = subst (HasUnaryRow unary.Complement t.Whole v) (some_is _ _ e) (row.ComplementOfWhole v)
complement_row _ v m e = absurd cc

negative_row : (a : Ty) (v : ℤ) (m : Ty) → unary_plan unary.Negate a v ≡ Some m → HasUnaryRow unary.Negate a v m
negative_row (t.Int n) v m e = subst (HasUnaryRow unary.Negate (t.Int n) v) (some_is _ _ e) (row.NegativeOfWord (t.Int n) v tt)
negative_row (t.Uint n) v m e = subst (HasUnaryRow unary.Negate (t.Uint n) v) (some_is _ _ e) (row.NegativeOfWord (t.Uint n) v tt)
negative_row (t.Angle n) v m e = subst (HasUnaryRow unary.Negate (t.Angle n) v) (some_is _ _ e) (row.NegativeOfAngle n v)
negative_row t.Turn v m e = subst (HasUnaryRow unary.Negate t.Turn v) (some_is _ _ e) (row.NegativeOfTurn v)
negative_row t.Whole v m e = subst (HasUnaryRow unary.Negate t.Whole v) (some_is _ _ e) (row.NegativeOfWhole v)
negative_row t.Pi v m e = subst (HasUnaryRow unary.Negate t.Pi v) (some_is _ _ e) (row.NegativeOfFraction v)
negative_row _ v m e = absurd cc

not_row : (a : Ty) (v : ℤ) (m : Ty) (s : Bool) → casts a v t.Bool ≡ s → (if s then Some t.Bool else None) ≡ Some m → HasUnaryRow unary.Not a v m
not_row a v m true test e = subst (HasUnaryRow unary.Not a v) (some_is _ _ e) (row.NotOnCasts a v (row_from_casts a t.Bool v test))
not_row a v m false test e = absurd cc

pub row_from_unary : (o : UnaryOp) (a : Ty) (v : ℤ) (m : Ty) → unary_plan o a v ≡ Some m → HasUnaryRow o a v m
row_from_unary unary.Not a v m e = not_row a v m (casts a v t.Bool) refl e
row_from_unary unary.Complement a v m e = complement_row a v m e
row_from_unary unary.Negate a v m e = negative_row a v m e
