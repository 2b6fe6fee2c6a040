-- The rows of the table of operators are found by the code's plans.
use Rattle.std.proofs.Common.{◌≡◌, ℕ, max, true, ◌&&◌, ℤ, Some, None, refl, ap, ◌∙◌, nat_le, nat_eq, eq-eqb}
use Rattle.std.specs.Option.{option_or}
use Rattle.qasm_types.specs.declared.ty.Ty.{Ty}
use Rattle.qasm_types.specs.declared.ty.Ty.TheVariants as t
use Rattle.qasm_types.specs.Types.{IsTruth}
use Rattle.qasm_types.specs.Words.{MeetAt, IsTakenAs, constant_beside}
use Rattle.qasm_types.specs.Operators as row
use Rattle.qasm_types.specs.Operators.{HasRow, Group, IsNumber, IsShifted, AnglesAt, AreConstants}
use Rattle.qasm_types.specs.Plans.{Plan, all_at, compared, where_true, words_plan, angles_plan, turns_plan, scales, wholes_plan, bits_plan, numbers_plan, truth_with_word, mixed_plan, quotient_plan, product_plan, shift_plan, bitwise_plan, compared_plan, equality_plan, operator_plan}
use Rattle.qasm_types.proofs.ByKind.{word_cases, truth_cases}
use Rattle.qasm_types.proofs.Casting.{casts_from_row}
use Rattle.qasm_types.proofs.Choices.{where_same, third, fourth, chosen_none}
use Rattle.qasm_types.proofs.Meeting.{number_cases, met_from_meets, number_left, number_right, truth_left, truth_right, mixed_left, mixed_right, no_words_left, no_words_right, small}

-- words come first in a plan
words_first : (a b m : Ty) (u v : ℤ) (rest : Plan) → MeetAt a u b v m → option_or (words_plan a u b v) rest ≡ Some (m, m, m)
words_first a b m u v rest q = ap (λ o. option_or (all_at o) rest) (met_from_meets a b u v m q)

angles_from : (a b m : Ty) → AnglesAt a b m → angles_plan a b ≡ Some (m, m, m)
angles_from _ _ _ (row.TwoAngles n) = where_same n (t.Angle n, t.Angle n, t.Angle n)
angles_from _ _ _ (row.AngleAndFraction n) = refl
angles_from _ _ _ (row.FractionAndAngle n) = refl

no_words_angles : (a b m : Ty) (u v : ℤ) → AnglesAt a b m → words_plan a u b v ≡ None
no_words_angles _ _ _ u v (row.TwoAngles n) = refl
no_words_angles _ _ _ u v (row.AngleAndFraction n) = refl
no_words_angles _ _ _ u v (row.FractionAndAngle n) = refl

constants_from : (a b m : Ty) (u v : ℤ) → AreConstants a b m → (words_plan a u b v ≡ None) × (angles_plan a b ≡ Some (m, m, m))
constants_from _ _ _ u v row.TwoWholes = (refl, refl)
constants_from _ _ _ u v row.TwoFractions = (refl, refl)

-- the second of the plans
second : (w s x : Plan) (p : Ty × Ty × Ty) → w ≡ None → s ≡ Some p → option_or w (option_or s x) ≡ Some p
second w s x p we se = λ i. option_or (we i) (option_or (se i) x)

then_compared : (o b : Plan) (l r m : Ty) → o ≡ Some (l, r, m) → compared (option_or o b) ≡ Some (l, r, t.Bool)
then_compared o b l r m e = ap (λ x. compared (option_or x b)) e

module _ (a b : Ty) (u v : ℤ) where
  words_compared : (m : Ty) (o : Plan) → MeetAt a u b v m → compared (option_or (compared_plan a u b v) o) ≡ Some (m, m, t.Bool)
  words_compared m o q = then_compared (compared_plan a u b v) o m m m (words_first a b m u v (option_or (angles_plan a b) (mixed_plan a u b v)) q)

  angles_compared : (m : Ty) (o : Plan) → AnglesAt a b m → compared (option_or (compared_plan a u b v) o) ≡ Some (m, m, t.Bool)
  angles_compared m o q = then_compared (compared_plan a u b v) o m m m (second (words_plan a u b v) (angles_plan a b) (mixed_plan a u b v) (m, m, m) (no_words_angles a b m u v q) (angles_from a b m q))

  constants_compared : (m : Ty) (o : Plan) → AreConstants a b m → compared (option_or (compared_plan a u b v) o) ≡ Some (m, m, t.Bool)
  constants_compared m o q =
      let h = constants_from a b m u v q in
      then_compared (compared_plan a u b v) o m m m (second (words_plan a u b v) (angles_plan a b) (mixed_plan a u b v) (m, m, m) h.0 h.1)

  left_compared : (m : Ty) (o : Plan) (n : ℕ) → IsTakenAs a n → MeetAt (t.Uint n) u b v m → compared (option_or (compared_plan a u b v) o) ≡ Some (m, m, t.Bool)
  left_compared m o n p q =
      let none = no_words_left a b u v n p (number_right (t.Uint n) b u v m tt q) in
      ap compared (third (words_plan a u b v) (angles_plan a b) (mixed_plan a u b v) o (m, m, m) none.0 none.1 (mixed_left a b u v m n p q))

  right_compared : (m : Ty) (o : Plan) (n : ℕ) → IsTakenAs b n → MeetAt a u (t.Uint n) v m → compared (option_or (compared_plan a u b v) o) ≡ Some (m, m, t.Bool)
  right_compared m o n p q =
      let none = no_words_right a b u v n p (number_left a (t.Uint n) u v m tt q) in
      ap compared (third (words_plan a u b v) (angles_plan a b) (mixed_plan a u b v) o (m, m, m) none.0 none.1 (mixed_right a b u v m n p q))

-- two registers are no operands of a mixed comparison
no_mixed : (m n : ℕ) (u v : ℤ) → mixed_plan (t.Bits m) u (t.Bits n) v ≡ None
no_mixed m n u v = chosen_none (nat_le m 64) None refl

shifted_cases : (a b : Ty) (u v : ℤ) → IsShifted a → IsNumber b → shift_plan a u b v ≡ Some (a, b, a)
shifted_cases (t.Int n) b u v p q = number_cases (λ c. shift_plan (t.Int n) u c v ≡ Some (t.Int n, c, t.Int n)) (λ k. refl) (λ k. refl) refl b q
shifted_cases (t.Uint n) b u v p q = number_cases (λ c. shift_plan (t.Uint n) u c v ≡ Some (t.Uint n, c, t.Uint n)) (λ k. refl) (λ k. refl) refl b q
shifted_cases (t.Bits n) b u v p q = number_cases (λ c. shift_plan (t.Bits n) u c v ≡ Some (t.Bits n, c, t.Bits n)) (λ k. refl) (λ k. refl) refl b q
shifted_cases (t.Angle n) b u v p q = number_cases (λ c. shift_plan (t.Angle n) u c v ≡ Some (t.Angle n, c, t.Angle n)) (λ k. refl) (λ k. refl) refl b q
shifted_cases _ b u v p q = absurd p

-- a truth value beside a number has no other plan under `&`
bitwise_left : (a b m : Ty) (u v : ℤ) → IsTruth a → IsNumber b → truth_with_word a u b v ≡ Some (m, m, m) → bitwise_plan a u b v ≡ Some (m, m, m)
bitwise_left a b m u v p q =
    truth_cases (λ c. truth_with_word c u b v ≡ Some (m, m, m) → bitwise_plan c u b v ≡ Some (m, m, m))
    (number_cases (λ d. truth_with_word t.Bool u d v ≡ Some (m, m, m) → bitwise_plan t.Bool u d v ≡ Some (m, m, m)) (λ k e. e) (λ k e. e) (λ e. e) b q)
    (number_cases (λ d. truth_with_word t.Bit u d v ≡ Some (m, m, m) → bitwise_plan t.Bit u d v ≡ Some (m, m, m)) (λ k e. e) (λ k e. e) (λ e. e) b q) a p

bitwise_right : (a b m : Ty) (u v : ℤ) → IsNumber a → IsTruth b → truth_with_word a u b v ≡ Some (m, m, m) → bitwise_plan a u b v ≡ Some (m, m, m)
bitwise_right a b m u v q p =
    truth_cases (λ c. truth_with_word a u c v ≡ Some (m, m, m) → bitwise_plan a u c v ≡ Some (m, m, m))
    (number_cases (λ d. truth_with_word d u t.Bool v ≡ Some (m, m, m) → bitwise_plan d u t.Bool v ≡ Some (m, m, m)) (λ k e. e) (λ k e. e) (λ e. e) a q)
    (number_cases (λ d. truth_with_word d u t.Bit v ≡ Some (m, m, m) → bitwise_plan d u t.Bit v ≡ Some (m, m, m)) (λ k e. e) (λ k e. e) (λ e. e) a q) b p

pub plan_from_row : (g : Group) (a b : Ty) (u v : ℤ) (l r m : Ty) → HasRow g a u b v l r m → operator_plan g a u b v ≡ Some (l, r, m)
plan_from_row _ _ _ _ _ _ _ _ (row.SumOfWords a b m u v q) = words_first a b m u v (option_or (angles_plan a b) (turns_plan a b)) q
plan_from_row _ _ _ _ _ _ _ _ (row.SumOfAngles a b m u v q) = second (words_plan a u b v) (angles_plan a b) (turns_plan a b) (m, m, m) (no_words_angles a b m u v q) (angles_from a b m q)
plan_from_row _ _ _ _ _ _ _ _ (row.SumOfTurns _ _ u v row.TwoTurns) = refl
plan_from_row _ _ _ _ _ _ _ _ (row.SumOfTurns _ _ u v row.TurnAndFraction) = refl
plan_from_row _ _ _ _ _ _ _ _ (row.SumOfTurns _ _ u v row.FractionAndTurn) = refl
plan_from_row _ _ _ _ _ _ _ _ (row.SumOfConstants a b m u v q) = let h = constants_from a b m u v q in second (words_plan a u b v) (angles_plan a b) (turns_plan a b) (m, m, m) h.0 h.1
plan_from_row _ _ _ _ _ _ _ _ (row.ProductOfWords a b m u v q) = ap (λ o. option_or o (where_true (scales b a) (a, b, b))) (words_first a b m u v (where_true (scales a b) (a, b, a)) q)
plan_from_row _ _ _ _ _ _ _ _ (row.AngleTimes n b u v q) = number_cases (λ c. product_plan (t.Angle n) u c v ≡ Some (t.Angle n, c, t.Angle n)) (λ k. refl) (λ k. refl) refl b q
plan_from_row _ _ _ _ _ _ _ _ (row.TimesAngle n a u v q) = number_cases (λ c. product_plan c u (t.Angle n) v ≡ Some (c, t.Angle n, t.Angle n)) (λ k. refl) (λ k. refl) refl a q
plan_from_row _ _ _ _ _ _ _ _ (row.TurnTimes u v) = refl
plan_from_row _ _ _ _ _ _ _ _ (row.TimesTurn u v) = refl
plan_from_row _ _ _ _ _ _ _ _ (row.ProductOfWholes u v) = refl
plan_from_row _ _ _ _ _ _ _ _ (row.FractionTimes u v) = refl
plan_from_row _ _ _ _ _ _ _ _ (row.TimesFraction u v) = refl
plan_from_row _ _ _ _ _ _ _ _ (row.QuotientOfWords a b m u v q) = words_first a b m u v (where_true (scales a b) (a, b, a)) q
plan_from_row _ _ _ _ _ _ _ _ (row.AngleOver n b u v q) = number_cases (λ c. quotient_plan (t.Angle n) u c v ≡ Some (t.Angle n, c, t.Angle n)) (λ k. refl) (λ k. refl) refl b q
plan_from_row _ _ _ _ _ _ _ _ (row.TurnOver u v) = refl
plan_from_row _ _ _ _ _ _ _ _ (row.QuotientOfWholes u v) = refl
plan_from_row _ _ _ _ _ _ _ _ (row.FractionOver u v) = refl
plan_from_row _ _ _ _ _ _ _ _ (row.RestOfWords a b m u v q) = words_first a b m u v (wholes_plan a b) q
plan_from_row _ _ _ _ _ _ _ _ (row.RestOfWholes u v) = refl
plan_from_row _ _ _ _ _ _ _ _ (row.Shifted a b u v p q) = shifted_cases a b u v p q
plan_from_row _ _ _ _ _ _ _ _ (row.ConstantShifted b u v q) =
    word_cases (λ c. shift_plan t.Whole u c v ≡ Some (constant_beside c u, c, constant_beside c u)) (λ n. refl) (λ n. refl) b q
plan_from_row _ _ _ _ _ _ _ _ (row.ShiftOfWholes u v) = refl
plan_from_row _ _ _ _ _ _ _ _ (row.BitwiseOnWords a b m u v q) = ap (λ o. option_or o (option_or (bits_plan a b) (truth_with_word a u b v))) (words_first a b m u v (wholes_plan a b) q)
plan_from_row _ _ _ _ _ _ _ _ (row.BitwiseOnBits n u v) = ap (λ o. option_or o None) (where_same n (t.Bits n, t.Bits n, t.Bits n))
plan_from_row _ _ _ _ _ _ _ _ (row.BitwiseOnTruth a b u v p q) =
    truth_cases (λ c. bitwise_plan c u b v ≡ Some (t.Bit, t.Bit, t.Bit)) (truth_cases (λ d. bitwise_plan t.Bool u d v ≡ Some (t.Bit, t.Bit, t.Bit)) refl refl b q) (truth_cases (λ d. bitwise_plan t.Bit u d v ≡ Some (t.Bit, t.Bit, t.Bit)) refl refl b q) a p
plan_from_row _ _ _ _ _ _ _ _ (row.TruthAndWord a b m u v p q) = bitwise_left a b m u v p (number_right (t.Uint 1) b u v m tt q) (truth_left a b u v m p q)
plan_from_row _ _ _ _ _ _ _ _ (row.WordAndTruth a b m u v p q) = bitwise_right a b m u v (number_left a (t.Uint 1) u v m tt q) p (truth_right a b u v m p q)
plan_from_row _ _ _ _ _ _ _ _ (row.BitwiseOnWholes u v) = refl
plan_from_row _ _ _ _ _ _ _ _ (row.EqualWords a b m u v q) = words_compared a b u v m (bits_plan a b) q
plan_from_row _ _ _ _ _ _ _ _ (row.EqualTruth a b u v p q) =
    truth_cases (λ c. equality_plan c u b v ≡ Some (t.Bit, t.Bit, t.Bool)) (truth_cases (λ d. equality_plan t.Bool u d v ≡ Some (t.Bit, t.Bit, t.Bool)) refl refl b q) (truth_cases (λ d. equality_plan t.Bit u d v ≡ Some (t.Bit, t.Bit, t.Bool)) refl refl b q) a p
plan_from_row _ _ _ _ _ _ _ _ (row.EqualBits n u v) =
    ap compared (fourth (words_plan (t.Bits n) u (t.Bits n) v) (angles_plan (t.Bits n) (t.Bits n)) (mixed_plan (t.Bits n) u (t.Bits n) v) (bits_plan (t.Bits n) (t.Bits n)) (t.Bits n, t.Bits n, t.Bits n) refl refl (no_mixed n n u v) (where_same n (t.Bits n, t.Bits n, t.Bits n)))
plan_from_row _ _ _ _ _ _ _ _ (row.EqualAngles a b m u v q) = angles_compared a b u v m (bits_plan a b) q
plan_from_row _ _ _ _ _ _ _ _ (row.EqualConstants a b m u v q) = constants_compared a b u v m (bits_plan a b) q
plan_from_row _ _ _ _ _ _ _ _ (row.OrderOfWords a b m u v q) = words_compared a b u v m (numbers_plan a b) q
plan_from_row _ _ _ _ _ _ _ _ (row.OrderOfBits n u v few) =
    let k = t.Uint (max n 1) in
    let test : (nat_eq n n && nat_le n 64) ≡ true = ap (λ s. s && nat_le n 64) (eq-eqb n n refl) ∙ small n few in
    ap compared (fourth (words_plan (t.Bits n) u (t.Bits n) v) (angles_plan (t.Bits n) (t.Bits n)) (mixed_plan (t.Bits n) u (t.Bits n) v) (numbers_plan (t.Bits n) (t.Bits n)) (k, k, k) refl refl (no_mixed n n u v) (ap (λ s. where_true s (k, k, k)) test))
plan_from_row _ _ _ _ _ _ _ _ (row.OrderOfAngles a b m u v q) = angles_compared a b u v m (numbers_plan a b) q
plan_from_row _ _ _ _ _ _ _ _ (row.OrderOfConstants a b m u v q) = constants_compared a b u v m (numbers_plan a b) q
plan_from_row _ _ _ _ _ _ _ _ (row.EqualMixed n a b m u v p q) = left_compared a b u v m (bits_plan a b) n p q
plan_from_row _ _ _ _ _ _ _ _ (row.MixedEqual n a b m u v p q) = right_compared a b u v m (bits_plan a b) n p q
plan_from_row _ _ _ _ _ _ _ _ (row.OrderMixed n a b m u v p q) = left_compared a b u v m (numbers_plan a b) n p q
plan_from_row _ _ _ _ _ _ _ _ (row.MixedOrder n a b m u v p q) = right_compared a b u v m (numbers_plan a b) n p q
plan_from_row _ _ _ _ _ _ _ _ (row.LogicOnCasts a b u v p q) =
    let k : Ty × Ty × Ty = (t.Bool, t.Bool, t.Bool) in
    λ i. where_true (casts_from_row a t.Bool u p i && casts_from_row b t.Bool v q i) k
plan_from_row _ _ _ _ _ _ _ _ (row.PowerOfWholes u v) = refl
