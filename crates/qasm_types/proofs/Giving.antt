-- What operators give is a value of the type that the row has as the result.
use Rattle.std.proofs.Common.{◌≡◌, ◌≢◌, zero, suc, Bool, true, false, ◌||◌, ℤ, pos, negsuc, neg_ℤ, ◌-ℤ◌, ◌*ℤ◌, ◌≤ℤ◌, Option, Some, None, refl, sym, ◌∙◌, subst, arith, if◌then◌else◌, nat_le}
use Rattle.std.proofs.lemmas.Int.{ints}
use Rattle.std.proofs.lemmas.Bool.Decides.{Decides-int_eq}
use Rattle.std.specs.Ordering.{int_eq}
use Rattle.std.specs.Option.{option_map, option_and_then}
use Rattle.qasm_ast.specs.declared.expr.BinaryOp.{BinaryOp}
use Rattle.qasm_ast.specs.declared.expr.BinaryOp.TheVariants as op
use Rattle.qasm_ast.specs.declared.expr.UnaryOp.{UnaryOp}
use Rattle.qasm_ast.specs.declared.expr.UnaryOp.TheVariants as unary
use Rattle.angle_arith.specs.Fraction.{Fraction, IsLowestTerms, negative_of, sum_of, difference_of, product_of, quotient_of}
use Rattle.angle_arith.specs.Lowest.{LowestTerms, in_lowest_terms, is_small}
use Rattle.qasm_types.specs.declared.ty.Ty.{Ty}
use Rattle.qasm_types.specs.declared.ty.Ty.TheVariants as t
use Rattle.qasm_types.specs.Types.{IsWord}
use Rattle.qasm_types.specs.Words.{MeetAt, TwoWords, ConstantRight, ConstantLeft, meeting, constant_beside, is_value_of}
use Rattle.qasm_types.specs.Operators as row
use Rattle.qasm_types.specs.Operators.{Group, Sum, Product, Quotient, Equality, Order, HasRow, HasUnaryRow, group_of, IsNumber, IsShifted, AnglesAt, AreConstants}
use Rattle.qasm_types.specs.Values.{Value, Truth, Number, PartOfPi, IsValueOf, number_of, part_in_range, result_on_parts, result_on_numbers, reduced_to, where_divisor, test_on_numbers, apply, apply_unary, taken, result_of}
use Rattle.qasm_types.proofs.ByKind.{word_cases}
use Rattle.qasm_types.proofs.Choices.{some_is}
use Rattle.qasm_types.proofs.Reduced.{then_cases, map_cases, where_cases, value_at, reduced_is_value, taken_is_value}

-- ---- rows with a part of pi

abbrev is_pi : Ty → Bool
is_pi t.Pi = true
is_pi _ = false

-- the result of an operator that takes a part of pi
abbrev Fits : Group → Ty → Type 0
Fits Sum m = m ≡ t.Pi
Fits Product m = m ≡ t.Pi
Fits Quotient m = m ≡ t.Pi
Fits Equality m = m ≡ t.Bool
Fits Order m = m ≡ t.Bool
Fits _ m = ⊥

neither : (x y : Bool) → x ≡ false → y ≡ false → (x || y) ≡ true → ⊥
neither x y p q e = let no : (x || y) ≡ false = rw (p, q) refl in cc

word_is_no_part : (a : Ty) → IsWord a → is_pi a ≡ false
word_is_no_part a h = word_cases (λ c. is_pi c ≡ false) (λ n. refl) (λ n. refl) a h

either_word : (b : Bool) (x y : Ty) → IsWord x → IsWord y → IsWord (if b then x else y)
either_word true x y h k = h
either_word false x y h k = k

meeting_is_word : (a b : Ty) → IsWord a → IsWord b → IsWord (meeting a b)
meeting_is_word (t.Uint m) (t.Uint n) h k = tt
meeting_is_word (t.Uint m) (t.Int n) h k = either_word (nat_le n m) (t.Uint m) (t.Int n) tt tt
meeting_is_word (t.Int m) (t.Uint n) h k = either_word (nat_le m n) (t.Uint n) (t.Int m) tt tt
meeting_is_word (t.Int m) (t.Int n) h k = tt
meeting_is_word (t.Uint m) _ h k = absurd k
meeting_is_word (t.Int m) _ h k = absurd k
meeting_is_word _ b h k = absurd h

constant_is_word : (a : Ty) (v : ℤ) → IsWord a → IsWord (constant_beside a v)
constant_is_word a v h = either_word (is_value_of a v) a (if is_value_of (t.Int 64) v then t.Int 64 else t.Uint 64) h (either_word (is_value_of (t.Int 64) v) (t.Int 64) (t.Uint 64) tt tt)

met_is_no_part : (a b m : Ty) (u v : ℤ) → MeetAt a u b v m → is_pi m ≡ false
met_is_no_part _ _ _ _ _ (TwoWords a b u v p q) = word_is_no_part (meeting a b) (meeting_is_word a b p q)
met_is_no_part _ _ _ _ _ (ConstantRight a u v p) = word_is_no_part (meeting a (constant_beside a v)) (meeting_is_word a (constant_beside a v) p (constant_is_word a v p))
met_is_no_part _ _ _ _ _ (ConstantLeft b u v p) = word_is_no_part (meeting (constant_beside b u) b) (meeting_is_word (constant_beside b u) b (constant_is_word b u p) p)

number_is_no_part : (a : Ty) → IsNumber a → is_pi a ≡ false
number_is_no_part t.Pi h = absurd h
number_is_no_part _ h = refl

shifted_is_no_part : (a : Ty) → IsShifted a → is_pi a ≡ false
shifted_is_no_part t.Pi h = absurd h
shifted_is_no_part _ h = refl

angles_are_no_parts : (a b m : Ty) → AnglesAt a b m → is_pi m ≡ false
angles_are_no_parts _ _ _ (row.TwoAngles n) = refl
angles_are_no_parts _ _ _ (row.AngleAndFraction n) = refl
angles_are_no_parts _ _ _ (row.FractionAndAngle n) = refl

no_parts : (g : Group) (l r m : Ty) → is_pi l ≡ false → is_pi r ≡ false → (is_pi l || is_pi r) ≡ true → Fits g m
no_parts g l r m p q e = absurd (neither (is_pi l) (is_pi r) p q e)

both_no_parts : (g : Group) (m n : Ty) → is_pi m ≡ false → (is_pi m || is_pi m) ≡ true → Fits g n
both_no_parts g m n p e = no_parts g m m n p p e

fits_from_row : (g : Group) (a b l r m : Ty) (u v : ℤ) → HasRow g a u b v l r m → (is_pi l || is_pi r) ≡ true → Fits g m
fits_from_row _ _ _ _ _ _ _ _ (row.SumOfWords a b m u v h) e = both_no_parts Sum m m (met_is_no_part a b m u v h) e
fits_from_row _ _ _ _ _ _ _ _ (row.SumOfAngles a b m u v h) e = both_no_parts Sum m m (angles_are_no_parts a b m h) e
fits_from_row _ _ _ _ _ _ _ _ (row.SumOfTurns a b u v h) e = absurd cc
fits_from_row _ _ _ _ _ _ _ _ (row.SumOfConstants _ _ _ u v row.TwoWholes) e = absurd cc
fits_from_row _ _ _ _ _ _ _ _ (row.SumOfConstants _ _ _ u v row.TwoFractions) e = refl
fits_from_row _ _ _ _ _ _ _ _ (row.ProductOfWords a b m u v h) e = both_no_parts Product m m (met_is_no_part a b m u v h) e
fits_from_row _ _ _ _ _ _ _ _ (row.AngleTimes n b u v h) e = no_parts Product (t.Angle n) b (t.Angle n) refl (number_is_no_part b h) e
fits_from_row _ _ _ _ _ _ _ _ (row.TimesAngle n a u v h) e = no_parts Product a (t.Angle n) (t.Angle n) (number_is_no_part a h) refl e
fits_from_row _ _ _ _ _ _ _ _ (row.TurnTimes u v) e = absurd cc
fits_from_row _ _ _ _ _ _ _ _ (row.TimesTurn u v) e = absurd cc
fits_from_row _ _ _ _ _ _ _ _ (row.ProductOfWholes u v) e = absurd cc
fits_from_row _ _ _ _ _ _ _ _ (row.FractionTimes u v) e = refl
fits_from_row _ _ _ _ _ _ _ _ (row.TimesFraction u v) e = refl
fits_from_row _ _ _ _ _ _ _ _ (row.QuotientOfWords a b m u v h) e = both_no_parts Quotient m m (met_is_no_part a b m u v h) e
fits_from_row _ _ _ _ _ _ _ _ (row.AngleOver n b u v h) e = no_parts Quotient (t.Angle n) b (t.Angle n) refl (number_is_no_part b h) e
fits_from_row _ _ _ _ _ _ _ _ (row.TurnOver u v) e = absurd cc
fits_from_row _ _ _ _ _ _ _ _ (row.QuotientOfWholes u v) e = absurd cc
fits_from_row _ _ _ _ _ _ _ _ (row.FractionOver u v) e = refl
fits_from_row _ _ _ _ _ _ _ _ (row.RestOfWords a b m u v h) e = both_no_parts row.Rest m m (met_is_no_part a b m u v h) e
fits_from_row _ _ _ _ _ _ _ _ (row.RestOfWholes u v) e = absurd cc
fits_from_row _ _ _ _ _ _ _ _ (row.Shifted a b u v h k) e = no_parts row.Shift a b a (shifted_is_no_part a h) (number_is_no_part b k) e
fits_from_row _ _ _ _ _ _ _ _ (row.ConstantShifted b u v h) e =
    no_parts row.Shift (constant_beside b u) b (constant_beside b u) (word_is_no_part (constant_beside b u) (constant_is_word b u h)) (word_is_no_part b h) e
fits_from_row _ _ _ _ _ _ _ _ (row.ShiftOfWholes u v) e = absurd cc
fits_from_row _ _ _ _ _ _ _ _ (row.BitwiseOnWords a b m u v h) e = both_no_parts row.Bitwise m m (met_is_no_part a b m u v h) e
fits_from_row _ _ _ _ _ _ _ _ (row.BitwiseOnBits n u v) e = absurd cc
fits_from_row _ _ _ _ _ _ _ _ (row.BitwiseOnTruth a b u v h k) e = absurd cc
fits_from_row _ _ _ _ _ _ _ _ (row.TruthAndWord a b m u v h k) e = both_no_parts row.Bitwise m m (met_is_no_part (t.Uint 1) b m u v k) e
fits_from_row _ _ _ _ _ _ _ _ (row.WordAndTruth a b m u v h k) e = both_no_parts row.Bitwise m m (met_is_no_part a (t.Uint 1) m u v k) e
fits_from_row _ _ _ _ _ _ _ _ (row.BitwiseOnWholes u v) e = absurd cc
fits_from_row _ _ _ _ _ _ _ _ (row.EqualWords a b m u v h) e = refl
fits_from_row _ _ _ _ _ _ _ _ (row.EqualTruth a b u v h k) e = refl
fits_from_row _ _ _ _ _ _ _ _ (row.EqualBits n u v) e = refl
fits_from_row _ _ _ _ _ _ _ _ (row.EqualAngles a b m u v h) e = refl
fits_from_row _ _ _ _ _ _ _ _ (row.EqualConstants a b m u v h) e = refl
fits_from_row _ _ _ _ _ _ _ _ (row.OrderOfWords a b m u v h) e = refl
fits_from_row _ _ _ _ _ _ _ _ (row.OrderOfBits n u v h) e = refl
fits_from_row _ _ _ _ _ _ _ _ (row.OrderOfAngles a b m u v h) e = refl
fits_from_row _ _ _ _ _ _ _ _ (row.OrderOfConstants a b m u v h) e = refl
fits_from_row _ _ _ _ _ _ _ _ (row.EqualMixed n a b m u v h k) e = refl
fits_from_row _ _ _ _ _ _ _ _ (row.MixedEqual n a b m u v h k) e = refl
fits_from_row _ _ _ _ _ _ _ _ (row.OrderMixed n a b m u v h k) e = refl
fits_from_row _ _ _ _ _ _ _ _ (row.MixedOrder n a b m u v h k) e = refl
fits_from_row _ _ _ _ _ _ _ _ (row.LogicOnCasts a b u v h k) e = absurd cc
fits_from_row _ _ _ _ _ _ _ _ (row.PowerOfWholes u v) e = absurd cc

-- ---- parts of pi

-- a part of pi among the values stands in lowest terms
abbrev IsLowest : Value → Type 0
IsLowest (PartOfPi p) = IsLowestTerms p
IsLowest _ = Unit {0}

lowest_from_value : (l : Ty) (x : Value) → IsValueOf l x → IsLowest x
lowest_from_value t.Pi (PartOfPi p) h = h
lowest_from_value l (PartOfPi p) h = absurd h
lowest_from_value l _ h = tt

part_is_pi : (l : Ty) (p : Fraction) → IsValueOf l (PartOfPi p) → is_pi l ≡ true
part_is_pi t.Pi p h = refl
part_is_pi _ p h = absurd h

or_left : (x y : Bool) → x ≡ true → (x || y) ≡ true
or_left true y e = refl
or_left false y e = absurd cc

or_right : (x y : Bool) → y ≡ true → (x || y) ≡ true
or_right true y e = refl
or_right false y e = e

truth_is_value : (o : Option Bool) (z : Value) → option_map Truth o ≡ Some z → IsValueOf t.Bool z
truth_is_value o z e = let (b, is) = map_cases Truth o z e in value_at t.Bool (Truth b) z tt is

compared_is_value : (o : BinaryOp) (p q : Fraction) (z : Value) → option_map Truth (test_on_numbers o (p.num *ℤ q.den) (q.num *ℤ p.den)) ≡ Some z → IsValueOf t.Bool z
compared_is_value o p q z e = truth_is_value (test_on_numbers o (p.num *ℤ q.den) (q.num *ℤ p.den)) z e

at_type : (m n : Ty) (z : Value) → m ≡ n → IsValueOf n z → IsValueOf m z
at_type m n z e h = let P : Ty → Type 0 = λ c. IsValueOf c z in subst P (sym e) h

times_nonzero : (a k : ℤ) → pos 1 ≤ℤ a → k ≢ pos 0 → a *ℤ k ≢ pos 0
times_nonzero (pos zero) k some nonzero e = absurd (omega (arith, ints))
times_nonzero (negsuc a) k some nonzero e = absurd (omega (arith, ints))
times_nonzero (pos (suc a)) (pos zero) some nonzero e = nonzero refl
times_nonzero (pos (suc a)) (pos (suc n)) some nonzero e = absurd (omega (arith, ints))
times_nonzero (pos (suc a)) (negsuc n) some nonzero e = absurd (omega (arith, ints))

some_nonzero : (a : ℤ) → pos 1 ≤ℤ a → a ≢ pos 0
some_nonzero a some e = absurd (omega (arith, ints))

divisor_cases : (k j : ℤ) → where_divisor k k ≡ Some j → j ≢ pos 0
divisor_cases k j e = by (int_eq k (pos 0)) refl e
  where
    by : (b : Bool) → int_eq k (pos 0) ≡ b → (if b then None else Some k) ≡ Some j → j ≢ pos 0
    by true test e = absurd cc
    by false test e =
        let same : k ≡ j = some_is k j e in
        λ none. let yes : int_eq k (pos 0) ≡ true = (Decides-int_eq k (pos 0)).1 (same ∙ none) in absurd cc

module _ (forms : LowestTerms) where
  part_is_value : (f : Fraction) (z : Value) → f.den ≢ pos 0 → part_in_range f ≡ Some z → IsValueOf t.Pi z
  part_is_value f z some e =
      let (small, is) = where_cases (is_small (in_lowest_terms f)) (PartOfPi (in_lowest_terms f)) z e in
      value_at t.Pi (PartOfPi (in_lowest_terms f)) z (forms.stands f some small) is

  parts_give_values : (o : BinaryOp) (m : Ty) (x y z : Value) → Fits (group_of o) m → IsLowest x → IsLowest y → result_on_parts o x y ≡ Some z → IsValueOf m z
  parts_give_values op.Add m (PartOfPi p) (PartOfPi q) z fits h k e =
      at_type m t.Pi z fits (part_is_value (sum_of p q) z (times_nonzero p.den q.den h.small.positive (some_nonzero q.den k.small.positive)) e)
  parts_give_values op.Add m _ _ z fits h k e = absurd cc
  parts_give_values op.Subtract m (PartOfPi p) (PartOfPi q) z fits h k e =
      at_type m t.Pi z fits (part_is_value (difference_of p q) z (times_nonzero p.den q.den h.small.positive (some_nonzero q.den k.small.positive)) e)
  parts_give_values op.Subtract m _ _ z fits h k e = absurd cc
  parts_give_values op.Multiply m (PartOfPi p) (Number n) z fits h k e = at_type m t.Pi z fits (part_is_value (product_of p n) z (some_nonzero p.den h.small.positive) e)
  parts_give_values op.Multiply m (Number n) (PartOfPi p) z fits h k e = at_type m t.Pi z fits (part_is_value (product_of p n) z (some_nonzero p.den k.small.positive) e)
  parts_give_values op.Multiply m _ _ z fits h k e = absurd cc
  parts_give_values op.Divide m (PartOfPi p) (Number n) z fits h k e =
      let (j, there, is) = then_cases (λ k. part_in_range (quotient_of p k)) (where_divisor n n) z e in
      at_type m t.Pi z fits (part_is_value (quotient_of p j) z (times_nonzero p.den j h.small.positive (divisor_cases n j there)) is)
  parts_give_values op.Divide m _ _ z fits h k e = absurd cc
  parts_give_values op.Equal m (PartOfPi p) (PartOfPi q) z fits h k e = at_type m t.Bool z fits (compared_is_value op.Equal p q z e)
  parts_give_values op.Equal m _ _ z fits h k e = absurd cc
  parts_give_values op.NotEqual m (PartOfPi p) (PartOfPi q) z fits h k e = at_type m t.Bool z fits (compared_is_value op.NotEqual p q z e)
  parts_give_values op.NotEqual m _ _ z fits h k e = absurd cc
  parts_give_values op.Less m (PartOfPi p) (PartOfPi q) z fits h k e = at_type m t.Bool z fits (compared_is_value op.Less p q z e)
  parts_give_values op.Less m _ _ z fits h k e = absurd cc
  parts_give_values op.LessEqual m (PartOfPi p) (PartOfPi q) z fits h k e = at_type m t.Bool z fits (compared_is_value op.LessEqual p q z e)
  parts_give_values op.LessEqual m _ _ z fits h k e = absurd cc
  parts_give_values op.Greater m (PartOfPi p) (PartOfPi q) z fits h k e = at_type m t.Bool z fits (compared_is_value op.Greater p q z e)
  parts_give_values op.Greater m _ _ z fits h k e = absurd cc
  parts_give_values op.GreaterEqual m (PartOfPi p) (PartOfPi q) z fits h k e = at_type m t.Bool z fits (compared_is_value op.GreaterEqual p q z e)
  parts_give_values op.GreaterEqual m _ _ z fits h k e = absurd cc
  parts_give_values _ m x y z fits h k e = absurd fits

  pub applied_is_value : (o : BinaryOp) (a b l r m : Ty) (u v : ℤ) (x y z : Value) → HasRow (group_of o) a u b v l r m → IsValueOf l x → IsValueOf r y → apply o m x y ≡ Some z → IsValueOf m z
  applied_is_value o a b l r m u v (PartOfPi p) y z h left right e =
      let fits = fits_from_row (group_of o) a b l r m u v h (or_left (is_pi l) (is_pi r) (part_is_pi l p left)) in
      parts_give_values o m (PartOfPi p) y z fits (lowest_from_value l (PartOfPi p) left) (lowest_from_value r y right) e
  applied_is_value o a b l r m u v x (PartOfPi q) z h left right e =
      let fits = fits_from_row (group_of o) a b l r m u v h (or_right (is_pi l) (is_pi r) (part_is_pi r q right)) in
      parts_give_values o m x (PartOfPi q) z fits (lowest_from_value l x left) (lowest_from_value r (PartOfPi q) right) e
  applied_is_value o a b l r t.Bool u v x y z h left right e = truth_is_value (test_on_numbers o (number_of x) (number_of y)) z e
  applied_is_value o a b l r m u v x y z h left right e =
      let (n, there, is) = then_cases (reduced_to m) (result_on_numbers o (number_of x) (number_of y)) z e in
      reduced_is_value m n z is

  pub result_is_value : (o : BinaryOp) (a b l r m : Ty) (u v : ℤ) (x y z : Value) → HasRow (group_of o) a u b v l r m → IsValueOf a x → IsValueOf b y → result_of o a x b y l r m ≡ Some z → IsValueOf m z
  result_is_value o a b l r m u v x y z h left right e =
      let (p, is_left, rest) = then_cases (λ p. option_and_then (apply o m p) (taken b y r)) (taken a x l) z e in
      let (q, is_right, is) = then_cases (apply o m p) (taken b y r) z rest in
      applied_is_value o a b l r m u v p q z h (taken_is_value a l x p left is_left) (taken_is_value b r y q right is_right) is

-- ---- unary operators

negated_number_is_value : (a m : Ty) (x z : Value) → is_pi a ≡ false → IsValueOf a x → apply_unary unary.Negate m x ≡ Some z → IsValueOf m z
negated_number_is_value a m (PartOfPi p) z plain h e = let part = part_is_pi a p h in absurd cc
negated_number_is_value a m x z plain h e = reduced_is_value m _ z e

module _ (negatives : (f : Fraction) → IsLowestTerms f → IsLowestTerms (negative_of f)) where
  negated_part_is_value : (x z : Value) → IsValueOf t.Pi x → apply_unary unary.Negate t.Pi x ≡ Some z → IsValueOf t.Pi z
  negated_part_is_value (PartOfPi p) z h e = value_at t.Pi (PartOfPi (negative_of p)) z (negatives p h) (some_is _ z e)
  negated_part_is_value _ z h e = absurd h

  pub unary_is_value : (o : UnaryOp) (a m : Ty) (v : ℤ) (x z : Value) → HasUnaryRow o a v m → IsValueOf a x → apply_unary o m x ≡ Some z → IsValueOf m z
  unary_is_value _ _ _ _ x z (row.NotOnCasts a v p) h e = value_at t.Bool _ z tt (some_is _ z e)
  unary_is_value _ _ _ _ x z (row.ComplementOfWord a v p) h e = reduced_is_value a (neg_ℤ (number_of x) -ℤ pos 1) z e
  unary_is_value _ _ _ _ x z (row.ComplementOfBit v) h e = reduced_is_value t.Bit (neg_ℤ (number_of x) -ℤ pos 1) z e
  unary_is_value _ _ _ _ x z (row.ComplementOfBits n v) h e = reduced_is_value (t.Bits n) (neg_ℤ (number_of x) -ℤ pos 1) z e
  unary_is_value _ _ _ _ x z (row.ComplementOfWhole v) h e = reduced_is_value t.Whole (neg_ℤ (number_of x) -ℤ pos 1) z e
  unary_is_value _ _ _ _ x z (row.NegativeOfWord a v p) h e = negated_number_is_value a a x z (word_is_no_part a p) h e
  unary_is_value _ _ _ _ x z (row.NegativeOfAngle n v) h e = negated_number_is_value (t.Angle n) (t.Angle n) x z refl h e
  unary_is_value _ _ _ _ x z (row.NegativeOfTurn v) h e = negated_number_is_value t.Turn t.Turn x z refl h e
  unary_is_value _ _ _ _ x z (row.NegativeOfWhole v) h e = negated_number_is_value t.Whole t.Whole x z refl h e
  unary_is_value _ _ _ _ x z (row.NegativeOfFraction v) h e = negated_part_is_value x z h e
