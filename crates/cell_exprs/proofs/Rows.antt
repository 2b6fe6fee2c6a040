-- Operators by the rows of the table: the parts have the value of the operator.
use Rattle.std.proofs.Common.{◌≡◌, ℕ, ◌⊎◌, ⊎_elim, Bool, true, false, nat_le, max, if◌then◌else◌, List, [], ◌∷◌, ℤ, Some, refl, sym, ap, ◌∙◌}
use Rattle.std.specs.Option.{option_map}
use Rattle.qasm_ast.specs.declared.expr.BinaryOp.{BinaryOp}
use Rattle.qasm_ast.specs.declared.expr.BinaryOp.TheVariants as op
use Rattle.qasm_types.specs.declared.ty.Ty.{Ty}
use Rattle.qasm_types.specs.declared.ty.Ty.TheVariants as t
use Rattle.qasm_types.specs.Types.{IsType, IsWord}
use Rattle.qasm_types.specs.Words.{MeetAt, TwoWords, ConstantRight, ConstantLeft, meeting, constant_beside, is_value_of}
use Rattle.qasm_types.specs.Operators as row
use Rattle.qasm_types.specs.Operators.{Group, Sum, Product, Quotient, Rest, Shift, Bitwise, Equality, Order, Logic, Power, HasRow, group_of, IsNumber, AnglesAt, AreConstants}
use Rattle.qasm_types.specs.Values.{Value, Truth, Register, PartOfPi, IsValueOf, number_of, test_on_numbers, apply}
use Rattle.qir_module.specs.Machine.{Holds}
use Rattle.core_ir.specs.Tree.{Expr, Op}
use Rattle.core_ir.specs.Run.{Cells, value_of}
use Rattle.cell_exprs.specs.Parts.{single_part, word_code, reduced_part, test_part, applied_parts}
use Rattle.cell_exprs.specs.Laws.{HaveValue, IsInCells, IsPlain, OperatorResult}
use Rattle.cell_exprs.proofs.Numbers.{WordLaws, values, single_value}
use Rattle.cell_exprs.proofs.Computing.{is_one_word, word_is_one, IsRing, IsNoPart, value_is_no_part, word_operator}
use Rattle.cell_exprs.proofs.Deciding.{IsComparison, IsEquality, IsConnective, int_test, uint_test, angle_test, turn_test, truth_test, connected_test, bits_test}
use Rattle.cell_exprs.proofs.Bitwise.{IsBitwise, truth_operator, register_operator}

-- ---- operators of a group

sum_ring : (o : BinaryOp) → group_of o ≡ Sum → IsRing o
sum_ring op.Add e = tt
sum_ring op.Subtract e = tt
sum_ring _ e = absurd cc

product_ring : (o : BinaryOp) → group_of o ≡ Product → IsRing o
product_ring op.Multiply e = tt
product_ring _ e = absurd cc

bitwise_ring : (o : BinaryOp) → group_of o ≡ Bitwise → IsRing o
bitwise_ring op.BitAnd e = tt
bitwise_ring op.BitOr e = tt
bitwise_ring op.BitXor e = tt
bitwise_ring _ e = absurd cc

is_bitwise : (o : BinaryOp) → group_of o ≡ Bitwise → IsBitwise o
is_bitwise op.BitAnd e = tt
is_bitwise op.BitOr e = tt
is_bitwise op.BitXor e = tt
is_bitwise _ e = absurd cc

is_equality : (o : BinaryOp) → group_of o ≡ Equality → IsEquality o
is_equality op.Equal e = tt
is_equality op.NotEqual e = tt
is_equality _ e = absurd cc

equality_compares : (o : BinaryOp) → IsEquality o → IsComparison o
equality_compares op.Equal e = tt
equality_compares op.NotEqual e = tt
equality_compares _ e = absurd e

order_compares : (o : BinaryOp) → group_of o ≡ Order → IsComparison o
order_compares op.Less e = tt
order_compares op.LessEqual e = tt
order_compares op.Greater e = tt
order_compares op.GreaterEqual e = tt
order_compares _ e = absurd cc

is_connective : (o : BinaryOp) → group_of o ≡ Logic → IsConnective o
is_connective op.And e = tt
is_connective op.Or e = tt
is_connective _ e = absurd cc

-- ---- types at which operands meet

either_word : (b : Bool) (x y : Ty) → IsWord x → IsWord y → IsWord (if b then x else y)
either_word true x y h k = h
either_word false x y h k = k

pub meeting_word : (a b : Ty) → IsWord a → IsWord b → IsWord (meeting a b)
meeting_word (t.Uint m) (t.Uint n) h k = tt
meeting_word (t.Uint m) (t.Int n) h k = either_word (nat_le n m) (t.Uint m) (t.Int n) tt tt
meeting_word (t.Int m) (t.Uint n) h k = either_word (nat_le m n) (t.Uint n) (t.Int m) tt tt
meeting_word (t.Int m) (t.Int n) h k = tt
meeting_word (t.Uint m) _ h k = absurd k
meeting_word (t.Int m) _ h k = absurd k
meeting_word _ b h k = absurd h

pub beside_word : (a : Ty) (v : ℤ) → IsWord a → IsWord (constant_beside a v)
beside_word a v h = either_word (is_value_of a v) a (if is_value_of (t.Int 64) v then t.Int 64 else t.Uint 64) h (either_word (is_value_of (t.Int 64) v) (t.Int 64) (t.Uint 64) tt tt)

pub met_is_word : (a b m : Ty) (u v : ℤ) → MeetAt a u b v m → IsWord m
met_is_word _ _ _ _ _ (TwoWords a b u v p q) = meeting_word a b p q
met_is_word _ _ _ _ _ (ConstantRight a u v p) = meeting_word a (constant_beside a v) p (beside_word a v p)
met_is_word _ _ _ _ _ (ConstantLeft b u v p) = meeting_word (constant_beside b u) b (beside_word b u p) p

met_word : (a b m : Ty) (u v : ℤ) → MeetAt a u b v m → is_one_word m ≡ true
met_word a b m u v h = word_is_one m (met_is_word a b m u v h)

pub word_in_cells : (m : Ty) → IsWord m → IsType m → IsInCells m
word_in_cells (t.Int n) w h = h
word_in_cells (t.Uint n) w h = h
word_in_cells _ w h = absurd w

number_word : (a : Ty) → IsNumber a → is_one_word a ≡ true
number_word (t.Int n) h = refl
number_word (t.Uint n) h = refl
number_word t.Whole h = refl
number_word _ h = absurd h

angles_word : (a b m : Ty) → AnglesAt a b m → is_one_word m ≡ true
angles_word _ _ _ (row.TwoAngles n) = refl
angles_word _ _ _ (row.AngleAndFraction n) = refl
angles_word _ _ _ (row.FractionAndAngle n) = refl

pub constants_not_in_cells : (a b m : Ty) → AreConstants a b m → IsInCells a ⊎ IsInCells b → ⊥
constants_not_in_cells _ _ _ row.TwoWholes h = ⊎_elim (λ x. absurd x) (λ x. absurd x) h
constants_not_in_cells _ _ _ row.TwoFractions h = ⊎_elim (λ x. absurd x) (λ x. absurd x) h

constant_result : (a b m : Ty) → AreConstants a b m → IsInCells m → ⊥
constant_result _ _ _ row.TwoWholes h = h
constant_result _ _ _ row.TwoFractions h = h

one_word_in_cells : (m : Ty) → is_one_word m ≡ true → IsInCells m → IsType m
one_word_in_cells t.Whole w h = absurd h
one_word_in_cells t.Pi w h = absurd h
one_word_in_cells _ w h = h

applied_test : (o : BinaryOp) (x y : Value) → IsNoPart x → IsNoPart y → apply o t.Bool x y ≡ option_map Truth (test_on_numbers o (number_of x) (number_of y))
applied_test o (PartOfPi p) y h k = absurd h
applied_test o x (PartOfPi q) h k = absurd k
applied_test o x y h k = refl

applied_word : (o : BinaryOp) (l m : Ty) (xs ys : List Expr) → is_one_word m ≡ true → applied_parts o l m xs ys ≡ reduced_part m (Op (word_code o m) (single_part xs) (single_part ys)) ∷ []
applied_word o l t.Bool xs ys w = absurd cc
applied_word o l t.Bit xs ys w = absurd cc
applied_word o l (t.Bits n) xs ys w = absurd cc
applied_word o l t.Pi xs ys w = absurd cc
applied_word o l _ xs ys w = refl

module _ (laws : WordLaws) (cells : Cells) where
  computed : (o : BinaryOp) (l r m : Ty) (x y : Value) (xs ys : List Expr) → IsRing o → is_one_word l ≡ true → is_one_word r ≡ true → is_one_word m ≡ true → IsType l → IsType r → IsInCells m
      → IsValueOf l x → IsValueOf r y → HaveValue cells xs x → HaveValue cells ys y → OperatorResult cells o m x y (applied_parts o l m xs ys)
  computed o l r m x y xs ys ring wl wr wm tl tr c vl vr p q =
      let (z, e, is) = word_operator laws cells o l r m x y xs ys ring wl wr tl tr c wm vl vr p q in
      (z, e, ap (values cells) (applied_word o l m xs ys wm) ∙ is)

  decided : (o : BinaryOp) (x y : Value) (e : Expr) → IsNoPart x → IsNoPart y → (b : Bool) × (test_on_numbers o (number_of x) (number_of y) ≡ Some b) × (value_of e cells ≡ Holds b)
      → OperatorResult cells o t.Bool x y (e ∷ [])
  decided o x y e h k (b, is, v) = (Truth b, applied_test o x y h k ∙ ap (option_map Truth) is, ap (λ w. w ∷ []) v)

  word_compared : (o : BinaryOp) (l : Ty) (x y : Value) (xs ys : List Expr) → IsComparison o → is_one_word l ≡ true → IsInCells l → IsValueOf l x → IsValueOf l y → HaveValue cells xs x → HaveValue cells ys y
      → OperatorResult cells o t.Bool x y (test_part o l xs ys ∷ [])
  word_compared o (t.Int n) x y xs ys h w c vx vy p q =
      decided o x y (test_part o (t.Int n) xs ys) (value_is_no_part (t.Int n) x w vx) (value_is_no_part (t.Int n) y w vy) (int_test laws cells o n x y xs ys h c vx vy p q)
  word_compared o (t.Uint n) x y xs ys h w c vx vy p q =
      decided o x y (test_part o (t.Uint n) xs ys) (value_is_no_part (t.Uint n) x w vx) (value_is_no_part (t.Uint n) y w vy) (uint_test laws cells o n x y xs ys h c vx vy p q)
  word_compared o (t.Angle n) x y xs ys h w c vx vy p q =
      decided o x y (test_part o (t.Angle n) xs ys) (value_is_no_part (t.Angle n) x w vx) (value_is_no_part (t.Angle n) y w vy) (angle_test laws cells o n x y xs ys h c vx vy p q)
  word_compared o t.Turn x y xs ys h w c vx vy p q =
      decided o x y (test_part o t.Turn xs ys) (value_is_no_part t.Turn x w vx) (value_is_no_part t.Turn y w vy) (turn_test laws cells o x y xs ys h vx vy p q)
  word_compared o t.Whole x y xs ys h w c vx vy p q = absurd c
  word_compared o _ x y xs ys h w c vx vy p q = absurd cc

  truth_compared : (o : BinaryOp) (x y : Value) (xs ys : List Expr) → IsEquality o → IsValueOf t.Bit x → IsValueOf t.Bit y → HaveValue cells xs x → HaveValue cells ys y → OperatorResult cells o t.Bool x y (test_part o t.Bit xs ys ∷ [])
  truth_compared o (Truth a) (Truth b) xs ys h vx vy p q =
      decided o (Truth a) (Truth b) (test_part o t.Bit xs ys) tt tt (truth_test laws cells o a b (single_part xs) (single_part ys) h (single_value cells xs (Holds a) p) (single_value cells ys (Holds b) q))
  truth_compared o (Truth a) _ xs ys h vx vy p q = absurd vy
  truth_compared o _ y xs ys h vx vy p q = absurd vx

  bits_compared : (o : BinaryOp) (n : ℕ) (x y : Value) (xs ys : List Expr) → IsEquality o → IsValueOf (t.Bits n) x → IsValueOf (t.Bits n) y → HaveValue cells xs x → HaveValue cells ys y
      → OperatorResult cells o t.Bool x y (test_part o (t.Bits n) xs ys ∷ [])
  bits_compared o n (Register as') (Register bs) xs ys h vx vy p q = decided o (Register as') (Register bs) (test_part o (t.Bits n) xs ys) tt tt (bits_test laws cells o as' bs xs ys h (vx ∙ sym vy) p q)
  bits_compared o n (Register as') _ xs ys h vx vy p q = absurd vy
  bits_compared o n _ y xs ys h vx vy p q = absurd vx

  connected : (o : BinaryOp) (x y : Value) (xs ys : List Expr) → IsConnective o → IsValueOf t.Bool x → IsValueOf t.Bool y → HaveValue cells xs x → HaveValue cells ys y → OperatorResult cells o t.Bool x y (test_part o t.Bool xs ys ∷ [])
  connected o (Truth a) (Truth b) xs ys h vx vy p q =
      decided o (Truth a) (Truth b) (test_part o t.Bool xs ys) tt tt (connected_test laws cells o a b (single_part xs) (single_part ys) h (single_value cells xs (Holds a) p) (single_value cells ys (Holds b) q))
  connected o (Truth a) _ xs ys h vx vy p q = absurd vy
  connected o _ y xs ys h vx vy p q = absurd vx

  bits_computed : (o : BinaryOp) (l : Ty) (n : ℕ) (x y : Value) (xs ys : List Expr) → IsBitwise o → IsValueOf (t.Bits n) x → IsValueOf (t.Bits n) y → HaveValue cells xs x → HaveValue cells ys y
      → OperatorResult cells o (t.Bits n) x y (applied_parts o l (t.Bits n) xs ys)
  bits_computed o l n (Register as') (Register bs) xs ys h vx vy p q = register_operator cells o n as' bs xs ys h vx vy p q
  bits_computed o l n (Register as') _ xs ys h vx vy p q = absurd vy
  bits_computed o l n _ y xs ys h vx vy p q = absurd vx

  truths_computed : (o : BinaryOp) (l : Ty) (x y : Value) (xs ys : List Expr) → IsBitwise o → IsValueOf t.Bit x → IsValueOf t.Bit y → HaveValue cells xs x → HaveValue cells ys y
      → OperatorResult cells o t.Bit x y (applied_parts o l t.Bit xs ys)
  truths_computed o l (Truth a) (Truth b) xs ys h vx vy p q = truth_operator cells o a b xs ys h p q
  truths_computed o l (Truth a) _ xs ys h vx vy p q = absurd vy
  truths_computed o l _ y xs ys h vx vy p q = absurd vx

  -- ---- the rows

  module _ (o : BinaryOp) (x y : Value) (xs ys : List Expr) (p : HaveValue cells xs x) (q : HaveValue cells ys y) where
    alike : (m : Ty) → IsRing o → is_one_word m ≡ true → IsInCells m → IsValueOf m x → IsValueOf m y → OperatorResult cells o m x y (applied_parts o m m xs ys)
    alike m ring w c vx vy = let ty = one_word_in_cells m w c in computed o m m m x y xs ys ring w w w ty ty c vx vy p q

    -- words that are compared where they meet
    met_compared : (a b m : Ty) (u v : ℤ) → MeetAt a u b v m → IsComparison o → IsType m → IsValueOf m x → IsValueOf m y → OperatorResult cells o t.Bool x y (applied_parts o m t.Bool xs ys)
    met_compared a b m u v h k ty vx vy =
        let w = met_is_word a b m u v h in
        word_compared o m x y xs ys k (word_is_one m w) (word_in_cells m w ty) vx vy p q

    angles_compared : (a b m : Ty) → AnglesAt a b m → IsComparison o → IsType m → IsValueOf m x → IsValueOf m y → OperatorResult cells o t.Bool x y (applied_parts o m t.Bool xs ys)
    angles_compared _ _ _ (row.TwoAngles n) k ty vx vy = word_compared o (t.Angle n) x y xs ys k refl ty vx vy p q
    angles_compared _ _ _ (row.AngleAndFraction n) k ty vx vy = word_compared o (t.Angle n) x y xs ys k refl ty vx vy p q
    angles_compared _ _ _ (row.FractionAndAngle n) k ty vx vy = word_compared o (t.Angle n) x y xs ys k refl ty vx vy p q

    pub row_value : (g : Group) (a b l r m : Ty) (u v : ℤ) → HasRow g a u b v l r m → group_of o ≡ g → IsPlain g → IsInCells a ⊎ IsInCells b → IsType l → IsType r → IsInCells m → IsValueOf l x → IsValueOf r y
        → OperatorResult cells o m x y (applied_parts o l m xs ys)
    row_value _ _ _ _ _ _ _ _ (row.SumOfWords a b m u v h) e plain run tl tr c vx vy = alike m (sum_ring o e) (met_word a b m u v h) c vx vy
    row_value _ _ _ _ _ _ _ _ (row.SumOfAngles a b m u v h) e plain run tl tr c vx vy = alike m (sum_ring o e) (angles_word a b m h) c vx vy
    row_value _ _ _ _ _ _ _ _ (row.SumOfTurns a b u v h) e plain run tl tr c vx vy = alike t.Turn (sum_ring o e) refl c vx vy
    row_value _ _ _ _ _ _ _ _ (row.SumOfConstants a b m u v h) e plain run tl tr c vx vy = absurd (constant_result a b m h c)
    row_value _ _ _ _ _ _ _ _ (row.ProductOfWords a b m u v h) e plain run tl tr c vx vy = alike m (product_ring o e) (met_word a b m u v h) c vx vy
    row_value _ _ _ _ _ _ _ _ (row.AngleTimes n b u v h) e plain run tl tr c vx vy = computed o (t.Angle n) b (t.Angle n) x y xs ys (product_ring o e) refl (number_word b h) refl tl tr c vx vy p q
    row_value _ _ _ _ _ _ _ _ (row.TimesAngle n a u v h) e plain run tl tr c vx vy = computed o a (t.Angle n) (t.Angle n) x y xs ys (product_ring o e) (number_word a h) refl refl tl tr c vx vy p q
    row_value _ _ _ _ _ _ _ _ (row.TurnTimes u v) e plain run tl tr c vx vy = computed o t.Turn t.Whole t.Turn x y xs ys (product_ring o e) refl refl refl tl tr c vx vy p q
    row_value _ _ _ _ _ _ _ _ (row.TimesTurn u v) e plain run tl tr c vx vy = computed o t.Whole t.Turn t.Turn x y xs ys (product_ring o e) refl refl refl tl tr c vx vy p q
    row_value _ _ _ _ _ _ _ _ (row.ProductOfWholes u v) e plain run tl tr c vx vy = absurd c
    row_value _ _ _ _ _ _ _ _ (row.FractionTimes u v) e plain run tl tr c vx vy = absurd c
    row_value _ _ _ _ _ _ _ _ (row.TimesFraction u v) e plain run tl tr c vx vy = absurd c
    row_value _ _ _ _ _ _ _ _ (row.QuotientOfWords a b m u v h) e plain run tl tr c vx vy = absurd plain
    row_value _ _ _ _ _ _ _ _ (row.AngleOver n b u v h) e plain run tl tr c vx vy = absurd plain
    row_value _ _ _ _ _ _ _ _ (row.TurnOver u v) e plain run tl tr c vx vy = absurd plain
    row_value _ _ _ _ _ _ _ _ (row.QuotientOfWholes u v) e plain run tl tr c vx vy = absurd plain
    row_value _ _ _ _ _ _ _ _ (row.FractionOver u v) e plain run tl tr c vx vy = absurd plain
    row_value _ _ _ _ _ _ _ _ (row.RestOfWords a b m u v h) e plain run tl tr c vx vy = absurd plain
    row_value _ _ _ _ _ _ _ _ (row.RestOfWholes u v) e plain run tl tr c vx vy = absurd plain
    row_value _ _ _ _ _ _ _ _ (row.Shifted a b u v h k) e plain run tl tr c vx vy = absurd plain
    row_value _ _ _ _ _ _ _ _ (row.ConstantShifted b u v h) e plain run tl tr c vx vy = absurd plain
    row_value _ _ _ _ _ _ _ _ (row.ShiftOfWholes u v) e plain run tl tr c vx vy = absurd plain
    row_value _ _ _ _ _ _ _ _ (row.BitwiseOnWords a b m u v h) e plain run tl tr c vx vy = alike m (bitwise_ring o e) (met_word a b m u v h) c vx vy
    row_value _ _ _ _ _ _ _ _ (row.BitwiseOnBits n u v) e plain run tl tr c vx vy = bits_computed o (t.Bits n) n x y xs ys (is_bitwise o e) vx vy p q
    row_value _ _ _ _ _ _ _ _ (row.BitwiseOnTruth a b u v h k) e plain run tl tr c vx vy = truths_computed o t.Bit x y xs ys (is_bitwise o e) vx vy p q
    row_value _ _ _ _ _ _ _ _ (row.TruthAndWord a b m u v h k) e plain run tl tr c vx vy = alike m (bitwise_ring o e) (met_word (t.Uint 1) b m u v k) c vx vy
    row_value _ _ _ _ _ _ _ _ (row.WordAndTruth a b m u v h k) e plain run tl tr c vx vy = alike m (bitwise_ring o e) (met_word a (t.Uint 1) m u v k) c vx vy
    row_value _ _ _ _ _ _ _ _ (row.BitwiseOnWholes u v) e plain run tl tr c vx vy = absurd c
    row_value _ _ _ _ _ _ _ _ (row.EqualWords a b m u v h) e plain run tl tr c vx vy = met_compared a b m u v h (equality_compares o (is_equality o e)) tl vx vy
    row_value _ _ _ _ _ _ _ _ (row.EqualTruth a b u v h k) e plain run tl tr c vx vy = truth_compared o x y xs ys (is_equality o e) vx vy p q
    row_value _ _ _ _ _ _ _ _ (row.EqualBits n u v) e plain run tl tr c vx vy = bits_compared o n x y xs ys (is_equality o e) vx vy p q
    row_value _ _ _ _ _ _ _ _ (row.EqualAngles a b m u v h) e plain run tl tr c vx vy = angles_compared a b m h (equality_compares o (is_equality o e)) tl vx vy
    row_value _ _ _ _ _ _ _ _ (row.EqualConstants a b m u v h) e plain run tl tr c vx vy = absurd (constants_not_in_cells a b m h run)
    row_value _ _ _ _ _ _ _ _ (row.OrderOfWords a b m u v h) e plain run tl tr c vx vy = met_compared a b m u v h (order_compares o e) tl vx vy
    row_value _ _ _ _ _ _ _ _ (row.OrderOfBits n u v h) e plain run tl tr c vx vy = word_compared o (t.Uint (max n 1)) x y xs ys (order_compares o e) refl tl vx vy p q
    row_value _ _ _ _ _ _ _ _ (row.OrderOfAngles a b m u v h) e plain run tl tr c vx vy = angles_compared a b m h (order_compares o e) tl vx vy
    row_value _ _ _ _ _ _ _ _ (row.OrderOfConstants a b m u v h) e plain run tl tr c vx vy = absurd (constants_not_in_cells a b m h run)
    row_value _ _ _ _ _ _ _ _ (row.EqualMixed n a b m u v h k) e plain run tl tr c vx vy = met_compared (t.Uint n) b m u v k (equality_compares o (is_equality o e)) tl vx vy
    row_value _ _ _ _ _ _ _ _ (row.MixedEqual n a b m u v h k) e plain run tl tr c vx vy = met_compared a (t.Uint n) m u v k (equality_compares o (is_equality o e)) tl vx vy
    row_value _ _ _ _ _ _ _ _ (row.OrderMixed n a b m u v h k) e plain run tl tr c vx vy = met_compared (t.Uint n) b m u v k (order_compares o e) tl vx vy
    row_value _ _ _ _ _ _ _ _ (row.MixedOrder n a b m u v h k) e plain run tl tr c vx vy = met_compared a (t.Uint n) m u v k (order_compares o e) tl vx vy
    row_value _ _ _ _ _ _ _ _ (row.LogicOnCasts a b u v h k) e plain run tl tr c vx vy = connected o x y xs ys (is_connective o e) vx vy p q
    row_value _ _ _ _ _ _ _ _ (row.PowerOfWholes u v) e plain run tl tr c vx vy = absurd plain
