-- Fractions of pi in lowest terms, and the rows of operators that take them.
use Rattle.std.proofs.Common.{◌||◌, FitsSigned, to_z, of_z, ◌≡◌, ◌≢◌, ◌↔◌, ◌⊎◌, inl, inr, zero, suc, Bool, true, false, cond, ℤ, pos, negsuc, ◌*ℤ◌, ◌≤ℤ◌, Option, Some, None, Result, Ok, Err, IfOk, IfErr, refl, subst, sym, ap, ◌∙◌, arith}
use Rattle.std.specs.Bool.{Decides}
use Rattle.std.specs.Int.{w128}
use Rattle.std.specs.Ordering.{int_eq}
use Rattle.std.proofs.lemmas.Bool.Decides.{Decides-int_eq}
use Rattle.std.proofs.lemmas.Int.{ints, to_z-of_z}
use Rattle.qq_base.specs.declared.refusal.Fault.{Fault}
use Rattle.qq_base.specs.declared.refusal.Refusal.{Refusal}
use Rattle.qq_base.specs.declared.refusal.Span.{Span}
use Rattle.qasm_ast.specs.declared.expr.BinaryOp.{BinaryOp}
use Rattle.qasm_ast.specs.declared.expr.BinaryOp.TheVariants as op
use Rattle.angle_arith.specs.Fraction.{Fraction, IsInRange, IsLowestTerms, IsSameFraction, product_of, quotient_of}
use Rattle.angle_arith.specs.Lowest.{LowestTerms, in_lowest_terms, is_small}
use Rattle.angle_arith.specs.declared.fraction.AngleRefusal.{AngleRefusal}
use Rattle.angle_arith.specs.declared.fraction.AngleRefusal.TheVariants.{Divide, Range}
use Rattle.qasm_types.specs.Operators.{group_of, Group, Product, Equality, Order}
use Rattle.qasm_types.specs.Plans.{casts}
use Rattle.qasm_types.specs.Values.{Value, Number, PartOfPi, is_constant, part_in_range, reduced_to, result_on_parts}
use Rattle.qasm_types.specs.Types.{IsWholeConstant}
use Rattle.qasm_types.specs.declared.ty.Ty.{Ty}
use Rattle.qasm_types.specs.declared.ty.Ty.TheVariants as t
use Rattle.const_eval.specs.declared.constant.WholeNumber.{WholeNumber}
use Rattle.const_eval.specs.declared.constant.Const.{Const}
use Rattle.const_eval.specs.declared.constant.Const.TheVariants as k
use Rattle.const_eval.specs.Answers.{Answers}
use Rattle.const_eval.specs.Constant.{Constant, whole_in}
use Rattle.const_eval.specs.ConstantRows.{ConstantRow, Tested, OnWholes, OnBits, OnAngles, AngleBy, ByAngle, OnParts, PartsTested, PartBy, ByPart, OnRegisters, RegistersEqual, RegisterShifted, IsRowOf, is_scaling, is_bitwise}
use Rattle.const_eval.specs.ConstOperators.{computed_at}
use Rattle.const_eval.specs.Numbered.{is_numbered}
use Rattle.const_eval.specs.Results.{constant_in_range}
use Rattle.const_eval.specs.Parted.{IsResult, has_part, is_pi, part_type, takes_parts}
use Rattle.const_eval.specs.Seen.{constant_of}

-- ---- results in lowest terms

part_where : (b : Bool) (p : Fraction) → b ≡ true → cond b (Some (PartOfPi p)) None ≡ Some (PartOfPi p)
part_where true p e = refl
part_where false p e = absurd cc

no_part_where : (b : Bool) (p : Fraction) → (b ≡ true → ⊥) → cond b (Some (PartOfPi p)) None ≡ None
no_part_where true p no_test = absurd (no_test refl)
no_part_where false p no_test = refl

-- the value for which a result stands
abbrev pub part_of_result : Result Fraction AngleRefusal → Option Value
part_of_result (Ok g) = Some (PartOfPi g)
part_of_result (Err e) = None

pub part_answer : LowestTerms → (f : Fraction) (r : Result Fraction AngleRefusal) → f.den ≢ pos 0 → IsResult f r → part_in_range f ≡ part_of_result r
part_answer laws f (Ok g) nonzero is =
    let e : g ≡ in_lowest_terms f = laws.alone f g nonzero is.1 is.0 in
    let small : is_small (in_lowest_terms f) ≡ true = (laws.in_range f nonzero).1 (g, is.1.small, is.0) in
    part_where (is_small (in_lowest_terms f)) (in_lowest_terms f) small ∙ ap (λ (x : Fraction). Some (PartOfPi x)) (sym e)
part_answer laws f (Err e) nonzero is = no_part_where (is_small (in_lowest_terms f)) (in_lowest_terms f) (λ small. is ((laws.in_range f nonzero).0 small))

pub is_result : (f : Fraction) (r : Result Fraction AngleRefusal) → IfOk r (λ g. IsSameFraction g f) → IfOk r IsLowestTerms → ((r ≡ Err Range) ↔ (IsInRange f → ⊥)) → IfErr r (λ e. e ≡ Range) → IsResult f r
is_result f (Ok g) same lowest range only = (same, lowest)
is_result f (Err e) same lowest range only = range.0 (ap Err only)

pub is_quotient : (f : Fraction) (number : ℤ) (r : Result Fraction AngleRefusal) → number ≢ pos 0 → IfOk r (λ g. IsSameFraction g f) → IfOk r IsLowestTerms
    → ((r ≡ Err Divide) ↔ (number ≡ pos 0)) → ((r ≡ Err Range) ↔ ((number ≢ pos 0) × (IsInRange f → ⊥))) → IfErr r (λ e. (e ≡ Divide) ⊎ (e ≡ Range)) → IsResult f r
is_quotient f number (Ok g) nonzero same lowest divide range only = (same, lowest)
is_quotient f number (Err e) nonzero same lowest divide range only = elim only [ inl d ↦ absurd (nonzero (divide.0 (ap Err d))) | inr q ↦ (range.0 (ap Err q)).1 ]

-- ---- whole constants

where_constant : (b : Bool) (z : ℤ) → b ≡ true → cond b (Some (Number z)) None ≡ Some (Number z)
where_constant true z e = refl
where_constant false z e = absurd cc

constant_test : (z : ℤ) → IsWholeConstant z → is_constant z ≡ true
constant_test z range = grind (arith, ints, range)

-- ---- denominators

pub positive_nonzero : (x : ℤ) → pos 1 ≤ℤ x → x ≢ pos 0
positive_nonzero x le e = omega (arith, ints, le, e)

pub product_nonzero : (x y : ℤ) → pos 1 ≤ℤ x → y ≢ pos 0 → x *ℤ y ≢ pos 0
product_nonzero x y le nonzero e = nonzero (zero_factor x y le e)
  where
    zero_factor : (x y : ℤ) → pos 1 ≤ℤ x → x *ℤ y ≡ pos 0 → y ≡ pos 0
    zero_factor (pos zero) y le e = absurd (omega (arith, ints, le))
    zero_factor (pos (suc n)) (pos zero) le e = refl
    zero_factor (pos (suc n)) (pos (suc m)) le e = absurd (omega (arith, ints, e))
    zero_factor (pos (suc n)) (negsuc m) le e = absurd (omega (arith, ints, e))
    zero_factor (negsuc n) y le e = absurd (omega (arith, ints, le))

-- ---- rows

no_number : (m : Ty) → is_numbered m ≡ true → m ≡ t.Pi → ⊥
no_number m e is = let no_pi = rw is at e in absurd cc

no_bit : (m : Ty) → is_bitwise m ≡ true → m ≡ t.Pi → ⊥
no_bit m e is = let no_pi = rw is at e in absurd cc

-- two fractions
pub record OfParts (g : Group) (m : Ty) : Type 0 where
  pub group : takes_parts g ≡ true
  pub type : m ≡ part_type g

pub two_parts : (g : Group) (l r m : Ty) → ConstantRow g l r m → l ≡ t.Pi → r ≡ t.Pi → OfParts g m
two_parts g l r m (Tested g' m' e number) left right = absurd (no_number m' number left)
two_parts g l r m (OnWholes g') left right = absurd cc
two_parts g l r m (OnBits m' e) left right = absurd (no_bit m' e left)
two_parts g l r m (OnAngles n) left right = absurd cc
two_parts g l r m (AngleBy g' n e) left right = absurd cc
two_parts g l r m (ByAngle n) left right = absurd cc
two_parts g l r m OnParts left right = record { group = refl; type = refl }
two_parts g l r m (PartsTested Equality e) left right = record { group = refl; type = refl }
two_parts g l r m (PartsTested Order e) left right = record { group = refl; type = refl }
two_parts g l r m (PartsTested _ e) left right = absurd cc
two_parts g l r m (PartBy g' e) left right = absurd cc
two_parts g l r m ByPart left right = absurd cc
two_parts g l r m (OnRegisters n) left right = absurd cc
two_parts g l r m (RegistersEqual n) left right = absurd cc
two_parts g l r m (RegisterShifted n) left right = absurd cc

-- a fraction and a whole number, either way
pub part_by_whole : (g : Group) (l r m : Ty) → ConstantRow g l r m → l ≡ t.Pi → r ≡ t.Whole → (is_scaling g ≡ true) × (m ≡ t.Pi)
part_by_whole g l r m (Tested g' m' e number) left right = absurd cc
part_by_whole g l r m (OnWholes g') left right = absurd cc
part_by_whole g l r m (OnBits m' e) left right = absurd cc
part_by_whole g l r m (OnAngles n) left right = absurd cc
part_by_whole g l r m (AngleBy g' n e) left right = absurd cc
part_by_whole g l r m (ByAngle n) left right = absurd cc
part_by_whole g l r m OnParts left right = absurd cc
part_by_whole g l r m (PartsTested g' e) left right = absurd cc
part_by_whole g l r m (PartBy g' e) left right = (e, refl)
part_by_whole g l r m ByPart left right = absurd cc
part_by_whole g l r m (OnRegisters n) left right = absurd cc
part_by_whole g l r m (RegistersEqual n) left right = absurd cc
part_by_whole g l r m (RegisterShifted n) left right = absurd cc

pub whole_by_part : (g : Group) (l r m : Ty) → ConstantRow g l r m → l ≡ t.Whole → r ≡ t.Pi → (g ≡ Product) × (m ≡ t.Pi)
whole_by_part g l r m (Tested g' m' e number) left right = absurd cc
whole_by_part g l r m (OnWholes g') left right = absurd cc
whole_by_part g l r m (OnBits m' e) left right = absurd cc
whole_by_part g l r m (OnAngles n) left right = absurd cc
whole_by_part g l r m (AngleBy g' n e) left right = absurd cc
whole_by_part g l r m (ByAngle n) left right = absurd cc
whole_by_part g l r m OnParts left right = absurd cc
whole_by_part g l r m (PartsTested g' e) left right = absurd cc
whole_by_part g l r m (PartBy g' e) left right = absurd cc
whole_by_part g l r m ByPart left right = (refl, refl)
whole_by_part g l r m (OnRegisters n) left right = absurd cc
whole_by_part g l r m (RegistersEqual n) left right = absurd cc
whole_by_part g l r m (RegisterShifted n) left right = absurd cc

-- a fraction or a whole number
abbrev pub IsPartOrWhole : Ty → Type 0
IsPartOrWhole l = (l ≡ t.Pi) ⊎ (l ≡ t.Whole)

number_is_no_part : (m : Ty) → is_numbered m ≡ true → (is_pi m || is_pi m) ≡ true → ⊥
number_is_no_part t.Pi number has = cc
number_is_no_part _ number has = cc

bit_is_no_part : (m : Ty) → is_bitwise m ≡ true → (is_pi m || is_pi m) ≡ true → ⊥
bit_is_no_part t.Pi bit has = cc
bit_is_no_part _ bit has = cc

pub sides : (g : Group) (l r m : Ty) → ConstantRow g l r m → (is_pi l || is_pi r) ≡ true → IsPartOrWhole l × IsPartOrWhole r
sides g l r m (Tested g' m' e number) has = absurd (number_is_no_part m' number has)
sides g l r m (OnWholes g') has = absurd cc
sides g l r m (OnBits m' e) has = absurd (bit_is_no_part m' e has)
sides g l r m (OnAngles n) has = absurd cc
sides g l r m (AngleBy g' n e) has = absurd cc
sides g l r m (ByAngle n) has = absurd cc
sides g l r m OnParts has = (inl refl, inl refl)
sides g l r m (PartsTested g' e) has = (inl refl, inl refl)
sides g l r m (PartBy g' e) has = (inl refl, inr refl)
sides g l r m ByPart has = (inr refl, inl refl)
sides g l r m (OnRegisters n) has = absurd cc
sides g l r m (RegistersEqual n) has = absurd cc
sides g l r m (RegisterShifted n) has = absurd cc

-- the type at which such a constant is taken
abbrev pub Side : Const → Ty → Type 0
Side (k.Pi f) l = l ≡ t.Pi
Side (k.Whole w) l = l ≡ t.Whole
Side _ l = ⊥

at_part : (c : Const) (z : ℤ) → casts (constant_of c).type z t.Pi ≡ true → Side c t.Pi
at_part (k.Whole w) z e = absurd cc
at_part (k.Pi f) z e = refl
at_part (k.Bool b) z e = absurd cc
at_part (k.Bits bits) z e = absurd cc
at_part (k.Angle a) z e = absurd cc

at_whole : (c : Const) (z : ℤ) → casts (constant_of c).type z t.Whole ≡ true → Side c t.Whole
at_whole (k.Whole w) z e = refl
at_whole (k.Pi f) z e = absurd cc
at_whole (k.Bool b) z e = absurd cc
at_whole (k.Bits bits) z e = absurd cc
at_whole (k.Angle a) z e = absurd cc

pub side_of : (c : Const) (l : Ty) (z : ℤ) → casts (constant_of c).type z l ≡ true → IsPartOrWhole l → Side c l
side_of c l z e kind = elim kind [ inl is ↦ rw is (at_part c z (rw is at e)) | inr is ↦ rw is (at_whole c z (rw is at e)) ]

pub no_side : (c : Const) (l : Ty) → ((f : Fraction) → c ≡ k.Pi f → ⊥) → ((w : WholeNumber) → c ≡ k.Whole w → ⊥) → Side c l → ⊥
no_side (k.Whole w) l part number side = number w refl
no_side (k.Pi f) l part number side = part f refl
no_side (k.Bool b) l part number side = side
no_side (k.Bits bits) l part number side = side
no_side (k.Angle a) l part number side = side

-- ---- what is computed

-- a whole constant is taken as it is
pub whole_taken : (w : WholeNumber) → reduced_to t.Whole w.number ≡ Some (Number w.number)
whole_taken w = where_constant (is_constant w.number) w.number (constant_test w.number w.in_range)

-- a product has its factors in either order
either_way : (o : BinaryOp) (z : ℤ) (p : Fraction) → group_of o ≡ Product → result_on_parts o (Number z) (PartOfPi p) ≡ result_on_parts o (PartOfPi p) (Number z)
either_way op.Multiply z p e = refl
either_way _ z p e = absurd cc

module _ (o : BinaryOp) (place left right : Span) (x y : Const) (l r m : Ty) (row : IsRowOf o (constant_of x) (constant_of y) (l, r, m)) (part : has_part (l, r, m) ≡ true) where
  pub left_side : Side x l
  left_side = side_of x l (whole_in (constant_of x)) row.1 (sides (group_of o) l r m row.0 part).0

  pub right_side : Side y r
  right_side = side_of y r (whole_in (constant_of y)) row.2 (sides (group_of o) l r m row.0 part).1

  abbrev pub due : Result Constant Refusal
  due = computed_at o place (constant_of x) left (constant_of y) right (l, r, m)

  module _ (p q : Fraction) (is_x : x ≡ k.Pi p) (is_y : y ≡ k.Pi q) where
    of_parts : OfParts (group_of o) m
    of_parts = two_parts (group_of o) l r m row.0 (rw is_x at left_side) (rw is_y at right_side)

    pub parts_group : takes_parts (group_of o) ≡ true
    parts_group = of_parts.group

    pub parts_computed : due ≡ constant_in_range place (part_type (group_of o)) (result_on_parts o (PartOfPi p) (PartOfPi q))
    parts_computed = let l_is = rw is_x at left_side in let r_is = rw is_y at right_side in rw (is_x, is_y, l_is, r_is, of_parts.type) refl

  module _ (p : Fraction) (w : WholeNumber) (is_x : x ≡ k.Pi p) (is_y : y ≡ k.Whole w) where
    by_whole : (is_scaling (group_of o) ≡ true) × (m ≡ t.Pi)
    by_whole = part_by_whole (group_of o) l r m row.0 (rw is_x at left_side) (rw is_y at right_side)

    pub by_whole_group : is_scaling (group_of o) ≡ true
    by_whole_group = by_whole.0

    pub by_whole_computed : due ≡ constant_in_range place t.Pi (result_on_parts o (PartOfPi p) (Number w.number))
    by_whole_computed = let l_is = rw is_x at left_side in let r_is = rw is_y at right_side in rw (is_x, is_y, l_is, r_is, by_whole.1, whole_taken w) refl

  module _ (w : WholeNumber) (p : Fraction) (is_x : x ≡ k.Whole w) (is_y : y ≡ k.Pi p) where
    by_part : (group_of o ≡ Product) × (m ≡ t.Pi)
    by_part = whole_by_part (group_of o) l r m row.0 (rw is_x at left_side) (rw is_y at right_side)

    pub by_part_group : is_scaling (group_of o) ≡ true
    by_part_group = rw by_part.0 refl

    pub by_part_computed : due ≡ constant_in_range place t.Pi (result_on_parts o (PartOfPi p) (Number w.number))
    by_part_computed = let l_is = rw is_x at left_side in let r_is = rw is_y at right_side in rw (is_x, is_y, l_is, r_is, by_part.1, whole_taken w) (ap (constant_in_range place t.Pi) (either_way o w.number p by_part.0))

-- the number of a whole constant is the same behind its bits
pub through_bits : (result : Result Const Fault) (o : BinaryOp) (place : Span) (p : Fraction) (w : WholeNumber)
    → Answers constant_of result (constant_in_range place t.Pi (result_on_parts o (PartOfPi p) (Number (to_z w128 (of_z w128 w.number)))))
    → Answers constant_of result (constant_in_range place t.Pi (result_on_parts o (PartOfPi p) (Number w.number)))
through_bits result o place p w h = let fits : FitsSigned w128 w.number = omega (arith, ints, w.in_range) in rw (to_z-of_z w128 w.number fits) at h

-- ---- products and quotients

-- a whole number behind its bits
abbrev pub behind_bits : ℤ → ℤ
behind_bits z = to_z w128 (of_z w128 z)

pub bits_nonzero : (z : ℤ) → FitsSigned w128 z → (of_z w128 z ≡ 0 → ⊥) → behind_bits z ≢ pos 0
bits_nonzero z fits nonzero e = nonzero (ap (of_z w128) (sym (to_z-of_z w128 z fits) ∙ e))

product_only : (o : BinaryOp) (p : Fraction) (z : ℤ) → is_scaling (group_of o) ≡ true → (o ≡ op.Divide → ⊥) → result_on_parts o (PartOfPi p) (Number z) ≡ part_in_range (product_of p z)
product_only op.Multiply p z scaling other = refl
product_only op.Divide p z scaling other = absurd (other refl)
product_only _ p z scaling other = absurd cc

pub product_answer : (result : Result Const Fault) (o : BinaryOp) (place : Span) (p : Fraction) (z : ℤ) → FitsSigned w128 z → is_scaling (group_of o) ≡ true → (o ≡ op.Divide → ⊥)
    → Answers constant_of result (constant_in_range place t.Pi (part_in_range (product_of p (behind_bits z))))
    → Answers constant_of result (constant_in_range place t.Pi (result_on_parts o (PartOfPi p) (Number z)))
product_answer result o place p z fits scaling other h =
    let same : Answers constant_of result (constant_in_range place t.Pi (part_in_range (product_of p z))) = subst (λ (n : ℤ). Answers constant_of result (constant_in_range place t.Pi (part_in_range (product_of p n)))) (to_z-of_z w128 z fits) h in
    subst (λ (v : Option Value). Answers constant_of result (constant_in_range place t.Pi v)) (sym (product_only o p z scaling other)) same

int_eq_false : (a b : ℤ) → a ≢ b → int_eq a b ≡ false
int_eq_false a b differ = by (int_eq a b) (Decides-int_eq a b)
  where
    by : (test : Bool) → Decides test (a ≡ b) → test ≡ false
    by true d = absurd (differ (d.0 refl))
    by false d = refl

pub quotient_answer : (result : Result Const Fault) (place : Span) (p : Fraction) (z : ℤ) → FitsSigned w128 z → (of_z w128 z ≡ 0 → ⊥)
    → Answers constant_of result (constant_in_range place t.Pi (part_in_range (quotient_of p (behind_bits z))))
    → Answers constant_of result (constant_in_range place t.Pi (result_on_parts op.Divide (PartOfPi p) (Number z)))
quotient_answer result place p z fits nonzero h =
    let same : Answers constant_of result (constant_in_range place t.Pi (part_in_range (quotient_of p z))) = subst (λ (n : ℤ). Answers constant_of result (constant_in_range place t.Pi (part_in_range (quotient_of p n)))) (to_z-of_z w128 z fits) h in
    let other : int_eq z (pos 0) ≡ false = int_eq_false z (pos 0) (λ e. nonzero (ap (of_z w128) e)) in
    rw other same
