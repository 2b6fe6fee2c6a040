-- Arguments, kind by kind.
use Rattle.std.proofs.Common.{◌≡◌, ◌≢◌, ℕ, ◌+◌, Bool, true, false, List, length, ℤ, Result, Ok, Err, unsigned_abs, refl, sym, ap, subst, ◌∙◌}
use Rattle.qq_base.specs.declared.refusal.Fault.{Fault}
use Rattle.qq_base.specs.declared.refusal.Fault.TheVariants as fault
use Rattle.qq_base.specs.declared.refusal.Refusal.{Refusal}
use Rattle.qq_base.specs.declared.refusal.Span.{Span}
use Rattle.qq_base.specs.declared.rule.Rule.TheVariants.{NoCast, WidthRange, WrongKind}
use Rattle.qasm_ast.specs.declared.expr.Base.{Base}
use Rattle.qasm_ast.specs.declared.expr.Base.TheVariants as base
use Rattle.qasm_ast.specs.declared.expr.BinaryOp.{BinaryOp}
use Rattle.qasm_ast.specs.declared.expr.UnaryOp.{UnaryOp}
use Rattle.qasm_ast.specs.Tree.{Called, Tree, named, wire, number, truth, bit_string, unary, binary, cast, call, cut, Maybe, absent, present, Bracket, Brackets, no_bracket, a_bracket, place_of}
use Rattle.qasm_types.specs.Types.{cells_of}
use Rattle.qasm_types.specs.declared.ty.Ty.{Ty}
use Rattle.qasm_types.specs.declared.ty.Ty.TheVariants as t
use Rattle.const_eval.specs.Answers.{Answers, Fails}
use Rattle.const_eval.specs.Constant.{Constant, is_register, register_of}
use Rattle.const_eval.specs.ConstCast.{cast_of_constant, is_width, plain_type, sized_type, type_at, type_of_width, whole_at}
use Rattle.const_eval.specs.ConstOperators.{unary_result}
use Rattle.const_eval.specs.ConstantWalk.{constant_walk, indexes_walk, type_walk}
use Rattle.const_eval.specs.IsConstant.{is_constant}
use Rattle.const_eval.specs.Meaning.{Meaning}
use Rattle.const_eval.specs.Refusing.{go_on, refused, where_allowed}
use Rattle.const_eval.specs.ConstIndexes.{indexed_constant}
use Rattle.const_eval.specs.Walk.{Walk, asked, behind, done, then_walk}
use Rattle.gate_lists.specs.declared.budget.Budget.{Budget}
use Rattle.gate_lists.specs.Paid.{paid_from, paid_then, paid_stops, paid_asked, paid_refused, fails_then}
use Rattle.gate_arguments.specs.Arguments.{argument_walk, bracketed, called_value, counted, operand_of, selected_walk, turn_result}
use Rattle.gate_arguments.specs.Scope.{Scope, turn_of}
use Rattle.gate_arguments.specs.Seen.{cost_alone, width_walk}
use Rattle.gate_arguments.proofs.Constancy.{allowed_ok, go_ok}
use Rattle.gate_arguments.proofs.Paying.{asked_inverse, asked_stops, asked_then, cost_before, cost_before_stops, paid_inverse}

-- ---- which walk

-- a constant is walked as a constant
pub constant_branch : (sc : Scope) (a : Tree) → is_constant sc.means a ≡ true → argument_walk sc a ≡ constant_walk sc.means true a
constant_branch sc (named name index operand place) e = rw e refl
constant_branch sc (wire n place) e = refl
constant_branch sc (number n place) e = refl
constant_branch sc (truth b place) e = refl
constant_branch sc (bit_string bits place) e = refl
constant_branch sc (unary o a place) e = rw e refl
constant_branch sc (binary o a b place) e = rw e refl
constant_branch sc (cast base width type_place a place) e = rw e refl
constant_branch sc (call name as' place) e = refl
constant_branch sc cut e = refl

named_branch : (sc : Scope) (name : Called) (index : Brackets) (operand place : Span) → is_constant sc.means (named name index operand place) ≡ false
    → argument_walk sc (named name index operand place) ≡ then_walk (counted (go_on (called_value sc place name) (bracketed place index))) (λ c. selected_walk sc place index c)
named_branch sc name index operand place e = rw e refl

unary_branch : (sc : Scope) (o : UnaryOp) (a : Tree) (place : Span) → is_constant sc.means (unary o a place) ≡ false
    → argument_walk sc (unary o a place) ≡ then_walk (argument_walk sc a) (λ x. counted (unary_result o place x))
unary_branch sc o a place e = rw e refl

binary_branch : (sc : Scope) (o : BinaryOp) (a b : Tree) (place : Span) → is_constant sc.means (binary o a b place) ≡ false
    → argument_walk sc (binary o a b place) ≡ then_walk (operand_of o (constant_walk sc.means true a) (argument_walk sc a)) (λ x.
    then_walk (operand_of o (constant_walk sc.means true b) (argument_walk sc b)) (λ y. counted (turn_result o place x (place_of a) y (place_of b))))
binary_branch sc o a b place e = rw e refl

cast_branch : (sc : Scope) (base : Base) (width : Maybe) (type_place : Span) (a : Tree) (place : Span) → is_constant sc.means (cast base width type_place a place) ≡ false
    → argument_walk sc (cast base width type_place a place) ≡ then_walk (type_walk sc.means true base type_place width) (λ type.
    then_walk (argument_walk sc a) (λ x. counted (cast_of_constant x type place)))
cast_branch sc base width type_place a place e = rw e refl

-- ---- unary operators

module _ (sc : Scope) (o : UnaryOp) (a : Tree) (place : Span) (running : is_constant sc.means (unary o a place) ≡ false) (b : Budget) where
  pub unary_stops : (why : Fault) → Fails why (paid_from b (argument_walk sc a)) → Fails why (paid_from b (argument_walk sc (unary o a place)))
  unary_stops why h = subst (λ w. Fails why (paid_from b w)) (sym (unary_branch sc o a place running)) (fails_then b (argument_walk sc a) (λ x. counted (unary_result o place x)) why h)

  module _ (b1 : Budget) (x : Constant) (paid : paid_from b (argument_walk sc a) ≡ Ok (x, b1)) where
    unary_behind : paid_from b (argument_walk sc (unary o a place)) ≡ paid_from b1 (counted (unary_result o place x))
    unary_behind = ap (paid_from b) (unary_branch sc o a place running) ∙ paid_then b b1 (argument_walk sc a) (λ x. counted (unary_result o place x)) x paid

    pub unary_refused : (why : Fault) → Fails why (unary_result o place x) → Fails why (paid_from b (argument_walk sc (unary o a place)))
    unary_refused why h = subst (λ r. Fails why r) (sym unary_behind) (asked_stops b1 (unary_result o place x) _ why h)

    pub unary_done : {C : Type 0} (y : Constant) (view : C → Constant × Budget) (result : Result C Fault) → unary_result o place x ≡ Ok y → Answers view result (paid_from b1 (counted (Ok y)))
        → Answers view result (paid_from b (argument_walk sc (unary o a place)))
    unary_done y view result e h = subst (λ r. Answers view result r) (sym (unary_behind ∙ ap (λ r. paid_from b1 (counted r)) e)) h

-- ---- binary operators

module _ (sc : Scope) (o : BinaryOp) (l r : Tree) (place : Span) (running : is_constant sc.means (binary o l r place) ≡ false) (b : Budget) where
  abbrev operand : Tree → Walk Constant
  operand a = operand_of o (constant_walk sc.means true a) (argument_walk sc a)

  pub left_stops : (why : Fault) → Fails why (paid_from b (operand l)) → Fails why (paid_from b (argument_walk sc (binary o l r place)))
  left_stops why h = subst (λ w. Fails why (paid_from b w)) (sym (binary_branch sc o l r place running)) (fails_then b (operand l) _ why h)

  module _ (b1 : Budget) (x : Constant) (left : paid_from b (operand l) ≡ Ok (x, b1)) where
    left_behind : paid_from b (argument_walk sc (binary o l r place)) ≡ paid_from b1 (then_walk (operand r) (λ y. counted (turn_result o place x (place_of l) y (place_of r))))
    left_behind = ap (paid_from b) (binary_branch sc o l r place running) ∙ paid_then b b1 (operand l) _ x left

    pub right_stops : (why : Fault) → Fails why (paid_from b1 (operand r)) → Fails why (paid_from b (argument_walk sc (binary o l r place)))
    right_stops why h = subst (λ q. Fails why q) (sym left_behind) (fails_then b1 (operand r) _ why h)

    module _ (b2 : Budget) (y : Constant) (right : paid_from b1 (operand r) ≡ Ok (y, b2)) where
      right_behind : paid_from b (argument_walk sc (binary o l r place)) ≡ paid_from b2 (counted (turn_result o place x (place_of l) y (place_of r)))
      right_behind = left_behind ∙ paid_then b1 b2 (operand r) _ y right

      pub binary_refused : (why : Fault) → Fails why (turn_result o place x (place_of l) y (place_of r)) → Fails why (paid_from b (argument_walk sc (binary o l r place)))
      binary_refused why h = subst (λ q. Fails why q) (sym right_behind) (asked_stops b2 (turn_result o place x (place_of l) y (place_of r)) _ why h)

      pub binary_done : {C : Type 0} (z : Constant) (view : C → Constant × Budget) (result : Result C Fault) → turn_result o place x (place_of l) y (place_of r) ≡ Ok z
          → Answers view result (paid_from b2 (counted (Ok z))) → Answers view result (paid_from b (argument_walk sc (binary o l r place)))
      binary_done z view result e h = subst (λ q. Answers view result q) (sym (right_behind ∙ ap (λ q. paid_from b2 (counted q)) e)) h

-- ---- casts

-- a type of values is no turn
abbrev IsNoTurn : Ty → Type 0
IsNoTurn type = type ≡ t.Turn → ⊥

-- no turn is cast
no_cast : (w : ℤ) (type : Ty) (place : Span) → IsNoTurn type → cast_of_constant (turn_of w) type place ≡ refused NoCast place
no_cast w t.Turn place differs = absurd (differs refl)
no_cast w _ place differs = refl

typed : (bs : Base) (n : ℕ) (place : Span) (type : Ty) → type_at place (type_of_width bs n) ≡ Ok type → IsNoTurn type
typed base.Bool n place type e = λ h. cc
typed base.Bit n place type e = λ h. cc
typed base.Int n place type e = λ h. cc
typed base.Uint n place type e = λ h. cc
typed base.Angle n place type e = λ h. cc
typed base.Qubit n place type e = λ h. cc

plainly_typed : (bs : Base) (place : Span) (type : Ty) → type_at place (plain_type bs) ≡ Ok type → IsNoTurn type
plainly_typed base.Bool place type e = λ h. cc
plainly_typed base.Bit place type e = λ h. cc
plainly_typed base.Int place type e = λ h. cc
plainly_typed base.Uint place type e = λ h. cc
plainly_typed base.Angle place type e = λ h. cc
plainly_typed base.Qubit place type e = λ h. cc

-- a type that is written is no turn
pub written_no_turn : (means : List ℕ → Meaning) (bs : Base) (place : Span) (width : Maybe) (b new : Budget) (type : Ty) → paid_from b (type_walk means true bs place width) ≡ Ok (type, new) → IsNoTurn type
written_no_turn means bs place absent b new type h = plainly_typed bs place type (asked_inverse b new (type_at place (plain_type bs)) type h).0
written_no_turn means bs place (present a) b new type h =
    let known = paid_inverse b new (constant_walk means true a) (λ c. asked (sized_type bs place (place_of a) c)) type h in
    let c = (known.0).0 in
    let size = (asked_inverse (known.0).1 new (sized_type bs place (place_of a) c) type known.2).0 in
    let number = go_ok (whole_at (place_of a) c) (λ z. where_allowed (is_width bs z) WidthRange (place_of a) (type_at place (type_of_width bs (unsigned_abs z)))) type size in
    typed bs (unsigned_abs number.0) place type (allowed_ok (is_width bs number.0) WidthRange (place_of a) _ type number.2)

-- a type whose width is given has none of its own to break
pub plain_is : (bs : Base) (place : Span) (b : Budget) → bs ≢ base.Qubit → paid_from b (then_walk {B = Unit {0}} (asked (type_at place (plain_type bs))) (λ _. done tt)) ≡ Ok (tt, b)
plain_is base.Bool place b differs = asked_then {B = Unit {0}} b (Ok t.Bool) (λ _. done tt) t.Bool refl ∙ paid_asked {A = Unit {0}} b tt
plain_is base.Bit place b differs = asked_then {B = Unit {0}} b (Ok t.Bit) (λ _. done tt) t.Bit refl ∙ paid_asked {A = Unit {0}} b tt
plain_is base.Int place b differs = asked_then {B = Unit {0}} b (Ok (t.Int 32)) (λ _. done tt) (t.Int 32) refl ∙ paid_asked {A = Unit {0}} b tt
plain_is base.Uint place b differs = asked_then {B = Unit {0}} b (Ok (t.Uint 32)) (λ _. done tt) (t.Uint 32) refl ∙ paid_asked {A = Unit {0}} b tt
plain_is base.Angle place b differs = asked_then {B = Unit {0}} b (Ok (t.Angle 32)) (λ _. done tt) (t.Angle 32) refl ∙ paid_asked {A = Unit {0}} b tt
plain_is base.Qubit place b differs = absurd (differs refl)

dropped_by : {A : Type 0} (b : Budget) (w : Walk A) (why : Fault) (r : Result (A × Budget) Refusal) → paid_from b w ≡ r → Fails why (paid_from b (then_walk {B = Unit {0}} w (λ _. done tt))) → Fails why (paid_from b w)
dropped_by b w fault.Memory r e h = tt
dropped_by b w (fault.Refused refusal) (Ok x) e h = let differs = sym h ∙ (paid_then {B = Unit {0}} b x.1 w (λ _. done tt) x.0 e ∙ paid_asked {A = Unit {0}} x.1 tt) in absurd cc
dropped_by b w (fault.Refused refusal) (Err other) e h = let same = sym (paid_stops {B = Unit {0}} b w (λ _. done tt) other e) ∙ h in e ∙ ap Err cc

pub dropped_stops : {A : Type 0} (b : Budget) (w : Walk A) (why : Fault) → Fails why (paid_from b (then_walk {B = Unit {0}} w (λ _. done tt))) → Fails why (paid_from b w)
dropped_stops b w why h = dropped_by b w why (paid_from b w) refl h

module _ (sc : Scope) (bs : Base) (width : Maybe) (type_place : Span) (a : Tree) (place : Span) (running : is_constant sc.means (cast bs width type_place a place) ≡ false) (b : Budget) where
  pub type_stops : (why : Fault) → Fails why (paid_from b (width_walk sc.means bs width type_place)) → Fails why (paid_from b (argument_walk sc (cast bs width type_place a place)))
  type_stops why h = subst (λ w. Fails why (paid_from b w)) (sym (cast_branch sc bs width type_place a place running))
      (fails_then b (type_walk sc.means true bs type_place width) _ why (dropped_stops b (type_walk sc.means true bs type_place width) why h))

  module _ (b1 : Budget) (paid : paid_from b (width_walk sc.means bs width type_place) ≡ Ok (tt, b1)) where
    found : (x : Ty × Budget) × (paid_from b (type_walk sc.means true bs type_place width) ≡ Ok x) × (paid_from {A = Unit {0}} x.1 (done tt) ≡ Ok (tt, b1))
    found = paid_inverse b b1 (type_walk sc.means true bs type_place width) (λ _. done {A = Unit {0}} tt) tt paid

    cast_behind : paid_from b (argument_walk sc (cast bs width type_place a place)) ≡ paid_from b1 (then_walk (argument_walk sc a) (λ x. counted (cast_of_constant x (found.0).0 place)))
    cast_behind =
        ap (paid_from b) (cast_branch sc bs width type_place a place running)
        ∙ paid_then b (found.0).1 (type_walk sc.means true bs type_place width) (λ type. then_walk (argument_walk sc a) (λ x. counted (cast_of_constant x type place))) (found.0).0 found.1
        ∙ ap (λ (m : Budget). paid_from m (then_walk (argument_walk sc a) (λ x. counted (cast_of_constant x (found.0).0 place)))) (asked_inverse {A = Unit {0}} (found.0).1 b1 (Ok tt) tt found.2).1

    pub inner_stops : (why : Fault) → Fails why (paid_from b1 (argument_walk sc a)) → Fails why (paid_from b (argument_walk sc (cast bs width type_place a place)))
    inner_stops why h = subst (λ q. Fails why q) (sym cast_behind) (fails_then b1 (argument_walk sc a) _ why h)

    pub turn_uncast : (b2 : Budget) (w : ℤ) → paid_from b1 (argument_walk sc a) ≡ Ok (turn_of w, b2) → paid_from b (argument_walk sc (cast bs width type_place a place)) ≡ refused NoCast place
    turn_uncast b2 w e =
        let type = (found.0).0 in
        let differs = no_cast w type place (written_no_turn sc.means bs type_place width b (found.0).1 type found.1) in
        cast_behind ∙ paid_then b1 b2 (argument_walk sc a) (λ x. counted (cast_of_constant x type place)) (turn_of w) e
        ∙ ap (λ r. paid_from b2 (counted r)) differs ∙ paid_stops b2 (asked (refused {A = Constant} NoCast place)) (λ c. behind (1 + cells_of c.type) (done c)) (record { rule = NoCast; at = place }) (paid_refused b2 (record { rule = NoCast; at = place }))

-- ---- names

module _ (sc : Scope) (name : Called) (index : Brackets) (operand place : Span) (running : is_constant sc.means (named name index operand place) ≡ false) (b : Budget) where
  abbrev valued : Result Constant Refusal
  valued = go_on (called_value sc place name) (bracketed place index)

  named_is : paid_from b (argument_walk sc (named name index operand place)) ≡ paid_from b (then_walk (counted valued) (λ c. selected_walk sc place index c))
  named_is = ap (paid_from b) (named_branch sc name index operand place running)

  pub name_fails : (refusal : Refusal) → called_value sc place name ≡ Err refusal → paid_from b (argument_walk sc (named name index operand place)) ≡ Err refusal
  name_fails refusal e =
      named_is ∙ paid_stops b (counted valued) (λ c. selected_walk sc place index c) refusal
      (asked_stops b valued (λ c. behind (1 + cells_of c.type) (done c)) (fault.Refused refusal) (ap (λ r. go_on r (bracketed place index)) e))

module _ (sc : Scope) (name : Called) (operand place : Span) (b : Budget) where
  -- brackets behind what takes none
  pub name_takes_none : (x : Bracket) (xs : Brackets) (c : Constant) → is_constant sc.means (named name (a_bracket x xs) operand place) ≡ false → called_value sc place name ≡ Ok c → is_register c ≡ false
      → paid_from b (argument_walk sc (named name (a_bracket x xs) operand place)) ≡ refused WrongKind place
  name_takes_none x xs c running e differs =
      named_is sc name (a_bracket x xs) operand place running b ∙ paid_stops b (counted (valued sc name (a_bracket x xs) operand place running b)) (λ c. selected_walk sc place (a_bracket x xs) c) (record { rule = WrongKind; at = place })
      (asked_stops b (valued sc name (a_bracket x xs) operand place running b) (λ c. behind (1 + cells_of c.type) (done c)) (fault.Refused (record { rule = WrongKind; at = place }))
      (ap (λ r. go_on r (bracketed place (a_bracket x xs))) e ∙ ap (λ t. where_allowed t WrongKind place (Ok c)) differs))

  -- a turn alone
  pub name_is_turn : (new : Budget) (w : ℤ) → is_constant sc.means (named name no_bracket operand place) ≡ false → called_value sc place name ≡ Ok (turn_of w) → paid_from b (cost_alone 2) ≡ Ok (tt, new)
      → paid_from b (argument_walk sc (named name no_bracket operand place)) ≡ Ok (turn_of w, new)
  name_is_turn new w running e paid =
      named_is sc name no_bracket operand place running b
      ∙ paid_then b new (counted (valued sc name no_bracket operand place running b)) (λ c. done c) (turn_of w)
      (ap (λ r. paid_from b (counted (go_on r (bracketed place no_bracket)))) e ∙ asked_then b (Ok (turn_of w)) (λ c. behind (1 + cells_of c.type) (done c)) (turn_of w) refl ∙ cost_before b new 2 (turn_of w) paid)
      ∙ paid_asked new (turn_of w)

  pub turn_unpaid : (w : ℤ) (why : Fault) → is_constant sc.means (named name no_bracket operand place) ≡ false → called_value sc place name ≡ Ok (turn_of w) → Fails why (paid_from b (cost_alone 2))
      → Fails why (paid_from b (argument_walk sc (named name no_bracket operand place)))
  turn_unpaid w why running e h =
      subst (λ r. Fails why r) (sym (named_is sc name no_bracket operand place running b))
      (fails_then b (counted (valued sc name no_bracket operand place running b)) (λ c. done c) why
      (subst (λ r. Fails why (paid_from b (counted (go_on r (bracketed place no_bracket))))) (sym e)
      (subst (λ r. Fails why r) (sym (asked_then b (Ok (turn_of w)) (λ c. behind (1 + cells_of c.type) (done c)) (turn_of w) refl)) (cost_before_stops b 2 (turn_of w) why h))))

  -- bits of a constant, under an index that is not constant
  module _ (x : Bracket) (xs : Brackets) (bits : List Bool) (running : is_constant sc.means (named name (a_bracket x xs) operand place) ≡ false) (e : called_value sc place name ≡ Ok (register_of bits)) where
    bits_counted : (b1 : Budget) → paid_from b (cost_alone (1 + length bits)) ≡ Ok (tt, b1) → paid_from b (counted (valued sc name (a_bracket x xs) operand place running b)) ≡ Ok (register_of bits, b1)
    bits_counted b1 paid =
        ap (λ r. paid_from b (counted (go_on r (bracketed place (a_bracket x xs))))) e ∙ asked_then b (Ok (register_of bits)) (λ c. behind (1 + cells_of c.type) (done c)) (register_of bits) refl
        ∙ cost_before b b1 (1 + length bits) (register_of bits) paid

    pub bits_unpaid : (why : Fault) → Fails why (paid_from b (cost_alone (1 + length bits))) → Fails why (paid_from b (argument_walk sc (named name (a_bracket x xs) operand place)))
    bits_unpaid why h =
        subst (λ r. Fails why r) (sym (named_is sc name (a_bracket x xs) operand place running b))
        (fails_then b (counted (valued sc name (a_bracket x xs) operand place running b)) _ why
        (subst (λ r. Fails why (paid_from b (counted (go_on r (bracketed place (a_bracket x xs)))))) (sym e)
        (subst (λ r. Fails why r) (sym (asked_then b (Ok (register_of bits)) (λ c. behind (1 + cells_of c.type) (done c)) (register_of bits) refl)) (cost_before_stops b (1 + length bits) (register_of bits) why h))))

    pub indexes_stop : (b1 : Budget) (why : Fault) → paid_from b (cost_alone (1 + length bits)) ≡ Ok (tt, b1) → Fails why (paid_from b1 (indexes_walk sc.means true (a_bracket x xs)))
        → Fails why (paid_from b (argument_walk sc (named name (a_bracket x xs) operand place)))
    indexes_stop b1 why paid h =
        subst (λ r. Fails why r) (sym (named_is sc name (a_bracket x xs) operand place running b
        ∙ paid_then b b1 (counted (valued sc name (a_bracket x xs) operand place running b)) (λ c. selected_walk sc place (a_bracket x xs) c) (register_of bits) (bits_counted b1 paid)))
        (fails_then b1 (indexes_walk sc.means true (a_bracket x xs)) (λ values. counted (indexed_constant place (a_bracket x xs) (register_of bits) values)) why h)

-- ---- widths

sized_answers : {C : Type 0} (means : List ℕ → Meaning) (bs : Base) (type_place : Span) (a : Tree) (b b1 : Budget) (c : Constant) (result : Result C Fault) (s : Result Ty Refusal) → sized_type bs type_place (place_of a) c ≡ s
    → paid_from b (constant_walk means true a) ≡ Ok (c, b1) → Answers {B = Unit {0}} (λ _. tt) result (go_on {B = Unit {0}} s (λ _. Ok tt)) → Answers {B = Unit {0} × Budget} (λ _. (tt, b1)) result (paid_from b (width_walk means bs (present a) type_place))
sized_answers {C} means bs type_place a b b1 c result (Ok type) e paid h =
    let typed : paid_from b (type_walk means true bs type_place (present a)) ≡ Ok (type, b1) =
    paid_then b b1 (constant_walk means true a) (λ k. asked (sized_type bs type_place (place_of a) k)) c paid ∙ ap (λ r. paid_from b1 (asked r)) e ∙ paid_asked b1 type in
    let whole : paid_from b (width_walk means bs (present a) type_place) ≡ Ok (tt, b1) = paid_then b b1 (type_walk means true bs type_place (present a)) (λ _. done {A = Unit {0}} tt) type typed ∙ paid_asked {A = Unit {0}} b1 tt in
    subst (λ r. Answers {B = Unit {0} × Budget} (λ (_ : C). (tt, b1)) result r) (sym whole) (with_budget result b1 h)
  where
    with_budget : (result : Result C Fault) (b1 : Budget) → Answers {B = Unit {0}} (λ _. tt) result (Ok tt) → Answers {B = Unit {0} × Budget} (λ _. (tt, b1)) result (Ok (tt, b1))
    with_budget (Ok x) b1 h = refl
    with_budget (Err fault.Memory) b1 h = tt
    with_budget (Err (fault.Refused refusal)) b1 h = absurd cc
sized_answers {C} means bs type_place a b b1 c result (Err refused) e paid h =
    let typed : paid_from b (type_walk means true bs type_place (present a)) ≡ Err refused =
    paid_then b b1 (constant_walk means true a) (λ k. asked (sized_type bs type_place (place_of a) k)) c paid ∙ ap (λ r. paid_from b1 (asked r)) e ∙ paid_refused b1 refused in
    let whole : paid_from b (width_walk means bs (present a) type_place) ≡ Err refused = paid_stops b (type_walk means true bs type_place (present a)) (λ _. done {A = Unit {0}} tt) refused typed in
    subst (λ r. Answers {B = Unit {0} × Budget} (λ (_ : C). (tt, b1)) result r) (sym whole) (with_refusal result b1 refused h)
  where
    with_refusal : (result : Result C Fault) (b1 : Budget) (refused : Refusal) → Answers {B = Unit {0}} (λ _. tt) result (Err refused) → Answers {B = Unit {0} × Budget} (λ _. (tt, b1)) result (Err refused)
    with_refusal (Ok x) b1 refused h = absurd cc
    with_refusal (Err fault.Memory) b1 refused h = tt
    with_refusal (Err (fault.Refused refusal)) b1 refused h = ap Err cc

pub width_known : {C : Type 0} (means : List ℕ → Meaning) (bs : Base) (type_place : Span) (a : Tree) (b b1 : Budget) (c : Constant) (result : Result C Fault)
    → paid_from b (constant_walk means true a) ≡ Ok (c, b1) → Answers {B = Unit {0}} (λ _. tt) result (go_on {B = Unit {0}} (sized_type bs type_place (place_of a) c) (λ _. Ok tt)) → Answers {B = Unit {0} × Budget} (λ _. (tt, b1)) result (paid_from b (width_walk means bs (present a) type_place))
width_known means bs type_place a b b1 c result paid h = sized_answers means bs type_place a b b1 c result (sized_type bs type_place (place_of a) c) refl paid h

pub width_stops : (means : List ℕ → Meaning) (bs : Base) (type_place : Span) (a : Tree) (b : Budget) (why : Fault) → Fails why (paid_from b (constant_walk means true a)) → Fails why (paid_from b (width_walk means bs (present a) type_place))
width_stops means bs type_place a b why h =
    fails_then b (type_walk means true bs type_place (present a)) (λ _. done {A = Unit {0}} tt) why (fails_then b (constant_walk means true a) (λ k. asked (sized_type bs type_place (place_of a) k)) why h)
