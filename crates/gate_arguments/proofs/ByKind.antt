-- Arguments, by the kinds of the expressions that the code finds.
use Rattle.std.proofs.Common.{◌≡◌, ℕ, ◌+◌, ◌-◌, ◌<◌, ◌≤◌, Bool, true, false, not, ◌&&◌, ◌||◌, nat_lt, IsSome, IsTrue, List, [], slice_get, All, ℤ, Option, None, Some, Result, Ok, Err, IfOk, OnOk, refl, sym, ap, subst, ◌∙◌, arith}
use Rattle.std.specs.Option.{option_and_then}
use Rattle.std.proofs.lemmas.Bool.{ltb-true, ltb-false}
use Rattle.std.proofs.lemmas.Option.{get_or_from_slice_get, slice_get_within}
use Rattle.qq_base.specs.declared.refusal.Fault.{Fault}
use Rattle.qq_base.specs.declared.refusal.Refusal.{Refusal}
use Rattle.qq_base.specs.declared.refusal.Span.{Span}
use Rattle.qq_base.specs.declared.rule.Rule.TheVariants.{NoCast}
use Rattle.qasm_ast.specs.declared.expr.Base.{Base}
use Rattle.qasm_ast.specs.declared.expr.BinaryOp.{BinaryOp}
use Rattle.qasm_ast.specs.declared.expr.BinaryOp.TheVariants as op
use Rattle.qasm_ast.specs.declared.expr.UnaryOp.{UnaryOp}
use Rattle.qasm_ast.specs.Tree.{Tree, unary, binary, cast, Maybe, absent, present, place_of}
use Rattle.scope_env.specs.Scopes.{find}
use Rattle.const_eval.specs.Answers.{Answers, Fails}
use Rattle.const_eval.specs.Constant.{Constant}
use Rattle.const_eval.specs.ConstCast.{sized_type}
use Rattle.const_eval.specs.ConstOperators.{unary_result}
use Rattle.const_eval.specs.ConstantWalk.{constant_walk, type_walk}
use Rattle.const_eval.specs.IsConstant.{is_constant, is_constant_maybe}
use Rattle.const_eval.specs.Refusing.{refused}
use Rattle.const_eval.specs.Walk.{Walk, asked, behind, done}
use Rattle.gate_lists.specs.declared.budget.Budget.{Budget}
use Rattle.gate_lists.specs.declared.work.Work.{Work}
use Rattle.gate_lists.specs.Growing.{Grows}
use Rattle.gate_lists.specs.Paid.{AnswersWithin, paid_from, paid_asked, paid_behind, paid_behind_stops, paid_refused}
use Rattle.gate_arguments.specs.declared.scope.Argument.{Argument}
use Rattle.gate_arguments.specs.declared.scope.Argument.TheVariants as kind
use Rattle.gate_arguments.specs.declared.scope.Body.{Body}
use Rattle.gate_arguments.specs.declared.scope.Given.{Given}
use Rattle.gate_arguments.specs.declared.scope.Given.TheVariants as gives
use Rattle.gate_arguments.specs.Arguments.{argument_walk, counted, operand_of, turn_result}
use Rattle.gate_arguments.specs.Scope.{Scope}
use Rattle.gate_arguments.specs.Seen.{ArgumentFits, TurnsFit, argument_seen, is_turn_argument, parameter_turn, turn_in, turn_of_argument, width_walk}
use Rattle.gate_arguments.proofs.Arguing.{binary_done, binary_refused, inner_stops, left_stops, right_stops, turn_uncast, type_stops, unary_done, unary_refused, unary_stops}
use Rattle.gate_arguments.proofs.Constancy.{paid_constant}
use Rattle.gate_arguments.proofs.Paying.{paid_inverse, second_or}
use Rattle.gate_arguments.proofs.Turning.{grows_by, makes_none}

-- ---- what is left of a budget

left_by : {A : Type 0} (b b' : Budget) (cost : ℕ) (r : Result A Refusal) (a : A) (t : Bool) → nat_lt b.left cost ≡ t → paid_from b (behind cost (asked r)) ≡ Ok (a, b') → b'.left ≤ b.left
left_by b b' cost r a true over e = let wrong = sym (paid_behind_stops b cost (asked r) (ltb-true b.left cost over)) ∙ e in absurd cc
left_by b b' cost (Ok x) a false over e =
    let rest : Budget = record { left = b.left - cost; place = b.place } in
    let same : rest ≡ b' = ap (second_or b) (sym (paid_behind b cost (asked (Ok x)) (ltb-false b.left cost over) ∙ paid_asked rest x) ∙ e) in
    let left : b.left - cost ≡ b'.left = ap (λ (m : Budget). m.left) same in
    omega arith
left_by {A} b b' cost (Err refusal) a false over e =
    let wrong = sym (paid_behind {A = A} b cost (asked (Err refusal)) (ltb-false b.left cost over) ∙ paid_refused {A = A} (record { left = b.left - cost; place = b.place }) refusal) ∙ e in
    absurd cc

pub less_left : {A : Type 0} (b b' : Budget) (w : Walk A) (a : A) → paid_from b w ≡ Ok (a, b') → b'.left ≤ b.left
less_left b b' w a e =
    let cost : w.cost + 0 ≡ w.cost = omega arith in
    left_by b b' w.cost w.answer a (nat_lt b.left w.cost) refl (ap (λ (n : ℕ). paid_from b (record { cost = n; answer = w.answer })) cost ∙ e)

-- a walk that makes no turns
pub grows_paid : {A : Type 0} (old : Work) (b : Budget) (w : Walk A) (a : A) → paid_from old.budget w ≡ Ok (a, b) → Grows old (record { budget = b; turns = old.turns }) []
grows_paid old b w a e =
    let less = less_left old.budget b w a e in
    grows_by old (record { budget = b; turns = old.turns }) 0 (makes_none old.turns.items.items 0) (omega arith)

-- ---- more turns

pub argument_more : (m n : ℕ) (a : Argument) → m ≤ n → ArgumentFits m a → ArgumentFits n a
argument_more m n (kind.Constant c) le fits = tt
argument_more m n (kind.Turn k) le fits = omega arith

pub turns_more : (m n : ℕ) (body : Option Body) → m ≤ n → TurnsFit m body → TurnsFit n body
turns_more m n None le fits = fits
turns_more m n (Some b) le fits = λ k d lt. argument_more m n _ le (fits k d lt)

pub all_more : (m n : ℕ) (as' : List Argument) → m ≤ n → All (ArgumentFits m) as' → All (ArgumentFits n) as'
all_more m n as' le fits = λ k d lt. argument_more m n _ le (fits k d lt)

pub in_some_body : (turns : ℕ) (body : Option Body) → TurnsFit turns body → IsSome body
in_some_body turns None fits = absurd fits
in_some_body turns (Some b) fits = refl

fitting_turn : (turns k t : ℕ) (as' : List Argument) → All (ArgumentFits turns) as' → turn_of_argument (slice_get as' k) ≡ Some t → t < turns
fitting_turn turns k t as' fits e = by_case (slice_get as' k) refl e
  where
    inside : (j : ℕ) → slice_get as' k ≡ Some (kind.Turn j) → j < turns
    inside j is = subst (ArgumentFits turns) (get_or_from_slice_get as' k (kind.Turn j) (kind.Turn j) is) (fits k (kind.Turn j) (slice_get_within as' k (kind.Turn j) is))

    by_case : (o : Option Argument) → slice_get as' k ≡ o → turn_of_argument o ≡ Some t → t < turns
    by_case None is h = absurd cc
    by_case (Some (kind.Constant c)) is h = absurd cc
    by_case (Some (kind.Turn j)) is h = let same : j ≡ t = cc in subst (λ (n : ℕ). n < turns) same (inside j is)

given_turn : (turns t : ℕ) (as' : List Argument) (found : Option Given) → All (ArgumentFits turns) as' → option_and_then (parameter_turn as') found ≡ Some t → t < turns
given_turn turns t as' None fits e = absurd cc
given_turn turns t as' (Some (gives.Qubit q)) fits e = absurd cc
given_turn turns t as' (Some (gives.Argument k)) fits e = fitting_turn turns k t as' fits e

-- the turn of a parameter is one of so many
pub turn_inside : (turns : ℕ) (body : Option Body) (n t : ℕ) → TurnsFit turns body → turn_in body n ≡ Some t → t < turns
turn_inside turns None n t fits e = absurd fits
turn_inside turns (Some b) n t fits e = given_turn turns t b.arguments.now (find n b.given) fits e

-- ---- unary operators

module _ (sc : Scope) (t : Tree) (running : is_constant sc.means t ≡ false) (b : Budget) where
  module _ (o : UnaryOp) (a : Tree) (place : Span) (is : t ≡ unary o a place) where
    pub of_unary : is_constant sc.means (unary o a place) ≡ false
    of_unary = ap (is_constant sc.means) (sym is) ∙ running

    pub of_unary_stops : (why : Fault) → Fails why (paid_from b (argument_walk sc a)) → Fails why (paid_from b (argument_walk sc t))
    of_unary_stops why h = subst (λ (x : Tree). Fails why (paid_from b (argument_walk sc x))) (sym is) (unary_stops sc o a place of_unary b why h)

    module _ (b1 : Budget) (x : Constant) (paid : paid_from b (argument_walk sc a) ≡ Ok (x, b1)) where
      pub of_unary_refused : (why : Fault) → Fails why (unary_result o place x) → Fails why (paid_from b (argument_walk sc t))
      of_unary_refused why h = subst (λ (x : Tree). Fails why (paid_from b (argument_walk sc x))) (sym is) (unary_refused sc o a place of_unary b b1 x paid why h)

      pub of_unary_done : {C : Type 0} (y : Constant) (view : C → Constant × Budget) (result : Result C Fault) → unary_result o place x ≡ Ok y → Answers view result (paid_from b1 (counted (Ok y)))
          → Answers view result (paid_from b (argument_walk sc t))
      of_unary_done y view result e h = subst (λ (x : Tree). Answers view result (paid_from b (argument_walk sc x))) (sym is) (unary_done sc o a place of_unary b b1 x paid y view result e h)

  -- ---- binary operators

  module _ (o : BinaryOp) (l r : Tree) (place : Span) (is : t ≡ binary o l r place) where
    pub of_binary : is_constant sc.means (binary o l r place) ≡ false
    of_binary = ap (is_constant sc.means) (sym is) ∙ running

    pub of_left_stops : (why : Fault) → Fails why (paid_from b (operand_of o (constant_walk sc.means true l) (argument_walk sc l))) → Fails why (paid_from b (argument_walk sc t))
    of_left_stops why h = subst (λ (x : Tree). Fails why (paid_from b (argument_walk sc x))) (sym is) (left_stops sc o l r place of_binary b why h)

    module _ (b1 : Budget) (x : Constant) (left : paid_from b (operand_of o (constant_walk sc.means true l) (argument_walk sc l)) ≡ Ok (x, b1)) where
      pub of_right_stops : (why : Fault) → Fails why (paid_from b1 (operand_of o (constant_walk sc.means true r) (argument_walk sc r))) → Fails why (paid_from b (argument_walk sc t))
      of_right_stops why h = subst (λ (x : Tree). Fails why (paid_from b (argument_walk sc x))) (sym is) (right_stops sc o l r place of_binary b b1 x left why h)

      module _ (b2 : Budget) (y : Constant) (right : paid_from b1 (operand_of o (constant_walk sc.means true r) (argument_walk sc r)) ≡ Ok (y, b2)) (lp rp : Span) (lp-is : place_of l ≡ lp) (rp-is : place_of r ≡ rp) where
        placed : turn_result o place x (place_of l) y (place_of r) ≡ turn_result o place x lp y rp
        placed = ap (λ (s : Span). turn_result o place x s y (place_of r)) lp-is ∙ ap (λ (s : Span). turn_result o place x lp y s) rp-is

        pub of_binary_refused : (why : Fault) → Fails why (turn_result o place x lp y rp) → Fails why (paid_from b (argument_walk sc t))
        of_binary_refused why h = subst (λ (x : Tree). Fails why (paid_from b (argument_walk sc x))) (sym is)
            (binary_refused sc o l r place of_binary b b1 x left b2 y right why (subst (λ q. Fails why q) (sym placed) h))

        pub of_binary_done : {C : Type 0} (z : Constant) (view : C → Constant × Budget) (result : Result C Fault) → turn_result o place x lp y rp ≡ Ok z → Answers view result (paid_from b2 (counted (Ok z)))
            → Answers view result (paid_from b (argument_walk sc t))
        of_binary_done z view result e h = subst (λ (x : Tree). Answers view result (paid_from b (argument_walk sc x))) (sym is)
            (binary_done sc o l r place of_binary b b1 x left b2 y right z view result (placed ∙ e) h)

  -- ---- casts

  module _ (bs : Base) (width : Maybe) (type_place : Span) (a : Tree) (place : Span) (is : t ≡ cast bs width type_place a place) where
    pub of_cast : is_constant sc.means (cast bs width type_place a place) ≡ false
    of_cast = ap (is_constant sc.means) (sym is) ∙ running

    pub of_type_stops : (why : Fault) → Fails why (paid_from b (width_walk sc.means bs width type_place)) → Fails why (paid_from b (argument_walk sc t))
    of_type_stops why h = subst (λ (x : Tree). Fails why (paid_from b (argument_walk sc x))) (sym is) (type_stops sc bs width type_place a place of_cast b why h)

    module _ (b1 : Budget) (paid : paid_from b (width_walk sc.means bs width type_place) ≡ Ok (tt, b1)) where
      pub of_inner_stops : (why : Fault) → Fails why (paid_from b1 (argument_walk sc a)) → Fails why (paid_from b (argument_walk sc t))
      of_inner_stops why h = subst (λ (x : Tree). Fails why (paid_from b (argument_walk sc x))) (sym is) (inner_stops sc bs width type_place a place of_cast b b1 paid why h)

      -- a type that is paid for has a constant width
      width_constant : (w : Maybe) → paid_from b (width_walk sc.means bs w type_place) ≡ Ok (tt, b1) → is_constant_maybe sc.means w ≡ true
      width_constant absent h = refl
      width_constant (present e) h =
          let typed = paid_inverse b b1 (type_walk sc.means true bs type_place (present e)) (λ _. done {A = Unit {0}} tt) tt h in
          let known = paid_inverse b (typed.0).1 (constant_walk sc.means true e) (λ c. asked (sized_type bs type_place (place_of e) c)) (typed.0).0 typed.1 in
          paid_constant sc.means true b (known.0).1 e (known.0).0 known.1

      inner_running : is_constant sc.means a ≡ false
      inner_running = ap (λ (q : Bool). q && is_constant sc.means a) (sym (width_constant width paid)) ∙ of_cast

      pub of_turn_uncast : (worths : ℕ → ℤ) (b2 : Budget) (v : Argument) → is_turn_argument v ≡ not (is_constant sc.means a) → paid_from b1 (argument_walk sc a) ≡ Ok (argument_seen worths v, b2) → paid_from b (argument_walk sc t) ≡ refused NoCast place
      of_turn_uncast worths b2 (kind.Constant c) kept e = let wrong = kept ∙ ap not inner_running in absurd cc
      of_turn_uncast worths b2 (kind.Turn k) kept e = subst (λ (x : Tree). paid_from b (argument_walk sc x) ≡ refused NoCast place) (sym is) (turn_uncast sc bs width type_place a place of_cast b b1 paid b2 (worths k) e)

-- ---- operands

-- of two operands that are not both constant, one is a turn
pub one_is_turn : (a c : Argument) (l r : Bool) → is_turn_argument a ≡ not l → is_turn_argument c ≡ not r → l && r ≡ false → IsTrue (is_turn_argument a || is_turn_argument c)
one_is_turn (kind.Turn k) c l r p q e = refl
one_is_turn (kind.Constant a) (kind.Turn k) l r p q e = refl
one_is_turn (kind.Constant a) (kind.Constant c) true true p q e = absurd cc
one_is_turn (kind.Constant a) (kind.Constant c) false r p q e = absurd cc
one_is_turn (kind.Constant a) (kind.Constant c) true false p q e = absurd cc

-- any operator but `**`
pub any_operand : (o : BinaryOp) (constant any : Walk Constant) → (o ≡ op.Power → ⊥) → operand_of o constant any ≡ any
any_operand op.Power constant any differs = absurd (differs refl)
any_operand _ constant any differs = refl

-- ---- constants

-- a call that answers a walk makes no turns
pub grown_paid : {A B : Type 0} (old : Work) (b : Budget) (w : Walk B) (seen : A → B) (r : Result A Fault) → AnswersWithin old.budget b seen r w → OnOk r (Grows old (record { budget = b; turns = old.turns }) [])
grown_paid old b w seen (Ok a) h = grows_paid old b w (seen a) h
grown_paid old b w seen (Err why) h = tt

-- a constant is no turn
pub no_turn : (r : Result Argument Fault) (t : Bool) → t ≡ true → IfOk r (λ a. is_turn_argument a ≡ false) → IfOk r (λ a. is_turn_argument a ≡ not t)
no_turn (Ok a) t e h = h ∙ ap not (sym e)
no_turn (Err why) t e h = tt

pub no_turn_where : (r : Result Argument Fault) (t : Bool) → OnOk r (t ≡ true) → IfOk r (λ a. is_turn_argument a ≡ false) → IfOk r (λ a. is_turn_argument a ≡ not t)
no_turn_where (Ok a) t e h = h ∙ ap not (sym e)
no_turn_where (Err why) t e h = tt

-- an expression whose walk is that of a constant
pub walked_alike : (sc : Scope) (b : Budget) (why : Fault) (t x : Tree) → t ≡ x → argument_walk sc x ≡ constant_walk sc.means true x → Fails why (paid_from b (constant_walk sc.means true t)) → Fails why (paid_from b (argument_walk sc t))
walked_alike sc b why t x is same h =
    subst (λ (y : Tree). Fails why (paid_from b (argument_walk sc y))) (sym is) (subst (λ w. Fails why (paid_from b w)) (sym same) (subst (λ (y : Tree). Fails why (paid_from b (constant_walk sc.means true y))) is h))
