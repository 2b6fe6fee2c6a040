-- How many arguments a call has whose arguments were walked.
use Rattle.std.proofs.Common.{◌≡◌, ℕ, suc, Bool, true, false, nat_lt, List, [], ◌∷◌, length, ℤ, Result, Ok, Err, refl, sym, ap, ◌∙◌, arith}
use Rattle.std.proofs.lemmas.List.{length-map}
use Rattle.qq_base.specs.declared.refusal.Refusal.{Refusal}
use Rattle.qasm_ast.specs.declared.expr.ExprId.{ExprId}
use Rattle.qasm_ast.specs.View.{tree_in, trees_in}
use Rattle.qasm_ast.specs.Whole.{Source}
use Rattle.const_eval.specs.Constant.{Constant}
use Rattle.const_eval.specs.Walk.{Walk, done, then_walk}
use Rattle.gate_lists.specs.declared.budget.Budget.{Budget}
use Rattle.gate_lists.specs.Paid.{paid_from}
use Rattle.gate_arguments.specs.declared.scope.Argument.{Argument}
use Rattle.gate_arguments.specs.Arguments.{argument_walk, arguments_walk}
use Rattle.gate_arguments.specs.Scope.{Scope}
use Rattle.gate_arguments.specs.Seen.{argument_seen, arguments_seen}

-- the answer of a walk that was paid
abbrev value_of : {A : Type 0} → A → Result (A × Budget) Refusal → A
value_of otherwise (Ok x) = x.0
value_of otherwise (Err e) = otherwise

answer_by : {A : Type 0} (b b' : Budget) (cost : ℕ) (answer : Result A Refusal) (a : A) (t : Bool) → nat_lt b.left cost ≡ t → paid_from b (record { cost = cost; answer = answer }) ≡ Ok (a, b') → answer ≡ Ok a
unfolding paid_from
answer_by b b' cost answer a true q e = let wrong = rw q at e in absurd cc
answer_by b b' cost (Err refusal) a false q e = let wrong = rw q at e in absurd cc
answer_by b b' cost (Ok found) a false q e =
    let paid = rw q at e in
    ap Ok (ap (value_of a) paid)

answer_of : {A : Type 0} (b b' : Budget) (w : Walk A) (a : A) → paid_from b w ≡ Ok (a, b') → w.answer ≡ Ok a
answer_of b b' w a e = answer_by b b' w.cost w.answer a (nat_lt b.left w.cost) refl e

module _ (n : ℕ) where
  rest_count : (c : Constant) (cost : ℕ) (r : Result (List Constant) Refusal) (cs : List Constant) → ((ds : List Constant) → r ≡ Ok ds → length ds ≡ n)
      → (then_walk (record { cost = cost; answer = r }) (λ (ds : List Constant). done (c ∷ ds))).answer ≡ Ok cs → length cs ≡ suc n
  rest_count c cost (Err refusal) cs count e = absurd cc
  rest_count c cost (Ok ds) cs count e =
      let same : c ∷ ds ≡ cs = cc in
      let later = count ds refl in
      rw (← same) (omega (arith, later))

  first_count : (cost : ℕ) (r : Result Constant Refusal) (w : Walk (List Constant)) (cs : List Constant) → ((ds : List Constant) → w.answer ≡ Ok ds → length ds ≡ n)
      → (then_walk (record { cost = cost; answer = r }) (λ c. then_walk w (λ (ds : List Constant). done (c ∷ ds)))).answer ≡ Ok cs → length cs ≡ suc n
  first_count cost (Err refusal) w cs count e = absurd cc
  first_count cost (Ok c) w cs count e = rest_count c w.cost w.answer cs count e

walked_count : (p : Source) (scope : Scope) (ids : List ExprId) (cs : List Constant) → (arguments_walk scope (trees_in p ids)).answer ≡ Ok cs → length cs ≡ length ids
walked_count p scope [] cs e = let none : [] ≡ cs = cc in rw (← none) refl
walked_count p scope (id ∷ ids) cs e =
    let w = argument_walk scope (tree_in p id.0) in
    first_count (length ids) w.cost w.answer (arguments_walk scope (trees_in p ids)) cs (walked_count p scope ids) e

-- as many arguments as are written
pub arguments_count : (p : Source) (scope : Scope) (worths : ℕ → ℤ) (ids : List ExprId) (arguments : List Argument) (b b' : Budget)
    → paid_from b (arguments_walk scope (trees_in p ids)) ≡ Ok (arguments_seen worths arguments, b') → length arguments ≡ length ids
arguments_count p scope worths ids arguments b b' e =
    sym (length-map arguments (argument_seen worths))
    ∙ walked_count p scope ids (arguments_seen worths arguments) (answer_of b b' (arguments_walk scope (trees_in p ids)) (arguments_seen worths arguments) e)
