-- The walk of a call, step by step.
use Rattle.std.proofs.Common.{◌≡◌, ◌≢◌, ℕ, ◌+◌, ◌-◌, nat_eq, min, true, false, List, [], ◌∷◌, length, map, slice_get, Option, Some, Result, Ok, Err, refl, sym, ap, ◌∙◌, add-zero, zero-add, arith}
use Rattle.std.proofs.lemmas.List.{length-map}
use Rattle.std.proofs.lemmas.Bool.{eq-eqb, ne_eqb}
use Rattle.qq_base.specs.declared.refusal.Fault.{Fault}
use Rattle.qq_base.specs.declared.refusal.Refusal.{Refusal}
use Rattle.qq_base.specs.declared.refusal.Span.{Span}
use Rattle.qq_base.specs.declared.rule.Rule.{Rule}
use Rattle.qq_base.specs.declared.rule.Rule.TheVariants.{ArgumentCount}
use Rattle.qq_base.specs.declared.run.QubitId.{QubitId}
use Rattle.qasm_ast.specs.declared.expr.Expr.{Expr}
use Rattle.qasm_ast.specs.declared.expr.ExprId.{ExprId}
use Rattle.qasm_ast.specs.declared.expr.ExprKind.TheVariants as e
use Rattle.qasm_ast.specs.declared.expr.OperandName.{OperandName}
use Rattle.qasm_ast.specs.declared.expr.TypeRef.{TypeRef}
use Rattle.qasm_ast.specs.declared.stmt.Declared.{Declared}
use Rattle.qasm_ast.specs.declared.stmt.StmtId.{StmtId}
use Rattle.qasm_ast.specs.Tree.{Tree, call, Trees, trees_at, Scalar, Parameter}
use Rattle.qasm_ast.specs.Whole.{Source}
use Rattle.qasm_ast.specs.View.{expr_in, text_in, tree_in, trees_in}
use Rattle.qasm_types.specs.declared.ty.Ty.{Ty}
use Rattle.alias_resolve.specs.Places.{Selected}
use Rattle.const_eval.specs.declared.environment.Callable.{Callable}
use Rattle.const_eval.specs.Answers.{Fails}
use Rattle.const_eval.specs.Binding.{Binding, Bound, Taken, all_taken_walk, result_walk, bound_arguments_walk, binding_walk, count_of_trees}
use Rattle.const_eval.specs.Meaning.{Meaning}
use Rattle.const_eval.specs.Refusing.{refused, go_on}
use Rattle.const_eval.specs.Seen.{MeaningInside}
use Rattle.const_eval.specs.Walk.{Walk, asked, done, then_walk}
use Rattle.gate_arguments.specs.Environment.{declarations_in, scope_in}
use Rattle.gate_arguments.specs.Scope.{Declarations, Scope}
use Rattle.subroutine_inline.specs.Bound.{BoundCall, bound_by, bound_call, call_walk, due_binding, means_inside, most_counted, parameters_of}
use Rattle.subroutine_inline.specs.Called.{Definition, subroutine_called}
use Rattle.subroutine_inline.specs.Seen.{Shared, shared}
use Rattle.subroutine_inline.proofs.Counting.{answer_then, cost_then, fails_by, stops_then}

trees_count : (sub : ℕ → Tree) (ids : List ExprId) → count_of_trees (trees_at sub ids) ≡ length ids
trees_count sub [] = refl
trees_count sub (id ∷ ids) = let h = trees_count sub ids in omega arith

-- what is due for a node that is a call
pub due_is : (p : Source) (n : ℕ) (node : Expr) (name : ℕ) (ids : List ExprId) (names : List (ℕ × Meaning)) (callables : List (ℕ × Callable)) (operands : List (OperandName × Result (Selected QubitId) Rule)) (inside : List ((ℕ × ℕ) × MeaningInside)) (opened : List StmtId)
    → slice_get p.exprs n ≡ Some node → tree_in p n ≡ expr_in p node → node.kind ≡ e.Call name ids
    → due_binding p n names callables operands inside opened ≡ bound_by p ids (call_walk (declarations_in p inside) (scope_in p names callables operands) opened (call (text_in p name) (trees_in p ids) node.at))
due_is p n node name ids names callables operands inside opened found seen is = rw (found, seen, is) refl

-- what is made of the answer of a walk
by_answer : (p : Source) (ids : List ExprId) (cost : ℕ) (answer : Result (StmtId × Binding) Refusal) (r : Refusal) → answer ≡ Err r → bound_by p ids (record { cost = cost; answer = answer }) ≡ Err r
by_answer p ids cost answer r e = rw e refl

module _ (declared : Declarations) (scope : Scope) (opened : List StmtId) (name : List ℕ) (as' : Trees) (place : Span) where
  abbrev pub walk : Walk (StmtId × Binding)
  walk = call_walk declared scope opened (call name as' place)

  abbrev pub called : Result Definition Refusal
  called = subroutine_called declared.definition opened place (scope.called name)

  abbrev binding_of : Definition → Walk Binding
  binding_of d = binding_walk scope.means scope.qubits (means_inside declared d.id) (Ok d.subroutine) as' place

  abbrev after : Definition → Walk (StmtId × Binding)
  after d = then_walk (binding_of d) (λ b. done (d.id, b))

  module _ (p : Source) (ids : List ExprId) where
    pub called_stops : (r : Refusal) → subroutine_called declared.definition opened place (scope.called name) ≡ Err r → bound_by p ids (call_walk declared scope opened (call name as' place)) ≡ Err r
    called_stops r e = by_answer p ids walk.cost walk.answer r (stops_then after (asked called) r e)

  module _ (d : Definition) (is : subroutine_called declared.definition opened place (scope.called name) ≡ Ok d) where
    abbrev pub inside : List ℕ → Meaning
    inside = means_inside declared d.id

    binding_stops : (r : Refusal) → (binding_of d).answer ≡ Err r → walk.answer ≡ Err r
    binding_stops r e = answer_then after (asked called) d is ∙ stops_then (λ b. done (d.id, b)) (binding_of d) r e

    binding_known : (b : Binding) → (binding_of d).answer ≡ Ok b → walk.answer ≡ Ok (d.id, b)
    binding_known b e = answer_then after (asked called) d is ∙ answer_then (λ x. done (d.id, x)) (binding_of d) b e

    binding_cost : (b : Binding) → (binding_of d).answer ≡ Ok b → walk.cost ≡ (binding_of d).cost
    binding_cost b e =
        cost_then after (asked called) d is ∙ zero-add (after d).cost
        ∙ cost_then (λ x. done (d.id, x)) (binding_of d) b e ∙ add-zero (binding_of d).cost

    pub count_differs : (p : Source) (ids : List ExprId) → nat_eq (count_of_trees as') (length d.subroutine.params) ≡ false → bound_by p ids (call_walk declared scope opened (call name as' place)) ≡ refused ArgumentCount place
    count_differs p ids e = by_answer p ids walk.cost walk.answer _ (binding_stops (record { rule = ArgumentCount; at = place }) (rw e refl))

    module _ (same : nat_eq (count_of_trees as') (length d.subroutine.params) ≡ true) where
      abbrev taken_walk : Walk (List Taken)
      taken_walk = all_taken_walk inside d.subroutine.params

      abbrev typed_walk : Walk (Option Ty)
      typed_walk = result_walk inside d.subroutine.result

      abbrev bound_walk : List Taken → Walk (List Bound)
      bound_walk xs = bound_arguments_walk scope.means scope.qubits as' xs

      abbrev made : Option Ty → List Bound → Binding
      made result bound = record { subroutine = d.subroutine; bound = bound; result = result }

      abbrev after_result : List Taken → Option Ty → Walk Binding
      after_result xs result = then_walk (bound_walk xs) (λ bound. done (made result bound))

      abbrev after_taken : List Taken → Walk Binding
      after_taken xs = then_walk typed_walk (after_result xs)

      abbrev parts : Walk Binding
      parts = then_walk taken_walk after_taken

      in_parts : ((binding_of d).answer ≡ parts.answer) × ((binding_of d).cost ≡ parts.cost)
      in_parts = (rw same refl, rw same (omega arith))

      module _ (p : Source) (ids : List ExprId) where
        stops : (r : Refusal) → parts.answer ≡ Err r → bound_by p ids walk ≡ Err r
        stops r e = by_answer p ids walk.cost walk.answer r (binding_stops r (in_parts.0 ∙ e))

        pub taken_stops : (r : Refusal) → (all_taken_walk (means_inside declared d.id) d.subroutine.params).answer ≡ Err r → bound_by p ids (call_walk declared scope opened (call name as' place)) ≡ Err r
        taken_stops r e = stops r (stops_then after_taken taken_walk r e)

        module _ (xs : List Taken) (taken : (all_taken_walk (means_inside declared d.id) d.subroutine.params).answer ≡ Ok xs) where
          behind_taken : parts.answer ≡ (after_taken xs).answer
          behind_taken = answer_then after_taken taken_walk xs taken

          pub result_stops : (r : Refusal) → (result_walk (means_inside declared d.id) d.subroutine.result).answer ≡ Err r → bound_by p ids (call_walk declared scope opened (call name as' place)) ≡ Err r
          result_stops r e = stops r (behind_taken ∙ stops_then (after_result xs) typed_walk r e)

          module _ (result : Option Ty) (typed : (result_walk (means_inside declared d.id) d.subroutine.result).answer ≡ Ok result) where
            behind_result : parts.answer ≡ (after_result xs result).answer
            behind_result = behind_taken ∙ answer_then (after_result xs) typed_walk result typed

            bound_stops : (r : Refusal) → (bound_walk xs).answer ≡ Err r → bound_by p ids walk ≡ Err r
            bound_stops r e = stops r (behind_result ∙ stops_then (λ bound. done (made result bound)) (bound_walk xs) r e)

            parts_cost : (bs : List Bound) → (bound_walk xs).answer ≡ Ok bs → parts.cost ≡ taken_walk.cost + (typed_walk.cost + (bound_walk xs).cost)
            parts_cost bs e =
                let one = cost_then after_taken taken_walk xs taken in
                let two = cost_then (after_result xs) typed_walk result typed in
                let three = cost_then (λ bound. done (made result bound)) (bound_walk xs) bs e in
                omega arith

            bound_known : (bs : List Bound) → (bound_walk xs).answer ≡ Ok bs
                → bound_by p ids walk ≡ Ok (bound_call (parameters_of (slice_get p.stmts d.id.0)) ids (taken_walk.cost + (typed_walk.cost + (bound_walk xs).cost)) d.id (made result bs))
            bound_known bs e =
                let known = binding_known (made result bs) (in_parts.0 ∙ behind_result ∙ answer_then (λ bound. done (made result bound)) (bound_walk xs) bs e) in
                let cost : walk.cost ≡ taken_walk.cost + (typed_walk.cost + (bound_walk xs).cost) = binding_cost (made result bs) (in_parts.0 ∙ behind_result ∙ answer_then (λ bound. done (made result bound)) (bound_walk xs) bs e) ∙ in_parts.1 ∙ parts_cost bs e in
                ap (λ r. go_on r (λ b. Ok (bound_call (parameters_of (slice_get p.stmts b.0.0)) ids walk.cost b.0 b.1))) known
                ∙ ap (λ n. Ok (bound_call (parameters_of (slice_get p.stmts d.id.0)) ids n d.id (made result bs))) cost

            -- ---- with what is given

            module _ (params : List (TypeRef × Declared)) where
              given_stops_at : (answer : Result (List Bound) Refusal) (r : Refusal) → go_on answer (λ bs. Ok (shared params ids bs)) ≡ Err r → answer ≡ Err r
              given_stops_at (Ok bs) r e = absurd cc
              given_stops_at (Err x) r e = let same : x ≡ r = cc in ap Err same

              given_known_at : (answer : Result (List Bound) Refusal) (g : Shared) → go_on answer (λ bs. Ok (shared params ids bs)) ≡ Ok g → (bs : List Bound) × (answer ≡ Ok bs) × (shared params ids bs ≡ g)
              given_known_at (Ok bs) g e = (bs, refl, cc)
              given_known_at (Err x) g e = absurd cc

              pub given_stops : (r : Refusal) → go_on (bound_arguments_walk scope.means scope.qubits as' xs).answer (λ bs. Ok (shared params ids bs)) ≡ Err r → bound_by p ids (call_walk declared scope opened (call name as' place)) ≡ Err r
              given_stops r e = bound_stops r (given_stops_at (bound_walk xs).answer r e)

              pub given_known : (g : Shared) (cost : ℕ) → parameters_of (slice_get p.stmts d.id.0) ≡ params
                  → go_on (bound_arguments_walk scope.means scope.qubits as' xs).answer (λ bs. Ok (shared params ids bs)) ≡ Ok g
                  → cost ≡ min (taken_walk.cost + (typed_walk.cost + (bound_walk xs).cost)) most_counted
                  → bound_by p ids (call_walk declared scope opened (call name as' place)) ≡ Ok (record { def = d.id; classical = g.classical; qubits = g.qubits; result = result; cost = cost })
              given_known g cost written e counted =
                  let k = given_known_at (bound_walk xs).answer g e in
                  bound_known k.0 k.1
                  ∙ ap (λ ps. Ok (bound_call ps ids (taken_walk.cost + (typed_walk.cost + (bound_walk xs).cost)) d.id (made result k.0))) written
                  ∙ ap (λ (s : Shared). Ok (record { def = d.id; classical = s.classical; qubits = s.qubits; result = result; cost = min (taken_walk.cost + (typed_walk.cost + (bound_walk xs).cost)) most_counted })) k.2
                  ∙ ap (λ n. Ok (record { def = d.id; classical = g.classical; qubits = g.qubits; result = result; cost = n })) (sym counted)

-- ---- numbers of arguments

pub same_count : (p : Source) (ids : List ExprId) {A B : Type 0} (f : A → B) (params : List A) (written : List B) → written ≡ map f params → length ids ≡ length params → nat_eq (count_of_trees (trees_in p ids)) (length written) ≡ true
same_count p ids f params written e same = eq-eqb _ _ (trees_count (tree_in p) ids ∙ same ∙ sym (ap length e ∙ length-map params f))

pub other_count : (p : Source) (ids : List ExprId) {A B : Type 0} (f : A → B) (params : List A) (written : List B) → written ≡ map f params → length ids ≢ length params → nat_eq (count_of_trees (trees_in p ids)) (length written) ≡ false
other_count p ids f params written e differ = ne_eqb _ _ (λ same. differ (sym (trees_count (tree_in p) ids) ∙ same ∙ ap length e ∙ length-map params f))

-- what is left of the costs that are counted
counted : (a b c x y z : ℕ) → x ≡ 250001 - a → y ≡ x - b → z ≡ y - c → 250001 - z ≡ min (a + (b + c)) 250001
counted a b c x y z e f g = omega arith

-- ---- by what is found of the definition

abbrev right : (List ℕ → Meaning) → Result (List ℕ → Meaning) Refusal
right m = Ok m

same_means : (m n : List ℕ → Meaning) → right m ≡ Ok n → m ≡ n
same_means m n e = cc

-- what names mean in the definition, and what its parameters and its result are
module _ (declared : Declarations) (scope : Scope) (opened : List StmtId) (name : List ℕ) (as' : Trees) (place : Span) (d : Definition)
    (is : subroutine_called declared.definition opened place (scope.called name) ≡ Ok d) (p : Source) (ids : List ExprId)
    (means : List ℕ → Meaning) (seen : right (means_inside declared d.id) ≡ Ok means)
    (params : List Parameter) (written : d.subroutine.params ≡ params) (type : Option Scalar) (typed : d.subroutine.result ≡ type)
    (same : nat_eq (count_of_trees as') (length d.subroutine.params) ≡ true) where
  abbrev due : Result BoundCall Refusal
  due = bound_by p ids (call_walk declared scope opened (call name as' place))

  taken_same : all_taken_walk (means_inside declared d.id) d.subroutine.params ≡ all_taken_walk means params
  taken_same =
      ap (λ xs. all_taken_walk (means_inside declared d.id) xs) written
      ∙ ap (λ (m : List ℕ → Meaning). all_taken_walk m params) (same_means (means_inside declared d.id) means seen)

  result_same : result_walk (means_inside declared d.id) d.subroutine.result ≡ result_walk means type
  result_same =
      ap (λ x. result_walk (means_inside declared d.id) x) typed
      ∙ ap (λ (m : List ℕ → Meaning). result_walk m type) (same_means (means_inside declared d.id) means seen)

  pub taken_fails : (why : Fault) → Fails why (all_taken_walk means params).answer → Fails why (bound_by p ids (call_walk declared scope opened (call name as' place)))
  taken_fails =
      fails_by (all_taken_walk means params).answer due
      (λ r e. taken_stops declared scope opened name as' place d is same p ids r (ap (λ (w : Walk (List Taken)). w.answer) taken_same ∙ e))

  module _ (xs : List Taken) (taken : (all_taken_walk means params).answer ≡ Ok xs) where
    taken_there : (all_taken_walk (means_inside declared d.id) d.subroutine.params).answer ≡ Ok xs
    taken_there = ap (λ (w : Walk (List Taken)). w.answer) taken_same ∙ taken

    pub result_fails : (why : Fault) → Fails why (result_walk means type).answer → Fails why (bound_by p ids (call_walk declared scope opened (call name as' place)))
    result_fails =
        fails_by (result_walk means type).answer due
        (λ r e. result_stops declared scope opened name as' place d is same p ids xs taken_there r (ap (λ (w : Walk (Option Ty)). w.answer) result_same ∙ e))

    module _ (result : Option Ty) (known : (result_walk means type).answer ≡ Ok result) (declares : List (TypeRef × Declared)) where
      result_there : (result_walk (means_inside declared d.id) d.subroutine.result).answer ≡ Ok result
      result_there = ap (λ (w : Walk (Option Ty)). w.answer) result_same ∙ known

      pub given_fails : (why : Fault) → Fails why (go_on (bound_arguments_walk scope.means scope.qubits as' xs).answer (λ bs. Ok (shared declares ids bs)))
          → Fails why (bound_by p ids (call_walk declared scope opened (call name as' place)))
      given_fails =
          fails_by (go_on (bound_arguments_walk scope.means scope.qubits as' xs).answer (λ bs. Ok (shared declares ids bs))) due
          (λ r e. given_stops declared scope opened name as' place d is same p ids xs taken_there result result_there declares r e)

      -- what is left is that of the costs that are counted, after the types of the parameters, that of the result, and the arguments
      pub given_due : (g : Shared) (after_types after_result after_arguments : ℕ) → parameters_of (slice_get p.stmts d.id.0) ≡ declares
          → go_on (bound_arguments_walk scope.means scope.qubits as' xs).answer (λ bs. Ok (shared declares ids bs)) ≡ Ok g
          → after_types ≡ 250001 - (all_taken_walk means params).cost → after_result ≡ after_types - (result_walk means type).cost
          → after_arguments ≡ after_result - (bound_arguments_walk scope.means scope.qubits as' xs).cost
          → bound_by p ids (call_walk declared scope opened (call name as' place)) ≡ Ok (record { def = d.id; classical = g.classical; qubits = g.qubits; result = result; cost = 250001 - after_arguments })
      given_due g after_types after_result after_arguments by e one two three =
          given_known declared scope opened name as' place d is same p ids xs taken_there result result_there declares g (250001 - after_arguments) by e
          (counted _ _ _ after_types after_result after_arguments (one ∙ ap (λ (w : Walk (List Taken)). 250001 - w.cost) (sym taken_same)) (two ∙ ap (λ (w : Walk (Option Ty)). after_types - w.cost) (sym result_same)) three)
