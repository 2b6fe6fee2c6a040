-- Arguments that are bound one by one: what was given is in front of what is left.
use Rattle.std.proofs.Common.{◌≡◌, ℕ, ◌+◌, ◌<◌, ◌≤◌, List, [], ◌∷◌, ◌++◌, length, drop, get_or, map, Result, Ok, Err, refl, sym, ap, ◌∙◌, append_assoc, add-one, arith}
use Rattle.std.proofs.lemmas.List.{append-nil}
use Rattle.std.proofs.Math.ListN.{drop_of_length-le}
use Rattle.std.proofs.Math.Seq.{drop-cons}
use Rattle.qq_base.specs.declared.refusal.Fault.{Fault}
use Rattle.qq_base.specs.declared.refusal.Refusal.{Refusal}
use Rattle.qq_base.specs.declared.rule.Rule.{Rule}
use Rattle.qq_base.specs.declared.run.QubitId.{QubitId}
use Rattle.qasm_ast.specs.declared.expr.ExprId.{ExprId}
use Rattle.qasm_ast.specs.declared.expr.TypeRef.{TypeRef}
use Rattle.qasm_ast.specs.declared.stmt.Declared.{Declared}
use Rattle.qasm_ast.specs.Tree.{Called}
use Rattle.qasm_ast.specs.Whole.{Source}
use Rattle.qasm_ast.specs.View.{tree_in, trees_in}
use Rattle.alias_resolve.specs.Places.{Selected}
use Rattle.const_eval.specs.Answers.{Fails}
use Rattle.const_eval.specs.Binding.{Bound, ToValue, ToQubits, bound_argument_walk, bound_arguments_walk}
use Rattle.const_eval.specs.Meaning.{Meaning}
use Rattle.const_eval.specs.Refusing.{go_on}
use Rattle.const_eval.specs.Walk.{Walk, done, then_walk}
use Rattle.subroutine_inline.specs.declared.parameters.Taken.{Taken}
use Rattle.subroutine_inline.specs.Seen.{Shared, shared, taken_seen, with_bound}
use Rattle.subroutine_inline.proofs.Counting.{answer_then, cost_then, fails_by, stops_then}

-- what was given, in front of what else is given
abbrev pub in_front : Shared → Result Shared Refusal → Result Shared Refusal
in_front given answer = go_on answer (λ s. Ok (record { classical = given.classical ++ s.classical; qubits = given.qubits ++ s.qubits }))

abbrev pub nothing_given : Shared
nothing_given = record { classical = []; qubits = [] }

pub front_nothing : (answer : Result Shared Refusal) → answer ≡ in_front nothing_given answer
front_nothing (Ok s) = refl
front_nothing (Err e) = refl

front_end : (given : Shared) → in_front given (Ok nothing_given) ≡ Ok given
front_end given = rw (append-nil given.classical, append-nil given.qubits) refl

-- one more
module _ (par : TypeRef × Declared) (ps : List (TypeRef × Declared)) (id : ExprId) (ids : List ExprId) where
  one_more : (given : Shared) (b : Bound) (bs : List Bound) → in_front given (Ok (shared (par ∷ ps) (id ∷ ids) (b ∷ bs))) ≡ in_front (with_bound given par.1.name id b) (Ok (shared ps ids bs))
  one_more given (ToValue type) bs = ap (λ c. Ok (record { classical = c; qubits = given.qubits ++ (shared ps ids bs).qubits })) (sym (append_assoc given.classical ((par.1.name, type, id) ∷ []) (shared ps ids bs).classical))
  one_more given (ToQubits s) bs = ap (λ q. Ok (record { classical = given.classical ++ (shared ps ids bs).classical; qubits = q })) (sym (append_assoc given.qubits ((par.1.name, s) ∷ []) (shared ps ids bs).qubits))

  behind_bound : (given : Shared) (b : Bound) (cost : ℕ) (answer : Result (List Bound) Refusal)
      → in_front given (go_on (then_walk (record { cost = cost; answer = answer }) (λ bs. done (b ∷ bs))).answer (λ bs. Ok (shared (par ∷ ps) (id ∷ ids) bs)))
      ≡ in_front (with_bound given par.1.name id b) (go_on answer (λ bs. Ok (shared ps ids bs)))
  behind_bound given b cost (Ok bs) = one_more given b bs
  behind_bound given b cost (Err e) = refl

first_cost : (b : Bound) (cost : ℕ) (answer : Result (List Bound) Refusal) → (then_walk (record { cost = cost; answer = answer }) (λ bs. done (b ∷ bs))).cost ≡ cost
first_cost b cost (Ok bs) = omega arith
first_cost b cost (Err e) = refl

known_bound : (answer : Result Bound Refusal) (given : Shared) (name : ℕ) (id : ExprId) (given' : Shared) → go_on answer (λ b. Ok (with_bound given name id b)) ≡ Ok given'
    → (b : Bound) × (answer ≡ Ok b) × (with_bound given name id b ≡ given')
known_bound (Ok b) given name id given' e = (b, refl, cc)
known_bound (Err r) given name id given' e = absurd cc

unknown_bound : (answer : Result Bound Refusal) (given : Shared) (name : ℕ) (id : ExprId) (r : Refusal) → go_on answer (λ b. Ok (with_bound given name id b)) ≡ Err r → answer ≡ Err r
unknown_bound (Ok b) given name id r e = absurd cc
unknown_bound (Err x) given name id r e = let same : x ≡ r = cc in ap Err same

module _ (p : Source) (means : List ℕ → Meaning) (registers : Called → Result (Selected QubitId) Rule) where
  abbrev pub bound_from : List ExprId → List Taken → Walk (List Bound)
  bound_from ids taken = bound_arguments_walk means registers (trees_in p ids) (map taken_seen taken)

  -- what the arguments give
  abbrev pub given_from : List (TypeRef × Declared) → List ExprId → List Taken → Result Shared Refusal
  given_from params ids taken = go_on (bound_from ids taken).answer (λ bs. Ok (shared params ids bs))

  abbrev bound : ExprId → Taken → Walk Bound
  bound id t = bound_argument_walk means registers (tree_in p id.0) (taken_seen t)

  abbrev after : List ExprId → List Taken → Bound → Walk (List Bound)
  after ids taken b = then_walk (bound_from ids taken) (λ bs. done (b ∷ bs))

  module _ (params : List (TypeRef × Declared)) (ids : List ExprId) (taken : List Taken) (k : ℕ) (par : TypeRef × Declared) (id : ExprId) (t : Taken)
      (below : k < length params) (in_ids : k < length ids) (in_taken : k < length taken) where
    abbrev now : Walk Bound
    now = bound (get_or ids k id) (get_or taken k t)

    abbrev later : Walk (List Bound)
    later = bound_from (drop (k + 1) ids) (drop (k + 1) taken)

    walked : bound_from (drop k ids) (drop k taken) ≡ then_walk now (after (drop (k + 1) ids) (drop (k + 1) taken))
    walked = rw (drop-cons ids k id in_ids, drop-cons taken k t in_taken, add-one k) refl

    shared_next : (bs : List Bound) → shared (drop k params) (drop k ids) bs ≡ shared (get_or params k par ∷ drop (k + 1) params) (get_or ids k id ∷ drop (k + 1) ids) bs
    shared_next bs = rw (drop-cons params k par below, drop-cons ids k id in_ids, add-one k) refl

    next : given_from (drop k params) (drop k ids) (drop k taken)
        ≡ go_on (then_walk now (after (drop (k + 1) ids) (drop (k + 1) taken))).answer (λ bs. Ok (shared (get_or params k par ∷ drop (k + 1) params) (get_or ids k id ∷ drop (k + 1) ids) bs))
    next = rw (drop-cons params k par below, drop-cons ids k id in_ids, drop-cons taken k t in_taken, add-one k) refl

    module _ (given given' : Shared) where
      given_more : go_on (bound_argument_walk means registers (tree_in p (get_or ids k id).0) (taken_seen (get_or taken k t))).answer (λ b. Ok (with_bound given (get_or params k par).1.name (get_or ids k id) b)) ≡ Ok given'
          → (in_front given (given_from (drop k params) (drop k ids) (drop k taken)) ≡ in_front given' (given_from (drop (k + 1) params) (drop (k + 1) ids) (drop (k + 1) taken)))
          × ((bound_from (drop k ids) (drop k taken)).cost ≡ (bound_argument_walk means registers (tree_in p (get_or ids k id).0) (taken_seen (get_or taken k t))).cost + (bound_from (drop (k + 1) ids) (drop (k + 1) taken)).cost)
      given_more e =
          let b = known_bound now.answer given (get_or params k par).1.name (get_or ids k id) given' e in (
            ap (in_front given) next
                ∙ ap (λ r. in_front given (go_on r (λ bs. Ok (shared (get_or params k par ∷ drop (k + 1) params) (get_or ids k id ∷ drop (k + 1) ids) bs)))) (answer_then (after (drop (k + 1) ids) (drop (k + 1) taken)) now b.0 b.1)
                ∙ behind_bound (get_or params k par) (drop (k + 1) params) (get_or ids k id) (drop (k + 1) ids) given b.0 later.cost later.answer
                ∙ ap (λ g. in_front g (given_from (drop (k + 1) params) (drop (k + 1) ids) (drop (k + 1) taken))) b.2,
            ap (λ (w : Walk (List Bound)). w.cost) walked
                ∙ cost_then (after (drop (k + 1) ids) (drop (k + 1) taken)) now b.0 b.1
                ∙ ap (λ n. now.cost + n) (first_cost b.0 later.cost later.answer),
          )

      given_stops : (r : Refusal)
          → go_on (bound_argument_walk means registers (tree_in p (get_or ids k id).0) (taken_seen (get_or taken k t))).answer (λ b. Ok (with_bound given (get_or params k par).1.name (get_or ids k id) b)) ≡ Err r
          → in_front given (given_from (drop k params) (drop k ids) (drop k taken)) ≡ Err r
      given_stops r e =
          let no = unknown_bound now.answer given (get_or params k par).1.name (get_or ids k id) r e in
          ap (in_front given) next
          ∙ ap (λ x. in_front given (go_on x (λ bs. Ok (shared (get_or params k par ∷ drop (k + 1) params) (get_or ids k id ∷ drop (k + 1) ids) bs)))) (stops_then (after (drop (k + 1) ids) (drop (k + 1) taken)) now r no)

      -- by a list of the same arguments, and the parameter that is read
      module _ (all : List ExprId) (same : all ≡ ids) (read : TypeRef × Declared) (is : read ≡ get_or params k par) where
        pub given_step : go_on (bound_argument_walk means registers (tree_in p (get_or all k id).0) (taken_seen (get_or taken k t))).answer (λ b. Ok (with_bound given read.1.name (get_or all k id) b)) ≡ Ok given'
            → (in_front given (given_from (drop k params) (drop k ids) (drop k taken)) ≡ in_front given' (given_from (drop (k + 1) params) (drop (k + 1) ids) (drop (k + 1) taken)))
            × ((bound_from (drop k ids) (drop k taken)).cost ≡ (bound_argument_walk means registers (tree_in p (get_or all k id).0) (taken_seen (get_or taken k t))).cost + (bound_from (drop (k + 1) ids) (drop (k + 1) taken)).cost)
        given_step = rw (same, is) given_more

        pub given_fails : (why : Fault)
            → Fails why (go_on (bound_argument_walk means registers (tree_in p (get_or all k id).0) (taken_seen (get_or taken k t))).answer (λ b. Ok (with_bound given read.1.name (get_or all k id) b)))
            → Fails why (in_front given (given_from (drop k params) (drop k ids) (drop k taken)))
        given_fails = rw (same, is) (fails_by (go_on now.answer (λ b. Ok (with_bound given (get_or params k par).1.name (get_or ids k id) b))) (in_front given (given_from (drop k params) (drop k ids) (drop k taken))) given_stops)

  pub given_all : (params : List (TypeRef × Declared)) (ids : List ExprId) (taken : List Taken) (k : ℕ) (given : Shared) → length params ≤ k → length ids ≤ k
      → in_front given (given_from (drop k params) (drop k ids) (drop k taken)) ≡ Ok given
  given_all params ids taken k given le le' = rw (drop_of_length-le params le, drop_of_length-le ids le') (front_end given)

  pub cost_all : (ids : List ExprId) (taken : List Taken) (k : ℕ) → length ids ≤ k → (bound_from (drop k ids) (drop k taken)).cost ≡ 0
  cost_all ids taken k le = rw (drop_of_length-le ids le) refl
