-- Members of sets, indexes and parameters that are walked one by one.
use Rattle.std.proofs.Common.{◌≡◌, ℕ, zero, suc, ◌+◌, ◌<◌, ◌≤◌, false, List, [], ◌∷◌, ◌++◌, All, length, drop, get_or, map, ℤ, Ok, Err, refl, arith}
use Rattle.std.proofs.lemmas.List.Elements.{All-append}
use Rattle.qq_base.specs.declared.refusal.Refusal.{Refusal}
use Rattle.qasm_ast.specs.declared.expr.ExprId.{ExprId}
use Rattle.qasm_ast.specs.declared.expr.IndexRef.{IndexRef}
use Rattle.qasm_ast.specs.declared.expr.TypeRef.{TypeRef}
use Rattle.qasm_ast.specs.declared.stmt.Declared.{Declared}
use Rattle.qasm_ast.specs.Whole.{Source}
use Rattle.qasm_ast.specs.View.{tree_in, trees_in, bracket_in, brackets_in, parameter_in, scalar_in}
use Rattle.alias_resolve.specs.declared.index.IndexValue.{IndexValue}
use Rattle.alias_resolve.specs.Places.{HasFewMembers}
use Rattle.const_eval.specs.Binding.{Taken, taken_walk, all_taken_walk}
use Rattle.const_eval.specs.ConstantWalk.{whole_walk, members_walk, index_walk, indexes_walk}
use Rattle.const_eval.specs.Meaning.{Meaning}
use Rattle.const_eval.specs.Walk.{Walk}
use Rattle.subroutine_inline.proofs.Walking.{behind, more_answer, more_cost, stops, end_answer, end_cost}

module _ (p : Source) (means : List ℕ → Meaning) where
  -- ---- members of a set

  abbrev member : ExprId → Walk ℤ
  member id = whole_walk means false (tree_in p id.0)

  abbrev pub members_from : List ExprId → Walk (List ℤ)
  members_from ids = members_walk means false (trees_in p ids)

  pub member_answer : (ids : List ExprId) (found : List ℤ) (k : ℕ) (d : ExprId) (z : ℤ) → k < length ids → (whole_walk means false (tree_in p (get_or ids k d).0)).answer ≡ Ok z
      → behind found (members_from (drop k ids)).answer ≡ behind (found ++ z ∷ []) (members_from (drop (k + 1) ids)).answer
  member_answer ids found k d z lt e = more_answer member members_from refl (λ x xs. refl) ids found k d z lt e

  pub member_cost : (ids : List ExprId) (k : ℕ) (d : ExprId) (z : ℤ) → k < length ids → (whole_walk means false (tree_in p (get_or ids k d).0)).answer ≡ Ok z
      → (members_from (drop k ids)).cost ≡ (whole_walk means false (tree_in p (get_or ids k d).0)).cost + (members_from (drop (k + 1) ids)).cost
  member_cost ids k d z lt e = more_cost member members_from refl (λ x xs. refl) ids k d z lt e

  pub member_stops : (ids : List ExprId) (found : List ℤ) (k : ℕ) (d : ExprId) (r : Refusal) → k < length ids → (whole_walk means false (tree_in p (get_or ids k d).0)).answer ≡ Err r
      → behind found (members_from (drop k ids)).answer ≡ Err r
  member_stops ids found k d r lt e = stops member members_from refl (λ x xs. refl) ids found k d r lt e

  pub members_answer : (ids : List ExprId) (found : List ℤ) (k : ℕ) → length ids ≤ k → behind found (members_from (drop k ids)).answer ≡ Ok found
  members_answer ids found k le = end_answer member members_from refl (λ x xs. refl) ids found k le

  pub members_cost : (ids : List ExprId) (k : ℕ) → length ids ≤ k → (members_from (drop k ids)).cost ≡ 0
  members_cost ids k le = end_cost member members_from refl (λ x xs. refl) ids k le

  -- ---- indexes in brackets

  abbrev index : IndexRef → Walk IndexValue
  index i = index_walk means false (bracket_in p i)

  abbrev pub indexes_from : List IndexRef → Walk (List IndexValue)
  indexes_from is = indexes_walk means false (brackets_in p is)

  pub index_answer : (is : List IndexRef) (found : List IndexValue) (k : ℕ) (d : IndexRef) (v : IndexValue) → k < length is → (index_walk means false (bracket_in p (get_or is k d))).answer ≡ Ok v
      → behind found (indexes_from (drop k is)).answer ≡ behind (found ++ v ∷ []) (indexes_from (drop (k + 1) is)).answer
  index_answer is found k d v lt e = more_answer index indexes_from refl (λ x xs. refl) is found k d v lt e

  pub index_cost : (is : List IndexRef) (k : ℕ) (d : IndexRef) (v : IndexValue) → k < length is → (index_walk means false (bracket_in p (get_or is k d))).answer ≡ Ok v
      → (indexes_from (drop k is)).cost ≡ (index_walk means false (bracket_in p (get_or is k d))).cost + (indexes_from (drop (k + 1) is)).cost
  index_cost is k d v lt e = more_cost index indexes_from refl (λ x xs. refl) is k d v lt e

  pub index_stops : (is : List IndexRef) (found : List IndexValue) (k : ℕ) (d : IndexRef) (r : Refusal) → k < length is → (index_walk means false (bracket_in p (get_or is k d))).answer ≡ Err r
      → behind found (indexes_from (drop k is)).answer ≡ Err r
  index_stops is found k d r lt e = stops index indexes_from refl (λ x xs. refl) is found k d r lt e

  pub indexes_answer : (is : List IndexRef) (found : List IndexValue) (k : ℕ) → length is ≤ k → behind found (indexes_from (drop k is)).answer ≡ Ok found
  indexes_answer is found k le = end_answer index indexes_from refl (λ x xs. refl) is found k le

  pub indexes_cost : (is : List IndexRef) (k : ℕ) → length is ≤ k → (indexes_from (drop k is)).cost ≡ 0
  indexes_cost is k le = end_cost index indexes_from refl (λ x xs. refl) is k le

  -- ---- parameters

  abbrev param : TypeRef × Declared → Walk Taken
  param x = taken_walk means (scalar_in p x.0)

  abbrev pub taken_from : List (TypeRef × Declared) → Walk (List Taken)
  taken_from xs = all_taken_walk means (map (parameter_in p) xs)

  pub param_answer : (xs : List (TypeRef × Declared)) (found : List Taken) (k : ℕ) (d : TypeRef × Declared) (t : Taken) → k < length xs → (taken_walk means (scalar_in p (get_or xs k d).0)).answer ≡ Ok t
      → behind found (taken_from (drop k xs)).answer ≡ behind (found ++ t ∷ []) (taken_from (drop (k + 1) xs)).answer
  param_answer xs found k d t lt e = more_answer param taken_from refl (λ y ys. refl) xs found k d t lt e

  pub param_cost : (xs : List (TypeRef × Declared)) (k : ℕ) (d : TypeRef × Declared) (t : Taken) → k < length xs → (taken_walk means (scalar_in p (get_or xs k d).0)).answer ≡ Ok t
      → (taken_from (drop k xs)).cost ≡ (taken_walk means (scalar_in p (get_or xs k d).0)).cost + (taken_from (drop (k + 1) xs)).cost
  param_cost xs k d t lt e = more_cost param taken_from refl (λ y ys. refl) xs k d t lt e

  pub param_stops : (xs : List (TypeRef × Declared)) (found : List Taken) (k : ℕ) (d : TypeRef × Declared) (r : Refusal) → k < length xs → (taken_walk means (scalar_in p (get_or xs k d).0)).answer ≡ Err r
      → behind found (taken_from (drop k xs)).answer ≡ Err r
  param_stops xs found k d r lt e = stops param taken_from refl (λ y ys. refl) xs found k d r lt e

  pub params_answer : (xs : List (TypeRef × Declared)) (found : List Taken) (k : ℕ) → length xs ≤ k → behind found (taken_from (drop k xs)).answer ≡ Ok found
  params_answer xs found k le = end_answer param taken_from refl (λ y ys. refl) xs found k le

  pub params_cost : (xs : List (TypeRef × Declared)) (k : ℕ) → length xs ≤ k → (taken_from (drop k xs)).cost ≡ 0
  params_cost xs k le = end_cost param taken_from refl (λ y ys. refl) xs k le

-- a value more, of which each has few members
pub few_more : (found : List IndexValue) (v : IndexValue) → All HasFewMembers found → HasFewMembers v → All HasFewMembers (found ++ v ∷ [])
few_more found v all few = All-append HasFewMembers found (v ∷ []) all one
  where
    one : All HasFewMembers (v ∷ [])
    one zero d lt = few
    one (suc k) d lt = absurd (omega arith)
