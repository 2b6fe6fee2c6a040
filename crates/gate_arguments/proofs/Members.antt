-- Members of sets, and indexes, that are found one by one.
use Rattle.std.proofs.Common.{◌≡◌, ℕ, zero, suc, ◌+◌, ◌<◌, ◌≤◌, Bool, List, [], ◌∷◌, ◌++◌, All, length, drop, get_or, ℤ, Option, Ok, refl, sym, subst, ◌∙◌, arith}
use Rattle.std.proofs.lemmas.List.Elements.{All-append}
use Rattle.qq_base.specs.declared.refusal.Fault.{Fault}
use Rattle.qasm_ast.specs.declared.expr.ExprId.{ExprId}
use Rattle.qasm_ast.specs.declared.expr.IndexRef.{IndexRef}
use Rattle.qasm_ast.specs.Whole.{Source}
use Rattle.qasm_ast.specs.View.{tree_in, trees_in, bracket_in, brackets_in}
use Rattle.alias_resolve.specs.declared.index.IndexValue.{IndexValue}
use Rattle.alias_resolve.specs.declared.index.IndexValue.TheVariants as i
use Rattle.alias_resolve.specs.Places.{HasFewMembers}
use Rattle.const_eval.specs.Answers.{Fails}
use Rattle.const_eval.specs.ConstantWalk.{whole_walk, members_walk, index_walk, indexes_walk}
use Rattle.const_eval.specs.Meaning.{Meaning}
use Rattle.const_eval.specs.Walk.{Walk, done, then_walk}
use Rattle.gate_lists.specs.declared.budget.Budget.{Budget}
use Rattle.gate_lists.specs.Paid.{paid_from, paid_then, fails_then}
use Rattle.gate_arguments.proofs.Paying.{mapped_paid}
use Rattle.gate_arguments.proofs.Walking.{behind, found_all, found_more, found_stops}

module _ (p : Source) (means : List ℕ → Meaning) (exact : Bool) where
  abbrev member : ExprId → Walk ℤ
  member id = whole_walk means exact (tree_in p id.0)

  abbrev members_of : List ExprId → Walk (List ℤ)
  members_of ids = members_walk means exact (trees_in p ids)

  pub found_member : (ids : List ExprId) (found : List ℤ) (k : ℕ) (d : ExprId) (z : ℤ) (b b' : Budget) → k < length ids → paid_from b (whole_walk means exact (tree_in p (get_or ids k d).0)) ≡ Ok (z, b')
      → behind found (paid_from b (members_walk means exact (trees_in p (drop k ids)))) ≡ behind (found ++ z ∷ []) (paid_from b' (members_walk means exact (trees_in p (drop (k + 1) ids))))
  found_member ids found k d z b b' lt e = found_more member members_of refl (λ x xs. refl) ids found k d z b b' lt e

  pub member_stops : (ids : List ExprId) (found : List ℤ) (k : ℕ) (d : ExprId) (b : Budget) (why : Fault) → k < length ids → Fails why (paid_from b (whole_walk means exact (tree_in p (get_or ids k d).0)))
      → Fails why (behind found (paid_from b (members_walk means exact (trees_in p (drop k ids)))))
  member_stops ids found k d b why lt e = found_stops member members_of refl (λ x xs. refl) ids found k d b why lt e

  pub all_members : (ids : List ExprId) (found : List ℤ) (k : ℕ) (b : Budget) → length ids ≤ k → behind found (paid_from b (members_walk means exact (trees_in p (drop k ids)))) ≡ Ok (found, b)
  all_members ids found k b le = found_all member members_of refl (λ x xs. refl) ids found k b le

  abbrev index : IndexRef → Walk IndexValue
  index i = index_walk means exact (bracket_in p i)

  abbrev indexes_of : List IndexRef → Walk (List IndexValue)
  indexes_of is = indexes_walk means exact (brackets_in p is)

  pub found_index : (is : List IndexRef) (found : List IndexValue) (k : ℕ) (d : IndexRef) (v : IndexValue) (b b' : Budget) → k < length is → paid_from b (index_walk means exact (bracket_in p (get_or is k d))) ≡ Ok (v, b')
      → behind found (paid_from b (indexes_walk means exact (brackets_in p (drop k is)))) ≡ behind (found ++ v ∷ []) (paid_from b' (indexes_walk means exact (brackets_in p (drop (k + 1) is))))
  found_index is found k d v b b' lt e = found_more index indexes_of refl (λ x xs. refl) is found k d v b b' lt e

  pub index_stops : (is : List IndexRef) (found : List IndexValue) (k : ℕ) (d : IndexRef) (b : Budget) (why : Fault) → k < length is → Fails why (paid_from b (index_walk means exact (bracket_in p (get_or is k d))))
      → Fails why (behind found (paid_from b (indexes_walk means exact (brackets_in p (drop k is)))))
  index_stops is found k d b why lt e = found_stops index indexes_of refl (λ x xs. refl) is found k d b why lt e

  pub all_indexes : (is : List IndexRef) (found : List IndexValue) (k : ℕ) (b : Budget) → length is ≤ k → behind found (paid_from b (indexes_walk means exact (brackets_in p (drop k is)))) ≡ Ok (found, b)
  all_indexes is found k b le = found_all index indexes_of refl (λ x xs. refl) is found k b le

-- a value more, of which each has few members
pub few_more : (found : List IndexValue) (v : IndexValue) → All HasFewMembers found → HasFewMembers v → All HasFewMembers (found ++ v ∷ [])
few_more found v all few = All-append HasFewMembers found (v ∷ []) all one
  where
    one : All HasFewMembers (v ∷ [])
    one zero d lt = few
    one (suc k) d lt = absurd (omega arith)

-- ---- ranges

module _ (b : Budget) (first second third : Walk (Option ℤ)) where
  abbrev range_walk : Walk IndexValue
  range_walk = then_walk first (λ x. then_walk second (λ y. then_walk third (λ z. done (i.Range x y z))))

  module _ (b1 : Budget) (x : Option ℤ) (one : paid_from b first ≡ Ok (x, b1)) where
    behind_first : paid_from b range_walk ≡ paid_from b1 (then_walk second (λ y. then_walk third (λ z. done (i.Range x y z))))
    behind_first = paid_then b b1 first (λ x. then_walk second (λ y. then_walk third (λ z. done (i.Range x y z)))) x one

    pub second_stops : (why : Fault) → Fails why (paid_from b1 second) → Fails why (paid_from b range_walk)
    second_stops why h = subst (λ r. Fails why r) (sym behind_first) (fails_then b1 second (λ y. then_walk third (λ z. done (i.Range x y z))) why h)

    module _ (b2 : Budget) (y : Option ℤ) (two : paid_from b1 second ≡ Ok (y, b2)) where
      behind_second : paid_from b range_walk ≡ paid_from b2 (then_walk third (λ z. done (i.Range x y z)))
      behind_second = behind_first ∙ paid_then b1 b2 second (λ y. then_walk third (λ z. done (i.Range x y z))) y two

      pub third_stops : (why : Fault) → Fails why (paid_from b2 third) → Fails why (paid_from b range_walk)
      third_stops why h = subst (λ r. Fails why r) (sym behind_second) (fails_then b2 third (λ z. done (i.Range x y z)) why h)

      pub range_paid : (b3 : Budget) (z : Option ℤ) → paid_from b2 third ≡ Ok (z, b3) → paid_from b range_walk ≡ Ok (i.Range x y z, b3)
      range_paid b3 z three = behind_second ∙ mapped_paid b2 b3 third (λ z. i.Range x y z) z three
