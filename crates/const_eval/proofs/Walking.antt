-- Lists of values that are found one by one.
use Rattle.std.proofs.Common.{◌≡◌, All, arith, ℕ, zero, suc, ◌+◌, ◌<◌, ◌≤◌, Bool, List, [], ◌∷◌, ◌++◌, length, drop, get_or, ℤ, Result, Ok, Err, refl, sym, ap, append_assoc, add-one}
use Rattle.std.proofs.lemmas.List.{append-nil}
use Rattle.std.proofs.lemmas.List.Elements.{All-append}
use Rattle.std.proofs.Math.ListN.{drop_of_length-le}
use Rattle.std.proofs.Math.Seq.{drop-cons}
use Rattle.qq_base.specs.declared.refusal.Refusal.{Refusal}
use Rattle.qq_base.specs.declared.refusal.Span.{Span}
use Rattle.qasm_ast.specs.declared.expr.ExprId.{ExprId}
use Rattle.qasm_ast.specs.declared.expr.IndexRef.{IndexRef}
use Rattle.qasm_ast.specs.Tree.{place_of}
use Rattle.qasm_ast.specs.Whole.{Source}
use Rattle.qasm_ast.specs.View.{tree_in, trees_in, bracket_in, brackets_in}
use Rattle.alias_resolve.specs.declared.index.IndexValue.{IndexValue}
use Rattle.alias_resolve.specs.Places.{HasFewMembers}
use Rattle.const_eval.specs.Meaning.{Meaning}
use Rattle.const_eval.specs.ConstValue.{value, whole_from, member_values, index_value, index_values}
use Rattle.const_eval.specs.Refusing.{go_on}

-- what was found already, in front of an answer
abbrev pub behind : {A : Type 0} → List A → Result (List A) Refusal → Result (List A) Refusal
behind found answer = go_on answer (λ later. Ok (found ++ later))

pub behind_nothing : {A : Type 0} (answer : Result (List A) Refusal) → answer ≡ behind [] answer
behind_nothing (Ok later) = refl
behind_nothing (Err e) = refl

pub behind_first : {A : Type 0} (found : List A) (a : A) (answer : Result (List A) Refusal) → behind found (go_on answer (λ later. Ok (a ∷ later))) ≡ behind (found ++ a ∷ []) answer
behind_first found a (Ok later) = ap Ok (sym (append_assoc found (a ∷ []) later))
behind_first found a (Err e) = refl

pub behind_end : {A : Type 0} (found : List A) → behind found (Ok []) ≡ Ok found
behind_end found = ap Ok (append-nil found)

module _ (p : Source) (means : List ℕ → Meaning) (exact : Bool) (whole_place : Span) where
  -- ---- the members of a set

  abbrev pub member_at : ExprId → Result ℤ Refusal
  member_at id = whole_from (place_of (tree_in p id.0)) (value means exact whole_place (tree_in p id.0))

  abbrev pub members_from : List ExprId → Result (List ℤ) Refusal
  members_from ids = member_values means exact whole_place (trees_in p ids)

  pub behind_member : (ids : List ExprId) (found : List ℤ) (k : ℕ) (d : ExprId) (z : ℤ) → k < length ids → member_at (get_or ids k d) ≡ Ok z
      → behind found (members_from (drop k ids)) ≡ behind (found ++ z ∷ []) (members_from (drop (k + 1) ids))
  behind_member ids found k d z lt e = rw (drop-cons ids k d lt, add-one k, e) (behind_first found z (members_from (drop (suc k) ids)))

  pub refused_member : (ids : List ExprId) (found : List ℤ) (k : ℕ) (d : ExprId) (refusal : Refusal) → k < length ids → member_at (get_or ids k d) ≡ Err refusal
      → behind found (members_from (drop k ids)) ≡ Err refusal
  refused_member ids found k d refusal lt e = rw (drop-cons ids k d lt, e) refl

  pub all_members : (ids : List ExprId) (found : List ℤ) (k : ℕ) → length ids ≤ k → behind found (members_from (drop k ids)) ≡ Ok found
  all_members ids found k le = rw (drop_of_length-le ids le) (behind_end found)

  -- ---- brackets

  abbrev pub index_at : IndexRef → Result IndexValue Refusal
  index_at index = index_value means exact whole_place (bracket_in p index)

  abbrev pub indexes_from : List IndexRef → Result (List IndexValue) Refusal
  indexes_from index = index_values means exact whole_place (brackets_in p index)

  pub behind_index : (index : List IndexRef) (found : List IndexValue) (k : ℕ) (d : IndexRef) (v : IndexValue) → k < length index → index_at (get_or index k d) ≡ Ok v
      → behind found (indexes_from (drop k index)) ≡ behind (found ++ v ∷ []) (indexes_from (drop (k + 1) index))
  behind_index index found k d v lt e = rw (drop-cons index k d lt, add-one k, e) (behind_first found v (indexes_from (drop (suc k) index)))

  pub refused_index : (index : List IndexRef) (found : List IndexValue) (k : ℕ) (d : IndexRef) (refusal : Refusal) → k < length index → index_at (get_or index k d) ≡ Err refusal
      → behind found (indexes_from (drop k index)) ≡ Err refusal
  refused_index index found k d refusal lt e = rw (drop-cons index k d lt, e) refl

  pub all_indexes : (index : List IndexRef) (found : List IndexValue) (k : ℕ) → length index ≤ k → behind found (indexes_from (drop k index)) ≡ Ok found
  all_indexes index found k le = rw (drop_of_length-le index le) (behind_end found)

-- a value more, of which each has few members
pub few_more : (found : List IndexValue) (v : IndexValue) → All HasFewMembers found → HasFewMembers v → All HasFewMembers (found ++ v ∷ [])
few_more found v all few = All-append HasFewMembers found (v ∷ []) all one
  where
    one : All HasFewMembers (v ∷ [])
    one zero d lt = few
    one (suc k) d lt = absurd (omega arith)
