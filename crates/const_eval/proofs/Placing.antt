-- Places of brackets and members by their numbers, and what is selected.
use Rattle.std.proofs.Common.{◌≡◌, ◌≢◌, ℕ, zero, suc, ◌<◌, ◌≤◌, Bool, List, [], ◌∷◌, length, slice_get, slice_index_or, Option, None, Some, Err, refl, arith}
use Rattle.std.specs.List.{cons_option}
use Rattle.qq_base.specs.declared.refusal.Fault.{Fault}
use Rattle.qq_base.specs.declared.refusal.Fault.TheVariants as f
use Rattle.qq_base.specs.declared.refusal.Span.{Span}
use Rattle.qasm_ast.specs.declared.expr.ExprId.{ExprId}
use Rattle.qasm_ast.specs.declared.expr.IndexRef.{IndexRef}
use Rattle.qasm_ast.specs.Tree.{Bracket, Brackets, place_of}
use Rattle.qasm_ast.specs.Whole.{Source}
use Rattle.qasm_ast.specs.View.{tree_in, trees_in, bracket_in, brackets_in}
use Rattle.alias_resolve.specs.declared.index.IndexValue.{IndexValue}
use Rattle.alias_resolve.specs.declared.select.SelectFault.{SelectFault}
use Rattle.alias_resolve.specs.declared.select.SelectFault.TheVariants as fault
use Rattle.alias_resolve.specs.Places.{items_at, positions_of}
use Rattle.const_eval.specs.Answers.{Fails}
use Rattle.const_eval.specs.Constant.{Constant, register_of}
use Rattle.const_eval.specs.ConstIndexes.{place_of_member, at_bracket, refusal_of_fault, indexed_constant}

module _ (p : Source) (otherwise : Span) where
  pub member_there : (ids : List ExprId) (n : ℕ) (d : ExprId) → n < length ids → place_of_member otherwise (trees_in p ids) n ≡ place_of (tree_in p (slice_index_or ids n d).0)
  member_there [] n d lt = absurd (omega arith)
  member_there (id ∷ ids) zero d lt = refl
  member_there (id ∷ ids) (suc n) d lt = member_there ids n d (omega arith)

  pub member_missing : (ids : List ExprId) (n : ℕ) → length ids ≤ n → place_of_member otherwise (trees_in p ids) n ≡ otherwise
  member_missing [] n le = refl
  member_missing (id ∷ ids) zero le = absurd (omega arith)
  member_missing (id ∷ ids) (suc n) le = member_missing ids n (omega arith)

  module _ (place : Bracket → Span) where
    pub bracket_there : (index : List IndexRef) (n : ℕ) (d : IndexRef) → n < length index → at_bracket otherwise place (brackets_in p index) n ≡ place (bracket_in p (slice_index_or index n d))
    bracket_there [] n d lt = absurd (omega arith)
    bracket_there (b ∷ index) zero d lt = refl
    bracket_there (b ∷ index) (suc n) d lt = bracket_there index n d (omega arith)

    pub bracket_missing : (index : List IndexRef) (n : ℕ) → length index ≤ n → at_bracket otherwise place (brackets_in p index) n ≡ otherwise
    bracket_missing [] n le = refl
    bracket_missing (b ∷ index) zero le = absurd (omega arith)
    bracket_missing (b ∷ index) (suc n) le = bracket_missing index n (omega arith)

-- no more items are selected than there are places
pub length_items_at : {A : Type 0} (items : List A) (places : List ℕ) → length (items_at items places) ≤ length places
length_items_at items [] = omega arith
length_items_at {A} items (place ∷ places) = by (slice_get items place) (length_items_at items places)
  where
    by : (o : Option A) → length (items_at items places) ≤ length places → length (cons_option o (items_at items places)) ≤ suc (length places)
    by None rest = omega (arith, rest)
    by (Some x) rest = omega (arith, rest)

-- why brackets select nothing of a constant's bits
pub indexed_fault : (result : Fault) (name : Span) (index : Brackets) (bits : List Bool) (values : List IndexValue) (why : SelectFault)
    → (why ≢ fault.Memory → positions_of (length bits) values ≡ Err why) → (why ≡ fault.Memory → result ≡ f.Memory) → Fails {A = Constant} result (refusal_of_fault name index why)
    → Fails result (indexed_constant name index (register_of bits) values)
indexed_fault result name index bits values fault.Memory is memory fails = rw (memory refl) tt
indexed_fault result name index bits values (fault.IndexRange n member) is memory fails = let e : positions_of (length bits) values ≡ Err (fault.IndexRange n member) = is (λ no. cc) in rw e fails
indexed_fault result name index bits values (fault.StepZero n) is memory fails = let e : positions_of (length bits) values ≡ Err (fault.StepZero n) = is (λ no. cc) in rw e fails
indexed_fault result name index bits values (fault.NotRegister n) is memory fails = let e : positions_of (length bits) values ≡ Err (fault.NotRegister n) = is (λ no. cc) in rw e fails
