-- The names in the expressions of a program are names of the program.
use Rattle.std.proofs.Common.{◌≡◌, ℕ, zero, suc, ◌+◌, ◌<◌, Bool, true, false, not, cond, List, [], ◌∷◌, length, Option, Some, None, slice_get, nat_eq, refl, arith}
use Rattle.std.proofs.lemmas.Bool.{lt-ltb}
use Rattle.std.specs.List.{position_or_len}
use Rattle.std.specs.Cmp.Lexicographic.{pointwise, nat_list_eq_equiv}
use Rattle.qq_base.specs.declared.refusal.Span.{Span}
use Rattle.qasm_ast.specs.declared.expr.Expr.{Expr}
use Rattle.qasm_ast.specs.declared.expr.ExprId.{ExprId}
use Rattle.qasm_ast.specs.declared.expr.ExprKind.{ExprKind}
use Rattle.qasm_ast.specs.declared.expr.ExprKind.TheVariants as e
use Rattle.qasm_ast.specs.declared.expr.IndexRef.{IndexRef}
use Rattle.qasm_ast.specs.declared.expr.IndexRef.TheVariants as i
use Rattle.qasm_ast.specs.declared.expr.OperandName.{OperandName}
use Rattle.qasm_ast.specs.declared.expr.OperandName.TheVariants as o
use Rattle.qasm_ast.specs.Tree.{Tree, text_at, trees_at, maybe_at, bracket_at, brackets_at, called_at, node_of, seen_node, tree_at, tree_of}
use Rattle.qasm_ast.specs.Whole.{NameFits, ExprFits, Source, IsProgram}
use Rattle.expr_names.specs.Names.{CalledIs, NamesAre, AllNamesAre, WidthNamesAre, IndexNamesAre, BracketNamesAre}
use Rattle.expr_names.specs.Laws.{is_name_of}

-- the name with a number is found among the names
among : (names : List (List ℕ)) (k : ℕ) → k < length names → position_or_len (pointwise nat_eq (text_at names k)) names < length names
among [] k lt = absurd (omega arith)
among (x ∷ names) zero lt = rw (nat_list_eq_equiv.refl x) (omega arith)
among (x ∷ names) (suc k) lt = by (pointwise nat_eq (text_at names k) x) (among names k (omega arith))
  where
    by : (b : Bool) → position_or_len (pointwise nat_eq (text_at names k)) names < length names → cond (not b) (1 + position_or_len (pointwise nat_eq (text_at names k)) names) 0 < suc (length names)
    by true h = omega arith
    by false h = omega arith

module _ (p : Source) where
  name_is : (k : ℕ) → k < length p.names → is_name_of p (text_at p.names k) ≡ true
  name_is k lt = rw (lt-ltb _ _ (among p.names k lt)) refl

  called_is : (name : OperandName) → NameFits (length p.names) name → CalledIs (is_name_of p) (called_at p.names name)
  called_is (o.Name n) fits = name_is n fits
  called_is (o.Hardware n) fits = tt

  module _ (sub : ℕ → Tree) (are : (n : ℕ) → NamesAre (is_name_of p) (sub n)) where
    trees_are : (ids : List ExprId) → AllNamesAre (is_name_of p) (trees_at sub ids)
    trees_are [] = tt
    trees_are (id ∷ ids) = (are id.0, trees_are ids)

    maybe_is : (id : Option ExprId) → WidthNamesAre (is_name_of p) (maybe_at sub id)
    maybe_is None = tt
    maybe_is (Some id) = are id.0

    bracket_is : (index : IndexRef) → IndexNamesAre (is_name_of p) (bracket_at sub index)
    bracket_is (i.At id) = are id.0
    bracket_is (i.Range start step stop place) = (maybe_is start, maybe_is step, maybe_is stop)
    bracket_is (i.Set ids) = trees_are ids

    brackets_are : (index : List IndexRef) → BracketNamesAre (is_name_of p) (brackets_at sub index)
    brackets_are [] = tt
    brackets_are (b ∷ index) = (bracket_is b, brackets_are index)

    node_is : (n : ℕ) (kind : ExprKind) (place : Span) → ExprFits (length p.names) n kind → NamesAre (is_name_of p) (node_of p.names sub kind place)
    node_is n (e.Name operand) place fits = (called_is operand.name fits.name, brackets_are operand.index)
    node_is n (e.Hardware k) place fits = tt
    node_is n (e.Whole k) place fits = tt
    node_is n (e.Truth t) place fits = tt
    node_is n (e.Bits bits) place fits = tt
    node_is n (e.Unary op a) place fits = are a.0
    node_is n (e.Binary op a b) place fits = (are a.0, are b.0)
    node_is n (e.Cast type a) place fits = (maybe_is type.width, are a.0)
    node_is n (e.Call k ids) place fits = (name_is k fits.0, trees_are ids)

  module _ (whole : IsProgram p) where
    at_steps : (steps id : ℕ) → NamesAre (is_name_of p) (tree_at p.names p.exprs steps id)
    at_steps zero id = tt
    at_steps (suc steps) id = by (at_steps steps) (slice_get p.exprs id) refl
      where
        by : ((n : ℕ) → NamesAre (is_name_of p) (tree_at p.names p.exprs steps n)) → (found : Option Expr) → slice_get p.exprs id ≡ found → NamesAre (is_name_of p) (seen_node p.names (tree_at p.names p.exprs steps) found)
        by are None is = tt
        by are (Some node) is = node_is (tree_at p.names p.exprs steps) are id node.kind node.at (whole.exprs_fit id node (omega arith) is)

    pub trees_name : (id : ℕ) → id < length p.exprs → NamesAre (is_name_of p) (tree_of p.names p.exprs id)
    unfolding tree_of
    trees_name id lt = at_steps (suc id) id
