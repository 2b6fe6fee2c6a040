-- For private contracts alone: how large a tree is. Each part of a tree is smaller than the tree, so a size is a measure for a walk over it.
use Rattle.std.specs.Prelude.{ℕ, zero, suc, ◌+◌, ◌<◌, List, [], ◌∷◌, length, slice_index_or}
use Rattle.std.proofs.Common.{arith}
use Rattle.qasm_ast.specs.declared.expr.ExprId.{ExprId}
use Rattle.qasm_ast.specs.declared.expr.IndexRef.{IndexRef}
use Rattle.qasm_ast.specs.declared.stmt.StmtId.{StmtId}
use Rattle.qasm_ast.specs.Tree.{Tree, named, unary, binary, cast, call, Trees, no_tree, a_tree, Maybe, absent, present, Bracket, position, range, members, Brackets, no_bracket, a_bracket, Statement, gate, subroutine, branch, while, for_range, for_set, Statements, no_statement, a_statement}
use Rattle.qasm_ast.specs.Whole.{Source}
use Rattle.qasm_ast.specs.View.{tree_in, statement_in, trees_in, bracket_in, brackets_in, statements_in}

abbrev mutual
  pub size_of : Tree → ℕ
  size_of (named _ index _ _) = suc (brackets_size index)
  size_of (unary _ a _) = suc (size_of a)
  size_of (binary _ a b _) = suc (size_of a + size_of b)
  size_of (cast _ width _ a _) = suc (maybe_size width + size_of a)
  size_of (call _ as' _) = suc (trees_size as')
  size_of _ = 1

  pub trees_size : Trees → ℕ
  trees_size no_tree = 0
  trees_size (a_tree a as') = suc (size_of a + trees_size as')

  pub maybe_size : Maybe → ℕ
  maybe_size absent = 0
  maybe_size (present a) = suc (size_of a)

  pub bracket_size : Bracket → ℕ
  bracket_size (position a) = suc (size_of a)
  bracket_size (range start step stop _) = suc (maybe_size start + maybe_size step + maybe_size stop)
  bracket_size (members as') = suc (trees_size as')

  pub brackets_size : Brackets → ℕ
  brackets_size no_bracket = 0
  brackets_size (a_bracket b bs) = suc (bracket_size b + brackets_size bs)

-- of a statement its bodies count, and no expression
abbrev mutual
  pub statement_size : Statement → ℕ
  statement_size (gate _ _ _ body _ _) = suc (statements_size body)
  statement_size (subroutine _ _ _ body _ _) = suc (statements_size body)
  statement_size (branch _ taken other _ _) = suc (statements_size taken + statements_size other)
  statement_size (while _ body _ _) = suc (statements_size body)
  statement_size (for_range _ _ _ _ _ body _ _) = suc (statements_size body)
  statement_size (for_set _ _ _ body _ _) = suc (statements_size body)
  statement_size _ = 1

  pub statements_size : Statements → ℕ
  statements_size no_statement = 0
  statements_size (a_statement s ss) = suc (statement_size s + statements_size ss)

-- A member of a list is smaller than the list.
module _ (p : Source) where
  pub ids_smaller : (ids : List ExprId) (k : ℕ) (d : ExprId) → k < length ids → size_of (tree_in p (slice_index_or ids k d).0) < trees_size (trees_in p ids)
  ids_smaller [] k d lt = absurd (omega arith)
  ids_smaller (id ∷ ids) zero d lt = omega arith
  ids_smaller (id ∷ ids) (suc k) d lt = omega (arith, ids_smaller ids k d (omega arith))

  pub brackets_smaller : (index : List IndexRef) (k : ℕ) (d : IndexRef) → k < length index → bracket_size (bracket_in p (slice_index_or index k d)) < brackets_size (brackets_in p index)
  brackets_smaller [] k d lt = absurd (omega arith)
  brackets_smaller (i ∷ index) zero d lt = omega arith
  brackets_smaller (i ∷ index) (suc k) d lt = omega (arith, brackets_smaller index k d (omega arith))

  pub bodies_smaller : (ids : List StmtId) (k : ℕ) (d : StmtId) → k < length ids → statement_size (statement_in p (slice_index_or ids k d).0) < statements_size (statements_in p ids)
  bodies_smaller [] k d lt = absurd (omega arith)
  bodies_smaller (id ∷ ids) zero d lt = omega arith
  bodies_smaller (id ∷ ids) (suc k) d lt = omega (arith, bodies_smaller ids k d (omega arith))
