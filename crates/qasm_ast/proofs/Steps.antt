-- The tree of a node, by steps: enough of them show the same, and what comes later in the lists does not.
use Rattle.std.proofs.Common.{◌≡◌, ℕ, zero, suc, ◌<◌, ◌++◌, List, [], ◌∷◌, length, Option, Some, None, slice_get, refl, sym, ap, subst, ◌∙◌, append-nil, arith}
use Rattle.std.specs.Prelude.{All}
use Rattle.std.proofs.lemmas.List.Elements.{All-head, All-tail}
use Rattle.qq_base.specs.declared.refusal.Span.{Span}
use Rattle.qasm_ast.specs.declared.expr.Expr.{Expr}
use Rattle.qasm_ast.specs.declared.expr.ExprId.{ExprId}
use Rattle.qasm_ast.specs.declared.expr.ExprKind.{ExprKind}
use Rattle.qasm_ast.specs.declared.expr.ExprKind.TheVariants as e
use Rattle.qasm_ast.specs.declared.expr.OperandName.{OperandName}
use Rattle.qasm_ast.specs.declared.expr.OperandName.TheVariants as o
use Rattle.qasm_ast.specs.declared.expr.IndexRef.{IndexRef}
use Rattle.qasm_ast.specs.declared.expr.IndexRef.TheVariants as i
use Rattle.qasm_ast.specs.Tree.{Tree, text_at, trees_at, maybe_at, bracket_at, brackets_at, called_at, node_of, seen_node, tree_at, tree_of}
use Rattle.qasm_ast.specs.Whole.{IfThere, IsExpr, NameFits, IndexFits, ExprFits, ExprsFit}

-- ---- the same parts show the same node

pub text-append : (names more : List (List ℕ)) (k : ℕ) → k < length names → text_at (names ++ more) k ≡ text_at names k
text-append [] more k lt = absurd (omega arith)
text-append (x ∷ names) more zero lt = refl
text-append (x ∷ names) more (suc k) lt = text-append names more k (omega arith)

pub get-append : {X : Type 0} (xs ys : List X) (k : ℕ) → k < length xs → slice_get (xs ++ ys) k ≡ slice_get xs k
get-append [] ys k lt = absurd (omega arith)
get-append (x ∷ xs) ys zero lt = refl
get-append (x ∷ xs) ys (suc k) lt = get-append xs ys k (omega arith)

module _ (names more : List (List ℕ)) (sub sub' : ℕ → Tree) (n : ℕ) (same : (k : ℕ) → k < n → sub' k ≡ sub k) where
  pub ids_same : (ids : List ExprId) → All (IsExpr n) ids → trees_at sub' ids ≡ trees_at sub ids
  ids_same [] a = refl
  ids_same (id ∷ ids) a =
      let here : sub' id.0 ≡ sub id.0 = same id.0 (All-head (IsExpr n) id ids a) in
      let later : trees_at sub' ids ≡ trees_at sub ids = ids_same ids (All-tail (IsExpr n) id ids a) in
      cc

  pub some_same : (o : Option ExprId) → IfThere (IsExpr n) o → maybe_at sub' o ≡ maybe_at sub o
  some_same None f = refl
  some_same (Some id) f = let here : sub' id.0 ≡ sub id.0 = same id.0 f in cc

  index_same : (j : IndexRef) → IndexFits n j → bracket_at sub' j ≡ bracket_at sub j
  index_same (i.At id) f = let here : sub' id.0 ≡ sub id.0 = same id.0 f in cc
  index_same (i.Range start step stop place) f = rw (some_same start f.0, some_same step f.1, some_same stop f.2) refl
  index_same (i.Set ids) f = rw (ids_same ids f.each) refl

  pub indexes_same : (js : List IndexRef) → All (IndexFits n) js → brackets_at sub' js ≡ brackets_at sub js
  indexes_same [] a = refl
  indexes_same (j ∷ js) a =
      let here : bracket_at sub' j ≡ bracket_at sub j = index_same j (All-head (IndexFits n) j js a) in
      let later : brackets_at sub' js ≡ brackets_at sub js = indexes_same js (All-tail (IndexFits n) j js a) in
      cc

  pub called_same : (o : OperandName) → NameFits (length names) o → called_at (names ++ more) o ≡ called_at names o
  called_same (o.Name k) f = rw (text-append names more k f) refl
  called_same (o.Hardware k) f = refl

  pub node_same : (kind : ExprKind) (place : Span) → ExprFits (length names) n kind → node_of (names ++ more) sub' kind place ≡ node_of names sub kind place
  node_same (e.Name o) place f = rw (called_same o.name f.name, indexes_same o.index f.index.each) refl
  node_same (e.Hardware k) place f = refl
  node_same (e.Whole k) place f = refl
  node_same (e.Truth b) place f = refl
  node_same (e.Bits bs) place f = refl
  node_same (e.Unary op a) place f = let here : sub' a.0 ≡ sub a.0 = same a.0 f in cc
  node_same (e.Binary op a b) place f = let here : sub' a.0 ≡ sub a.0 = same a.0 f.0 in let there : sub' b.0 ≡ sub b.0 = same b.0 f.1 in cc
  node_same (e.Cast type a) place f = let here : sub' a.0 ≡ sub a.0 = same a.0 f.1 in let wide : maybe_at sub' type.width ≡ maybe_at sub type.width = some_same type.width f.0.fits.width in cc
  node_same (e.Call k ids) place f = rw (text-append names more k f.0, ids_same ids f.1.each) refl

-- ---- more steps, and more nodes, show the same

pub found_at : {X : Type 0} (xs : List X) (k : ℕ) → k < length xs → (x : X) × (slice_get xs k ≡ Some x)
found_at [] k lt = absurd (omega arith)
found_at (x ∷ xs) zero lt = (x, refl)
found_at (x ∷ xs) (suc k) lt = found_at xs k (omega arith)

module _ (names more : List (List ℕ)) (exprs later : List Expr) (fit : ExprsFit (length names) 0 exprs) where
  pub tree-append : (n m j : ℕ) → j < n → j < m → j < length exprs → tree_at (names ++ more) (exprs ++ later) n j ≡ tree_at names exprs m j
  tree-append zero m j lt lt' le = absurd (omega arith)
  tree-append (suc n) zero j lt lt' le = absurd (omega arith)
  tree-append (suc n) (suc m) j lt lt' le = shown (found_at exprs j le) (λ k lt''. tree-append n m k (omega arith) (omega arith) (omega arith))
    where
      shown : (x : Expr) × (slice_get exprs j ≡ Some x) → ((k : ℕ) → k < j → tree_at (names ++ more) (exprs ++ later) n k ≡ tree_at names exprs m k) → tree_at (names ++ more) (exprs ++ later) (suc n) j ≡ tree_at names exprs (suc m) j
      shown (x, found) below =
          ap (seen_node (names ++ more) (tree_at (names ++ more) (exprs ++ later) n)) (get-append exprs later j le ∙ found)
          ∙ node_same names more (tree_at names exprs m) (tree_at (names ++ more) (exprs ++ later) n) j below x.kind x.at (fit j x (omega arith) found)
          ∙ ap (seen_node names (tree_at names exprs m)) (sym found)

  pub tree_of-append : (j : ℕ) → j < length exprs → tree_of (names ++ more) (exprs ++ later) j ≡ tree_of names exprs j
  unfolding tree_of
  tree_of-append j lt = tree-append (suc j) (suc j) j (omega arith) (omega arith) lt

module _ (names : List (List ℕ)) (exprs : List Expr) (fit : ExprsFit (length names) 0 exprs) where
  -- with any number of steps that is enough
  pub tree_at-enough : (n j : ℕ) → j < n → j < length exprs → tree_at names exprs n j ≡ tree_of names exprs j
  unfolding tree_of
  tree_at-enough n j lt le =
      subst (λ ns. tree_at ns exprs n j ≡ tree_at names exprs (suc j) j) (append-nil names)
      (subst (λ es. tree_at (names ++ []) es n j ≡ tree_at names exprs (suc j) j) (append-nil exprs)
      (tree-append names [] exprs [] fit n (suc j) j lt (omega arith) le))

  -- the tree of a node, by the trees of the nodes that it names
  pub tree_of-node : (j : ℕ) (x : Expr) → slice_get exprs j ≡ Some x → tree_of names exprs j ≡ node_of names (tree_at names exprs j) x.kind x.at
  unfolding tree_of
  tree_of-node j x found = ap (seen_node names (tree_at names exprs j)) found

  -- by their trees, in which no step is counted
  pub tree_of-unfolds : (j : ℕ) (x : Expr) → j < length exprs → slice_get exprs j ≡ Some x → tree_of names exprs j ≡ node_of names (tree_of names exprs) x.kind x.at
  tree_of-unfolds j x le found =
      tree_of-node j x found
      ∙ subst (λ ns. node_of ns (tree_at names exprs j) x.kind x.at ≡ node_of names (tree_of names exprs) x.kind x.at) (append-nil names)
      (node_same names [] (tree_of names exprs) (tree_at names exprs j) j (λ k lt. tree_at-enough j k lt (omega arith)) x.kind x.at (fit j x (omega arith) found))
