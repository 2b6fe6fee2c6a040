-- What is seen stays while the lists of names, expressions and statements grow.
use Rattle.std.proofs.Common.{◌≡◌, ℕ, zero, suc, ◌<◌, ◌++◌, List, [], ◌∷◌, length, map, Option, Some, None, slice_get, refl, sym, ap, ◌∙◌, arith}
use Rattle.std.specs.Prelude.{All}
use Rattle.std.proofs.lemmas.List.Elements.{All-head, All-tail, All-weaker}
use Rattle.qq_base.specs.declared.refusal.Span.{Span}
use Rattle.qasm_ast.specs.declared.expr.Expr.{Expr}
use Rattle.qasm_ast.specs.declared.expr.ExprId.{ExprId}
use Rattle.qasm_ast.specs.declared.expr.OperandRef.{OperandRef}
use Rattle.qasm_ast.specs.declared.expr.TypeRef.{TypeRef}
use Rattle.qasm_ast.specs.declared.stmt.Stmt.{Stmt}
use Rattle.qasm_ast.specs.declared.stmt.StmtId.{StmtId}
use Rattle.qasm_ast.specs.declared.stmt.StmtKind.{StmtKind}
use Rattle.qasm_ast.specs.declared.stmt.StmtKind.TheVariants as s
use Rattle.qasm_ast.specs.declared.stmt.Declared.{Declared}
use Rattle.qasm_ast.specs.declared.stmt.ValueRef.{ValueRef}
use Rattle.qasm_ast.specs.declared.stmt.ValueRef.TheVariants as v
use Rattle.qasm_ast.specs.declared.stmt.Modifier.{Modifier}
use Rattle.qasm_ast.specs.declared.stmt.Modifier.TheVariants as m
use Rattle.qasm_ast.specs.Tree.{Tree, tree_of, trees_at, name_of, scalar_of, operand_of, value_of, change_of, parameter_of, if_some, Statement, statements_at, stmt_of, seen_stmt, stmt_at, statement_of}
use Rattle.qasm_ast.specs.Whole.{IfThere, TypeFits, IsExpr, IsStmt, IsGateMember, OperandFits, AnyTypeFits, DeclaredFits, ValueFits, ModifierFits, ParamFits, ExprsFit, StmtFits, StmtsFit}
use Rattle.qasm_ast.proofs.Steps.{text-append, get-append, ids_same, some_same, indexes_same, called_same, found_at, tree_of-append}

map_same : {X Y : Type 0} (P : X → Type 0) (f g : X → Y) → ((x : X) → P x → f x ≡ g x) → (xs : List X) → All P xs → map f xs ≡ map g xs
map_same P f g each [] a = refl
map_same P f g each (x ∷ xs) a =
    let here : f x ≡ g x = each x (All-head P x xs a) in
    let later : map f xs ≡ map g xs = map_same P f g each xs (All-tail P x xs a) in
    cc

if_some_same : {X Y : Type 0} (P : X → Type 0) (f g : X → Y) → ((x : X) → P x → f x ≡ g x) → (o : Option X) → IfThere P o → if_some f o ≡ if_some g o
if_some_same P f g each None h = refl
if_some_same P f g each (Some x) h = let here : f x ≡ g x = each x h in cc

module _ (names more : List (List ℕ)) (sub sub' : ℕ → Tree) (n : ℕ) (same : (k : ℕ) → k < n → sub' k ≡ sub k) where
  pub name_stays : (d : Declared) → DeclaredFits (length names) d → name_of (names ++ more) sub' d ≡ name_of names sub d
  name_stays d f = rw (text-append names more d.name f) refl

  pub scalar_stays : (type : TypeRef) → AnyTypeFits n type → scalar_of (names ++ more) sub' type ≡ scalar_of names sub type
  scalar_stays type f = rw (some_same names more sub sub' n same type.width f.width) refl

  pub operand_stays : (o : OperandRef) → OperandFits (length names) n o → operand_of (names ++ more) sub' o ≡ operand_of names sub o
  operand_stays o f = rw (called_same names more sub sub' n same o.name f.name, indexes_same names more sub sub' n same o.index f.index.each) refl

  pub value_stays : (value : ValueRef) → ValueFits (length names) n value → value_of (names ++ more) sub' value ≡ value_of names sub value
  value_stays (v.Expr id) f = rw (same id.0 f) refl
  value_stays (v.Measure o) f = rw (operand_stays o f) refl

  pub change_stays : (h : Modifier) → ModifierFits n h → change_of (names ++ more) sub' h ≡ change_of names sub h
  change_stays (m.Inv place) f = refl
  change_stays (m.Pow id place) f = rw (same id.0 f) refl
  change_stays (m.Ctrl id place) f = rw (some_same names more sub sub' n same id f) refl

  pub parameter_stays : (p : TypeRef × Declared) → ParamFits (length names) n p → parameter_of (names ++ more) sub' p ≡ parameter_of names sub p
  parameter_stays p f = rw (scalar_stays p.0 f.0, name_stays p.1 f.1) refl

-- ---- statements

module _ (names more : List (List ℕ)) (exprs : List Expr) (sub sub' : ℕ → Tree) (same : (k : ℕ) → k < length exprs → sub' k ≡ sub k) (body body' : ℕ → Statement) (stmts : List Stmt) (count : ℕ) (same_body : (k : ℕ) → k < count → body' k ≡ body k) where
  abbrev wider : List (List ℕ)
  wider = names ++ more

  bodies : (ids : List StmtId) → All (IsStmt count) ids → statements_at wider sub' body' ids ≡ statements_at names sub body ids
  bodies [] a = refl
  bodies (id ∷ ids) a =
      let here : body' id.0 ≡ body id.0 = same_body id.0 (All-head (IsStmt count) id ids a) in
      let later : statements_at wider sub' body' ids ≡ statements_at names sub body ids = bodies ids (All-tail (IsStmt count) id ids a) in
      cc

  members : (ids : List StmtId) → All (IsGateMember stmts count) ids → statements_at wider sub' body' ids ≡ statements_at names sub body ids
  members ids a = bodies ids (All-weaker (IsGateMember stmts count) (IsStmt count) (λ id h. h.0) ids a)

  a_name : (d : Declared) → DeclaredFits (length names) d → name_of wider sub' d ≡ name_of names sub d
  a_name = name_stays names more sub sub' (length exprs) same

  a_type : (type : TypeRef) → AnyTypeFits (length exprs) type → scalar_of wider sub' type ≡ scalar_of names sub type
  a_type = scalar_stays names more sub sub' (length exprs) same

  an_operand : (o : OperandRef) → OperandFits (length names) (length exprs) o → operand_of wider sub' o ≡ operand_of names sub o
  an_operand = operand_stays names more sub sub' (length exprs) same

  a_value : (value : ValueRef) → ValueFits (length names) (length exprs) value → value_of wider sub' value ≡ value_of names sub value
  a_value = value_stays names more sub sub' (length exprs) same

  some_names : (ds : List Declared) → All (DeclaredFits (length names)) ds → map (name_of wider sub') ds ≡ map (name_of names sub) ds
  some_names = map_same (DeclaredFits (length names)) (name_of wider sub') (name_of names sub) a_name

  some_operands : (os : List OperandRef) → All (OperandFits (length names) (length exprs)) os → map (operand_of wider sub') os ≡ map (operand_of names sub) os
  some_operands = map_same (OperandFits (length names) (length exprs)) (operand_of wider sub') (operand_of names sub) an_operand

  some_value : (value : Option ValueRef) → IfThere (ValueFits (length names) (length exprs)) value → if_some (value_of wider sub') value ≡ if_some (value_of names sub) value
  some_value = if_some_same (ValueFits (length names) (length exprs)) (value_of wider sub') (value_of names sub) a_value

  ids_stay : (ids : List ExprId) → All (IsExpr (length exprs)) ids → trees_at sub' ids ≡ trees_at sub ids
  ids_stay = ids_same names more sub sub' (length exprs) same

  pub stmt_stays : (kind : StmtKind) (place close : Span) → StmtFits (length names) exprs stmts count kind → stmt_of wider sub' body' kind place close ≡ stmt_of names sub body kind place close
  stmt_stays s.Include place close f = refl
  stmt_stays (s.Qubit type name) place close f = rw (a_type type f.0.fits, a_name name f.1) refl
  stmt_stays (s.Variable type name value) place close f = rw (a_type type f.0.fits, a_name name f.1, some_value value f.2) refl
  stmt_stays (s.Constant type name id) place close f = rw (a_type type f.0.fits, a_name name f.1, same id.0 f.2) refl
  stmt_stays (s.Output type name) place close f = rw (a_type type f.0.fits, a_name name f.1) refl
  stmt_stays (s.Let name os) place close f = rw (a_name name f.0, some_operands os f.1.each) refl
  stmt_stays (s.Gate name params qs ids) place close f = rw (a_name name f.0, some_names params f.1.each, some_names qs f.2.each, members ids f.3.each) refl
  stmt_stays (s.Def name params result ids) place close f =
      rw (
        a_name name f.0,
        map_same (ParamFits (length names) (length exprs)) (parameter_of wider sub') (parameter_of names sub) (parameter_stays names more sub sub' (length exprs) same) params f.1.each,
        if_some_same (TypeFits (length exprs)) (scalar_of wider sub') (scalar_of names sub) (λ type h. a_type type h.fits) result f.2,
        bodies ids f.3.each,
      ) refl
  stmt_stays (s.GateCall mods name args os) place close f =
      rw (
        map_same (ModifierFits (length exprs)) (change_of wider sub') (change_of names sub) (change_stays names more sub sub' (length exprs) same) mods f.0.each,
        a_name name f.1,
        ids_stay args f.2.each,
        some_operands os f.3.each,
      ) refl
  stmt_stays (s.Barrier os) place close f = rw (some_operands os f.each) refl
  stmt_stays (s.Reset o) place close f = rw (an_operand o f) refl
  stmt_stays (s.Measure o target) place close f = rw (an_operand o f.0, if_some_same (OperandFits (length names) (length exprs)) (operand_of wider sub') (operand_of names sub) an_operand target f.1) refl
  stmt_stays (s.Assign target o value) place close f = rw (an_operand target f.0, a_value value f.2) refl
  stmt_stays (s.Call id) place close f = rw (same id.0 f.0) refl
  stmt_stays (s.If id taken other) place close f = rw (same id.0 f.0, bodies taken f.1.each, bodies other f.2.each) refl
  stmt_stays (s.While id ids) place close f = rw (same id.0 f.0, bodies ids f.1.each) refl
  stmt_stays (s.ForRange type name start step stop ids) place close f =
      rw (a_type type f.0.fits, a_name name f.1, same start.0 f.2, some_same names more sub sub' (length exprs) same step f.3, same stop.0 f.4, bodies ids f.5.each) refl
  stmt_stays (s.ForSet type name ids body_ids) place close f = rw (a_type type f.0.fits, a_name name f.1, ids_stay ids f.2.each, bodies body_ids f.3.each) refl
  stmt_stays s.Break place close f = refl
  stmt_stays s.Continue place close f = refl
  stmt_stays s.End place close f = refl
  stmt_stays (s.Return value) place close f = rw (some_value value f) refl

module _ (names more : List (List ℕ)) (exprs later : List Expr) (stmts behind : List Stmt) (fit : ExprsFit (length names) 0 exprs) (fits : StmtsFit (length names) exprs stmts) where
  steps_stay : (n m j : ℕ) → j < n → j < m → j < length stmts → stmt_at (names ++ more) (tree_of (names ++ more) (exprs ++ later)) (stmts ++ behind) n j ≡ stmt_at names (tree_of names exprs) stmts m j
  steps_stay zero m j lt lt' le = absurd (omega arith)
  steps_stay (suc n) zero j lt lt' le = absurd (omega arith)
  steps_stay (suc n) (suc m) j lt lt' le = shown (found_at stmts j le) (λ k lt''. steps_stay n m k (omega arith) (omega arith) (omega arith))
    where
      shown : (x : Stmt) × (slice_get stmts j ≡ Some x) → ((k : ℕ) → k < j → stmt_at (names ++ more) (tree_of (names ++ more) (exprs ++ later)) (stmts ++ behind) n k ≡ stmt_at names (tree_of names exprs) stmts m k) → stmt_at (names ++ more) (tree_of (names ++ more) (exprs ++ later)) (stmts ++ behind) (suc n) j ≡ stmt_at names (tree_of names exprs) stmts (suc m) j
      shown (x, found) below =
          ap (seen_stmt (names ++ more) (tree_of (names ++ more) (exprs ++ later)) (stmt_at (names ++ more) (tree_of (names ++ more) (exprs ++ later)) (stmts ++ behind) n)) (get-append stmts behind j le ∙ found)
          ∙ stmt_stays names more exprs (tree_of names exprs) (tree_of (names ++ more) (exprs ++ later)) (λ k lt''. tree_of-append names more exprs later fit k lt'') (stmt_at names (tree_of names exprs) stmts m) (stmt_at (names ++ more) (tree_of (names ++ more) (exprs ++ later)) (stmts ++ behind) n) stmts j below x.kind x.at x.close (fits j x found)
          ∙ ap (seen_stmt names (tree_of names exprs) (stmt_at names (tree_of names exprs) stmts m)) (sym found)

  pub statement_of-append : (j : ℕ) → j < length stmts → statement_of (names ++ more) (exprs ++ later) (stmts ++ behind) j ≡ statement_of names exprs stmts j
  unfolding statement_of
  statement_of-append j lt = steps_stay (suc j) (suc j) j (omega arith) (omega arith) lt

  pub statements_stay : (ids : List StmtId) → All (IsStmt (length stmts)) ids → statements_at (names ++ more) (tree_of (names ++ more) (exprs ++ later)) (statement_of (names ++ more) (exprs ++ later) (stmts ++ behind)) ids ≡ statements_at names (tree_of names exprs) (statement_of names exprs stmts) ids
  statements_stay [] a = refl
  statements_stay (id ∷ ids) a =
      let here = statement_of-append id.0 (All-head (IsStmt (length stmts)) id ids a) in
      let later' = statements_stay ids (All-tail (IsStmt (length stmts)) id ids a) in
      rw (here, later') refl
