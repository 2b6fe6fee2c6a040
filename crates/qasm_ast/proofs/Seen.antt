-- What is seen of a node depends only on what is seen of the nodes that it names, and so does its level.
use Rattle.std.proofs.Common.{◌≡◌, ℕ, suc, ◌<◌, max, min, List, [], ◌∷◌, length, map, Option, Some, None, refl, arith}
use Rattle.std.specs.Prelude.{All}
use Rattle.std.proofs.lemmas.List.Elements.{All-head, All-tail, All-weaker}
use Rattle.qq_base.specs.declared.refusal.Span.{Span}
use Rattle.qasm_ast.specs.declared.expr.Expr.{Expr}
use Rattle.qasm_ast.specs.declared.expr.ExprId.{ExprId}
use Rattle.qasm_ast.specs.declared.expr.ExprKind.{ExprKind}
use Rattle.qasm_ast.specs.declared.expr.ExprKind.TheVariants as e
use Rattle.qasm_ast.specs.declared.expr.BinaryOp.{BinaryOp}
use Rattle.qasm_ast.specs.declared.expr.BinaryOp.TheVariants as op
use Rattle.qasm_ast.specs.declared.expr.OperandRef.{OperandRef}
use Rattle.qasm_ast.specs.declared.expr.IndexRef.{IndexRef}
use Rattle.qasm_ast.specs.declared.expr.IndexRef.TheVariants as i
use Rattle.qasm_ast.specs.declared.expr.TypeRef.{TypeRef}
use Rattle.qasm_ast.specs.declared.stmt.Stmt.{Stmt}
use Rattle.qasm_ast.specs.declared.stmt.StmtId.{StmtId}
use Rattle.qasm_ast.specs.declared.stmt.StmtKind.{StmtKind}
use Rattle.qasm_ast.specs.declared.stmt.StmtKind.TheVariants as s
use Rattle.qasm_ast.specs.declared.stmt.Declared.{Declared}
use Rattle.qasm_ast.specs.declared.stmt.ValueRef.{ValueRef}
use Rattle.qasm_ast.specs.declared.stmt.ValueRef.TheVariants as v
use Rattle.qasm_ast.specs.declared.stmt.Modifier.{Modifier}
use Rattle.qasm_ast.specs.declared.stmt.Modifier.TheVariants as m
use Rattle.qasm_ast.specs.Tree.{Tree, trees_at, maybe_at, bracket_at, brackets_at, node_of, name_of, scalar_of, operand_of, value_of, change_of, parameter_of, Statement, statements_at, stmt_of, if_some}
use Rattle.qasm_ast.specs.Level.{right_level, level_of, trees_level, maybe_level, width_level, bracket_level, brackets_level, greatest, level_if_some, scalar_level, operand_level, operands_level, value_level, names_level, arguments_level, parameter_level, changes_level, stmt_level, stmts_level}
use Rattle.qasm_ast.specs.Shallow.{body_level, ids_level, some_level, type_level, index_level, ref_level, refs_level, kind_level, valued_level, declared_level, given_level, param_level, mods_level, stmt_kind_level, StmtNames}
use Rattle.qasm_ast.specs.Whole.{IfThere, IsExpr, IsStmt, IndexFits, OperandFits, AnyTypeFits, TypeFits, ExprFits, ValueFits, ModifierFits, ParamFits, IsGateMember, StmtFits}

cut_max : (a b x y : ℕ) → min 65 a ≡ min 65 x → min 65 b ≡ min 65 y → min 65 (max a b) ≡ min 65 (max x y)
cut_max a b x y e f = omega arith

cut_suc : (a x : ℕ) → min 65 a ≡ min 65 x → min 65 (suc a) ≡ min 65 (suc x)
cut_suc a x e = omega arith

cut_seen : (a x : ℕ) → a ≡ min 65 x → min 65 a ≡ min 65 x
cut_seen a x e = omega arith

-- levels inside modifiers, cut or not
pub mods-cut : (sub : ℕ → ℕ) (mods : List Modifier) (x y : ℕ) → min 65 x ≡ min 65 y → min 65 (mods_level sub mods x) ≡ min 65 (mods_level sub mods y)
mods-cut sub [] x y e = e
mods-cut sub (m.Inv place ∷ mods) x y e = let r : min 65 (mods_level sub mods x) ≡ min 65 (mods_level sub mods y) = mods-cut sub mods x y e in omega arith
mods-cut sub (m.Pow id place ∷ mods) x y e = let r : min 65 (mods_level sub mods x) ≡ min 65 (mods_level sub mods y) = mods-cut sub mods x y e in omega arith
mods-cut sub (m.Ctrl id place ∷ mods) x y e = let r : min 65 (mods_level sub mods x) ≡ min 65 (mods_level sub mods y) = mods-cut sub mods x y e in omega arith

-- ---- the level of a node, from levels of its parts that are cut at 65

module _ (names : List (List ℕ)) (sub : ℕ → Tree) (h : ℕ → ℕ) (n : ℕ) (seen : (k : ℕ) → k < n → h k ≡ min 65 (level_of (sub k))) where
  ids_seen : (ids : List ExprId) → All (IsExpr n) ids → min 65 (ids_level h ids) ≡ min 65 (trees_level (trees_at sub ids))
  ids_seen [] a = refl
  ids_seen (id ∷ ids) a =
      let here : h id.0 ≡ min 65 (level_of (sub id.0)) = seen id.0 (All-head (IsExpr n) id ids a) in
      let later : min 65 (ids_level h ids) ≡ min 65 (trees_level (trees_at sub ids)) = ids_seen ids (All-tail (IsExpr n) id ids a) in
      omega arith

  some_seen : (o : Option ExprId) → IfThere (IsExpr n) o → min 65 (some_level h o) ≡ min 65 (maybe_level (maybe_at sub o))
  some_seen None f = refl
  some_seen (Some id) f = omega (arith, seen id.0 f)

  width_seen : (o : Option ExprId) → IfThere (IsExpr n) o → min 65 (level_if_some (λ (id : ExprId). suc (h id.0)) o) ≡ min 65 (width_level (maybe_at sub o))
  width_seen None f = refl
  width_seen (Some id) f = omega (arith, seen id.0 f)

  index_seen : (j : IndexRef) → IndexFits n j → min 65 (index_level h j) ≡ min 65 (bracket_level (bracket_at sub j))
  index_seen (i.At id) f = omega (arith, seen id.0 f)
  index_seen (i.Range start step stop place) f = omega (arith, some_seen start f.0, some_seen step f.1, some_seen stop f.2)
  index_seen (i.Set ids) f = omega (arith, ids_seen ids f.each)

  brackets_seen : (js : List IndexRef) → All (IndexFits n) js → min 65 (greatest (index_level h) js) ≡ min 65 (brackets_level (brackets_at sub js))
  brackets_seen [] a = refl
  brackets_seen (j ∷ js) a = omega (arith, index_seen j (All-head (IndexFits n) j js a), brackets_seen js (All-tail (IndexFits n) j js a))

  ref_seen : (k : ℕ) (o : OperandRef) → OperandFits k n o → min 65 (ref_level h o) ≡ min 65 (operand_level (operand_of names sub o))
  ref_seen k o f = brackets_seen o.index f.index.each

  right_seen : (o : BinaryOp) (a b : ℕ) → min 65 a ≡ min 65 b → min 65 (right_level o a) ≡ min 65 (right_level o b)
  right_seen op.Power a b e = omega arith
  right_seen _ a b e = e

  pub kind_seen : (k : ℕ) (kind : ExprKind) (place : Span) → ExprFits k n kind → min 65 (kind_level h kind) ≡ min 65 (level_of (node_of names sub kind place))
  kind_seen k (e.Name o) place f = ref_seen k o f
  kind_seen k (e.Hardware x) place f = refl
  kind_seen k (e.Whole x) place f = refl
  kind_seen k (e.Truth b) place f = refl
  kind_seen k (e.Bits bs) place f = refl
  kind_seen k (e.Unary o a) place f = omega (arith, seen a.0 f)
  kind_seen k (e.Binary o a b) place f =
      let right : min 65 (h b.0) ≡ min 65 (level_of (sub b.0)) = omega (arith, seen b.0 f.1) in
      omega (arith, seen a.0 f.0, right_seen o (h b.0) (level_of (sub b.0)) right)
  kind_seen k (e.Cast type a) place f = omega (arith, seen a.0 f.1, width_seen type.width f.0.fits.width)
  kind_seen k (e.Call x ids) place f = omega (arith, ids_seen ids f.1.each)

  -- ---- statements

  refs_seen : (k : ℕ) (os : List OperandRef) → All (OperandFits k n) os → min 65 (refs_level h os) ≡ min 65 (operands_level (map (operand_of names sub) os))
  refs_seen k [] a = refl
  refs_seen k (o ∷ os) a = omega (arith, ref_seen k o (All-head (OperandFits k n) o os a), refs_seen k os (All-tail (OperandFits k n) o os a))

  type_seen : (type : TypeRef) → AnyTypeFits n type → min 65 (type_level h type) ≡ min 65 (scalar_level (scalar_of names sub type))
  type_seen type f = width_seen type.width f.width

  value_seen : (k : ℕ) (value : ValueRef) → ValueFits k n value → min 65 (valued_level h value) ≡ min 65 (value_level (value_of names sub value))
  value_seen k (v.Expr id) f = omega (arith, seen id.0 f)
  value_seen k (v.Measure o) f = ref_seen k o f

  value_if_seen : (k : ℕ) (value : Option ValueRef) → IfThere (ValueFits k n) value → min 65 (level_if_some (valued_level h) value) ≡ min 65 (level_if_some value_level (if_some (value_of names sub) value))
  value_if_seen k None f = refl
  value_if_seen k (Some value) f = value_seen k value f

  operand_if_seen : (k : ℕ) (o : Option OperandRef) → IfThere (OperandFits k n) o → min 65 (level_if_some (ref_level h) o) ≡ min 65 (level_if_some operand_level (if_some (operand_of names sub) o))
  operand_if_seen k None f = refl
  operand_if_seen k (Some o) f = ref_seen k o f

  type_if_seen : (o : Option TypeRef) → IfThere (AnyTypeFits n) o → min 65 (level_if_some (type_level h) o) ≡ min 65 (level_if_some scalar_level (if_some (scalar_of names sub) o))
  type_if_seen None f = refl
  type_if_seen (Some type) f = type_seen type f

  params_seen : (k : ℕ) (ps : List (TypeRef × Declared)) → All (ParamFits k n) ps → min 65 (greatest (param_level h) ps) ≡ min 65 (greatest parameter_level (map (parameter_of names sub) ps))
  params_seen k [] a = refl
  params_seen k (p ∷ ps) a = omega (arith, type_seen p.0 (All-head (ParamFits k n) p ps a).0, params_seen k ps (All-tail (ParamFits k n) p ps a))

  declared_seen : (ds : List Declared) → declared_level h ds ≡ names_level (map (name_of names sub) ds)
  declared_seen [] = refl
  declared_seen (d ∷ ds) = refl

  given_seen : (ids : List ExprId) → All (IsExpr n) ids → min 65 (given_level h ids) ≡ min 65 (arguments_level (trees_at sub ids))
  given_seen [] a = refl
  given_seen (id ∷ ids) a = let all : min 65 (ids_level h (id ∷ ids)) ≡ min 65 (trees_level (trees_at sub (id ∷ ids))) = ids_seen (id ∷ ids) a in omega arith

  mods_seen : (mods : List Modifier) (x y : ℕ) → All (ModifierFits n) mods → min 65 x ≡ min 65 y → min 65 (mods_level h mods x) ≡ min 65 (changes_level (map (change_of names sub) mods) y)
  mods_seen [] x y a e = e
  mods_seen (m.Inv place ∷ mods) x y a e = omega (arith, mods_seen mods x y (All-tail (ModifierFits n) _ mods a) e)
  mods_seen (m.Pow id place ∷ mods) x y a e = omega (arith, mods_seen mods x y (All-tail (ModifierFits n) _ mods a) e, seen id.0 (All-head (ModifierFits n) (m.Pow id place) mods a))
  mods_seen (m.Ctrl id place ∷ mods) x y a e = omega (arith, mods_seen mods x y (All-tail (ModifierFits n) _ mods a) e, width_seen id (All-head (ModifierFits n) (m.Ctrl id place) mods a))

  module _ (body : ℕ → Statement) (hb : ℕ → ℕ) (count : ℕ) (seen_body : (k : ℕ) → k < count → hb k ≡ min 65 (stmt_level (body k))) where
    pub body_seen : (ids : List StmtId) → All (IsStmt count) ids → min 65 (body_level hb ids) ≡ min 65 (stmts_level (statements_at names sub body ids))
    body_seen [] a = refl
    body_seen (id ∷ ids) a = omega (arith, seen_body id.0 (All-head (IsStmt count) id ids a), body_seen ids (All-tail (IsStmt count) id ids a))

    pub stmt_seen : (k : ℕ) (kind : StmtKind) (place close : Span) → StmtNames k n count kind → min 65 (stmt_kind_level h hb kind) ≡ min 65 (stmt_level (stmt_of names sub body kind place close))
    stmt_seen k s.Include place close f = refl
    stmt_seen k (s.Qubit type name) place close f = type_seen type f
    stmt_seen k (s.Variable type name value) place close f = omega (arith, type_seen type f.0, value_if_seen k value f.1)
    stmt_seen k (s.Constant type name id) place close f = omega (arith, type_seen type f.0, seen id.0 f.1)
    stmt_seen k (s.Output type name) place close f = type_seen type f
    stmt_seen k (s.Let name os) place close f = refs_seen k os f.each
    stmt_seen k (s.Gate name params qs ids) place close f = omega (arith, declared_seen params, body_seen ids f)
    stmt_seen k (s.Def name params result ids) place close f = omega (arith, params_seen k params f.0.each, type_if_seen result f.1, body_seen ids f.2)
    stmt_seen k (s.GateCall mods name args os) place close f =
        mods_seen mods (max (given_level h args) (refs_level h os)) (max (arguments_level (trees_at sub args)) (operands_level (map (operand_of names sub) os))) f.0.each
        (omega (arith, given_seen args f.1.each, refs_seen k os f.2.each))
    stmt_seen k (s.Barrier os) place close f = refs_seen k os f.each
    stmt_seen k (s.Reset o) place close f = ref_seen k o f
    stmt_seen k (s.Measure o target) place close f = omega (arith, ref_seen k o f.0, operand_if_seen k target f.1)
    stmt_seen k (s.Assign target o value) place close f = omega (arith, ref_seen k target f.0, value_seen k value f.1)
    stmt_seen k (s.Call id) place close f = omega (arith, seen id.0 f)
    stmt_seen k (s.If id taken other) place close f = omega (arith, seen id.0 f.0, body_seen taken f.1, body_seen other f.2)
    stmt_seen k (s.While id ids) place close f = omega (arith, seen id.0 f.0, body_seen ids f.1)
    stmt_seen k (s.ForRange type name start step stop ids) place close f =
        cut_max _ _ _ _ (type_seen type f.0) (cut_suc _ _ (cut_max _ _ _ _ (cut_max _ _ _ _ (cut_seen _ _ (seen start.0 f.1)) (cut_max _ _ _ _ (some_seen step f.2) (cut_seen _ _ (seen stop.0 f.3)))) (body_seen ids f.4)))
    stmt_seen k (s.ForSet type name ids body_ids) place close f = omega (arith, type_seen type f.0, ids_seen ids f.1.each, body_seen body_ids f.2)
    stmt_seen k s.Break place close f = refl
    stmt_seen k s.Continue place close f = refl
    stmt_seen k s.End place close f = refl
    stmt_seen k (s.Return value) place close f = value_if_seen k value f

-- what a statement names is in range
module _ (names : ℕ) (exprs : List Expr) (stmts : List Stmt) (n : ℕ) where
  pub in_range : (kind : StmtKind) → StmtFits names exprs stmts n kind → StmtNames names (length exprs) n kind
  in_range s.Include f = f
  in_range (s.Qubit type name) f = f.0.fits
  in_range (s.Variable type name value) f = (f.0.fits, f.2)
  in_range (s.Constant type name id) f = (f.0.fits, f.2)
  in_range (s.Output type name) f = f.0.fits
  in_range (s.Let name os) f = f.1
  in_range (s.Gate name params qs ids) f = All-weaker (IsGateMember stmts n) (IsStmt n) (λ id m. m.0) ids f.3.each
  in_range (s.Def name params result ids) f = (f.1, of_result result f.2, f.3.each)
    where
      of_result : (o : Option TypeRef) → IfThere (TypeFits (length exprs)) o → IfThere (AnyTypeFits (length exprs)) o
      of_result None g = g
      of_result (Some type) g = g.fits
  in_range (s.GateCall mods name args os) f = (f.0, f.2, f.3)
  in_range (s.Barrier os) f = f
  in_range (s.Reset o) f = f
  in_range (s.Measure o target) f = f
  in_range (s.Assign target o value) f = (f.0, f.2)
  in_range (s.Call id) f = f.0
  in_range (s.If id taken other) f = (f.0, f.1.each, f.2.each)
  in_range (s.While id ids) f = (f.0, f.1.each)
  in_range (s.ForRange type name start step stop ids) f = (f.0.fits, f.2, f.3, f.4, f.5.each)
  in_range (s.ForSet type name ids body_ids) f = (f.0.fits, f.2, f.3.each)
  in_range s.Break f = f
  in_range s.Continue f = f
  in_range s.End f = f
  in_range (s.Return value) f = f
