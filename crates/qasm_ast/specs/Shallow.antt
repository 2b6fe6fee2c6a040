-- For private contracts alone: the level of one node, from the levels of the nodes that it names. The levels of trees
-- are those of `Level`; these are for nodes as they lie in lists.
use Rattle.std.specs.Prelude.{◌≡◌, ℕ, suc, ◌<◌, ◌≤◌, min, max, List, [], ◌∷◌, length, slice_index, All, Option}
use Rattle.qasm_ast.specs.declared.expr.ExprId.{ExprId}
use Rattle.qasm_ast.specs.declared.expr.ExprKind.{ExprKind}
use Rattle.qasm_ast.specs.declared.expr.ExprKind.TheVariants as e
use Rattle.qasm_ast.specs.declared.expr.OperandRef.{OperandRef}
use Rattle.qasm_ast.specs.declared.expr.IndexRef.{IndexRef}
use Rattle.qasm_ast.specs.declared.expr.IndexRef.TheVariants as i
use Rattle.qasm_ast.specs.declared.expr.TypeRef.{TypeRef}
use Rattle.qasm_ast.specs.declared.stmt.StmtId.{StmtId}
use Rattle.qasm_ast.specs.declared.stmt.StmtKind.{StmtKind}
use Rattle.qasm_ast.specs.declared.stmt.StmtKind.TheVariants as s
use Rattle.qasm_ast.specs.declared.stmt.Declared.{Declared}
use Rattle.qasm_ast.specs.declared.stmt.ValueRef.{ValueRef}
use Rattle.qasm_ast.specs.declared.stmt.ValueRef.TheVariants as v
use Rattle.qasm_ast.specs.declared.stmt.Modifier.{Modifier}
use Rattle.qasm_ast.specs.declared.stmt.Modifier.TheVariants as m
use Rattle.qasm_ast.specs.declared.expr.Expr.{Expr}
use Rattle.qasm_ast.specs.declared.stmt.Stmt.{Stmt}
use Rattle.qasm_ast.specs.Tree.{tree_of, statement_of}
use Rattle.qasm_ast.specs.Level.{right_level, greatest, level_if_some, level_of, stmt_level}
use Rattle.qasm_ast.specs.Whole.{AllOf, IfThere, IsExpr, IsStmt, AnyTypeFits, OperandFits, ValueFits, ModifierFits, ParamFits, ExprsFit, StmtsFit}

-- `body` gives the levels of statements
abbrev pub body_level : (ℕ → ℕ) → List StmtId → ℕ
body_level body = greatest (λ id. body id.0)

-- `sub` gives the levels of expressions
module _ (sub : ℕ → ℕ) where
  abbrev pub id_level : ExprId → ℕ
  id_level id = sub id.0

  abbrev pub ids_level : List ExprId → ℕ
  ids_level = greatest id_level

  abbrev pub some_level : Option ExprId → ℕ
  some_level = level_if_some id_level

  abbrev pub type_level : TypeRef → ℕ
  type_level type = level_if_some (λ id. suc (id_level id)) type.width

  abbrev pub index_level : IndexRef → ℕ
  index_level (i.At id) = suc (sub id.0)
  index_level (i.Range start step stop place) = suc (max (some_level start) (max (some_level step) (some_level stop)))
  index_level (i.Set ids) = suc (suc (ids_level ids))

  abbrev pub ref_level : OperandRef → ℕ
  ref_level o = greatest index_level o.index

  abbrev pub refs_level : List OperandRef → ℕ
  refs_level = greatest ref_level

  abbrev pub kind_level : ExprKind → ℕ
  kind_level (e.Name o) = ref_level o
  kind_level (e.Hardware n) = 0
  kind_level (e.Whole n) = 0
  kind_level (e.Truth b) = 0
  kind_level (e.Bits bs) = 0
  kind_level (e.Unary o a) = suc (sub a.0)
  kind_level (e.Binary o a b) = max (sub a.0) (right_level o (sub b.0))
  kind_level (e.Cast type a) = max (type_level type) (suc (sub a.0))
  kind_level (e.Call n ids) = suc (ids_level ids)

  abbrev pub valued_level : ValueRef → ℕ
  valued_level (v.Expr id) = sub id.0
  valued_level (v.Measure o) = ref_level o

  abbrev pub declared_level : List Declared → ℕ
  declared_level [] = 0
  declared_level (d ∷ ds) = 1

  abbrev pub given_level : List ExprId → ℕ
  given_level [] = 0
  given_level (id ∷ ids) = suc (ids_level (id ∷ ids))

  abbrev pub param_level : TypeRef × Declared → ℕ
  param_level p = type_level p.0

  abbrev pub mod_level : Modifier → ℕ → ℕ
  mod_level (m.Inv place) inside = suc inside
  mod_level (m.Pow id place) inside = suc (max (suc (sub id.0)) inside)
  mod_level (m.Ctrl id place) inside = suc (max (level_if_some (λ id. suc (sub id.0)) id) inside)

  abbrev pub mods_level : List Modifier → ℕ → ℕ
  mods_level [] inside = inside
  mods_level (m ∷ mods) inside = mod_level m (mods_level mods inside)

  -- `body` gives the levels of statements
  module _ (body : ℕ → ℕ) where
    abbrev pub stmt_kind_level : StmtKind → ℕ
    stmt_kind_level s.Include = 0
    stmt_kind_level (s.Qubit type name) = type_level type
    stmt_kind_level (s.Variable type name value) = max (type_level type) (level_if_some valued_level value)
    stmt_kind_level (s.Constant type name id) = max (type_level type) (sub id.0)
    stmt_kind_level (s.Output type name) = type_level type
    stmt_kind_level (s.Let name os) = refs_level os
    stmt_kind_level (s.Gate name params qs ids) = max (declared_level params) (suc (body_level body ids))
    stmt_kind_level (s.Def name params result ids) = max (suc (greatest param_level params)) (max (level_if_some type_level result) (suc (body_level body ids)))
    stmt_kind_level (s.GateCall mods name args os) = mods_level mods (max (given_level args) (refs_level os))
    stmt_kind_level (s.Barrier os) = refs_level os
    stmt_kind_level (s.Reset o) = ref_level o
    stmt_kind_level (s.Measure o target) = max (ref_level o) (level_if_some ref_level target)
    stmt_kind_level (s.Assign target op value) = max (ref_level target) (valued_level value)
    stmt_kind_level (s.Call id) = sub id.0
    stmt_kind_level (s.If id taken other) = suc (max (sub id.0) (max (body_level body taken) (body_level body other)))
    stmt_kind_level (s.While id ids) = suc (max (sub id.0) (body_level body ids))
    stmt_kind_level (s.ForRange type name start step stop ids) = max (type_level type) (suc (max (max (sub start.0) (max (some_level step) (sub stop.0))) (body_level body ids)))
    stmt_kind_level (s.ForSet type name ids body_ids) = max (type_level type) (suc (max (ids_level ids) (body_level body body_ids)))
    stmt_kind_level s.Break = 0
    stmt_kind_level s.Continue = 0
    stmt_kind_level s.End = 0
    stmt_kind_level (s.Return value) = level_if_some valued_level value

-- The numbers in a statement are in range: of names, of expressions, and of the statements in its bodies.
module _ (names exprs bodies : ℕ) where
  abbrev pub StmtNames : StmtKind → Type 0
  StmtNames s.Include = Unit {0}
  StmtNames (s.Qubit type name) = AnyTypeFits exprs type
  StmtNames (s.Variable type name value) = AnyTypeFits exprs type × IfThere (ValueFits names exprs) value
  StmtNames (s.Constant type name id) = AnyTypeFits exprs type × (id.0 < exprs)
  StmtNames (s.Output type name) = AnyTypeFits exprs type
  StmtNames (s.Let name os) = AllOf (OperandFits names exprs) os
  StmtNames (s.Gate name params qs body) = All (IsStmt bodies) body
  StmtNames (s.Def name params result body) = AllOf (ParamFits names exprs) params × IfThere (AnyTypeFits exprs) result × All (IsStmt bodies) body
  StmtNames (s.GateCall mods name ids os) = AllOf (ModifierFits exprs) mods × AllOf (IsExpr exprs) ids × AllOf (OperandFits names exprs) os
  StmtNames (s.Barrier os) = AllOf (OperandFits names exprs) os
  StmtNames (s.Reset o) = OperandFits names exprs o
  StmtNames (s.Measure o target) = OperandFits names exprs o × IfThere (OperandFits names exprs) target
  StmtNames (s.Assign target op value) = OperandFits names exprs target × ValueFits names exprs value
  StmtNames (s.Call id) = id.0 < exprs
  StmtNames (s.If id taken other) = (id.0 < exprs) × All (IsStmt bodies) taken × All (IsStmt bodies) other
  StmtNames (s.While id body) = (id.0 < exprs) × All (IsStmt bodies) body
  StmtNames (s.ForRange type name start step stop body) = AnyTypeFits exprs type × (start.0 < exprs) × IfThere (IsExpr exprs) step × (stop.0 < exprs) × All (IsStmt bodies) body
  StmtNames (s.ForSet type name ids body) = AnyTypeFits exprs type × AllOf (IsExpr exprs) ids × All (IsStmt bodies) body
  StmtNames s.Break = Unit {0}
  StmtNames s.Continue = Unit {0}
  StmtNames s.End = Unit {0}
  StmtNames (s.Return value) = IfThere (ValueFits names exprs) value

-- of a statement with a body
abbrev pub IfBlock : StmtKind → Type 0 → Type 0
IfBlock (s.Gate name params qs ids) P = P
IfBlock (s.Def name params result ids) P = P
IfBlock (s.If id taken other) P = P
IfBlock (s.While id ids) P = P
IfBlock (s.ForRange type name start step stop ids) P = P
IfBlock (s.ForSet type name ids body_ids) P = P
IfBlock _ P = Unit {0}

-- the levels of the first expressions, cut at 65
pub record ExprLevels (exprs : List Expr) (levels : List ℕ) (n : ℕ) : Type 0 where
  pub count : length levels ≡ n
  pub low : All (λ k. k ≤ 65) levels
  pub seen : (names : List (List ℕ)) → ExprsFit (length names) 0 exprs → (j : ℕ) → j < n → slice_index levels j ≡ min 65 (level_of (tree_of names exprs j))

-- the levels of the first statements, cut at 65
pub record StmtLevels (exprs : List Expr) (stmts : List Stmt) (levels : List ℕ) (n : ℕ) : Type 0 where
  pub count : length levels ≡ n
  pub low : All (λ k. k ≤ 65) levels
  pub seen : (names : List (List ℕ)) → ExprsFit (length names) 0 exprs → StmtsFit (length names) exprs stmts → (j : ℕ) → j < n → slice_index levels j ≡ min 65 (stmt_level (statement_of names exprs stmts j))
