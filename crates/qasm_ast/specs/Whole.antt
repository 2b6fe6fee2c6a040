-- What a program is, seen as lists, and what holds of each.
use Rattle.std.specs.Prelude.{◌≡◌, ◌≢◌, ℕ, ◌^◌, ◌<◌, ◌≤◌, List, length, All, Option, Some, None, slice_get}
use Rattle.qq_base.specs.declared.refusal.Span.{Span}
use Rattle.qasm_ast.specs.declared.expr.Expr.{Expr}
use Rattle.qasm_ast.specs.declared.expr.ExprId.{ExprId}
use Rattle.qasm_ast.specs.declared.expr.ExprKind.{ExprKind}
use Rattle.qasm_ast.specs.declared.expr.ExprKind.TheVariants as e
use Rattle.qasm_ast.specs.declared.expr.OperandRef.{OperandRef}
use Rattle.qasm_ast.specs.declared.expr.OperandName.{OperandName}
use Rattle.qasm_ast.specs.declared.expr.OperandName.TheVariants as o
use Rattle.qasm_ast.specs.declared.expr.IndexRef.{IndexRef}
use Rattle.qasm_ast.specs.declared.expr.IndexRef.TheVariants as i
use Rattle.qasm_ast.specs.declared.expr.TypeRef.{TypeRef}
use Rattle.qasm_ast.specs.declared.expr.Base.{Base}
use Rattle.qasm_ast.specs.declared.expr.Base.TheVariants as b
use Rattle.qasm_ast.specs.declared.expr.BinaryOp.{BinaryOp}
use Rattle.qasm_ast.specs.declared.stmt.Stmt.{Stmt}
use Rattle.qasm_ast.specs.declared.stmt.StmtId.{StmtId}
use Rattle.qasm_ast.specs.declared.stmt.StmtKind.{StmtKind}
use Rattle.qasm_ast.specs.declared.stmt.StmtKind.TheVariants as s
use Rattle.qasm_ast.specs.declared.stmt.Declared.{Declared}
use Rattle.qasm_ast.specs.declared.stmt.ValueRef.{ValueRef}
use Rattle.qasm_ast.specs.declared.stmt.ValueRef.TheVariants as v
use Rattle.qasm_ast.specs.declared.stmt.Modifier.{Modifier}
use Rattle.qasm_ast.specs.declared.stmt.Modifier.TheVariants as m

-- a program as its lists, and the place of the end of its text
pub record Source : Type 0 where
  pub names : List (List ℕ)
  pub exprs : List Expr
  pub stmts : List Stmt
  pub top : List StmtId
  pub end : Span

-- a list has fewer than 2^32 members, and each is as it should be
pub record AllOf {A : Type 0} (P : A → Type 0) (as' : List A) : Type 0 where
  pub count : length as' < 2 ^ 32
  pub each : All P as'

abbrev pub IfThere : {A : Type 0} → (A → Type 0) → Option A → Type 0
IfThere P None = Unit {0}
IfThere P (Some a) = P a

-- ---- expressions; `n` expressions may be named, and `names` names

abbrev pub IsExpr : ℕ → ExprId → Type 0
IsExpr n id = id.0 < n

abbrev pub IndexFits : ℕ → IndexRef → Type 0
IndexFits n (i.At id) = id.0 < n
IndexFits n (i.Range start step stop place) = IfThere (IsExpr n) start × IfThere (IsExpr n) step × IfThere (IsExpr n) stop
IndexFits n (i.Set ids) = AllOf (IsExpr n) ids

abbrev pub NameFits : ℕ → OperandName → Type 0
NameFits names (o.Name k) = k < names
NameFits names (o.Hardware k) = Unit {0}

pub record OperandFits (names n : ℕ) (o : OperandRef) : Type 0 where
  pub name : NameFits names o.name
  pub index : AllOf (IndexFits n) o.index

-- the base `bool` has no width
abbrev pub WidthFits : Base → Option ExprId → Type 0
WidthFits b.Bool width = width ≡ None
WidthFits _ width = Unit {0}

pub record AnyTypeFits (n : ℕ) (type : TypeRef) : Type 0 where
  pub bool : WidthFits type.base type.width
  pub width : IfThere (IsExpr n) type.width

-- a type of classical values
pub record TypeFits (n : ℕ) (type : TypeRef) : Type 0 where
  pub classical : type.base ≢ b.Qubit
  pub fits : AnyTypeFits n type

pub record QubitFits (n : ℕ) (type : TypeRef) : Type 0 where
  pub quantum : type.base ≡ b.Qubit
  pub fits : AnyTypeFits n type

-- An expression names only expressions with smaller numbers.
abbrev pub ExprFits : ℕ → ℕ → ExprKind → Type 0
ExprFits names n (e.Name o) = OperandFits names n o
ExprFits names n (e.Hardware k) = Unit {0}
ExprFits names n (e.Whole k) = Unit {0}
ExprFits names n (e.Truth t) = Unit {0}
ExprFits names n (e.Bits bits) = length bits ≤ 4096
ExprFits names n (e.Unary op a) = a.0 < n
ExprFits names n (e.Binary op a c) = (a.0 < n) × (c.0 < n)
ExprFits names n (e.Cast type a) = TypeFits n type × (a.0 < n)
ExprFits names n (e.Call k ids) = (k < names) × AllOf (IsExpr n) ids

-- each expression is as it should be, from a number on
abbrev pub ExprsFit : ℕ → ℕ → List Expr → Type 0
ExprsFit names from exprs = (n : ℕ) (node : Expr) → from ≤ n → slice_get exprs n ≡ Some node → ExprFits names n node.kind

-- ---- statements

abbrev pub DeclaredFits : ℕ → Declared → Type 0
DeclaredFits names d = d.name < names

abbrev pub ValueFits : ℕ → ℕ → ValueRef → Type 0
ValueFits names n (v.Expr id) = id.0 < n
ValueFits names n (v.Measure o) = OperandFits names n o

abbrev pub ModifierFits : ℕ → Modifier → Type 0
ModifierFits n (m.Inv place) = Unit {0}
ModifierFits n (m.Pow id place) = id.0 < n
ModifierFits n (m.Ctrl id place) = IfThere (IsExpr n) id

abbrev pub ParamFits : ℕ → ℕ → TypeRef × Declared → Type 0
ParamFits names n p = AnyTypeFits n p.0 × DeclaredFits names p.1

-- an assignment with an operator has an expression as its value
abbrev pub ChangeFits : Option BinaryOp → ValueRef → Type 0
ChangeFits (Some op) (v.Measure o) = ⊥
ChangeFits _ _ = Unit {0}

abbrev pub IsCall : Option Expr → Type 0
IsCall None = ⊥
IsCall (Some node) = called node.kind
  where
    called : ExprKind → Type 0
    called (e.Call name ids) = Unit {0}
    called _ = ⊥

-- what may stand in the body of a gate
abbrev pub IsGateStmt : Option Stmt → Type 0
IsGateStmt None = ⊥
IsGateStmt (Some stmt) = allowed stmt.kind
  where
    allowed : StmtKind → Type 0
    allowed (s.GateCall mods name as' os) = Unit {0}
    allowed (s.Barrier os) = Unit {0}
    allowed _ = ⊥

abbrev pub IsStmt : ℕ → StmtId → Type 0
IsStmt n id = id.0 < n

abbrev pub IsGateMember : List Stmt → ℕ → StmtId → Type 0
IsGateMember stmts n id = (id.0 < n) × IsGateStmt (slice_get stmts id.0)

-- Bodies name only statements with smaller numbers.
module _ (names : ℕ) (exprs : List Expr) (stmts : List Stmt) where
  abbrev pub StmtFits : ℕ → StmtKind → Type 0
  StmtFits n s.Include = Unit {0}
  StmtFits n (s.Qubit type name) = QubitFits (length exprs) type × DeclaredFits names name
  StmtFits n (s.Variable type name value) = TypeFits (length exprs) type × DeclaredFits names name × IfThere (ValueFits names (length exprs)) value
  StmtFits n (s.Constant type name id) = TypeFits (length exprs) type × DeclaredFits names name × (id.0 < length exprs)
  StmtFits n (s.Output type name) = TypeFits (length exprs) type × DeclaredFits names name
  StmtFits n (s.Let name os) = DeclaredFits names name × AllOf (OperandFits names (length exprs)) os
  StmtFits n (s.Gate name params qs body) = DeclaredFits names name × AllOf (DeclaredFits names) params × AllOf (DeclaredFits names) qs × AllOf (IsGateMember stmts n) body
  StmtFits n (s.Def name params result body) = DeclaredFits names name × AllOf (ParamFits names (length exprs)) params × IfThere (TypeFits (length exprs)) result × AllOf (IsStmt n) body
  StmtFits n (s.GateCall mods name ids os) = AllOf (ModifierFits (length exprs)) mods × DeclaredFits names name × AllOf (IsExpr (length exprs)) ids × AllOf (OperandFits names (length exprs)) os
  StmtFits n (s.Barrier os) = AllOf (OperandFits names (length exprs)) os
  StmtFits n (s.Reset o) = OperandFits names (length exprs) o
  StmtFits n (s.Measure o target) = OperandFits names (length exprs) o × IfThere (OperandFits names (length exprs)) target
  StmtFits n (s.Assign target op value) = OperandFits names (length exprs) target × ChangeFits op value × ValueFits names (length exprs) value
  StmtFits n (s.Call id) = (id.0 < length exprs) × IsCall (slice_get exprs id.0)
  StmtFits n (s.If id taken other) = (id.0 < length exprs) × AllOf (IsStmt n) taken × AllOf (IsStmt n) other
  StmtFits n (s.While id body) = (id.0 < length exprs) × AllOf (IsStmt n) body
  StmtFits n (s.ForRange type name start step stop body) = TypeFits (length exprs) type × DeclaredFits names name × (start.0 < length exprs) × IfThere (IsExpr (length exprs)) step × (stop.0 < length exprs) × AllOf (IsStmt n) body
  StmtFits n (s.ForSet type name ids body) = TypeFits (length exprs) type × DeclaredFits names name × AllOf (IsExpr (length exprs)) ids × AllOf (IsStmt n) body
  StmtFits n s.Break = Unit {0}
  StmtFits n s.Continue = Unit {0}
  StmtFits n s.End = Unit {0}
  StmtFits n (s.Return value) = IfThere (ValueFits names (length exprs)) value

-- each statement is as it should be
abbrev pub StmtsFit : ℕ → List Expr → List Stmt → Type 0
StmtsFit names exprs stmts = (n : ℕ) (stmt : Stmt) → slice_get stmts n ≡ Some stmt → StmtFits names exprs stmts n stmt.kind

-- What holds of each program.
pub record IsProgram (p : Source) : Type 0 where
  pub few_names : length p.names < 2 ^ 32
  pub few_exprs : length p.exprs < 2 ^ 32
  pub few_stmts : length p.stmts < 2 ^ 32
  pub name_lengths : All (λ text. length text ≤ 4096) p.names
  pub names_differ : (j k : ℕ) (text : List ℕ) → slice_get p.names j ≡ Some text → slice_get p.names k ≡ Some text → j ≡ k
  pub exprs_fit : ExprsFit (length p.names) 0 p.exprs
  pub stmts_fit : StmtsFit (length p.names) p.exprs p.stmts
  pub top_fits : AllOf (IsStmt (length p.stmts)) p.top
