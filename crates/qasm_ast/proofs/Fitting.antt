-- What fits a program fits it while the lists of names, expressions and statements grow.
use Rattle.std.proofs.Common.{ℕ, ◌≤◌, ◌++◌, List, length, Option, Some, None, sym, subst, length-append, arith}
use Rattle.std.proofs.lemmas.List.Elements.{All-weaker}
use Rattle.qasm_ast.specs.declared.expr.Expr.{Expr}
use Rattle.qasm_ast.specs.declared.expr.ExprId.{ExprId}
use Rattle.qasm_ast.specs.declared.expr.IndexRef.{IndexRef}
use Rattle.qasm_ast.specs.declared.expr.IndexRef.TheVariants as i
use Rattle.qasm_ast.specs.declared.expr.OperandRef.{OperandRef}
use Rattle.qasm_ast.specs.declared.expr.OperandName.{OperandName}
use Rattle.qasm_ast.specs.declared.expr.OperandName.TheVariants as o
use Rattle.qasm_ast.specs.declared.expr.TypeRef.{TypeRef}
use Rattle.qasm_ast.specs.declared.stmt.Stmt.{Stmt}
use Rattle.qasm_ast.specs.declared.stmt.StmtId.{StmtId}
use Rattle.qasm_ast.specs.declared.stmt.StmtKind.{StmtKind}
use Rattle.qasm_ast.specs.declared.stmt.StmtKind.TheVariants as s
use Rattle.qasm_ast.specs.declared.stmt.Declared.{Declared}
use Rattle.qasm_ast.specs.declared.stmt.ValueRef.{ValueRef}
use Rattle.qasm_ast.specs.declared.stmt.ValueRef.TheVariants as v
use Rattle.qasm_ast.specs.declared.stmt.Modifier.{Modifier}
use Rattle.qasm_ast.specs.declared.stmt.Modifier.TheVariants as m
use Rattle.qasm_ast.specs.Whole.{IfThere, AllOf, IsExpr, IsStmt, IsCall, IsGateStmt, IsGateMember, NameFits, IndexFits, OperandFits, AnyTypeFits, TypeFits, QubitFits, DeclaredFits, ValueFits, ModifierFits, ParamFits, StmtFits}
use Rattle.qasm_ast.proofs.Steps.{get-append}

pub all_of : {X : Type 0} (P Q : X → Type 0) → ((x : X) → P x → Q x) → (xs : List X) → AllOf P xs → AllOf Q xs
all_of P Q each xs f = record { count = f.count; each = All-weaker P Q each xs f.each }

pub if_there : {X : Type 0} (P Q : X → Type 0) → ((x : X) → P x → Q x) → (x : Option X) → IfThere P x → IfThere Q x
if_there P Q each None f = f
if_there P Q each (Some x) f = each x f

-- with more expressions
module _ (n n' : ℕ) (le : n ≤ n') where
  id_longer : (x : ExprId) → IsExpr n x → IsExpr n' x
  id_longer x f = omega arith

  pub maybe_longer : (x : Option ExprId) → IfThere (IsExpr n) x → IfThere (IsExpr n') x
  maybe_longer = if_there (IsExpr n) (IsExpr n') id_longer

  pub ids_longer : (xs : List ExprId) → AllOf (IsExpr n) xs → AllOf (IsExpr n') xs
  ids_longer = all_of (IsExpr n) (IsExpr n') id_longer

  pub index_longer : (j : IndexRef) → IndexFits n j → IndexFits n' j
  index_longer (i.At id) f = omega arith
  index_longer (i.Range start step stop place) f = (maybe_longer start f.0, maybe_longer step f.1, maybe_longer stop f.2)
  index_longer (i.Set ids) f = ids_longer ids f

  pub indexes_longer : (js : List IndexRef) → AllOf (IndexFits n) js → AllOf (IndexFits n') js
  indexes_longer = all_of (IndexFits n) (IndexFits n') index_longer

  pub any_type_longer : (x : TypeRef) → AnyTypeFits n x → AnyTypeFits n' x
  any_type_longer x f = record { bool = f.bool; width = maybe_longer x.width f.width }

  pub type_longer : (x : TypeRef) → TypeFits n x → TypeFits n' x
  type_longer x f = record { classical = f.classical; fits = any_type_longer x f.fits }

  pub qubit_longer : (x : TypeRef) → QubitFits n x → QubitFits n' x
  qubit_longer x f = record { quantum = f.quantum; fits = any_type_longer x f.fits }

  pub modifier_longer : (x : Modifier) → ModifierFits n x → ModifierFits n' x
  modifier_longer (m.Inv place) f = f
  modifier_longer (m.Pow id place) f = omega arith
  modifier_longer (m.Ctrl id place) f = maybe_longer id f

-- with more names
pub declared_longer : (names names' : ℕ) → names ≤ names' → (d : Declared) → DeclaredFits names d → DeclaredFits names' d
declared_longer names names' le d f = omega arith

name_longer : (names names' : ℕ) → names ≤ names' → (x : OperandName) → NameFits names x → NameFits names' x
name_longer names names' le (o.Name k) f = omega arith
name_longer names names' le (o.Hardware k) f = f

-- with more names and more expressions
module _ (names names' n n' : ℕ) (le : names ≤ names') (le' : n ≤ n') where
  pub operand_longer : (x : OperandRef) → OperandFits names n x → OperandFits names' n' x
  operand_longer x f = record { name = name_longer names names' le x.name f.name; index = indexes_longer n n' le' x.index f.index }

  pub value_longer : (x : ValueRef) → ValueFits names n x → ValueFits names' n' x
  value_longer (v.Expr id) f = omega arith
  value_longer (v.Measure x) f = operand_longer x f

  pub param_longer : (p : TypeRef × Declared) → ParamFits names n p → ParamFits names' n' p
  param_longer p f = (any_type_longer n n' le' p.0 f.0, declared_longer names names' le p.1 f.1)

-- ---- statements

module _ (names names' : ℕ) (exprs later : List Expr) (stmts behind : List Stmt) (le : names ≤ names') where
  longer_exprs : length exprs ≤ length (exprs ++ later)
  longer_exprs = omega (arith, length-append exprs later)

  longer_stmts : length stmts ≤ length (stmts ++ behind)
  longer_stmts = omega (arith, length-append stmts behind)

  operand_on : (x : OperandRef) → OperandFits names (length exprs) x → OperandFits names' (length (exprs ++ later)) x
  operand_on = operand_longer names names' (length exprs) (length (exprs ++ later)) le longer_exprs

  operands_on : (xs : List OperandRef) → AllOf (OperandFits names (length exprs)) xs → AllOf (OperandFits names' (length (exprs ++ later))) xs
  operands_on = all_of (OperandFits names (length exprs)) (OperandFits names' (length (exprs ++ later))) operand_on

  declared_on : (d : Declared) → DeclaredFits names d → DeclaredFits names' d
  declared_on = declared_longer names names' le

  declareds_on : (ds : List Declared) → AllOf (DeclaredFits names) ds → AllOf (DeclaredFits names') ds
  declareds_on = all_of (DeclaredFits names) (DeclaredFits names') declared_on

  type_on : (x : TypeRef) → TypeFits (length exprs) x → TypeFits (length (exprs ++ later)) x
  type_on = type_longer (length exprs) (length (exprs ++ later)) longer_exprs

  value_on : (x : ValueRef) → ValueFits names (length exprs) x → ValueFits names' (length (exprs ++ later)) x
  value_on = value_longer names names' (length exprs) (length (exprs ++ later)) le longer_exprs

  value_if_on : (x : Option ValueRef) → IfThere (ValueFits names (length exprs)) x → IfThere (ValueFits names' (length (exprs ++ later))) x
  value_if_on = if_there (ValueFits names (length exprs)) (ValueFits names' (length (exprs ++ later))) value_on

  ids_on : (xs : List ExprId) → AllOf (IsExpr (length exprs)) xs → AllOf (IsExpr (length (exprs ++ later))) xs
  ids_on = ids_longer (length exprs) (length (exprs ++ later)) longer_exprs

  maybe_on : (x : Option ExprId) → IfThere (IsExpr (length exprs)) x → IfThere (IsExpr (length (exprs ++ later))) x
  maybe_on = maybe_longer (length exprs) (length (exprs ++ later)) longer_exprs

  pub body_on : (n n' : ℕ) → n ≤ n' → (xs : List StmtId) → AllOf (IsStmt n) xs → AllOf (IsStmt n') xs
  body_on n n' ln = all_of (IsStmt n) (IsStmt n') at_each
    where
      at_each : (x : StmtId) → IsStmt n x → IsStmt n' x
      at_each x f = omega arith

  pub member_on : (n n' : ℕ) → n ≤ n' → n ≤ length stmts → (x : StmtId) → IsGateMember stmts n x → IsGateMember (stmts ++ behind) n' x
  member_on n n' ln in_range x f = (omega (arith, f.0), subst IsGateStmt (sym (get-append stmts behind x.0 (omega (arith, f.0)))) f.1)

  pub stmt_on : (n n' : ℕ) → n ≤ n' → n ≤ length stmts → (kind : StmtKind) → StmtFits names exprs stmts n kind → StmtFits names' (exprs ++ later) (stmts ++ behind) n' kind
  stmt_on n n' ln ls s.Include f = f
  stmt_on n n' ln ls (s.Qubit type name) f = (qubit_longer (length exprs) (length (exprs ++ later)) longer_exprs type f.0, declared_on name f.1)
  stmt_on n n' ln ls (s.Variable type name value) f = (type_on type f.0, declared_on name f.1, value_if_on value f.2)
  stmt_on n n' ln ls (s.Constant type name id) f = (type_on type f.0, declared_on name f.1, omega (arith, f.2, longer_exprs))
  stmt_on n n' ln ls (s.Output type name) f = (type_on type f.0, declared_on name f.1)
  stmt_on n n' ln ls (s.Let name os) f = (declared_on name f.0, operands_on os f.1)
  stmt_on n n' ln ls (s.Gate name params qs ids) f = (declared_on name f.0, declareds_on params f.1, declareds_on qs f.2, all_of (IsGateMember stmts n) (IsGateMember (stmts ++ behind) n') (member_on n n' ln ls) ids f.3)
  stmt_on n n' ln ls (s.Def name params result ids) f = (
    declared_on name f.0,
    all_of (ParamFits names (length exprs)) (ParamFits names' (length (exprs ++ later))) (param_longer names names' (length exprs) (length (exprs ++ later)) le longer_exprs) params f.1,
    if_there (TypeFits (length exprs)) (TypeFits (length (exprs ++ later))) type_on result f.2,
    body_on n n' ln ids f.3,
  )
  stmt_on n n' ln ls (s.GateCall mods name args os) f = (
    all_of (ModifierFits (length exprs)) (ModifierFits (length (exprs ++ later))) (modifier_longer (length exprs) (length (exprs ++ later)) longer_exprs) mods f.0,
    declared_on name f.1,
    ids_on args f.2,
    operands_on os f.3,
  )
  stmt_on n n' ln ls (s.Barrier os) f = operands_on os f
  stmt_on n n' ln ls (s.Reset x) f = operand_on x f
  stmt_on n n' ln ls (s.Measure x target) f = (operand_on x f.0, if_there (OperandFits names (length exprs)) (OperandFits names' (length (exprs ++ later))) operand_on target f.1)
  stmt_on n n' ln ls (s.Assign target op value) f = (operand_on target f.0, f.1, value_on value f.2)
  stmt_on n n' ln ls (s.Call id) f = (omega (arith, f.0, longer_exprs), subst IsCall (sym (get-append exprs later id.0 f.0)) f.1)
  stmt_on n n' ln ls (s.If id taken other) f = (omega (arith, f.0, longer_exprs), body_on n n' ln taken f.1, body_on n n' ln other f.2)
  stmt_on n n' ln ls (s.While id ids) f = (omega (arith, f.0, longer_exprs), body_on n n' ln ids f.1)
  stmt_on n n' ln ls (s.ForRange type name start step stop ids) f = (type_on type f.0, declared_on name f.1, omega (arith, f.2, longer_exprs), maybe_on step f.3, omega (arith, f.4, longer_exprs), body_on n n' ln ids f.5)
  stmt_on n n' ln ls (s.ForSet type name ids body_ids) f = (type_on type f.0, declared_on name f.1, ids_on ids f.2, body_on n n' ln body_ids f.3)
  stmt_on n n' ln ls s.Break f = f
  stmt_on n n' ln ls s.Continue f = f
  stmt_on n n' ln ls s.End f = f
  stmt_on n n' ln ls (s.Return value) f = value_if_on value f
