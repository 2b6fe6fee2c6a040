-- The core as a program: expressions within expressions and statements within statements, whatever their
-- numbers are.
use Rattle.std.specs.Prelude.{ℕ, zero, suc, Bool, List, [], ◌∷◌, length, ℤ, Option, Some, None, slice_get}
use Rattle.qq_base.specs.declared.run.QubitId.{QubitId}
use Rattle.qir_module.specs.declared.instruction.Opcode.{Opcode}
use Rattle.core_ir.specs.declared.expression.CoreExpr.{CoreExpr}
use Rattle.core_ir.specs.declared.expression.CoreExpr.TheVariants.{Cell as CellNode, Truth as TruthNode, Number as NumberNode, Op as OpNode, Widen as WidenNode, Narrow as NarrowNode, Choose as ChooseNode}
use Rattle.core_ir.specs.declared.statement.LeafCall.{LeafCall}
use Rattle.core_ir.specs.declared.statement.CoreStmt.{CoreStmt}
use Rattle.core_ir.specs.declared.statement.CoreStmt.TheVariants.{Assign as AssignNode, Gate as GateNode, Reset as ResetNode, Measure as MeasureNode, If as IfNode, Block as BlockNode, Loop as LoopNode, Leave as LeaveNode, Again as AgainNode}
use Rattle.core_ir.specs.Core.{Core}

-- ---- expressions

-- Cut stands where a number is that of no expression, or of one that does not stand earlier.
pub data Expr : Type 0 where
  Cell : (c : ℕ) → Expr
  Truth : (b : Bool) → Expr
  Number : (z : ℤ) → Expr
  Op : (op : Opcode) (a b : Expr) → Expr
  Widen : (a : Expr) → Expr
  Narrow : (a : Expr) → Expr
  Choose : (test a b : Expr) → Expr
  Cut : Expr

-- the tree of one expression, where `tree` gives those of the expressions that it names
abbrev pub node_expr : (ℕ → Expr) → Option CoreExpr → Expr
node_expr tree None = Cut
node_expr tree (Some (CellNode c)) = Cell c
node_expr tree (Some (TruthNode b)) = Truth b
node_expr tree (Some (NumberNode z)) = Number z
node_expr tree (Some (OpNode op a b)) = Op op (tree a) (tree b)
node_expr tree (Some (WidenNode a)) = Widen (tree a)
node_expr tree (Some (NarrowNode a)) = Narrow (tree a)
node_expr tree (Some (ChooseNode test a b)) = Choose (tree test) (tree a) (tree b)

-- going down at most so many levels
abbrev pub expr_within : List CoreExpr → ℕ → ℕ → Expr
expr_within exprs zero k = Cut
expr_within exprs (suc levels) k = node_expr (expr_within exprs levels) (slice_get exprs k)

-- An expression names smaller numbers only, so no way down is longer than its own number.
unfoldable pub expr_of : List CoreExpr → ℕ → Expr
expr_of exprs k = expr_within exprs (suc k) k

-- ---- statements

-- Expressions stay numbers here: an expression that two parts of a statement name is one.
pub data Stmt : Type 0 where
  Skip : Stmt
  Seq : (a b : Stmt) → Stmt
  Assign : (pairs : List (ℕ × ℕ)) → Stmt
  Gate : (leaf : LeafCall) → Stmt
  Reset : (qubit : QubitId) → Stmt
  Measure : (qubit : QubitId) (into : Option ℕ) → Stmt
  If : (test : ℕ) (a b : Stmt) → Stmt
  Block : (a : Stmt) → Stmt
  Loop : (a : Stmt) → Stmt
  Leave : (k : ℕ) → Stmt
  Again : (k : ℕ) → Stmt

-- a body: its statements one behind the other
abbrev pub sequence : (ℕ → Stmt) → List ℕ → Stmt
sequence tree [] = Skip
sequence tree (k ∷ ks) = Seq (tree k) (sequence tree ks)

-- the tree of one statement, where `tree` gives those of the statements that it names
abbrev pub node_stmt : (ℕ → Stmt) → Option CoreStmt → Stmt
node_stmt tree None = Skip
node_stmt tree (Some (AssignNode pairs)) = Assign pairs
node_stmt tree (Some (GateNode leaf)) = Gate leaf
node_stmt tree (Some (ResetNode qubit)) = Reset qubit
node_stmt tree (Some (MeasureNode qubit into)) = Measure qubit into
node_stmt tree (Some (IfNode test a b)) = If test (sequence tree a) (sequence tree b)
node_stmt tree (Some (BlockNode a)) = Block (sequence tree a)
node_stmt tree (Some (LoopNode a)) = Loop (sequence tree a)
node_stmt tree (Some (LeaveNode k)) = Leave k
node_stmt tree (Some (AgainNode k)) = Again k

-- going down at most so many levels
abbrev pub stmt_within : List CoreStmt → ℕ → ℕ → Stmt
stmt_within stmts zero k = Skip
stmt_within stmts (suc levels) k = node_stmt (stmt_within stmts levels) (slice_get stmts k)

-- A body names larger numbers only, so no way down is longer than the list.
unfoldable pub stmt_of : List CoreStmt → ℕ → Stmt
stmt_of stmts k = stmt_within stmts (length stmts) k

-- the statements of a body
abbrev pub body_of : List CoreStmt → List ℕ → Stmt
body_of stmts body = sequence (stmt_of stmts) body

-- the whole program
abbrev pub program_of : Core → Stmt
program_of core = body_of core.stmts core.body
