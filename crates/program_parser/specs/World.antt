-- For private contracts only: what an answer of the parser stands for, wherever its lists go on to. A world is any lists in
-- which the tree may be looked at; it comes from a state where its lists go on from those of the state.
use Rattle.std.specs.Prelude.{◌≡◌, ℕ, ◌<◌, ◌≤◌, ◌++◌, List, length}
use Rattle.qasm_ast.specs.declared.expr.Expr.{Expr}
use Rattle.qasm_ast.specs.declared.stmt.Stmt.{Stmt}
use Rattle.qasm_ast.specs.Tree.{Tree, tree_at, Statement, stmt_at}
use Rattle.qasm_parser.specs.State.{State}

-- The lists, how many steps down a tree is looked at from each node, and how many names and statements may be named.
pub record World : Type 0 where
  pub names : List (List ℕ)
  pub exprs : List Expr
  pub stmts : List Stmt
  pub steps : ℕ → ℕ
  pub stmt_steps : ℕ → ℕ
  pub known : ℕ
  pub count : ℕ

-- the tree of an expression, and of a statement
abbrev pub sub_in : World → ℕ → Tree
sub_in w k = tree_at w.names w.exprs (w.steps k) k

abbrev pub body_in : World → ℕ → Statement
body_in w k = stmt_at w.names (sub_in w) w.stmts (w.stmt_steps k) k

-- The lists of the world go on from those of the state, and the steps are enough for what is there.
pub record From (s : State) (w : World) : Type 0 where
  pub more_names : List (List ℕ)
  pub more_exprs : List Expr
  pub more_stmts : List Stmt
  pub names : w.names ≡ s.names ++ more_names
  pub exprs : w.exprs ≡ s.exprs ++ more_exprs
  pub stmts : w.stmts ≡ s.stmts ++ more_stmts
  pub enough : (k : ℕ) → k < length s.exprs → k < w.steps k
  pub stmts_enough : (k : ℕ) → k < length s.stmts → k < w.stmt_steps k
  pub known : length s.names ≤ w.known
  pub count : length s.stmts ≤ w.count

-- What is told of an answer holds in each world that comes from the state.
pub record Stands {X A : Type 0} (look : World → X → A → Type 0) (s : State) (x : X) (a : A) : Type 0 where
  pub holds : (w : World) → From s w → look w x a
