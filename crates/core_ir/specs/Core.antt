-- The core of a program, as a value.
use Rattle.std.specs.Prelude.{ℕ, List}
use Rattle.core_ir.specs.declared.expression.CellKind.{CellKind}
use Rattle.core_ir.specs.declared.expression.CoreExpr.{CoreExpr}
use Rattle.core_ir.specs.declared.statement.CoreStmt.{CoreStmt}
use Rattle.core_ir.specs.declared.program.Output.{Output}

pub record Core : Type 0 where
  pub cells : List CellKind
  pub exprs : List CoreExpr
  pub stmts : List CoreStmt
  pub body : List ℕ
  pub outputs : List Output
  pub labels : List (List ℕ)
  pub qubits : ℕ
