-- What the types of a core's fields bound, as its code holds them: the definitions of a core have numbers without bound and
-- lists of any length.
use Rattle.std.specs.Prelude.{◌≡◌, ℕ, ◌<◌, ◌^◌, List, length, All, FitsSigned}
use Rattle.std.specs.Int.{w64}
use Rattle.qir_module.specs.Module.{IsByte}
use Rattle.core_ir.specs.declared.statement.GateArg.{GateArg}
use Rattle.core_ir.specs.declared.statement.GateArg.TheVariants.{Units}
use Rattle.core_ir.specs.declared.statement.LeafCall.{LeafCall}
use Rattle.core_ir.specs.declared.statement.CoreStmt.{CoreStmt}
use Rattle.core_ir.specs.declared.statement.CoreStmt.TheVariants.{Gate as GateNode}
use Rattle.core_ir.specs.declared.program.Output.{Output}
use Rattle.core_ir.specs.declared.program.Output.TheVariants.{Array as ArrayOutput}
use Rattle.core_ir.specs.Core.{Core}
use Rattle.expr_lower.specs.Lowered.{IsHeldExpr}

-- the angle of a gate is a whole number of 64 bits with sign
abbrev pub IsHeldArg : GateArg → Type 0
IsHeldArg (Units z) = FitsSigned w64 z
IsHeldArg _ = Unit {0}

-- a call has four places for arguments, and three for qubits
pub record IsHeldLeaf (leaf : LeafCall) : Type 0 where
  pub four : length leaf.args ≡ 4
  pub three : length leaf.qubits ≡ 3
  pub args : All IsHeldArg leaf.args

abbrev pub IsHeldStmt : CoreStmt → Type 0
IsHeldStmt (GateNode leaf) = IsHeldLeaf leaf
IsHeldStmt _ = Unit {0}

-- the size of an array is a number of 32 bits
abbrev pub IsHeldOutput : Output → Type 0
IsHeldOutput (ArrayOutput label size) = size < 2 ^ 32
IsHeldOutput _ = Unit {0}

abbrev pub AreBytes : List ℕ → Type 0
AreBytes bytes = All IsByte bytes

pub record IsHeld (core : Core) : Type 0 where
  pub exprs : All IsHeldExpr core.exprs
  pub stmts : All IsHeldStmt core.stmts
  pub outputs : All IsHeldOutput core.outputs
  pub labels : All AreBytes core.labels
