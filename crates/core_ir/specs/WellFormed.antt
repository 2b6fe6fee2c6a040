-- What it means that a core is well formed, and that it fits the limits of what is lowered.
use Rattle.std.specs.Prelude.{ℕ, zero, suc, ◌-◌, ◌^◌, ◌<◌, ◌≤◌, ◌≡◌, ◌≢◌, if◌then◌else◌, Bool, true, false, List, [], ◌∷◌, ◌++◌, length, take, count_by, nat_eq, All, AllPairs, IsSome, ℤ, pos, ◌≤ℤ◌, Option, Some, None, slice_get}
use Rattle.std.specs.List.{flat_map, AllByRecursion}
use Rattle.gate_table.specs.Table.{row_of}
use Rattle.gate_table.specs.declared.table.Row.{Row}
use Rattle.qq_base.specs.declared.run.QubitId.{QubitId}
use Rattle.qir_module.specs.declared.instruction.Opcode.{Opcode}
use Rattle.qir_module.specs.declared.instruction.Opcode.TheVariants.{Sdiv, Srem, Udiv, Urem, Shl, Lshr, Ashr, And, Or, Xor, Eq, Ne, Slt, Sle, Sgt, Sge, Ult, Ule, Ugt, Uge}
use Rattle.core_ir.specs.declared.expression.CellKind.{CellKind}
use Rattle.core_ir.specs.declared.expression.CellKind.TheVariants.{Truth as TruthKind, Number as NumberKind}
use Rattle.core_ir.specs.declared.expression.CoreExpr.{CoreExpr}
use Rattle.core_ir.specs.declared.expression.CoreExpr.TheVariants.{Op as OpNode, Number as NumberNode}
use Rattle.core_ir.specs.declared.statement.GateArg.{GateArg}
use Rattle.core_ir.specs.declared.statement.GateArg.TheVariants.{Unused, Units, Running}
use Rattle.core_ir.specs.declared.statement.LeafCall.{LeafCall}
use Rattle.core_ir.specs.declared.statement.CoreStmt.{CoreStmt}
use Rattle.core_ir.specs.declared.statement.CoreStmt.TheVariants.{Assign as AssignNode, Gate as GateNode, Reset as ResetNode, Measure as MeasureNode, If as IfNode, Block as BlockNode, Loop as LoopNode}
use Rattle.core_ir.specs.declared.program.Output.{Output}
use Rattle.core_ir.specs.declared.program.Output.TheVariants.{Array as ArrayOutput, Truth as TruthOutput, Number as NumberOutput}
use Rattle.core_ir.specs.Core.{Core}
use Rattle.core_ir.specs.Tree.{Expr, Cell, Truth, Number, Op, Widen, Narrow, Choose, Cut, expr_of, Stmt, Skip, Seq, Assign, Gate, Reset, Measure, If, Block, Loop, Leave, Again, program_of}
use Rattle.core_ir.specs.Ways.{Falls, reaches}
use Rattle.core_ir.specs.Size.{operands_of, weight, knots}

-- ---- kinds

abbrev pub is_bitwise : Opcode → Bool
is_bitwise And = true
is_bitwise Or = true
is_bitwise Xor = true
is_bitwise _ = false

abbrev pub is_comparison : Opcode → Bool
is_comparison Eq = true
is_comparison Ne = true
is_comparison Slt = true
is_comparison Sle = true
is_comparison Sgt = true
is_comparison Sge = true
is_comparison Ult = true
is_comparison Ule = true
is_comparison Ugt = true
is_comparison Uge = true
is_comparison _ = false

-- an instruction takes two words, and `and`, `or` and `xor` take two truth values too
abbrev pub op_kind : Opcode → Option CellKind → Option CellKind → Option CellKind
op_kind op (Some NumberKind) (Some NumberKind) = Some (if is_comparison op then TruthKind else NumberKind)
op_kind op (Some TruthKind) (Some TruthKind) = if is_bitwise op then Some TruthKind else None
op_kind op _ _ = None

abbrev pub widen_kind : Option CellKind → Option CellKind
widen_kind (Some TruthKind) = Some NumberKind
widen_kind _ = None

abbrev pub narrow_kind : Option CellKind → Option CellKind
narrow_kind (Some NumberKind) = Some TruthKind
narrow_kind _ = None

-- both that are chosen from are of one kind
abbrev pub choose_kind : Option CellKind → Option CellKind → Option CellKind → Option CellKind
choose_kind (Some TruthKind) (Some TruthKind) (Some TruthKind) = Some TruthKind
choose_kind (Some TruthKind) (Some NumberKind) (Some NumberKind) = Some NumberKind
choose_kind _ _ _ = None

-- the kind of an expression's value; None where the kinds within it do not agree, or a number is out of range
abbrev pub kind_of : List CellKind → Expr → Option CellKind
kind_of cells (Cell c) = slice_get cells c
kind_of cells (Truth b) = Some TruthKind
kind_of cells (Number z) = Some NumberKind
kind_of cells (Op op a b) = op_kind op (kind_of cells a) (kind_of cells b)
kind_of cells (Widen a) = widen_kind (kind_of cells a)
kind_of cells (Narrow a) = narrow_kind (kind_of cells a)
kind_of cells (Choose test a b) = choose_kind (kind_of cells test) (kind_of cells a) (kind_of cells b)
kind_of cells Cut = None

abbrev pub kind_at : Core → ℕ → Option CellKind
kind_at core e = kind_of core.cells (expr_of core.exprs e)

-- ---- single expressions, statements, outputs and labels

-- an expression names smaller numbers, and kinds agree in it
abbrev pub ExprFits : List CellKind → List CoreExpr → ℕ → Type 0
ExprFits cells exprs k = AllByRecursion (λ j. j < k) (operands_of (slice_get exprs k)) × IsSome (kind_of cells (expr_of exprs k))

-- the first n expressions fit
abbrev pub ExprsFit : List CellKind → List CoreExpr → ℕ → Type 0
ExprsFit cells exprs n = (k : ℕ) → k < n → ExprFits cells exprs k

-- the cell is given a value of its kind
pub record PairFits (core : Core) (pair : ℕ × ℕ) : Type 0 where
  pub kind : CellKind
  pub cell : slice_get core.cells pair.0 ≡ Some kind
  pub value : kind_at core pair.1 ≡ Some kind

-- an argument that the gate takes
abbrev pub ArgFits : Core → GateArg → Type 0
ArgFits core Unused = ⊥
ArgFits core (Units z) = Unit {0}
ArgFits core (Running e) = kind_at core e ≡ Some NumberKind

-- the gate takes so many arguments, and the places behind them are unused
abbrev pub ArgsFit : Core → ℕ → List GateArg → Type 0
ArgsFit core n [] = Unit {0}
ArgsFit core zero (arg ∷ args) = (arg ≡ Unused) × ArgsFit core zero args
ArgsFit core (suc n) (arg ∷ args) = ArgFits core arg × ArgsFit core n args

-- the gate takes so many qubits, and the places behind them hold qubit 0
abbrev pub QubitsFit : ℕ → ℕ → List QubitId → Type 0
QubitsFit qubits n [] = Unit {0}
QubitsFit qubits zero (q ∷ qs) = (q.0 ≡ 0) × QubitsFit qubits zero qs
QubitsFit qubits (suc n) (q ∷ qs) = (q.0 < qubits) × QubitsFit qubits n qs

-- the gate is an instruction of the target table, and is given what its row takes
abbrev pub TakesRow : Core → LeafCall → Option Row → Type 0
TakesRow core leaf None = ⊥
TakesRow core leaf (Some row) = ArgsFit core row.params leaf.args × QubitsFit core.qubits row.qubits leaf.qubits

abbrev pub LeafFits : Core → LeafCall → Type 0
LeafFits core leaf = (leaf.gate.0 < 30) × TakesRow core leaf (row_of leaf.gate.0)

-- a cell that takes an outcome, if one is named
abbrev pub IntoFits : List CellKind → Option ℕ → Type 0
IntoFits cells None = Unit {0}
IntoFits cells (Some c) = slice_get cells c ≡ Some TruthKind

-- a statement, apart from its bodies and from the levels that it names
abbrev pub StmtFits : Core → CoreStmt → Type 0
StmtFits core (AssignNode pairs) = All (PairFits core) pairs
StmtFits core (GateNode leaf) = LeafFits core leaf
StmtFits core (ResetNode qubit) = qubit.0 < core.qubits
StmtFits core (MeasureNode qubit into) = (qubit.0 < core.qubits) × IntoFits core.cells into
StmtFits core (IfNode test a b) = kind_at core test ≡ Some TruthKind
StmtFits core _ = Unit {0}

-- a label ends with a zero byte
pub record IsLabelText (bytes : List ℕ) : Type 0 where
  pub short : length bytes < 2 ^ 32
  pub text : List ℕ
  pub ends : bytes ≡ text ++ 0 ∷ []

abbrev pub OutputFits : Core → Output → Type 0
OutputFits core (ArrayOutput label size) = label < length core.labels
OutputFits core (TruthOutput label c) = (label < length core.labels) × (slice_get core.cells c ≡ Some TruthKind)
OutputFits core (NumberOutput label c) = (label < length core.labels) × (slice_get core.cells c ≡ Some NumberKind)

-- ---- bodies and levels

-- the statements of a statement's own bodies
abbrev pub inner_of : Option CoreStmt → List ℕ
inner_of (Some (IfNode test a b)) = a ++ b
inner_of (Some (BlockNode a)) = a
inner_of (Some (LoopNode a)) = a
inner_of _ = []

abbrev pub bodies_in : List CoreStmt → List ℕ
bodies_in stmts = flat_map (λ s. inner_of (Some s)) stmts

-- how often a statement stands in a list of statements
abbrev pub times : ℕ → List ℕ → ℕ
times k [] = 0
times k (j ∷ body) = if nat_eq j k then suc (times k body) else times k body

-- a body names larger numbers, of statements that are there
abbrev pub IsLater : ℕ → ℕ → ℕ → Type 0
IsLater k n j = (k < j) × (j < n)

abbrev pub NamesLater : List CoreStmt → Type 0
NamesLater stmts = (k : ℕ) → k < length stmts → All (IsLater k (length stmts)) (inner_of (slice_get stmts k))

-- each statement stands in one body, at one place
abbrev pub StandOnce : List ℕ → List CoreStmt → Type 0
StandOnce body stmts = (k : ℕ) → k < length stmts → times k (body ++ bodies_in stmts) ≡ 1

-- of a program's statements and its own body
pub record BodiesStand (body : List ℕ) (stmts : List CoreStmt) : Type 0 where
  pub named : All (λ k. k < length stmts) body
  pub later : NamesLater stmts
  pub once : StandOnce body stmts

-- the blocks and loops that are left, and the loops that are gone back to, are there
abbrev pub HasLevels : Stmt → ℕ → ℕ → Type 0
HasLevels Skip ends starts = Unit {0}
HasLevels (Seq a b) ends starts = HasLevels a ends starts × HasLevels b ends starts
HasLevels (Assign pairs) ends starts = Unit {0}
HasLevels (Gate leaf) ends starts = Unit {0}
HasLevels (Reset qubit) ends starts = Unit {0}
HasLevels (Measure qubit into) ends starts = Unit {0}
HasLevels (If test a b) ends starts = HasLevels a ends starts × HasLevels b ends starts
HasLevels (Block a) ends starts = HasLevels a (suc ends) starts
HasLevels (Loop a) ends starts = HasLevels a (suc ends) (suc starts)
HasLevels (Leave k) ends starts = k < ends
HasLevels (Again k) ends starts = k < starts

-- ---- the whole core

pub record IsWellFormed (core : Core) : Type 0 where
  -- expressions name smaller numbers, and kinds agree in them
  pub exprs : ExprsFit core.cells core.exprs (length core.exprs)
  -- statements name expressions, cells and qubits that are there, with kinds that agree, and gates are given what they take
  pub stmts : All (StmtFits core) core.stmts
  pub outputs : All (OutputFits core) core.outputs
  pub labels : All IsLabelText core.labels
  -- bodies name statements that are there and stand later, and each statement stands in one body, at one place
  pub bodies : BodiesStand core.body core.stmts
  -- the levels that are left and gone back to are there
  pub levels : HasLevels (program_of core) 0 0

-- ---- limits

-- a constant word from one number to another
abbrev pub IsNumberWithin : ℤ → ℤ → Option CoreExpr → Type 0
IsNumberWithin low high (Some (NumberNode z)) = (low ≤ℤ z) × (z ≤ℤ high)
IsNumberWithin low high _ = ⊥

-- divisors are constants from 1, and shifts are by constants from 0 to 63
abbrev pub IsSafeRight : Opcode → Option CoreExpr → Type 0
IsSafeRight Sdiv right = IsNumberWithin (pos 1) (pos (2 ^ 63 - 1)) right
IsSafeRight Srem right = IsNumberWithin (pos 1) (pos (2 ^ 63 - 1)) right
IsSafeRight Udiv right = IsNumberWithin (pos 1) (pos (2 ^ 63 - 1)) right
IsSafeRight Urem right = IsNumberWithin (pos 1) (pos (2 ^ 63 - 1)) right
IsSafeRight Shl right = IsNumberWithin (pos 0) (pos 63) right
IsSafeRight Lshr right = IsNumberWithin (pos 0) (pos 63) right
IsSafeRight Ashr right = IsNumberWithin (pos 0) (pos 63) right
IsSafeRight _ right = Unit {0}

abbrev pub IsSafeExpr : List CoreExpr → Option CoreExpr → Type 0
IsSafeExpr exprs (Some (OpNode op a b)) = IsSafeRight op (slice_get exprs b)
IsSafeExpr exprs _ = Unit {0}

abbrev pub IsSafe : List CoreExpr → Type 0
IsSafe exprs = (k : ℕ) → IsSafeExpr exprs (slice_get exprs k)

-- the qubits that a gate takes differ
abbrev pub QubitsDiffer : LeafCall → Option Row → Type 0
QubitsDiffer leaf None = ⊥
QubitsDiffer leaf (Some row) = AllPairs (λ (a b : QubitId). a.0 ≢ b.0) (take row.qubits leaf.qubits)

abbrev pub GatesDiffer : CoreStmt → Type 0
GatesDiffer (GateNode leaf) = QubitsDiffer leaf (row_of leaf.gate.0)
GatesDiffer _ = Unit {0}

abbrev pub is_measure : CoreStmt → Bool
is_measure (MeasureNode qubit into) = true
is_measure _ = false

-- what a core meets that is lowered
pub record Fits (core : Core) : Type 0 where
  pub well_formed : IsWellFormed core
  pub differ : All GatesDiffer core.stmts
  pub safe : IsSafe core.exprs
  pub few_cells : length core.cells ≤ 2 ^ 31
  pub few_exprs : length core.exprs ≤ 4000000000
  pub few_qubits : core.qubits ≤ 1024
  pub few_labels : length core.labels ≤ 16384
  pub few_measures : count_by is_measure core.stmts ≤ 1048576
  -- the end of the program is reached on some way along the statements
  pub end_reached : reaches (program_of core) Falls ≡ true
  pub light : weight core ≤ 4000032
  pub few_knots : knots core ≤ 16001
