-- The definitions of this crate at two cores that are written out by hand.
use Rattle.std.specs.Prelude.{◌≡◌, refl, ℕ, true, false, List, [], ◌∷◌, pos, Some}
use Rattle.qq_base.specs.declared.run.QubitId.{QubitId}
use Rattle.qq_base.specs.declared.run.Event.{Event}
use Rattle.qq_base.specs.declared.run.Event.TheVariants.{Gate as GateEvent, Reset as ResetEvent, Measure as MeasureEvent}
use Rattle.qq_base.specs.declared.run.Record.TheVariants.{Bool as BoolRecord, Int as IntRecord}
use Rattle.qq_base.specs.Seen.{Ended, Asked, Turning}
use Rattle.qir_module.specs.declared.instruction.Opcode.TheVariants.{Add, Mul, Slt}
use Rattle.core_ir.specs.declared.expression.CellKind.TheVariants.{Truth as TruthKind, Number as NumberKind}
use Rattle.core_ir.specs.declared.expression.CoreExpr.TheVariants.{Cell, Number, Op, Widen, Choose}
use Rattle.core_ir.specs.declared.statement.GateArg.{GateArg}
use Rattle.core_ir.specs.declared.statement.GateArg.TheVariants.{Unused, Running}
use Rattle.core_ir.specs.declared.statement.CoreStmt.{CoreStmt}
use Rattle.core_ir.specs.declared.statement.CoreStmt.TheVariants.{Assign, Gate, Reset, Measure, If, Block, Loop, Leave, Again}
use Rattle.core_ir.specs.declared.program.Output.TheVariants.{Truth as TruthOutput, Number as NumberOutput}
use Rattle.core_ir.specs.Core.{Core}
use Rattle.core_ir.specs.Tree.{expr_of, stmt_of}
use Rattle.core_ir.specs.Run.{core_run}
use Rattle.core_ir.specs.Size.{reaches_expr, working_nodes, weight, knots, calls, joined_cells}

abbrev qubit : ℕ → QubitId
qubit n = record { 0 = n }

abbrev gate : ℕ → List GateArg → List QubitId → CoreStmt
gate g args qubits = Gate (record { gate = record { 0 = g }; args = args; qubits = qubits })

abbrev x_event : Event
x_event = GateEvent (record { 0 = 0 }) (pos 0 ∷ pos 0 ∷ pos 0 ∷ pos 0 ∷ []) (qubit 1 ∷ qubit 0 ∷ qubit 0 ∷ [])

-- while (c0 < 2) { c0 = c0 + 1; x q[1]; }
abbrev counting : Core
counting = record {
  cells = NumberKind ∷ [];
  exprs = Cell 0 ∷ Number (pos 1) ∷ Op Add 0 1 ∷ Number (pos 2) ∷ Op Slt 0 3 ∷ [];
  stmts = Loop (1 ∷ []) ∷ If 4 (2 ∷ 3 ∷ 4 ∷ []) [] ∷ Assign ((0, 2) ∷ []) ∷ gate 0 (Unused ∷ Unused ∷ Unused ∷ Unused ∷ []) (qubit 1 ∷ qubit 0 ∷ qubit 0 ∷ []) ∷ Again 0 ∷ [];
  body = 0 ∷ [];
  outputs = NumberOutput 0 0 ∷ [];
  labels = (99 ∷ 0 ∷ []) ∷ [];
  qubits = 2;
}

pub counting_ends : core_run counting [] 2 ≡ record { fate = Ended; events = x_event ∷ x_event ∷ []; records = IntRecord 0 (pos 2) ∷ [] }
unfolding expr_of stmt_of
counting_ends = refl

pub counting_turns : core_run counting [] 1 ≡ record { fate = Turning; events = x_event ∷ x_event ∷ []; records = [] }
unfolding expr_of stmt_of
counting_turns = refl

-- The cell is open at the loop's start, behind it, behind the choice and where the loop goes on: the choice weighs
-- 6, 2 for the cell and 1 for the comparison, the loop 4 and 1 twice, the assignment 1, the gate 1, the way back 2.
pub counting_weighs : weight counting ≡ 20
unfolding expr_of stmt_of reaches_expr
counting_weighs = refl

pub counting_knots : knots counting ≡ 4
unfolding stmt_of
counting_knots = refl

pub counting_calls : calls counting ≡ 1
unfolding stmt_of
counting_calls = refl

-- the start and the end of the loop, and the end of the choice
pub counting_joins : joined_cells counting ≡ 3
unfolding expr_of stmt_of
counting_joins = refl

-- block { c0 = measure q[0]; if (c0) { leave } reset q[0]; c1, c2 = c2, 7; } p(c2 * c0) q[0];
abbrev leaving : Core
leaving = record {
  cells = TruthKind ∷ NumberKind ∷ NumberKind ∷ [];
  exprs = Cell 0 ∷ Cell 2 ∷ Number (pos 7) ∷ Widen 0 ∷ Op Mul 1 3 ∷ Choose 0 4 2 ∷ [];
  stmts = Block (2 ∷ 3 ∷ 4 ∷ 5 ∷ []) ∷ gate 11 (Running 5 ∷ Unused ∷ Unused ∷ Unused ∷ []) (qubit 0 ∷ qubit 0 ∷ qubit 0 ∷ []) ∷ Measure (qubit 0) (Some 0) ∷ If 0 (6 ∷ []) [] ∷ Reset (qubit 0) ∷ Assign ((1, 1) ∷ (2, 2) ∷ []) ∷ Leave 0 ∷ [];
  body = 0 ∷ 1 ∷ [];
  outputs = TruthOutput 0 0 ∷ NumberOutput 1 1 ∷ NumberOutput 1 2 ∷ [];
  labels = (99 ∷ 0 ∷ []) ∷ (0 ∷ []) ∷ [];
  qubits = 1;
}

abbrev turned : ℕ → Event
turned units = GateEvent (record { 0 = 11 }) (pos units ∷ pos 0 ∷ pos 0 ∷ pos 0 ∷ []) (qubit 0 ∷ qubit 0 ∷ qubit 0 ∷ [])

pub leaving_leaves : core_run leaving (true ∷ []) 0 ≡ record { fate = Ended; events = MeasureEvent (qubit 0) true ∷ turned 0 ∷ []; records = BoolRecord 0 true ∷ IntRecord 1 (pos 0) ∷ IntRecord 1 (pos 0) ∷ [] }
unfolding expr_of stmt_of
leaving_leaves = refl

pub leaving_stays : core_run leaving (false ∷ []) 0 ≡ record { fate = Ended; events = MeasureEvent (qubit 0) false ∷ ResetEvent (qubit 0) ∷ turned 7 ∷ []; records = BoolRecord 0 false ∷ IntRecord 1 (pos 0) ∷ IntRecord 1 (pos 7) ∷ [] }
unfolding expr_of stmt_of
leaving_stays = refl

pub leaving_asks : core_run leaving [] 0 ≡ record { fate = Asked; events = []; records = [] }
unfolding expr_of stmt_of
leaving_asks = refl

-- the product and the choice are one node each, and so is the widened truth value
pub leaving_nodes : working_nodes leaving.exprs (5 ∷ 4 ∷ 5 ∷ []) ≡ 3
unfolding reaches_expr
leaving_nodes = refl

-- Behind the block all three cells are open: the block weighs 2 and 3; the measurement 2; the choice 6 and 2 for
-- the one cell that is open at its end; the leave 1, and 3 at its target; the reset 1; the gate 1 and its nodes 3.
pub leaving_weighs : weight leaving ≡ 27
unfolding expr_of stmt_of reaches_expr
leaving_weighs = refl

pub leaving_knots : knots leaving ≡ 3
unfolding stmt_of
leaving_knots = refl
