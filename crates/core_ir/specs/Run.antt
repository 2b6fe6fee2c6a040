-- The run of the core, by its structure. A loop is a function of the turns that are left and of its body's
-- meaning. Words and truth values are those of the machine of `qir_module`, and so is what an instruction
-- word does with them.
use Rattle.std.specs.Prelude.{ℕ, zero, suc, ◌%◌, nat_eq, if◌then◌else◌, Bool, false, List, [], ◌∷◌, map, ℤ, pos, Option, Some, None, get_or, slice_set}
use Rattle.std.specs.Int.{w64, cast_unsigned}
use Rattle.qq_base.specs.declared.run.Event.{Event}
use Rattle.qq_base.specs.declared.run.Event.TheVariants.{Gate as GateEvent, Reset as ResetEvent, Measure as MeasureEvent}
use Rattle.qq_base.specs.declared.run.Record.{Record}
use Rattle.qq_base.specs.declared.run.Record.TheVariants.{Array as ArrayRecord, Bool as BoolRecord, Int as IntRecord}
use Rattle.qq_base.specs.Seen.{Seen, Ended, Turning, Stuck, only, event_then, record_then, with_outcome, with_turn}
use Rattle.qir_module.specs.declared.instruction.Opcode.{Opcode}
use Rattle.qir_module.specs.Machine.{Value, Word, Holds, on_words, on_truths}
use Rattle.core_ir.specs.declared.expression.CellKind.{CellKind}
use Rattle.core_ir.specs.declared.expression.CellKind.TheVariants.{Truth as TruthKind, Number as NumberKind}
use Rattle.core_ir.specs.declared.expression.CoreExpr.{CoreExpr}
use Rattle.core_ir.specs.declared.statement.GateArg.{GateArg}
use Rattle.core_ir.specs.declared.statement.GateArg.TheVariants.{Unused, Units, Running}
use Rattle.core_ir.specs.declared.statement.LeafCall.{LeafCall}
use Rattle.core_ir.specs.declared.program.Output.{Output}
use Rattle.core_ir.specs.declared.program.Output.TheVariants.{Array as ArrayOutput, Truth as TruthOutput, Number as NumberOutput}
use Rattle.core_ir.specs.Core.{Core}
use Rattle.core_ir.specs.Tree.{Expr, Cell, Truth, Number, Op, Widen, Narrow, Choose, Cut, expr_of, Stmt, Skip, Seq, Assign, Gate, Reset, Measure, If, Block, Loop, Leave, Again, program_of}

-- ---- values

-- a value as a word, and as a truth value; in a well-formed core each is read as what it is
abbrev pub word_in_value : Value → ℤ
word_in_value (Word z) = z
word_in_value (Holds b) = pos 0

abbrev pub truth_in_value : Value → Bool
truth_in_value (Holds b) = b
truth_in_value (Word z) = false

-- what an instruction word gives, on two words or on two truth values
abbrev pub op_on : Opcode → Value → Value → Option Value
op_on op (Word x) (Word y) = on_words op x y
op_on op (Holds a) (Holds b) = on_truths op a b
op_on op (Word x) (Holds b) = None
op_on op (Holds a) (Word y) = None

-- no core that fits meets an instruction that gives nothing
abbrev pub value_or_zero : Option Value → Value
value_or_zero None = Word (pos 0)
value_or_zero (Some v) = v

abbrev pub Cells : Type 0
Cells = List Value

abbrev pub cell_value : Cells → ℕ → Value
cell_value cells c = get_or cells c (Word (pos 0))

abbrev pub value_of : Expr → Cells → Value
value_of (Cell c) cells = cell_value cells c
value_of (Truth b) cells = Holds b
value_of (Number z) cells = Word z
value_of (Op op a b) cells = value_or_zero (op_on op (value_of a cells) (value_of b cells))
value_of (Widen a) cells = Word (if truth_in_value (value_of a cells) then pos 1 else pos 0)
value_of (Narrow a) cells = Holds (nat_eq (cast_unsigned w64 (word_in_value (value_of a cells)) % 2) 1)
value_of (Choose test a b) cells = if truth_in_value (value_of test cells) then value_of a cells else value_of b cells
value_of Cut cells = Word (pos 0)

-- the value of an expression by its number
abbrev pub value_at : List CoreExpr → ℕ → Cells → Value
value_at exprs e cells = value_of (expr_of exprs e) cells

-- all values are those of the cells before; of two pairs of one cell the later stands
abbrev pub assigned_cells : List CoreExpr → List (ℕ × ℕ) → Cells → Cells → Cells
assigned_cells exprs [] before after = after
assigned_cells exprs (p ∷ pairs) before after = assigned_cells exprs pairs before (slice_set after p.0 (value_at exprs p.1 before))

abbrev pub measured_cells : Option ℕ → Bool → Cells → Cells
measured_cells None outcome cells = cells
measured_cells (Some c) outcome cells = slice_set cells c (Holds outcome)

-- the units of a gate's argument
abbrev pub units_of : List CoreExpr → Cells → GateArg → ℤ
units_of exprs cells Unused = pos 0
units_of exprs cells (Units z) = z
units_of exprs cells (Running e) = word_in_value (value_at exprs e cells)

abbrev pub leaf_event : List CoreExpr → Cells → LeafCall → Event
leaf_event exprs cells leaf = GateEvent leaf.gate (map (units_of exprs cells) leaf.args) leaf.qubits

-- ---- statements

-- what remains of a run: from the cells, the outcomes that are left and the turns that are left
abbrev pub Rest : Type 0
Rest = Cells → List Bool → ℕ → Seen

-- the k-th level, counted from the inside
abbrev pub level : List Rest → ℕ → Rest
level [] k cells outcomes turns = only Stuck
level (r ∷ rs) zero cells outcomes turns = r cells outcomes turns
level (r ∷ rs) (suc k) cells outcomes turns = level rs k cells outcomes turns

-- A way back to the start of a loop: a turn is spent. The bound is at least the turns that are left.
abbrev pub again : (Rest → Rest) → ℕ → Rest
again body zero cells outcomes turns = only Turning
again body (suc bound) cells outcomes turns = with_turn turns (body (again body bound) cells outcomes)

-- What a statement does, with what remains at the ends of the enclosing blocks and loops, at the starts of
-- the enclosing loops, and behind it.
abbrev pub meaning : List CoreExpr → Stmt → List Rest → List Rest → Rest → Rest
meaning exprs Skip ends starts next cells outcomes turns = next cells outcomes turns
meaning exprs (Seq a b) ends starts next cells outcomes turns = meaning exprs a ends starts (meaning exprs b ends starts next) cells outcomes turns
meaning exprs (Assign pairs) ends starts next cells outcomes turns = next (assigned_cells exprs pairs cells cells) outcomes turns
meaning exprs (Gate leaf) ends starts next cells outcomes turns = event_then (leaf_event exprs cells leaf) (next cells outcomes turns)
meaning exprs (Reset qubit) ends starts next cells outcomes turns = event_then (ResetEvent qubit) (next cells outcomes turns)
meaning exprs (Measure qubit into) ends starts next cells outcomes turns =
    with_outcome outcomes (λ outcome others. event_then (MeasureEvent qubit outcome) (next (measured_cells into outcome cells) others turns))
meaning exprs (If test a b) ends starts next cells outcomes turns =
    if truth_in_value (value_at exprs test cells)
    then meaning exprs a ends starts next cells outcomes turns
    else meaning exprs b ends starts next cells outcomes turns
meaning exprs (Block a) ends starts next cells outcomes turns = meaning exprs a (next ∷ ends) starts next cells outcomes turns
meaning exprs (Loop a) ends starts next cells outcomes turns =
    meaning exprs a (next ∷ ends) (again (λ back. meaning exprs a (next ∷ ends) (back ∷ starts) next) turns ∷ starts) next cells outcomes turns
meaning exprs (Leave k) ends starts next cells outcomes turns = level ends k cells outcomes turns
meaning exprs (Again k) ends starts next cells outcomes turns = level starts k cells outcomes turns

-- ---- the program

abbrev pub record_of : Output → Cells → Record
record_of (ArrayOutput label size) cells = ArrayRecord label size
record_of (TruthOutput label c) cells = BoolRecord label (truth_in_value (cell_value cells c))
record_of (NumberOutput label c) cells = IntRecord label (word_in_value (cell_value cells c))

-- at the program's end the outputs are recorded
abbrev pub recorded : List Output → Rest
recorded [] cells outcomes turns = only Ended
recorded (o ∷ outputs) cells outcomes turns = record_then (record_of o cells) (recorded outputs cells outcomes turns)

-- all cells start as 0 or false
abbrev pub first_value : CellKind → Value
first_value TruthKind = Holds false
first_value NumberKind = Word (pos 0)

abbrev pub core_run : Core → List Bool → ℕ → Seen
core_run core outcomes turns = meaning core.exprs (program_of core) [] [] (recorded core.outputs) (map first_value core.cells) outcomes turns
