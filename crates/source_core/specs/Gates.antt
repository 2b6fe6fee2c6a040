-- What the elaboration makes of a gate call: the instructions of its list, behind the turns that they name. Each turn stands in a cell of
-- its own, which is put back behind the last instruction, so that no instruction computes anything.
use Rattle.std.specs.Prelude.{ℕ, suc, ◌+◌, ◌-◌, nat_lt, if◌then◌else◌, true, List, [], ◌∷◌, map, length, slice_get, pos, Option, Some, None}
use Rattle.std.specs.List.{range_with_len}
use Rattle.qasm_ast.specs.Tree.{Trees, no_tree, a_tree}
use Rattle.qasm_types.specs.declared.ty.Ty.{Ty}
use Rattle.qasm_types.specs.declared.ty.Ty.TheVariants as t
use Rattle.qir_module.specs.declared.instruction.Opcode.TheVariants as code
use Rattle.core_ir.specs.Tree.{Expr, Cell, Number, Op}
use Rattle.scope_env.specs.OpenScopes.{OpenScopes}
use Rattle.const_eval.specs.Typed.{type_of}
use Rattle.const_eval.specs.Things.{Known}
use Rattle.cell_exprs.specs.Parts.{single_part}
use Rattle.gate_lists.specs.declared.expansion.GateArg.{GateArg}
use Rattle.gate_lists.specs.declared.expansion.GateArg.TheVariants as arg
use Rattle.gate_lists.specs.declared.expansion.LeafCall.{LeafCall}
use Rattle.gate_lists.specs.declared.expansion.TurnExpr.{TurnExpr}
use Rattle.gate_lists.specs.declared.expansion.TurnExpr.TheVariants as turn
use Rattle.machine_words.specs.Words.{word_of}
use Rattle.source_meaning.specs.GateCalls.{GateCall}
use Rattle.source_core.specs.Core.{Argument, Unused, Units, Running, Core, Assign, Gate, Body, no_core, a_core, joined, body_of_all, assigned}
use Rattle.source_core.specs.Cells.{Held, zero_number}
use Rattle.source_core.specs.Parts.{parts_in, typed_in}

-- the instructions of a call in order, and the turns that they name: each names arguments of the call and turns in front of it
pub record Listed : Type 0 where
  pub turns : List TurnExpr
  pub calls : List LeafCall

-- what a call is expanded to
abbrev pub Lists : Type 0
Lists = OpenScopes Known → GateCall → Listed

-- ---- arguments of the call

-- the turn of an angle of n bits: its count, in units of 2^-32 turn
abbrev pub turn_part : Ty → List Expr → Expr
turn_part (t.Angle n) parts = if nat_lt n 32 then Op code.Shl (single_part parts) (Number (pos (32 - n))) else single_part parts
turn_part type parts = Number (pos 0)

abbrev pub turn_parts : OpenScopes Held → Trees → List Expr
turn_parts scopes no_tree = []
turn_parts scopes (a_tree a as') = turn_part (type_of (typed_in scopes true a)) (parts_in scopes true a) ∷ turn_parts scopes as'

abbrev pub part_at : List Expr → ℕ → Expr
part_at parts k = of (slice_get parts k)
  where
    of : Option Expr → Expr
    of None = Number (pos 0)
    of (Some e) = e

-- ---- turns, where that at place k stands in cell c + k

abbrev pub turn_expr : List Expr → ℕ → TurnExpr → Expr
turn_expr given c (turn.Outer k) = part_at given k
turn_expr given c (turn.Fixed z) = Number (word_of z)
turn_expr given c (turn.Neg a) = Op code.Sub (Number (pos 0)) (Cell (c + a))
turn_expr given c (turn.Add a b) = Op code.Add (Cell (c + a)) (Cell (c + b))
turn_expr given c (turn.Sub a b) = Op code.Sub (Cell (c + a)) (Cell (c + b))
turn_expr given c (turn.Mul a k) = Op code.Mul (Cell (c + a)) (Number (word_of k))
turn_expr given c (turn.Div a k) = Op code.Sdiv (Cell (c + a)) (Number k)

-- each behind those that it names, from the cell `at` on
abbrev pub turns_stored : List Expr → ℕ → ℕ → List TurnExpr → Body
turns_stored given c at [] = no_core
turns_stored given c at (t ∷ turns) = a_core (Assign ((at, turn_expr given c t) ∷ [])) (turns_stored given c (suc at) turns)

-- ---- instructions

abbrev pub argument_by : ℕ → GateArg → Argument
argument_by c arg.Unused = Unused
argument_by c (arg.Units z) = Units z
argument_by c (arg.Running k) = Running (Cell (c + k))

abbrev pub gate_by : ℕ → LeafCall → Core
gate_by c call = Gate call.gate (map (argument_by c) call.args) call.qubits

-- the turns, the instructions, and zeros in the cells of the turns
abbrev pub listed_body : List Expr → ℕ → Listed → Body
listed_body given c list =
    joined (turns_stored given c c list.turns) (
    joined (body_of_all (map (gate_by c) list.calls))
    (assigned (map zero_number (range_with_len c (length list.turns)))))
