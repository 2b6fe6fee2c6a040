-- The run of the core's tree, in the form of `meaning` of `core_ir`: with what remains at the ends of the enclosing blocks and loops, at
-- the starts of the enclosing loops, and behind it.
use Rattle.std.specs.Prelude.{ℕ, if◌then◌else◌, Bool, List, [], ◌∷◌, map, ℤ, pos, slice_set}
use Rattle.qq_base.specs.declared.run.GateId.{GateId}
use Rattle.qq_base.specs.declared.run.QubitId.{QubitId}
use Rattle.qq_base.specs.declared.run.Event.{Event}
use Rattle.qq_base.specs.declared.run.Event.TheVariants as event
use Rattle.qq_base.specs.Seen.{Seen, event_then, with_outcome}
use Rattle.core_ir.specs.declared.expression.CellKind.{CellKind}
use Rattle.core_ir.specs.declared.program.Output.{Output}
use Rattle.core_ir.specs.Tree.{Expr}
use Rattle.core_ir.specs.Run.{Cells, Rest, value_of, truth_in_value, word_in_value, measured_cells, level, again, recorded, first_value}
use Rattle.source_core.specs.Core.{Argument, Unused, Units, Running, Core, Assign, Gate, Reset, Measure, If, Block, Loop, Leave, Again, Body, no_core, a_core}

-- all values are those of the cells before; of two pairs of one cell the later stands
abbrev pub pairs_stored : List (ℕ × Expr) → Cells → Cells → Cells
pairs_stored [] before after = after
pairs_stored (p ∷ pairs) before after = pairs_stored pairs before (slice_set after p.0 (value_of p.1 before))

abbrev pub units_in : Cells → Argument → ℤ
units_in cells Unused = pos 0
units_in cells (Units z) = z
units_in cells (Running e) = word_in_value (value_of e cells)

abbrev pub gate_event : Cells → GateId → List Argument → List QubitId → Event
gate_event cells gate arguments qubits = event.Gate gate (map (units_in cells) arguments) qubits

abbrev mutual
  pub core_meaning : Core → List Rest → List Rest → Rest → Rest
  core_meaning (Assign pairs) ends starts next cells outcomes turns = next (pairs_stored pairs cells cells) outcomes turns
  core_meaning (Gate gate arguments qubits) ends starts next cells outcomes turns = event_then (gate_event cells gate arguments qubits) (next cells outcomes turns)
  core_meaning (Reset qubit) ends starts next cells outcomes turns = event_then (event.Reset qubit) (next cells outcomes turns)
  core_meaning (Measure qubit into) ends starts next cells outcomes turns =
      with_outcome outcomes (λ outcome others. event_then (event.Measure qubit outcome) (next (measured_cells into outcome cells) others turns))
  core_meaning (If test a b) ends starts next cells outcomes turns =
      if truth_in_value (value_of test cells)
      then body_meaning a ends starts next cells outcomes turns
      else body_meaning b ends starts next cells outcomes turns
  core_meaning (Block a) ends starts next cells outcomes turns = body_meaning a (next ∷ ends) starts next cells outcomes turns
  core_meaning (Loop a) ends starts next cells outcomes turns =
      body_meaning a (next ∷ ends) (again (λ back. body_meaning a (next ∷ ends) (back ∷ starts) next) turns ∷ starts) next cells outcomes turns
  core_meaning (Leave k) ends starts next cells outcomes turns = level ends k cells outcomes turns
  core_meaning (Again k) ends starts next cells outcomes turns = level starts k cells outcomes turns

  pub body_meaning : Body → List Rest → List Rest → Rest → Rest
  body_meaning no_core ends starts next cells outcomes turns = next cells outcomes turns
  body_meaning (a_core c rest) ends starts next cells outcomes turns = core_meaning c ends starts (body_meaning rest ends starts next) cells outcomes turns

-- all cells start as 0 or false, and at the end the outputs are recorded
abbrev pub body_run : Body → List CellKind → List Output → List Bool → ℕ → Seen
body_run body kinds outputs outcomes turns = body_meaning body [] [] (recorded outputs) (map first_value kinds) outcomes turns
