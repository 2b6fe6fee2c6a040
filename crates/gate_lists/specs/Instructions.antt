-- Instructions of the target table, and what modifiers do to lists of them: the gate modifiers of the OpenQASM 3.0
-- specification, "Quantum instructions".
use Rattle.std.specs.Prelude.{ℕ, zero, suc, ◌+◌, ◌*◌, Bool, true, false, not, nat_eq, List, [], ◌∷◌, ◌++◌, map, filter, reverse, length, take, slice_index_or, ℤ, pos, int_lt, unsigned_abs, Option, Some, None, option_map, Result, Ok}
use Rattle.qq_base.specs.declared.refusal.Refusal.{Refusal}
use Rattle.qq_base.specs.declared.refusal.Span.{Span}
use Rattle.qq_base.specs.declared.rule.Rule.TheVariants.{InverseOutsideTable, ControlOutsideTable}
use Rattle.qq_base.specs.declared.rule.Rule.{Rule}
use Rattle.qq_base.specs.declared.run.QubitId.{QubitId}
use Rattle.gate_table.specs.declared.table.InvRow.{InvRow}
use Rattle.gate_table.specs.declared.table.CtlRow.{CtlRow}
use Rattle.gate_table.specs.Table.{inverse_of, control_of}
use Rattle.const_eval.specs.Refusing.{refused, go_on}
use Rattle.const_eval.specs.Walk.{Walk, asked, behind, then_walk}
use Rattle.gate_lists.specs.Units.{negated}

-- a gate of the target table by its row, with its arguments in units of 2^-32 turn, and its qubits
pub record Instruction : Type 0 where
  pub gate : ℕ
  pub arguments : List ℤ
  pub qubits : List QubitId

-- ---- one instruction

-- argument k of the inverse is minus argument `order[k]` of the instruction
abbrev pub inverse_instruction : Instruction → InvRow → Instruction
inverse_instruction i row = record {
  gate = row.gate.0;
  arguments = map (λ (k : ℕ). negated (slice_index_or i.arguments k (pos 0))) (take (length i.arguments) row.order);
  qubits = i.qubits;
}

-- the arguments under a control: the same, or this one turn
abbrev pub controlled_arguments : Option ℤ → List ℤ → List ℤ
controlled_arguments None arguments = arguments
controlled_arguments (Some turn) arguments = turn ∷ []

-- the control comes first
abbrev pub controlled_instruction : QubitId → Instruction → CtlRow → Instruction
controlled_instruction control i row = record {
  gate = row.gate.0;
  arguments = controlled_arguments row.turn i.arguments;
  qubits = control ∷ i.qubits;
}

-- ---- lists

-- each member changed, or the rule where one has no row
abbrev pub each_by_row : Rule → Span → (Instruction → Option Instruction) → List Instruction → Result (List Instruction) Refusal
each_by_row rule place f [] = Ok []
each_by_row rule place f (i ∷ is) = before (f i) (each_by_row rule place f is)
  where
    before : Option Instruction → Result (List Instruction) Refusal → Result (List Instruction) Refusal
    before None rest = refused rule place
    before (Some j) rest = go_on rest (λ js. Ok (j ∷ js))

-- the inverse of an instruction, and an instruction under a control, where the table has them
unfoldable pub inverse_by_row : Instruction → Option Instruction
inverse_by_row i = option_map (inverse_instruction i) (inverse_of i.gate)

unfoldable pub controlled_by_row : QubitId → Instruction → Option Instruction
controlled_by_row control i = option_map (controlled_instruction control i) (control_of i.gate)

-- `inv`: the inverses in reverse order
abbrev pub inverse_list : Span → List Instruction → Result (List Instruction) Refusal
inverse_list place is =
    go_on (each_by_row InverseOutsideTable place inverse_by_row is) (λ js.
    Ok (reverse js))

-- `ctrl` with one control: each member under that control
abbrev pub controlled_list : Span → QubitId → List Instruction → Result (List Instruction) Refusal
controlled_list place control is = each_by_row ControlOutsideTable place (controlled_by_row control) is

-- `ctrl(n)`: n such controls, that of the first qubit applied last
abbrev pub under_controls : Span → List QubitId → List Instruction → Result (List Instruction) Refusal
under_controls place [] is = Ok is
under_controls place (control ∷ controls) is = go_on (under_controls place controls is) (controlled_list place control)

-- the list so many times
abbrev pub copies_of : {A : Type 0} → ℕ → List A → List A
copies_of zero is = []
copies_of (suc n) is = is ++ copies_of n is

-- Each copy costs 1, and 1 for each member.
abbrev pub copied_list : ℕ → List Instruction → Walk (List Instruction)
copied_list n is = behind (n * (1 + length is)) (asked (Ok (copies_of n is)))

-- `pow(k)`: k copies, or for a negative k -k copies of the inverse
abbrev pub power_list : Span → ℤ → List Instruction → Walk (List Instruction)
power_list place k is = signed (int_lt k (pos 0))
  where
    signed : Bool → Walk (List Instruction)
    signed true = then_walk (asked (inverse_list place is)) (copied_list (unsigned_abs k))
    signed false = copied_list (unsigned_abs k) is

-- ---- phases

-- the row of `gphase`, which has no qubits
abbrev pub gphase : ℕ
gphase = 30

-- a `gphase` that is left without a control is no instruction
abbrev pub without_phases : List Instruction → List Instruction
without_phases is = filter (λ (i : Instruction). not (nat_eq i.gate gphase)) is
