-- What a name stands for in the code, and the thing that it stands for in the definitions of programs.
use Rattle.std.specs.Prelude.{ℕ, [], length, None}
use Rattle.qq_base.specs.declared.refusal.Span.{Span}
use Rattle.qasm_ast.specs.Tree.{Statement, gate, subroutine, no_statement}
use Rattle.qasm_ast.specs.Whole.{Source}
use Rattle.qasm_ast.specs.View.{statement_in}
use Rattle.qasm_types.specs.Types.{cells_of}
use Rattle.const_eval.specs.Meaning.{Meaning, Held, Running, OtherThing}
use Rattle.const_eval.specs.Seen.{constant_of}
use Rattle.const_eval.specs.Things.{Thing, Fixed, Variable, Counter, Qubits, Alias, TargetRow, DefinedGate, DefinedSubroutine, Gate, Subroutine}
use Rattle.open_names.specs.declared.slot.Slot.{Slot}
use Rattle.open_names.specs.declared.slot.Slot.TheVariants as slot

-- the gate or the subroutine that a statement defines; of any other statement no walk asks it
abbrev pub gate_of : Statement → Gate
gate_of (gate name params qs body place close) = record { params = params; qubits = qs; body = body }
gate_of _ = record { params = []; qubits = []; body = no_statement }

abbrev nowhere : Span
nowhere = record { line = 0; column = 0 }

abbrev pub subroutine_of : Statement → Subroutine
subroutine_of (subroutine name params result body place close) = record { params = params; result = result; body = body; close = close }
subroutine_of _ = record { params = []; result = None; body = no_statement; close = nowhere }

-- the thing in a program
abbrev pub thing_in : {A : Type 0} → Source → Slot A → Thing A
thing_in p (slot.Fixed c) = Fixed (constant_of c)
thing_in p (slot.Variable type a) = Variable type a
thing_in p (slot.Counter type a) = Counter type a
thing_in p (slot.Qubits register) = Qubits (record { items = register.ids.items; single = register.single })
thing_in p (slot.Alias register) = Alias (record { items = register.ids.items; single = register.single })
thing_in p (slot.Row row) = TargetRow row.0
thing_in p (slot.Gate id) = DefinedGate (gate_of (statement_in p id.0))
thing_in p (slot.Subroutine id) = DefinedSubroutine (subroutine_of (statement_in p id.0))

-- ---- for private contracts: sums

-- the cells and the declared qubits of the thing, whatever the program is
abbrev pub cells_of_slot : {A : Type 0} → Slot A → ℕ
cells_of_slot (slot.Variable type a) = cells_of type
cells_of_slot (slot.Counter type a) = 3
cells_of_slot _ = 0

abbrev pub qubits_of_slot : {A : Type 0} → Slot A → ℕ
qubits_of_slot (slot.Qubits register) = length register.ids.items
qubits_of_slot _ = 0

-- ---- for private contracts: meanings

abbrev pub meaning_of_slot : {A : Type 0} → Slot A → Meaning
meaning_of_slot (slot.Fixed c) = Held (constant_of c)
meaning_of_slot (slot.Variable type a) = Running
meaning_of_slot (slot.Counter type a) = Running
meaning_of_slot _ = OtherThing
