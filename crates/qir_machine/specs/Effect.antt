-- For private contracts alone: the code's effect of an instruction, as the machine's run calls it, and the room
-- that instructions need in the tables of registers and results.
use Rattle.std.specs.Prelude.{ℕ, ◌<◌, nat_eq, if◌then◌else◌, Bool, List, [], ◌∷◌, Option, Some, None}
use Rattle.std.specs.List.{flat_map, AllByRecursion}
use Rattle.qq_base.specs.declared.run.Event.TheVariants as event
use Rattle.qir_module.specs.Machine as run
use Rattle.qir_module.specs.Machine.{State, with_register}
use Rattle.qir_module.specs.declared.instruction.Arg.{Arg}
use Rattle.qir_module.specs.declared.instruction.Arg.TheVariants.{Id}
use Rattle.qir_module.specs.declared.instruction.Instr.{Instr}
use Rattle.qir_module.specs.declared.instruction.Instr.TheVariants.{Call}
use Rattle.qir_module.specs.Numbered.{registers_of}
use Rattle.qir_machine.specs.declared.effect.Effect.{Effect}
use Rattle.qir_machine.specs.declared.effect.Effect.TheVariants.{Nothing, Assign, Gate, Reset, Record, Measure, Stuck}
use Rattle.qir_machine.specs.Remaining.{value_of}

-- the effect, from the state before the instruction
abbrev pub effect_from : State → Effect → run.Effect
effect_from s Nothing = run.Goes s
effect_from s (Assign r v) = run.Goes (with_register s r (value_of v))
effect_from s (Gate gate args qubits) = run.Does (event.Gate gate args qubits) s
effect_from s (Reset qubit) = run.Does (event.Reset qubit) s
effect_from s (Record shown) = run.Shows shown s
effect_from s (Measure qubit result) = run.Measures qubit result s
effect_from s Stuck = run.Fails

-- the results that a call of the measurement names; function 6 of the table is that
abbrev pub id_in : Arg → List ℕ
id_in (Id n) = n ∷ []
id_in _ = []

abbrev pub results_of : Instr → List ℕ
results_of (Call register function args) = if nat_eq function.0 6 then flat_map id_in args else []
results_of _ = []

-- so many registers and results are enough for an instruction
abbrev pub IsRoomFor : ℕ → ℕ → Instr → Type 0
IsRoomFor registers results instr = AllByRecursion (λ r. r < registers) (registers_of instr) × AllByRecursion (λ k. k < results) (results_of instr)

-- an effect stores within them
abbrev pub StaysWithin : ℕ → ℕ → Effect → Type 0
StaysWithin registers results (Assign r v) = r < registers
StaysWithin registers results (Measure qubit result) = result < results
StaysWithin registers results _ = Unit {0}

abbrev pub IsStuck : Effect → Type 0
IsStuck Stuck = Unit {0}
IsStuck _ = ⊥

-- a measurement for which no outcome is given
abbrev pub IsAsking : Effect → Option Bool → Type 0
IsAsking (Measure qubit result) None = Unit {0}
IsAsking (Measure qubit result) (Some outcome) = ⊥
IsAsking _ outcome = ⊥
