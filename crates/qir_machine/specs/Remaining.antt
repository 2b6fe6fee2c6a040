-- Where a run of a module stands, and what remains of it: what will be seen from there on, for the outcomes and
-- turns that are left. It is the machine's run of `qir_module`, taken up in the middle: the instructions that are
-- left of the block, its last instruction, and the blocks that are entered behind it. The whole run of a module is
-- what remains at its start.
use Rattle.std.specs.Prelude.{ℕ, suc, ◌+◌, ◌-◌, ◌*◌, Bool, List, length, drop, Option, Some, None, slice_get}
use Rattle.std.specs.Option.{option_map}
use Rattle.qq_base.specs.Seen.{Seen, Stuck, only}
use Rattle.qir_module.specs.declared.block.Block.{Block}
use Rattle.qir_module.specs.Module.{Module}
use Rattle.qir_module.specs.Machine as machine
use Rattle.qir_module.specs.Machine.{State, place_of, jump_to, run_rest, run_from}
use Rattle.qir_machine.specs.declared.value.Value.{Value}
use Rattle.qir_machine.specs.declared.value.Value.TheVariants.{Word, Truth}

-- In the block at a place, in front of one of its instructions, or in front of its last one. The two tables have
-- a place for each register and each result, by their numbers; where nothing was stored yet stands None.
pub record Run : Type 0 where
  pub of : Module
  pub block : ℕ
  pub item : ℕ
  pub registers : List (Option Value)
  pub results : List (Option Bool)

-- a value, as the machine's run calls it
abbrev pub value_of : Value → machine.Value
value_of (Word z) = machine.Word z
value_of (Truth b) = machine.Holds b

-- what a table holds at a place, if it has the place and something was stored there
abbrev pub held : {A : Type 0} → Option (Option A) → Option A
held None = None
held (Some place) = place

-- the state that two tables hold
abbrev pub stored_in : List (Option Value) → List (Option Bool) → State
stored_in registers results = record {
  registers = λ r. option_map value_of (held (slice_get registers r));
  results = λ k. held (slice_get results k);
}

abbrev pub state_in : Run → State
state_in run = stored_in run.registers run.results

-- the blocks that may be entered behind the one at a place, with so many turns: the later ones, and all of them for each turn
abbrev pub entries_behind : Module → ℕ → ℕ → ℕ
entries_behind m place turns = turns * length m.blocks + (length m.blocks - suc place)

abbrev pub remaining_in : Run → Option Block → List Bool → ℕ → Seen
remaining_in run None outcomes turns = only Stuck
remaining_in run (Some b) outcomes turns =
    run_rest (length run.of.labels)
    (λ name. jump_to (run_from run.of (entries_behind run.of run.block turns) (Some b.name)) run.block (place_of run.of.blocks name))
    (drop run.item b.body) b.last (state_in run) outcomes turns

abbrev pub remaining : Run → List Bool → ℕ → Seen
remaining run = remaining_in run (slice_get run.of.blocks run.block)
