-- For private contracts alone: what is true of a machine between its steps.
use Rattle.std.specs.Prelude.{◌≡◌, ℕ, ◌+◌, ◌<◌, ◌≤◌, Bool, true, false, List, length, map, Option, Some, None, slice_get}
use Rattle.std.specs.List.{AllByRecursion}
use Rattle.qq_base.specs.declared.run.Step.{Step}
use Rattle.qq_base.specs.Seen.{Stuck}
use Rattle.qir_module.specs.declared.instruction.Last.{Last}
use Rattle.qir_module.specs.declared.instruction.Last.TheVariants.{Jump, Branch, Return}
use Rattle.qir_module.specs.declared.block.Phi.{Phi}
use Rattle.qir_module.specs.declared.block.Block.{Block}
use Rattle.qir_module.specs.Machine.{State, truth_in, place_of}
use Rattle.qir_module.specs.Passes.{IsKept, records_kept}
use Rattle.qir_machine.specs.declared.ways.Ways.{Ways}
use Rattle.qir_machine.specs.declared.ways.Exit.{Exit}
use Rattle.qir_machine.specs.declared.ways.Exit.TheVariants.{Ends, Enters, Nowhere}
use Rattle.qir_machine.specs.Effect.{IsRoomFor}
use Rattle.qir_machine.specs.Remaining.{Run, remaining}
use Rattle.qir_machine.specs.Steps.{Remains, AreSame, IsStep, RecordsComeLast}

-- ---- the ways out of a block

-- the places of the blocks that a last instruction names
abbrev pub ways_of : List Block → Last → Ways
ways_of blocks (Jump to) = record { first = place_of blocks to; second = None }
ways_of blocks (Branch test first second) = record { first = place_of blocks first; second = place_of blocks second }
ways_of blocks (Return code) = record { first = None; second = None }

abbrev pub to_place : Option ℕ → Exit
to_place None = Nowhere
to_place (Some place) = Enters place

abbrev pub to_either : Option Bool → Ways → Exit
to_either None ways = Nowhere
to_either (Some true) ways = to_place ways.first
to_either (Some false) ways = to_place ways.second

abbrev pub exit_of : State → Last → Ways → Exit
exit_of s (Jump to) ways = to_place ways.first
exit_of s (Branch test first second) ways = to_either (truth_in s test) ways
exit_of s (Return code) ways = Ends

-- ---- the machine between its steps

abbrev pub body_length : Option Block → ℕ
body_length None = 0
body_length (Some b) = length b.body

-- the instructions of the block that a run stands in
abbrev pub items_here : Run → ℕ
items_here run = body_length (slice_get run.of.blocks run.block)

-- so many registers, results and places of the buffer are enough for a block
pub record IsRoomForBlock (registers results phis : ℕ) (b : Block) : Type 0 where
  pub for_body : AllByRecursion (IsRoomFor registers results) b.body
  pub for_phis : AllByRecursion (λ (p : Phi). p.register < registers) b.phis
  pub for_buffer : length b.phis ≤ phis

-- the run is never stuck from here on
abbrev pub IsNeverStuck : Remains → Type 0
IsNeverStuck old = (outcomes : List Bool) (turns : ℕ) → (old outcomes turns).fate ≡ Stuck → ⊥

pub record IsReady (run : Run) (ways : List Ways) (phis : ℕ) : Type 0 where
  pub block : run.block < length run.of.blocks
  pub item : run.item ≤ items_here run
  pub ways_out : ways ≡ map (λ (b : Block). ways_of run.of.blocks b.last) run.of.blocks
  pub room : AllByRecursion (IsRoomForBlock (length run.registers) (length run.results) phis) run.of.blocks
  pub never_stuck : IsNeverStuck (remaining run)
  pub records : IsKept run.of records_kept

-- ---- what parts of a step do

-- the run goes on with nothing to be seen, in the same module
pub record GoesOn (old new : Run) : Type 0 where
  pub of : new.of ≡ old.of
  pub same : AreSame (remaining old) (remaining new)

-- an instruction shows nothing and the next one stands behind it, or it shows a step
pub record IsNext (old new : Run) : Type 0 where
  pub goes_on : GoesOn old new
  pub block : new.block ≡ old.block
  pub item : new.item ≡ old.item + 1

pub record IsLater (old new : Run) : Type 0 where
  pub goes_on : GoesOn old new
  pub later : old.block < new.block
  pub inside : new.block < length old.of.blocks

pub record IsAtEnd (old new : Run) : Type 0 where
  pub goes_on : GoesOn old new
  pub block : new.block ≡ old.block
  pub end : new.item ≡ items_here new

pub record Shows (old : Run) (given : Option Bool) (step : Step) (new : Run) : Type 0 where
  pub of : new.of ≡ old.of
  pub is_step : IsStep (remaining old) given step (remaining new)
  pub records_last : RecordsComeLast step (remaining new)
