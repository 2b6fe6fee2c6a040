-- One instruction of a machine, between what is true of it before and behind.
use Rattle.std.proofs.Common.{◌≡◌, ℕ, zero, suc, ◌+◌, ◌<◌, Bool, List, [], ◌∷◌, length, slice_get, Option, Some, None, refl, sym, ap, ◌∙◌, subst, arith}
use Rattle.std.specs.List.{AllByRecursion}
use Rattle.std.specs.Option.{MatchOption}
use Rattle.qq_base.specs.declared.run.Step.{Step}
use Rattle.qir_module.specs.declared.instruction.Instr.{Instr}
use Rattle.qir_module.specs.declared.block.Block.{Block}
use Rattle.qir_module.specs.Machine.{effect_of, Later}
use Rattle.qir_machine.specs.declared.value.Value.{Value}
use Rattle.qir_machine.specs.declared.ways.Ways.{Ways}
use Rattle.qir_machine.specs.declared.effect.Effect.{Effect}
use Rattle.qir_machine.specs.declared.effect.Effect.TheVariants.{Nothing, Assign, Gate, Reset, Record, Measure, Stuck}
use Rattle.qir_machine.specs.Remaining.{Run, remaining, state_in, stored_in}
use Rattle.qir_machine.specs.Steps.{IsAsk}
use Rattle.qir_machine.specs.Effect.{effect_from, IsStuck, IsAsking, IsRoomFor}
use Rattle.qir_machine.specs.Performed.{IsShown, IsPerformed}
use Rattle.qir_machine.specs.Ready.{body_length, items_here, IsRoomForBlock, IsNeverStuck, IsReady, IsNext, Shows}
use Rattle.qir_machine.proofs.Recording.{IsLast, last_behind}
use Rattle.qir_machine.proofs.Runs.{behind_run, not_stuck_at, asked_at, instruction_taken}

pub all_at : {A : Type 0} (P : A → Type 0) (xs : List A) (i : ℕ) (x : A) → AllByRecursion P xs → slice_get xs i ≡ Some x → P x
all_at P [] i x all is = absurd (cc)
all_at P (y ∷ ys) zero x all is = let same : y ≡ x = cc in subst P same all.0
all_at P (y ∷ ys) (suc i) x all is = all_at P ys i x all.1 is

-- ---- before

pub in_body : (run : Run) (b : Block) → slice_get run.of.blocks run.block ≡ Some b → items_here run ≡ length b.body
in_body run b here = ap body_length here

pub room_at : (run : Run) (ways : List Ways) (phis : ℕ) (b : Block) → IsReady run ways phis → slice_get run.of.blocks run.block ≡ Some b → IsRoomForBlock (length run.registers) (length run.results) phis b
room_at run ways phis b ready here = all_at (IsRoomForBlock (length run.registers) (length run.results) phis) run.of.blocks run.block b ready.room here

pub room_for : (run : Run) (ways : List Ways) (phis : ℕ) (b : Block) (instr : Instr) → IsReady run ways phis → slice_get run.of.blocks run.block ≡ Some b → slice_get b.body run.item ≡ Some instr
    → IsRoomFor (length run.registers) (length run.results) instr
room_for run ways phis b instr ready here next = all_at (IsRoomFor (length run.registers) (length run.results)) b.body run.item instr (room_at run ways phis b ready here).for_body next

pub not_stuck : (run : Run) (b : Block) (instr : Instr) (effect : Effect) → slice_get run.of.blocks run.block ≡ Some b → slice_get b.body run.item ≡ Some instr
    → effect_from (state_in run) effect ≡ effect_of (length run.of.labels) (state_in run) instr → IsNeverStuck (remaining run) → IsStuck effect → ⊥
not_stuck run b instr Stuck here next is free stuck = not_stuck_at run b instr here next free is
not_stuck run b instr Nothing here next is free stuck = stuck
not_stuck run b instr (Assign r v) here next is free stuck = stuck
not_stuck run b instr (Gate gate args qubits) here next is free stuck = stuck
not_stuck run b instr (Reset qubit) here next is free stuck = stuck
not_stuck run b instr (Record shown) here next is free stuck = stuck
not_stuck run b instr (Measure qubit result) here next is free stuck = stuck

pub asking : (run : Run) (b : Block) (instr : Instr) (effect : Effect) (given : Option Bool) → slice_get run.of.blocks run.block ≡ Some b → slice_get b.body run.item ≡ Some instr
    → effect_from (state_in run) effect ≡ effect_of (length run.of.labels) (state_in run) instr → IsAsking effect given → IsAsk (remaining run) given (remaining run)
asking run b instr (Measure qubit result) None here next is asks = (refl, asked_at run b instr qubit result here next is, λ outcomes turns. refl)
asking run b instr (Measure qubit result) (Some outcome) here next is asks = absurd asks
asking run b instr Stuck given here next is asks = absurd asks
asking run b instr Nothing given here next is asks = absurd asks
asking run b instr (Assign r v) given here next is asks = absurd asks
asking run b instr (Gate gate args qubits) given here next is asks = absurd asks
asking run b instr (Reset qubit) given here next is asks = absurd asks
asking run b instr (Record shown) given here next is asks = absurd asks

-- ---- behind

pub taken_ready : (run : Run) (ways : List Ways) (phis : ℕ) (registers : List (Option Value)) (results : List (Option Bool)) → IsReady run ways phis → run.item < items_here run
    → length registers ≡ length run.registers → length results ≡ length run.results → IsNeverStuck (remaining (behind_run run registers results)) → IsReady (behind_run run registers results) ways phis
taken_ready run ways phis registers results ready more same_registers same_results free = record {
  block = ready.block;
  item = omega arith;
  ways_out = ready.ways_out;
  room = subst (λ n. AllByRecursion (IsRoomForBlock n (length results) phis) run.of.blocks) (sym same_registers)
      (subst (λ n. AllByRecursion (IsRoomForBlock (length run.registers) n phis) run.of.blocks) (sym same_results) ready.room);
  never_stuck = free;
  records = ready.records;
}

pub next_or_shown : (old new : Run) (given : Option Bool) (step : Option Step) → new.of ≡ old.of → new.block ≡ old.block → new.item ≡ old.item + 1 → IsShown (remaining old) given step (remaining new)
    → IsLast step (remaining new) → MatchOption step (IsNext old new) (λ shown. Shows old given shown new)
next_or_shown old new given None of block item is last = record { goes_on = record { of = of; same = is }; block = block; item = item }
next_or_shown old new given (Some step) of block item is last = record { of = of; is_step = is; records_last = last }

pub taking : (run : Run) (ways : List Ways) (phis : ℕ) (b : Block) (instr : Instr) (effect : Effect) (labels : ℕ) (given : Option Bool) (step : Option Step) (registers : List (Option Value)) (results : List (Option Bool))
    → IsReady run ways phis → slice_get run.of.blocks run.block ≡ Some b → slice_get b.body run.item ≡ Some instr
    → labels ≡ length run.of.labels → effect_from (state_in run) effect ≡ effect_of labels (state_in run) instr
    → ((later : Later) → IsPerformed (effect_from (state_in run) effect) later given step (stored_in registers results))
    → IsShown (remaining run) given step (remaining (behind_run run registers results))
taking run ways phis b instr effect labels given step registers results ready here next counted is performed =
    instruction_taken run b instr (effect_from (state_in run) effect) given step registers results here next (is ∙ ap (λ n. effect_of n (state_in run) instr) counted) performed

-- a record that was taken is behind all events
pub taking_last : (run : Run) (ways : List Ways) (phis : ℕ) (b : Block) (instr : Instr) (effect : Effect) (labels : ℕ) (given : Option Bool) (step : Option Step) (registers : List (Option Value)) (results : List (Option Bool))
    → IsReady run ways phis → slice_get run.of.blocks run.block ≡ Some b → slice_get b.body run.item ≡ Some instr
    → labels ≡ length run.of.labels → effect_from (state_in run) effect ≡ effect_of labels (state_in run) instr
    → ((later : Later) → IsPerformed (effect_from (state_in run) effect) later given step (stored_in registers results))
    → IsLast step (remaining (behind_run run registers results))
taking_last run ways phis b instr effect labels given step registers results ready here next counted is performed =
    last_behind run b instr (effect_from (state_in run) effect) given step registers results ready.records here next (is ∙ ap (λ n. effect_of n (state_in run) instr) counted) performed

pub never_stuck_at : (run : Run) (ways : List Ways) (phis : ℕ) (b : Block) (instr : Instr) (effect : Effect) (labels : ℕ)
    → IsReady run ways phis → slice_get run.of.blocks run.block ≡ Some b → slice_get b.body run.item ≡ Some instr
    → labels ≡ length run.of.labels → effect_from (state_in run) effect ≡ effect_of labels (state_in run) instr → IsStuck effect → ⊥
never_stuck_at run ways phis b instr effect labels ready here next counted is stuck =
    not_stuck run b instr effect here next (is ∙ ap (λ n. effect_of n (state_in run) instr) counted) ready.never_stuck stuck

pub asking_at : (run : Run) (ways : List Ways) (phis : ℕ) (b : Block) (instr : Instr) (effect : Effect) (labels : ℕ) (given : Option Bool)
    → IsReady run ways phis → slice_get run.of.blocks run.block ≡ Some b → slice_get b.body run.item ≡ Some instr
    → labels ≡ length run.of.labels → effect_from (state_in run) effect ≡ effect_of labels (state_in run) instr → IsAsking effect given → IsAsk (remaining run) given (remaining run)
asking_at run ways phis b instr effect labels given ready here next counted is asks =
    asking run b instr effect given here next (is ∙ ap (λ n. effect_of n (state_in run) instr) counted) asks
