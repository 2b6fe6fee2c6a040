-- What remains of a run, from one instruction to the next.
use Rattle.std.proofs.Common.{◌≡◌, ℕ, zero, suc, ◌+◌, Bool, List, [], ◌∷◌, length, drop, slice_get, Option, Some, None, refl, sym, ap, ◌∙◌, arith}
use Rattle.qq_base.specs.declared.run.Event.TheVariants.{Gate, Reset, Measure}
use Rattle.qq_base.specs.declared.run.Step.{Step}
use Rattle.qq_base.specs.declared.run.Step.TheVariants.{Event, Record, Ask, Turn, Done}
use Rattle.qq_base.specs.Seen.{Seen, Asked, only, event_then, record_then}
use Rattle.qir_module.specs.declared.instruction.Instr.{Instr}
use Rattle.qir_module.specs.declared.block.Block.{Block}
use Rattle.qir_module.specs.Machine.{Effect, Goes, Does, Shows, Measures, Fails, effect_of, Later, behind, run_rest, run_from, place_of, jump_to}
use Rattle.qir_machine.specs.declared.value.Value.{Value}
use Rattle.qir_machine.specs.Remaining.{Run, entries_behind, remaining_in, remaining, state_in, stored_in}
use Rattle.qir_machine.specs.Steps.{Remains, AreSame, IsStep}
use Rattle.qir_machine.specs.Ready.{IsNeverStuck}
use Rattle.qir_machine.specs.Performed.{IsShown, IsPerformed}

-- ---- never stuck, from one step to the next

pub stays_free : (old new : Remains) → AreSame old new → IsNeverStuck old → IsNeverStuck new
stays_free old new same free outcomes turns stuck = free outcomes turns (ap (λ (seen : Seen). seen.fate) (same outcomes turns) ∙ stuck)

pub step_free : (old : Remains) (given : Option Bool) (step : Step) (new : Remains) → IsStep old given step new → IsNeverStuck old → IsNeverStuck new
step_free old given (Event (Gate gate args qubits)) new is free outcomes turns stuck = free outcomes turns (ap (λ (seen : Seen). seen.fate) (is outcomes turns) ∙ stuck)
step_free old given (Event (Reset qubit)) new is free outcomes turns stuck = free outcomes turns (ap (λ (seen : Seen). seen.fate) (is outcomes turns) ∙ stuck)
step_free old given (Event (Measure qubit outcome)) new is free outcomes turns stuck = free (outcome ∷ outcomes) turns (ap (λ (seen : Seen). seen.fate) (is.1 outcomes turns) ∙ stuck)
step_free old given (Record shown) new is free outcomes turns stuck = free outcomes turns (ap (λ (seen : Seen). seen.fate) (is outcomes turns) ∙ stuck)
step_free old given Ask new is free outcomes turns stuck = free outcomes turns (ap (λ (seen : Seen). seen.fate) (sym (is.2 outcomes turns)) ∙ stuck)
step_free old given Turn new is free outcomes turns stuck = free outcomes (suc turns) (ap (λ (seen : Seen). seen.fate) (is.1 outcomes turns) ∙ stuck)
step_free old given Done new is free outcomes turns stuck = free outcomes turns (ap (λ (seen : Seen). seen.fate) (sym (is.1 outcomes turns)) ∙ stuck)

-- ---- what does the same may stand in its place

pub step_of_same : (old other : Remains) (given : Option Bool) (step : Step) (new : Remains) → AreSame old other → IsStep other given step new → IsStep old given step new
step_of_same old other given (Event (Gate gate args qubits)) new same is = λ outcomes turns. same outcomes turns ∙ is outcomes turns
step_of_same old other given (Event (Reset qubit)) new same is = λ outcomes turns. same outcomes turns ∙ is outcomes turns
step_of_same old other given (Event (Measure qubit outcome)) new same is = (is.0, λ outcomes turns. same (outcome ∷ outcomes) turns ∙ is.1 outcomes turns)
step_of_same old other given (Record shown) new same is = λ outcomes turns. same outcomes turns ∙ is outcomes turns
step_of_same old other given Ask new same is = (is.0, (λ turns. same [] turns ∙ is.1 turns), λ outcomes turns. is.2 outcomes turns ∙ sym (same outcomes turns))
step_of_same old other given Turn new same is = ((λ outcomes. same outcomes zero ∙ is.0 outcomes), λ outcomes turns. same outcomes (suc turns) ∙ is.1 outcomes turns)
step_of_same old other given Done new same is = ((λ outcomes turns. same outcomes turns ∙ is.0 outcomes turns), λ outcomes turns. is.1 outcomes turns ∙ sym (same outcomes turns))

pub step_to_same : (old : Remains) (given : Option Bool) (step : Step) (other new : Remains) → AreSame other new → IsStep old given step other → IsStep old given step new
step_to_same old given (Event (Gate gate args qubits)) other new same is = λ outcomes turns. is outcomes turns ∙ ap (event_then (Gate gate args qubits)) (same outcomes turns)
step_to_same old given (Event (Reset qubit)) other new same is = λ outcomes turns. is outcomes turns ∙ ap (event_then (Reset qubit)) (same outcomes turns)
step_to_same old given (Event (Measure qubit outcome)) other new same is = (is.0, λ outcomes turns. is.1 outcomes turns ∙ ap (event_then (Measure qubit outcome)) (same outcomes turns))
step_to_same old given (Record shown) other new same is = λ outcomes turns. is outcomes turns ∙ ap (record_then shown) (same outcomes turns)
step_to_same old given Ask other new same is = (is.0, is.1, λ outcomes turns. sym (same outcomes turns) ∙ is.2 outcomes turns)
step_to_same old given Turn other new same is = (is.0, λ outcomes turns. is.1 outcomes turns ∙ same outcomes turns)
step_to_same old given Done other new same is = (is.0, λ outcomes turns. sym (same outcomes turns) ∙ is.1 outcomes turns)

-- ---- one instruction

-- what remains behind the next instruction of a block
abbrev pub next_rest : Run → Block → Later
next_rest run b s outcomes turns =
    run_rest (length run.of.labels)
    (λ name. jump_to (run_from run.of (entries_behind run.of run.block turns) (Some b.name)) run.block (place_of run.of.blocks name))
    (drop (run.item + 1) b.body) b.last s outcomes turns

-- the turns are passed on as they are
behind_at : (effect : Effect) (later : ℕ → Later) (outcomes : List Bool) (turns : ℕ) → behind effect (later turns) outcomes turns ≡ behind effect (λ s os ts. later ts s os ts) outcomes turns
behind_at (Goes s) later outcomes turns = refl
behind_at (Does event s) later outcomes turns = refl
behind_at (Shows shown s) later outcomes turns = refl
behind_at (Measures qubit result s) later [] turns = refl
behind_at (Measures qubit result s) later (outcome ∷ outcomes) turns = refl
behind_at Fails later outcomes turns = refl

pub drop_next : {A : Type 0} (xs : List A) (i : ℕ) (x : A) → slice_get xs i ≡ Some x → drop i xs ≡ x ∷ drop (i + 1) xs
drop_next [] i x is = absurd (cc)
drop_next (y ∷ ys) zero x is = let same : y ≡ x = cc in ap (λ z. z ∷ ys) same
drop_next (y ∷ ys) (suc i) x is = drop_next ys i x is ∙ ap (λ n. x ∷ drop n (y ∷ ys)) same
  where
    same : suc (i + 1) ≡ suc i + 1
    same = omega arith

pub at_instruction : (run : Run) (b : Block) (instr : Instr) → slice_get run.of.blocks run.block ≡ Some b → slice_get b.body run.item ≡ Some instr
    → AreSame (remaining run) (behind (effect_of (length run.of.labels) (state_in run) instr) (next_rest run b))
at_instruction run b instr here next outcomes turns =
    ap (λ (o : Option Block). remaining_in run o outcomes turns) here
    ∙ ap (λ (left : List Instr). run_rest (length run.of.labels) (λ name. jump_to (run_from run.of (entries_behind run.of run.block turns) (Some b.name)) run.block (place_of run.of.blocks name)) left b.last (state_in run) outcomes turns) (drop_next b.body run.item instr next)
    ∙ behind_at (effect_of (length run.of.labels) (state_in run) instr)
    (λ ts. run_rest (length run.of.labels) (λ name. jump_to (run_from run.of (entries_behind run.of run.block ts) (Some b.name)) run.block (place_of run.of.blocks name)) (drop (run.item + 1) b.body) b.last)
    outcomes turns

-- the run that stands behind the instruction
pub behind_instruction : (old : Run) (b : Block) (registers : List (Option Value)) (results : List (Option Bool)) → slice_get old.of.blocks old.block ≡ Some b
    → AreSame (next_rest old b (state_in (record old { registers = registers; results = results }))) (remaining (record old { item = old.item + 1; registers = registers; results = results }))
behind_instruction old b registers results here outcomes turns = ap (λ (o : Option Block). remaining_in (record old { item = old.item + 1; registers = registers; results = results }) o outcomes turns) (sym here)

-- ---- an instruction that is taken

abbrev pub behind_run : Run → List (Option Value) → List (Option Bool) → Run
behind_run run registers results = record run { item = run.item + 1; registers = registers; results = results }

shown_between : (old other : Remains) (given : Option Bool) (step : Option Step) (new another : Remains) → AreSame old other → AreSame new another → IsShown other given step new → IsShown old given step another
shown_between old other given None new another before after is = λ outcomes turns. before outcomes turns ∙ is outcomes turns ∙ after outcomes turns
shown_between old other given (Some step) new another before after is =
    step_to_same old given step new another after (step_of_same old other given step new before is)

pub shown_free : (old : Remains) (given : Option Bool) (step : Option Step) (new : Remains) → IsShown old given step new → IsNeverStuck old → IsNeverStuck new
shown_free old given None new is free = stays_free old new is free
shown_free old given (Some step) new is free = step_free old given step new is free

pub instruction_taken : (run : Run) (b : Block) (instr : Instr) (effect : Effect) (given : Option Bool) (step : Option Step) (registers : List (Option Value)) (results : List (Option Bool))
    → slice_get run.of.blocks run.block ≡ Some b → slice_get b.body run.item ≡ Some instr
    → effect ≡ effect_of (length run.of.labels) (state_in run) instr
    → ((later : Later) → IsPerformed effect later given step (stored_in registers results))
    → IsShown (remaining run) given step (remaining (behind_run run registers results))
instruction_taken run b instr effect given step registers results here next is performed =
    shown_between (remaining run) (behind effect (next_rest run b)) given step (next_rest run b (stored_in registers results)) (remaining (behind_run run registers results))
    (λ outcomes turns. at_instruction run b instr here next outcomes turns ∙ ap (λ (e : Effect). behind e (next_rest run b) outcomes turns) (sym is))
    (behind_instruction run b registers results here)
    (performed (next_rest run b))

-- the machine is not stuck at it
pub not_stuck_at : (run : Run) (b : Block) (instr : Instr) → slice_get run.of.blocks run.block ≡ Some b → slice_get b.body run.item ≡ Some instr
    → IsNeverStuck (remaining run) → Fails ≡ effect_of (length run.of.labels) (state_in run) instr → ⊥
not_stuck_at run b instr here next free is =
    free [] 0 (ap (λ (seen : Seen). seen.fate) (at_instruction run b instr here next [] 0 ∙ ap (λ (e : Effect). behind e (next_rest run b) [] 0) (sym is)))

-- a measurement without an outcome
pub asked_at : (run : Run) (b : Block) (instr : Instr) (qubit result : ℕ) → slice_get run.of.blocks run.block ≡ Some b → slice_get b.body run.item ≡ Some instr
    → Measures qubit result (state_in run) ≡ effect_of (length run.of.labels) (state_in run) instr → (turns : ℕ) → remaining run [] turns ≡ only Asked
asked_at run b instr qubit result here next is turns =
    at_instruction run b instr here next [] turns ∙ ap (λ (e : Effect). behind e (next_rest run b) [] turns) (sym is)
