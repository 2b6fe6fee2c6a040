-- What is seen with more turns and further outcomes, for the runs of a thin program and of a module that does
-- what one does.
use Rattle.std.proofs.Common.{◌≡◌, ◌≢◌, ℕ, ◌+◌, Bool, List, [], ◌∷◌, ◌++◌, replicate, false, slice_set, refl, sym, ap, ◌∙◌}
use Rattle.qq_base.specs.declared.run.Event.{Event}
use Rattle.qq_base.specs.declared.run.Event.TheVariants.{Measure as MeasureEvent}
use Rattle.qq_base.specs.Seen.{Seen, Ended, event_then}
use Rattle.qir_module.specs.Module.{Module}
use Rattle.qir_module.specs.Machine.{machine_run}
use Rattle.qq_tool.specs.declared.thin.ThinLine.{ThinLine}
use Rattle.qq_tool.specs.declared.thin.ThinLine.TheVariants.{Hadamard, Not, ControlledNot, Measure}
use Rattle.qq_tool.specs.Thin.{Thin}
use Rattle.qq_tool.specs.ThinRun.{qubit_id, on_one, on_two, run_lines, source_run}
use Rattle.qq_tool.specs.Compiled.{Implements}
use Rattle.qq_tool.specs.Laws.{Run, EndedRunsStay, UnfinishedRunsGoOn}

-- ---- the lines of a program

lines_stay : (lines : List ThinLine) (bits outcomes more : List Bool) → (run_lines lines bits outcomes).fate ≡ Ended → run_lines lines bits (outcomes ++ more) ≡ run_lines lines bits outcomes
lines_stay [] bits outcomes more ended = refl
lines_stay (Hadamard qubit ∷ lines) bits outcomes more ended = ap (event_then (on_one 3 qubit)) (lines_stay lines bits outcomes more ended)
lines_stay (Not qubit ∷ lines) bits outcomes more ended = ap (event_then (on_one 0 qubit)) (lines_stay lines bits outcomes more ended)
lines_stay (ControlledNot control target ∷ lines) bits outcomes more ended = ap (event_then (on_two 15 control target)) (lines_stay lines bits outcomes more ended)
lines_stay (Measure qubit bit ∷ lines) bits [] more ended = absurd (cc ended)
lines_stay (Measure qubit bit ∷ lines) bits (outcome ∷ outcomes) more ended =
    ap (event_then (MeasureEvent (qubit_id qubit) outcome)) (lines_stay lines (slice_set bits bit outcome) outcomes more ended)

-- the first events are a prefix of the others
abbrev IsPrefix : Seen → Seen → Type 0
IsPrefix first second = (later : List Event) × (second.events ≡ first.events ++ later)

behind_event : (event : Event) (first second : Seen) → IsPrefix first second → IsPrefix (event_then event first) (event_then event second)
behind_event event first second prefix = (prefix.0, ap (λ events. event ∷ events) prefix.1)

lines_go_on : (lines : List ThinLine) (bits outcomes more : List Bool) → (run_lines lines bits outcomes).fate ≢ Ended → IsPrefix (run_lines lines bits outcomes) (run_lines lines bits (outcomes ++ more))
lines_go_on [] bits outcomes more going = absurd (going refl)
lines_go_on (Hadamard qubit ∷ lines) bits outcomes more going =
    behind_event (on_one 3 qubit) (run_lines lines bits outcomes) (run_lines lines bits (outcomes ++ more)) (lines_go_on lines bits outcomes more going)
lines_go_on (Not qubit ∷ lines) bits outcomes more going =
    behind_event (on_one 0 qubit) (run_lines lines bits outcomes) (run_lines lines bits (outcomes ++ more)) (lines_go_on lines bits outcomes more going)
lines_go_on (ControlledNot control target ∷ lines) bits outcomes more going =
    behind_event (on_two 15 control target) (run_lines lines bits outcomes) (run_lines lines bits (outcomes ++ more)) (lines_go_on lines bits outcomes more going)
lines_go_on (Measure qubit bit ∷ lines) bits [] more going = ((run_lines (Measure qubit bit ∷ lines) bits more).events, refl)
lines_go_on (Measure qubit bit ∷ lines) bits (outcome ∷ outcomes) more going =
    let stored = slice_set bits bit outcome in
    behind_event (MeasureEvent (qubit_id qubit) outcome) (run_lines lines stored outcomes) (run_lines lines stored (outcomes ++ more)) (lines_go_on lines stored outcomes more going)

-- ---- programs and modules

pub source_runs_stay : (p : Thin) → EndedRunsStay (source_run p)
source_runs_stay p outcomes more turns further ended = lines_stay p.lines (replicate p.bits false) outcomes more ended

pub source_runs_go_on : (p : Thin) → UnfinishedRunsGoOn (source_run p)
source_runs_go_on p outcomes more turns further going = lines_go_on p.lines (replicate p.bits false) outcomes more going

-- a run that is everywhere the same as another has its laws
stays_as : (run other : Run) → ((outcomes : List Bool) (turns : ℕ) → run outcomes turns ≡ other outcomes turns) → EndedRunsStay other → EndedRunsStay run
stays_as run other same stay outcomes more turns further ended =
    same (outcomes ++ more) (turns + further) ∙ stay outcomes more turns further (sym (ap (λ (s : Seen). s.fate) (same outcomes turns)) ∙ ended) ∙ sym (same outcomes turns)

goes_on_as : (run other : Run) → ((outcomes : List Bool) (turns : ℕ) → run outcomes turns ≡ other outcomes turns) → UnfinishedRunsGoOn other → UnfinishedRunsGoOn run
goes_on_as run other same goes outcomes more turns further going =
    let prefix = goes outcomes more turns further (λ ended. going (ap (λ (s : Seen). s.fate) (same outcomes turns) ∙ ended)) in
    (prefix.0, ap (λ (s : Seen). s.events) (same (outcomes ++ more) (turns + further)) ∙ prefix.1 ∙ ap (λ (s : Seen). s.events ++ prefix.0) (sym (same outcomes turns)))

pub module_runs_stay : (p : Thin) (m : Module) → Implements m p → EndedRunsStay (machine_run m)
module_runs_stay p m implements = stays_as (machine_run m) (source_run p) implements.same_run (source_runs_stay p)

pub module_runs_go_on : (p : Thin) (m : Module) → Implements m p → UnfinishedRunsGoOn (machine_run m)
module_runs_go_on p m implements = goes_on_as (machine_run m) (source_run p) implements.same_run (source_runs_go_on p)
