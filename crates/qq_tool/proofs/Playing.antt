-- A run on its way to a sink, from one step to the next.
use Rattle.std.proofs.Common.{◌≡◌, ◌≢◌, inl, inr, refl, sym, ap, ◌∙◌, subst, ℕ, Bool, true, false, List, [], ◌++◌, append_assoc, append-nil, Option, Some, None}
use Rattle.std.specs.Io.KnownBytes.{Appends}
use Rattle.qq_base.specs.declared.run.Fate.{Fate}
use Rattle.qq_base.specs.Seen.{Seen, only}
use Rattle.run_text.specs.Printing.{Desk, desk, Pending, unused, Prints}
use Rattle.run_text.specs.Showing.{seen_of, GoesOn}
use Rattle.run_text.specs.Shown.{shown, ending_of}
use Rattle.qir_machine.specs.Steps.{Remains, AreSame}
use Rattle.qq_tool.specs.declared.status.Status.{Status}
use Rattle.qq_tool.specs.declared.status.Status.TheVariants.{WriteFault, OutOfMemory}
use Rattle.qq_tool.specs.Answer.{change}
use Rattle.qq_tool.specs.Told.{IsTold}
use Rattle.qq_tool.proofs.Told.{keeps_same}
use Rattle.qq_tool.specs.Playing.{Played, ahead, IsOnWay, IsPlayed}

abbrev pub desk_of : Played → Desk
desk_of p = desk p.taken p.faults p.going.pending

abbrev pub Joins : Type 0
Joins = (first middle last : Desk) (text more : List ℕ) → Prints first text middle → Prints middle more last → Prints first (text ++ more) last

pub way_starts : (start : Played) → Prints (desk_of start) [] (desk_of start) → IsOnWay start start
way_starts start nothing = record { text = []; prints = nothing; shows = refl; fate = refl }

-- a step more
pub way_goes_on : Joins → (start now next : Played) → IsOnWay start now → (more : List ℕ) → Prints (desk_of now) more (desk_of next) → GoesOn now.remains now.going next.remains next.going more → IsOnWay start next
way_goes_on joins start now next way more prints on = record {
  text = way.text ++ more;
  prints = joins (desk_of start) (desk_of now) (desk_of next) way.text more way.prints prints;
  shows = way.shows ∙ ap (λ (t : List ℕ). way.text ++ t) on.shows ∙ sym (append_assoc way.text more (ahead next));
  fate = way.fate ∙ on.fate;
}

-- nothing is ahead but the fate
pub way_ends : Joins → (start now end : Played) (fate : Fate) → IsOnWay start now → Prints (desk_of now) [] (desk_of end) → seen_of now.remains now.going ≡ only (ending_of fate) → IsPlayed start (Some fate) end
way_ends joins start now end fate way prints seen =
    let ended = ap (λ (s : Seen). shown now.going.labels s) seen in (
      way.text ++ [],
      joins (desk_of start) (desk_of now) (desk_of end) way.text [] way.prints prints,
      way.shows ∙ ap (λ (t : List ℕ). way.text ++ t) ended ∙ sym (append_assoc way.text [] _),
      way.fate ∙ ap (λ (s : Seen). s.fate) seen,
    )

-- a write failed
pub way_fails : (start now : Played) → IsOnWay start now → now.going.pending.failed ≡ true → IsPlayed start None now
way_fails start now way failed = (way.text, ahead now, way.prints, way.shows, failed)

-- ---- what was told

-- the text of the run of a module is that of what remains at the start of the machine
pub shown_from : (labels given : List (List ℕ)) (run machine : Remains) (outcomes : List Bool) (turns : ℕ) → given ≡ labels → AreSame machine run
    → shown labels (run outcomes turns) ≡ shown given (machine outcomes turns)
shown_from labels given run machine outcomes turns same alike =
    ap (λ (ls : List (List ℕ)). shown ls (run outcomes turns)) (sym same) ∙ ap (λ (s : Seen). shown given s) (sym (alike outcomes turns))

-- a write failed in the text
pub told_failed : (due : Status → Type 0) (taken new_taken : Option (List ℕ)) (faults new_faults : ℕ) (new : Pending) (text rest whole : List ℕ)
    → Prints (desk taken faults unused) text (desk new_taken new_faults new) → whole ≡ text ++ rest → new.failed ≡ true → (due WriteFault → ⊥)
    → IsTold due whole (change taken new_taken faults new_faults) WriteFault
told_failed due taken new_taken faults new_faults new text rest whole prints is failed never = record {
  answer = inr (inl refl);
  whole = λ d. absurd (never d);
  part = λ _. (
    prints.part,
    prints.rest ++ rest,
    is ∙ ap (λ (t : List ℕ). t ++ rest) prints.split ∙ append_assoc prints.part prints.rest rest,
    prints.took,
  );
  fault = λ _. elim (prints.risen failed) [ inl wrong ↦ absurd cc | inr risen ↦ risen ];
  memory = λ e. absurd cc;
}

-- all of it was written
pub told_whole : (due : Status → Type 0) (taken new_taken : Option (List ℕ)) (faults new_faults : ℕ) (new : Pending) (text whole : List ℕ) (status : Status)
    → Prints (desk taken faults unused) text (desk new_taken new_faults new) → whole ≡ text → new.failed ≡ false → new.waiting ≡ [] → due status → status ≢ WriteFault → status ≢ OutOfMemory
    → IsTold due whole (change taken new_taken faults new_faults) status
told_whole due taken new_taken faults new_faults new text whole status prints is done empty d not_fault not_memory =
    let all : whole ≡ prints.part = is ∙ prints.split ∙ ap (λ (rest : List ℕ). prints.part ++ rest) (prints.waits done ∙ empty) ∙ append-nil prints.part in
    record {
      answer = inl d;
      whole = λ _. subst (λ (t : List ℕ). Appends taken new_taken t) (sym all) prints.took;
      part = λ e. absurd (not_fault e);
      fault = λ e. absurd (not_fault e);
      memory = λ e. absurd (not_memory e);
    }

-- nothing was written
pub told_none : (due : Status → Type 0) (taken : Option (List ℕ)) (faults : ℕ) (text : List ℕ) → (due OutOfMemory → ⊥) → IsTold due text (change taken taken faults faults) OutOfMemory
told_none due taken faults text never = record {
  answer = inr (inr refl);
  whole = λ d. absurd (never d);
  part = λ e. absurd cc;
  fault = λ e. absurd cc;
  memory = λ _. keeps_same taken;
}
