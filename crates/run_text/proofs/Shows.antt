-- What a step makes of a run that is shown: the text of the step, and then that of what remains.
use Rattle.std.proofs.Common.{◌≡◌, refl, sym, ap, ◌∙◌, subst, ℕ, zero, suc, ◌+◌, ◌-◌, ◌<◌, arith, Bool, List, [], ◌∷◌, ◌++◌, length, drop, map, append_assoc, Option, Some, None, slice_get}
use Rattle.std.specs.List.{flat_map}
use Rattle.qq_base.specs.declared.run.Event.{Event}
use Rattle.qq_base.specs.declared.run.Event.TheVariants.{Gate, Reset, Measure}
use Rattle.qq_base.specs.declared.run.Record.{Record}
use Rattle.qq_base.specs.Seen.{Seen, Ending, Ended, Asked, Turning, only, event_then, record_then}
use Rattle.run_text.specs.Printing.{Desk, desk, Pending, Prints}
use Rattle.run_text.specs.Showing.{Going, seen_of, next_outcome, outcomes_behind, GoesOn}
use Rattle.run_text.specs.Shown.{shown, event_line, record_line, fate_line}
use Rattle.qir_machine.specs.Steps.{Remains, IsEvent, IsRecord, IsAsk, IsTurn, IsDone}

-- ---- the text of what is seen

shown_event : (labels : List (List ℕ)) (event : Event) (seen : Seen) → shown labels (event_then event seen) ≡ event_line event ++ shown labels seen
shown_event labels event seen =
    let events = flat_map event_line seen.events in
    let records = flat_map (record_line labels) seen.records in
    ap (λ (t : List ℕ). t ++ fate_line seen.fate) (append_assoc (event_line event) events records) ∙ append_assoc (event_line event) (events ++ records) (fate_line seen.fate)

record_first : (events one records fate : List ℕ) → events ≡ [] → events ++ (one ++ records) ++ fate ≡ one ++ (events ++ records ++ fate)
record_first events one records fate none = rw none (append_assoc one records fate)

shown_record : (labels : List (List ℕ)) (one : Record) (seen : Seen) → seen.events ≡ [] → shown labels (record_then one seen) ≡ record_line labels one ++ shown labels seen
shown_record labels one seen none =
    record_first (flat_map event_line seen.events) (record_line labels one) (flat_map (record_line labels) seen.records) (fate_line seen.fate) (ap (flat_map event_line) none)

-- ---- outcomes

first_used : (outcomes : List Bool) (outcome : Bool) → slice_get outcomes 0 ≡ Some outcome → outcomes ≡ outcome ∷ drop 1 outcomes
first_used [] outcome h = cc
first_used (x ∷ xs) outcome h = let same : x ≡ outcome = cc in ap (λ (b : Bool). b ∷ xs) same

none_left : (outcomes : List Bool) → slice_get outcomes 0 ≡ None → outcomes ≡ []
none_left [] h = refl
none_left (x ∷ xs) h = cc

map-drop : (xs : List ℕ) (f : ℕ → Bool) → map f (drop 1 xs) ≡ drop 1 (map f xs)
map-drop [] f = refl
map-drop (x ∷ xs) f = refl

pub map-outcomes_behind : (event : Event) (xs : List ℕ) (f : ℕ → Bool) → map f (outcomes_behind event xs) ≡ outcomes_behind event (map f xs)
map-outcomes_behind (Measure qubit outcome) xs f = map-drop xs f
map-outcomes_behind (Gate gate args qubits) xs f = refl
map-outcomes_behind (Reset qubit) xs f = refl

-- ---- steps

event_seen : (before behind : Remains) (event : Event) (outcomes : List Bool) (turns : ℕ) → IsEvent before (slice_get outcomes 0) event behind
    → before outcomes turns ≡ event_then event (behind (outcomes_behind event outcomes) turns)
event_seen before behind (Gate gate args qubits) outcomes turns is = is outcomes turns
event_seen before behind (Reset qubit) outcomes turns is = is outcomes turns
event_seen before behind (Measure qubit outcome) outcomes turns is =
    ap (λ (os : List Bool). before os turns) (first_used outcomes outcome is.0) ∙ is.1 (drop 1 outcomes) turns

pub event_goes_on : (before behind : Remains) (event : Event) (old new : Going) → IsEvent before (next_outcome old) event behind
    → new.labels ≡ old.labels → new.outcomes ≡ outcomes_behind event old.outcomes → new.turns ≡ old.turns → GoesOn before old behind new (event_line event)
event_goes_on before behind event old new is labels outcomes turns =
    let seen : seen_of before old ≡ event_then event (seen_of behind new) =
    event_seen before behind event old.outcomes old.turns is
    ∙ ap (λ (os : List Bool). event_then event (behind os old.turns)) (sym outcomes)
    ∙ ap (λ (t : ℕ). event_then event (behind new.outcomes t)) (sym turns) in
    record {
      labels = labels;
      shows = ap (shown old.labels) seen ∙ shown_event old.labels event (seen_of behind new) ∙ ap (λ (l : List (List ℕ)). event_line event ++ shown l (seen_of behind new)) (sym labels);
      fate = ap (λ (s : Seen). s.fate) seen;
      fewer = omega (arith, turns, ap (λ (s : Seen). length s.events) seen, ap (λ (s : Seen). length s.records) seen);
    }

pub record_goes_on : (before behind : Remains) (one : Record) (old new : Going) → IsRecord before one behind → ((outcomes : List Bool) (turns : ℕ) → (behind outcomes turns).events ≡ [])
    → new.labels ≡ old.labels → new.outcomes ≡ old.outcomes → new.turns ≡ old.turns → GoesOn before old behind new (record_line old.labels one)
record_goes_on before behind one old new is last labels outcomes turns =
    let seen : seen_of before old ≡ record_then one (seen_of behind new) =
    is old.outcomes old.turns
    ∙ ap (λ (os : List Bool). record_then one (behind os old.turns)) (sym outcomes)
    ∙ ap (λ (t : ℕ). record_then one (behind new.outcomes t)) (sym turns) in
    record {
      labels = labels;
      shows = ap (shown old.labels) seen ∙ shown_record old.labels one (seen_of behind new) (last new.outcomes new.turns)
          ∙ ap (λ (l : List (List ℕ)). record_line old.labels one ++ shown l (seen_of behind new)) (sym labels);
      fate = ap (λ (s : Seen). s.fate) seen;
      fewer = omega (arith, turns, ap (λ (s : Seen). length s.events) seen, ap (λ (s : Seen). length s.records) seen);
    }

pub turn_goes_on : (before behind : Remains) (old new : Going) → IsTurn before behind
    → new.labels ≡ old.labels → new.outcomes ≡ old.outcomes → old.turns ≡ suc new.turns → GoesOn before old behind new []
turn_goes_on before behind old new is labels outcomes turns =
    let seen : seen_of before old ≡ seen_of behind new =
    ap (λ (t : ℕ). before old.outcomes t) turns ∙ is.1 old.outcomes new.turns ∙ ap (λ (os : List Bool). behind os new.turns) (sym outcomes) in
    record {
      labels = labels;
      shows = ap (shown old.labels) seen ∙ ap (λ (l : List (List ℕ)). shown l (seen_of behind new)) (sym labels);
      fate = ap (λ (s : Seen). s.fate) seen;
      fewer = omega (arith, turns, ap (λ (s : Seen). length s.events) seen, ap (λ (s : Seen). length s.records) seen);
    }

pub asked_ends : (before behind : Remains) (old : Going) → IsAsk before (next_outcome old) behind → seen_of before old ≡ only Asked
asked_ends before behind old is = ap (λ (os : List Bool). before os old.turns) (none_left old.outcomes is.0) ∙ is.1 old.turns

pub turning_ends : (before behind : Remains) (old : Going) → IsTurn before behind → old.turns ≡ 0 → seen_of before old ≡ only Turning
turning_ends before behind old is none = ap (λ (t : ℕ). before old.outcomes t) none ∙ is.0 old.outcomes

pub done_ends : (before behind : Remains) (old : Going) → IsDone before behind → seen_of before old ≡ only Ended
done_ends before behind old is = is.0 old.outcomes old.turns

-- ---- the printer of what is shown

pub prints_from : (taken : Option (List ℕ)) (faults : ℕ) (p q : Pending) (text : List ℕ) (new : Desk) → p ≡ q → Prints (desk taken faults p) text new → Prints (desk taken faults q) text new
prints_from taken faults p q text new same prints = subst (λ (pending : Pending). Prints (desk taken faults pending) text new) same prints
