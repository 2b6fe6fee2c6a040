-- A run with more outcomes and turns: where it ended it is the same, and its events go on those that were seen.
use Rattle.std.proofs.Common.{◌≡◌, ℕ, zero, suc, ◌+◌, ◌*◌, Bool, true, false, nat_lt, List, [], ◌∷◌, ◌++◌, length, slice_get, Option, Some, None, refl, sym, ap, ◌∙◌, subst, arith, add-mul}
use Rattle.qq_base.specs.declared.run.Event.{Event}
use Rattle.qq_base.specs.declared.run.Event.TheVariants.{Measure}
use Rattle.qq_base.specs.declared.run.Record.{Record}
use Rattle.qq_base.specs.Seen.{Seen, Ending, Ended, Asked, Turning, Stuck, only, event_then, record_then, with_turn}
use Rattle.qir_module.specs.declared.instruction.Instr.{Instr}
use Rattle.qir_module.specs.declared.instruction.Last.{Last}
use Rattle.qir_module.specs.declared.instruction.Last.TheVariants.{Jump, Branch, Return}
use Rattle.qir_module.specs.declared.block.Block.{Block}
use Rattle.qir_module.specs.Module.{Module}
use Rattle.qir_module.specs.Machine.{State, first_state, with_result, truth_in, Effect, Goes, Does, Shows, Measures, Fails, effect_of, Later, behind, branched, run_rest, take_phis, after_phis, place_of, jumped, jump_to, run_block, run_from, machine_run}
use Rattle.qir_machine.specs.Laws.{GoesOnAs, StaysEnded, KeepsEvents}

-- what is seen of a run, and of the same run with more outcomes and turns
record IsLonger (short long : Seen) : Type 0 where
  same : short.fate ≡ Ended → long ≡ short
  more : GoesOnAs short.events long.events

nothing : (fate : Ending) (long : Seen) → (fate ≡ Ended → ⊥) → IsLonger (only fate) long
nothing fate long not_ended = record { same = λ is. absurd (not_ended is); more = (long.events, refl) }

ended : IsLonger (only Ended) (only Ended)
ended = record { same = λ is. refl; more = ([], refl) }

event_longer : (event : Event) (short long : Seen) → IsLonger short long → IsLonger (event_then event short) (event_then event long)
event_longer event short long l = record { same = λ is. ap (event_then event) (l.same is); more = (l.more.0, ap (λ (es : List Event). event ∷ es) l.more.1) }

record_longer : (shown : Record) (short long : Seen) → IsLonger short long → IsLonger (record_then shown short) (record_then shown long)
record_longer shown short long l = record { same = λ is. ap (record_then shown) (l.same is); more = l.more }

stuck_not_ended : Stuck ≡ Ended → ⊥
stuck_not_ended is = cc

asked_not_ended : Asked ≡ Ended → ⊥
asked_not_ended is = cc

turning_not_ended : Turning ≡ Ended → ⊥
turning_not_ended is = cc

-- one way to go on is longer than another, whatever the state and the outcomes
abbrev AreLonger : ℕ → ℕ → List Bool → Later → Later → Type 0
AreLonger turns more others short long = (s : State) (outcomes : List Bool) → IsLonger (short s outcomes turns) (long s (outcomes ++ others) more)

behind_longer : (effect : Effect) (turns more : ℕ) (others : List Bool) (short long : Later) → AreLonger turns more others short long → (outcomes : List Bool) → IsLonger (behind effect short outcomes turns) (behind effect long (outcomes ++ others) more)
behind_longer (Goes s) turns more others short long l outcomes = l s outcomes
behind_longer (Does event s) turns more others short long l outcomes = event_longer event (short s outcomes turns) (long s (outcomes ++ others) more) (l s outcomes)
behind_longer (Shows shown s) turns more others short long l outcomes = record_longer shown (short s outcomes turns) (long s (outcomes ++ others) more) (l s outcomes)
behind_longer (Measures qubit result s) turns more others short long l [] = nothing Asked (behind (Measures qubit result s) long ([] ++ others) more) asked_not_ended
behind_longer (Measures qubit result s) turns more others short long l (outcome ∷ outcomes) =
    event_longer (Measure (record { 0 = qubit }) outcome) (short (with_result s result outcome) outcomes turns) (long (with_result s result outcome) (outcomes ++ others) more) (l (with_result s result outcome) outcomes)
behind_longer Fails turns more others short long l outcomes = nothing Stuck (only Stuck) stuck_not_ended

branched_longer : (test : Option Bool) (turns more : ℕ) (others : List Bool) (first second first' second' : Later) (s : State) (outcomes : List Bool)
    → IsLonger (first s outcomes turns) (first' s (outcomes ++ others) more) → IsLonger (second s outcomes turns) (second' s (outcomes ++ others) more)
    → IsLonger (branched test first second s outcomes turns) (branched test first' second' s (outcomes ++ others) more)
branched_longer None turns more others first second first' second' s outcomes a b = nothing Stuck (only Stuck) stuck_not_ended
branched_longer (Some true) turns more others first second first' second' s outcomes a b = a
branched_longer (Some false) turns more others first second first' second' s outcomes a b = b

rest_longer : (labels turns more : ℕ) (others : List Bool) (jump jump' : ℕ → Later) → ((name : ℕ) → AreLonger turns more others (jump name) (jump' name))
    → (instrs : List Instr) (last : Last) → AreLonger turns more others (run_rest labels jump instrs last) (run_rest labels jump' instrs last)
rest_longer labels turns more others jump jump' l [] (Jump to) s outcomes = l to s outcomes
rest_longer labels turns more others jump jump' l [] (Branch test first second) s outcomes =
    branched_longer (truth_in s test) turns more others (jump first) (jump second) (jump' first) (jump' second) s outcomes (l first s outcomes) (l second s outcomes)
rest_longer labels turns more others jump jump' l [] (Return code) s outcomes = ended
rest_longer labels turns more others jump jump' l (instr ∷ instrs) last s outcomes =
    behind_longer (effect_of labels s instr) turns more others (run_rest labels jump instrs last) (run_rest labels jump' instrs last) (rest_longer labels turns more others jump jump' l instrs last) outcomes

-- entering blocks, for all turns and at least as many
abbrev EntersLonger : List Bool → (ℕ → Later) → (ℕ → Later) → Type 0
EntersLonger others enter enter' = (to turns extra : ℕ) → AreLonger turns (turns + extra) others (enter to) (enter' to)

jump_longer : (others : List Bool) (enter enter' : ℕ → Later) (from : ℕ) (to : Option ℕ) (turns extra : ℕ) → EntersLonger others enter enter' → AreLonger turns (turns + extra) others (jump_to enter from to) (jump_to enter' from to)
jump_longer others enter enter' from None turns extra l s outcomes = nothing Stuck (only Stuck) stuck_not_ended
jump_longer others enter enter' from (Some to) turns extra l s outcomes = by_test (nat_lt from to) turns
  where
    by_test : (later : Bool) (t : ℕ) → IsLonger (jumped later (enter to) s outcomes t) (jumped later (enter' to) s (outcomes ++ others) (t + extra))
    by_test true t = l to t extra s outcomes
    by_test false zero = nothing Turning (jumped false (enter' to) s (outcomes ++ others) (0 + extra)) turning_not_ended
    by_test false (suc t) =
        let spent : suc (t + extra) ≡ suc t + extra = omega arith in
        subst (λ (n : ℕ). IsLonger (enter to s outcomes t) (with_turn n (enter' to s (outcomes ++ others)))) spent (l to t extra s outcomes)

phis_longer : (taken : Option State) (go go' : State → Seen) → ((s : State) → IsLonger (go s) (go' s)) → IsLonger (after_phis taken go) (after_phis taken go')
phis_longer None go go' l = nothing Stuck (only Stuck) stuck_not_ended
phis_longer (Some s) go go' l = l s

block_longer : (m : Module) (others : List Bool) (enter enter' : Option ℕ → ℕ → Later) (from : Option ℕ) (place : ℕ) (here : Option Block) (turns extra : ℕ) → ((name : Option ℕ) → EntersLonger others (enter name) (enter' name))
    → AreLonger turns (turns + extra) others (run_block m enter from place here) (run_block m enter' from place here)
block_longer m others enter enter' from place None turns extra l s outcomes = nothing Stuck (only Stuck) stuck_not_ended
block_longer m others enter enter' from place (Some b) turns extra l s outcomes =
    phis_longer (take_phis b.phis from s) _ _ (λ s'. rest_longer (length m.labels) turns (turns + extra) others _ _ (λ name. jump_longer others (enter (Some b.name)) (enter' (Some b.name)) place (place_of m.blocks name) turns extra (l (Some b.name))) b.body b.last s' outcomes)

from_longer : (m : Module) (others : List Bool) (bound more : ℕ) (from : Option ℕ) (place turns extra : ℕ) → AreLonger turns (turns + extra) others (run_from m bound from place) (run_from m (bound + more) from place)
from_longer m others zero more from place turns extra s outcomes = nothing Stuck (run_from m (0 + more) from place s (outcomes ++ others) (turns + extra)) stuck_not_ended
from_longer m others (suc bound) more from place turns extra s outcomes =
    let next : suc (bound + more) ≡ suc bound + more = omega arith in
    subst (λ (n : ℕ). IsLonger (run_from m (suc bound) from place s outcomes turns) (run_from m n from place s (outcomes ++ others) (turns + extra))) next
    (block_longer m others (run_from m bound) (run_from m (bound + more)) from place (slice_get m.blocks place) turns extra (λ name to ts ex. from_longer m others bound more name to ts ex) s outcomes)

longer : (m : Module) (outcomes others : List Bool) (turns extra : ℕ) → IsLonger (machine_run m outcomes turns) (machine_run m (outcomes ++ others) (turns + extra))
longer m outcomes others turns extra =
    let all : (turns + 1) * length m.blocks + extra * length m.blocks ≡ (turns + extra + 1) * length m.blocks = spread (length m.blocks) in
    subst (λ (n : ℕ). IsLonger (machine_run m outcomes turns) (run_from m n None 0 first_state (outcomes ++ others) (turns + extra))) all
    (from_longer m others ((turns + 1) * length m.blocks) (extra * length m.blocks) None 0 turns extra first_state outcomes)
  where
    spread : (n : ℕ) → (turns + 1) * n + extra * n ≡ (turns + extra + 1) * n
    spread n = let e : (turns + 1) + extra ≡ turns + extra + 1 = omega arith in sym (add-mul (turns + 1) extra n) ∙ ap (λ k. k * n) e

pub stays_ended : StaysEnded
stays_ended m outcomes others turns extra is = (longer m outcomes others turns extra).same is

pub keeps_events : KeepsEvents
keeps_events m outcomes others turns extra = (longer m outcomes others turns extra).more
