-- The bound on entered blocks never ends a run: each bound that is large enough gives the same.
use Rattle.std.proofs.Common.{◌≡◌, ℕ, zero, suc, ◌+◌, ◌-◌, ◌*◌, ◌<◌, ◌≤◌, min, Bool, true, false, nat_lt, List, [], ◌∷◌, length, slice_get, Option, Some, None, refl, sym, ap, ◌∙◌, arith}
use Rattle.std.proofs.Math.Nat.{suc-mul}
use Rattle.std.proofs.lemmas.Bool.{ltb-true, ltb-false}
use Rattle.std.proofs.lemmas.Option.{slice_get_past}
use Rattle.qq_base.specs.declared.run.Event.TheVariants.{Measure}
use Rattle.qq_base.specs.Seen.{Seen, Stuck, only, event_then, record_then}
use Rattle.qir_module.specs.declared.instruction.Instr.{Instr}
use Rattle.qir_module.specs.declared.instruction.Last.{Last}
use Rattle.qir_module.specs.declared.instruction.Last.TheVariants.{Jump, Branch, Return}
use Rattle.qir_module.specs.declared.block.Block.{Block}
use Rattle.qir_module.specs.Module.{Module}
use Rattle.qir_module.specs.Machine.{State, with_result, truth_in, Effect, Goes, Does, Shows, Measures, Fails, effect_of, Later, behind, branched, run_rest, take_phis, after_phis, place_of, jumped, jump_to, run_block, run_from}

-- ---- what stands behind may be exchanged for what does the same with the turns that are left

behind_same : (effect : Effect) (later other : Later) (turns : ℕ) → ((s : State) (outcomes : List Bool) → later s outcomes turns ≡ other s outcomes turns)
    → (outcomes : List Bool) → behind effect later outcomes turns ≡ behind effect other outcomes turns
behind_same (Goes s) later other turns same outcomes = same s outcomes
behind_same (Does event s) later other turns same outcomes = ap (event_then event) (same s outcomes)
behind_same (Shows shown s) later other turns same outcomes = ap (record_then shown) (same s outcomes)
behind_same (Measures qubit result s) later other turns same [] = refl
behind_same (Measures qubit result s) later other turns same (outcome ∷ outcomes) =
    ap (event_then (Measure (record { 0 = qubit }) outcome)) (same (with_result s result outcome) outcomes)
behind_same Fails later other turns same outcomes = refl

branched_same : (test : Option Bool) (first second first' second' : Later) (s : State) (outcomes : List Bool) (turns : ℕ)
    → first s outcomes turns ≡ first' s outcomes turns → second s outcomes turns ≡ second' s outcomes turns
    → branched test first second s outcomes turns ≡ branched test first' second' s outcomes turns
branched_same None first second first' second' s outcomes turns a b = refl
branched_same (Some true) first second first' second' s outcomes turns a b = a
branched_same (Some false) first second first' second' s outcomes turns a b = b

pub rest_same : (labels : ℕ) (jump other : ℕ → Later) (turns : ℕ) → ((name : ℕ) (s : State) (outcomes : List Bool) → jump name s outcomes turns ≡ other name s outcomes turns)
    → (instrs : List Instr) (last : Last) (s : State) (outcomes : List Bool)
    → run_rest labels jump instrs last s outcomes turns ≡ run_rest labels other instrs last s outcomes turns
rest_same labels jump other turns same [] (Jump to) s outcomes = same to s outcomes
rest_same labels jump other turns same [] (Branch test first second) s outcomes =
    branched_same (truth_in s test) (jump first) (jump second) (other first) (other second) s outcomes turns (same first s outcomes) (same second s outcomes)
rest_same labels jump other turns same [] (Return code) s outcomes = refl
rest_same labels jump other turns same (instr ∷ instrs) last s outcomes =
    behind_same (effect_of labels s instr) (run_rest labels jump instrs last) (run_rest labels other instrs last) turns (rest_same labels jump other turns same instrs last) outcomes

after_phis_same : (taken : Option State) (go other : State → Seen) → ((s : State) → go s ≡ other s) → after_phis taken go ≡ after_phis taken other
after_phis_same None go other same = refl
after_phis_same (Some s) go other same = same s

-- ---- bounds that are large enough

-- the blocks that may be entered from the one at a place on, with so many turns
abbrev pub entries_from : Module → ℕ → ℕ → ℕ
entries_from m place turns = turns * length m.blocks + (length m.blocks - place)

-- two ways to enter blocks that do the same where so many turns are left, and from a place on
record AreAlike (m : Module) (bound : ℕ) (enter other : ℕ → Later) : Type 0 where
  alike : (to : ℕ) (s : State) (outcomes : List Bool) (turns : ℕ) → entries_from m to turns ≤ bound → enter to s outcomes turns ≡ other to s outcomes turns

jumped_same : (m : Module) (bound place to : ℕ) (later : Bool) (enter other : ℕ → Later) (s : State) (outcomes : List Bool) (turns : ℕ) → AreAlike m bound enter other
    → (later ≡ true → place < to) → place < length m.blocks → entries_from m place turns ≤ suc bound
    → jumped later (enter to) s outcomes turns ≡ jumped later (other to) s outcomes turns
jumped_same m bound place to true enter other s outcomes turns alike forwards inside ample =
    let after : place < to = forwards refl in
    alike.alike to s outcomes turns (omega arith)
jumped_same m bound place to false enter other s outcomes zero alike forwards inside ample = refl
jumped_same m bound place to false enter other s outcomes (suc turns) alike forwards inside ample =
    let all : suc turns * length m.blocks ≡ turns * length m.blocks + length m.blocks = suc-mul turns (length m.blocks) in
    alike.alike to s outcomes turns (omega arith)

jump_same : (m : Module) (bound place : ℕ) (to : Option ℕ) (enter other : ℕ → Later) (s : State) (outcomes : List Bool) (turns : ℕ) → AreAlike m bound enter other
    → place < length m.blocks → entries_from m place turns ≤ suc bound
    → jump_to enter place to s outcomes turns ≡ jump_to other place to s outcomes turns
jump_same m bound place None enter other s outcomes turns alike inside ample = refl
jump_same m bound place (Some to) enter other s outcomes turns alike inside ample =
    jumped_same m bound place to (nat_lt place to) enter other s outcomes turns alike (λ is. ltb-true place to is) inside ample

block_same : (m : Module) (bound : ℕ) (enter other : Option ℕ → ℕ → Later) (from : Option ℕ) (place : ℕ) (here : Option Block) (s : State) (outcomes : List Bool) (turns : ℕ)
    → ((name : Option ℕ) → AreAlike m bound (enter name) (other name)) → place < length m.blocks → entries_from m place turns ≤ suc bound
    → run_block m enter from place here s outcomes turns ≡ run_block m other from place here s outcomes turns
block_same m bound enter other from place None s outcomes turns alike inside ample = refl
block_same m bound enter other from place (Some b) s outcomes turns alike inside ample =
    after_phis_same (take_phis b.phis from s) _ _ (λ s'.
    rest_same (length m.labels) _ _ turns (λ name s'' os. jump_same m bound place (place_of m.blocks name) (enter (Some b.name)) (other (Some b.name)) s'' os turns (alike (Some b.name)) inside ample) b.body b.last s' outcomes)

-- beyond the last block there is none
outside : (m : Module) (bound : ℕ) (from : Option ℕ) (place : ℕ) (s : State) (outcomes : List Bool) (turns : ℕ) → length m.blocks ≤ place → run_from m bound from place s outcomes turns ≡ only Stuck
outside m zero from place s outcomes turns past = refl
outside m (suc bound) from place s outcomes turns past =
    ap (λ (here : Option Block). run_block m (run_from m bound) from place here s outcomes turns) (slice_get_past m.blocks place past)

both : (m : Module) (bound other : ℕ) (from : Option ℕ) (place : ℕ) (s : State) (outcomes : List Bool) (turns : ℕ)
    → ((name : Option ℕ) (to : ℕ) (s' : State) (os : List Bool) (ts : ℕ) → entries_from m to ts ≤ bound → entries_from m to ts ≤ other → run_from m bound name to s' os ts ≡ run_from m other name to s' os ts)
    → entries_from m place turns ≤ suc bound → entries_from m place turns ≤ suc other
    → run_from m (suc bound) from place s outcomes turns ≡ run_from m (suc other) from place s outcomes turns
both m bound other from place s outcomes turns again a b = by_place (nat_lt place (length m.blocks)) refl
  where
    alike : (name : Option ℕ) → AreAlike m (min bound other) (run_from m bound name) (run_from m other name)
    alike name = record { alike = λ to s' os ts few. again name to s' os ts (omega arith) (omega arith) }

    by_place : (inside : Bool) → nat_lt place (length m.blocks) ≡ inside → run_from m (suc bound) from place s outcomes turns ≡ run_from m (suc other) from place s outcomes turns
    by_place true is = block_same m (min bound other) (run_from m bound) (run_from m other) from place (slice_get m.blocks place) s outcomes turns alike (ltb-true place (length m.blocks) is) (omega arith)
    by_place false is =
        let past : length m.blocks ≤ place = ltb-false place (length m.blocks) is in
        outside m (suc bound) from place s outcomes turns past ∙ sym (outside m (suc other) from place s outcomes turns past)

pub ample_bounds : (m : Module) (bound other : ℕ) (from : Option ℕ) (place : ℕ) (s : State) (outcomes : List Bool) (turns : ℕ)
    → entries_from m place turns ≤ bound → entries_from m place turns ≤ other
    → run_from m bound from place s outcomes turns ≡ run_from m other from place s outcomes turns
ample_bounds m zero other from place s outcomes turns a b = sym (outside m other from place s outcomes turns (omega arith))
ample_bounds m (suc bound) zero from place s outcomes turns a b = outside m (suc bound) from place s outcomes turns (omega arith)
ample_bounds m (suc bound) (suc other) from place s outcomes turns a b =
    both m bound other from place s outcomes turns (λ name to s' os ts c d. ample_bounds m bound other name to s' os ts c d) a b
