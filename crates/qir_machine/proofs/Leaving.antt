-- What remains of a run at the end of a block, and in the block that is entered.
use Rattle.std.proofs.Common.{◌≡◌, ℕ, zero, suc, ◌+◌, ◌<◌, ◌≤◌, Bool, true, false, nat_eq, nat_lt, if◌then◌else◌, List, [], ◌∷◌, length, drop, slice_get, Option, Some, None, refl, sym, ap, ◌∙◌, arith}
use Rattle.std.proofs.Math.Nat.{suc-mul}
use Rattle.std.proofs.lemmas.Bool.{lt-ltb, ltb-true}
use Rattle.std.proofs.lemmas.Option.{slice_get_within}
use Rattle.qq_base.specs.Seen.{Seen, Stuck, Ended, only, with_turn}
use Rattle.qir_module.specs.declared.instruction.Instr.{Instr}
use Rattle.qir_module.specs.declared.instruction.Last.{Last}
use Rattle.qir_module.specs.declared.instruction.Last.TheVariants.{Jump, Branch, Return}
use Rattle.qir_module.specs.declared.block.Block.{Block}
use Rattle.qir_module.specs.Module.{Module}
use Rattle.qir_module.specs.Machine.{State, truth_in, Later, branched, run_last, run_rest, take_phis, after_phis, place_from, place_of, jumped, jump_to, run_block, run_from}
use Rattle.qir_machine.specs.declared.value.Value.{Value}
use Rattle.qir_machine.specs.declared.ways.Exit.{Exit}
use Rattle.qir_machine.specs.declared.ways.Exit.TheVariants.{Ends, Enters, Nowhere}
use Rattle.qir_machine.specs.Remaining.{Run, entries_behind, remaining_in, remaining, state_in, stored_in}
use Rattle.qir_machine.specs.Steps.{AreSame, IsTurn}
use Rattle.qir_machine.specs.Ready.{ways_of, to_place, to_either, exit_of, IsNeverStuck}
use Rattle.qir_machine.proofs.Bounds.{entries_from, ample_bounds}

-- ---- the ways out

-- what a way out does, where `jump` is what a jump to a place does
abbrev pub run_exit : (Option ℕ → Later) → Exit → Later
run_exit jump Ends s outcomes turns = only Ended
run_exit jump (Enters to) s outcomes turns = jump (Some to) s outcomes turns
run_exit jump Nowhere s outcomes turns = jump None s outcomes turns

to_place_runs : (jump : Option ℕ → Later) (place : Option ℕ) (s : State) (outcomes : List Bool) (turns : ℕ) → jump place s outcomes turns ≡ run_exit jump (to_place place) s outcomes turns
to_place_runs jump None s outcomes turns = refl
to_place_runs jump (Some to) s outcomes turns = refl

either_runs : (jump : Option ℕ → Later) (test : Option Bool) (first second : Option ℕ) (s : State) (outcomes : List Bool) (turns : ℕ) → jump None s outcomes turns ≡ only Stuck
    → branched test (jump first) (jump second) s outcomes turns ≡ run_exit jump (to_either test (record { first = first; second = second })) s outcomes turns
either_runs jump None first second s outcomes turns stuck = sym stuck
either_runs jump (Some true) first second s outcomes turns stuck = to_place_runs jump first s outcomes turns
either_runs jump (Some false) first second s outcomes turns stuck = to_place_runs jump second s outcomes turns

exit_runs : (jump : Option ℕ → Later) (blocks : List Block) (last : Last) (s : State) (outcomes : List Bool) (turns : ℕ) → jump None s outcomes turns ≡ only Stuck
    → run_last (λ name. jump (place_of blocks name)) last s outcomes turns ≡ run_exit jump (exit_of s last (ways_of blocks last)) s outcomes turns
exit_runs jump blocks (Jump to) s outcomes turns stuck = to_place_runs jump (place_of blocks to) s outcomes turns
exit_runs jump blocks (Branch test first second) s outcomes turns stuck = either_runs jump (truth_in s test) (place_of blocks first) (place_of blocks second) s outcomes turns stuck
exit_runs jump blocks (Return code) s outcomes turns stuck = refl

-- a place that is found is inside
place_or_behind : (same : Bool) (k n p : ℕ) (behind : Option ℕ) → (behind ≡ Some p → p < suc k + n) → (if same then Some k else behind) ≡ Some p → p < k + suc n
place_or_behind true k n p behind within is = let here : k ≡ p = cc in omega arith
place_or_behind false k n p behind within is = let there = within is in omega arith

place_inside : (k : ℕ) (blocks : List Block) (name p : ℕ) → place_from k blocks name ≡ Some p → p < k + length blocks
place_inside k [] name p is = absurd (cc)
place_inside k (b ∷ blocks) name p is = place_or_behind (nat_eq b.name name) k (length blocks) p (place_from (suc k) blocks name) (place_inside (suc k) blocks name p) is

way_inside : (blocks : List Block) (name to : ℕ) → to_place (place_of blocks name) ≡ Enters to → to < length blocks
way_inside blocks name to is = by_place (place_of blocks name) refl is
  where
    by_place : (place : Option ℕ) → place_of blocks name ≡ place → to_place place ≡ Enters to → to < length blocks
    by_place None found e = absurd (cc)
    by_place (Some p) found e =
        let same : p ≡ to = cc in
        let inside = place_inside 0 blocks name p found in
        omega arith

either_inside : (blocks : List Block) (test : Option Bool) (first second to : ℕ) → to_either test (record { first = place_of blocks first; second = place_of blocks second }) ≡ Enters to → to < length blocks
either_inside blocks None first second to is = absurd (cc)
either_inside blocks (Some true) first second to is = way_inside blocks first to is
either_inside blocks (Some false) first second to is = way_inside blocks second to is

pub exit_inside : (blocks : List Block) (s : State) (last : Last) (to : ℕ) → exit_of s last (ways_of blocks last) ≡ Enters to → to < length blocks
exit_inside blocks s (Jump name) to is = way_inside blocks name to is
exit_inside blocks s (Branch test first second) to is = either_inside blocks (truth_in s test) first second to is
exit_inside blocks s (Return code) to is = absurd (cc)

-- ---- at the end of a block

abbrev jump_from : Run → Block → ℕ → Option ℕ → Later
jump_from run b turns = jump_to (run_from run.of (entries_behind run.of run.block turns) (Some b.name)) run.block

drop_all : {A : Type 0} (xs : List A) (n : ℕ) → n ≡ length xs → drop n xs ≡ []
drop_all [] zero is = refl
drop_all [] (suc n) is = refl
drop_all (x ∷ xs) zero is = absurd (omega arith)
drop_all (x ∷ xs) (suc n) is = drop_all xs n (omega arith)

at_end : (run : Run) (b : Block) (exit : Exit) → slice_get run.of.blocks run.block ≡ Some b → run.item ≡ length b.body → exit ≡ exit_of (state_in run) b.last (ways_of run.of.blocks b.last)
    → (outcomes : List Bool) (turns : ℕ) → remaining run outcomes turns ≡ run_exit (jump_from run b turns) exit (state_in run) outcomes turns
at_end run b exit here end is outcomes turns =
    ap (λ (o : Option Block). remaining_in run o outcomes turns) here
    ∙ ap (λ (left : List Instr). run_rest (length run.of.labels) (λ name. jump_from run b turns (place_of run.of.blocks name)) left b.last (state_in run) outcomes turns) (drop_all b.body run.item end)
    ∙ exit_runs (jump_from run b turns) run.of.blocks b.last (state_in run) outcomes turns refl
    ∙ ap (λ (e : Exit). run_exit (jump_from run b turns) e (state_in run) outcomes turns) (sym is)

pub ended_at : (run : Run) (b : Block) → slice_get run.of.blocks run.block ≡ Some b → run.item ≡ length b.body → Ends ≡ exit_of (state_in run) b.last (ways_of run.of.blocks b.last)
    → (outcomes : List Bool) (turns : ℕ) → remaining run outcomes turns ≡ only Ended
ended_at run b here end is outcomes turns = at_end run b Ends here end is outcomes turns

pub not_nowhere : (run : Run) (b : Block) → slice_get run.of.blocks run.block ≡ Some b → run.item ≡ length b.body → Nowhere ≡ exit_of (state_in run) b.last (ways_of run.of.blocks b.last)
    → IsNeverStuck (remaining run) → ⊥
not_nowhere run b here end is free = free [] 0 (ap (λ (seen : Seen). seen.fate) (at_end run b Nowhere here end is [] 0))

-- ---- into the next block

-- a block of which the phis were taken
abbrev pub entered_run : Run → ℕ → List (Option Value) → List (Option Bool) → Run
entered_run run to registers results = record run { block = to; item = 0; registers = registers; results = results }

entry : (m : Module) (bound : ℕ) (from : Option ℕ) (to : ℕ) (next : Block) (s : State) (outcomes : List Bool) (turns : ℕ)
    → slice_get m.blocks to ≡ Some next → entries_from m to turns ≤ bound
    → run_from m bound from to s outcomes turns ≡ run_block m (run_from m (entries_behind m to turns)) from to (Some next) s outcomes turns
entry m bound from to next s outcomes turns there ample =
    let inside = slice_get_within m.blocks to next there in
    ample_bounds m bound (suc (entries_behind m to turns)) from to s outcomes turns ample (omega arith)
    ∙ ap (λ (o : Option Block). run_block m (run_from m (entries_behind m to turns)) from to o s outcomes turns) there

taken : (run : Run) (bound : ℕ) (from : Option ℕ) (to : ℕ) (next : Block) (s : State) (registers : List (Option Value)) (results : List (Option Bool)) (outcomes : List Bool) (turns : ℕ)
    → slice_get run.of.blocks to ≡ Some next → take_phis next.phis from s ≡ Some (stored_in registers results) → entries_from run.of to turns ≤ bound
    → run_from run.of bound from to s outcomes turns ≡ remaining (entered_run run to registers results) outcomes turns
taken run bound from to next s registers results outcomes turns there phis ample =
    entry run.of bound from to next s outcomes turns there ample
    ∙ ap (λ (t : Option State). after_phis t (λ s'. run_rest (length run.of.labels) (λ name. jump_to (run_from run.of (entries_behind run.of to turns) (Some next.name)) to (place_of run.of.blocks name)) next.body next.last s' outcomes turns)) phis
    ∙ sym (ap (λ (o : Option Block). remaining_in (entered_run run to registers results) o outcomes turns) there)

pub forwards : (run : Run) (b next : Block) (to : ℕ) (registers : List (Option Value)) (results : List (Option Bool)) → slice_get run.of.blocks run.block ≡ Some b → run.item ≡ length b.body
    → Enters to ≡ exit_of (state_in run) b.last (ways_of run.of.blocks b.last) → slice_get run.of.blocks to ≡ Some next
    → take_phis next.phis (Some b.name) (state_in run) ≡ Some (stored_in registers results) → run.block < to
    → AreSame (remaining run) (remaining (entered_run run to registers results))
forwards run b next to registers results here end is there phis later outcomes turns =
    at_end run b (Enters to) here end is outcomes turns
    ∙ ap (λ (forward : Bool). jumped forward (run_from run.of (entries_behind run.of run.block turns) (Some b.name) to) (state_in run) outcomes turns) (lt-ltb run.block to later)
    ∙ taken run (entries_behind run.of run.block turns) (Some b.name) to next (state_in run) registers results outcomes turns there phis
    (let inside = slice_get_within run.of.blocks to next there in omega arith)

not_later : (from to : ℕ) → to ≤ from → nat_lt from to ≡ false
not_later from to before = by_test (nat_lt from to) refl
  where
    by_test : (test : Bool) → nat_lt from to ≡ test → nat_lt from to ≡ false
    by_test true is = absurd (let later = ltb-true from to is in omega arith)
    by_test false is = is

-- one turn more
room_back : (m : Module) (block to turns : ℕ) → entries_from m to turns ≤ entries_behind m block (suc turns)
room_back m block to turns = let all = suc-mul turns (length m.blocks) in omega arith

pub back : (run : Run) (b next : Block) (to : ℕ) (registers : List (Option Value)) (results : List (Option Bool)) → slice_get run.of.blocks run.block ≡ Some b → run.item ≡ length b.body
    → Enters to ≡ exit_of (state_in run) b.last (ways_of run.of.blocks b.last) → slice_get run.of.blocks to ≡ Some next
    → take_phis next.phis (Some b.name) (state_in run) ≡ Some (stored_in registers results) → to ≤ run.block
    → IsTurn (remaining run) (remaining (entered_run run to registers results))
back run b next to registers results here end is there phis before = (
  (λ outcomes. backwards outcomes zero),
  (λ outcomes turns. backwards outcomes (suc turns)
      ∙ taken run (entries_behind run.of run.block (suc turns)) (Some b.name) to next (state_in run) registers results outcomes turns there phis (room_back run.of run.block to turns)),
)
  where
    backwards : (outcomes : List Bool) (turns : ℕ) → remaining run outcomes turns
        ≡ with_turn turns (run_from run.of (entries_behind run.of run.block turns) (Some b.name) to (state_in run) outcomes)
    backwards outcomes turns =
        at_end run b (Enters to) here end is outcomes turns
        ∙ ap (λ (forward : Bool). jumped forward (run_from run.of (entries_behind run.of run.block turns) (Some b.name) to) (state_in run) outcomes turns) (not_later run.block to before)

-- a phi that cannot be read would leave the machine stuck
stuck_entry : (m : Module) (bound : ℕ) (from : Option ℕ) (to : ℕ) (next : Block) (s : State) (outcomes : List Bool) (turns : ℕ)
    → slice_get m.blocks to ≡ Some next → take_phis next.phis from s ≡ None → entries_from m to turns ≤ bound → run_from m bound from to s outcomes turns ≡ only Stuck
stuck_entry m bound from to next s outcomes turns there phis ample =
    entry m bound from to next s outcomes turns there ample
    ∙ ap (λ (t : Option State). after_phis t (λ s'. run_rest (length m.labels) (λ name. jump_to (run_from m (entries_behind m to turns) (Some next.name)) to (place_of m.blocks name)) next.body next.last s' outcomes turns)) phis

pub phis_taken : (run : Run) (b next : Block) (to : ℕ) → slice_get run.of.blocks run.block ≡ Some b → run.item ≡ length b.body
    → Enters to ≡ exit_of (state_in run) b.last (ways_of run.of.blocks b.last) → slice_get run.of.blocks to ≡ Some next
    → take_phis next.phis (Some b.name) (state_in run) ≡ None → IsNeverStuck (remaining run) → ⊥
phis_taken run b next to here end is there phis free = by_test (nat_lt run.block to) refl
  where
    inside : to < length run.of.blocks
    inside = slice_get_within run.of.blocks to next there

    by_test : (test : Bool) → nat_lt run.block to ≡ test → ⊥
    by_test true later =
        let after : run.block < to = ltb-true run.block to later in
        free [] 0 (ap (λ (seen : Seen). seen.fate) (
        at_end run b (Enters to) here end is [] 0
        ∙ ap (λ (forward : Bool). jumped forward (run_from run.of (entries_behind run.of run.block 0) (Some b.name) to) (state_in run) [] 0) later
        ∙ stuck_entry run.of (entries_behind run.of run.block 0) (Some b.name) to next (state_in run) [] 0 there phis (omega arith)))
    by_test false before =
        free [] 1 (ap (λ (seen : Seen). seen.fate) (
        at_end run b (Enters to) here end is [] 1
        ∙ ap (λ (forward : Bool). jumped forward (run_from run.of (entries_behind run.of run.block 1) (Some b.name) to) (state_in run) [] 1) before
        ∙ stuck_entry run.of (entries_behind run.of run.block 1) (Some b.name) to next (state_in run) [] 0 there phis (room_back run.of run.block to 0)))
