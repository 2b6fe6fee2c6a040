-- The end of a block of a machine, between what is true of it before and behind.
use Rattle.std.proofs.Common.{◌≡◌, ℕ, ◌<◌, ◌≤◌, Bool, List, length, slice_get, Option, Some, None, refl, sym, ap, ◌∙◌, subst, arith}
use Rattle.std.proofs.lemmas.List.{length-map}
use Rattle.std.proofs.lemmas.Option.{slice_get-map, slice_get_within}
use Rattle.std.specs.List.{AllByRecursion}
use Rattle.std.specs.Option.{option_map}
use Rattle.qq_base.specs.declared.run.Step.TheVariants.{Turn}
use Rattle.qir_module.specs.declared.block.Phi.{Phi}
use Rattle.qir_module.specs.declared.block.Block.{Block}
use Rattle.qir_module.specs.Machine.{take_phis}
use Rattle.qir_machine.specs.declared.value.Value.{Value}
use Rattle.qir_machine.specs.declared.ways.Ways.{Ways}
use Rattle.qir_machine.specs.declared.ways.Exit.{Exit}
use Rattle.qir_machine.specs.declared.ways.Exit.TheVariants.{Ends, Enters, Nowhere}
use Rattle.qir_machine.specs.Remaining.{Run, remaining, state_in, stored_in}
use Rattle.qir_machine.specs.Steps.{AreSame, IsTurn, IsDone}
use Rattle.qir_machine.specs.Ready.{ways_of, exit_of, items_here, IsRoomForBlock, IsNeverStuck, IsReady}
use Rattle.qir_machine.proofs.Runs.{step_free}
use Rattle.qir_machine.proofs.Leaving.{entered_run, exit_inside, forwards, back, ended_at, not_nowhere, phis_taken}
use Rattle.qir_machine.proofs.Taking.{all_at, in_body}

pub ways_inside : (run : Run) (ways : List Ways) (phis : ℕ) → IsReady run ways phis → run.block < length ways
ways_inside run ways phis ready =
    let same : length ways ≡ length run.of.blocks = ap (λ (ws : List Ways). length ws) ready.ways_out ∙ (simp length-map) in
    let inside : run.block < length run.of.blocks = ready.block in
    omega arith

ways_here : (run : Run) (ways : List Ways) (phis : ℕ) (b : Block) (w : Ways) → IsReady run ways phis → slice_get run.of.blocks run.block ≡ Some b → slice_get ways run.block ≡ Some w → w ≡ ways_of run.of.blocks b.last
ways_here run ways phis b w ready here found =
    let mapped : slice_get ways run.block ≡ option_map (λ (x : Block). ways_of run.of.blocks x.last) (slice_get run.of.blocks run.block) =
    ap (λ (ws : List Ways). slice_get ws run.block) ready.ways_out ∙ slice_get-map (λ (x : Block). ways_of run.of.blocks x.last) run.of.blocks run.block in
    let at : option_map (λ (x : Block). ways_of run.of.blocks x.last) (slice_get run.of.blocks run.block) ≡ Some (ways_of run.of.blocks b.last) =
    ap (λ (o : Option Block). option_map (λ (x : Block). ways_of run.of.blocks x.last) o) here in
    cc

pub exit_here : (run : Run) (ways : List Ways) (phis : ℕ) (b : Block) (w : Ways) (exit : Exit) → IsReady run ways phis → slice_get run.of.blocks run.block ≡ Some b → slice_get ways run.block ≡ Some w
    → exit ≡ exit_of (state_in run) b.last w → exit ≡ exit_of (state_in run) b.last (ways_of run.of.blocks b.last)
exit_here run ways phis b w exit ready here found is = is ∙ ap (λ (x : Ways). exit_of (state_in run) b.last x) (ways_here run ways phis b w ready here found)

pub enters_inside : (run : Run) (ways : List Ways) (phis : ℕ) (b : Block) (w : Ways) (to : ℕ) → IsReady run ways phis → slice_get run.of.blocks run.block ≡ Some b → slice_get ways run.block ≡ Some w
    → Enters to ≡ exit_of (state_in run) b.last w → to < length run.of.blocks
enters_inside run ways phis b w to ready here found is = exit_inside run.of.blocks (state_in run) b.last to (sym (exit_here run ways phis b w (Enters to) ready here found is))

pub room_there : (run : Run) (ways : List Ways) (phis to : ℕ) (next : Block) → IsReady run ways phis → slice_get run.of.blocks to ≡ Some next → IsRoomForBlock (length run.registers) (length run.results) phis next
room_there run ways phis to next ready there = all_at (IsRoomForBlock (length run.registers) (length run.results) phis) run.of.blocks to next ready.room there

pub entered_ready : (run : Run) (ways : List Ways) (phis now : ℕ) (to : ℕ) (next : Block) (registers : List (Option Value)) (results : List (Option Bool)) → IsReady run ways phis → slice_get run.of.blocks to ≡ Some next
    → now ≡ phis → length registers ≡ length run.registers → length results ≡ length run.results → IsNeverStuck (remaining (entered_run run to registers results)) → IsReady (entered_run run to registers results) ways now
entered_ready run ways phis now to next registers results ready there same_phis same_registers same_results free = record {
  block = slice_get_within run.of.blocks to next there;
  item = omega arith;
  ways_out = ready.ways_out;
  room = subst (λ n. AllByRecursion (IsRoomForBlock n (length results) now) run.of.blocks) (sym same_registers)
      (subst (λ n. AllByRecursion (IsRoomForBlock (length run.registers) n now) run.of.blocks) (sym same_results)
      (subst (λ n. AllByRecursion (IsRoomForBlock (length run.registers) (length run.results) n) run.of.blocks) (sym same_phis) ready.room));
  never_stuck = free;
  records = ready.records;
}

-- ---- what the end of the block does

-- the machine stands at the end of a block, of which the ways out are known
pub record IsLeaving (run : Run) (ways : List Ways) (phis : ℕ) (b : Block) (w : Ways) : Type 0 where
  pub ready : IsReady run ways phis
  pub here : slice_get run.of.blocks run.block ≡ Some b
  pub found : slice_get ways run.block ≡ Some w
  pub end : run.item ≡ items_here run

body_end : (run : Run) (ways : List Ways) (phis : ℕ) (b : Block) (w : Ways) → IsLeaving run ways phis b w → run.item ≡ length b.body
body_end run ways phis b w l = l.end ∙ in_body run b l.here

out : (run : Run) (ways : List Ways) (phis : ℕ) (b : Block) (w : Ways) (exit : Exit) → IsLeaving run ways phis b w → exit ≡ exit_of (state_in run) b.last w → exit ≡ exit_of (state_in run) b.last (ways_of run.of.blocks b.last)
out run ways phis b w exit l is = exit_here run ways phis b w exit l.ready l.here l.found is

pub goes_forwards : (run : Run) (ways : List Ways) (phis : ℕ) (b next : Block) (w : Ways) (to : ℕ) (ps : List Phi) (registers : List (Option Value)) (results : List (Option Bool))
    → IsLeaving run ways phis b w → Enters to ≡ exit_of (state_in run) b.last w → slice_get run.of.blocks to ≡ Some next → ps ≡ next.phis
    → take_phis ps (Some b.name) (state_in run) ≡ Some (stored_in registers results) → run.block < to
    → AreSame (remaining run) (remaining (entered_run run to registers results))
goes_forwards run ways phis b next w to ps registers results l is there same taken later =
    forwards run b next to registers results l.here (body_end run ways phis b w l) (out run ways phis b w (Enters to) l is) there (ap (λ (qs : List Phi). take_phis qs (Some b.name) (state_in run)) (sym same) ∙ taken) later

pub goes_back : (run : Run) (ways : List Ways) (phis : ℕ) (b next : Block) (w : Ways) (to : ℕ) (ps : List Phi) (registers : List (Option Value)) (results : List (Option Bool))
    → IsLeaving run ways phis b w → Enters to ≡ exit_of (state_in run) b.last w → slice_get run.of.blocks to ≡ Some next → ps ≡ next.phis
    → take_phis ps (Some b.name) (state_in run) ≡ Some (stored_in registers results) → to ≤ run.block
    → IsTurn (remaining run) (remaining (entered_run run to registers results))
goes_back run ways phis b next w to ps registers results l is there same taken before =
    back run b next to registers results l.here (body_end run ways phis b w l) (out run ways phis b w (Enters to) l is) there (ap (λ (qs : List Phi). take_phis qs (Some b.name) (state_in run)) (sym same) ∙ taken) before

pub back_free : (run : Run) (ways : List Ways) (phis : ℕ) (b next : Block) (w : Ways) (to : ℕ) (ps : List Phi) (registers : List (Option Value)) (results : List (Option Bool))
    → IsLeaving run ways phis b w → Enters to ≡ exit_of (state_in run) b.last w → slice_get run.of.blocks to ≡ Some next → ps ≡ next.phis
    → take_phis ps (Some b.name) (state_in run) ≡ Some (stored_in registers results) → to ≤ run.block
    → IsNeverStuck (remaining (entered_run run to registers results))
back_free run ways phis b next w to ps registers results l is there same taken before =
    step_free (remaining run) None Turn (remaining (entered_run run to registers results)) (goes_back run ways phis b next w to ps registers results l is there same taken before) l.ready.never_stuck

pub phis_are_taken : (run : Run) (ways : List Ways) (phis : ℕ) (b next : Block) (w : Ways) (to : ℕ) (ps : List Phi)
    → IsLeaving run ways phis b w → Enters to ≡ exit_of (state_in run) b.last w → slice_get run.of.blocks to ≡ Some next → ps ≡ next.phis
    → take_phis ps (Some b.name) (state_in run) ≡ None → ⊥
phis_are_taken run ways phis b next w to ps l is there same none =
    phis_taken run b next to l.here (body_end run ways phis b w l) (out run ways phis b w (Enters to) l is) there (ap (λ (qs : List Phi). take_phis qs (Some b.name) (state_in run)) (sym same) ∙ none) l.ready.never_stuck

pub ends_here : (run : Run) (ways : List Ways) (phis : ℕ) (b : Block) (w : Ways) → IsLeaving run ways phis b w → Ends ≡ exit_of (state_in run) b.last w → IsDone (remaining run) (remaining run)
ends_here run ways phis b w l is = (ended_at run b l.here (body_end run ways phis b w l) (out run ways phis b w Ends l is), λ outcomes turns. refl)

pub goes_somewhere : (run : Run) (ways : List Ways) (phis : ℕ) (b : Block) (w : Ways) → IsLeaving run ways phis b w → Nowhere ≡ exit_of (state_in run) b.last w → ⊥
goes_somewhere run ways phis b w l is = not_nowhere run b l.here (body_end run ways phis b w l) (out run ways phis b w Nowhere l is) l.ready.never_stuck
