-- The start of a run.
use Rattle.std.proofs.Common.{◌≡◌, ℕ, zero, suc, ◌+◌, ◌*◌, ◌<◌, Bool, List, [], ◌∷◌, length, map, replicate, slice_get, Option, Some, None, refl, sym, ap, ◌∙◌, subst, arith}
use Rattle.std.proofs.Math.Nat.{suc-mul}
use Rattle.std.proofs.lemmas.List.{length-replicate}
use Rattle.std.specs.List.{AllByRecursion}
use Rattle.std.specs.Option.{option_map}
use Rattle.qq_base.specs.Seen.{Seen, Stuck}
use Rattle.qir_module.specs.declared.block.Phi.{Phi}
use Rattle.qir_module.specs.declared.block.Block.{Block}
use Rattle.qir_module.specs.Module.{Module, IsShaped}
use Rattle.qir_module.specs.Passes.{IsKept, records_kept}
use Rattle.qir_module.specs.Machine.{State, first_state, take_phis, after_phis, with_phi, run_rest, place_of, jump_to, run_block, run_from, machine_run}
use Rattle.qir_machine.specs.declared.value.Value.{Value}
use Rattle.qir_machine.specs.declared.ways.Ways.{Ways}
use Rattle.qir_machine.specs.Remaining.{Run, value_of, held, stored_in, entries_behind, remaining_in, remaining}
use Rattle.qir_machine.specs.Steps.{AreSame}
use Rattle.qir_machine.specs.Ready.{ways_of, IsRoomForBlock, IsNeverStuck, IsReady}
use Rattle.qir_machine.proofs.Runs.{stays_free}

-- a table in which nothing was stored
nothing_held : {A : Type 0} (n i : ℕ) (nothing : Option A) → nothing ≡ None → held (slice_get (replicate n nothing) i) ≡ None
nothing_held zero i nothing is = refl
nothing_held (suc n) zero nothing is = is
nothing_held (suc n) (suc i) nothing is = nothing_held n i nothing is

empty_state : (registers results : ℕ) → stored_in (replicate registers None) (replicate results None) ≡ first_state
empty_state registers results =
    λ i. record {
      registers = λ r. ap (option_map value_of) (nothing_held {A = Value} registers r None refl) i;
      results = λ k. nothing_held {A = Bool} results k None refl i;
    }

-- the run that stands at the start
abbrev pub first_run : Module → ℕ → ℕ → Run
first_run m registers results = record { of = m; block = 0; item = 0; registers = replicate registers None; results = replicate results None }

-- the first block has no phis, or the run would be stuck
first_phis : (m : Module) (bound : ℕ) (b : Block) (phis : List Phi) → b.phis ≡ phis → (o : List Bool) (t : ℕ)
    → ((run_block m (run_from m bound) None 0 (Some b) first_state o t).fate ≡ Stuck → ⊥) → take_phis b.phis None first_state ≡ Some first_state
first_phis m bound b [] are o t free = ap (λ (ps : List Phi). take_phis ps None first_state) are
first_phis m bound b (p ∷ ps) are o t free = absurd (free (ap (λ (taken : Option State). (after_phis taken (λ s'. run_rest (length m.labels) (λ name. jump_to (run_from m bound (Some b.name)) 0 (place_of m.blocks name)) b.body b.last s' o t)).fate) (ap (λ (qs : List Phi). take_phis qs None first_state) are ∙ none_behind (take_phis ps None first_state) p.register)))
  where
    none_behind : (taken : Option State) (r : ℕ) → with_phi taken r None ≡ None
    none_behind None r = refl
    none_behind (Some s) r = refl

first_block : (blocks : List Block) → 0 < length blocks → (b : Block) × (slice_get blocks 0 ≡ Some b)
first_block [] some = absurd (omega arith)
first_block (b ∷ blocks) some = (b, refl)

whole : (m : Module) (b : Block) (outcomes : List Bool) (turns : ℕ) → slice_get m.blocks 0 ≡ Some b → 0 < length m.blocks
    → machine_run m outcomes turns ≡ run_block m (run_from m (entries_behind m 0 turns)) None 0 (Some b) first_state outcomes turns
whole m b outcomes turns first some =
    let all : (turns + 1) * length m.blocks ≡ suc (entries_behind m 0 turns) = (let more = suc-mul turns (length m.blocks) in let one : turns + 1 ≡ suc turns = omega arith in ap (λ n. n * length m.blocks) one ∙ more ∙ omega arith) in
    ap (λ n. run_from m n None 0 first_state outcomes turns) all
    ∙ ap (λ (o : Option Block). run_block m (run_from m (entries_behind m 0 turns)) None 0 o first_state outcomes turns) first

pub starts : (m : Module) (registers results : ℕ) → 0 < length m.blocks → IsNeverStuck (machine_run m) → AreSame (remaining (first_run m registers results)) (machine_run m)
starts m registers results some free outcomes turns =
    let found = first_block m.blocks some in
    let b = found.0 in
    let phis = first_phis m (entries_behind m 0 turns) b b.phis refl outcomes turns (λ stuck. free outcomes turns (ap (λ (seen : Seen). seen.fate) (whole m b outcomes turns found.1 some) ∙ stuck)) in
    ap (λ (o : Option Block). remaining_in (first_run m registers results) o outcomes turns) found.1
    ∙ ap (λ (s : State). run_rest (length m.labels) (λ name. jump_to (run_from m (entries_behind m 0 turns) (Some b.name)) 0 (place_of m.blocks name)) b.body b.last s outcomes turns) (empty_state registers results)
    ∙ sym (whole m b outcomes turns found.1 some
    ∙ ap (λ (t : Option State). after_phis t (λ s'. run_rest (length m.labels) (λ name. jump_to (run_from m (entries_behind m 0 turns) (Some b.name)) 0 (place_of m.blocks name)) b.body b.last s' outcomes turns)) phis)

pub start_ready : (m : Module) (registers results phis : ℕ) (ways : List Ways) → IsShaped m → IsNeverStuck (machine_run m)
    → ways ≡ map (λ (b : Block). ways_of m.blocks b.last) m.blocks → AllByRecursion (IsRoomForBlock registers results phis) m.blocks → IsKept m records_kept → IsReady (first_run m registers results) ways phis
start_ready m registers results phis ways shaped free ways_are room kept = record {
  block = shaped.has_block;
  item = omega arith;
  ways_out = ways_are;
  room = subst (λ n. AllByRecursion (IsRoomForBlock n (length (first_run m registers results).results) phis) m.blocks) (sym (length-replicate registers None))
      (subst (λ n. AllByRecursion (IsRoomForBlock registers n phis) m.blocks) (sym (length-replicate results None)) room);
  never_stuck = stays_free (machine_run m) (remaining (first_run m registers results)) (λ outcomes turns. sym (starts m registers results shaped.has_block free outcomes turns)) free;
  records = kept;
}

-- tables in which nothing was stored, however they are written
pub starts_with : (m : Module) (n k : ℕ) (registers : List (Option Value)) (results : List (Option Bool)) → registers ≡ replicate n None → results ≡ replicate k None → 0 < length m.blocks → IsNeverStuck (machine_run m)
    → AreSame (remaining (record { of = m; block = 0; item = 0; registers = registers; results = results })) (machine_run m)
starts_with m n k registers results empty_registers empty_results some free outcomes turns =
    ap (λ (rs : List (Option Value)). remaining (record { of = m; block = 0; item = 0; registers = rs; results = results }) outcomes turns) empty_registers
    ∙ ap (λ (ks : List (Option Bool)). remaining (record { of = m; block = 0; item = 0; registers = replicate n None; results = ks }) outcomes turns) empty_results
    ∙ starts m n k some free outcomes turns

pub ready_with : (m : Module) (n k phis buffer : ℕ) (ways : List Ways) (blocks : List Block) (registers : List (Option Value)) (results : List (Option Bool)) → IsShaped m → IsNeverStuck (machine_run m)
    → registers ≡ replicate n None → results ≡ replicate k None → buffer ≡ phis → blocks ≡ m.blocks
    → ways ≡ map (λ (b : Block). ways_of blocks b.last) blocks → AllByRecursion (IsRoomForBlock n k phis) blocks → IsKept m records_kept
    → IsReady (record { of = m; block = 0; item = 0; registers = registers; results = results }) ways buffer
ready_with m n k phis buffer ways blocks registers results shaped free empty_registers empty_results enough same ways_are room kept =
    subst (λ (rs : List (Option Value)). IsReady (record { of = m; block = 0; item = 0; registers = rs; results = results }) ways buffer) (sym empty_registers)
    (subst (λ (ks : List (Option Bool)). IsReady (record { of = m; block = 0; item = 0; registers = replicate n None; results = ks }) ways buffer) (sym empty_results)
    (subst (λ b. IsReady (first_run m n k) ways b) (sym enough)
    (start_ready m n k phis ways shaped free
    (subst (λ (bs : List Block). ways ≡ map (λ (b : Block). ways_of bs b.last) bs) same ways_are)
    (subst (λ (bs : List Block). AllByRecursion (IsRoomForBlock n k phis) bs) same room)
    kept)))
