-- The machine's run of instructions that stand one behind another: of any list of them, of a measurement
-- and the reading of its result, of record calls, and of a module of one block.
use Rattle.std.proofs.Common.{◌≡◌, ℕ, suc, ◌+◌, ◌*◌, ◌^◌, ◌<◌, Bool, nat_lt, if◌then◌else◌, List, [], ◌∷◌, ◌++◌, length, pos, slice_get, Option, Some, None, refl, ap, ◌∙◌, arith, eq-eqb, lt-ltb, mod-eq_of_lt}
use Rattle.qq_base.specs.declared.run.Event.TheVariants.{Measure}
use Rattle.qq_base.specs.declared.run.Record.TheVariants.{Array}
use Rattle.qq_base.specs.declared.run.Record.TheVariants.{Bool as BoolRecordOf}
use Rattle.qq_base.specs.Seen.{event_then, record_then, with_outcome}
use Rattle.qir_module.specs.declared.instruction.Operand.{Operand}
use Rattle.qir_module.specs.declared.instruction.Operand.TheVariants.{Fixed}
use Rattle.qir_module.specs.declared.instruction.Arg.TheVariants.{Number, Truth, Id, Text}
use Rattle.qir_module.specs.declared.instruction.Instr.{Instr}
use Rattle.qir_module.specs.declared.instruction.Instr.TheVariants.{Call}
use Rattle.qir_module.specs.declared.instruction.Last.{Last}
use Rattle.qir_module.specs.declared.block.Block.{Block}
use Rattle.qir_module.specs.Module.{Module}
use Rattle.qir_module.specs.Machine.{Holds, State, first_state, with_register, with_result, truth_in, truth_given, with_front, WordGiven, TruthGiven, LabelGiven, Effect, Goes, Does, Shows, Measures, Fails, truth_read, given_effect, effect_of, Later, behind, run_rest, take_phis, after_phis, place_of, jump_to, run_block, run_from, machine_run}
use Rattle.qir_module.specs.Functions.{ArrayRecord, BoolRecord}

-- ---- one stretch of instructions behind another

-- the instructions, and then whatever is left
abbrev pub run_then : ℕ → List Instr → Later → Later
run_then labels [] later s outcomes turns = later s outcomes turns
run_then labels (instr ∷ instrs) later s outcomes turns = behind (effect_of labels s instr) (run_then labels instrs later) outcomes turns

-- behind an instruction it is enough that what is left does the same
pub behind_same : (effect : Effect) (later other : Later) → ((s : State) (outcomes : List Bool) (turns : ℕ) → later s outcomes turns ≡ other s outcomes turns) → (outcomes : List Bool) (turns : ℕ) → behind effect later outcomes turns ≡ behind effect other outcomes turns
behind_same (Goes s) later other same outcomes turns = same s outcomes turns
behind_same (Does event s) later other same outcomes turns = ap (event_then event) (same s outcomes turns)
behind_same (Shows shown s) later other same outcomes turns = ap (record_then shown) (same s outcomes turns)
behind_same (Measures qubit result s) later other same [] turns = refl
behind_same (Measures qubit result s) later other same (outcome ∷ outcomes) turns =
    ap (event_then (Measure (record { 0 = qubit }) outcome)) (same (with_result s result outcome) outcomes turns)
behind_same Fails later other same outcomes turns = refl

-- what is left of a block is run behind its first instructions
pub run_rest-append : (labels : ℕ) (jump : ℕ → Later) (xs ys : List Instr) (last : Last) (s : State) (outcomes : List Bool) (turns : ℕ)
    → run_rest labels jump (xs ++ ys) last s outcomes turns ≡ run_then labels xs (run_rest labels jump ys last) s outcomes turns
run_rest-append labels jump [] ys last s outcomes turns = refl
run_rest-append labels jump (x ∷ xs) ys last s outcomes turns =
    behind_same (effect_of labels s x) (run_rest labels jump (xs ++ ys) last) (run_then labels xs (run_rest labels jump ys last)) (run_rest-append labels jump xs ys last) outcomes turns

pub run_then-append : (labels : ℕ) (xs ys : List Instr) (later : Later) (s : State) (outcomes : List Bool) (turns : ℕ)
    → run_then labels (xs ++ ys) later s outcomes turns ≡ run_then labels xs (run_then labels ys later) s outcomes turns
run_then-append labels [] ys later s outcomes turns = refl
run_then-append labels (x ∷ xs) ys later s outcomes turns =
    behind_same (effect_of labels s x) (run_then labels (xs ++ ys) later) (run_then labels xs (run_then labels ys later)) (run_then-append labels xs ys later) outcomes turns

-- what stands behind a stretch may be exchanged for what does the same
pub run_then_same : (labels : ℕ) (xs : List Instr) (later other : Later) → ((s : State) (outcomes : List Bool) (turns : ℕ) → later s outcomes turns ≡ other s outcomes turns) → (s : State) (outcomes : List Bool) (turns : ℕ)
    → run_then labels xs later s outcomes turns ≡ run_then labels xs other s outcomes turns
run_then_same labels [] later other same s outcomes turns = same s outcomes turns
run_then_same labels (x ∷ xs) later other same s outcomes turns =
    behind_same (effect_of labels s x) (run_then labels xs later) (run_then labels xs other) (run_then_same labels xs later other same) outcomes turns

-- ---- calls, each with whatever is left behind it

-- a measurement, and right behind it the reading of its result into a register
abbrev pub measurement : ℕ → ℕ → ℕ → List Instr
measurement qubit result register =
    Call None (record { 0 = 6 }) (Id qubit ∷ Id result ∷ []) ∷ Call (Some register) (record { 0 = 1 }) (Id result ∷ []) ∷ []

-- the state behind that
abbrev pub measured_state : State → ℕ → ℕ → Bool → State
measured_state s result register outcome = with_register (with_result s result outcome) register (Holds outcome)

-- They take an outcome, which is then in the register.
pub run_measurement : (labels qubit result register : ℕ) (later : Later) (s : State) (outcomes : List Bool) (turns : ℕ)
    → run_then labels (measurement qubit result register) later s outcomes turns
    ≡ with_outcome outcomes (λ outcome others. event_then (Measure (record { 0 = qubit }) outcome) (later (measured_state s result register outcome) others turns))
run_measurement labels qubit result register later s [] turns = refl
run_measurement labels qubit result register later s (outcome ∷ others) turns =
    ap (λ (read : Option Bool). event_then (Measure (record { 0 = qubit }) outcome) (behind (truth_read (with_result s result outcome) register read) later others turns))
    (ap (λ (same : Bool). if same then Some outcome else s.results result) (eq-eqb result result refl))

-- the record of a truth value
pub run_bool_record : (labels : ℕ) (operand : Operand) (label : ℕ) (bit : Bool) (later : Later) (s : State) (outcomes : List Bool) (turns : ℕ) → label < labels → truth_in s operand ≡ Some bit
    → run_then labels (Call None (record { 0 = 3 }) (Truth operand ∷ Text label ∷ []) ∷ []) later s outcomes turns ≡ record_then (BoolRecordOf label bit) (later s outcomes turns)
run_bool_record labels operand label bit later s outcomes turns within is =
    ap (λ (read : Option Bool). behind (given_effect s BoolRecord None (with_front (truth_given read) (with_front (if nat_lt label labels then Some (LabelGiven label) else None) (Some [])))) later outcomes turns) is
    ∙ ap (λ (here : Bool). behind (given_effect s BoolRecord None (with_front (Some (TruthGiven bit)) (with_front (if here then Some (LabelGiven label) else None) (Some [])))) later outcomes turns) (lt-ltb label labels within)

-- the record of an array's size
pub run_array_record : (labels size label : ℕ) (later : Later) (s : State) (outcomes : List Bool) (turns : ℕ) → label < labels → size < 2 ^ 32
    → run_then labels (Call None (record { 0 = 2 }) (Number (Fixed (pos size)) ∷ Text label ∷ []) ∷ []) later s outcomes turns ≡ record_then (Array label size) (later s outcomes turns)
run_array_record labels size label later s outcomes turns within small =
    ap (λ (here : Bool). behind (given_effect s ArrayRecord None (with_front (Some (WordGiven (pos size))) (with_front (if here then Some (LabelGiven label) else None) (Some [])))) later outcomes turns) (lt-ltb label labels within)
    ∙ ap (λ (n : ℕ). record_then (Array label n) (later s outcomes turns)) (mod-eq_of_lt small)

-- ---- a module of one block

-- Its run is that of its block, if that has no phis.
pub run_one_block : (m : Module) (b : Block) (outcomes : List Bool) (turns : ℕ) → m.blocks ≡ b ∷ [] → b.phis ≡ []
    → machine_run m outcomes turns
    ≡ run_rest (length m.labels) (λ name. jump_to (run_from m turns (Some b.name)) 0 (place_of m.blocks name)) b.body b.last first_state outcomes turns
run_one_block m b outcomes turns blocks phis =
    ap (λ n. run_from m n None 0 first_state outcomes turns) entered
    ∙ ap (λ (o : Option Block). run_block m (run_from m turns) None 0 o first_state outcomes turns) (ap (λ bs. slice_get bs 0) blocks)
    ∙ ap (λ ps. after_phis (take_phis ps None first_state) (λ s'. run_rest (length m.labels) (λ name. jump_to (run_from m turns (Some b.name)) 0 (place_of m.blocks name)) b.body b.last s' outcomes turns)) phis
  where
    once : (turns + 1) * 1 ≡ suc turns
    once = omega arith

    entered : (turns + 1) * length m.blocks ≡ suc turns
    entered = ap (λ (bs : List Block). (turns + 1) * length bs) blocks ∙ once
