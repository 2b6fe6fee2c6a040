-- The module of a thin program runs as the program.
--
-- While the lines are run, the operand of each bit has the bit's value in the state of the machine, and the
-- registers of operands are below the number of measurements so far, so that the next one leaves them alone.
use Rattle.std.proofs.Common.{◌≡◌, ℕ, zero, suc, ◌+◌, ◌<◌, ◌≤◌, ◌^◌, Bool, false, if◌then◌else◌, List, [], ◌∷◌, ◌++◌, length, replicate, slice_set, pos, Some, refl, ap, ◌∙◌, arith, eq-eqb, ne_eqb, length-set}
use Rattle.std.proofs.lemmas.List.{length-replicate}
use Rattle.qq_base.specs.declared.run.Event.TheVariants.{Measure as MeasureEvent}
use Rattle.qq_base.specs.declared.run.Record.TheVariants.{Array, Bool as BoolRecord}
use Rattle.qq_base.specs.Seen.{Ended, event_then, record_then}
use Rattle.qir_module.specs.declared.instruction.Operand.{Operand}
use Rattle.qir_module.specs.declared.instruction.Operand.TheVariants.{Register, Fixed}
use Rattle.qir_module.specs.declared.instruction.Last.TheVariants.{Return}
use Rattle.qir_module.specs.Machine.{Holds, State, first_state, truth_of, truth_in, Later, run_rest, place_of, jump_to, run_from, machine_run}
use Rattle.qir_module.proofs.Calls.{measured_state, run_measurement, run_bool_record, run_array_record, run_one_block}
use Rattle.qq_tool.specs.declared.thin.ThinLine.{ThinLine}
use Rattle.qq_tool.specs.declared.thin.ThinLine.TheVariants.{Hadamard, Not, ControlledNot, Measure}
use Rattle.qq_tool.specs.Thin.{Thin, IsThin}
use Rattle.qq_tool.specs.ThinRun.{qubit_id, on_one, on_two, bit_records, recorded, run_lines, source_run, bit_labels, labels_of}
use Rattle.qq_tool.specs.Lowered.{lines_instrs, lines_operands, bit_record_instrs, record_instrs, lowered_block, lowered}

-- ---- operands and bits

abbrev IsBelow : ℕ → Operand → Type 0
IsBelow k (Register r) = r < k
IsBelow k (Fixed z) = Unit {0}

-- the operand has the bit's value, and its register is one of the first k
record Stands (k : ℕ) (s : State) (operand : Operand) (bit : Bool) : Type 0 where
  below : IsBelow k operand
  value : truth_in s operand ≡ Some bit

abbrev AllStand : ℕ → State → List Operand → List Bool → Type 0
AllStand k s [] [] = Unit {0}
AllStand k s [] (bit ∷ bits) = ⊥
AllStand k s (operand ∷ operands) [] = ⊥
AllStand k s (operand ∷ operands) (bit ∷ bits) = Stands k s operand bit × AllStand k s operands bits

-- at first all bits are 0
stand_first : (n : ℕ) → AllStand 0 first_state (replicate n (Fixed (pos 0))) (replicate n false)
stand_first zero = tt
stand_first (suc n) = (record { below = tt; value = refl }, stand_first n)

-- the next measurement leaves the operands so far alone
keeps : (k : ℕ) (s : State) (operand : Operand) (bit outcome : Bool) → Stands k s operand bit → Stands (suc k) (measured_state s k k outcome) operand bit
keeps k s (Fixed z) bit outcome stands = record { below = tt; value = stands.value }
keeps k s (Register r) bit outcome stands = record {
  below = omega (arith, stands.below);
  value = ap (λ (same : Bool). truth_of (if same then Some (Holds outcome) else s.registers r)) (ne_eqb r k (below_differs stands.below)) ∙ stands.value;
}
  where
    below_differs : r < k → r ≡ k → ⊥
    below_differs lt same = absurd (omega (arith, lt, same))

-- and its own operand has the outcome
stands_measured : (k : ℕ) (s : State) (outcome : Bool) → Stands (suc k) (measured_state s k k outcome) (Register k) outcome
stands_measured k s outcome = record {
  below = omega arith;
  value = ap (λ (same : Bool). truth_of (if same then Some (Holds outcome) else s.registers k)) (eq-eqb k k refl);
}

all_keep : (k : ℕ) (s : State) (operands : List Operand) (bits : List Bool) (outcome : Bool) → AllStand k s operands bits → AllStand (suc k) (measured_state s k k outcome) operands bits
all_keep k s [] [] outcome stand = tt
all_keep k s [] (bit ∷ bits) outcome stand = stand
all_keep k s (operand ∷ operands) [] outcome stand = stand
all_keep k s (operand ∷ operands) (bit ∷ bits) outcome stand =
    (keeps k s operand bit outcome stand.0, all_keep k s operands bits outcome stand.1)

all_store : (k : ℕ) (s : State) (operands : List Operand) (bits : List Bool) (at : ℕ) (outcome : Bool) → AllStand k s operands bits → AllStand (suc k) (measured_state s k k outcome) (slice_set operands at (Register k)) (slice_set bits at outcome)
all_store k s [] [] at outcome stand = tt
all_store k s [] (bit ∷ bits) at outcome stand = absurd stand
all_store k s (operand ∷ operands) [] at outcome stand = absurd stand
all_store k s (operand ∷ operands) (bit ∷ bits) zero outcome stand =
    (stands_measured k s outcome, all_keep k s operands bits outcome stand.1)
all_store k s (operand ∷ operands) (bit ∷ bits) (suc at) outcome stand =
    (keeps k s operand bit outcome stand.0, all_store k s operands bits at outcome stand.1)

same_length : (k : ℕ) (s : State) (operands : List Operand) (bits : List Bool) → AllStand k s operands bits → length operands ≡ length bits
same_length k s [] [] stand = refl
same_length k s [] (bit ∷ bits) stand = absurd stand
same_length k s (operand ∷ operands) [] stand = absurd stand
same_length k s (operand ∷ operands) (bit ∷ bits) stand = ap suc (same_length k s operands bits stand.1)

-- ---- the runs, in any module with a label for each record

module _ (labels : ℕ) (jump : ℕ → Later) where
  bit_records_run : (k label : ℕ) (s : State) (operands : List Operand) (bits : List Bool) (outcomes : List Bool) (turns : ℕ)
      → AllStand k s operands bits → label + length operands ≤ labels
      → run_rest labels jump (bit_record_instrs label operands) (Return (pos 0)) s outcomes turns ≡ record { fate = Ended; events = []; records = bit_records label bits }
  bit_records_run k label s [] [] outcomes turns stand room = refl
  bit_records_run k label s [] (bit ∷ bits) outcomes turns stand room = absurd stand
  bit_records_run k label s (operand ∷ operands) [] outcomes turns stand room = absurd stand
  bit_records_run k label s (operand ∷ operands) (bit ∷ bits) outcomes turns stand room =
      let here : label < labels = omega (arith, room) in
      let behind : suc label + length operands ≤ labels = omega (arith, room) in
      run_bool_record labels operand label bit (run_rest labels jump (bit_record_instrs (suc label) operands) (Return (pos 0))) s outcomes turns here stand.0.value
      ∙ ap (record_then (BoolRecord label bit)) (bit_records_run k (suc label) s operands bits outcomes turns stand.1 behind)

  records_run : (k : ℕ) (s : State) (operands : List Operand) (bits : List Bool) (outcomes : List Bool) (turns : ℕ)
      → AllStand k s operands bits → 1 + length operands ≤ labels → length operands < 2 ^ 32
      → run_rest labels jump (record_instrs operands) (Return (pos 0)) s outcomes turns ≡ recorded bits
  records_run k s operands bits outcomes turns stand room small =
      let here : 0 < labels = omega (arith, room) in
      run_array_record labels (length operands) 0 (run_rest labels jump (bit_record_instrs 1 operands) (Return (pos 0))) s outcomes turns here small
      ∙ ap (record_then (Array 0 (length operands))) (bit_records_run k 1 s operands bits outcomes turns stand room)
      ∙ ap (λ n. record { fate = Ended; events = []; records = Array 0 n ∷ bit_records 1 bits }) (same_length k s operands bits stand)

  lines_run : (k : ℕ) (lines : List ThinLine) (s : State) (operands : List Operand) (bits : List Bool) (outcomes : List Bool) (turns : ℕ)
      → AllStand k s operands bits → 1 + length operands ≤ labels → length operands < 2 ^ 32
      → run_rest labels jump (lines_instrs k lines ++ record_instrs (lines_operands k lines operands)) (Return (pos 0)) s outcomes turns ≡ run_lines lines bits outcomes
  lines_run k [] s operands bits outcomes turns stand room small = records_run k s operands bits outcomes turns stand room small
  lines_run k (Hadamard qubit ∷ lines) s operands bits outcomes turns stand room small =
      ap (event_then (on_one 3 qubit)) (lines_run k lines s operands bits outcomes turns stand room small)
  lines_run k (Not qubit ∷ lines) s operands bits outcomes turns stand room small =
      ap (event_then (on_one 0 qubit)) (lines_run k lines s operands bits outcomes turns stand room small)
  lines_run k (ControlledNot control target ∷ lines) s operands bits outcomes turns stand room small =
      ap (event_then (on_two 15 control target)) (lines_run k lines s operands bits outcomes turns stand room small)
  lines_run k (Measure qubit bit ∷ lines) s operands bits [] turns stand room small = refl
  lines_run k (Measure qubit bit ∷ lines) s operands bits (outcome ∷ outcomes) turns stand room small =
      let stored = slice_set operands bit (Register k) in
      let long : length stored ≡ length operands = length-set operands bit (Register k) in
      let room_kept : 1 + length stored ≤ labels = omega (arith, room, long) in
      let small_kept : length stored < 2 ^ 32 = omega (arith, small, long) in
      run_measurement labels qubit k k (run_rest labels jump (lines_instrs (suc k) lines ++ record_instrs (lines_operands (suc k) lines stored)) (Return (pos 0))) s (outcome ∷ outcomes) turns
      ∙ ap (event_then (MeasureEvent (qubit_id qubit) outcome)) (lines_run (suc k) lines (measured_state s k k outcome) stored (slice_set bits bit outcome) outcomes turns (all_store k s operands bits bit outcome stand) room_kept small_kept)

-- ---- the whole program

pub length-bit_labels : (k n : ℕ) → length (bit_labels k n) ≡ n
length-bit_labels k zero = refl
length-bit_labels k (suc n) = ap suc (length-bit_labels (suc k) n)

pub lowered_runs : (p : Thin) → IsThin p → (outcomes : List Bool) (turns : ℕ) → machine_run (lowered p) outcomes turns ≡ source_run p outcomes turns
lowered_runs p thin outcomes turns =
    run_one_block (lowered p) (lowered_block p) outcomes turns refl refl
    ∙ lines_run (length (labels_of p)) (λ name. jump_to (run_from (lowered p) turns (Some 0)) 0 (place_of (lowered_block p ∷ []) name)) 0 p.lines first_state (replicate p.bits (Fixed (pos 0))) (replicate p.bits false) outcomes turns (stand_first p.bits) room small
  where
    room : 1 + length (replicate p.bits (Fixed (pos 0))) ≤ length (labels_of p)
    room = omega (arith, length-replicate p.bits (Fixed (pos 0)), length-bit_labels 0 p.bits)

    small : length (replicate p.bits (Fixed (pos 0))) < 2 ^ 32
    small = omega (arith, length-replicate p.bits (Fixed (pos 0)), thin.few_bits)
