-- The tasks of the functions that the rules tell apart, by their places in the table.
use Rattle.std.proofs.Common.{◌≡◌, ◌≢◌, ℕ, zero, suc, nat_eq, Bool, false, ◌||◌, List, [], ◌∷◌, map, take, Option, Some, None, slice_get, refl, ap, sym, ◌∙◌, arith}
use Rattle.std.proofs.lemmas.Bool.{ne_eqb}
use Rattle.std.specs.List.{enumerate_from}
use Rattle.gate_table.specs.Table.{TargetGate, gates}
use Rattle.qir_module.specs.Functions.{Task, ApplyGate, gate_row, row_of}
use Rattle.qir_module.specs.Numbered.{task_of}
use Rattle.qir_module.specs.Passes.{is_initialize, is_record_task, is_null, is_only_zero, ids_where, takes_of}
use Rattle.qir_module.specs.declared.instruction.Arg.{Arg}
use Rattle.qir_module.specs.declared.instruction.Arg.TheVariants.{Number, Truth, Id, Text}
use Rattle.profile_check.specs.Calls.{is_reading_task, is_measuring_task}

-- a test that no gate passes, at the rows of gates
gate_task : (test : Option Task → Bool) → test None ≡ false → ((k : ℕ) → test (Some (ApplyGate k)) ≡ false) → (gs : List (ℕ × TargetGate)) (n : ℕ) → test (task_of (slice_get (map gate_row gs) n)) ≡ false
gate_task test none gate [] n = none
gate_task test none gate (g ∷ gs) zero = gate g.0
gate_task test none gate (g ∷ gs) (suc n) = gate_task test none gate gs n

past : (k n : ℕ) → k ≢ n → false ≡ nat_eq k n
past k n apart = sym (ne_eqb k n apart)

pub initializes_at : (n : ℕ) → is_initialize (task_of (row_of n)) ≡ nat_eq n 0
initializes_at zero = refl
initializes_at (suc zero) = refl
initializes_at (suc (suc zero)) = refl
initializes_at (suc (suc (suc zero))) = refl
initializes_at (suc (suc (suc (suc zero)))) = refl
initializes_at (suc (suc (suc (suc (suc zero))))) = refl
initializes_at (suc (suc (suc (suc (suc (suc zero)))))) = refl
initializes_at (suc (suc (suc (suc (suc (suc (suc g))))))) = gate_task is_initialize refl (λ k. refl) (enumerate_from 0 (take 30 gates)) g ∙ past (suc (suc (suc (suc (suc (suc (suc g))))))) 0 (λ e. omega (arith, e))

pub reads_at : (n : ℕ) → is_reading_task (task_of (row_of n)) ≡ nat_eq n 1
reads_at zero = refl
reads_at (suc zero) = refl
reads_at (suc (suc zero)) = refl
reads_at (suc (suc (suc zero))) = refl
reads_at (suc (suc (suc (suc zero)))) = refl
reads_at (suc (suc (suc (suc (suc zero))))) = refl
reads_at (suc (suc (suc (suc (suc (suc zero)))))) = refl
reads_at (suc (suc (suc (suc (suc (suc (suc g))))))) = gate_task is_reading_task refl (λ k. refl) (enumerate_from 0 (take 30 gates)) g ∙ past (suc (suc (suc (suc (suc (suc (suc g))))))) 1 (λ e. omega (arith, e))

pub measures_at : (n : ℕ) → is_measuring_task (task_of (row_of n)) ≡ nat_eq n 6
measures_at zero = refl
measures_at (suc zero) = refl
measures_at (suc (suc zero)) = refl
measures_at (suc (suc (suc zero))) = refl
measures_at (suc (suc (suc (suc zero)))) = refl
measures_at (suc (suc (suc (suc (suc zero))))) = refl
measures_at (suc (suc (suc (suc (suc (suc zero)))))) = refl
measures_at (suc (suc (suc (suc (suc (suc (suc g))))))) = gate_task is_measuring_task refl (λ k. refl) (enumerate_from 0 (take 30 gates)) g ∙ past (suc (suc (suc (suc (suc (suc (suc g))))))) 6 (λ e. omega (arith, e))

pub records_at : (n : ℕ) → is_record_task (task_of (row_of n)) ≡ (nat_eq n 2 || nat_eq n 3 || nat_eq n 4)
records_at zero = refl
records_at (suc zero) = refl
records_at (suc (suc zero)) = refl
records_at (suc (suc (suc zero))) = refl
records_at (suc (suc (suc (suc zero)))) = refl
records_at (suc (suc (suc (suc (suc zero))))) = refl
records_at (suc (suc (suc (suc (suc (suc zero)))))) = refl
records_at (suc (suc (suc (suc (suc (suc (suc g))))))) =
    let n = suc (suc (suc (suc (suc (suc (suc g)))))) in
    let two : nat_eq n 2 ≡ false = ne_eqb n 2 (λ e. omega (arith, e)) in
    let three : nat_eq n 3 ≡ false = ne_eqb n 3 (λ e. omega (arith, e)) in
    let four : nat_eq n 4 ≡ false = ne_eqb n 4 (λ e. omega (arith, e)) in
    gate_task is_record_task refl (λ k. refl) (enumerate_from 0 (take 30 gates)) g
    ∙ ap (λ (t : Bool). false || false || t) (sym four)
    ∙ ap (λ (t : Bool). false || t || nat_eq n 4) (sym three)
    ∙ ap (λ (t : Bool). t || nat_eq n 3 || nat_eq n 4) (sym two)

-- ---- the id of the call that initializes

abbrev pub has_zero : List Arg → Bool
has_zero [] = false
has_zero (Id n ∷ args) = nat_eq n 0
has_zero (Number operand ∷ args) = false
has_zero (Truth operand ∷ args) = false
has_zero (Text k ∷ args) = false

pub null_id : (f : ℕ) (args : List Arg) → f ≡ 0 → is_only_zero (ids_where is_null (takes_of (row_of f)) args) ≡ has_zero args
null_id f args is = ap (λ (n : ℕ). is_only_zero (ids_where is_null (takes_of (row_of n)) args)) is ∙ at_first args
  where
    is_zero_id : (n : ℕ) → is_only_zero (n ∷ []) ≡ nat_eq n 0
    is_zero_id zero = refl
    is_zero_id (suc n) = past (suc n) 0 (λ e. omega (arith, e))

    at_first : (args : List Arg) → is_only_zero (ids_where is_null (takes_of (row_of 0)) args) ≡ has_zero args
    at_first [] = refl
    at_first (Id n ∷ args) = is_zero_id n
    at_first (Number operand ∷ args) = refl
    at_first (Truth operand ∷ args) = refl
    at_first (Text k ∷ args) = refl
