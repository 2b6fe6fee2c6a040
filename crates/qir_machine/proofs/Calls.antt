-- Calls of the functions of the table: the gates behind the first seven, and calls for a value.
use Rattle.std.proofs.Common.{◌≡◌, ℕ, zero, suc, ◌+◌, ◌-◌, ◌<◌, ◌≤◌, true, false, not, ◌++◌, replicate, List, [], ◌∷◌, length, map, take, pos, ℤ, slice_get, Option, Some, None, refl, sym, ap, ◌∙◌, subst, arith}
use Rattle.std.proofs.lemmas.Option.{slice_get_within}
use Rattle.std.specs.List.{enumerate_from, list_all}
use Rattle.std.specs.Option.{option_map}
use Rattle.gate_table.specs.Table.{TargetGate, gates}
use Rattle.qq_base.specs.declared.run.Event.TheVariants.{Gate}
use Rattle.qq_base.specs.declared.run.QubitId.{QubitId}
use Rattle.qir_module.specs.declared.instruction.Arg.{Arg}
use Rattle.qir_module.specs.Functions.{Kind, NumberKind, QubitKind, Task, Initialize, ArrayRecord, BoolRecord, IntRecord, ResetQubit, MeasureQubit, ApplyGate, Row, gate_row, rows, row_of}
use Rattle.qir_module.specs.Machine.{State, Does, Fails, units_in, padded, all_given, task_effect, given_effect, row_effect}
use Rattle.qir_module.specs.Passes.{takes_of, is_null}
use Rattle.qir_machine.specs.declared.given.Arguments.{Arguments}
use Rattle.qir_machine.specs.Given.{Givens, AreRead}

-- ---- rows

pub is_in_table : (place : ℕ) (kinds : List Kind) → Some kinds ≡ option_map (λ (row : Row). row.takes) (row_of place) → place < 37
is_in_table place kinds is = by_row (row_of place) is refl
  where
    size : length rows ≡ 37
    size = refl

    by_row : (o : Option Row) → Some kinds ≡ option_map (λ (row : Row). row.takes) o → row_of place ≡ o → place < 37
    by_row None same e = absurd (cc)
    by_row (Some row) same e = let within : place < length rows = slice_get_within rows place row e in omega (arith, within, size)

pub takes_are : (o : Option Row) (kinds : List Kind) → Some kinds ≡ option_map (λ (row : Row). row.takes) o → takes_of o ≡ kinds
takes_are None kinds is = absurd (cc)
takes_are (Some row) kinds is = cc

-- a gate's row
pub record IsGateRow (row : Option Row) (gate : ℕ) : Type 0 where
  pub found : Row
  pub is : row ≡ Some found
  pub task : found.task ≡ ApplyGate gate
  pub gives : found.gives ≡ false
  pub no_null : list_all (λ kind. not (is_null kind)) found.takes ≡ true

kinds_of_gate : (params qubits : ℕ) → list_all (λ kind. not (is_null kind)) (replicate params NumberKind ++ replicate qubits QubitKind) ≡ true
kinds_of_gate zero zero = refl
kinds_of_gate zero (suc qubits) = kinds_of_gate zero qubits
kinds_of_gate (suc params) qubits = kinds_of_gate params qubits

gates_from : (k i : ℕ) (gs : List TargetGate) → i < length gs → IsGateRow (slice_get (map gate_row (enumerate_from k gs)) i) (k + i)
gates_from k i [] within = absurd (omega arith)
gates_from k zero (g ∷ gs) within = record { found = gate_row (k, g); is = refl; task = ap ApplyGate (omega arith); gives = refl; no_null = kinds_of_gate g.params g.qubits }
gates_from k (suc i) (g ∷ gs) within =
    let same : (k + 1) + i ≡ k + suc i = omega arith in
    subst (λ n. IsGateRow (slice_get (map gate_row (enumerate_from (k + 1) gs)) i) n) same (gates_from (k + 1) i gs (omega arith))

pub gate_at : (i : ℕ) → i < 30 → IsGateRow (row_of (suc (suc (suc (suc (suc (suc (suc i)))))))) i
gate_at i within =
    let same : 0 + i ≡ i = omega arith in
    subst (λ n. IsGateRow (row_of (suc (suc (suc (suc (suc (suc (suc i)))))))) n) same (gates_from 0 i (take 30 gates) within)

gate_row_at : (place : ℕ) → 7 ≤ place → place < 37 → IsGateRow (row_of place) (place - 7)
gate_row_at place many few =
    let same : suc (suc (suc (suc (suc (suc (suc (place - 7))))))) ≡ place = omega arith in
    subst (λ n. IsGateRow (row_of n) (place - 7)) same (gate_at (place - 7) (omega arith))

-- ---- calls

gate_called : (labels : ℕ) (s : State) (gate : ℕ) (args : List Arg) (all : Arguments) (row : Option Row) → IsGateRow row gate → AreRead (all_given labels s (takes_of row) args) all
    → Does (Gate (record { 0 = gate }) all.words all.ids) s ≡ row_effect labels s row None args
gate_called labels s gate args all None g r = absurd (let is = g.is in cc)
gate_called labels s gate args all (Some row) g r =
    let same : row ≡ g.found = (let is = g.is in cc) in
    let task : row.task ≡ ApplyGate gate = ap (λ (x : Row). x.task) same ∙ g.task in
    (ap (λ (words : List ℤ). Does (Gate (record { 0 = gate }) words all.ids) s) r.2.words ∙ ap (λ (ids : List QubitId). Does (Gate (record { 0 = gate }) (padded 4 (pos 0) (units_in r.0)) ids) s) r.2.ids)
    ∙ sym (ap (given_effect s row.task None) r.1 ∙ ap (λ (t : Task). task_effect s t None r.0) task)

pub gate_call : (labels : ℕ) (s : State) (place : ℕ) (args : List Arg) (all : Arguments) → 7 ≤ place → place < 37 → AreRead (all_given labels s (takes_of (row_of place)) args) all
    → Does (Gate (record { 0 = place - 7 }) all.words all.ids) s ≡ row_effect labels s (row_of place) None args
gate_call labels s place args all many few r = gate_called labels s (place - 7) args all (row_of place) (gate_row_at place many few) r

given_fails : (s : State) (task : Task) (register : ℕ) (givens : Option Givens) → ((gs : Givens) → task_effect s task (Some register) gs ≡ Fails) → given_effect s task (Some register) givens ≡ Fails
given_fails s task register None fails = refl
given_fails s task register (Some gs) fails = fails gs

gate_fails : (labels : ℕ) (s : State) (gate register : ℕ) (args : List Arg) (row : Option Row) → IsGateRow row gate → row_effect labels s row (Some register) args ≡ Fails
gate_fails labels s gate register args None g = refl
gate_fails labels s gate register args (Some row) g =
    let same : row ≡ g.found = (let is = g.is in cc) in
    let task : row.task ≡ ApplyGate gate = ap (λ (x : Row). x.task) same ∙ g.task in
    given_fails s row.task register (all_given labels s row.takes args) (λ gs. ap (λ (t : Task). task_effect s t (Some register) gs) task)

-- only the reading of a result is called for a value
pub value_call_fails : (labels : ℕ) (s : State) (place register : ℕ) (args : List Arg) → (place ≡ 1 → ⊥) → place < 37 → row_effect labels s (row_of place) (Some register) args ≡ Fails
value_call_fails labels s zero register args not_read few = given_fails s Initialize register _ (λ gs. refl)
value_call_fails labels s (suc zero) register args not_read few = absurd (not_read refl)
value_call_fails labels s (suc (suc zero)) register args not_read few = given_fails s ArrayRecord register _ (λ gs. refl)
value_call_fails labels s (suc (suc (suc zero))) register args not_read few = given_fails s BoolRecord register _ (λ gs. refl)
value_call_fails labels s (suc (suc (suc (suc zero)))) register args not_read few = given_fails s IntRecord register _ (λ gs. refl)
value_call_fails labels s (suc (suc (suc (suc (suc zero))))) register args not_read few = given_fails s ResetQubit register _ (λ gs. refl)
value_call_fails labels s (suc (suc (suc (suc (suc (suc zero)))))) register args not_read few = given_fails s MeasureQubit register _ (λ gs. refl)
value_call_fails labels s (suc (suc (suc (suc (suc (suc (suc i))))))) register args not_read few = gate_fails labels s i register args _ (gate_at i (omega arith))
