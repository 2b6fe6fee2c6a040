-- What the rows of the target table have in common, by a test of all of them.
use Rattle.std.proofs.Common.{◌≡◌, ℕ, zero, suc, ◌<◌, ◌≤◌, Bool, true, ◌&&◌, ◌||◌, nat_eq, nat_lt, nat_le, List, [], ◌∷◌, ℤ, Option, Some, None, ◌⊎◌, inl, inr, refl, length}
use Rattle.std.specs.List.{slice_get}
use Rattle.std.specs.Option.{option_and_then}
use Rattle.std.specs.Str.{bytes_eq}
use Rattle.std.proofs.lemmas.Bool.{eqb-true, ltb-true, leb-true, and_parts, or_cases}
use Rattle.std.proofs.lemmas.Bool.Decides.{Decides-below_and}
use Rattle.std.proofs.lemmas.Option.{slice_get_cases}
use Rattle.std.proofs.lemmas.Slice.Eq.{bytes_eq-Decides}
use Rattle.gate_table.specs.declared.table.Row.{Row}
use Rattle.gate_table.specs.declared.table.InvRow.{InvRow}
use Rattle.gate_table.specs.declared.table.CtlRow.{CtlRow}
use Rattle.gate_table.specs.Table.{row_of, inverses, inverse_of, controls, control_of}
use Rattle.gate_lists.specs.Amounts.{params_of, qubits_of}

-- ---- tests of all rows

abbrev all_below : (ℕ → Bool) → ℕ → Bool
all_below test zero = true
all_below test (suc n) = test n && all_below test n

at_each : (test : ℕ → Bool) (n k : ℕ) → all_below test n ≡ true → k < n → test k ≡ true
at_each test n k holds within =
    (Decides-below_and test (λ j. test j ≡ true) (all_below test) (λ j. (λ h. h, λ h. h)) refl (λ _. refl) n).0 holds k within

abbrev if_some : {A : Type 0} → Option A → (A → Bool) → Bool
if_some None test = true
if_some (Some x) test = test x

if_some-at : {A : Type 0} (o : Option A) (x : A) (test : A → Bool) → o ≡ Some x → if_some o test ≡ true → test x ≡ true
if_some-at None x test is holds = cc
if_some-at (Some y) x test is holds = cc

entry_within : {A : Type 0} (xs : List (Option A)) (k : ℕ) (x : A) → option_and_then (λ (o : Option A). o) (slice_get xs k) ≡ Some x → k < length xs
entry_within {A} xs k x is =
    elim (slice_get_cases xs k).1 [
      | inl w ↦ w.1
      | inr w ↦ let none : option_and_then (λ (o : Option A). o) None ≡ Some x = rw w.1 at is in cc
    ]

-- ---- what a gate takes

takes_few : ℕ → Bool
takes_few gate = nat_le (params_of gate) 4 && nat_le (qubits_of gate) 3

takes_few_each : all_below takes_few 31 ≡ true
unfolding takes_few params_of qubits_of
takes_few_each = refl

pub few_params : (gate : ℕ) → gate < 31 → params_of gate ≤ 4
unfolding takes_few
few_params gate within = leb-true _ _ (and_parts _ _ (at_each takes_few 31 gate takes_few_each within)).0

pub few_qubits : (gate : ℕ) → gate < 31 → qubits_of gate ≤ 3
unfolding takes_few
few_qubits gate within = leb-true _ _ (and_parts _ _ (at_each takes_few 31 gate takes_few_each within)).1

-- the row of a gate says how many
pub row_params : (gate : ℕ) (row : Row) → row_of gate ≡ Some row → params_of gate ≡ row.params
unfolding params_of
row_params gate row is = rw is refl

pub row_qubits : (gate : ℕ) (row : Row) → row_of gate ≡ Some row → qubits_of gate ≡ row.qubits
unfolding qubits_of
row_qubits gate row is = rw is refl

-- ---- inverses

-- the arguments keep their places, or the second and the third of at least three change theirs
abbrev pub IsOrder : List ℕ → ℕ → Type 0
IsOrder order params = (order ≡ 0 ∷ 1 ∷ 2 ∷ 3 ∷ []) ⊎ ((order ≡ 0 ∷ 2 ∷ 1 ∷ 3 ∷ []) × (3 ≤ params))

pub record IsInverseRow (gate : ℕ) (row : InvRow) : Type 0 where
  pub of_table : row.gate.0 < 31
  pub params : params_of row.gate.0 ≡ params_of gate
  pub few : params_of gate ≤ 4
  pub qubits : qubits_of row.gate.0 ≡ qubits_of gate
  pub order : IsOrder row.order (params_of gate)

order_test : List ℕ → ℕ → Bool
order_test order params = bytes_eq order (0 ∷ 1 ∷ 2 ∷ 3 ∷ []) || (bytes_eq order (0 ∷ 2 ∷ 1 ∷ 3 ∷ []) && nat_le 3 params)

order_from_test : (order : List ℕ) (params : ℕ) → order_test order params ≡ true → IsOrder order params
unfolding order_test
order_from_test order params holds =
    elim (or_cases _ _ holds) [
      | inl same ↦ inl ((bytes_eq-Decides order (0 ∷ 1 ∷ 2 ∷ 3 ∷ [])).0 same)
      | inr turned ↦ let parts = and_parts _ _ turned in inr ((bytes_eq-Decides order (0 ∷ 2 ∷ 1 ∷ 3 ∷ [])).0 parts.0, leb-true _ _ parts.1)
    ]

inverse_row_test : ℕ → InvRow → Bool
inverse_row_test gate row =
    nat_lt row.gate.0 31 && (nat_eq (params_of row.gate.0) (params_of gate) && (nat_le (params_of gate) 4 && (nat_eq (qubits_of row.gate.0) (qubits_of gate) && order_test row.order (params_of gate))))

inverse_test : ℕ → Bool
inverse_test gate = if_some (inverse_of gate) (inverse_row_test gate)

inverse_each : all_below inverse_test 31 ≡ true
unfolding inverse_test inverse_row_test order_test params_of qubits_of
inverse_each = refl

inverse_row_from_test : (gate : ℕ) (row : InvRow) → inverse_row_test gate row ≡ true → IsInverseRow gate row
unfolding inverse_row_test
inverse_row_from_test gate row holds =
    let a = and_parts _ _ holds in
    let b = and_parts _ _ a.1 in
    let c = and_parts _ _ b.1 in
    let d = and_parts _ _ c.1 in
    record { of_table = ltb-true _ _ a.0; params = eqb-true _ _ b.0; few = leb-true _ _ c.0; qubits = eqb-true _ _ d.0; order = order_from_test row.order (params_of gate) d.1 }

pub inverse_row : (gate : ℕ) (row : InvRow) → inverse_of gate ≡ Some row → IsInverseRow gate row
unfolding inverse_test
inverse_row gate row is =
    inverse_row_from_test gate row
    (if_some-at (inverse_of gate) row (inverse_row_test gate) is
    (at_each inverse_test 31 gate inverse_each (entry_within inverses gate row is)))

-- ---- controls

abbrev pub TakesUnder : Option ℤ → ℕ → ℕ → Type 0
TakesUnder None params under = under ≡ params
TakesUnder (Some turn) params under = under ≡ 1

pub record IsControlRow (gate : ℕ) (row : CtlRow) : Type 0 where
  pub of_table : row.gate.0 < 31
  pub params : TakesUnder row.turn (params_of gate) (params_of row.gate.0)
  pub few : qubits_of gate ≤ 2
  pub qubits : qubits_of row.gate.0 ≡ suc (qubits_of gate)

under_test : Option ℤ → ℕ → ℕ → Bool
under_test None params under = nat_eq under params
under_test (Some turn) params under = nat_eq under 1

under_from_test : (turn : Option ℤ) (params under : ℕ) → under_test turn params under ≡ true → TakesUnder turn params under
unfolding under_test
under_from_test None params under holds = eqb-true under params holds
under_from_test (Some turn) params under holds = eqb-true under 1 holds

control_row_test : ℕ → CtlRow → Bool
control_row_test gate row =
    nat_lt row.gate.0 31 && (under_test row.turn (params_of gate) (params_of row.gate.0) && (nat_le (qubits_of gate) 2 && nat_eq (qubits_of row.gate.0) (suc (qubits_of gate))))

control_test : ℕ → Bool
control_test gate = if_some (control_of gate) (control_row_test gate)

control_each : all_below control_test 31 ≡ true
unfolding control_test control_row_test under_test params_of qubits_of
control_each = refl

control_row_from_test : (gate : ℕ) (row : CtlRow) → control_row_test gate row ≡ true → IsControlRow gate row
unfolding control_row_test
control_row_from_test gate row holds =
    let a = and_parts _ _ holds in
    let b = and_parts _ _ a.1 in
    let c = and_parts _ _ b.1 in
    record { of_table = ltb-true _ _ a.0; params = under_from_test row.turn _ _ b.0; few = leb-true _ _ c.0; qubits = eqb-true _ _ c.1 }

pub control_row : (gate : ℕ) (row : CtlRow) → control_of gate ≡ Some row → IsControlRow gate row
unfolding control_test
control_row gate row is =
    control_row_from_test gate row
    (if_some-at (control_of gate) row (control_row_test gate) is
    (at_each control_test 31 gate control_each (entry_within controls gate row is)))
