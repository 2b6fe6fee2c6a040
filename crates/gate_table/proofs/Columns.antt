-- The laws of the target table, each by a test of its rows.
use Rattle.std.proofs.Common.{◌≡◌, ℕ, ◌+◌, ◌<◌, Bool, true, false, ◌&&◌, nat_eq, nat_lt, List, [], ◌∷◌, ℤ, Option, Some, None, refl, ap, ◌∙◌, get_or, arith, cond}
use Rattle.std.specs.List.{list_all}
use Rattle.std.specs.Str.{bytes_eq}
use Rattle.std.proofs.lemmas.Bool.{eqb-true, ltb-true}
use Rattle.qq_base.specs.declared.run.GateId.{GateId}
use Rattle.gate_table.specs.declared.table.Row.{Row}
use Rattle.gate_table.specs.declared.table.InvRow.{InvRow}
use Rattle.gate_table.specs.declared.table.CtlRow.{CtlRow}
use Rattle.gate_table.specs.Table.{row_of, inverses, inverse_of, controls, control_of, source_names, gate_among}
use Rattle.gate_table.specs.Laws.{IsGateAgain, InversesReturn, InversesTakeTheSame, InversesAreGates, TakesArguments, IsUnderControl, ControlsAddAQubit, NamesAreGates}
use Rattle.gate_table.proofs.Checks.{all_below, at_each, if_some, if_some-at, entry_within}

both : (a b : Bool) → (a && b) ≡ true → (a ≡ true) × (b ≡ true)
both true b h = (refl, h)
both false b h = cc

-- ---- inverses

same_place : InvRow → InvRow → ℕ → Bool
same_place first second k = nat_eq (get_or first.order (get_or second.order k 0) 0) k

again_test : ℕ → InvRow → InvRow → Bool
again_test gate first second = nat_eq second.gate.0 gate && all_below (same_place first second) 4

returns_test : ℕ → Bool
returns_test gate = if_some (inverse_of gate) (λ first. if_some (inverse_of first.gate.0) (again_test gate first))

returns_each : all_below returns_test 31 ≡ true
unfolding returns_test again_test same_place
returns_each = refl

again : (gate : ℕ) (first second : InvRow) → again_test gate first second ≡ true → IsGateAgain gate first second
unfolding again_test same_place
again gate first second holds =
    let parts = both _ _ holds in
    (eqb-true _ _ parts.0, λ k within. eqb-true _ _ (at_each (same_place first second) 4 k parts.1 within))

pub inverses_return : InversesReturn
unfolding returns_test
inverses_return gate first second is back =
    again gate first second
    (if_some-at (inverse_of first.gate.0) second (again_test gate first) back
    (if_some-at (inverse_of gate) first (λ i. if_some (inverse_of i.gate.0) (again_test gate i)) is
    (at_each returns_test 31 gate returns_each (entry_within inverses gate first is))))

abbrev row : ℕ → ℕ → Row
row params qubits = record { params = params; qubits = qubits }

same_row : Option Row → Option Row → Bool
same_row None None = true
same_row (Some a) (Some b) = nat_eq a.params b.params && nat_eq a.qubits b.qubits
same_row (Some a) None = false
same_row None (Some b) = false

same_row-eq : (a b : Option Row) → same_row a b ≡ true → a ≡ b
unfolding same_row
same_row-eq None None holds = refl
same_row-eq (Some a) (Some b) holds =
    let parts = both _ _ holds in
    ap (λ (n : ℕ). Some (row n a.qubits)) (eqb-true a.params b.params parts.0)
    ∙ ap (λ (n : ℕ). Some (row b.params n)) (eqb-true a.qubits b.qubits parts.1)
same_row-eq (Some a) None holds = cc
same_row-eq None (Some b) holds = cc

takes_test : ℕ → Bool
takes_test gate = if_some (inverse_of gate) (λ i. same_row (row_of i.gate.0) (row_of gate) && nat_lt i.gate.0 31)

takes_each : all_below takes_test 31 ≡ true
unfolding takes_test same_row
takes_each = refl

taken : (gate : ℕ) (i : InvRow) → inverse_of gate ≡ Some i → (same_row (row_of i.gate.0) (row_of gate) ≡ true) × (nat_lt i.gate.0 31 ≡ true)
unfolding takes_test
taken gate i is =
    both _ _
    (if_some-at (inverse_of gate) i (λ j. same_row (row_of j.gate.0) (row_of gate) && nat_lt j.gate.0 31) is
    (at_each takes_test 31 gate takes_each (entry_within inverses gate i is)))

pub inverses_take_the_same : InversesTakeTheSame
inverses_take_the_same gate i is = same_row-eq _ _ (taken gate i is).0

pub inverses_are_gates : InversesAreGates
inverses_are_gates gate i is = ltb-true _ _ (taken gate i is).1

-- ---- controls

arguments_test : Option ℤ → ℕ → ℕ → Bool
arguments_test None params under = nat_eq under params
arguments_test (Some turn) params under = nat_eq params 0 && nat_eq under 1

arguments : (turn : Option ℤ) (params under : ℕ) → arguments_test turn params under ≡ true → TakesArguments turn params under
unfolding arguments_test
arguments None params under holds = eqb-true under params holds
arguments (Some turn) params under holds =
    let parts = both _ _ holds in (eqb-true params 0 parts.0, eqb-true under 1 parts.1)

under_test : CtlRow → Option Row → Option Row → Bool
under_test control (Some row) (Some under) = nat_eq under.qubits (row.qubits + 1) && arguments_test control.turn row.params under.params
under_test control (Some row) None = false
under_test control None under = false

control_test : ℕ → Bool
control_test gate = if_some (control_of gate) (λ control. under_test control (row_of gate) (row_of control.gate.0))

control_each : all_below control_test 31 ≡ true
unfolding control_test under_test arguments_test
control_each = refl

abbrev HasRows : CtlRow → Option Row → Option Row → Type 0
HasRows control a b = (row under : Row) × (a ≡ Some row) × (b ≡ Some under) × IsUnderControl row control under

has_rows : (control : CtlRow) (a b : Option Row) → under_test control a b ≡ true → HasRows control a b
unfolding under_test
has_rows control (Some row) (Some under) holds =
    let parts = both _ _ holds in
    (row, under, refl, refl, (eqb-true _ _ parts.0, arguments control.turn row.params under.params parts.1))
has_rows control (Some row) None holds = cc
has_rows control None b holds = cc

pub controls_add_a_qubit : ControlsAddAQubit
unfolding control_test
controls_add_a_qubit gate control is =
    has_rows control (row_of gate) (row_of control.gate.0)
    (if_some-at (control_of gate) control (λ c. under_test c (row_of gate) (row_of c.gate.0)) is
    (at_each control_test 31 gate control_each (entry_within controls gate control is)))

-- ---- names

is_gate : List ℕ × ℕ → Bool
is_gate entry = nat_lt entry.1 31

gate_among_entries : (entries : List (List ℕ × ℕ)) (name : List ℕ) (gate : GateId) → list_all is_gate entries ≡ true → gate_among entries name ≡ Some gate → gate.0 < 31
unfolding is_gate
gate_among_entries [] name gate holds is = cc
gate_among_entries (entry ∷ entries) name gate holds is =
    let parts = both _ _ holds in
    let here = ltb-true entry.1 31 parts.0 in
    chosen (bytes_eq entry.0 name) is here (gate_among_entries entries name gate parts.1)
  where
    chosen : (b : Bool) → cond b (Some (record { 0 = entry.1 })) (gate_among entries name) ≡ Some gate → entry.1 < 31 → (gate_among entries name ≡ Some gate → gate.0 < 31) → gate.0 < 31
    chosen true found here there = let same : gate.0 ≡ entry.1 = cc in omega arith
    chosen false found here there = there found

pub names_are_gates : NamesAreGates
unfolding is_gate
names_are_gates name gate is = gate_among_entries source_names name gate refl is
