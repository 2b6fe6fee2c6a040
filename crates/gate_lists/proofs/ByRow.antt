-- The arguments and qubits of a member that is changed by its row.
use Rattle.std.proofs.Common.{◌≡◌, ℕ, zero, suc, ◌≤◌, List, [], ◌∷◌, ◌<◌, All, map, length, take, get_or, ℤ, pos, Option, Some, None, inl, inr, refl, sym, arith, ap, ◌∙◌}
use Rattle.std.specs.Prelude.{slice_index_or}
use Rattle.std.specs.List.{slice_get}
use Rattle.std.specs.Option.{option_and_then, option_map}
use Rattle.qq_base.specs.declared.run.QubitId.{QubitId}
use Rattle.gate_table.specs.declared.table.InvRow.{InvRow}
use Rattle.gate_table.specs.declared.table.CtlRow.{CtlRow}
use Rattle.gate_table.specs.Table.{inverses, inverse_of, controls, control_of}
use Rattle.gate_lists.specs.declared.member.Amount.{Amount}
use Rattle.gate_lists.specs.declared.member.Amount.TheVariants as amount
use Rattle.gate_lists.specs.declared.member.Member.{Member}
use Rattle.gate_lists.specs.Amounts.{units_in, IsNamed, params_of, qubits_of, amounts_under}
use Rattle.gate_lists.specs.Instructions.{Instruction, inverse_instruction, controlled_arguments, controlled_instruction, inverse_by_row, controlled_by_row}
use Rattle.gate_lists.specs.Members.{instruction_in}
use Rattle.gate_lists.specs.Units.{negated}
use Rattle.gate_lists.proofs.Rows.{IsOrder, TakesUnder, inverse_row, control_row, few_params, few_qubits}

-- ---- inverses, where `n` negates

pub same_places : {A : Type 0} (u : A → ℤ) (n : ℤ → ℤ) (p : ℕ) (a b c e w x y z : A) → p ≤ 4
    → u w ≡ n (u a) → u x ≡ n (u b) → u y ≡ n (u c) → u z ≡ n (u e)
    → map u (take p (w ∷ x ∷ y ∷ z ∷ [])) ≡ map (λ (k : ℕ). n (slice_index_or (map u (take p (a ∷ b ∷ c ∷ e ∷ []))) k (pos 0))) (take (length (map u (take p (a ∷ b ∷ c ∷ e ∷ [])))) (0 ∷ 1 ∷ 2 ∷ 3 ∷ []))
same_places u n zero a b c e w x y z few hw hx hy hz = refl
same_places u n (suc zero) a b c e w x y z few hw hx hy hz = cc
same_places u n (suc (suc zero)) a b c e w x y z few hw hx hy hz = cc
same_places u n (suc (suc (suc zero))) a b c e w x y z few hw hx hy hz = cc
same_places u n (suc (suc (suc (suc zero)))) a b c e w x y z few hw hx hy hz = cc
same_places u n (suc (suc (suc (suc (suc p))))) a b c e w x y z few hw hx hy hz = absurd (omega arith)

pub changed_places : {A : Type 0} (u : A → ℤ) (n : ℤ → ℤ) (p : ℕ) (a b c e w x y z : A) → 3 ≤ p → p ≤ 4
    → u w ≡ n (u a) → u x ≡ n (u c) → u y ≡ n (u b) → u z ≡ n (u e)
    → map u (take p (w ∷ x ∷ y ∷ z ∷ [])) ≡ map (λ (k : ℕ). n (slice_index_or (map u (take p (a ∷ b ∷ c ∷ e ∷ []))) k (pos 0))) (take (length (map u (take p (a ∷ b ∷ c ∷ e ∷ [])))) (0 ∷ 2 ∷ 1 ∷ 3 ∷ []))
changed_places u n zero a b c e w x y z some few hw hx hy hz = absurd (omega arith)
changed_places u n (suc zero) a b c e w x y z some few hw hx hy hz = absurd (omega arith)
changed_places u n (suc (suc zero)) a b c e w x y z some few hw hx hy hz = absurd (omega arith)
changed_places u n (suc (suc (suc zero))) a b c e w x y z some few hw hx hy hz = cc
changed_places u n (suc (suc (suc (suc zero)))) a b c e w x y z some few hw hx hy hz = cc
changed_places u n (suc (suc (suc (suc (suc p))))) a b c e w x y z some few hw hx hy hz = absurd (omega arith)

-- ---- controls

pub control_first : {A : Type 0} (n : ℕ) (control a b c : A) → n ≤ 2 → take (suc n) (control ∷ a ∷ b ∷ []) ≡ control ∷ take n (a ∷ b ∷ c ∷ [])
control_first zero control a b c few = refl
control_first (suc zero) control a b c few = refl
control_first (suc (suc zero)) control a b c few = refl
control_first (suc (suc (suc n))) control a b c few = absurd (omega arith)

-- ---- members

-- a row that the table does not have
pub no_inverse : (i : Instruction) (column : List (Option InvRow)) → column ≡ inverses → slice_get column i.gate ≡ Some None → inverse_by_row i ≡ None
unfolding inverse_by_row
no_inverse i column is none =
    let entry : slice_get inverses i.gate ≡ Some None = rw is at none in
    ap (λ (o : Option (Option InvRow)). option_map (inverse_instruction i) (option_and_then (λ (row : Option InvRow). row) o)) entry

pub no_control : (control : QubitId) (i : Instruction) (column : List (Option CtlRow)) → column ≡ controls → slice_get column i.gate ≡ Some None → controlled_by_row control i ≡ None
unfolding controlled_by_row
no_control control i column is none =
    let entry : slice_get controls i.gate ≡ Some None = rw is at none in
    ap (λ (o : Option (Option CtlRow)). option_map (controlled_instruction control i) (option_and_then (λ (row : Option CtlRow). row) o)) entry

abbrev instruction : ℕ → List ℤ → List QubitId → Instruction
instruction gate arguments qubits = record { gate = gate; arguments = arguments; qubits = qubits }

same_instruction : (gate : ℕ) (xs ys : List ℤ) (qs rs : List QubitId) → xs ≡ ys → qs ≡ rs → instruction gate xs qs ≡ instruction gate ys rs
same_instruction gate xs ys qs rs e f = ap (λ (zs : List ℤ). instruction gate zs qs) e ∙ ap (λ (ss : List QubitId). instruction gate ys ss) f

-- ---- lists of three and of four

pub three_of : {A : Type 0} (xs : List A) (d : A) → length xs ≡ 3 → xs ≡ get_or xs 0 d ∷ get_or xs 1 d ∷ get_or xs 2 d ∷ []
three_of [] d n = absurd (omega arith)
three_of (a ∷ []) d n = absurd (omega arith)
three_of (a ∷ b ∷ []) d n = absurd (omega arith)
three_of (a ∷ b ∷ c ∷ []) d n = refl
three_of (a ∷ b ∷ c ∷ e ∷ xs) d n = absurd (omega arith)

pub four_of : {A : Type 0} (xs : List A) (d : A) → length xs ≡ 4 → xs ≡ get_or xs 0 d ∷ get_or xs 1 d ∷ get_or xs 2 d ∷ get_or xs 3 d ∷ []
four_of [] d n = absurd (omega arith)
four_of (a ∷ []) d n = absurd (omega arith)
four_of (a ∷ b ∷ []) d n = absurd (omega arith)
four_of (a ∷ b ∷ c ∷ []) d n = absurd (omega arith)
four_of (a ∷ b ∷ c ∷ e ∷ []) d n = refl
four_of (a ∷ b ∷ c ∷ e ∷ f ∷ xs) d n = absurd (omega arith)

-- ---- what holds of four

pub four_all : {A : Type 0} (P : A → Type 0) (w x y z : A) → P w → P x → P y → P z → All P (w ∷ x ∷ y ∷ z ∷ [])
four_all P w x y z hw hx hy hz zero d lt = hw
four_all P w x y z hw hx hy hz (suc zero) d lt = hx
four_all P w x y z hw hx hy hz (suc (suc zero)) d lt = hy
four_all P w x y z hw hx hy hz (suc (suc (suc zero))) d lt = hz
four_all P w x y z hw hx hy hz (suc (suc (suc (suc k)))) d lt = absurd (omega arith)

-- ---- the places of a row of inverses

pub place_within : (order : List ℕ) (params k : ℕ) → IsOrder order params → k < 4 → get_or order k 0 < 4
place_within order params k (inl same) lt = rw same (straight k lt)
  where
    straight : (k : ℕ) → k < 4 → get_or (0 ∷ 1 ∷ 2 ∷ 3 ∷ []) k 0 < 4
    straight zero lt = omega arith
    straight (suc zero) lt = omega arith
    straight (suc (suc zero)) lt = omega arith
    straight (suc (suc (suc zero))) lt = omega arith
    straight (suc (suc (suc (suc k)))) lt = absurd (omega arith)
place_within order params k (inr turned) lt = rw turned.0 (crossed k lt)
  where
    crossed : (k : ℕ) → k < 4 → get_or (0 ∷ 2 ∷ 1 ∷ 3 ∷ []) k 0 < 4
    crossed zero lt = omega arith
    crossed (suc zero) lt = omega arith
    crossed (suc (suc zero)) lt = omega arith
    crossed (suc (suc (suc zero))) lt = omega arith
    crossed (suc (suc (suc (suc k)))) lt = absurd (omega arith)

-- the arguments of the inverse, where `n` negates: each is minus the argument at the place of the row
inverse_arguments : {A : Type 0} (u : A → ℤ) (n : ℤ → ℤ) (p : ℕ) (args : List A) (order : List ℕ) (d w x y z : A) → length args ≡ 4 → p ≤ 4 → IsOrder order p
    → u w ≡ n (u (get_or args (get_or order 0 0) d)) → u x ≡ n (u (get_or args (get_or order 1 0) d))
    → u y ≡ n (u (get_or args (get_or order 2 0) d)) → u z ≡ n (u (get_or args (get_or order 3 0) d))
    → map u (take p (w ∷ x ∷ y ∷ z ∷ [])) ≡ map (λ (k : ℕ). n (slice_index_or (map u (take p args)) k (pos 0))) (take (length (map u (take p args))) order)
inverse_arguments {A} u n p args order d w x y z size few (inl same) hw hx hy hz =
    rw (same, four_of args d size)
    (same_places u n p (get_or args 0 d) (get_or args 1 d) (get_or args 2 d) (get_or args 3 d) w x y z few (rw same at hw) (rw same at hx) (rw same at hy) (rw same at hz))
inverse_arguments {A} u n p args order d w x y z size few (inr turned) hw hx hy hz =
    rw (turned.0, four_of args d size)
    (changed_places u n p (get_or args 0 d) (get_or args 1 d) (get_or args 2 d) (get_or args 3 d) w x y z turned.1 few (rw turned.0 at hw) (rw turned.0 at hx) (rw turned.0 at hy) (rw turned.0 at hz))

-- the inverse of a member
pub inverse_is : (worths : ℕ → ℤ) (m : Member) (row : InvRow) (d w x y z : Amount) → inverse_of m.gate.0 ≡ Some row
    → units_in worths w ≡ negated (units_in worths (get_or m.args (get_or row.order 0 0) d)) → units_in worths x ≡ negated (units_in worths (get_or m.args (get_or row.order 1 0) d))
    → units_in worths y ≡ negated (units_in worths (get_or m.args (get_or row.order 2 0) d)) → units_in worths z ≡ negated (units_in worths (get_or m.args (get_or row.order 3 0) d))
    → inverse_by_row (instruction_in worths m)
    ≡ Some (instruction row.gate.0 (map (units_in worths) (take (params_of row.gate.0) (w ∷ x ∷ y ∷ z ∷ []))) (take (qubits_of row.gate.0) m.qubits))
unfolding inverse_by_row
inverse_is worths m row d w x y z is hw hx hy hz =
    let fits = inverse_row m.gate.0 row is in
    let values : map (units_in worths) (take (params_of row.gate.0) (w ∷ x ∷ y ∷ z ∷ [])) ≡ map (λ (k : ℕ). negated (slice_index_or (map (units_in worths) (take (params_of m.gate.0) m.args)) k (pos 0))) (take (length (map (units_in worths) (take (params_of m.gate.0) m.args))) row.order)
    = ap (λ n. map (units_in worths) (take n (w ∷ x ∷ y ∷ z ∷ []))) fits.params
    ∙ inverse_arguments (units_in worths) negated (params_of m.gate.0) m.args row.order d w x y z m.four fits.few fits.order hw hx hy hz in
    let places : take (qubits_of row.gate.0) m.qubits ≡ take (qubits_of m.gate.0) m.qubits = ap (λ n. take n m.qubits) fits.qubits in
    ap (option_map (inverse_instruction (instruction_in worths m))) is
    ∙ ap (λ (i : Instruction). Some i) (sym (same_instruction row.gate.0 _ _ _ _ values places))

-- the arguments of a member under a control
under_values : (u : Amount → ℤ) (turn : Option ℤ) (params under : ℕ) (args : List Amount) → TakesUnder turn params under → ((z : ℤ) → u (amount.Units z) ≡ z)
    → map u (take under (amounts_under turn args)) ≡ controlled_arguments turn (map u (take params args))
under_values u None params under args takes units = ap (λ n. map u (take n args)) takes
under_values u (Some t) params under args takes units =
    ap (λ n. map u (take n (amounts_under (Some t) args))) takes ∙ ap (λ z. z ∷ []) (units t)

pub four_under : (turn : Option ℤ) (args : List Amount) → length args ≡ 4 → length (amounts_under turn args) ≡ 4
four_under None args four = four
four_under (Some t) args four = refl

pub named_under : (turns : ℕ) (turn : Option ℤ) (args : List Amount) → All (IsNamed turns) args → All (IsNamed turns) (amounts_under turn args)
named_under turns None args all = all
named_under turns (Some t) args all = four_all (IsNamed turns) _ _ _ _ tt tt tt tt

-- a member under a control
pub controlled_is : (worths : ℕ → ℤ) (control : QubitId) (m : Member) (row : CtlRow) (q : QubitId) → control_of m.gate.0 ≡ Some row
    → controlled_by_row control (instruction_in worths m)
    ≡ Some (instruction row.gate.0 (map (units_in worths) (take (params_of row.gate.0) (amounts_under row.turn m.args))) (take (qubits_of row.gate.0) (control ∷ get_or m.qubits 0 q ∷ get_or m.qubits 1 q ∷ [])))
unfolding controlled_by_row
controlled_is worths control m row q is =
    let fits = control_row m.gate.0 row is in
    let places : take (qubits_of row.gate.0) (control ∷ get_or m.qubits 0 q ∷ get_or m.qubits 1 q ∷ []) ≡ control ∷ take (qubits_of m.gate.0) m.qubits
    = ap (λ n. take n (control ∷ get_or m.qubits 0 q ∷ get_or m.qubits 1 q ∷ [])) fits.qubits
    ∙ control_first (qubits_of m.gate.0) control (get_or m.qubits 0 q) (get_or m.qubits 1 q) (get_or m.qubits 2 q) fits.few
    ∙ ap (λ (qs : List QubitId). control ∷ take (qubits_of m.gate.0) qs) (sym (three_of m.qubits q m.three)) in
    let values = under_values (units_in worths) row.turn (params_of m.gate.0) (params_of row.gate.0) m.args fits.params (λ z. refl) in
    ap (option_map (controlled_instruction control (instruction_in worths m))) is
    ∙ ap (λ (i : Instruction). Some i) (sym (same_instruction row.gate.0 _ _ _ _ values places))

-- ---- a gate on its qubits

pub first_of_three : {A : Type 0} (xs : List A) (d : A) → length xs ≤ 3 → take (length xs) (get_or xs 0 d ∷ get_or xs 1 d ∷ get_or xs 2 d ∷ []) ≡ xs
first_of_three [] d few = refl
first_of_three (a ∷ []) d few = refl
first_of_three (a ∷ b ∷ []) d few = refl
first_of_three (a ∷ b ∷ c ∷ []) d few = refl
first_of_three (a ∷ b ∷ c ∷ e ∷ xs) d few = absurd (omega arith)

pub first_of_four : {A : Type 0} (xs : List A) (d : A) → length xs ≤ 4 → take (length xs) (get_or xs 0 d ∷ get_or xs 1 d ∷ get_or xs 2 d ∷ get_or xs 3 d ∷ []) ≡ xs
first_of_four [] d few = refl
first_of_four (a ∷ []) d few = refl
first_of_four (a ∷ b ∷ []) d few = refl
first_of_four (a ∷ b ∷ c ∷ []) d few = refl
first_of_four (a ∷ b ∷ c ∷ e ∷ []) d few = refl
first_of_four (a ∷ b ∷ c ∷ e ∷ f ∷ xs) d few = absurd (omega arith)

pub new_is : (worths : ℕ → ℤ) (gate : ℕ) (args : List Amount) (qubits : List QubitId) (d : Amount) (q : QubitId)
    → gate < 31 → length args ≡ params_of gate → length qubits ≡ qubits_of gate
    → (w x y z : Amount) → w ≡ get_or args 0 d → x ≡ get_or args 1 d → y ≡ get_or args 2 d → z ≡ get_or args 3 d
    → (a b c : QubitId) → a ≡ get_or qubits 0 q → b ≡ get_or qubits 1 q → c ≡ get_or qubits 2 q
    → instruction gate (map (units_in worths) (take (params_of gate) (w ∷ x ∷ y ∷ z ∷ []))) (take (qubits_of gate) (a ∷ b ∷ c ∷ []))
    ≡ instruction gate (map (units_in worths) args) qubits
new_is worths gate args qubits d q of_table params count w x y z hw hx hy hz a b c ha hb hc =
    let few : length args ≤ 4 = omega (arith, params, few_params gate of_table) in
    let short : length qubits ≤ 3 = omega (arith, count, few_qubits gate of_table) in
    let all_args : w ∷ x ∷ y ∷ z ∷ [] ≡ get_or args 0 d ∷ get_or args 1 d ∷ get_or args 2 d ∷ get_or args 3 d ∷ [] = cc in
    let all_qubits : a ∷ b ∷ c ∷ [] ≡ get_or qubits 0 q ∷ get_or qubits 1 q ∷ get_or qubits 2 q ∷ [] = cc in
    let values : take (params_of gate) (w ∷ x ∷ y ∷ z ∷ []) ≡ args
    = ap (λ n. take n (w ∷ x ∷ y ∷ z ∷ [])) (sym params) ∙ ap (λ (xs : List Amount). take (length args) xs) all_args ∙ first_of_four args d few in
    let places : take (qubits_of gate) (a ∷ b ∷ c ∷ []) ≡ qubits
    = ap (λ n. take n (a ∷ b ∷ c ∷ [])) (sym count) ∙ ap (λ (xs : List QubitId). take (length qubits) xs) all_qubits ∙ first_of_three qubits q short in
    same_instruction gate _ _ _ _ (ap (map (units_in worths)) values) places
