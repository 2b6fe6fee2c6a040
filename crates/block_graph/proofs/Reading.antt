-- What an instruction, a last instruction or a phi takes is assigned in front in its block, or carried into it.
use Rattle.std.proofs.Common.{◌≡◌, ℕ, zero, suc, ◌⊎◌, inl, inr, ⊎_elim, nat_eq, Bool, true, false, ◌||◌, List, [], ◌∷◌, ◌++◌, map, Option, Some, None, refl, sym, ap, ◌∙◌, subst, append_assoc, append-nil}
use Rattle.std.specs.Prelude.{if◌then◌else◌, ℤ}
use Rattle.std.specs.List.{flat_map, list_any, AllByRecursion}
use Rattle.qir_module.specs.declared.instruction.Operand.{Operand}
use Rattle.qir_module.specs.declared.instruction.Operand.TheVariants.{Register}
use Rattle.qir_module.specs.declared.instruction.Opcode.{Opcode}
use Rattle.qir_module.specs.declared.instruction.Arg.{Arg}
use Rattle.qir_module.specs.declared.instruction.Arg.TheVariants.{Number, Truth, Id, Text}
use Rattle.qir_module.specs.declared.instruction.Instr.{Instr}
use Rattle.qir_module.specs.declared.instruction.Instr.TheVariants.{Op, Zext, Trunc, Select, Call}
use Rattle.qir_module.specs.declared.instruction.Last.{Last}
use Rattle.qir_module.specs.declared.instruction.Last.TheVariants.{Jump, Branch, Return}
use Rattle.qir_module.specs.declared.block.Phi.{Phi}
use Rattle.qir_module.specs.Functions.{Kind, NumberKind, TruthKind, NullKind, QubitKind, ResultKind, LabelKind, Task, Initialize, ReadResult, ArrayRecord, BoolRecord, IntRecord, ResetQubit, MeasureQubit, ApplyGate, Row, row_of}
use Rattle.qir_module.specs.Numbered.{is_among, registers_of, measured_in}
use Rattle.qir_module.specs.Spots.{Item, ThePhi, TheInstr, TheLast}
use Rattle.qir_module.specs.Carried.{Thing, TheRegister, TheResult, same_thing, assigned_by, are_assigning}
use Rattle.qir_module.specs.Machine.{Value, Holds as HoldsTruth, State, with_register, with_result, word_of, truth_of, as_word, as_truth, word_in, truth_in, value_in, on_words, on_truths, with_both, op_value, extended, truncated, selected, Given, WordGiven, TruthGiven, NullGiven, IdGiven, LabelGiven, word_given, truth_given, given, with_front, all_given, truth_read, task_effect, given_effect, row_effect, stored, effect_of, entry_from, phi_value, with_phi, take_phis}
use Rattle.qir_module.specs.Module.{Module}
use Rattle.qir_module.specs.Passes.{arg_operands, instr_operands, last_operands}
use Rattle.block_graph.proofs.Coding.{flat_append}
use Rattle.block_graph.proofs.Carrying.{AllAt}
use Rattle.block_graph.proofs.Passing.{after_effect, GoesOn, Runs, HasTest, Ends}

-- ---- what is not read

pub or_neither : (a b : Bool) → (a || b) ≡ false → (a ≡ false) × (b ≡ false)
or_neither true b e = absurd (cc e)
or_neither false b e = (refl, e)

any_neither : (f : Thing → Bool) (xs ys : List Thing) → list_any f (xs ++ ys) ≡ false → (list_any f xs ≡ false) × (list_any f ys ≡ false)
any_neither f [] ys e = (refl, e)
any_neither f (x ∷ xs) ys e =
    let two = or_neither (f x) (list_any f (xs ++ ys)) e in
    let rest = any_neither f xs ys two.1 in
    (ap (λ (b : Bool). b || list_any f xs) two.0 ∙ rest.0, rest.1)

-- a list of operands has the register
abbrev pub IsRead : ℕ → List (Operand × Bool) → Type 0
IsRead r [] = ⊥
IsRead r (o ∷ os) = (o.0 ≡ Register r) ⊎ IsRead r os

read_split : (r : ℕ) (xs ys : List (Operand × Bool)) → IsRead r (xs ++ ys) → IsRead r xs ⊎ IsRead r ys
read_split r [] ys h = inr h
read_split r (x ∷ xs) ys h = ⊎_elim (λ e. inl (inl e)) (λ q. ⊎_elim (λ a. inl (inr a)) (λ b. inr b) (read_split r xs ys q)) h

module _ (s : State) (r : ℕ) (absent : s.registers r ≡ None) where
  word_absent : (o : Operand) → o ≡ Register r → word_in s o ≡ None
  word_absent o e = ap (word_in s) e ∙ ap word_of absent

  truth_absent : (o : Operand) → o ≡ Register r → truth_in s o ≡ None
  truth_absent o e = ap (truth_in s) e ∙ ap truth_of absent

  pub value_absent : (truth : Bool) (o : Operand) → o ≡ Register r → value_in s truth o ≡ None
  value_absent true o e = ap as_truth (truth_absent o e)
  value_absent false o e = ap as_word (word_absent o e)

  both_second : {A B : Type 0} (a b : Option A) (f : A → A → Option B) → b ≡ None → with_both a b f ≡ None
  both_second None b f e = refl
  both_second (Some x) b f e = ap (λ y. with_both (Some x) y f) e

  both_first : {A B : Type 0} (a b : Option A) (f : A → A → Option B) → a ≡ None → with_both a b f ≡ None
  both_first a b f e = ap (λ y. with_both y b f) e

  op_absent : (op : Opcode) (truth : Bool) (left right : Operand) → IsRead r ((left, truth) ∷ (right, truth) ∷ []) → op_value s op truth left right ≡ None
  op_absent op true left right h = ⊎_elim (λ e. both_first (truth_in s left) (truth_in s right) (on_truths op) (truth_absent left e)) (λ q. ⊎_elim (λ e. both_second (truth_in s left) (truth_in s right) (on_truths op) (truth_absent right e)) (λ z. absurd z) q) h
  op_absent op false left right h = ⊎_elim (λ e. both_first (word_in s left) (word_in s right) (on_words op) (word_absent left e)) (λ q. ⊎_elim (λ e. both_second (word_in s left) (word_in s right) (on_words op) (word_absent right e)) (λ z. absurd z) q) h

  selected_none : (test : Option Bool) (a b : Option Value) → (a ≡ None) ⊎ (b ≡ None) → selected test a b ≡ None
  selected_none None a b h = refl
  selected_none (Some t) a b h = ⊎_elim (λ e. both_first a b (λ x y. Some (if t then x else y)) e) (λ e. both_second a b (λ x y. Some (if t then x else y)) e) h

  select_absent : (truth : Bool) (test chosen other : Operand) → IsRead r ((test, true) ∷ (chosen, truth) ∷ (other, truth) ∷ []) → selected (truth_in s test) (value_in s truth chosen) (value_in s truth other) ≡ None
  select_absent truth test chosen other h =
      ⊎_elim (λ e. ap (λ (t : Option Bool). selected t (value_in s truth chosen) (value_in s truth other)) (truth_absent test e))
      (λ q. selected_none (truth_in s test) (value_in s truth chosen) (value_in s truth other) (⊎_elim (λ e. inl (value_absent truth chosen e)) (λ z. ⊎_elim (λ e. inr (value_absent truth other e)) (λ y. absurd y) z) q)) h

  number_absent : (labels : ℕ) (kind : Kind) (o : Operand) → o ≡ Register r → given labels s kind (Number o) ≡ None
  number_absent labels NumberKind o e = ap word_given (word_absent o e)
  number_absent labels TruthKind o e = refl
  number_absent labels NullKind o e = refl
  number_absent labels QubitKind o e = refl
  number_absent labels ResultKind o e = refl
  number_absent labels LabelKind o e = refl

  test_absent : (labels : ℕ) (kind : Kind) (o : Operand) → o ≡ Register r → given labels s kind (Truth o) ≡ None
  test_absent labels NumberKind o e = refl
  test_absent labels TruthKind o e = ap truth_given (truth_absent o e)
  test_absent labels NullKind o e = refl
  test_absent labels QubitKind o e = refl
  test_absent labels ResultKind o e = refl
  test_absent labels LabelKind o e = refl

  front_second : {A : Type 0} (a : Option A) (b : Option (List A)) → b ≡ None → with_front a b ≡ None
  front_second None b e = refl
  front_second (Some x) b e = ap (with_front (Some x)) e

  args_absent : (labels : ℕ) (kinds : List Kind) (args : List Arg) → IsRead r (flat_map arg_operands args) → all_given labels s kinds args ≡ None
  args_absent labels [] [] h = absurd h
  args_absent labels (kind ∷ kinds) [] h = absurd h
  args_absent labels [] (arg ∷ args) h = refl
  args_absent labels (kind ∷ kinds) (Number o ∷ args) h = ⊎_elim (λ e. ap (λ (g : Option Given). with_front g (all_given labels s kinds args)) (number_absent labels kind o e)) (λ q. front_second (given labels s kind (Number o)) (all_given labels s kinds args) (args_absent labels kinds args q)) h
  args_absent labels (kind ∷ kinds) (Truth o ∷ args) h = ⊎_elim (λ e. ap (λ (g : Option Given). with_front g (all_given labels s kinds args)) (test_absent labels kind o e)) (λ q. front_second (given labels s kind (Truth o)) (all_given labels s kinds args) (args_absent labels kinds args q)) h
  args_absent labels (kind ∷ kinds) (Id n ∷ args) h = front_second (given labels s kind (Id n)) (all_given labels s kinds args) (args_absent labels kinds args h)
  args_absent labels (kind ∷ kinds) (Text k ∷ args) h = front_second (given labels s kind (Text k)) (all_given labels s kinds args) (args_absent labels kinds args h)

  row_absent : (labels : ℕ) (row : Option Row) (register : Option ℕ) (args : List Arg) → IsRead r (flat_map arg_operands args) → after_effect (row_effect labels s row register args) ≡ None
  row_absent labels None register args h = refl
  row_absent labels (Some row) register args h = ap (λ (g : Option (List Given)). after_effect (given_effect s row.task register g)) (args_absent labels row.takes args h)

  -- an instruction that reads it fails
  instr_absent : (labels : ℕ) (i : Instr) → IsRead r (instr_operands i) → after_effect (effect_of labels s i) ≡ None
  instr_absent labels (Op x op truth left right) h = ap (λ (v : Option Value). after_effect (stored s x v)) (op_absent op truth left right h)
  instr_absent labels (Zext x from) h = ⊎_elim (λ e. ap (λ (v : Option Bool). after_effect (stored s x (extended v))) (truth_absent from e)) (λ z. absurd z) h
  instr_absent labels (Trunc x from) h = ⊎_elim (λ e. ap (λ (v : Option ℤ). after_effect (stored s x (truncated v))) (word_absent from e)) (λ z. absurd z) h
  instr_absent labels (Select x truth test chosen other) h = ap (λ (v : Option Value). after_effect (stored s x v)) (select_absent truth test chosen other h)
  instr_absent labels (Call register function args) h = row_absent labels (row_of function.0) register args h

  last_absent : (last : Last) → IsRead r (last_operands last) → HasTest last s → ⊥
  last_absent (Jump to) h t = h
  last_absent (Return code) h t = h
  last_absent (Branch test first second) h t = ⊎_elim (λ e. absurd (cc (sym (truth_absent test e) ∙ t.1))) (λ z. absurd z) h

-- ---- what is not assigned

same_keeps : (s : State) (r : ℕ) (s' : State) → Some s ≡ Some s' → s'.registers r ≡ s.registers r
same_keeps s r s' e = let same : s ≡ s' = cc e in ap (λ (t : State). t.registers r) (sym same)

put_keeps : (s : State) (r : ℕ) (s' : State) (x : ℕ) (v : Value) → is_among (x ∷ []) r ≡ false → Some (with_register s x v) ≡ Some s' → s'.registers r ≡ s.registers r
put_keeps s r s' x v ne e =
    let two = or_neither (nat_eq r x) false ne in
    same_keeps (with_register s x v) r s' e ∙ ap (λ (b : Bool). if b then Some v else s.registers r) two.0

stored_keeps : (s : State) (r : ℕ) (s' : State) (x : ℕ) (v : Option Value) → is_among (x ∷ []) r ≡ false → after_effect (stored s x v) ≡ Some s' → s'.registers r ≡ s.registers r
stored_keeps s r s' x None ne e = absurd (cc e)
stored_keeps s r s' x (Some v) ne e = put_keeps s r s' x v ne e

read_keeps : (s : State) (r : ℕ) (s' : State) (x : ℕ) (o : Option Bool) → is_among (x ∷ []) r ≡ false → after_effect (truth_read s x o) ≡ Some s' → s'.registers r ≡ s.registers r
read_keeps s r s' x None ne e = absurd (cc e)
read_keeps s r s' x (Some b) ne e = put_keeps s r s' x (HoldsTruth b) ne e

abbrev registers_in : Option ℕ → List ℕ
registers_in None = []
registers_in (Some x) = x ∷ []

task_keeps : (s : State) (r : ℕ) (s' : State) (t : Task) (register : Option ℕ) (gs : List Given) → is_among (registers_in register) r ≡ false → after_effect (task_effect s t register gs) ≡ Some s' → s'.registers r ≡ s.registers r
task_keeps s r s' Initialize (Some x) gs ne e = absurd (cc e)
task_keeps s r s' Initialize None [] ne e = absurd (cc e)
task_keeps s r s' Initialize None ((WordGiven z) ∷ gs) ne e = absurd (cc e)
task_keeps s r s' Initialize None ((TruthGiven b) ∷ gs) ne e = absurd (cc e)
task_keeps s r s' Initialize None ((IdGiven n) ∷ gs) ne e = absurd (cc e)
task_keeps s r s' Initialize None ((LabelGiven n) ∷ gs) ne e = absurd (cc e)
task_keeps s r s' Initialize None (NullGiven ∷ []) ne e = same_keeps s r s' e
task_keeps s r s' Initialize None (NullGiven ∷ g ∷ gs) ne e = absurd (cc e)
task_keeps s r s' ReadResult None gs ne e = absurd (cc e)
task_keeps s r s' ReadResult (Some x) [] ne e = absurd (cc e)
task_keeps s r s' ReadResult (Some x) ((WordGiven z) ∷ gs) ne e = absurd (cc e)
task_keeps s r s' ReadResult (Some x) ((TruthGiven b) ∷ gs) ne e = absurd (cc e)
task_keeps s r s' ReadResult (Some x) (NullGiven ∷ gs) ne e = absurd (cc e)
task_keeps s r s' ReadResult (Some x) ((LabelGiven n) ∷ gs) ne e = absurd (cc e)
task_keeps s r s' ReadResult (Some x) ((IdGiven n1) ∷ []) ne e = read_keeps s r s' x (s.results n1) ne e
task_keeps s r s' ReadResult (Some x) ((IdGiven n1) ∷ g ∷ gs) ne e = absurd (cc e)
task_keeps s r s' ArrayRecord (Some x) gs ne e = absurd (cc e)
task_keeps s r s' ArrayRecord None [] ne e = absurd (cc e)
task_keeps s r s' ArrayRecord None ((TruthGiven b) ∷ gs) ne e = absurd (cc e)
task_keeps s r s' ArrayRecord None (NullGiven ∷ gs) ne e = absurd (cc e)
task_keeps s r s' ArrayRecord None ((IdGiven n) ∷ gs) ne e = absurd (cc e)
task_keeps s r s' ArrayRecord None ((LabelGiven n) ∷ gs) ne e = absurd (cc e)
task_keeps s r s' ArrayRecord None ((WordGiven z2) ∷ []) ne e = absurd (cc e)
task_keeps s r s' ArrayRecord None ((WordGiven z2) ∷ (WordGiven z) ∷ gs) ne e = absurd (cc e)
task_keeps s r s' ArrayRecord None ((WordGiven z2) ∷ (TruthGiven b) ∷ gs) ne e = absurd (cc e)
task_keeps s r s' ArrayRecord None ((WordGiven z2) ∷ NullGiven ∷ gs) ne e = absurd (cc e)
task_keeps s r s' ArrayRecord None ((WordGiven z2) ∷ (IdGiven n) ∷ gs) ne e = absurd (cc e)
task_keeps s r s' ArrayRecord None ((WordGiven z2) ∷ (LabelGiven n1) ∷ []) ne e = same_keeps s r s' e
task_keeps s r s' ArrayRecord None ((WordGiven z2) ∷ (LabelGiven n1) ∷ g ∷ gs) ne e = absurd (cc e)
task_keeps s r s' BoolRecord (Some x) gs ne e = absurd (cc e)
task_keeps s r s' BoolRecord None [] ne e = absurd (cc e)
task_keeps s r s' BoolRecord None ((WordGiven z) ∷ gs) ne e = absurd (cc e)
task_keeps s r s' BoolRecord None (NullGiven ∷ gs) ne e = absurd (cc e)
task_keeps s r s' BoolRecord None ((IdGiven n) ∷ gs) ne e = absurd (cc e)
task_keeps s r s' BoolRecord None ((LabelGiven n) ∷ gs) ne e = absurd (cc e)
task_keeps s r s' BoolRecord None ((TruthGiven b2) ∷ []) ne e = absurd (cc e)
task_keeps s r s' BoolRecord None ((TruthGiven b2) ∷ (WordGiven z) ∷ gs) ne e = absurd (cc e)
task_keeps s r s' BoolRecord None ((TruthGiven b2) ∷ (TruthGiven b) ∷ gs) ne e = absurd (cc e)
task_keeps s r s' BoolRecord None ((TruthGiven b2) ∷ NullGiven ∷ gs) ne e = absurd (cc e)
task_keeps s r s' BoolRecord None ((TruthGiven b2) ∷ (IdGiven n) ∷ gs) ne e = absurd (cc e)
task_keeps s r s' BoolRecord None ((TruthGiven b2) ∷ (LabelGiven n1) ∷ []) ne e = same_keeps s r s' e
task_keeps s r s' BoolRecord None ((TruthGiven b2) ∷ (LabelGiven n1) ∷ g ∷ gs) ne e = absurd (cc e)
task_keeps s r s' IntRecord (Some x) gs ne e = absurd (cc e)
task_keeps s r s' IntRecord None [] ne e = absurd (cc e)
task_keeps s r s' IntRecord None ((TruthGiven b) ∷ gs) ne e = absurd (cc e)
task_keeps s r s' IntRecord None (NullGiven ∷ gs) ne e = absurd (cc e)
task_keeps s r s' IntRecord None ((IdGiven n) ∷ gs) ne e = absurd (cc e)
task_keeps s r s' IntRecord None ((LabelGiven n) ∷ gs) ne e = absurd (cc e)
task_keeps s r s' IntRecord None ((WordGiven z2) ∷ []) ne e = absurd (cc e)
task_keeps s r s' IntRecord None ((WordGiven z2) ∷ (WordGiven z) ∷ gs) ne e = absurd (cc e)
task_keeps s r s' IntRecord None ((WordGiven z2) ∷ (TruthGiven b) ∷ gs) ne e = absurd (cc e)
task_keeps s r s' IntRecord None ((WordGiven z2) ∷ NullGiven ∷ gs) ne e = absurd (cc e)
task_keeps s r s' IntRecord None ((WordGiven z2) ∷ (IdGiven n) ∷ gs) ne e = absurd (cc e)
task_keeps s r s' IntRecord None ((WordGiven z2) ∷ (LabelGiven n1) ∷ []) ne e = same_keeps s r s' e
task_keeps s r s' IntRecord None ((WordGiven z2) ∷ (LabelGiven n1) ∷ g ∷ gs) ne e = absurd (cc e)
task_keeps s r s' ResetQubit (Some x) gs ne e = absurd (cc e)
task_keeps s r s' ResetQubit None [] ne e = absurd (cc e)
task_keeps s r s' ResetQubit None ((WordGiven z) ∷ gs) ne e = absurd (cc e)
task_keeps s r s' ResetQubit None ((TruthGiven b) ∷ gs) ne e = absurd (cc e)
task_keeps s r s' ResetQubit None (NullGiven ∷ gs) ne e = absurd (cc e)
task_keeps s r s' ResetQubit None ((LabelGiven n) ∷ gs) ne e = absurd (cc e)
task_keeps s r s' ResetQubit None ((IdGiven n1) ∷ []) ne e = same_keeps s r s' e
task_keeps s r s' ResetQubit None ((IdGiven n1) ∷ g ∷ gs) ne e = absurd (cc e)
task_keeps s r s' MeasureQubit (Some x) gs ne e = absurd (cc e)
task_keeps s r s' MeasureQubit None [] ne e = absurd (cc e)
task_keeps s r s' MeasureQubit None ((WordGiven z) ∷ gs) ne e = absurd (cc e)
task_keeps s r s' MeasureQubit None ((TruthGiven b) ∷ gs) ne e = absurd (cc e)
task_keeps s r s' MeasureQubit None (NullGiven ∷ gs) ne e = absurd (cc e)
task_keeps s r s' MeasureQubit None ((LabelGiven n) ∷ gs) ne e = absurd (cc e)
task_keeps s r s' MeasureQubit None ((IdGiven n2) ∷ []) ne e = absurd (cc e)
task_keeps s r s' MeasureQubit None ((IdGiven n2) ∷ (WordGiven z) ∷ gs) ne e = absurd (cc e)
task_keeps s r s' MeasureQubit None ((IdGiven n2) ∷ (TruthGiven b) ∷ gs) ne e = absurd (cc e)
task_keeps s r s' MeasureQubit None ((IdGiven n2) ∷ NullGiven ∷ gs) ne e = absurd (cc e)
task_keeps s r s' MeasureQubit None ((IdGiven n2) ∷ (LabelGiven n) ∷ gs) ne e = absurd (cc e)
task_keeps s r s' MeasureQubit None ((IdGiven n2) ∷ (IdGiven n1) ∷ []) ne e = same_keeps (with_result s n1 false) r s' e
task_keeps s r s' MeasureQubit None ((IdGiven n2) ∷ (IdGiven n1) ∷ g ∷ gs) ne e = absurd (cc e)
task_keeps s r s' (ApplyGate gate) (Some x) gs ne e = absurd (cc e)
task_keeps s r s' (ApplyGate gate) None gs ne e = same_keeps s r s' e

given_keeps : (s : State) (r : ℕ) (s' : State) (t : Task) (register : Option ℕ) (gs : Option (List Given)) → is_among (registers_in register) r ≡ false → after_effect (given_effect s t register gs) ≡ Some s' → s'.registers r ≡ s.registers r
given_keeps s r s' t register None ne e = absurd (cc e)
given_keeps s r s' t register (Some gs) ne e = task_keeps s r s' t register gs ne e

row_keeps : (labels : ℕ) (s : State) (r : ℕ) (s' : State) (row : Option Row) (register : Option ℕ) (args : List Arg) → is_among (registers_in register) r ≡ false → after_effect (row_effect labels s row register args) ≡ Some s' → s'.registers r ≡ s.registers r
row_keeps labels s r s' None register args ne e = absurd (cc e)
row_keeps labels s r s' (Some row) register args ne e = given_keeps s r s' row.task register (all_given labels s row.takes args) ne e

instr_keeps : (labels : ℕ) (s : State) (r : ℕ) (s' : State) (i : Instr) → is_among (registers_of i) r ≡ false → after_effect (effect_of labels s i) ≡ Some s' → s'.registers r ≡ s.registers r
instr_keeps labels s r s' (Op x op truth left right) ne e = stored_keeps s r s' x (op_value s op truth left right) ne e
instr_keeps labels s r s' (Zext x from) ne e = stored_keeps s r s' x (extended (truth_in s from)) ne e
instr_keeps labels s r s' (Trunc x from) ne e = stored_keeps s r s' x (truncated (word_in s from)) ne e
instr_keeps labels s r s' (Select x truth test chosen other) ne e = stored_keeps s r s' x (selected (truth_in s test) (value_in s truth chosen) (value_in s truth other)) ne e
instr_keeps labels s r s' (Call None function args) ne e = row_keeps labels s r s' (row_of function.0) None args ne e
instr_keeps labels s r s' (Call (Some x) function args) ne e = row_keeps labels s r s' (row_of function.0) (Some x) args ne e

named_registers : (r : ℕ) (xs : List ℕ) → list_any (same_thing (TheRegister r)) (map TheRegister xs) ≡ is_among xs r
named_registers r [] = refl
named_registers r (x ∷ xs) = ap (λ (b : Bool). nat_eq r x || b) (named_registers r xs)

-- ---- a block, for a register that is there only where it is assigned in front

module _ (labels r : ℕ) where
  abbrev pub Absent : List Item → State → Type 0
  Absent front s = are_assigning front (TheRegister r) ≡ false → s.registers r ≡ None

  abbrev pub Untaken : List Item → Item → Type 0
  Untaken front (ThePhi p) = Unit {0}
  Untaken front (TheInstr i) = are_assigning front (TheRegister r) ≡ false → IsRead r (instr_operands i) → ⊥
  Untaken front (TheLast last) = are_assigning front (TheRegister r) ≡ false → IsRead r (last_operands last) → ⊥

  pub front_silent : (front : List Item) (item : Item) → are_assigning (front ++ item ∷ []) (TheRegister r) ≡ false → (are_assigning front (TheRegister r) ≡ false) × (list_any (same_thing (TheRegister r)) (assigned_by item) ≡ false)
  front_silent front item e =
      any_neither (same_thing (TheRegister r)) (flat_map assigned_by front) (assigned_by item)
      (sym (ap (list_any (same_thing (TheRegister r))) (flat_append assigned_by front (item ∷ []) ∙ ap (λ (xs : List Thing). flat_map assigned_by front ++ xs) (append-nil (assigned_by item)))) ∙ e)

  instr_untaken : (front : List Item) (i : Instr) (s s' : State) → Absent front s → after_effect (effect_of labels s i) ≡ Some s' → Untaken front (TheInstr i)
  instr_untaken front i s s' absent e none read = absurd (cc (sym (instr_absent s r (absent none) labels i read) ∙ e))

  instr_leaves : (front : List Item) (i : Instr) (s s' : State) → Absent front s → after_effect (effect_of labels s i) ≡ Some s' → Absent (front ++ TheInstr i ∷ []) s'
  instr_leaves front i s s' absent e none =
      let two = front_silent front (TheInstr i) none in
      let own = any_neither (same_thing (TheRegister r)) (map TheRegister (registers_of i)) (map TheResult (measured_in i)) two.1 in
      instr_keeps labels s r s' i (sym (named_registers r (registers_of i)) ∙ own.0) e ∙ absent two.0

  pub has_test : (m : Module) (n k : ℕ) (last : Last) (s : State) → Ends m n k last s → HasTest last s
  has_test m zero k last s h = h
  has_test m (suc n) k last s h = h.0

  pub body_untaken : (K : State → Type 0) (front : List Item) (body : List Instr) (last : Last) (s : State) → ((t : State) → K t → HasTest last t) → Absent front s → Runs labels body K s → AllAt Untaken front (map TheInstr body ++ TheLast last ∷ [])
  body_untaken K front [] last s tests absent k = ((λ none read. last_absent s r (absent none) last read (tests s k)), tt)
  body_untaken K front (i ∷ body) last s tests absent run = at (after_effect (effect_of labels s i)) refl run (λ t a q. body_untaken K (front ++ TheInstr i ∷ []) body last t tests a q)
    where
      at : (o : Option State) → after_effect (effect_of labels s i) ≡ o → GoesOn o (Runs labels body K) → ((t : State) → Absent (front ++ TheInstr i ∷ []) t → Runs labels body K t → AllAt Untaken (front ++ TheInstr i ∷ []) (map TheInstr body ++ TheLast last ∷ [])) → AllAt Untaken front (TheInstr i ∷ (map TheInstr body ++ TheLast last ∷ []))
      at None e q next = absurd q
      at (Some t) e q next = (instr_untaken front i s t absent e, next t (instr_leaves front i s t absent e) q)

  pub body_ends : (K : State → Type 0) (front : List Item) (body : List Instr) (s : State) → Absent front s → Runs labels body K s → (t : State) × K t × Absent (front ++ map TheInstr body) t
  body_ends K front [] s absent k = (s, k, subst (λ (f : List Item). Absent f s) (sym (append-nil front)) absent)
  body_ends K front (i ∷ body) s absent run = at (after_effect (effect_of labels s i)) refl run (λ t a q. body_ends K (front ++ TheInstr i ∷ []) body t a q)
    where
      at : (o : Option State) → after_effect (effect_of labels s i) ≡ o → GoesOn o (Runs labels body K) → ((t : State) → Absent (front ++ TheInstr i ∷ []) t → Runs labels body K t → (u : State) × K u × Absent ((front ++ TheInstr i ∷ []) ++ map TheInstr body) u) → (u : State) × K u × Absent (front ++ TheInstr i ∷ map TheInstr body) u
      at None e q next = absurd q
      at (Some t) e q next = let z = next t (instr_leaves front i s t absent e) q in (z.0, z.1, subst (λ (f : List Item). Absent f z.0) (append_assoc front (TheInstr i ∷ []) (map TheInstr body)) z.2)

  -- behind the phis
  pub phis_leave : (ps : List Phi) (from : Option ℕ) (s s' : State) → s.registers r ≡ None → take_phis ps from s ≡ Some s' → Absent (map ThePhi ps) s'
  phis_leave [] from s s' absent e none = same_keeps s r s' e ∙ absent
  phis_leave (p ∷ ps) from s s' absent e none = at (take_phis ps from s) (phi_value s p (entry_from p.entries from)) refl e (λ t q h. phis_leave ps from s t absent q h)
    where
      two : (nat_eq r p.register ≡ false) × (are_assigning (map ThePhi ps) (TheRegister r) ≡ false)
      two = or_neither (nat_eq r p.register) (are_assigning (map ThePhi ps) (TheRegister r)) none

      at : (o : Option State) (v : Option Value) → take_phis ps from s ≡ o → with_phi o p.register v ≡ Some s' → ((t : State) → take_phis ps from s ≡ Some t → are_assigning (map ThePhi ps) (TheRegister r) ≡ false → t.registers r ≡ None) → s'.registers r ≡ None
      at None v q h next = absurd (cc h)
      at (Some t) None q h next = absurd (cc h)
      at (Some t) (Some v) q h next = same_keeps (with_register t p.register v) r s' h ∙ ap (λ (b : Bool). if b then Some v else t.registers r) two.0 ∙ next t q two.1

-- each phi takes a value
pub phis_take : (ps : List Phi) (from : Option ℕ) (s s' : State) → take_phis ps from s ≡ Some s' → AllByRecursion (λ (p : Phi). phi_value s p (entry_from p.entries from) ≡ None → ⊥) ps
phis_take [] from s s' e = tt
phis_take (p ∷ ps) from s s' e = at (take_phis ps from s) (phi_value s p (entry_from p.entries from)) refl refl e (λ t q. phis_take ps from s t q)
  where
    at : (o : Option State) (v : Option Value) → take_phis ps from s ≡ o → phi_value s p (entry_from p.entries from) ≡ v → with_phi o p.register v ≡ Some s' → ((t : State) → take_phis ps from s ≡ Some t → AllByRecursion (λ (p : Phi). phi_value s p (entry_from p.entries from) ≡ None → ⊥) ps) → (phi_value s p (entry_from p.entries from) ≡ None → ⊥) × AllByRecursion (λ (p : Phi). phi_value s p (entry_from p.entries from) ≡ None → ⊥) ps
    at None v q w h next = absurd (cc h)
    at (Some t) None q w h next = absurd (cc h)
    at (Some t) (Some v) q w h next = ((λ none. absurd (cc (sym none ∙ w))), next t q)
