-- In a module that passes no instruction is stuck, and behind it each register and result that it assigns is there.
use Rattle.std.proofs.Common.{◌≡◌, ◌⊎◌, inl, inr, ℕ, zero, suc, ◌<◌, Bool, true, false, ◌&&◌, ◌||◌, nat_eq, nat_lt, if◌then◌else◌, List, [], ◌∷◌, ◌++◌, length, map, ℤ, Option, Some, None, is_some, is_none, refl, sym, ap, ◌∙◌, subst, arith, append-nil}
use Rattle.std.proofs.lemmas.Bool.{eqb-true, eq-eqb}
use Rattle.std.proofs.lemmas.Option.{slice_get_within}
use Rattle.std.specs.Option.{option_to_list}
use Rattle.std.specs.List.{list_any, list_all, flat_map, AllByRecursion}
use Rattle.qir_module.specs.declared.instruction.Operand.{Operand}
use Rattle.qir_module.specs.declared.instruction.Arg.{Arg}
use Rattle.qir_module.specs.declared.instruction.Arg.TheVariants.{Number, Truth, Id, Text}
use Rattle.qir_module.specs.declared.instruction.Instr.{Instr}
use Rattle.qir_module.specs.declared.instruction.Instr.TheVariants.{Op, Zext, Trunc, Select, Call}
use Rattle.qir_module.specs.Module.{Module, IsShapedInstr}
use Rattle.qir_module.specs.Functions.{Kind, NumberKind, TruthKind, NullKind, QubitKind, ResultKind, LabelKind, Task, ArrayRecord, BoolRecord, IntRecord, ApplyGate, Row, rows, row_of}
use Rattle.qir_module.specs.Machine.{Value, Holds, State, with_register, with_result, Given, WordGiven, TruthGiven, NullGiven, IdGiven, LabelGiven, given, word_given, truth_given, with_front, all_given, Effect, Goes, Does, Shows, Measures, Fails, truth_read, task_effect, given_effect, row_effect, stored, effect_of}
use Rattle.qir_module.specs.Carried.{Thing, TheRegister, TheResult, same_thing}
use Rattle.qir_module.specs.Numbered.{registers_of, read_in, measured_in, is_among, task_of, measured_by, read_by}
use Rattle.qir_module.specs.Spots.{TheInstr}
use Rattle.qir_module.specs.Passes.{Passes, assigned_as, assigned_with, arg_operands, instr_operands, takes, takes_all, call_fits, instr_fits, constants_fit, instr_labels, label_in, ids_where, instr_ids, id_in, takes_of, is_null, compares}
use Rattle.qir_machine.specs.Given.{Givens}
use Rattle.qir_machine.proofs.Calls.{gate_at}
use Rattle.qir_machine.proofs.SpotFacts.{and_left, and_right, all_left, all_right}
use Rattle.qir_machine.proofs.UniqueTypes.{or_left}
use Rattle.qir_machine.proofs.Operands.{is_truth, has, IsTyped, IsSound, IsReadable, IsValue, truth_there, word_there, op_there, extended_there, truncated_there, selected_there, divisor_fits, amount_fits}

-- ---- behind an effect

-- what holds of the state behind an effect, whatever the outcome, if the machine is not stuck
abbrev pub After : Effect → (State → Type 0) → Type 0
After (Goes s) P = P s
After (Does event s) P = P s
After (Shows shown s) P = P s
After (Measures qubit result s) P = (b : Bool) → P (with_result s result b)
After Fails P = ⊥

-- what a state must have behind an assignment
pub record AddsOnly (known now : Thing → Bool) (t : Thing) : Type 0 where
  pub only : (x : Thing) → now x ≡ true → (known x ≡ true) ⊎ (same_thing x t ≡ true)

pub register_put : (m : Module) (s : State) (known now : Thing → Bool) (r : ℕ) (v : Value) → IsSound m s known → assigned_as m (is_truth v) r ≡ true → AddsOnly known now (TheRegister r) → IsSound m (with_register s r v) now
register_put m s known now r v sound type adds = record { types = record { typed = typed }; there = there }
  where
    typed : (x : ℕ) (w : Value) → (with_register s r v).registers x ≡ Some w → assigned_as m (is_truth w) x ≡ true
    typed x w is = by_place (nat_eq x r) refl is
      where
        by_place : (same : Bool) → nat_eq x r ≡ same → (if same then Some v else s.registers x) ≡ Some w → assigned_as m (is_truth w) x ≡ true
        by_place true e e2 = let one : v ≡ w = cc in let place : x ≡ r = eqb-true x r e in subst (λ y. assigned_as m (is_truth w) y ≡ true) (sym place) (ap (λ u. assigned_as m (is_truth u) r) (sym one) ∙ type)
        by_place false e e2 = sound.types.typed x w e2

    kept : (x : ℕ) → is_some (s.registers x) ≡ true → (same : Bool) → is_some (if same then Some v else s.registers x) ≡ true
    kept x is true = refl
    kept x is false = is

    there : (t : Thing) → now t ≡ true → has (with_register s r v) t ≡ true
    there (TheRegister x) is = elim (adds.only (TheRegister x) is) [
      | inl a ↦ kept x (sound.there (TheRegister x) a) (nat_eq x r)
      | inr a ↦ ap (λ (same : Bool). is_some (if same then Some v else s.registers x)) a
    ]
    there (TheResult k) is = elim (adds.only (TheResult k) is) [ inl a ↦ sound.there (TheResult k) a | inr a ↦ absurd (let wrong : false ≡ true = a in cc) ]

result_put : (m : Module) (s : State) (known now : Thing → Bool) (k : ℕ) (b : Bool) → IsSound m s known → AddsOnly known now (TheResult k) → IsSound m (with_result s k b) now
result_put m s known now k b sound adds = record { types = record { typed = sound.types.typed }; there = there }
  where
    kept : (x : ℕ) → is_some (s.results x) ≡ true → (same : Bool) → is_some (if same then Some b else s.results x) ≡ true
    kept x is true = refl
    kept x is false = is

    there : (t : Thing) → now t ≡ true → has (with_result s k b) t ≡ true
    there (TheResult x) is = elim (adds.only (TheResult x) is) [
      | inl a ↦ kept x (sound.there (TheResult x) a) (nat_eq x k)
      | inr a ↦ ap (λ (same : Bool). is_some (if same then Some b else s.results x)) a
    ]
    there (TheRegister r) is = elim (adds.only (TheRegister r) is) [ inl a ↦ sound.there (TheRegister r) a | inr a ↦ absurd (let wrong : false ≡ true = a in cc) ]

-- ---- what an instruction asks of the module and the state

pub record IsMet (m : Module) (s : State) (known now : Thing → Bool) (instr : Instr) : Type 0 where
  pub sound : IsSound m s known
  pub shaped : IsShapedInstr instr
  pub operands : AllByRecursion (IsReadable m s) (instr_operands instr)
  pub fits : instr_fits instr ≡ true
  pub constants : constants_fit instr ≡ true
  pub labels : list_all (λ k. nat_lt k (length m.labels)) (instr_labels instr) ≡ true
  pub results : list_all (has s) (map TheResult (read_in instr)) ≡ true
  pub nulls : list_all (λ n. nat_eq n 0) (instr_ids is_null instr) ≡ true
  pub types : (truth : Bool) (r : ℕ) → is_among (assigned_with truth (TheInstr instr)) r ≡ true → assigned_as m truth r ≡ true
  pub adds : (x : Thing) → now x ≡ true → (known x ≡ true) ⊎ (list_any (same_thing x) (map TheRegister (registers_of instr) ++ map TheResult (measured_in instr)) ≡ true)

-- a single thing is added
single : (x t : Thing) → list_any (same_thing x) (t ∷ []) ≡ true → same_thing x t ≡ true
single x t is = by_test (same_thing x t) is
  where
    by_test : (b : Bool) → (b || false) ≡ true → b ≡ true
    by_test true e = refl
    by_test false e = e

adds_single : (known now : Thing → Bool) (t : Thing) → ((x : Thing) → now x ≡ true → (known x ≡ true) ⊎ (list_any (same_thing x) (t ∷ []) ≡ true)) → AddsOnly known now t
adds_single known now t adds = record { only = λ x is. elim (adds x is) [ inl a ↦ inl a | inr a ↦ inr (single x t a) ] }

same_number : (r : ℕ) → nat_eq r r ≡ true
same_number r = eq-eqb r r refl

assigned_here : (truth : Bool) (r : ℕ) → is_among (if truth then r ∷ [] else r ∷ []) r ≡ true
assigned_here true r = or_left (nat_eq r r) false (same_number r)
assigned_here false r = or_left (nat_eq r r) false (same_number r)

typed_here : (flag : Bool) (r : ℕ) → is_among (if flag then (if flag then r ∷ [] else []) else (if flag then [] else r ∷ [])) r ≡ true
typed_here true r = or_left (nat_eq r r) false (same_number r)
typed_here false r = or_left (nat_eq r r) false (same_number r)

-- a value is stored in the register of an instruction
value_stored : (m : Module) (s : State) (known now : Thing → Bool) (r : ℕ) (value : Option Value) (truth : Bool) → IsSound m s known → IsValue value truth → assigned_as m truth r ≡ true → AddsOnly known now (TheRegister r)
    → After (stored s r value) (λ s'. IsSound m s' now)
value_stored m s known now r None truth sound found type adds = absurd (let is = found.is in cc)
value_stored m s known now r (Some v) truth sound found type adds =
    let same : found.v ≡ v = (let is = found.is in cc) in
    register_put m s known now r v sound (ap (λ w. assigned_as m (is_truth w) r) (sym same) ∙ ap (λ b. assigned_as m b r) found.type ∙ type) adds

straight : (m : Module) (s : State) (known now : Thing → Bool) (r : ℕ) (value : Option Value) (truth : Bool) → IsSound m s known → IsValue value truth
    → ((flag : Bool) (x : ℕ) → is_among (if truth then (if flag then r ∷ [] else []) else (if flag then [] else r ∷ [])) x ≡ true → assigned_as m flag x ≡ true)
    → ((x : Thing) → now x ≡ true → (known x ≡ true) ⊎ (list_any (same_thing x) (TheRegister r ∷ []) ≡ true))
    → After (stored s r value) (λ s'. IsSound m s' now)
straight m s known now r value truth sound found types adds =
    value_stored m s known now r value truth sound found (types truth r (typed_here truth r)) (adds_single known now (TheRegister r) adds)

-- ---- calls

pub every_left : {A : Type 0} (p : A → Bool) (xs ys : List A) → list_all p (xs ++ ys) ≡ true → list_all p xs ≡ true
every_left p [] ys is = refl
every_left p (x ∷ xs) ys is = both (p x) (list_all p xs) (and_left (p x) (list_all p (xs ++ ys)) is) (every_left p xs ys (and_right (p x) (list_all p (xs ++ ys)) is))
  where
    both : (a b : Bool) → a ≡ true → b ≡ true → (a && b) ≡ true
    both true b e f = f
    both false b e f = e

pub every_right : {A : Type 0} (p : A → Bool) (xs ys : List A) → list_all p (xs ++ ys) ≡ true → list_all p ys ≡ true
every_right p [] ys is = is
every_right p (x ∷ xs) ys is = every_right p xs ys (and_right (p x) (list_all p (xs ++ ys)) is)

-- the first of a list that all pass
first_passes : (a : Bool) → (a && true) ≡ true → a ≡ true
first_passes a is = and_left a true is

arg_given : (m : Module) (s : State) (kind : Kind) (arg : Arg) → Passes m → IsTyped m s → takes kind arg ≡ true → AllByRecursion (IsReadable m s) (arg_operands arg)
    → list_all (λ k. nat_lt k (length m.labels)) (label_in arg) ≡ true → list_all (λ n. nat_eq n 0) (ids_where is_null (kind ∷ []) (arg ∷ [])) ≡ true
    → (g : Given) × (given (length m.labels) s kind arg ≡ Some g)
arg_given m s NumberKind (Number o) passes types fits readable labels nulls = let z = word_there m s o passes types readable.0 in (WordGiven z.0, ap word_given z.1)
arg_given m s TruthKind (Truth o) passes types fits readable labels nulls = let b = truth_there m s o passes types readable.0 in (TruthGiven b.0, ap truth_given b.1)
arg_given m s NullKind (Id zero) passes types fits readable labels nulls = (NullGiven, refl)
arg_given m s NullKind (Id (suc n)) passes types fits readable labels nulls = absurd (let wrong : suc n ≡ 0 = eqb-true (suc n) 0 (first_passes (nat_eq (suc n) 0) nulls) in omega arith)
arg_given m s QubitKind (Id n) passes types fits readable labels nulls = (IdGiven n, refl)
arg_given m s ResultKind (Id n) passes types fits readable labels nulls = (IdGiven n, refl)
arg_given m s LabelKind (Text k) passes types fits readable labels nulls = (LabelGiven k, ap (λ (b : Bool). if b then Some (LabelGiven k) else None) (first_passes (nat_lt k (length m.labels)) labels))
arg_given m s kind arg passes types fits readable labels nulls = absurd (let wrong : false ≡ true = fits in cc)

all_given_there : (m : Module) (s : State) (kinds : List Kind) (args : List Arg) → Passes m → IsTyped m s → takes_all kinds args ≡ true → AllByRecursion (IsReadable m s) (flat_map arg_operands args)
    → list_all (λ k. nat_lt k (length m.labels)) (flat_map label_in args) ≡ true → list_all (λ n. nat_eq n 0) (ids_where is_null kinds args) ≡ true
    → (gs : Givens) × (all_given (length m.labels) s kinds args ≡ Some gs)
all_given_there m s [] [] passes types fits readable labels nulls = ([], refl)
all_given_there m s [] (arg ∷ args) passes types fits readable labels nulls = absurd (let wrong : false ≡ true = fits in cc)
all_given_there m s (kind ∷ kinds) [] passes types fits readable labels nulls = absurd (let wrong : false ≡ true = fits in cc)
all_given_there m s (kind ∷ kinds) (arg ∷ args) passes types fits readable labels nulls =
    let here = (if is_null kind then id_in arg else []) in
    let first = arg_given m s kind arg passes types (and_left (takes kind arg) (takes_all kinds args) fits) (all_left (IsReadable m s) (arg_operands arg) (flat_map arg_operands args) readable)
    (every_left (λ k. nat_lt k (length m.labels)) (label_in arg) (flat_map label_in args) labels)
    (ap (λ (ns : List ℕ). list_all (λ n. nat_eq n 0) ns) (append-nil here) ∙ every_left (λ n. nat_eq n 0) here (ids_where is_null kinds args) nulls) in
    let rest = all_given_there m s kinds args passes types (and_right (takes kind arg) (takes_all kinds args) fits) (all_right (IsReadable m s) (arg_operands arg) (flat_map arg_operands args) readable)
    (every_right (λ k. nat_lt k (length m.labels)) (label_in arg) (flat_map label_in args) labels)
    (every_right (λ n. nat_eq n 0) here (ids_where is_null kinds args) nulls) in
    (first.0 ∷ rest.0, ap (λ o. with_front o (all_given (length m.labels) s kinds args)) first.1 ∙ ap (λ o. with_front (Some first.0) o) rest.1)

nothing_added : (m : Module) (s : State) (known now : Thing → Bool) → IsSound m s known → ((x : Thing) → now x ≡ true → (known x ≡ true) ⊎ (false ≡ true)) → IsSound m s now
nothing_added m s known now sound adds = record { types = sound.types; there = λ t is. elim (adds t is) [ inl a ↦ sound.there t a | inr a ↦ absurd (cc) ] }

-- ---- the calls of the table

pub record IsCall (m : Module) (s : State) (known now : Thing → Bool) (row : Option Row) (register : Option ℕ) (args : List Arg) : Type 0 where
  pub passes : Passes m
  pub sound : IsSound m s known
  pub fits : call_fits row register args ≡ true
  pub operands : AllByRecursion (IsReadable m s) (flat_map arg_operands args)
  pub labels : list_all (λ k. nat_lt k (length m.labels)) (flat_map label_in args) ≡ true
  pub results : list_all (has s) (map TheResult (read_by (task_of row) args)) ≡ true
  pub nulls : list_all (λ n. nat_eq n 0) (ids_where is_null (takes_of row) args) ≡ true
  pub types : (r : ℕ) → is_among (option_to_list register) r ≡ true → assigned_as m true r ≡ true
  pub adds : (x : Thing) → now x ≡ true → (known x ≡ true) ⊎ (list_any (same_thing x) (map TheRegister (option_to_list register) ++ map TheResult (measured_by (task_of row) args)) ≡ true)

-- what is given to the task of a row
call_given : (m : Module) (s : State) (known now : Thing → Bool) (row : Row) (register : Option ℕ) (args : List Arg) → IsCall m s known now (Some row) register args → (gs : Givens) × (all_given (length m.labels) s row.takes args ≡ Some gs)
call_given m s known now row register args c =
    all_given_there m s row.takes args c.passes c.sound.types (and_left (takes_all row.takes args) (if row.gives then is_some register else is_none register) c.fits) c.operands c.labels c.nulls

gate_called : (m : Module) (s : State) (known now : Thing → Bool) (row : Row) (gate : ℕ) (args : List Arg) → row.task ≡ ApplyGate gate → IsCall m s known now (Some row) None args
    → After (row_effect (length m.labels) s (Some row) None args) (λ s'. IsSound m s' now)
gate_called m s known now row gate args task c =
    let gs = call_given m s known now row None args c in
    subst (λ (e : Effect). After e (λ s'. IsSound m s' now)) (sym (ap (given_effect s row.task None) gs.1 ∙ ap (λ (t : Task). task_effect s t None gs.0) task))
    (nothing_added m s known now c.sound (λ x is. elim (c.adds x is) [ inl a ↦ inl a | inr a ↦ inr (ap (λ (t : Task). list_any (same_thing x) (map TheResult (measured_by (Some t) args))) (sym task) ∙ a) ]))

-- ---- arguments by their kinds

as_number : (arg : Arg) → takes NumberKind arg ≡ true → (o : Operand) × (arg ≡ Number o)
as_number (Number o) is = (o, refl)
as_number (Truth o) is = absurd (let wrong : false ≡ true = is in cc)
as_number (Id n) is = absurd (let wrong : false ≡ true = is in cc)
as_number (Text k) is = absurd (let wrong : false ≡ true = is in cc)

as_bit : (arg : Arg) → takes TruthKind arg ≡ true → (o : Operand) × (arg ≡ Truth o)
as_bit (Truth o) is = (o, refl)
as_bit (Number o) is = absurd (let wrong : false ≡ true = is in cc)
as_bit (Id n) is = absurd (let wrong : false ≡ true = is in cc)
as_bit (Text k) is = absurd (let wrong : false ≡ true = is in cc)

as_label : (arg : Arg) → takes LabelKind arg ≡ true → (k : ℕ) × (arg ≡ Text k)
as_label (Text k) is = (k, refl)
as_label (Number o) is = absurd (let wrong : false ≡ true = is in cc)
as_label (Truth o) is = absurd (let wrong : false ≡ true = is in cc)
as_label (Id n) is = absurd (let wrong : false ≡ true = is in cc)

as_null : (arg : Arg) → takes NullKind arg ≡ true → (n : ℕ) × (arg ≡ Id n)
as_null (Id n) is = (n, refl)
as_null (Number o) is = absurd (let wrong : false ≡ true = is in cc)
as_null (Truth o) is = absurd (let wrong : false ≡ true = is in cc)
as_null (Text k) is = absurd (let wrong : false ≡ true = is in cc)

as_qubit : (arg : Arg) → takes QubitKind arg ≡ true → (n : ℕ) × (arg ≡ Id n)
as_qubit (Id n) is = (n, refl)
as_qubit (Number o) is = absurd (let wrong : false ≡ true = is in cc)
as_qubit (Truth o) is = absurd (let wrong : false ≡ true = is in cc)
as_qubit (Text k) is = absurd (let wrong : false ≡ true = is in cc)

as_result : (arg : Arg) → takes ResultKind arg ≡ true → (n : ℕ) × (arg ≡ Id n)
as_result (Id n) is = (n, refl)
as_result (Number o) is = absurd (let wrong : false ≡ true = is in cc)
as_result (Truth o) is = absurd (let wrong : false ≡ true = is in cc)
as_result (Text k) is = absurd (let wrong : false ≡ true = is in cc)

record IsOne (k : Kind) (args : List Arg) : Type 0 where
  a : Arg
  are : args ≡ a ∷ []
  fits : takes k a ≡ true

one_arg : (k : Kind) (args : List Arg) → takes_all (k ∷ []) args ≡ true → IsOne k args
one_arg k [] is = absurd (let wrong : false ≡ true = is in cc)
one_arg k (a ∷ []) is = record { a = a; are = refl; fits = and_left (takes k a) true is }
one_arg k (a ∷ b ∷ rest) is = absurd (let wrong : false ≡ true = and_right (takes k a) false is in cc)

record IsTwo (k l : Kind) (args : List Arg) : Type 0 where
  a : Arg
  b : Arg
  are : args ≡ a ∷ b ∷ []
  fits_first : takes k a ≡ true
  fits_second : takes l b ≡ true

two_args : (k l : Kind) (args : List Arg) → takes_all (k ∷ l ∷ []) args ≡ true → IsTwo k l args
two_args k l [] is = absurd (let wrong : false ≡ true = is in cc)
two_args k l (a ∷ args) is =
    let rest = one_arg l args (and_right (takes k a) (takes_all (l ∷ []) args) is) in
    record { a = a; b = rest.a; are = ap (λ (others : List Arg). a ∷ others) rest.are; fits_first = and_left (takes k a) (takes_all (l ∷ []) args) is; fits_second = rest.fits }

-- ---- each function

abbrev There : Module → State → (Thing → Bool) → (Thing → Bool) → ℕ → Option ℕ → List Arg → Type 0
There m s known now place register args = IsCall m s known now (row_of place) register args → After (row_effect (length m.labels) s (row_of place) register args) (λ s'. IsSound m s' now)

initialize_there : (m : Module) (s : State) (known now : Thing → Bool) (n : ℕ) → There m s known now 0 None (Id n ∷ [])
initialize_there m s known now zero c = nothing_added m s known now c.sound c.adds
initialize_there m s known now (suc n) c = absurd (let wrong : suc n ≡ 0 = eqb-true (suc n) 0 (first_passes (nat_eq (suc n) 0) c.nulls) in omega arith)

read_there : (m : Module) (s : State) (known now : Thing → Bool) (r k : ℕ) → There m s known now 1 (Some r) (Id k ∷ [])
read_there m s known now r k c = by_outcome (s.results k) refl (first_passes (has s (TheResult k)) c.results)
  where
    by_outcome : (o : Option Bool) → s.results k ≡ o → is_some (s.results k) ≡ true → After (truth_read s r (s.results k)) (λ s'. IsSound m s' now)
    by_outcome None e some = absurd (let wrong : false ≡ true = sym (ap is_some e) ∙ some in cc)
    by_outcome (Some b) e some =
        subst (λ o. After (truth_read s r o) (λ s'. IsSound m s' now)) (sym e)
        (register_put m s known now r (Holds b) c.sound (c.types r (or_left (nat_eq r r) false (same_number r))) (adds_single known now (TheRegister r) c.adds))

word_record : (m : Module) (s : State) (known now : Thing → Bool) (task : Task) (o : Operand) (k : ℕ) → Passes m → IsTyped m s → IsReadable m s (o, false) → nat_lt k (length m.labels) ≡ true
    → ((z : ℤ) → After (task_effect s task None (WordGiven z ∷ LabelGiven k ∷ [])) (λ s'. IsSound m s' now))
    → After (given_effect s task None (all_given (length m.labels) s (NumberKind ∷ LabelKind ∷ []) (Number o ∷ Text k ∷ []))) (λ s'. IsSound m s' now)
word_record m s known now task o k passes types readable few done =
    let z = word_there m s o passes types readable in
    subst (λ (w : Option ℤ). After (given_effect s task None (with_front (word_given w) (with_front (if nat_lt k (length m.labels) then Some (LabelGiven k) else None) (Some [])))) (λ s'. IsSound m s' now)) (sym z.1)
    (subst (λ (b : Bool). After (given_effect s task None (with_front (Some (WordGiven z.0)) (with_front (if b then Some (LabelGiven k) else None) (Some [])))) (λ s'. IsSound m s' now)) (sym few) (done z.0))

bit_record : (m : Module) (s : State) (known now : Thing → Bool) (task : Task) (o : Operand) (k : ℕ) → Passes m → IsTyped m s → IsReadable m s (o, true) → nat_lt k (length m.labels) ≡ true
    → ((b : Bool) → After (task_effect s task None (TruthGiven b ∷ LabelGiven k ∷ [])) (λ s'. IsSound m s' now))
    → After (given_effect s task None (all_given (length m.labels) s (TruthKind ∷ LabelKind ∷ []) (Truth o ∷ Text k ∷ []))) (λ s'. IsSound m s' now)
bit_record m s known now task o k passes types readable few done =
    let z = truth_there m s o passes types readable in
    subst (λ (w : Option Bool). After (given_effect s task None (with_front (truth_given w) (with_front (if nat_lt k (length m.labels) then Some (LabelGiven k) else None) (Some [])))) (λ s'. IsSound m s' now)) (sym z.1)
    (subst (λ (b : Bool). After (given_effect s task None (with_front (Some (TruthGiven z.0)) (with_front (if b then Some (LabelGiven k) else None) (Some [])))) (λ s'. IsSound m s' now)) (sym few) (done z.0))

-- by the shape of the arguments
with_one : (m : Module) (s : State) (known now : Thing → Bool) (place : ℕ) (register : Option ℕ) (k : Kind) (args : List Arg) → takes_all (k ∷ []) args ≡ true
    → ((arg : Arg) → takes k arg ≡ true → There m s known now place register (arg ∷ [])) → There m s known now place register args
with_one m s known now place register k args fits done =
    let one = one_arg k args fits in subst (λ (xs : List Arg). There m s known now place register xs) (sym one.are) (done one.a one.fits)

with_two : (m : Module) (s : State) (known now : Thing → Bool) (place : ℕ) (register : Option ℕ) (k l : Kind) (args : List Arg) → takes_all (k ∷ l ∷ []) args ≡ true
    → ((a b : Arg) → takes k a ≡ true → takes l b ≡ true → There m s known now place register (a ∷ b ∷ [])) → There m s known now place register args
with_two m s known now place register k l args fits done =
    let two = two_args k l args fits in subst (λ (xs : List Arg). There m s known now place register xs) (sym two.are) (done two.a two.b two.fits_first two.fits_second)

no_register : (a : Bool) → (a && false) ≡ true → ⊥
no_register a is = let wrong : false ≡ true = and_right a false is in cc

pub few_gates : (i : ℕ) (row : Row) → row_of (suc (suc (suc (suc (suc (suc (suc i))))))) ≡ Some row → i < 30
few_gates i row e = let within : suc (suc (suc (suc (suc (suc (suc i)))))) < length rows = slice_get_within rows _ row e in let size : length rows ≡ 37 = refl in omega arith

pub gate_found : (i : ℕ) (row : Row) (e : row_of (suc (suc (suc (suc (suc (suc (suc i))))))) ≡ Some row) → (gate_at i (few_gates i row e)).found ≡ row
gate_found i row e = let g = gate_at i (few_gates i row e) in let is = g.is in cc

pub call_there : (m : Module) (s : State) (known now : Thing → Bool) (place : ℕ) (register : Option ℕ) (args : List Arg) → There m s known now place register args
call_there m s known now zero (Some r) args c = absurd (no_register (takes_all (NullKind ∷ []) args) c.fits)
call_there m s known now zero None args c =
    with_one m s known now 0 None NullKind args (and_left (takes_all (NullKind ∷ []) args) true c.fits)
    (λ arg fits. let id = as_null arg fits in subst (λ (x : Arg). There m s known now 0 None (x ∷ [])) (sym id.1) (initialize_there m s known now id.0)) c
call_there m s known now (suc zero) None args c = absurd (no_register (takes_all (ResultKind ∷ []) args) c.fits)
call_there m s known now (suc zero) (Some r) args c =
    with_one m s known now 1 (Some r) ResultKind args (and_left (takes_all (ResultKind ∷ []) args) true c.fits)
    (λ arg fits. let id = as_result arg fits in subst (λ (x : Arg). There m s known now 1 (Some r) (x ∷ [])) (sym id.1) (read_there m s known now r id.0)) c
call_there m s known now (suc (suc zero)) (Some r) args c = absurd (no_register (takes_all (NumberKind ∷ LabelKind ∷ []) args) c.fits)
call_there m s known now (suc (suc zero)) None args c =
    with_two m s known now 2 None NumberKind LabelKind args (and_left (takes_all (NumberKind ∷ LabelKind ∷ []) args) true c.fits)
    (λ a b fa fb. let x = as_number a fa in let y = as_label b fb in
    subst (λ (p : Arg). There m s known now 2 None (p ∷ b ∷ [])) (sym x.1) (subst (λ (q : Arg). There m s known now 2 None (Number x.0 ∷ q ∷ [])) (sym y.1)
    (λ d. word_record m s known now ArrayRecord x.0 y.0 d.passes d.sound.types d.operands.0 (first_passes (nat_lt y.0 (length m.labels)) d.labels) (λ z. nothing_added m s known now d.sound d.adds)))) c
call_there m s known now (suc (suc (suc zero))) (Some r) args c = absurd (no_register (takes_all (TruthKind ∷ LabelKind ∷ []) args) c.fits)
call_there m s known now (suc (suc (suc zero))) None args c =
    with_two m s known now 3 None TruthKind LabelKind args (and_left (takes_all (TruthKind ∷ LabelKind ∷ []) args) true c.fits)
    (λ a b fa fb. let x = as_bit a fa in let y = as_label b fb in
    subst (λ (p : Arg). There m s known now 3 None (p ∷ b ∷ [])) (sym x.1) (subst (λ (q : Arg). There m s known now 3 None (Truth x.0 ∷ q ∷ [])) (sym y.1)
    (λ d. bit_record m s known now BoolRecord x.0 y.0 d.passes d.sound.types d.operands.0 (first_passes (nat_lt y.0 (length m.labels)) d.labels) (λ z. nothing_added m s known now d.sound d.adds)))) c
call_there m s known now (suc (suc (suc (suc zero)))) (Some r) args c = absurd (no_register (takes_all (NumberKind ∷ LabelKind ∷ []) args) c.fits)
call_there m s known now (suc (suc (suc (suc zero)))) None args c =
    with_two m s known now 4 None NumberKind LabelKind args (and_left (takes_all (NumberKind ∷ LabelKind ∷ []) args) true c.fits)
    (λ a b fa fb. let x = as_number a fa in let y = as_label b fb in
    subst (λ (p : Arg). There m s known now 4 None (p ∷ b ∷ [])) (sym x.1) (subst (λ (q : Arg). There m s known now 4 None (Number x.0 ∷ q ∷ [])) (sym y.1)
    (λ d. word_record m s known now IntRecord x.0 y.0 d.passes d.sound.types d.operands.0 (first_passes (nat_lt y.0 (length m.labels)) d.labels) (λ z. nothing_added m s known now d.sound d.adds)))) c
call_there m s known now (suc (suc (suc (suc (suc zero))))) (Some r) args c = absurd (no_register (takes_all (QubitKind ∷ []) args) c.fits)
call_there m s known now (suc (suc (suc (suc (suc zero))))) None args c =
    with_one m s known now 5 None QubitKind args (and_left (takes_all (QubitKind ∷ []) args) true c.fits)
    (λ arg fits. let id = as_qubit arg fits in subst (λ (x : Arg). There m s known now 5 None (x ∷ [])) (sym id.1) (λ d. nothing_added m s known now d.sound d.adds)) c
call_there m s known now (suc (suc (suc (suc (suc (suc zero)))))) (Some r) args c = absurd (no_register (takes_all (QubitKind ∷ ResultKind ∷ []) args) c.fits)
call_there m s known now (suc (suc (suc (suc (suc (suc zero)))))) None args c =
    with_two m s known now 6 None QubitKind ResultKind args (and_left (takes_all (QubitKind ∷ ResultKind ∷ []) args) true c.fits)
    (λ a b fa fb. let x = as_qubit a fa in let y = as_result b fb in
    subst (λ (p : Arg). There m s known now 6 None (p ∷ b ∷ [])) (sym x.1) (subst (λ (q : Arg). There m s known now 6 None (Id x.0 ∷ q ∷ [])) (sym y.1)
    (λ d. λ outcome. result_put m s known now y.0 outcome d.sound (adds_single known now (TheResult y.0) d.adds)))) c
call_there m s known now (suc (suc (suc (suc (suc (suc (suc i))))))) register args c = by_row (row_of (suc (suc (suc (suc (suc (suc (suc i)))))))) refl register c
  where
    by_row : (row : Option Row) → row_of (suc (suc (suc (suc (suc (suc (suc i))))))) ≡ row → (reg : Option ℕ) → IsCall m s known now row reg args → After (row_effect (length m.labels) s row reg args) (λ s'. IsSound m s' now)
    by_row None e reg d = absurd (let wrong : false ≡ true = d.fits in cc)
    by_row (Some row) e None d = gate_called m s known now row i args (ap (λ (x : Row). x.task) (sym (gate_found i row e)) ∙ (gate_at i (few_gates i row e)).task) d
    by_row (Some row) e (Some r) d = absurd (no_register (takes_all row.takes args) (ap (λ (gives : Bool). takes_all row.takes args && (if gives then true else false)) (sym (ap (λ (x : Row). x.gives) (sym (gate_found i row e)) ∙ (gate_at i (few_gates i row e)).gives)) ∙ d.fits))

-- ---- any instruction

pub instruction_there : (m : Module) (s : State) (known now : Thing → Bool) (instr : Instr) → Passes m → IsMet m s known now instr → After (effect_of (length m.labels) s instr) (λ s'. IsSound m s' now)
instruction_there m s known now (Op r op truth left right) passes met =
    straight m s known now r _ (truth || compares op) met.sound
    (op_there m s op truth left right passes met.sound.types met.shaped.1 (and_left (divisor_fits op right) (amount_fits op right) met.constants) (and_right (divisor_fits op right) (amount_fits op right) met.constants) met.operands.0 met.operands.1.0)
    met.types met.adds
instruction_there m s known now (Zext r from) passes met = straight m s known now r _ false met.sound (extended_there m s from passes met.sound.types met.operands.0) met.types met.adds
instruction_there m s known now (Trunc r from) passes met = straight m s known now r _ true met.sound (truncated_there m s from passes met.sound.types met.operands.0) met.types met.adds
instruction_there m s known now (Select r truth test chosen other) passes met =
    straight m s known now r _ truth met.sound (selected_there m s truth test chosen other passes met.sound.types met.operands.0 met.operands.1.0 met.operands.1.1.0) met.types met.adds
instruction_there m s known now (Call register function args) passes met =
    call_there m s known now function.0 register args (record {
      passes = passes;
      sound = met.sound;
      fits = met.fits;
      operands = met.operands;
      labels = met.labels;
      results = met.results;
      nulls = met.nulls;
      types = λ r is. met.types true r is;
      adds = met.adds;
    })
