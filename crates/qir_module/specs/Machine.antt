-- The run of a module on a machine that measures in mid-program: its registers hold words of 64 bits and
-- truth values, and its results the outcomes of measurements. Instructions mean what the LLVM Language
-- Reference says: results wrap, all phis of a block take their values at once, `lshr` and the forms with u
-- read words as unsigned, `ashr` and the forms with s as signed.
use Rattle.std.specs.Prelude.{ℕ, zero, suc, ◌+◌, ◌*◌, ◌/◌, ◌%◌, ◌^◌, nat_eq, nat_lt, if◌then◌else◌, Bool, true, false, ◌&&◌, ◌||◌, not, List, [], ◌∷◌, ◌++◌, length, take, replicate, ℤ, pos, negsuc, int_div, int_rem, int_lt, int_le, Option, Some, None, slice_get}
use Rattle.std.specs.Int.{w64, cast_signed, cast_unsigned, int_wrapping_add, int_wrapping_sub, int_wrapping_mul, int_bit_and, int_bit_or, int_bit_xor, int_shl, int_shr}
use Rattle.qq_base.specs.declared.run.QubitId.{QubitId}
use Rattle.qq_base.specs.declared.run.Event.{Event}
use Rattle.qq_base.specs.declared.run.Event.TheVariants.{Gate, Reset, Measure}
use Rattle.qq_base.specs.declared.run.Record.{Record}
use Rattle.qq_base.specs.declared.run.Record.TheVariants.{Array, Int}
use Rattle.qq_base.specs.declared.run.Record.TheVariants.{Bool as BoolRecordOf}
use Rattle.qq_base.specs.Seen.{Seen, Ended, Stuck, only, event_then, record_then, with_outcome, with_turn}
use Rattle.qir_module.specs.declared.instruction.Operand.{Operand}
use Rattle.qir_module.specs.declared.instruction.Operand.TheVariants.{Register, Fixed}
use Rattle.qir_module.specs.declared.instruction.Opcode.{Opcode}
use Rattle.qir_module.specs.declared.instruction.Opcode.TheVariants.{Add, Sub, Mul, Sdiv, Srem, Udiv, Urem, Shl, Lshr, Ashr, And, Or, Xor, Eq, Ne, Slt, Sle, Sgt, Sge, Ult, Ule, Ugt, Uge}
use Rattle.qir_module.specs.declared.instruction.Arg.{Arg}
use Rattle.qir_module.specs.declared.instruction.Arg.TheVariants.{Number, Truth, Id, Text}
use Rattle.qir_module.specs.declared.instruction.Instr.{Instr}
use Rattle.qir_module.specs.declared.instruction.Instr.TheVariants.{Op, Zext, Trunc, Select, Call}
use Rattle.qir_module.specs.declared.instruction.Last.{Last}
use Rattle.qir_module.specs.declared.instruction.Last.TheVariants.{Jump, Branch, Return}
use Rattle.qir_module.specs.declared.block.Phi.{Phi}
use Rattle.qir_module.specs.declared.block.Block.{Block}
use Rattle.qir_module.specs.Module.{Module}
use Rattle.qir_module.specs.Functions.{Kind, NumberKind, TruthKind, NullKind, QubitKind, ResultKind, LabelKind, Task, Initialize, ReadResult, ArrayRecord, BoolRecord, IntRecord, ResetQubit, MeasureQubit, ApplyGate, Row, row_of}

-- ---- values

-- what a register holds: a word of 64 bits, seen as a signed number, or a truth value
pub data Value : Type 0 where
  Word : (z : ℤ) → Value
  Holds : (b : Bool) → Value

-- a place that nothing was stored in yet is None
pub record State : Type 0 where
  pub registers : ℕ → Option Value
  pub results : ℕ → Option Bool

abbrev pub first_state : State
first_state = record { registers = λ r. None; results = λ k. None }

abbrev pub with_register : State → ℕ → Value → State
with_register s r v = record s { registers = λ x. if nat_eq x r then Some v else s.registers x }

abbrev pub with_result : State → ℕ → Bool → State
with_result s k b = record s { results = λ x. if nat_eq x k then Some b else s.results x }

abbrev pub word_of : Option Value → Option ℤ
word_of (Some (Word z)) = Some z
word_of (Some (Holds b)) = None
word_of None = None

abbrev pub truth_of : Option Value → Option Bool
truth_of (Some (Holds b)) = Some b
truth_of (Some (Word z)) = None
truth_of None = None

-- a fixed truth value is 0 or 1
abbrev pub fixed_truth : ℤ → Option Bool
fixed_truth (pos zero) = Some false
fixed_truth (pos (suc zero)) = Some true
fixed_truth (pos (suc (suc n))) = None
fixed_truth (negsuc n) = None

-- the operand as a word
abbrev pub word_in : State → Operand → Option ℤ
word_in s (Register r) = word_of (s.registers r)
word_in s (Fixed z) = Some z

-- the operand as a truth value
abbrev pub truth_in : State → Operand → Option Bool
truth_in s (Register r) = truth_of (s.registers r)
truth_in s (Fixed z) = fixed_truth z

-- the operand as a value of the type that the flag says: a truth value or a word
abbrev pub as_word : Option ℤ → Option Value
as_word None = None
as_word (Some z) = Some (Word z)

abbrev pub as_truth : Option Bool → Option Value
as_truth None = None
as_truth (Some b) = Some (Holds b)

abbrev pub value_in : State → Bool → Operand → Option Value
value_in s true operand = as_truth (truth_in s operand)
value_in s false operand = as_word (word_in s operand)

-- ---- binary instructions

-- the word whose value, read as unsigned, is n modulo 2^64
abbrev pub unsigned_word : ℕ → Value
unsigned_word n = Word (cast_signed w64 (n % 2 ^ 64))

-- a divisor is 1 or more
abbrev pub if_divisor : ℤ → Value → Option Value
if_divisor (pos (suc n)) v = Some v
if_divisor (pos zero) v = None
if_divisor (negsuc n) v = None

-- a shift is by 0 to 63 places
abbrev pub if_amount : ℤ → (ℕ → Value) → Option Value
if_amount (pos n) shifted = if nat_lt n 64 then Some (shifted n) else None
if_amount (negsuc n) shifted = None

abbrev pub unsigned_lt : ℤ → ℤ → Bool
unsigned_lt x y = nat_lt (cast_unsigned w64 x) (cast_unsigned w64 y)

abbrev pub same_word : ℤ → ℤ → Bool
same_word x y = nat_eq (cast_unsigned w64 x) (cast_unsigned w64 y)

abbrev pub on_words : Opcode → ℤ → ℤ → Option Value
on_words Add x y = Some (Word (int_wrapping_add w64 x y))
on_words Sub x y = Some (Word (int_wrapping_sub w64 x y))
on_words Mul x y = Some (Word (int_wrapping_mul w64 x y))
on_words Sdiv x y = if_divisor y (Word (int_div x y))
on_words Srem x y = if_divisor y (Word (int_rem x y))
on_words Udiv x y = if_divisor y (unsigned_word (cast_unsigned w64 x / cast_unsigned w64 y))
on_words Urem x y = if_divisor y (unsigned_word (cast_unsigned w64 x % cast_unsigned w64 y))
on_words Shl x y = if_amount y (λ n. Word (int_shl w64 x n))
on_words Lshr x y = if_amount y (λ n. unsigned_word (cast_unsigned w64 x / 2 ^ n))
on_words Ashr x y = if_amount y (λ n. Word (int_shr x n))
on_words And x y = Some (Word (int_bit_and w64 x y))
on_words Or x y = Some (Word (int_bit_or w64 x y))
on_words Xor x y = Some (Word (int_bit_xor w64 x y))
on_words Eq x y = Some (Holds (same_word x y))
on_words Ne x y = Some (Holds (not (same_word x y)))
on_words Slt x y = Some (Holds (int_lt x y))
on_words Sle x y = Some (Holds (int_le x y))
on_words Sgt x y = Some (Holds (int_lt y x))
on_words Sge x y = Some (Holds (int_le y x))
on_words Ult x y = Some (Holds (unsigned_lt x y))
on_words Ule x y = Some (Holds (not (unsigned_lt y x)))
on_words Ugt x y = Some (Holds (unsigned_lt y x))
on_words Uge x y = Some (Holds (not (unsigned_lt x y)))

abbrev pub differ : Bool → Bool → Bool
differ a b = if a then not b else b

abbrev pub on_truths : Opcode → Bool → Bool → Option Value
on_truths And a b = Some (Holds (a && b))
on_truths Or a b = Some (Holds (a || b))
on_truths Xor a b = Some (Holds (differ a b))
on_truths _ a b = None

abbrev pub with_both : {A B : Type 0} → Option A → Option A → (A → A → Option B) → Option B
with_both (Some x) (Some y) f = f x y
with_both (Some x) None f = None
with_both None other f = None

abbrev pub op_value : State → Opcode → Bool → Operand → Operand → Option Value
op_value s op true left right = with_both (truth_in s left) (truth_in s right) (on_truths op)
op_value s op false left right = with_both (word_in s left) (word_in s right) (on_words op)

abbrev pub extended : Option Bool → Option Value
extended None = None
extended (Some b) = Some (Word (if b then pos 1 else pos 0))

abbrev pub truncated : Option ℤ → Option Value
truncated None = None
truncated (Some z) = Some (Holds (nat_eq (cast_unsigned w64 z % 2) 1))

-- both are read, whichever is taken
abbrev pub selected : Option Bool → Option Value → Option Value → Option Value
selected None a b = None
selected (Some test) a b = with_both a b (λ x y. Some (if test then x else y))

-- ---- calls

-- what a call is given, once its arguments are read
pub data Given : Type 0 where
  WordGiven : (z : ℤ) → Given
  TruthGiven : (b : Bool) → Given
  NullGiven : Given
  IdGiven : (n : ℕ) → Given
  LabelGiven : (n : ℕ) → Given

abbrev pub word_given : Option ℤ → Option Given
word_given None = None
word_given (Some z) = Some (WordGiven z)

abbrev pub truth_given : Option Bool → Option Given
truth_given None = None
truth_given (Some b) = Some (TruthGiven b)

abbrev pub null_given : ℕ → Option Given
null_given zero = Some NullGiven
null_given (suc n) = None

-- an argument of a kind, where there are so many labels
abbrev pub given : ℕ → State → Kind → Arg → Option Given
given labels s NumberKind (Number operand) = word_given (word_in s operand)
given labels s TruthKind (Truth operand) = truth_given (truth_in s operand)
given labels s NullKind (Id n) = null_given n
given labels s QubitKind (Id n) = Some (IdGiven n)
given labels s ResultKind (Id n) = Some (IdGiven n)
given labels s LabelKind (Text n) = if nat_lt n labels then Some (LabelGiven n) else None
given labels s _ _ = None

abbrev pub with_front : {A : Type 0} → Option A → Option (List A) → Option (List A)
with_front (Some x) (Some xs) = Some (x ∷ xs)
with_front (Some x) None = None
with_front None others = None

-- all arguments by the kinds of the function's row, or None where one cannot be read or the kinds differ
abbrev pub all_given : ℕ → State → List Kind → List Arg → Option (List Given)
all_given labels s [] [] = Some []
all_given labels s (kind ∷ kinds) (arg ∷ args) = with_front (given labels s kind arg) (all_given labels s kinds args)
all_given labels s [] (arg ∷ args) = None
all_given labels s (kind ∷ kinds) [] = None

-- What an instruction does: it goes on in a state, behind an event or a record where there is one; or it
-- measures a qubit into a result; or the machine is stuck at it.
pub data Effect : Type 0 where
  Goes : (s : State) → Effect
  Does : (event : Event) (s : State) → Effect
  Shows : (shown : Record) (s : State) → Effect
  Measures : (qubit result : ℕ) (s : State) → Effect
  Fails : Effect

-- the arguments of an event: n of them, 0 behind those that are there
abbrev pub padded : {A : Type 0} → ℕ → A → List A → List A
padded n x xs = take n (xs ++ replicate n x)

abbrev pub units_in : List Given → List ℤ
units_in [] = []
units_in (WordGiven z ∷ others) = z ∷ units_in others
units_in (_ ∷ others) = units_in others

abbrev pub qubits_in : List Given → List QubitId
qubits_in [] = []
qubits_in (IdGiven n ∷ others) = record { 0 = n } ∷ qubits_in others
qubits_in (_ ∷ others) = qubits_in others

abbrev pub gate_event : ℕ → List Given → Event
gate_event gate args = Gate (record { 0 = gate }) (padded 4 (pos 0) (units_in args)) (padded 3 (record { 0 = 0 }) (qubits_in args))

abbrev pub truth_read : State → ℕ → Option Bool → Effect
truth_read s r None = Fails
truth_read s r (Some b) = Goes (with_register s r (Holds b))

-- a call of a task, with the register that takes its value, if one is named
abbrev pub task_effect : State → Task → Option ℕ → List Given → Effect
task_effect s Initialize None (NullGiven ∷ []) = Goes s
task_effect s ReadResult (Some r) (IdGiven k ∷ []) = truth_read s r (s.results k)
-- the low 32 bits of the word are the size
task_effect s ArrayRecord None (WordGiven z ∷ LabelGiven l ∷ []) = Shows (Array l (cast_unsigned w64 z % 2 ^ 32)) s
task_effect s BoolRecord None (TruthGiven b ∷ LabelGiven l ∷ []) = Shows (BoolRecordOf l b) s
task_effect s IntRecord None (WordGiven z ∷ LabelGiven l ∷ []) = Shows (Int l z) s
task_effect s ResetQubit None (IdGiven q ∷ []) = Does (Reset (record { 0 = q })) s
task_effect s MeasureQubit None (IdGiven q ∷ IdGiven k ∷ []) = Measures q k s
task_effect s (ApplyGate gate) None args = Does (gate_event gate args) s
task_effect s _ _ _ = Fails

abbrev pub given_effect : State → Task → Option ℕ → Option (List Given) → Effect
given_effect s task register None = Fails
given_effect s task register (Some args) = task_effect s task register args

abbrev pub row_effect : ℕ → State → Option Row → Option ℕ → List Arg → Effect
row_effect labels s None register args = Fails
row_effect labels s (Some row) register args = given_effect s row.task register (all_given labels s row.takes args)

abbrev pub stored : State → ℕ → Option Value → Effect
stored s r None = Fails
stored s r (Some v) = Goes (with_register s r v)

-- one instruction, where there are so many labels
abbrev pub effect_of : ℕ → State → Instr → Effect
effect_of labels s (Op r op truth left right) = stored s r (op_value s op truth left right)
effect_of labels s (Zext r from) = stored s r (extended (truth_in s from))
effect_of labels s (Trunc r from) = stored s r (truncated (word_in s from))
effect_of labels s (Select r truth test chosen other) = stored s r (selected (truth_in s test) (value_in s truth chosen) (value_in s truth other))
effect_of labels s (Call register function args) = row_effect labels s (row_of function.0) register args

-- ---- runs

-- what remains of a run: from the state, the outcomes that are left and the turns that are left
abbrev pub Later : Type 0
Later = State → List Bool → ℕ → Seen

abbrev pub behind : Effect → Later → List Bool → ℕ → Seen
behind (Goes s) later outcomes turns = later s outcomes turns
behind (Does event s) later outcomes turns = event_then event (later s outcomes turns)
behind (Shows shown s) later outcomes turns = record_then shown (later s outcomes turns)
behind (Measures qubit result s) later outcomes turns =
    with_outcome outcomes (λ outcome others. event_then (Measure (record { 0 = qubit }) outcome) (later (with_result s result outcome) others turns))
behind Fails later outcomes turns = only Stuck

abbrev pub branched : Option Bool → Later → Later → Later
branched None first second s outcomes turns = only Stuck
branched (Some true) first second s outcomes turns = first s outcomes turns
branched (Some false) first second s outcomes turns = second s outcomes turns

-- the last instruction of a block, where `jump` is what a jump to a block of a name does
abbrev pub run_last : (ℕ → Later) → Last → Later
run_last jump (Jump to) s outcomes turns = jump to s outcomes turns
run_last jump (Branch test first second) s outcomes turns = branched (truth_in s test) (jump first) (jump second) s outcomes turns
run_last jump (Return code) s outcomes turns = only Ended

-- the instructions that are left of a block, and its last one
abbrev pub run_rest : ℕ → (ℕ → Later) → List Instr → Last → Later
run_rest labels jump [] last s outcomes turns = run_last jump last s outcomes turns
run_rest labels jump (instr ∷ instrs) last s outcomes turns = behind (effect_of labels s instr) (run_rest labels jump instrs last) outcomes turns

-- the operand that a phi takes from the block of a name; a run's first block is entered from none
abbrev pub entry_from : List (Operand × ℕ) → Option ℕ → Option Operand
entry_from entries None = None
entry_from [] (Some from) = None
entry_from (entry ∷ entries) (Some from) = if nat_eq entry.1 from then Some entry.0 else entry_from entries (Some from)

abbrev pub phi_value : State → Phi → Option Operand → Option Value
phi_value s p None = None
phi_value s p (Some operand) = value_in s (not p.number) operand

abbrev pub with_phi : Option State → ℕ → Option Value → Option State
with_phi (Some s) r (Some v) = Some (with_register s r v)
with_phi (Some s) r None = None
with_phi None r value = None

-- all phis at once: each reads the state as it was before them
abbrev pub take_phis : List Phi → Option ℕ → State → Option State
take_phis [] from old = Some old
take_phis (p ∷ ps) from old = with_phi (take_phis ps from old) p.register (phi_value old p (entry_from p.entries from))

abbrev pub after_phis : Option State → (State → Seen) → Seen
after_phis None go = only Stuck
after_phis (Some s) go = go s

-- the place of the first block of a name
abbrev pub place_from : ℕ → List Block → ℕ → Option ℕ
place_from k [] name = None
place_from k (b ∷ blocks) name = if nat_eq b.name name then Some k else place_from (suc k) blocks name

abbrev pub place_of : List Block → ℕ → Option ℕ
place_of blocks name = place_from 0 blocks name

-- a jump forwards, or one that spends a turn
abbrev pub jumped : Bool → Later → Later
jumped true enter s outcomes turns = enter s outcomes turns
jumped false enter s outcomes turns = with_turn turns (enter s outcomes)

-- a jump from one place to another: one to a block that does not stand later spends a turn
abbrev pub jump_to : (ℕ → Later) → ℕ → Option ℕ → Later
jump_to enter from None s outcomes turns = only Stuck
jump_to enter from (Some to) s outcomes turns = jumped (nat_lt from to) (enter to) s outcomes turns

-- A block at a place. `enter` is what entering a block does, behind the name of the block that is left, if any.
abbrev pub run_block : Module → (Option ℕ → ℕ → Later) → Option ℕ → ℕ → Option Block → Later
run_block m enter from place None s outcomes turns = only Stuck
run_block m enter from place (Some b) s outcomes turns =
    after_phis (take_phis b.phis from s) (λ s'.
    run_rest (length m.labels) (λ name. jump_to (enter (Some b.name)) place (place_of m.blocks name)) b.body b.last s' outcomes turns)

-- entering the block at a place, from the block of a name, if any, where at most so many blocks are entered
abbrev pub run_from : Module → ℕ → Option ℕ → ℕ → Later
run_from m zero from place s outcomes turns = only Stuck
run_from m (suc bound) from place s outcomes turns = run_block m (run_from m bound) from place (slice_get m.blocks place) s outcomes turns

-- The run of a module. Each block is entered at most once before each turn and once behind the last, so
-- the bound on entered blocks never ends a run.
abbrev pub machine_run : Module → List Bool → ℕ → Seen
machine_run m outcomes turns = run_from m ((turns + 1) * length m.blocks) None 0 first_state outcomes turns
