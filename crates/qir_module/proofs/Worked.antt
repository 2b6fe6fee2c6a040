-- The definitions of this crate at three modules that are written out by hand: their canonical texts, the
-- order of their numbers, and the runs of the last of them, which prepares a Bell pair and measures it.
use Rattle.std.specs.Prelude.{◌≡◌, refl, ℕ, Bool, false, List, [], ◌∷◌, ◌++◌, pos, Some, None, codes}
use Prim.Native.String.{String}
use Rattle.std.specs.Fmt.{digits}
use Rattle.std.proofs.Common.{ap, arith, suc, ◌+◌, ◌*◌}
use Rattle.qq_base.specs.declared.run.QubitId.{QubitId}
use Rattle.qq_base.specs.declared.run.Event.{Event}
use Rattle.qq_base.specs.declared.run.Event.TheVariants.{Gate, Measure}
use Rattle.qq_base.specs.declared.run.Record.TheVariants.{Array}
use Rattle.qq_base.specs.declared.run.Record.TheVariants.{Bool as BoolRecord}
use Rattle.qq_base.specs.Seen.{Ended, Asked}
use Rattle.qir_module.specs.declared.instruction.Operand.TheVariants.{Register}
use Rattle.qir_module.specs.declared.instruction.Arg.{Arg}
use Rattle.qir_module.specs.declared.instruction.Arg.TheVariants.{Number, Truth, Id, Text}
use Rattle.qir_module.specs.declared.instruction.Operand.TheVariants.{Fixed}
use Rattle.qir_module.specs.declared.instruction.Instr.{Instr}
use Rattle.qir_module.specs.declared.instruction.Instr.TheVariants.{Call}
use Rattle.qir_module.specs.declared.instruction.Last.TheVariants.{Return}
use Rattle.qir_module.specs.declared.function.Function.{Function}
use Rattle.qir_module.specs.declared.profile.Profile.TheVariants.{Adaptive}
use Rattle.qir_module.specs.Module.{Module}
use Rattle.qir_module.specs.Text.{line}
use Rattle.qir_module.specs.Written.{written}
use Rattle.qir_module.specs.Numbered.{IsNumbered}
use Rattle.qir_module.specs.Machine.{first_state, run_from, machine_run}
use Rattle.qir_module.specs.Items.{items_of}

-- the lines of a text
abbrev pub text_of : List String → List ℕ
text_of [] = []
text_of (l ∷ ls) = line (codes l) ++ text_of ls

abbrev pub function : ℕ → Function
function n = record { 0 = n }

abbrev pub call : ℕ → List Arg → Instr
call n args = Call None (function n) args

abbrev pub read : ℕ → ℕ → Instr
read r k = Call (Some r) (function 1) (Id k ∷ [])

abbrev one_block : List (List ℕ) → List Instr → List ℕ → ℕ → ℕ → Module
one_block labels body declared qubits results = record {
  labels = labels;
  blocks = record { name = 0; phis = []; body = body; last = Return (pos 0) } ∷ [];
  declarations = functions declared;
  profile = Adaptive;
  qubits = qubits;
  results = results;
  major = 2;
  minor = 0;
  dynamic_qubits = false;
  dynamic_results = false;
}
  where
    functions : List ℕ → List Function
    functions [] = []
    functions (n ∷ ns) = function n ∷ functions ns

-- ---- the modules

-- one qubit, a Hadamard gate and a measurement
abbrev coin : Module
coin = one_block
    ((codes "c" ++ 0 ∷ []) ∷ [])
    (call 0 (Id 0 ∷ []) ∷ call 10 (Id 0 ∷ []) ∷ call 6 (Id 0 ∷ Id 0 ∷ []) ∷ read 0 0 ∷ call 3 (Truth (Register 0) ∷ Text 0 ∷ []) ∷ [])
    (0 ∷ 1 ∷ 3 ∷ 6 ∷ 10 ∷ []) 1 1

-- nothing at all
abbrev nothing : Module
nothing = one_block [] (call 0 (Id 0 ∷ []) ∷ []) (0 ∷ []) 0 0

-- a Bell pair, measured
abbrev pub bell_pair : Module
bell_pair = one_block
    ((codes "c" ++ 0 ∷ []) ∷ (codes "c[0]" ++ 0 ∷ []) ∷ (codes "c[1]" ++ 0 ∷ []) ∷ [])
    (call 0 (Id 0 ∷ []) ∷ call 10 (Id 0 ∷ []) ∷ call 22 (Id 0 ∷ Id 1 ∷ [])
    ∷ call 6 (Id 0 ∷ Id 0 ∷ []) ∷ read 0 0 ∷ call 6 (Id 1 ∷ Id 1 ∷ []) ∷ read 1 1
    ∷ call 2 (Number (Fixed (pos 2)) ∷ Text 0 ∷ []) ∷ call 3 (Truth (Register 0) ∷ Text 1 ∷ []) ∷ call 3 (Truth (Register 1) ∷ Text 2 ∷ []) ∷ [])
    (0 ∷ 1 ∷ 2 ∷ 3 ∷ 6 ∷ 10 ∷ 22 ∷ []) 2 2

-- ---- their texts

pub written_coin : written coin ≡ text_of (
    "@0 = internal constant [2 x i8] c\"c\\00\"" ∷
    "" ∷
    "define i64 @main() #0 {" ∷
    "b0:" ∷
    "  call void @__quantum__rt__initialize(ptr null)" ∷
    "  call void @__quantum__qis__h__body(ptr null)" ∷
    "  call void @__quantum__qis__mz__body(ptr null, ptr null)" ∷
    "  %r0 = call i1 @__quantum__rt__read_result(ptr null)" ∷
    "  call void @__quantum__rt__bool_record_output(i1 %r0, ptr @0)" ∷
    "  ret i64 0" ∷
    "}" ∷
    "" ∷
    "declare void @__quantum__rt__initialize(ptr)" ∷
    "declare i1 @__quantum__rt__read_result(ptr)" ∷
    "declare void @__quantum__rt__bool_record_output(i1, ptr)" ∷
    "declare void @__quantum__qis__mz__body(ptr, ptr) #1" ∷
    "declare void @__quantum__qis__h__body(ptr)" ∷
    "" ∷
    "attributes #0 = { \"entry_point\" \"qir_profiles\"=\"adaptive_profile\" \"output_labeling_schema\"=\"labeled\" \"required_num_qubits\"=\"1\" \"required_num_results\"=\"1\" }" ∷
    "attributes #1 = { \"irreversible\" }" ∷
    "" ∷
    "!llvm.module.flags = !{!0, !1, !2, !3}" ∷
    "" ∷
    "!0 = !{i32 1, !\"qir_major_version\", i32 2}" ∷
    "!1 = !{i32 7, !\"qir_minor_version\", i32 0}" ∷
    "!2 = !{i32 1, !\"dynamic_qubit_management\", i1 false}" ∷
    "!3 = !{i32 1, !\"dynamic_result_management\", i1 false}" ∷ [])
unfolding digits
written_coin = refl

pub written_nothing : written nothing ≡ text_of (
    "define i64 @main() #0 {" ∷
    "b0:" ∷
    "  call void @__quantum__rt__initialize(ptr null)" ∷
    "  ret i64 0" ∷
    "}" ∷
    "" ∷
    "declare void @__quantum__rt__initialize(ptr)" ∷
    "" ∷
    "attributes #0 = { \"entry_point\" \"qir_profiles\"=\"adaptive_profile\" \"output_labeling_schema\"=\"labeled\" \"required_num_qubits\"=\"0\" \"required_num_results\"=\"0\" }" ∷
    "attributes #1 = { \"irreversible\" }" ∷
    "" ∷
    "!llvm.module.flags = !{!0, !1, !2, !3}" ∷
    "" ∷
    "!0 = !{i32 1, !\"qir_major_version\", i32 2}" ∷
    "!1 = !{i32 7, !\"qir_minor_version\", i32 0}" ∷
    "!2 = !{i32 1, !\"dynamic_qubit_management\", i1 false}" ∷
    "!3 = !{i32 1, !\"dynamic_result_management\", i1 false}" ∷ [])
unfolding digits
written_nothing = refl

pub written_bell_pair : written bell_pair ≡ text_of (
    "@0 = internal constant [2 x i8] c\"c\\00\"" ∷
    "@1 = internal constant [5 x i8] c\"c[0]\\00\"" ∷
    "@2 = internal constant [5 x i8] c\"c[1]\\00\"" ∷
    "" ∷
    "define i64 @main() #0 {" ∷
    "b0:" ∷
    "  call void @__quantum__rt__initialize(ptr null)" ∷
    "  call void @__quantum__qis__h__body(ptr null)" ∷
    "  call void @__quantum__qis__cx__body(ptr null, ptr inttoptr (i64 1 to ptr))" ∷
    "  call void @__quantum__qis__mz__body(ptr null, ptr null)" ∷
    "  %r0 = call i1 @__quantum__rt__read_result(ptr null)" ∷
    "  call void @__quantum__qis__mz__body(ptr inttoptr (i64 1 to ptr), ptr inttoptr (i64 1 to ptr))" ∷
    "  %r1 = call i1 @__quantum__rt__read_result(ptr inttoptr (i64 1 to ptr))" ∷
    "  call void @__quantum__rt__array_record_output(i64 2, ptr @0)" ∷
    "  call void @__quantum__rt__bool_record_output(i1 %r0, ptr @1)" ∷
    "  call void @__quantum__rt__bool_record_output(i1 %r1, ptr @2)" ∷
    "  ret i64 0" ∷
    "}" ∷
    "" ∷
    "declare void @__quantum__rt__initialize(ptr)" ∷
    "declare i1 @__quantum__rt__read_result(ptr)" ∷
    "declare void @__quantum__rt__array_record_output(i64, ptr)" ∷
    "declare void @__quantum__rt__bool_record_output(i1, ptr)" ∷
    "declare void @__quantum__qis__mz__body(ptr, ptr) #1" ∷
    "declare void @__quantum__qis__h__body(ptr)" ∷
    "declare void @__quantum__qis__cx__body(ptr, ptr)" ∷
    "" ∷
    "attributes #0 = { \"entry_point\" \"qir_profiles\"=\"adaptive_profile\" \"output_labeling_schema\"=\"labeled\" \"required_num_qubits\"=\"2\" \"required_num_results\"=\"2\" }" ∷
    "attributes #1 = { \"irreversible\" }" ∷
    "" ∷
    "!llvm.module.flags = !{!0, !1, !2, !3}" ∷
    "" ∷
    "!0 = !{i32 1, !\"qir_major_version\", i32 2}" ∷
    "!1 = !{i32 7, !\"qir_minor_version\", i32 0}" ∷
    "!2 = !{i32 1, !\"dynamic_qubit_management\", i1 false}" ∷
    "!3 = !{i32 1, !\"dynamic_result_management\", i1 false}" ∷ [])
unfolding digits
written_bell_pair = refl

-- ---- their numbers

pub coin_numbered : IsNumbered coin
coin_numbered = record { names = (refl, tt); registers = (refl, tt); named = ((tt, (tt, (tt, (tt, (tt, tt))))), tt); results = (refl, tt); required = refl; reads = ((tt, (tt, (tt, (refl, (tt, tt))))), tt); declarations = refl }

pub bell_pair_numbered : IsNumbered bell_pair
bell_pair_numbered = record { names = (refl, tt); registers = (refl, (refl, tt)); named = ((tt, (tt, (tt, (tt, (tt, (tt, (tt, (tt, (tt, (tt, tt)))))))))), tt); results = (refl, (refl, tt)); required = refl; reads = ((tt, (tt, (tt, (tt, (refl, (tt, (refl, (tt, (tt, (tt, tt)))))))))), tt); declarations = refl }

pub bell_pair_items : items_of (bell_pair.blocks) ≡ 12
bell_pair_items = refl

-- ---- the runs of the Bell pair

abbrev qubit : ℕ → QubitId
qubit n = record { 0 = n }

abbrev hadamard : Event
hadamard = Gate (record { 0 = 3 }) (pos 0 ∷ pos 0 ∷ pos 0 ∷ pos 0 ∷ []) (qubit 0 ∷ qubit 0 ∷ qubit 0 ∷ [])

abbrev controlled_not : Event
controlled_not = Gate (record { 0 = 15 }) (pos 0 ∷ pos 0 ∷ pos 0 ∷ pos 0 ∷ []) (qubit 0 ∷ qubit 1 ∷ qubit 0 ∷ [])

-- one block is entered: the bound computes where it is written as a successor
enters_once : (outcomes : List Bool) (turns : ℕ) → machine_run bell_pair outcomes turns ≡ run_from bell_pair (suc turns) None 0 first_state outcomes turns
enters_once outcomes turns =
    let bound : (turns + 1) * 1 ≡ suc turns = omega arith in
    ap (λ b. run_from bell_pair b None 0 first_state outcomes turns) bound

-- both outcomes are there, whatever they are and whatever is behind them
pub bell_pair_ends : (a b : Bool) (more : List Bool) (turns : ℕ) → machine_run bell_pair (a ∷ b ∷ more) turns ≡ record {
  fate = Ended;
  events = hadamard ∷ controlled_not ∷ Measure (qubit 0) a ∷ Measure (qubit 1) b ∷ [];
  records = Array 0 2 ∷ BoolRecord 1 a ∷ BoolRecord 2 b ∷ [];
}
bell_pair_ends a b more turns = enters_once (a ∷ b ∷ more) turns

-- the second outcome is missing, or both are
pub bell_pair_asked_second : (a : Bool) (turns : ℕ) → machine_run bell_pair (a ∷ []) turns ≡ record { fate = Asked; events = hadamard ∷ controlled_not ∷ Measure (qubit 0) a ∷ []; records = [] }
bell_pair_asked_second a turns = enters_once (a ∷ []) turns

pub bell_pair_asked_first : (turns : ℕ) → machine_run bell_pair [] turns ≡ record { fate = Asked; events = hadamard ∷ controlled_not ∷ []; records = [] }
bell_pair_asked_first turns = enters_once [] turns
