-- The canonical texts of a module with a branch that is written out by hand: one arm adds two numbers, and behind
-- both a number is recorded. Without a phi the register of that number is not assigned on the other arm, which
-- leaves the machine stuck; with one the machine is stuck too, since the phi has no value from there.
use Rattle.std.specs.Prelude.{◌≡◌, refl, Bool, true, false, [], ◌∷◌, ◌++◌, pos, codes}
use Rattle.std.specs.Fmt.{digits}
use Rattle.qq_base.specs.declared.run.Event.{Event}
use Rattle.qq_base.specs.declared.run.Event.TheVariants.{Measure}
use Rattle.qq_base.specs.declared.run.Record.TheVariants.{Int}
use Rattle.qq_base.specs.Seen.{Ended, Stuck}
use Rattle.qir_module.specs.declared.instruction.Operand.TheVariants.{Register, Fixed}
use Rattle.qir_module.specs.declared.instruction.Opcode.TheVariants.{Add}
use Rattle.qir_module.specs.declared.instruction.Arg.TheVariants.{Number, Id, Text}
use Rattle.qir_module.specs.declared.instruction.Instr.TheVariants.{Op}
use Rattle.qir_module.specs.declared.instruction.Last.TheVariants.{Jump, Branch, Return}
use Rattle.qir_module.specs.declared.block.Block.{Block}
use Rattle.qir_module.specs.declared.profile.Profile.TheVariants.{Adaptive}
use Rattle.qir_module.specs.Module.{Module}
use Rattle.qir_module.specs.Written.{written, block_text}
use Rattle.qir_module.specs.Machine.{machine_run}
use Rattle.qir_module.proofs.Worked.{text_of, function, call, read}
use Rattle.qir_module.proofs.WorkedLoop.{block}

abbrev first : Block
first = block 0 [] (call 0 (Id 0 ∷ []) ∷ call 6 (Id 0 ∷ Id 0 ∷ []) ∷ read 0 0 ∷ []) (Branch (Register 0) 1 2)

abbrev arm : Block
arm = block 1 [] (Op 1 Add false (Fixed (pos 1)) (Fixed (pos 2)) ∷ []) (Jump 2)

abbrev behind_arms : Block
behind_arms = block 2 [] (call 4 (Number (Register 1) ∷ Text 0 ∷ []) ∷ []) (Return (pos 0))

abbrev behind_with_phi : Block
behind_with_phi = block 2 (record { register = 2; number = true; entries = (Register 1, 1) ∷ [] } ∷ []) (call 4 (Number (Register 2) ∷ Text 0 ∷ []) ∷ []) (Return (pos 0))

abbrev branching : Block → Module
branching last = record {
  labels = (codes "c" ++ 0 ∷ []) ∷ [];
  blocks = first ∷ arm ∷ last ∷ [];
  declarations = function 0 ∷ function 1 ∷ function 4 ∷ function 6 ∷ [];
  profile = Adaptive;
  qubits = 1;
  results = 1;
  major = 2;
  minor = 0;
  dynamic_qubits = false;
  dynamic_results = false;
}

pub written_branching : written (branching behind_arms) ≡ text_of (
    "@0 = internal constant [2 x i8] c\"c\\00\"" ∷
    "" ∷
    "define i64 @main() #0 {" ∷
    "b0:" ∷
    "  call void @__quantum__rt__initialize(ptr null)" ∷
    "  call void @__quantum__qis__mz__body(ptr null, ptr null)" ∷
    "  %r0 = call i1 @__quantum__rt__read_result(ptr null)" ∷
    "  br i1 %r0, label %b1, label %b2" ∷
    "b1:" ∷
    "  %r1 = add i64 1, 2" ∷
    "  br label %b2" ∷
    "b2:" ∷
    "  call void @__quantum__rt__int_record_output(i64 %r1, ptr @0)" ∷
    "  ret i64 0" ∷
    "}" ∷
    "" ∷
    "declare void @__quantum__rt__initialize(ptr)" ∷
    "declare i1 @__quantum__rt__read_result(ptr)" ∷
    "declare void @__quantum__rt__int_record_output(i64, ptr)" ∷
    "declare void @__quantum__qis__mz__body(ptr, ptr) #1" ∷
    "" ∷
    "attributes #0 = { \"entry_point\" \"qir_profiles\"=\"adaptive_profile\" \"output_labeling_schema\"=\"labeled\" \"required_num_qubits\"=\"1\" \"required_num_results\"=\"1\" }" ∷
    "attributes #1 = { \"irreversible\" }" ∷
    "" ∷
    "!llvm.module.flags = !{!0, !1, !2, !3}" ∷
    "" ∷
    "!0 = !{i32 1, !\"qir_major_version\", i32 2}" ∷
    "!1 = !{i32 7, !\"qir_minor_version\", i32 0}" ∷
    "!2 = !{i32 1, !\"dynamic_qubit_management\", i1 false}" ∷
    "!3 = !{i32 1, !\"dynamic_result_management\", i1 false}" ∷ [])
unfolding digits
written_branching = refl

pub behind_with_phi_text : block_text behind_with_phi ≡ text_of (
    "b2:"
    ∷ "  %r2 = phi i64 [ %r1, %b1 ]"
    ∷ "  call void @__quantum__rt__int_record_output(i64 %r2, ptr @0)"
    ∷ "  ret i64 0"
    ∷ []
    )
unfolding digits
behind_with_phi_text = refl

-- ---- its runs: 3 where the arm was taken, and stuck where it was not

abbrev measured : Bool → Event
measured outcome = Measure (record { 0 = 0 }) outcome

pub arm_taken : machine_run (branching behind_arms) (true ∷ []) 0 ≡ record { fate = Ended; events = measured true ∷ []; records = Int 0 (pos 3) ∷ [] }
arm_taken = refl

pub arm_passed : machine_run (branching behind_arms) (false ∷ []) 0 ≡ record { fate = Stuck; events = measured false ∷ []; records = [] }
arm_passed = refl

pub phi_passed : machine_run (branching behind_with_phi) (false ∷ []) 0 ≡ record { fate = Stuck; events = measured false ∷ []; records = [] }
phi_passed = refl
