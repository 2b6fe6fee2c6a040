-- The modules of texts that are written out by hand, and the rules by which others are refused, and where.
use Rattle.std.specs.Prelude.{◌≡◌, refl, ℕ, false, List, [], ◌∷◌, ◌++◌, codes, map, pos, negsuc, Result, Ok, Err}
use Prim.Native.String.{String}
use Rattle.qir_module.specs.declared.instruction.Operand.TheVariants.{Register}
use Rattle.qir_module.specs.declared.instruction.Arg.TheVariants.{Truth, Id, Text}
use Rattle.qir_module.specs.declared.instruction.Instr.{Instr}
use Rattle.qir_module.specs.declared.instruction.Last.TheVariants.{Return}
use Rattle.qir_module.specs.declared.function.Function.{Function}
use Rattle.qir_module.specs.declared.profile.Profile.TheVariants.{Adaptive}
use Rattle.qir_module.specs.Module.{Module}
use Rattle.qir_module.specs.Text.{line}
use Rattle.qir_module.specs.Tokens.{Breach}
use Rattle.qir_module.specs.Reader.{read_text, read_operand, read_binary, read_operation, read_conversion, read_choice, read_selection, read_id, read_argument, read_arguments, read_call, read_entry, read_phi_of, read_assigned, read_item, read_branch, read_last, read_items, read_block, read_blocks, read_function, read_label, read_labels, read_value_type, read_result_type, read_undoing, read_signature, read_signatures, read_heading, read_attributes, read_second_attributes, read_flag_list, read_flag_line, read_flags, read_ending}
use Rattle.qir_module.proofs.Worked.{call, read, function}

-- the lines of a text
abbrev lines : List String → List ℕ
lines [] = []
lines (l ∷ ls) = line (codes l) ++ lines ls

abbrev breach : ℕ → ℕ → ℕ → Result Module Breach
breach rule row column = Err (record { rule = rule; at = record { line = row; column = column } })

-- ---- modules

abbrev module_of : List (List ℕ) → List Instr → List Function → ℕ → Module
module_of labels body declared count = record {
  labels = labels;
  blocks = record { name = 0; phis = []; body = body; last = Return (pos 0) } ∷ [];
  declarations = declared;
  profile = Adaptive;
  qubits = count;
  results = count;
  major = 2;
  minor = 0;
  dynamic_qubits = false;
  dynamic_results = false;
}

-- what stands behind the declarations, where both required numbers are the same
abbrev ending : List ℕ → List ℕ
ending count =
    line [] ++ line (codes "attributes #0 = { \"entry_point\" \"qir_profiles\"=\"adaptive_profile\" \"output_labeling_schema\"=\"labeled\" \"required_num_qubits\"=\"" ++ count ++ codes "\" \"required_num_results\"=\"" ++ count ++ codes "\" }")
    ++ lines (
    "attributes #1 = { \"irreversible\" }" ∷
    "" ∷
    "!llvm.module.flags = !{!0, !1, !2, !3}" ∷
    "" ∷
    "!0 = !{i32 1, !\"qir_major_version\", i32 2}" ∷
    "!1 = !{i32 7, !\"qir_minor_version\", i32 0}" ∷
    "!2 = !{i32 1, !\"dynamic_qubit_management\", i1 false}" ∷
    "!3 = !{i32 1, !\"dynamic_result_management\", i1 false}" ∷ [])

-- one qubit, a Hadamard gate and a measurement, and nothing at all
abbrev coin_text : List ℕ
coin_text = lines (
    "@0 = internal constant [2 x i8] c\"c\\00\"" ∷
    "" ∷
    "define i64 @main() #0 {" ∷
    "b0:" ∷
    "  call void @__quantum__rt__initialize(ptr null)" ∷
    "  call void @__quantum__qis__h__body(ptr null)" ∷
    "  call void @__quantum__qis__mz__body(ptr null, ptr null)" ∷
    "  %r0 = call i1 @__quantum__rt__read_result(ptr null)" ∷
    "  call void @__quantum__rt__bool_record_output(i1 %r0, ptr @0)" ∷
    "  ret i64 0" ∷
    "}" ∷
    "" ∷
    "declare void @__quantum__rt__initialize(ptr)" ∷
    "declare i1 @__quantum__rt__read_result(ptr)" ∷
    "declare void @__quantum__rt__bool_record_output(i1, ptr)" ∷
    "declare void @__quantum__qis__mz__body(ptr, ptr) #1" ∷
    "declare void @__quantum__qis__h__body(ptr)" ∷ []) ++ ending (codes "1")

coin_is_read : read_text coin_text ≡ Ok (module_of
    ((codes "c" ++ 0 ∷ []) ∷ [])
    (call 0 (Id 0 ∷ []) ∷ call 10 (Id 0 ∷ []) ∷ call 6 (Id 0 ∷ Id 0 ∷ []) ∷ read 0 0 ∷ call 3 (Truth (Register 0) ∷ Text 0 ∷ []) ∷ [])
    (function 0 ∷ function 1 ∷ function 3 ∷ function 6 ∷ function 10 ∷ []) 1)
unfolding read_operand read_binary read_operation read_conversion read_choice read_selection read_id read_argument read_arguments read_call read_entry read_phi_of read_assigned read_item read_branch read_last read_items read_block read_blocks read_function read_label read_labels read_value_type read_result_type read_undoing read_signature read_signatures read_heading read_attributes read_second_attributes read_flag_list read_flag_line read_flags read_ending
coin_is_read = refl

abbrev nothing_text : List ℕ
nothing_text = lines (
    "define i64 @main() #0 {" ∷
    "b0:" ∷
    "  call void @__quantum__rt__initialize(ptr null)" ∷
    "  ret i64 0" ∷
    "}" ∷
    "" ∷
    "declare void @__quantum__rt__initialize(ptr)" ∷ []) ++ ending (codes "0")

nothing_is_read : read_text nothing_text ≡ Ok (module_of [] (call 0 (Id 0 ∷ []) ∷ []) (function 0 ∷ []) 0)
unfolding read_operand read_binary read_operation read_conversion read_choice read_selection read_id read_argument read_arguments read_call read_entry read_phi_of read_assigned read_item read_branch read_last read_items read_block read_blocks read_function read_label read_labels read_value_type read_result_type read_undoing read_signature read_signatures read_heading read_attributes read_second_attributes read_flag_list read_flag_line read_flags read_ending
nothing_is_read = refl

-- blanks and comments are free
spread_is_read : read_text (lines ("; a comment" ∷ "define i64@main ( )#0{b0:ret i64-5;and one more" ∷ "}" ∷ []) ++ ending (codes "0"))
    ≡ Ok (record (module_of [] [] [] 0) { blocks = record { name = 0; phis = []; body = []; last = Return (negsuc 4) } ∷ [] })
unfolding read_operand read_binary read_operation read_conversion read_choice read_selection read_id read_argument read_arguments read_call read_entry read_phi_of read_assigned read_item read_branch read_last read_items read_block read_blocks read_function read_label read_labels read_value_type read_result_type read_undoing read_signature read_signatures read_heading read_attributes read_second_attributes read_flag_list read_flag_line read_flags read_ending
spread_is_read = refl

-- ---- refused texts, each with its rule and place

abbrev in_block : List String → List ℕ
in_block items = lines ("define i64 @main() #0 {" ∷ "b0:" ∷ items)

abbrev behind_function : List String → List ℕ
behind_function ls = lines ("define i64 @main() #0 {" ∷ "b0:" ∷ "  ret i64 0" ∷ "}" ∷ ls)

tokens_refused : map read_text (
    codes "define i64 ?" ∷
    codes "ret - 5" ∷
    codes "\"open" ∷
    codes "c\"\\zz\"" ∷
    codes "%r01" ∷
    codes "ret i64 -0" ∷
    codes "9223372036854775808" ∷
    codes "@4294967296" ∷
    codes "%r4294967295 -9223372036854775808" ∷ [])
    ≡ breach 2 1 12 ∷ breach 2 1 5 ∷ breach 3 1 1 ∷ breach 3 1 2 ∷ breach 4 1 1 ∷ breach 4 1 9 ∷ breach 4 1 1 ∷ breach 4 1 1 ∷ breach 5 1 1 ∷ []
unfolding read_operand read_binary read_operation read_conversion read_choice read_selection read_id read_argument read_arguments read_call read_entry read_phi_of read_assigned read_item read_branch read_last read_items read_block read_blocks read_function read_label read_labels read_value_type read_result_type read_undoing read_signature read_signatures read_heading read_attributes read_second_attributes read_flag_list read_flag_line read_flags read_ending
tokens_refused = refl

values_refused : map read_text (
    codes "@1 = internal" ∷
    codes "@0 = internal constant [3 x i8] c\"c\\00\"" ∷
    codes "@0 = internal constant [1 x i8] c\"c\"" ∷
    in_block ("  call void @__quantum__qis__hh__body(ptr null)" ∷ []) ∷
    behind_function ("declare void @main(ptr)" ∷ []) ∷
    behind_function ("declare void @__quantum__rt__initialize(i64)" ∷ "declare ?" ∷ []) ∷
    behind_function ("declare void @__quantum__rt__initialize(i64)" ∷ "declare x" ∷ []) ∷
    behind_function ("declare void @__quantum__qis__mz__body(ptr, ptr)" ∷ []) ∷
    behind_function ("declare void @__quantum__qis__h__body(ptr) #1" ∷ []) ∷
    in_block ("  foo" ∷ []) ∷
    in_block ("  %r0 = eq i64 1, 2" ∷ []) ∷
    behind_function ("attributes #1" ∷ []) ∷
    behind_function ("attributes #0 = { \"entry_point\" \"qir_profiles\"=\"full\"" ∷ []) ∷ [])
    ≡ breach 6 1 1 ∷ breach 7 1 33 ∷ breach 7 1 33 ∷ breach 8 3 13 ∷ breach 8 5 14 ∷ breach 2 6 9 ∷ breach 9 5 14 ∷ breach 9 5 14 ∷ breach 9 5 14
    ∷ breach 10 3 3 ∷ breach 10 3 9 ∷ breach 6 5 12 ∷ breach 11 5 48 ∷ []
unfolding read_operand read_binary read_operation read_conversion read_choice read_selection read_id read_argument read_arguments read_call read_entry read_phi_of read_assigned read_item read_branch read_last read_items read_block read_blocks read_function read_label read_labels read_value_type read_result_type read_undoing read_signature read_signatures read_heading read_attributes read_second_attributes read_flag_list read_flag_line read_flags read_ending
values_refused = refl

forms_refused : map read_text (
    [] ∷
    codes "define i64 @main() #5 {" ∷
    in_block ("  add" ∷ []) ∷
    in_block ("  %r0 = add i1 1, 2" ∷ []) ∷
    in_block ("  %r0 = add i64 1, 2" ∷ "  %r1 = phi i64 [ 0, %b0 ]" ∷ []) ∷
    in_block ("  ret i64 0" ∷ "  foo" ∷ []) ∷
    in_block ("  %r0 = call void" ∷ []) ∷
    behind_function ("!0" ∷ []) ∷
    (coin_text ++ codes "x") ∷ [])
    ≡ breach 5 1 1 ∷ breach 5 1 20 ∷ breach 5 3 3 ∷ breach 5 3 13 ∷ breach 5 4 9 ∷ breach 5 4 3 ∷ breach 5 3 14 ∷ breach 5 5 1 ∷ breach 12 28 1 ∷ []
unfolding read_operand read_binary read_operation read_conversion read_choice read_selection read_id read_argument read_arguments read_call read_entry read_phi_of read_assigned read_item read_branch read_last read_items read_block read_blocks read_function read_label read_labels read_value_type read_result_type read_undoing read_signature read_signatures read_heading read_attributes read_second_attributes read_flag_list read_flag_line read_flags read_ending
forms_refused = refl
