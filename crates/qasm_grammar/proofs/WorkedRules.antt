-- The worked rows of refusals, computed.
use Rattle.std.proofs.Common.{refl}
use Rattle.qasm_expr.specs.Reader.{read_between, read_list, read_type, read_cast, read_behind_colon, read_behind_start, read_set, read_content, read_behind_name as expr_behind_name, read_prim, read_power, read_unary_at, read_level, read_unary}
use Rattle.qasm_grammar.specs.Reader.{read_names, read_braced, read_body_of, read_target, read_operand, read_operands, read_any_operands, read_value, read_parameter, read_applied, read_named_call, read_phase, read_modifier, read_modified, read_behind_second, read_span, read_chosen, read_word_line, read_inclusion, read_version_line, read_any_gate_parameters, read_behind_body, read_qubit_line, read_qreg_line, read_creg_line, read_variable_line, read_constant_line, read_output_line, read_alias_line, read_barrier_line, read_member, read_gate_definition, read_parameters, read_subroutine_definition, read_declaration, read_reset_line, read_measure_line, read_return_line, read_assigned, read_assignment, read_behind_name, read_action, read_conditional, read_while_loop, read_for_loop, read_control, read_stmt_at, read_stmt, read_program}
use Rattle.qasm_grammar.specs.RuleRows.{RuleOfVersion, RuleOfVersionWord, RuleOfSecondVersion, RuleOfVersionInBody, RuleOfVersionInGate, RuleOfVersionInValue, RuleOfInclude, RuleOfText, RuleOfWord, RuleOfModifier, RuleOfHash, RuleOfAnnotation, RuleOfAnnotationInGate, RuleOfAnnotationInValue, RuleOfDepth, RuleOfChain, RuleOfNumber, RuleOfEnd}

pub record WorkedRules : Type 0 where
  pub rule_of_version : RuleOfVersion
  pub rule_of_version_word : RuleOfVersionWord
  pub rule_of_second_version : RuleOfSecondVersion
  pub rule_of_version_in_body : RuleOfVersionInBody
  pub rule_of_version_in_gate : RuleOfVersionInGate
  pub rule_of_version_in_value : RuleOfVersionInValue
  pub rule_of_include : RuleOfInclude
  pub rule_of_text : RuleOfText
  pub rule_of_word : RuleOfWord
  pub rule_of_modifier : RuleOfModifier
  pub rule_of_hash : RuleOfHash
  pub rule_of_annotation : RuleOfAnnotation
  pub rule_of_annotation_in_gate : RuleOfAnnotationInGate
  pub rule_of_annotation_in_value : RuleOfAnnotationInValue
  pub rule_of_depth : RuleOfDepth
  pub rule_of_chain : RuleOfChain
  pub rule_of_number : RuleOfNumber
  pub rule_of_end : RuleOfEnd

pub worked : WorkedRules
unfolding read_between read_list read_type read_cast read_behind_colon read_behind_start read_set read_content expr_behind_name read_prim read_power read_unary_at read_level read_unary read_names read_braced read_body_of read_target read_operand read_operands read_any_operands read_value read_parameter read_applied read_named_call read_phase read_modifier read_modified read_behind_second read_span read_chosen read_word_line read_inclusion read_version_line read_any_gate_parameters read_behind_body read_qubit_line read_qreg_line read_creg_line read_variable_line read_constant_line read_output_line read_alias_line read_barrier_line read_member read_gate_definition read_parameters read_subroutine_definition read_declaration read_reset_line read_measure_line read_return_line read_assigned read_assignment read_behind_name read_action read_conditional read_while_loop read_for_loop read_control read_stmt_at read_stmt read_program
worked = record {
  rule_of_version = refl;
  rule_of_version_word = refl;
  rule_of_second_version = refl;
  rule_of_version_in_body = refl;
  rule_of_version_in_gate = refl;
  rule_of_version_in_value = refl;
  rule_of_include = refl;
  rule_of_text = refl;
  rule_of_word = refl;
  rule_of_modifier = refl;
  rule_of_hash = refl;
  rule_of_annotation = refl;
  rule_of_annotation_in_gate = refl;
  rule_of_annotation_in_value = refl;
  rule_of_depth = refl;
  rule_of_chain = refl;
  rule_of_number = refl;
  rule_of_end = refl;
}
