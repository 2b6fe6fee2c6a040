use Rattle.qasm_grammar.proofs.Worked.{worked}
use Rattle.qasm_grammar.proofs.laws.worked_rows.Goals as goal

pub returns-clause-empty_program : goal.returns-clause-empty_program
returns-clause-empty_program c = worked.empty_program

pub returns-clause-version_alone : goal.returns-clause-version_alone
returns-clause-version_alone c = worked.version_alone

pub returns-clause-version_with_minor : goal.returns-clause-version_with_minor
returns-clause-version_with_minor c = worked.version_with_minor

pub returns-clause-other_version : goal.returns-clause-other_version
returns-clause-other_version c = worked.other_version

pub returns-clause-version_behind : goal.returns-clause-version_behind
returns-clause-version_behind c = worked.version_behind

pub returns-clause-include_double : goal.returns-clause-include_double
returns-clause-include_double c = worked.include_double

pub returns-clause-include_single : goal.returns-clause-include_single
returns-clause-include_single c = worked.include_single

pub returns-clause-include_other : goal.returns-clause-include_other
returns-clause-include_other c = worked.include_other

pub returns-clause-qubit_with_width : goal.returns-clause-qubit_with_width
returns-clause-qubit_with_width c = worked.qubit_with_width

pub returns-clause-qreg_with_width : goal.returns-clause-qreg_with_width
returns-clause-qreg_with_width c = worked.qreg_with_width

pub returns-clause-creg_alone : goal.returns-clause-creg_alone
returns-clause-creg_alone c = worked.creg_alone

pub returns-clause-variable_measured : goal.returns-clause-variable_measured
returns-clause-variable_measured c = worked.variable_measured

pub returns-clause-constant_of_one : goal.returns-clause-constant_of_one
returns-clause-constant_of_one c = worked.constant_of_one

pub returns-clause-constant_measured : goal.returns-clause-constant_measured
returns-clause-constant_measured c = worked.constant_measured

pub returns-clause-output_of_bit : goal.returns-clause-output_of_bit
returns-clause-output_of_bit c = worked.output_of_bit

pub returns-clause-joined_operands : goal.returns-clause-joined_operands
returns-clause-joined_operands c = worked.joined_operands

pub returns-clause-joined_with_comma : goal.returns-clause-joined_with_comma
returns-clause-joined_with_comma c = worked.joined_with_comma

pub returns-clause-gate_with_commas : goal.returns-clause-gate_with_commas
returns-clause-gate_with_commas c = worked.gate_with_commas

pub returns-clause-gate_empty_names : goal.returns-clause-gate_empty_names
returns-clause-gate_empty_names c = worked.gate_empty_names

pub returns-clause-gate_measures : goal.returns-clause-gate_measures
returns-clause-gate_measures c = worked.gate_measures

pub returns-clause-gate_no_qubit : goal.returns-clause-gate_no_qubit
returns-clause-gate_no_qubit c = worked.gate_no_qubit

pub returns-clause-def_empty_parameters : goal.returns-clause-def_empty_parameters
returns-clause-def_empty_parameters c = worked.def_empty_parameters

pub returns-clause-def_parameters : goal.returns-clause-def_parameters
returns-clause-def_parameters c = worked.def_parameters

pub returns-clause-call_with_modifiers : goal.returns-clause-call_with_modifiers
returns-clause-call_with_modifiers c = worked.call_with_modifiers

pub returns-clause-call_with_power : goal.returns-clause-call_with_power
returns-clause-call_with_power c = worked.call_with_power

pub returns-clause-phase_alone : goal.returns-clause-phase_alone
returns-clause-phase_alone c = worked.phase_alone

pub returns-clause-phase_comma : goal.returns-clause-phase_comma
returns-clause-phase_comma c = worked.phase_comma

pub returns-clause-call_with_arguments : goal.returns-clause-call_with_arguments
returns-clause-call_with_arguments c = worked.call_with_arguments

pub returns-clause-call_no_operand : goal.returns-clause-call_no_operand
returns-clause-call_no_operand c = worked.call_no_operand

pub returns-clause-subroutine_called : goal.returns-clause-subroutine_called
returns-clause-subroutine_called c = worked.subroutine_called

pub returns-clause-barrier_of_none : goal.returns-clause-barrier_of_none
returns-clause-barrier_of_none c = worked.barrier_of_none

pub returns-clause-reset_of_index : goal.returns-clause-reset_of_index
returns-clause-reset_of_index c = worked.reset_of_index

pub returns-clause-measured_alone : goal.returns-clause-measured_alone
returns-clause-measured_alone c = worked.measured_alone

pub returns-clause-measured_into : goal.returns-clause-measured_into
returns-clause-measured_into c = worked.measured_into

pub returns-clause-measured_into_hardware : goal.returns-clause-measured_into_hardware
returns-clause-measured_into_hardware c = worked.measured_into_hardware

pub returns-clause-assign_measured : goal.returns-clause-assign_measured
returns-clause-assign_measured c = worked.assign_measured

pub returns-clause-assign_to_index : goal.returns-clause-assign_to_index
returns-clause-assign_to_index c = worked.assign_to_index

pub returns-clause-add_measured : goal.returns-clause-add_measured
returns-clause-add_measured c = worked.add_measured

pub returns-clause-index_alone : goal.returns-clause-index_alone
returns-clause-index_alone c = worked.index_alone

pub returns-clause-dangling_else : goal.returns-clause-dangling_else
returns-clause-dangling_else c = worked.dangling_else

pub returns-clause-two_elses : goal.returns-clause-two_elses
returns-clause-two_elses c = worked.two_elses

pub returns-clause-else_behind_braces : goal.returns-clause-else_behind_braces
returns-clause-else_behind_braces c = worked.else_behind_braces

pub returns-clause-else_with_braces : goal.returns-clause-else_with_braces
returns-clause-else_with_braces c = worked.else_with_braces

pub returns-clause-else_of_loop : goal.returns-clause-else_of_loop
returns-clause-else_of_loop c = worked.else_of_loop

pub returns-clause-else_alone : goal.returns-clause-else_alone
returns-clause-else_alone c = worked.else_alone

pub returns-clause-range_of_three : goal.returns-clause-range_of_three
returns-clause-range_of_three c = worked.range_of_three

pub returns-clause-range_of_two : goal.returns-clause-range_of_two
returns-clause-range_of_two c = worked.range_of_two

pub returns-clause-set_of_turns : goal.returns-clause-set_of_turns
returns-clause-set_of_turns c = worked.set_of_turns

pub returns-clause-return_measured : goal.returns-clause-return_measured
returns-clause-return_measured c = worked.return_measured

pub returns-clause-third_modifier : goal.returns-clause-third_modifier
returns-clause-third_modifier c = worked.third_modifier

pub returns-clause-bracket_of_modifier : goal.returns-clause-bracket_of_modifier
returns-clause-bracket_of_modifier c = worked.bracket_of_modifier

pub returns-clause-arguments_of_modified : goal.returns-clause-arguments_of_modified
returns-clause-arguments_of_modified c = worked.arguments_of_modified

pub returns-clause-operands_of_modified : goal.returns-clause-operands_of_modified
returns-clause-operands_of_modified c = worked.operands_of_modified

pub returns-clause-modifier_in_bodies : goal.returns-clause-modifier_in_bodies
returns-clause-modifier_in_bodies c = worked.modifier_in_bodies

pub returns-clause-condition_in_bodies : goal.returns-clause-condition_in_bodies
returns-clause-condition_in_bodies c = worked.condition_in_bodies

pub returns-clause-width_in_bodies : goal.returns-clause-width_in_bodies
returns-clause-width_in_bodies c = worked.width_in_bodies

pub returns-clause-set_in_bodies : goal.returns-clause-set_in_bodies
returns-clause-set_in_bodies c = worked.set_in_bodies

pub returns-clause-range_in_bodies : goal.returns-clause-range_in_bodies
returns-clause-range_in_bodies c = worked.range_in_bodies

pub returns-clause-gate_names_in_bodies : goal.returns-clause-gate_names_in_bodies
returns-clause-gate_names_in_bodies c = worked.gate_names_in_bodies

pub returns-clause-gate_in_bodies : goal.returns-clause-gate_in_bodies
returns-clause-gate_in_bodies c = worked.gate_in_bodies

pub returns-clause-parameters_in_bodies : goal.returns-clause-parameters_in_bodies
returns-clause-parameters_in_bodies c = worked.parameters_in_bodies

pub returns-clause-call_in_bodies : goal.returns-clause-call_in_bodies
returns-clause-call_in_bodies c = worked.call_in_bodies

pub returns-clause-index_in_bodies : goal.returns-clause-index_in_bodies
returns-clause-index_in_bodies c = worked.index_in_bodies

pub returns-clause-third_sign : goal.returns-clause-third_sign
returns-clause-third_sign c = worked.third_sign

pub returns-clause-third_group : goal.returns-clause-third_group
returns-clause-third_group c = worked.third_group

pub returns-clause-third_operator : goal.returns-clause-third_operator
returns-clause-third_operator c = worked.third_operator

pub returns-clause-at_the_end : goal.returns-clause-at_the_end
returns-clause-at_the_end c = worked.at_the_end

pub returns-clause-open_body : goal.returns-clause-open_body
returns-clause-open_body c = worked.open_body

pub returns-clause-annotation_alone : goal.returns-clause-annotation_alone
returns-clause-annotation_alone c = worked.annotation_alone
