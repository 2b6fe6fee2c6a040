-- The worked rows, computed.
use Rattle.std.proofs.Common.{refl}
use Rattle.qasm_expr.specs.Reader.{read_between, read_list, read_type, read_cast, read_behind_colon, read_behind_start, read_set, read_content, read_behind_name as expr_behind_name, read_prim, read_power, read_unary_at, read_level, read_unary}
use Rattle.qasm_grammar.specs.Reader.{read_names, read_braced, read_body_of, read_target, read_operand, read_operands, read_any_operands, read_value, read_parameter, read_applied, read_named_call, read_phase, read_modifier, read_modified, read_behind_second, read_span, read_chosen, read_word_line, read_inclusion, read_version_line, read_any_gate_parameters, read_behind_body, read_qubit_line, read_qreg_line, read_creg_line, read_variable_line, read_constant_line, read_output_line, read_alias_line, read_barrier_line, read_member, read_gate_definition, read_parameters, read_subroutine_definition, read_declaration, read_reset_line, read_measure_line, read_return_line, read_assigned, read_assignment, read_behind_name, read_action, read_conditional, read_while_loop, read_for_loop, read_control, read_stmt_at, read_stmt, read_program}
use Rattle.qasm_grammar.specs.Rows.{EmptyProgram, VersionAlone, VersionWithMinor, OtherVersion, VersionBehind, IncludeDouble, IncludeSingle, IncludeOther, QubitWithWidth, QregWithWidth, CregAlone, VariableMeasured, ConstantOfOne, ConstantMeasured, OutputOfBit, JoinedOperands, JoinedWithComma, GateWithCommas, GateEmptyNames, GateMeasures, GateNoQubit, DefEmptyParameters, DefParameters, CallWithModifiers, CallWithPower, PhaseAlone, PhaseComma, CallWithArguments, CallNoOperand, SubroutineCalled, BarrierOfNone, ResetOfIndex, MeasuredAlone, MeasuredInto, MeasuredIntoHardware, AssignMeasured, AssignToIndex, AddMeasured, IndexAlone, DanglingElse, TwoElses, ElseBehindBraces, ElseWithBraces, ElseOfLoop, ElseAlone, RangeOfThree, RangeOfTwo, SetOfTurns, ReturnMeasured, ThirdModifier, BracketOfModifier, ArgumentsOfModified, OperandsOfModified, ModifierInBodies, ConditionInBodies, WidthInBodies, SetInBodies, RangeInBodies, GateNamesInBodies, GateInBodies, ParametersInBodies, CallInBodies, IndexInBodies, ThirdSign, ThirdGroup, ThirdOperator, AtTheEnd, OpenBody, AnnotationAlone}

pub record Worked : Type 0 where
  pub empty_program : EmptyProgram
  pub version_alone : VersionAlone
  pub version_with_minor : VersionWithMinor
  pub other_version : OtherVersion
  pub version_behind : VersionBehind
  pub include_double : IncludeDouble
  pub include_single : IncludeSingle
  pub include_other : IncludeOther
  pub qubit_with_width : QubitWithWidth
  pub qreg_with_width : QregWithWidth
  pub creg_alone : CregAlone
  pub variable_measured : VariableMeasured
  pub constant_of_one : ConstantOfOne
  pub constant_measured : ConstantMeasured
  pub output_of_bit : OutputOfBit
  pub joined_operands : JoinedOperands
  pub joined_with_comma : JoinedWithComma
  pub gate_with_commas : GateWithCommas
  pub gate_empty_names : GateEmptyNames
  pub gate_measures : GateMeasures
  pub gate_no_qubit : GateNoQubit
  pub def_empty_parameters : DefEmptyParameters
  pub def_parameters : DefParameters
  pub call_with_modifiers : CallWithModifiers
  pub call_with_power : CallWithPower
  pub phase_alone : PhaseAlone
  pub phase_comma : PhaseComma
  pub call_with_arguments : CallWithArguments
  pub call_no_operand : CallNoOperand
  pub subroutine_called : SubroutineCalled
  pub barrier_of_none : BarrierOfNone
  pub reset_of_index : ResetOfIndex
  pub measured_alone : MeasuredAlone
  pub measured_into : MeasuredInto
  pub measured_into_hardware : MeasuredIntoHardware
  pub assign_measured : AssignMeasured
  pub assign_to_index : AssignToIndex
  pub add_measured : AddMeasured
  pub index_alone : IndexAlone
  pub dangling_else : DanglingElse
  pub two_elses : TwoElses
  pub else_behind_braces : ElseBehindBraces
  pub else_with_braces : ElseWithBraces
  pub else_of_loop : ElseOfLoop
  pub else_alone : ElseAlone
  pub range_of_three : RangeOfThree
  pub range_of_two : RangeOfTwo
  pub set_of_turns : SetOfTurns
  pub return_measured : ReturnMeasured
  pub third_modifier : ThirdModifier
  pub bracket_of_modifier : BracketOfModifier
  pub arguments_of_modified : ArgumentsOfModified
  pub operands_of_modified : OperandsOfModified
  pub modifier_in_bodies : ModifierInBodies
  pub condition_in_bodies : ConditionInBodies
  pub width_in_bodies : WidthInBodies
  pub set_in_bodies : SetInBodies
  pub range_in_bodies : RangeInBodies
  pub gate_names_in_bodies : GateNamesInBodies
  pub gate_in_bodies : GateInBodies
  pub parameters_in_bodies : ParametersInBodies
  pub call_in_bodies : CallInBodies
  pub index_in_bodies : IndexInBodies
  pub third_sign : ThirdSign
  pub third_group : ThirdGroup
  pub third_operator : ThirdOperator
  pub at_the_end : AtTheEnd
  pub open_body : OpenBody
  pub annotation_alone : AnnotationAlone

pub worked : Worked
unfolding read_between read_list read_type read_cast read_behind_colon read_behind_start read_set read_content expr_behind_name read_prim read_power read_unary_at read_level read_unary read_names read_braced read_body_of read_target read_operand read_operands read_any_operands read_value read_parameter read_applied read_named_call read_phase read_modifier read_modified read_behind_second read_span read_chosen read_word_line read_inclusion read_version_line read_any_gate_parameters read_behind_body read_qubit_line read_qreg_line read_creg_line read_variable_line read_constant_line read_output_line read_alias_line read_barrier_line read_member read_gate_definition read_parameters read_subroutine_definition read_declaration read_reset_line read_measure_line read_return_line read_assigned read_assignment read_behind_name read_action read_conditional read_while_loop read_for_loop read_control read_stmt_at read_stmt read_program
worked = record {
  empty_program = refl;
  version_alone = refl;
  version_with_minor = refl;
  other_version = refl;
  version_behind = refl;
  include_double = refl;
  include_single = refl;
  include_other = refl;
  qubit_with_width = refl;
  qreg_with_width = refl;
  creg_alone = refl;
  variable_measured = refl;
  constant_of_one = refl;
  constant_measured = refl;
  output_of_bit = refl;
  joined_operands = refl;
  joined_with_comma = refl;
  gate_with_commas = refl;
  gate_empty_names = refl;
  gate_measures = refl;
  gate_no_qubit = refl;
  def_empty_parameters = refl;
  def_parameters = refl;
  call_with_modifiers = refl;
  call_with_power = refl;
  phase_alone = refl;
  phase_comma = refl;
  call_with_arguments = refl;
  call_no_operand = refl;
  subroutine_called = refl;
  barrier_of_none = refl;
  reset_of_index = refl;
  measured_alone = refl;
  measured_into = refl;
  measured_into_hardware = refl;
  assign_measured = refl;
  assign_to_index = refl;
  add_measured = refl;
  index_alone = refl;
  dangling_else = refl;
  two_elses = refl;
  else_behind_braces = refl;
  else_with_braces = refl;
  else_of_loop = refl;
  else_alone = refl;
  range_of_three = refl;
  range_of_two = refl;
  set_of_turns = refl;
  return_measured = refl;
  third_modifier = refl;
  bracket_of_modifier = refl;
  arguments_of_modified = refl;
  operands_of_modified = refl;
  modifier_in_bodies = refl;
  condition_in_bodies = refl;
  width_in_bodies = refl;
  set_in_bodies = refl;
  range_in_bodies = refl;
  gate_names_in_bodies = refl;
  gate_in_bodies = refl;
  parameters_in_bodies = refl;
  call_in_bodies = refl;
  index_in_bodies = refl;
  third_sign = refl;
  third_group = refl;
  third_operator = refl;
  at_the_end = refl;
  open_body = refl;
  annotation_alone = refl;
}
