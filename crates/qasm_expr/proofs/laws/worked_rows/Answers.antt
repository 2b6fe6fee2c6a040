use Rattle.qasm_expr.proofs.Worked.{bit_string, joins_left, product_first, sign_of_power, power_of_sign, power_joins_right, third_operator, third_level, third_bracket, place_of_group, chain_of_group, empty_call, trailing_comma, comma_alone, two_commas, three_parts, no_step, no_stop, set_of_members, empty_set, empty_index, cast_with_width, bool_has_no_width, behind_a_call, at_the_end, begins_nothing}
use Rattle.qasm_expr.proofs.laws.worked_rows.Goals as goal

pub returns-clause-bit_string : goal.returns-clause-bit_string
returns-clause-bit_string c = bit_string

pub returns-clause-joins_left : goal.returns-clause-joins_left
returns-clause-joins_left c = joins_left

pub returns-clause-product_first : goal.returns-clause-product_first
returns-clause-product_first c = product_first

pub returns-clause-sign_of_power : goal.returns-clause-sign_of_power
returns-clause-sign_of_power c = sign_of_power

pub returns-clause-power_of_sign : goal.returns-clause-power_of_sign
returns-clause-power_of_sign c = power_of_sign

pub returns-clause-power_joins_right : goal.returns-clause-power_joins_right
returns-clause-power_joins_right c = power_joins_right

pub returns-clause-third_operator : goal.returns-clause-third_operator
returns-clause-third_operator c = third_operator

pub returns-clause-third_level : goal.returns-clause-third_level
returns-clause-third_level c = third_level

pub returns-clause-third_bracket : goal.returns-clause-third_bracket
returns-clause-third_bracket c = third_bracket

pub returns-clause-place_of_group : goal.returns-clause-place_of_group
returns-clause-place_of_group c = place_of_group

pub returns-clause-chain_of_group : goal.returns-clause-chain_of_group
returns-clause-chain_of_group c = chain_of_group

pub returns-clause-empty_call : goal.returns-clause-empty_call
returns-clause-empty_call c = empty_call

pub returns-clause-trailing_comma : goal.returns-clause-trailing_comma
returns-clause-trailing_comma c = trailing_comma

pub returns-clause-comma_alone : goal.returns-clause-comma_alone
returns-clause-comma_alone c = comma_alone

pub returns-clause-two_commas : goal.returns-clause-two_commas
returns-clause-two_commas c = two_commas

pub returns-clause-three_parts : goal.returns-clause-three_parts
returns-clause-three_parts c = three_parts

pub returns-clause-no_step : goal.returns-clause-no_step
returns-clause-no_step c = no_step

pub returns-clause-no_stop : goal.returns-clause-no_stop
returns-clause-no_stop c = no_stop

pub returns-clause-set_of_members : goal.returns-clause-set_of_members
returns-clause-set_of_members c = set_of_members

pub returns-clause-empty_set : goal.returns-clause-empty_set
returns-clause-empty_set c = empty_set

pub returns-clause-empty_index : goal.returns-clause-empty_index
returns-clause-empty_index c = empty_index

pub returns-clause-cast_with_width : goal.returns-clause-cast_with_width
returns-clause-cast_with_width c = cast_with_width

pub returns-clause-bool_has_no_width : goal.returns-clause-bool_has_no_width
returns-clause-bool_has_no_width c = bool_has_no_width

pub returns-clause-behind_a_call : goal.returns-clause-behind_a_call
returns-clause-behind_a_call c = behind_a_call

pub returns-clause-at_the_end : goal.returns-clause-at_the_end
returns-clause-at_the_end c = at_the_end

pub returns-clause-begins_nothing : goal.returns-clause-begins_nothing
returns-clause-begins_nothing c = begins_nothing
