-- The worked rows, computed.
use Rattle.std.proofs.Common.{refl}
use Rattle.qasm_expr.specs.Reader.{read_between, read_list, read_type, read_cast, read_behind_colon, read_behind_start, read_set, read_content, read_behind_name, read_prim, read_power, read_unary_at, read_level, read_unary}
use Rattle.qasm_expr.specs.Rows.{BitString, JoinsLeft, ProductFirst, SignOfPower, PowerOfSign, PowerJoinsRight, ThirdOperator, ThirdLevel, ThirdBracket, PlaceOfGroup, ChainOfGroup, EmptyCall, TrailingComma, CommaAlone, TwoCommas, ThreeParts, NoStep, NoStop, SetOfMembers, EmptySet, EmptyIndex, CastWithWidth, BoolHasNoWidth, BehindACall, AtTheEnd, BeginsNothing}

pub bit_string : BitString
unfolding read_between read_list read_type read_cast read_behind_colon read_behind_start read_set read_content read_behind_name read_prim read_power read_unary_at read_level read_unary
bit_string = refl

pub joins_left : JoinsLeft
unfolding read_between read_list read_type read_cast read_behind_colon read_behind_start read_set read_content read_behind_name read_prim read_power read_unary_at read_level read_unary
joins_left = refl

pub product_first : ProductFirst
unfolding read_between read_list read_type read_cast read_behind_colon read_behind_start read_set read_content read_behind_name read_prim read_power read_unary_at read_level read_unary
product_first = refl

pub sign_of_power : SignOfPower
unfolding read_between read_list read_type read_cast read_behind_colon read_behind_start read_set read_content read_behind_name read_prim read_power read_unary_at read_level read_unary
sign_of_power = refl

pub power_of_sign : PowerOfSign
unfolding read_between read_list read_type read_cast read_behind_colon read_behind_start read_set read_content read_behind_name read_prim read_power read_unary_at read_level read_unary
power_of_sign = refl

pub power_joins_right : PowerJoinsRight
unfolding read_between read_list read_type read_cast read_behind_colon read_behind_start read_set read_content read_behind_name read_prim read_power read_unary_at read_level read_unary
power_joins_right = refl

pub third_operator : ThirdOperator
unfolding read_between read_list read_type read_cast read_behind_colon read_behind_start read_set read_content read_behind_name read_prim read_power read_unary_at read_level read_unary
third_operator = refl

pub third_level : ThirdLevel
unfolding read_between read_list read_type read_cast read_behind_colon read_behind_start read_set read_content read_behind_name read_prim read_power read_unary_at read_level read_unary
third_level = refl

pub third_bracket : ThirdBracket
unfolding read_between read_list read_type read_cast read_behind_colon read_behind_start read_set read_content read_behind_name read_prim read_power read_unary_at read_level read_unary
third_bracket = refl

pub place_of_group : PlaceOfGroup
unfolding read_between read_list read_type read_cast read_behind_colon read_behind_start read_set read_content read_behind_name read_prim read_power read_unary_at read_level read_unary
place_of_group = refl

pub chain_of_group : ChainOfGroup
unfolding read_between read_list read_type read_cast read_behind_colon read_behind_start read_set read_content read_behind_name read_prim read_power read_unary_at read_level read_unary
chain_of_group = refl

pub empty_call : EmptyCall
unfolding read_between read_list read_type read_cast read_behind_colon read_behind_start read_set read_content read_behind_name read_prim read_power read_unary_at read_level read_unary
empty_call = refl

pub trailing_comma : TrailingComma
unfolding read_between read_list read_type read_cast read_behind_colon read_behind_start read_set read_content read_behind_name read_prim read_power read_unary_at read_level read_unary
trailing_comma = refl

pub comma_alone : CommaAlone
unfolding read_between read_list read_type read_cast read_behind_colon read_behind_start read_set read_content read_behind_name read_prim read_power read_unary_at read_level read_unary
comma_alone = refl

pub two_commas : TwoCommas
unfolding read_between read_list read_type read_cast read_behind_colon read_behind_start read_set read_content read_behind_name read_prim read_power read_unary_at read_level read_unary
two_commas = refl

pub three_parts : ThreeParts
unfolding read_between read_list read_type read_cast read_behind_colon read_behind_start read_set read_content read_behind_name read_prim read_power read_unary_at read_level read_unary
three_parts = refl

pub no_step : NoStep
unfolding read_between read_list read_type read_cast read_behind_colon read_behind_start read_set read_content read_behind_name read_prim read_power read_unary_at read_level read_unary
no_step = refl

pub no_stop : NoStop
unfolding read_between read_list read_type read_cast read_behind_colon read_behind_start read_set read_content read_behind_name read_prim read_power read_unary_at read_level read_unary
no_stop = refl

pub set_of_members : SetOfMembers
unfolding read_between read_list read_type read_cast read_behind_colon read_behind_start read_set read_content read_behind_name read_prim read_power read_unary_at read_level read_unary
set_of_members = refl

pub empty_set : EmptySet
unfolding read_between read_list read_type read_cast read_behind_colon read_behind_start read_set read_content read_behind_name read_prim read_power read_unary_at read_level read_unary
empty_set = refl

pub empty_index : EmptyIndex
unfolding read_between read_list read_type read_cast read_behind_colon read_behind_start read_set read_content read_behind_name read_prim read_power read_unary_at read_level read_unary
empty_index = refl

pub cast_with_width : CastWithWidth
unfolding read_between read_list read_type read_cast read_behind_colon read_behind_start read_set read_content read_behind_name read_prim read_power read_unary_at read_level read_unary
cast_with_width = refl

pub bool_has_no_width : BoolHasNoWidth
unfolding read_between read_list read_type read_cast read_behind_colon read_behind_start read_set read_content read_behind_name read_prim read_power read_unary_at read_level read_unary
bool_has_no_width = refl

pub behind_a_call : BehindACall
unfolding read_between read_list read_type read_cast read_behind_colon read_behind_start read_set read_content read_behind_name read_prim read_power read_unary_at read_level read_unary
behind_a_call = refl

pub at_the_end : AtTheEnd
unfolding read_between read_list read_type read_cast read_behind_colon read_behind_start read_set read_content read_behind_name read_prim read_power read_unary_at read_level read_unary
at_the_end = refl

pub begins_nothing : BeginsNothing
unfolding read_between read_list read_type read_cast read_behind_colon read_behind_start read_set read_content read_behind_name read_prim read_power read_unary_at read_level read_unary
begins_nothing = refl
