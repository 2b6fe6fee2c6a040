use Rattle.std.proofs.Common.{refl}
use Rattle.gate_lists.specs.Instructions.{inverse_by_row, controlled_by_row}
use Rattle.gate_flatten.specs.Expand.{call_list}
use Rattle.gate_flatten.proofs.laws.worked_calls.Goals as goal

pub returns : goal.returns
unfolding call_list inverse_by_row controlled_by_row
returns c = record {
  inverse_of_body = refl;
  control_of_body = refl;
  pairs = refl;
  two_controls = refl;
  no_copies = refl;
  right_to_left = refl;
  inverted_copies = refl;
  controlled_phase = refl;
  exchanged = refl;
  nowhere = refl;
  calls_itself = refl;
  too_large = refl;
  no_control = refl;
  repeated = refl;
  other_length = refl;
  same_parameter = refl;
  deep = refl;
  too_deep = refl;
  turned = refl;
  turned_back = refl;
  third_beside_turn = refl;
}
