use Rattle.std.proofs.Common.{refl}
use Rattle.subroutine_inline.proofs.laws.worked_calls.Goals as goal

pub returns : goal.returns
returns c = record {
  each_kind = refl;
  register_of_one = refl;
  qubit_alone = refl;
  same_twice = refl;
  types_inside = refl;
  wire_alone = refl;
  mixed = refl;
  not_visible = refl;
  a_gate = refl;
  a_row = refl;
  a_register = refl;
  calls_itself = refl;
  deep_in_itself = refl;
  deepest = refl;
  too_deep = refl;
  few_arguments = refl;
  count_first = refl;
  no_width = refl;
  unseen_width = refl;
  width_of_pi = refl;
  no_operand = refl;
  a_value = refl;
  other_size = refl;
  indexed_qubit = refl;
  out_of_range = refl;
  no_constant = refl;
  no_step = refl;
  first_stands = refl;
  no_call = refl;
  values_apart = refl;
  qubits_apart = refl;
  costs_much = refl;
}
