use Rattle.std.proofs.Common.{refl}
use Rattle.gate_lists.specs.Instructions.{inverse_by_row, controlled_by_row}
use Rattle.gate_flatten.specs.Expand.{call_list}
use Rattle.source_calls.proofs.laws.worked_gate_calls.Goals as goal

pub returns : goal.returns
unfolding call_list inverse_by_row controlled_by_row
returns c = record {
  of_table = refl;
  defined = refl;
  nested = refl;
  inverted = refl;
  calls_itself = refl;
  calls_subroutine = refl;
  no_gate = refl;
  not_declared = refl;
  not_seen = refl;
}
