use Rattle.qq_base.specs.declared.rule.Rule.TheVariants.{ControlOutsideTable}
use Rattle.gate_lists.specs.Instructions.{controlled_by_row}
use Rattle.gate_lists.proofs.Found.{IsMade}
use Rattle.gate_lists.proofs.list.controlled_list.Given as goal

abbrev pub invariant-loop-member : goal.invariant-loop-member
invariant-loop-member l = IsMade ControlOutsideTable l.place (controlled_by_row l.control) l.list l.members.items l.member-index
