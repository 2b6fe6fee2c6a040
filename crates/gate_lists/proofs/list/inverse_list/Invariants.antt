use Rattle.qq_base.specs.declared.rule.Rule.TheVariants.{InverseOutsideTable}
use Rattle.gate_lists.specs.Instructions.{inverse_by_row}
use Rattle.gate_lists.proofs.Found.{IsMade}
use Rattle.gate_lists.proofs.list.inverse_list.Given as goal

abbrev pub invariant-loop-member : goal.invariant-loop-member
invariant-loop-member l = IsMade InverseOutsideTable l.place inverse_by_row l.list l.inverses.items l.member-index
