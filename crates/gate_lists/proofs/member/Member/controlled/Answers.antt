use Rattle.std.proofs.Common.{refl}
use Rattle.gate_lists.proofs.ByRow.{controlled_is, four_under, named_under}
use Rattle.gate_lists.proofs.Rows.{control_row}
use Rattle.gate_lists.proofs.member.Member.controlled.Goals as goal

pub invariant_of-result : goal.invariant_of-result
invariant_of-result c = record {
  of_table = (control_row c.args.self.now.gate.0 c.args.row c.requires).of_table;
  four = rw c.args_under.ensures (four_under c.args.row.turn c.args.self.now.args c.args.self.now.four);
  three = refl;
}

pub returns-clause-seen : goal.returns-clause-seen
returns-clause-seen c = λ worths. rw c.args_under.ensures (controlled_is worths c.args.control c.args.self.now c.args.row _ c.requires)

pub returns-clause-named : goal.returns-clause-named
returns-clause-named c = λ turns all. rw c.args_under.ensures (named_under turns c.args.row.turn c.args.self.now.args all)
