use Rattle.std.proofs.Common.{refl}
use Rattle.qq_base.specs.declared.rule.Rule.TheVariants.{ControlOutsideTable}
use Rattle.gate_lists.specs.Instructions.{controlled_by_row}
use Rattle.gate_lists.specs.Members.{instruction_in}
use Rattle.gate_lists.proofs.ByRow.{no_control}
use Rattle.gate_lists.proofs.Found.{made_none, made_one_more, made_refused, made_all}
use Rattle.gate_lists.proofs.list.controlled_list.Goals as goal

pub loop-member-init : goal.loop-member-init
loop-member-init c = rw c.new-members.ensures.items (made_none ControlOutsideTable c.args.place (controlled_by_row c.args.control) c.args.list.now)

pub returns-in_default-clause-exact : goal.returns-in_default-clause-exact
returns-in_default-clause-exact c = λ worths.
    let none = no_control c.args.control (instruction_in worths c.member-item.result) c.target-table.result.controls c.target-table.ensures.controls c.in_default.ensures in
    let is = made_refused ControlOutsideTable c.args.place (controlled_by_row c.args.control) c.args.list.now c.loop-member.members.items c.loop-member.member-index c.member-item.result c.loop-member.invariant c.loop-member-test.true c.member-item.is worths none in
    rw (c.refused.ensures, is) refl

pub loop-member-preserved : goal.loop-member-preserved
loop-member-preserved c =
    rw c.in_ok-push.ensures
    (made_one_more ControlOutsideTable c.args.place (controlled_by_row c.args.control) c.args.list.now c.loop-member.members.items c.loop-member.member-index c.member-item.result c.controlled-in-loop-member.result
    c.loop-member.invariant c.loop-member-test.true c.member-item.is c.controlled-in-loop-member.ensures.seen c.controlled-in-loop-member.ensures.named)

pub returns-clause-exact : goal.returns-clause-exact
returns-clause-exact c = made_all ControlOutsideTable c.args.place (controlled_by_row c.args.control) c.args.list.now c.loop-member.members.items c.loop-member.member-index c.loop-member.invariant c.loop-member-test.false

pub returns-clause-named : goal.returns-clause-named
returns-clause-named c = c.loop-member.invariant.named
