use Rattle.std.proofs.Common.{List, length, refl, ap, arith, All}
use Rattle.std.proofs.lemmas.List.{length-reverse}
use Rattle.std.proofs.lemmas.List.Sorted.{All-permutation}
use Rattle.qq_base.specs.declared.rule.Rule.TheVariants.{InverseOutsideTable}
use Rattle.gate_lists.specs.declared.member.Member.{Member}
use Rattle.gate_lists.specs.Amounts.{IsNamed}
use Rattle.gate_lists.specs.Instructions.{inverse_by_row}
use Rattle.gate_lists.specs.Members.{instruction_in}
use Rattle.gate_lists.proofs.ByRow.{no_inverse}
use Rattle.gate_lists.proofs.Found.{made_none, made_one_more, made_refused, made_all, reversed_all}
use Rattle.gate_lists.proofs.list.inverse_list.Goals as goal

pub loop-member-init : goal.loop-member-init
loop-member-init c = rw c.new-inverses.ensures.items (made_none InverseOutsideTable c.args.place inverse_by_row c.args.list.now)

pub returns-in_default-clause-exact : goal.returns-in_default-clause-exact
returns-in_default-clause-exact c = λ worths.
    let none = no_inverse (instruction_in worths c.member-item.result) c.target-table.result.inverses c.target-table.ensures.inverses c.in_default.ensures in
    let is = made_refused InverseOutsideTable c.args.place inverse_by_row c.args.list.now c.loop-member.inverses.items c.loop-member.member-index c.member-item.result c.loop-member.invariant c.loop-member-test.true c.member-item.is worths none in
    rw (c.refused.ensures, is) refl

pub loop-member-preserved : goal.loop-member-preserved
loop-member-preserved c =
    rw c.in_ok-push.ensures
    (made_one_more InverseOutsideTable c.args.place inverse_by_row c.args.list.now c.loop-member.inverses.items c.loop-member.member-index c.member-item.result c.inverse-in-loop-member.result
    c.loop-member.invariant c.loop-member-test.true c.member-item.is c.inverse-in-loop-member.ensures.seen c.inverse-in-loop-member.ensures.named)

pub returns-clause-exact : goal.returns-clause-exact
returns-clause-exact c = λ worths.
    reversed_all worths _ c.loop-member.inverses.items c.reverse.new.self.items
    (made_all InverseOutsideTable c.args.place inverse_by_row c.args.list.now c.loop-member.inverses.items c.loop-member.member-index c.loop-member.invariant c.loop-member-test.false worths)
    c.reverse.ensures.items

pub returns-clause-named : goal.returns-clause-named
returns-clause-named c = λ turns all.
    All-permutation (λ (m : Member). All (IsNamed turns) m.args) c.loop-member.inverses.items c.reverse.new.self.items c.reverse.ensures.permutation (c.loop-member.invariant.named turns all)

pub returns-clause-count : goal.returns-clause-count
returns-clause-count c =
    let long = length-reverse c.loop-member.inverses.items in
    let turned = ap (λ (xs : List Member). length xs) c.reverse.ensures.items in
    let count = c.loop-member.invariant.count in
    omega (arith, long, turned, count)
