use Rattle.std.proofs.Common.{rules, ◌<◌, ◌≤◌, ◌∙◌, pos, None, Some, arith, get_or, length, FitsSigned}
use Rattle.std.specs.Int.{w128}
use Rattle.alias_resolve.specs.declared.select.SelectFault.TheVariants.{IndexRange}
use Rattle.alias_resolve.proofs.Bits.{place_of_member}
use Rattle.alias_resolve.proofs.Placing.{behind-member, behind-other, behind-all}
use Rattle.alias_resolve.proofs.range.set_places.Goals as goal

pub returns-in_default-clause-err : goal.returns-in_default-clause-err
returns-in_default-clause-err c =
    let item : FitsSigned w128 (get_or c.args.members.now c.loop-member.member (pos 0)) = search rules in
    let number : FitsSigned w128 c.from_start.result = search rules in
    let lt : c.loop-member.member < length c.args.members.now = omega arith in
    let out = place_of_member c.args.size (get_or c.args.members.now c.loop-member.member (pos 0)) c.from_start.result c.place_of.result None item number c.from_start.ensures c.place_of.ensures c.in_default.is in
    λ _.
    c.loop-member.invariant (λ member. IndexRange c.args.index member) ∙ behind-other (λ member. IndexRange c.args.index member) c.args.size c.args.members.now c.loop-member.places.items c.loop-member.member (pos 0) lt out

pub loop-member-preserved : goal.loop-member-preserved
loop-member-preserved c =
    let item : FitsSigned w128 (get_or c.args.members.now c.loop-member.member (pos 0)) = search rules in
    let number : FitsSigned w128 c.from_start.result = search rules in
    let lt : c.loop-member.member < length c.args.members.now = omega arith in
    let at = place_of_member c.args.size (get_or c.args.members.now c.loop-member.member (pos 0)) c.from_start.result c.place_of.result (Some c.in-Some.place) item number c.from_start.ensures c.place_of.ensures c.in-Some.is in
    λ fault_at. rw c.in_ok-push.ensures.items (c.loop-member.invariant fault_at ∙ behind-member fault_at c.args.size c.args.members.now c.loop-member.places.items c.loop-member.member (pos 0) c.in-Some.place lt at)

pub returns-clause-ok : goal.returns-clause-ok
returns-clause-ok c =
    let le : length c.args.members.now ≤ c.loop-member.member = omega arith in
    c.loop-member.invariant (λ member. IndexRange c.args.index member) ∙ behind-all (λ member. IndexRange c.args.index member) c.args.size c.args.members.now c.loop-member.places.items c.loop-member.member le
