use Rattle.std.proofs.Common.{refl, sym, ◌∙◌, arith}
use Rattle.gate_lists.specs.Turns.{worth_at}
use Rattle.gate_lists.proofs.Leaves.{answered_none, answered_more, answered_all, expanded_same}
use Rattle.gate_lists.proofs.Turning.{worths_before, fits_wider}
use Rattle.gate_lists.specs.Worths.{worth_at-AreWorths}
use Rattle.gate_lists.proofs.answer.finished.Goals as goal

pub loop-member-init : goal.loop-member-init
loop-member-init c = rw c.new-calls.ensures.items (answered_none c.args.members.now c.args.work.turns.items.items, refl)

pub loop-member-preserved : goal.loop-member-preserved
loop-member-preserved c =
    rw c.in_ok-push.ensures (
      answered_more c.args.members.now c.args.work.turns.items.items c.loop-member.turns.items.items c.finished_member.new.turns.items.items c.loop-member.calls.items c.loop-member.member-index c.member-item.result c.in_ok-call.call
          c.loop-member.invariant.0 c.loop-member-test.true c.member-item.is (sym c.if-eq.ensures) c.in_ok-call.ensures.made c.in_ok-call.ensures.worth c.in_ok-call.ensures.named,
      c.in_ok-call.ensures.args ∙ c.loop-member.invariant.1,
    )

pub returns-clause-exact : goal.returns-clause-exact
returns-clause-exact c = λ given.
    expanded_same _ _ _
    (answered_all c.args.members.now c.args.work.turns.items.items c.loop-member.turns.items.items c.loop-member.calls.items c.loop-member.member-index c.loop-member.invariant.0 c.loop-member-test.false
    given (worth_at given c.loop-member.turns.items.items) (worth_at-AreWorths given c.loop-member.turns.args c.loop-member.turns.items.items c.loop-member.turns.fit))

pub returns-clause-worths : goal.returns-clause-worths
returns-clause-worths c = λ given.
    worths_before given (worth_at given c.loop-member.turns.items.items) c.args.work.turns.items.items c.loop-member.turns.items.items (c.loop-member.invariant.0).made.kept
    (worth_at-AreWorths given c.loop-member.turns.args c.loop-member.turns.items.items c.loop-member.turns.fit)

pub returns-clause-turns : goal.returns-clause-turns
returns-clause-turns c = λ args le.
    let few = (c.loop-member.invariant.0).made.few in
    let same = c.loop-member.invariant.1 in
    record {
      fit = λ at t e. fits_wider c.loop-member.turns.args args at t (omega (arith, same, le)) (c.loop-member.turns.fit at t e);
      once = c.loop-member.turns.once;
      few = omega (arith, few, c.requires.paid);
      named = (c.loop-member.invariant.0).named;
    }
