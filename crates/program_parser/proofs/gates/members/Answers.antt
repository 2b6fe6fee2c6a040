use Rattle.std.proofs.Common.{◌∷◌, ◌++◌, [], Some, length, sym, ap, ◌∙◌, length-append, arith}
use Rattle.qasm_grammar.specs.Reader.{member_kinds, read_member}
use Rattle.qasm_parser.specs.Shows.{Each}
use Rattle.qasm_parser.proofs.Growing.{after_same, after_on}
use Rattle.qasm_parser.proofs.Showing.{each_none, each_more}
use Rattle.qasm_parser.proofs.Exits.{pushed}
use Rattle.qasm_parser.proofs.Repeating.{repeating_start, repeating_stop, repeating_err, repeating_more}
use Rattle.program_parser.specs.World.{Stands}
use Rattle.program_parser.specs.Shows.{MemberIn}
use Rattle.program_parser.proofs.Standing.{later}
use Rattle.program_parser.proofs.Exits.{handed}
use Rattle.program_parser.proofs.Bodies.{members_stand}
use Rattle.program_parser.proofs.gates.members.Goals as goal

pub members-init : goal.members-init
members-init c = record {
  repeating = repeating_start c.args.parser.now.text member_kinds (read_member c.args.parser.now.text (Some 64) c.args.room) (Each (Stands MemberIn c.args.parser.now)) c.args.parser.now.left c.new-found.result.items (each_none _ _ c.new-found.ensures.items);
  count = omega (arith, ap length c.new-found.ensures.items);
  after = after_same _;
}

pub returns-in_err-id : goal.returns-in_err-id
returns-in_err-id c =
    let at' = c.members.invariant.after.text in
    handed _ _ _ _ _ _ c.from_residual.ensures (λ no. repeating_err _ _ _ c.members.invariant.repeating (rw (sym at') (sym c.begins.ensures ∙ c.members-test.true)) _ (rw (sym at') (c.in_err-id.ensures.reads no)))

pub members-smaller : goal.members-smaller
members-smaller c = c.in_ok-id.ensures.moves

pub members-preserved : goal.members-preserved
members-preserved c =
    let at' = c.members.invariant.after.text in
    let g = c.members.invariant.repeating in
    let r = c.in_ok-id.ensures.reads in
    let push = pushed c.push.result c.members.found.items c.push.new.self.items (c.members.found.items ++ c.in_ok-id.id ∷ []) c.push.ensures.items (sym c.is_err.ensures.value ∙ c.if-is_err.false) in
    let seen = each_more (Stands MemberIn c.members.parser) (Stands MemberIn c.member.new.parser) (λ x a h. later r.after.longer h) c.members.found.items c.push.new.self.items g.acc c.in_ok-id.id r.value push g.sees r.shown in
    record {
      repeating = repeating_more _ _ _ g (rw (sym at') (sym c.begins.ensures ∙ c.members-test.true)) (Each (Stands MemberIn c.member.new.parser)) _ r.value c.push.new.self.items seen c.in_ok-id.ensures.moves (rw (sym at') r.read);
      count = omega (arith, ap length push, length-append c.members.found.items (c.in_ok-id.id ∷ []), c.in_ok-id.ensures.moves, c.members.invariant.count);
      after = after_on c.members.invariant.after r.after;
    }

pub returns : goal.returns
returns c =
    let g = c.members.invariant.repeating in
    let count = c.members.invariant.count in
    record {
      value = g.acc;
      shown = members_stand _ _ g.acc (omega (arith, count, c.alloc.ensures)) g.sees;
      read = repeating_stop _ _ _ g (rw (sym c.members.invariant.after.text) (sym c.begins.ensures ∙ c.members-test.false));
      after = c.members.invariant.after;
    }
