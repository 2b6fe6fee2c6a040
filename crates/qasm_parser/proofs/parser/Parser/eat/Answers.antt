use Rattle.std.proofs.Common.{true, refl, sym, ap, ◌∙◌, ◌∷◌, []}
use Rattle.grammar_parts.specs.Reading.{taken}
use Rattle.qasm_expr.specs.TokenKinds.{mark_kind}
use Rattle.qasm_expr.specs.Reader.{read_sign}
use Rattle.qasm_parser.proofs.Taking.{skipped_here, seen_mark, told_end, marked_as}
use Rattle.qasm_parser.proofs.parser.Parser.eat.Goals as goal

pub returns-in_default : goal.returns-in_default
returns-in_default c = (sym (told_end c.args.self.now.text (mark_kind c.args.mark ∷ []) c.args.self.now.left (sym c.next.ensures.token ∙ c.in_default.is)), refl)

pub returns-then-not-is_mark : goal.returns-then-not-is_mark
returns-then-not-is_mark c = (sym (seen_mark c.args.self.now.text c.args.mark c.args.self.now.left c.in-Some.token (sym c.next.ensures.token ∙ c.in-Some.is)) ∙ sym c.is_mark.ensures ∙ c.if-not-is_mark.true, refl)

pub returns : goal.returns
returns c =
    let s = c.skip.ensures in
    let here = skipped_here s c.in-Some.token (sym c.next.ensures.token ∙ c.in-Some.is) in
    record {
      token = c.in-Some.token;
      here = here;
      seen = sym (seen_mark c.args.self.now.text c.args.mark c.args.self.now.left c.in-Some.token (sym c.next.ensures.token ∙ c.in-Some.is)) ∙ sym c.is_mark.ensures ∙ c.if-not-is_mark.false;
      read = ap (read_sign c.args.self.now.text (mark_kind c.args.mark)) here ∙ ap (taken c.in-Some.token c.skip.new.self.left) (marked_as c.args.self.now.text c.in-Some.token c.args.mark true (sym c.is_mark.ensures ∙ c.if-not-is_mark.false));
      after = s.after;
    }
