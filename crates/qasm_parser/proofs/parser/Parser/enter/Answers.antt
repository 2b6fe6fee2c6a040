use Rattle.std.proofs.Common.{true, false, suc, ◌≡◌, ◌-◌, sym, ◌∙◌, arith}
use Rattle.qasm_parser.proofs.Exits.{stops}
use Rattle.qasm_parser.proofs.Taking.{took, opening_ended, opening_missed, opening_shut, opening_taken, marked_as}
use Rattle.qasm_parser.proofs.parser.Parser.enter.Goals as goal

pub returns-in_default : goal.returns-in_default
returns-in_default c = stops _ _ _ (λ no. opening_ended _ c.args.room c.args.self.now.left (sym c.next.ensures.token ∙ c.in_default.is))

pub returns-then-not-is_mark : goal.returns-then-not-is_mark
returns-then-not-is_mark c = stops _ _ _ (λ no. opening_missed _ c.args.room c.args.self.now.left c.in-Some.token (sym c.next.ensures.token ∙ c.in-Some.is) (marked_as c.args.self.now.text c.in-Some.token c.args.mark false (sym c.is_mark.ensures ∙ c.if-not-is_mark.true)))

pub returns-then-room-eq0 : goal.returns-then-room-eq0
returns-then-room-eq0 c = stops _ _ _ (λ no. opening_shut _ c.args.room c.args.self.now.left c.in-Some.token _ c.if-room-eq0.true (sym c.next.ensures.token ∙ c.in-Some.is) (marked_as c.args.self.now.text c.in-Some.token c.args.mark true (sym c.is_mark.ensures ∙ c.if-not-is_mark.false)))

pub returns : goal.returns
returns c =
    let inner : c.args.room ≡ suc (c.args.room - 1) = omega arith in
    took _ c.skip.ensures c.in-Some.token (sym c.next.ensures.token ∙ c.in-Some.is) c.in-Some.token _ (opening_taken _ c.args.room (c.args.room - 1) c.in-Some.token c.in-Some.token inner (marked_as c.args.self.now.text c.in-Some.token c.args.mark true (sym c.is_mark.ensures ∙ c.if-not-is_mark.false))) inner
