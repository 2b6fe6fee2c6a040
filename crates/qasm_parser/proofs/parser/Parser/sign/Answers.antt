use Rattle.std.proofs.Common.{◌≡◌, ◌-◌, suc, Some, None, refl, sym, ◌∙◌, arith}
use Rattle.qasm_expr.specs.Grammar.{unary_operators}
use Rattle.qasm_parser.proofs.Exits.{stops}
use Rattle.qasm_parser.proofs.Taking.{took, opening_ended, opening_missed, opening_shut, opening_taken, picked_as}
use Rattle.qasm_parser.proofs.Signs.{signs}
use Rattle.qasm_parser.proofs.parser.Parser.sign.Goals as goal

pub returns-in_default : goal.returns-in_default
returns-in_default c = stops _ _ _ (λ no. opening_ended _ c.args.room c.args.self.now.left (sym c.next.ensures.token ∙ c.in_default.is))

pub returns-in_default-sign_of : goal.returns-in_default-sign_of
returns-in_default-sign_of c = stops _ _ _ (λ no. opening_missed _ c.args.room c.args.self.now.left c.in-Some.token (sym c.next.ensures.token ∙ c.in-Some.is) (picked_as c.args.self.now.text c.in-Some.token unary_operators None (signs _ c.in-Some.token.kind ∙ sym c.sign_of.ensures ∙ c.in_default-sign_of.is)))

pub returns-then-room-eq0 : goal.returns-then-room-eq0
returns-then-room-eq0 c = stops _ _ _ (λ no. opening_shut _ c.args.room c.args.self.now.left c.in-Some.token _ c.if-room-eq0.true (sym c.next.ensures.token ∙ c.in-Some.is) (picked_as c.args.self.now.text c.in-Some.token unary_operators (Some c.in-Some-sign_of.op) (signs _ c.in-Some.token.kind ∙ sym c.sign_of.ensures ∙ c.in-Some-sign_of.is)))

pub returns : goal.returns
returns c =
    let inner : c.args.room ≡ suc (c.args.room - 1) = omega arith in
    took _ c.skip.ensures c.in-Some.token (sym c.next.ensures.token ∙ c.in-Some.is) (c.in-Some-sign_of.op, c.in-Some.token) _ (opening_taken _ c.args.room (c.args.room - 1) c.in-Some.token _ inner (picked_as c.args.self.now.text c.in-Some.token unary_operators (Some c.in-Some-sign_of.op) (signs _ c.in-Some.token.kind ∙ sym c.sign_of.ensures ∙ c.in-Some-sign_of.is))) (refl, refl, inner)
