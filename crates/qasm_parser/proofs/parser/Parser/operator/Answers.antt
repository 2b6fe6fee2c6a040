use Rattle.std.proofs.Common.{Some, None, ◌∷◌, refl, sym, ap, ◌∙◌}
use Rattle.grammar_parts.specs.Reading.{taken, take_one}
use Rattle.grammar_parts.specs.Kinds.{picked}
use Rattle.qasm_expr.specs.TokenKinds.{kind}
use Rattle.qasm_expr.specs.Seen.{rows_at}
use Rattle.qasm_parser.proofs.Exits.{stops}
use Rattle.qasm_parser.proofs.Taking.{took, chain_ended, chain_missed, chain_full, chain_free, picked_as}
use Rattle.qasm_parser.proofs.Signs.{levels}
use Rattle.qasm_parser.proofs.parser.Parser.operator.Goals as goal

pub returns-in_default : goal.returns-in_default
returns-in_default c = stops _ _ _ (λ no. chain_ended _ c.args.used c.args.self.now.left (sym c.next.ensures.token ∙ c.in_default.is))

pub returns-in_default-operator_at : goal.returns-in_default-operator_at
returns-in_default-operator_at c = stops _ _ _ (λ no. chain_missed _ c.args.used c.args.self.now.left c.in-Some.token (sym c.next.ensures.token ∙ c.in-Some.is) (picked_as c.args.self.now.text c.in-Some.token (rows_at c.args.rank) None (levels c.args.rank _ c.in-Some.token.kind c.requires ∙ sym c.operator_at.ensures ∙ c.in_default-operator_at.is)))

pub returns-then-used-ge-CHAIN : goal.returns-then-used-ge-CHAIN
returns-then-used-ge-CHAIN c = stops _ _ _ (λ no. chain_full _ c.args.used _ c.args.self.now.left c.in-Some.token _ c.if-used-ge-CHAIN.true (sym c.next.ensures.token ∙ c.in-Some.is) (picked_as c.args.self.now.text c.in-Some.token (rows_at c.args.rank) (Some c.in-Some-operator_at.op) (levels c.args.rank _ c.in-Some.token.kind c.requires ∙ sym c.operator_at.ensures ∙ c.in-Some-operator_at.is)))

pub returns : goal.returns
returns c =
    took _ c.skip.ensures c.in-Some.token (sym c.next.ensures.token ∙ c.in-Some.is) (c.in-Some-operator_at.op, c.in-Some.token) c.in-Some-operator_at.op
    (λ rest. chain_free (picked (kind c.args.self.now.text) (rows_at c.args.rank)) c.args.used (take_one (picked (kind c.args.self.now.text) (rows_at c.args.rank))) (c.in-Some.token ∷ rest) c.if-used-ge-CHAIN.false ∙ ap (taken c.in-Some.token rest) (picked_as c.args.self.now.text c.in-Some.token (rows_at c.args.rank) (Some c.in-Some-operator_at.op) (levels c.args.rank _ c.in-Some.token.kind c.requires ∙ sym c.operator_at.ensures ∙ c.in-Some-operator_at.is)))
    (refl, c.if-used-ge-CHAIN.false)
