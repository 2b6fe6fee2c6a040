use Rattle.std.proofs.Common.{Some, None, refl, sym, ap, ◌∙◌}
use Rattle.grammar_parts.specs.Reading.{taken}
use Rattle.qasm_expr.specs.Grammar.{plain_types}
use Rattle.qasm_parser.proofs.Exits.{stops}
use Rattle.qasm_parser.proofs.Taking.{took, one_ended, one_missed, picked_as}
use Rattle.qasm_parser.proofs.Signs.{plain}
use Rattle.qasm_parser.proofs.Types.{plain_is}
use Rattle.qasm_parser.proofs.parser.Parser.plain_type.Goals as goal

pub returns-in_default : goal.returns-in_default
returns-in_default c = stops _ _ _ (λ no. one_ended _ c.args.self.now.left (sym c.next.ensures.token ∙ c.in_default.is))

pub returns-in_default-plain_type_of : goal.returns-in_default-plain_type_of
returns-in_default-plain_type_of c = stops _ _ _ (λ no. one_missed _ c.args.self.now.left c.in-Some.token (sym c.next.ensures.token ∙ c.in-Some.is) (picked_as c.args.self.now.text c.in-Some.token plain_types None (plain _ c.in-Some.token.kind ∙ sym c.plain_type_of.ensures ∙ c.in_default-plain_type_of.is)))

pub returns : goal.returns
returns c =
    took _ c.skip.ensures c.in-Some.token (sym c.next.ensures.token ∙ c.in-Some.is) (c.in-Some-plain_type_of.base, c.in-Some.token) (c.in-Some-plain_type_of.base, c.in-Some.token.at)
    (λ rest. ap (taken c.in-Some.token rest) (picked_as c.args.self.now.text c.in-Some.token plain_types (Some c.in-Some-plain_type_of.base) (plain _ c.in-Some.token.kind ∙ sym c.plain_type_of.ensures ∙ c.in-Some-plain_type_of.is)))
    (refl, refl, plain_is c.in-Some.token.kind c.in-Some-plain_type_of.base (sym c.plain_type_of.ensures ∙ c.in-Some-plain_type_of.is))
