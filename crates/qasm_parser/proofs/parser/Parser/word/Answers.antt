use Rattle.std.proofs.Common.{true, false, refl, sym, ap, ◌∙◌}
use Rattle.grammar_parts.specs.Reading.{taken}
use Rattle.qasm_parser.proofs.Exits.{stops}
use Rattle.qasm_parser.proofs.Taking.{took, one_ended, one_missed, worded_as}
use Rattle.qasm_parser.proofs.parser.Parser.word.Goals as goal

pub returns-in_default : goal.returns-in_default
returns-in_default c = stops _ _ _ (λ no. one_ended _ c.args.self.now.left (sym c.next.ensures.token ∙ c.in_default.is))

pub returns-then-not-is_word : goal.returns-then-not-is_word
returns-then-not-is_word c = stops _ _ _ (λ no. one_missed _ c.args.self.now.left c.in-Some.token (sym c.next.ensures.token ∙ c.in-Some.is) (worded_as c.args.self.now.text c.in-Some.token c.args.word false (sym c.is_word.ensures ∙ c.if-not-is_word.true)))

pub returns : goal.returns
returns c = took _ c.skip.ensures c.in-Some.token (sym c.next.ensures.token ∙ c.in-Some.is) c.in-Some.token c.in-Some.token (λ rest. ap (taken c.in-Some.token rest) (worded_as c.args.self.now.text c.in-Some.token c.args.word true (sym c.is_word.ensures ∙ c.if-not-is_word.false))) refl
