use Rattle.std.proofs.Common.{sym, ◌∙◌}
use Rattle.qasm_lexer.specs.declared.token.Mark.TheVariants as m
use Rattle.qasm_parser.proofs.Exits.{stops}
use Rattle.qasm_parser.proofs.Taking.{power_missed, power_full, power_open}
use Rattle.qasm_parser.proofs.parser.Parser.power.Goals as goal

pub returns-then-not-sees : goal.returns-then-not-sees
returns-then-not-sees c = stops _ _ _ (λ no. power_missed c.args.self.now.text m.StarStar c.args.room c.args.used c.args.self.now.left (sym c.sees.ensures ∙ c.if-not-sees.true))

pub returns-then-used-ge-CHAIN : goal.returns-then-used-ge-CHAIN
returns-then-used-ge-CHAIN c = stops _ _ _ (λ no. power_full c.args.self.now.text m.StarStar c.args.room c.args.used c.args.self.now.left c.if-used-ge-CHAIN.true (sym c.sees.ensures ∙ c.if-not-sees.false))

pub returns : goal.returns
returns c = power_open m.StarStar c.args.room c.args.used _ _ c.enter.result c.if-used-ge-CHAIN.false c.enter.ensures
