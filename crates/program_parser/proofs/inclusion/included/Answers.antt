use Rattle.std.proofs.Common.{sym, ap, ◌∙◌}
use Rattle.grammar_parts.specs.Reading.{take_one, taken}
use Rattle.qasm_grammar.specs.Parts.{included, is_stdgates}
use Rattle.qasm_parser.proofs.Taking.{skipped_here, one_ended, one_missed}
use Rattle.program_parser.proofs.Texts.{no_text, text_included}
use Rattle.program_parser.proofs.inclusion.included.Goals as goal

pub returns-in_default : goal.returns-in_default
returns-in_default c = λ no. one_ended (included c.args.parser.now.text) c.args.parser.now.left (sym c.next.ensures.token ∙ c.in_default.is)

pub returns-then-not-is_text : goal.returns-then-not-is_text
returns-then-not-is_text c = λ no. one_missed (included c.args.parser.now.text) c.args.parser.now.left c.in-Some.token (sym c.next.ensures.token ∙ c.in-Some.is) (no_text c.args.parser.now.text c.in-Some.token (sym c.is_text.ensures ∙ c.if-not-is_text.true))

pub returns-then-not-is_stdgates : goal.returns-then-not-is_stdgates
returns-then-not-is_stdgates c = λ no. one_missed (included c.args.parser.now.text) c.args.parser.now.left c.in-Some.token (sym c.next.ensures.token ∙ c.in-Some.is) (text_included c.args.parser.now.text c.in-Some.token _ (sym c.is_text.ensures ∙ c.if-not-is_text.false) (ap is_stdgates (sym c.spelling.ensures) ∙ sym c.is_stdgates.ensures ∙ c.if-not-is_stdgates.true))

pub returns : goal.returns
returns c =
    let s = c.skip.ensures in
    let here = skipped_here s c.in-Some.token (sym c.next.ensures.token ∙ c.in-Some.is) in
    record {
      value = c.in-Some.token;
      shown = record { holds = λ v f. tt };
      read = ap (take_one (included c.args.parser.now.text)) here ∙ ap (taken c.in-Some.token c.skip.new.self.left) (text_included c.args.parser.now.text c.in-Some.token _ (sym c.is_text.ensures ∙ c.if-not-is_text.false) (ap is_stdgates (sym c.spelling.ensures) ∙ sym c.is_stdgates.ensures ∙ c.if-not-is_stdgates.false));
      after = s.after;
    }
