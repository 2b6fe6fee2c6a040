use Rattle.std.proofs.Common.{sym, ap, ◌∙◌}
use Rattle.grammar_parts.specs.Reading.{take_one, taken}
use Rattle.qasm_grammar.specs.Parts.{version_of}
use Rattle.qasm_parser.proofs.Taking.{skipped_here, one_ended, one_missed}
use Rattle.program_parser.proofs.Texts.{version_as}
use Rattle.program_parser.proofs.whole.version_number.Goals as goal

pub returns-in_default : goal.returns-in_default
returns-in_default c = λ no. one_ended version_of c.args.parser.now.left (sym c.next.ensures.token ∙ c.in_default.is)

pub returns-then-not-is_version : goal.returns-then-not-is_version
returns-then-not-is_version c = λ no. one_missed version_of c.args.parser.now.left c.in-Some.token (sym c.next.ensures.token ∙ c.in-Some.is) (version_as c.in-Some.token _ (sym c.is_version.ensures ∙ c.if-not-is_version.true))

pub returns : goal.returns
returns c =
    let s = c.skip.ensures in
    let here = skipped_here s c.in-Some.token (sym c.next.ensures.token ∙ c.in-Some.is) in
    record {
      value = c.in-Some.token;
      shown = record { holds = λ v f. tt };
      read = ap (take_one version_of) here ∙ ap (taken c.in-Some.token c.skip.new.self.left) (version_as c.in-Some.token _ (sym c.is_version.ensures ∙ c.if-not-is_version.false));
      after = s.after;
    }
