use Rattle.std.proofs.Common.{Some, None, refl, sym, ap, ◌∙◌}
use Rattle.grammar_parts.specs.Reading.{take_one, taken}
use Rattle.grammar_parts.specs.Kinds.{picked}
use Rattle.qasm_expr.specs.TokenKinds.{kind}
use Rattle.qasm_grammar.specs.Grammar.{assign_operators}
use Rattle.qasm_parser.proofs.Taking.{skipped_here, one_ended, one_missed, picked_as}
use Rattle.program_parser.proofs.Putting.{assigns}
use Rattle.program_parser.proofs.actions.assigning.Goals as goal

pub returns-in_default : goal.returns-in_default
returns-in_default c = λ no. one_ended _ c.args.parser.now.left (sym c.next.ensures.token ∙ c.in_default.is)

pub returns-in_default-operator_by : goal.returns-in_default-operator_by
returns-in_default-operator_by c = λ no. one_missed _ c.args.parser.now.left c.in-Some.token (sym c.next.ensures.token ∙ c.in-Some.is) (picked_as c.args.parser.now.text c.in-Some.token assign_operators None (assigns _ c.in-Some.token.kind ∙ sym c.operator_by.ensures ∙ c.in_default-operator_by.is))

pub returns : goal.returns
returns c =
    let s = c.skip.ensures in
    let here = skipped_here s c.in-Some.token (sym c.next.ensures.token ∙ c.in-Some.is) in
    record {
      value = (c.in-Some-operator_by.op, c.in-Some.token);
      shown = record { holds = λ w f. refl };
      read = ap (take_one (picked (kind c.args.parser.now.text) assign_operators)) here ∙ ap (taken c.in-Some.token c.skip.new.self.left) (picked_as c.args.parser.now.text c.in-Some.token assign_operators (Some c.in-Some-operator_by.op) (assigns _ c.in-Some.token.kind ∙ sym c.operator_by.ensures ∙ c.in-Some-operator_by.is));
      after = s.after;
    }
