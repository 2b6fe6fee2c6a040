use Rattle.std.proofs.Common.{sym, ap, ◌∙◌}
use Rattle.qasm_ast.specs.Tree.{no_bracket, qubit}
use Rattle.grammar_parts.specs.Reading.{take_one, taken}
use Rattle.qasm_grammar.specs.Parts.{hardware_of}
use Rattle.qasm_parser.proofs.Taking.{skipped_here, one_ended, one_missed}
use Rattle.program_parser.proofs.Putting.{hardware_none, hardware_some, hardware_stands}
use Rattle.program_parser.proofs.operands.hardware.Goals as goal

pub returns-in_default : goal.returns-in_default
returns-in_default c = λ no. one_ended hardware_of c.args.parser.now.left (sym c.next.ensures.token ∙ c.in_default.is)

pub returns-in_default-hardware_number : goal.returns-in_default-hardware_number
returns-in_default-hardware_number c = λ no. one_missed hardware_of c.args.parser.now.left c.in-Some.token (sym c.next.ensures.token ∙ c.in-Some.is) (hardware_none c.in-Some.token c.in-Some.token.kind (sym c.hardware_number.ensures ∙ c.in_default-hardware_number.is))

pub returns : goal.returns
returns c =
    let s = c.skip.ensures in
    let here = skipped_here s c.in-Some.token (sym c.next.ensures.token ∙ c.in-Some.is) in
    record {
      value = record { name = qubit c.in-Some-hardware_number.number; index = no_bracket; place = c.in-Some.token.at };
      shown = hardware_stands _ _ _ _ c.new.ensures.items;
      read = ap (take_one hardware_of) here ∙ ap (taken c.in-Some.token c.skip.new.self.left) (hardware_some c.in-Some.token c.in-Some.token.kind _ (sym c.hardware_number.ensures ∙ c.in-Some-hardware_number.is));
      after = s.after;
    }
