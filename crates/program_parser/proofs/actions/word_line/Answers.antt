use Rattle.std.proofs.Common.{refl, sym, arith}
use Rattle.qasm_grammar.specs.Grammar.{at_one}
use Rattle.qasm_grammar.specs.Reader.{read_word_line}
use Rattle.qasm_parser.proofs.Growing.{after_on, fewer}
use Rattle.program_parser.specs.Shows.{plain_statement}
use Rattle.program_parser.proofs.Standing.{line_stands}
use Rattle.program_parser.proofs.Putting.{plain_in}
use Rattle.program_parser.proofs.actions.word_line.Goals as goal

pub returns : goal.returns
unfolding read_word_line
returns c =
    let w = c.in_ok-at.ensures in
    let s = c.in_ok-mark.ensures in
    record {
      value = at_one (plain_statement c.args.kind) w.value.at;
      shown = line_stands _ _ _ _ _ c.line.ensures (λ v f. let p = plain_in v c.args.kind c.requires w.value.at w.value.at in rw w.shown p);
      read = rw (w.read, sym w.after.text, s.read) refl;
      after = fewer 2 1 (omega arith) (after_on w.after s.after);
    }
