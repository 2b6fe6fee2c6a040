use Rattle.std.proofs.Common.{refl, sym, ap, arith}
use Rattle.qasm_lexer.specs.declared.token.Token.{Token}
use Rattle.qasm_ast.specs.Tree.{include}
use Rattle.qasm_grammar.specs.Grammar.{at_one}
use Rattle.qasm_grammar.specs.Reader.{read_inclusion}
use Rattle.qasm_parser.proofs.Growing.{after_on, fewer}
use Rattle.program_parser.proofs.Standing.{line_stands}
use Rattle.program_parser.proofs.inclusion.inclusion.Goals as goal

pub returns : goal.returns
unfolding read_inclusion
returns c =
    let w = c.in_ok-at.ensures in
    let i = c.in_ok-included.ensures in
    let s = c.in_ok-mark.ensures in
    record {
      value = at_one include w.value.at;
      shown = line_stands _ _ _ _ _ c.line.ensures (λ v f. (tt, ap (λ (t : Token). include t.at t.at) w.shown));
      read = rw (w.read, sym w.after.text, i.read, sym i.after.text, s.read) refl;
      after = fewer 3 1 (omega arith) (after_on w.after (after_on i.after s.after));
    }
