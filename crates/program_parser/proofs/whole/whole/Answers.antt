use Rattle.std.proofs.Common.{refl, sym}
use Rattle.qasm_grammar.specs.Reader.{read_program}
use Rattle.program_parser.proofs.Exits.{handed}
use Rattle.program_parser.proofs.Bodies.{all_statements}
use Rattle.program_parser.proofs.whole.whole.Goals as goal

pub returns-in_err-version : goal.returns-in_err-version
unfolding read_program
returns-in_err-version c = handed _ _ _ _ _ _ c.from_residual.ensures (λ no. rw (c.in_err-version.ensures no) refl)

pub returns : goal.returns
unfolding read_program
returns c =
    let v = c.in_ok-version.ensures in
    all_statements _ _ _ c.stmts.result _ _ v.after (rw (v.read, sym v.after.text) refl) c.stmts.ensures
