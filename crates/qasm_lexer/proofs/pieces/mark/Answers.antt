use Rattle.qasm_lexer.proofs.PieceFinds.{mark_found, no_mark_found}
use Rattle.qasm_lexer.proofs.pieces.mark.Goals as goal

pub returns-in-Some : goal.returns-in-Some
returns-in-Some c = λ version. mark_found version c.requires.0 c.requires.1 _ c.requires.2 c.requires.3 c.in-Some.ensures

pub returns-in-None : goal.returns-in-None
returns-in-None c = λ version. no_mark_found version _ c.requires.0 c.requires.1 c.requires.2 c.requires.3 c.in-None.ensures
