use Rattle.qasm_lexer.proofs.PieceFinds.{word_found, name_found, name_too_long}
use Rattle.qasm_lexer.proofs.pieces.name.Goals as goal

pub returns-in-Some : goal.returns-in-Some
returns-in-Some c = λ version. word_found c.requires c.skip_passing-end.ensures version _ _ c.front_of-name.ensures.whole c.in-Some.ensures

pub returns-then-character_count-gt-MOST_CHARACTERS : goal.returns-then-character_count-gt-MOST_CHARACTERS
returns-then-character_count-gt-MOST_CHARACTERS c = λ version.
    name_too_long c.requires c.skip_passing-end.ensures version _ _ c.front_of-name.ensures.whole c.in_default.ensures c.character_count.ensures c.if-character_count-gt-MOST_CHARACTERS.true

pub returns : goal.returns
returns c = λ version.
    name_found c.requires c.skip_passing-end.ensures version _ _ c.front_of-name.ensures.whole c.in_default.ensures c.character_count.ensures c.if-character_count-gt-MOST_CHARACTERS.false
