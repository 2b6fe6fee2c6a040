use Rattle.qasm_lexer.proofs.Closing.{lone_slash, line_comment, block_comment, open_comment}
use Rattle.qasm_lexer.proofs.gaps.comment.Goals as goal

pub returns-in-Some : goal.returns-in-Some
returns-in-Some c = line_comment c.requires c.in-Some.ensures c.skip_passing.ensures

pub returns-in_default-skip_char : goal.returns-in_default-skip_char
returns-in_default-skip_char c = lone_slash c.requires c.in_default.ensures c.in_default-skip_char.ensures

pub returns-in-Some-skip_close : goal.returns-in-Some-skip_close
returns-in-Some-skip_close c = block_comment c.requires c.in-Some-skip_char.ensures c.in-Some-skip_close.ensures

pub returns-in-None : goal.returns-in-None
returns-in-None c = open_comment c.requires c.in-Some-skip_char.ensures c.in-None.ensures
