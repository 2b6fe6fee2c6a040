use Rattle.qir_lexer.proofs.Scanning.{half_read}
use Rattle.qir_lexer.proofs.scan.behind.Goals as goal

pub returns-in-Opened : goal.returns-in-Opened
returns-in-Opened c = λ text. rw (c.in-Opened.is) (half_read 0 _ text)
