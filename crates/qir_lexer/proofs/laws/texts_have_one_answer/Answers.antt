use Rattle.qir_lexer.proofs.Lexed.{one_text, one_breach, not_spoilt}
use Rattle.qir_lexer.proofs.laws.texts_have_one_answer.Goals as goal

pub returns : goal.returns
returns c = record { one_module = one_text; one_breach = one_breach; not_both = not_spoilt }
