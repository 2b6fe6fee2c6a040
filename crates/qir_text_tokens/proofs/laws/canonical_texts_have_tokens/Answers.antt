use Rattle.qir_text_tokens.proofs.Found.{tokens_found}
use Rattle.qir_text_tokens.proofs.laws.canonical_texts_have_tokens.Goals as goal

pub returns : goal.returns
returns c = tokens_found c.tokens_are_right.ensures
