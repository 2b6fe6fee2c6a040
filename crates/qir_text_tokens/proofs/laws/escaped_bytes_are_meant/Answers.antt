use Rattle.qir_text_tokens.proofs.Found.{label_meant}
use Rattle.qir_text_tokens.proofs.laws.escaped_bytes_are_meant.Goals as goal

pub returns : goal.returns
returns c = label_meant
