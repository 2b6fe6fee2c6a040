use Rattle.qir_text_tokens.proofs.Found.{named_row}
use Rattle.qir_text_tokens.proofs.laws.functions_have_names.Goals as goal

pub returns : goal.returns
returns c = named_row
