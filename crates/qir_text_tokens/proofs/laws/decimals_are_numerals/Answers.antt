use Rattle.qir_text_tokens.proofs.Found.{numeral_of}
use Rattle.qir_text_tokens.proofs.laws.decimals_are_numerals.Goals as goal

pub returns : goal.returns
returns c = numeral_of
