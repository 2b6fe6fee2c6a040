use Rattle.grammar_parts.proofs.Taking.{answers_one}
use Rattle.grammar_parts.proofs.laws.token_is_read_exactly.Goals as goal

pub returns : goal.returns
returns g c = answers_one
