use Rattle.std.proofs.Common.{ap, ◌∙◌}
use Rattle.qir_module.specs.Lexer.{step_by}
use Rattle.qir_lexer.proofs.Finding.{text_found}
use Rattle.qir_lexer.proofs.piece.first_token.Goals as goal

pub returns-in-Some-quoted_size : goal.returns-in-Some-quoted_size
returns-in-Some-quoted_size c = text_found c.args.text.now c.in-Some-quoted_size.size c.in-Some-quoted_size.ensures.count c.in-Some-quoted_size.ensures.inside ∙ ap (λ l. step_by l c.args.first c.args.text.now) c.in-Quote.ensures
