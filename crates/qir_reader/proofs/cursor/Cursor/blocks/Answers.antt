use Rattle.std.proofs.Common.{ap, ◌∙◌}
use Rattle.std.proofs.lemmas.Result.{err_from_is_err_and}
use Rattle.grammar_parts.specs.Reading.{done, and_then}
use Rattle.qir_reader.proofs.Blocks.{blocks_on, blocks_fail}
use Rattle.qir_reader.proofs.cursor.Cursor.blocks.Goals as goal

pub returns : goal.returns
returns c = blocks_on c.args.self.now c.some_blocks.new.self c.in_ok-found.found.items c.in_ok-found.ensures ∙ ap (λ out. and_then out (λ t. done c.in_ok-found.found.items)) c.in_ok-mark.ensures.read

pub returns-in_err-found : goal.returns-in_err-found
returns-in_err-found c =
    let p = err_from_is_err_and c.from_residual.result c.from_residual.ensures.1 in
    rw (p.1, p.2) (λ other. blocks_fail c.args.self.now _ (c.in_err-found.ensures other))

pub returns-in_err-mark : goal.returns-in_err-mark
returns-in_err-mark c =
    let p = err_from_is_err_and c.from_residual-in_err-mark.result c.from_residual-in_err-mark.ensures.1 in
    rw (p.1, p.2) (λ other. blocks_on c.args.self.now c.some_blocks.new.self c.in_ok-found.found.items c.in_ok-found.ensures ∙ ap (λ out. and_then out (λ t. done c.in_ok-found.found.items)) (c.in_err-mark.ensures other))
