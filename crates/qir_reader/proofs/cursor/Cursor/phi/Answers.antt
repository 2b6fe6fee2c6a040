use Rattle.std.proofs.Common.{not, ap, ◌∙◌}
use Rattle.std.proofs.lemmas.Result.{err_from_is_err_and}
use Rattle.grammar_parts.specs.Reading.{done, and_then}
use Rattle.qir_module.specs.Reader.{read_typed, read_phi_of}
use Rattle.qir_reader.proofs.Typed.{typed_on}
use Rattle.qir_reader.proofs.cursor.Cursor.phi.Goals as goal

pub returns-in_err-items : goal.returns-in_err-items
unfolding read_phi_of
returns-in_err-items c =
    let p = err_from_is_err_and c.from_residual-in_err-items.result c.from_residual-in_err-items.ensures.1 in
    rw (p.1, p.2) (λ other.
    ap (λ out. and_then out (λ t. read_typed (read_phi_of c.args.register))) c.in_ok-word.ensures.read
    ∙ typed_on (read_phi_of c.args.register) c.word.new.self c.is_truth.new.self c.in_ok-truth.truth c.in_ok-truth.ensures
    ∙ ap (λ out. and_then out (λ es. done (record { register = c.args.register; number = not c.in_ok-truth.truth; entries = es }))) (c.in_err-items.ensures other))
