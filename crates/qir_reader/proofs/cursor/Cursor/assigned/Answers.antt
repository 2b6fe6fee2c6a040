use Rattle.std.proofs.Common.{sym, ◌∙◌}
use Rattle.std.proofs.lemmas.Result.{err_from_is_err_and}
use Rattle.qir_reader.proofs.Assigned.{phi_fails}
use Rattle.qir_reader.proofs.cursor.Cursor.assigned.Goals as goal

pub returns-in_err-phi : goal.returns-in_err-phi
returns-in_err-phi c =
    let p = err_from_is_err_and c.from_residual-in_err-phi.result c.from_residual-in_err-phi.ensures.1 in
    rw (p.1, p.2, c.if-not-phis.false) (λ other. phi_fails c.args.register c.args.self.now (sym c.sees_instruction.ensures ∙ c.if-sees_instruction.false) (sym c.sees_word.ensures ∙ c.if-sees_word.true) (c.in_err-phi.ensures other))
