use Rattle.std.proofs.Common.{sym, subst}
use Rattle.std.proofs.lemmas.Result.{err_from_is_err_and}
use Rattle.qasm_ast.specs.View.{tree_in}
use Rattle.const_eval.specs.Answers.{Fails}
use Rattle.const_eval.specs.Meaning.{meaning_in}
use Rattle.const_eval.specs.Seen.{constant_of}
use Rattle.subroutine_inline.specs.Seen.{width_at}
use Rattle.subroutine_inline.proofs.Typing.{width_fails}
use Rattle.subroutine_inline.proofs.parameters.written_type.Goals as goal

pub returns-in_err-bits-clause-answer : goal.returns-in_err-bits-clause-answer
returns-in_err-bits-clause-answer g c =
    let p = err_from_is_err_and c.from_residual-in_err-bits.result c.from_residual-in_err-bits.ensures.1 in
    let t = tree_in c.args.program.now c.in-Some.width.0 in
    let fails = subst (λ at. Fails c.in_err-bits.field-0.0 (width_at c.args.ty.now.base at (constant_of c.in_ok-value.value))) (sym c.expr.ensures.place) c.in_err-bits.ensures.answer in
    rw (p.1, p.2, c.in-Some.is) (width_fails (meaning_in c.args.program.now (g.S.Constants.names c.args.inside.now)) c.args.ty.now.base c.args.ty.now.at t (constant_of c.in_ok-value.value) c.in_err-bits.field-0.0 c.in_ok-value.ensures.answer fails)
