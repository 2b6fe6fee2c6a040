use Rattle.std.proofs.Common.{pos, ◌<ℤ◌, arith}
use Rattle.std.proofs.lemmas.Int.{ints}
use Rattle.std.proofs.lemmas.Result.{err_from_is_err_and}
use Rattle.gate_lists.specs.Members.{AreNamed}
use Rattle.gate_lists.proofs.Copies.{power_fails}
use Rattle.gate_lists.proofs.list.power_list.Goals as goal

pub returns-in_err-inverses-clause-exact : goal.returns-in_err-inverses-clause-exact
returns-in_err-inverses-clause-exact c = λ worths.
    let p = err_from_is_err_and c.from_residual.result c.from_residual.ensures.1 in
    let below : c.args.exponent <ℤ pos 0 = omega (arith, ints) in
    rw (p.1, p.2) (power_fails c.args.budget.now c.args.place c.args.exponent _ c.in_err-inverses.field-0.0 below (c.in_err-inverses.ensures.exact worths))

pub returns-then-exponent-lt0-clause-named : goal.returns-then-exponent-lt0-clause-named
returns-then-exponent-lt0-clause-named c = λ turns all.
    let inner = c.in_ok-inverses.ensures.named turns all in
    let seen : AreNamed turns c.deref.result.now = rw c.deref.ensures.value inner in
    c.copied_list.ensures.named turns seen
