use Rattle.std.proofs.Common.{w32, FitsSigned, rules}
use Rattle.std.specs.Int.{w128}
use Rattle.std.proofs.lemmas.Int.{to_z-of_z}
use Rattle.gate_flatten.proofs.Exits.{at_exit}
use Rattle.gate_flatten.proofs.Modifying.{power_fails, power_outside, power_known}
use Rattle.gate_flatten.proofs.modifiers.modifier_at.Goals as goal

pub returns-in_err-number-in-Pow : goal.returns-in_err-number-in-Pow
returns-in_err-number-in-Pow g c = at_exit _ _ _ _ c.from_residual.ensures.1 (power_fails c.args.program.now _ _ c.args.budget.now _ _ _ _ c.in-Pow.is c.in_err-number-in-Pow.ensures)

pub returns-in_err-exponent-in-Pow : goal.returns-in_err-exponent-in-Pow
returns-in_err-exponent-in-Pow g c =
    let fits : FitsSigned w128 c.in_ok-number-in-Pow.number = search rules in
    let outside = rw (to_z-of_z w128 c.in_ok-number-in-Pow.number fits) at c.in_err-exponent-in-Pow.ensures in
    at_exit _ _ _ _ c.from_residual-in_err-exponent-in-Pow.ensures.1 (power_outside c.args.program.now _ _ _ _ _ _ _ _ c.in-Pow.is c.in_ok-number-in-Pow.ensures outside)

pub returns-in_ok-exponent-in-Pow : goal.returns-in_ok-exponent-in-Pow
returns-in_ok-exponent-in-Pow g c =
    let fits : FitsSigned w128 c.in_ok-number-in-Pow.number = search rules in
    let small : FitsSigned w32 c.in_ok-exponent-in-Pow.exponent = search rules in
    let inside = rw (to_z-of_z w128 c.in_ok-number-in-Pow.number fits) at c.in_ok-exponent-in-Pow.ensures in
    rw (to_z-of_z w32 c.in_ok-exponent-in-Pow.exponent small) (power_known c.args.program.now _ _ _ _ _ _ _ _ c.in-Pow.is c.in_ok-number-in-Pow.ensures inside)
