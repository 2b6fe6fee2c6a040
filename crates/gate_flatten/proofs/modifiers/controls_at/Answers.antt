use Rattle.std.proofs.Common.{w32, FitsSigned, rules}
use Rattle.std.specs.Int.{w128}
use Rattle.std.proofs.lemmas.Int.{to_z-of_z}
use Rattle.gate_flatten.proofs.Exits.{at_exit}
use Rattle.gate_flatten.proofs.Modifying.{controls_fail, controls_outside, controls_known}
use Rattle.gate_flatten.proofs.modifiers.controls_at.Goals as goal

pub returns-in_err-number : goal.returns-in_err-number
returns-in_err-number g c = at_exit _ _ _ _ c.from_residual.ensures.1 (controls_fail c.args.program.now _ _ c.args.budget.now _ _ _ c.in-Some.is _ c.in_err-number.ensures)

pub returns-in_err-controls : goal.returns-in_err-controls
returns-in_err-controls g c =
    let fits : FitsSigned w128 c.in_ok-number.number = search rules in
    let outside = rw (to_z-of_z w128 c.in_ok-number.number fits) at c.in_err-controls.ensures in
    at_exit _ _ _ _ c.from_residual-in_err-controls.ensures.1 (controls_outside c.args.program.now _ _ _ _ _ _ c.in-Some.is _ _ c.in_ok-number.ensures outside)

pub returns : goal.returns
returns g c =
    let fits : FitsSigned w128 c.in_ok-number.number = search rules in
    let small : FitsSigned w32 c.in_ok-controls.controls = search rules in
    let inside = rw (to_z-of_z w128 c.in_ok-number.number fits) at c.in_ok-controls.ensures in
    let value = rw (to_z-of_z w32 c.in_ok-controls.controls small) at c.unsigned_abs.ensures.value in
    rw value (controls_known c.args.program.now _ _ _ _ _ _ c.in-Some.is _ _ c.in_ok-number.ensures inside)
