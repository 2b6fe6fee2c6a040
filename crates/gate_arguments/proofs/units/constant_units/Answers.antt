use Rattle.std.proofs.Common.{ap, sym, Ok}
use Rattle.gate_arguments.proofs.Parts.{angle_fits, angle_read}
use Rattle.gate_arguments.proofs.units.constant_units.Goals as goal

pub overflow_cast-result-in-Angle : goal.overflow_cast-result-in-Angle
overflow_cast-result-in-Angle c = angle_fits c.in-Angle.angle.count c.in-Angle.angle.width c.in-Angle.angle.below c.in-Angle.angle.fits

pub returns-in-Angle : goal.returns-in-Angle
returns-in-Angle c = rw c.in-Angle.is (ap Ok (sym (angle_read c.in-Angle.angle.count c.in-Angle.angle.width c.in-Angle.angle.below c.in-Angle.angle.fits)))
