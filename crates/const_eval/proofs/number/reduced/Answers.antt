use Rattle.std.specs.Int.{w128}
use Rattle.std.proofs.lemmas.Int.{to_z-of_z}
use Rattle.const_eval.proofs.Counting.{kept_number}
use Rattle.const_eval.proofs.number.reduced.Goals as goal

pub returns-in_default : goal.returns-in_default
returns-in_default c =
    kept_number c.args.ty c.args.number _ c.in_default.not-Bit c.in_default.not-Int c.in_default.not-Uint (to_z-of_z w128 c.args.number c.ranges.number) c.requires.range
