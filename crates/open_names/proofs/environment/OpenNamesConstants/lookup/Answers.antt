use Rattle.std.proofs.Common.{◌<◌, length, None, Some, ap, sym, ◌∙◌, arith}
use Rattle.const_eval.specs.Things.{means_in}
use Rattle.open_names.specs.Standing.{things}
use Rattle.open_names.proofs.Things.{meanings_are_of_names, told_meaning, meaning-slot}
use Rattle.open_names.proofs.environment.OpenNamesConstants.lookup.Goals as goal

pub find-requires : goal.find-requires
find-requires g c =
    omega (arith, meanings_are_of_names (means_in (things c.args.self.now)) c.args.self.now.program.names 0 c.args.name (omega arith) c.requires)

pub returns-in-Some : goal.returns-in-Some
returns-in-Some g c =
    let v = c.args.self.now in
    let within : c.args.name < length v.program.names = omega (arith, meanings_are_of_names (means_in (things v)) v.program.names 0 c.args.name (omega arith) c.requires) in
    told_meaning v c.args.name within (Some c.in-Some.slot.now) c.in-Some.ensures ∙ ap Some (meaning-slot v.program c.in-Some.slot.now ∙ sym c.meaning.ensures)

pub returns-in-None : goal.returns-in-None
returns-in-None g c =
    let v = c.args.self.now in
    let within : c.args.name < length v.program.names = omega (arith, meanings_are_of_names (means_in (things v)) v.program.names 0 c.args.name (omega arith) c.requires) in
    told_meaning v c.args.name within None c.in-None.ensures
