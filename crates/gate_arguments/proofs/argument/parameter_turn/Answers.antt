use Rattle.gate_arguments.proofs.Naming.{turn_of_running}
use Rattle.gate_arguments.proofs.argument.parameter_turn.Goals as goal

pub unreachable-requires : goal.unreachable-requires
unreachable-requires g c =
    let t = turn_of_running (g.E.Constants.names c.args.scope.now.env.now) (g.E.GateEnv.inside c.args.scope.now.env.now) c.args.scope.now.body c.args.name c.requires.in_body c.requires.running in
    let found = t.1 in
    let none = c.in-None.ensures in
    cc
