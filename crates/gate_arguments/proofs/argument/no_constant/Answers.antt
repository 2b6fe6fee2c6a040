use Rattle.std.proofs.Common.{true}
use Rattle.qasm_ast.specs.View.{tree_in}
use Rattle.const_eval.specs.Meaning.{meaning_in}
use Rattle.gate_arguments.specs.Seen.{scope_names}
use Rattle.gate_arguments.proofs.Constancy.{paid_constant}
use Rattle.gate_arguments.proofs.argument.no_constant.Goals as goal

pub unreachable-requires : goal.unreachable-requires
unreachable-requires g c =
    let held = paid_constant (meaning_in c.args.program.now (scope_names (g.E.Constants.names c.args.scope.now.env.now) (g.E.GateEnv.inside c.args.scope.now.env.now) c.args.scope.now.body)) true c.args.budget.now c.constant_at.new.budget (tree_in c.args.program.now c.args.id.0) _ c.in-Ok.ensures in
    let running = c.requires.running in
    cc
