use Rattle.std.proofs.Common.{true}
use Rattle.qasm_ast.specs.View.{brackets_in}
use Rattle.const_eval.specs.Meaning.{meaning_in}
use Rattle.gate_arguments.specs.Seen.{scope_names}
use Rattle.gate_arguments.proofs.Constancy.{paid_indexes}
use Rattle.gate_arguments.proofs.argument.no_indexes.Goals as goal

pub unreachable-requires : goal.unreachable-requires
unreachable-requires g c =
    let held = paid_indexes (meaning_in c.args.program.now (scope_names (g.E.Constants.names c.args.scope.now.env.now) (g.E.GateEnv.inside c.args.scope.now.env.now) c.args.scope.now.body)) true c.args.budget.now c.indexes_at.new.budget (brackets_in c.args.program.now c.args.index.now) _ c.in-Ok.ensures.answer in
    let running = c.requires.running in
    cc
