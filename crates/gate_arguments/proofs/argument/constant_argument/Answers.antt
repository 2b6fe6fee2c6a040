use Rattle.std.proofs.Common.{true}
use Rattle.qasm_ast.specs.View.{tree_in}
use Rattle.const_eval.specs.Meaning.{meaning_in}
use Rattle.const_eval.specs.Seen.{constant_of}
use Rattle.gate_arguments.specs.Seen.{scope_names}
use Rattle.gate_arguments.proofs.Constancy.{paid_constant}
use Rattle.gate_arguments.proofs.argument.constant_argument.Goals as goal

pub returns-clause-constancy : goal.returns-clause-constancy
returns-clause-constancy g c = paid_constant (meaning_in c.args.program.now (scope_names (g.E.Constants.names c.args.scope.now.env.now) (g.E.GateEnv.inside c.args.scope.now.env.now) c.args.scope.now.body)) true c.args.budget.now c.constant_at.new.budget (tree_in c.args.program.now c.args.id.0) (constant_of c.in_ok-value.value) c.in_ok-value.ensures
