use Rattle.std.proofs.Common.{arith}
use Rattle.const_eval.specs.Nodes.{nodes_of}
use Rattle.qasm_ast.specs.View.{tree_in}
use Rattle.gate_arguments.proofs.Paying.{overspent}
use Rattle.gate_arguments.proofs.nodes.pay_nodes.Goals as goal

pub returns-then-count-most : goal.returns-then-count-most
returns-then-count-most c = rw c.refused.ensures (overspent c.args.budget.now (nodes_of (tree_in c.args.program.now c.args.id.0)) (omega arith))
