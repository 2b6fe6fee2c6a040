use Rattle.std.proofs.Common.{◌+◌, ◌*◌}
use Rattle.qasm_ast.specs.Size.{size_of}
use Rattle.qasm_ast.specs.View.{tree_in}
use Rattle.gate_arguments.proofs.argument.+argument_at.Given as goal

abbrev pub decreases-argument_at : goal.decreases-argument_at
decreases-argument_at g l = 3 * size_of (tree_in l.program.now l.id.0) + 1

abbrev pub decreases-turn_at : goal.decreases-turn_at
decreases-turn_at g l = 3 * size_of (tree_in l.program.now l.id.0)

abbrev pub decreases-operand_at : goal.decreases-operand_at
decreases-operand_at g l = 3 * size_of (tree_in l.program.now l.id.0) + 2
