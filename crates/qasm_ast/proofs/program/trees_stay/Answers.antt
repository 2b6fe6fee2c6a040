use Rattle.qasm_ast.proofs.Steps.{tree_of-append}
use Rattle.qasm_ast.proofs.program.trees_stay.Goals as goal

pub returns : goal.returns
returns c names more exprs later id fit lt = tree_of-append names more exprs later fit id lt
