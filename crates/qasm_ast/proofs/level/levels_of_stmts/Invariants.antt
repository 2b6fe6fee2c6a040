use Rattle.qasm_ast.specs.Shallow.{StmtLevels}
use Rattle.qasm_ast.proofs.level.levels_of_stmts.Given as goal

abbrev pub invariant-loop-stmt : goal.invariant-loop-stmt
invariant-loop-stmt l = StmtLevels l.fn.exprs l.stmts l.bodies.items l.stmt-index
