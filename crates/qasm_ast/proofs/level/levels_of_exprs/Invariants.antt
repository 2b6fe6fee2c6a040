use Rattle.qasm_ast.specs.Shallow.{ExprLevels}
use Rattle.qasm_ast.proofs.level.levels_of_exprs.Given as goal

abbrev pub invariant-loop-expr : goal.invariant-loop-expr
invariant-loop-expr l = ExprLevels l.exprs l.levels.items l.expr-index
