use Rattle.std.proofs.Common.{◌≡◌, drop}
use Rattle.qasm_ast.specs.Size.{statement_size, statements_size}
use Rattle.qasm_ast.specs.View.{statement_in, statements_in}
use Rattle.qasm_ast.specs.Walks.{any_loops}
use Rattle.qasm_ast.proofs.walks.+loops.Given as goal

abbrev pub decreases-loops : goal.decreases-loops
decreases-loops l = statement_size (statement_in l.program.now l.id.0)

abbrev pub decreases-any_loops : goal.decreases-any_loops
decreases-any_loops l = statements_size (statements_in l.program.now l.ids.now)

-- no member so far has a loop
abbrev pub invariant-any_loops-loop-id : goal.invariant-any_loops-loop-id
invariant-any_loops-loop-id l = any_loops (statements_in l.program l.ids) ≡ any_loops (statements_in l.program (drop l.id-index l.ids))
