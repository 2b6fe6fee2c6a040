use Rattle.std.proofs.Common.{◌≡◌, ◌++◌, drop}
use Rattle.core_ir.specs.Tree.{sequence, stmt_of}
use Rattle.phi_place.specs.Assigned.{cells_in}
use Rattle.phi_place.proofs.cells.assigned.Given as goal

-- the cells so far, and those of the statements that are left, are all
abbrev pub invariant-loop-k : goal.invariant-loop-k
invariant-loop-k l = l.cells.items ++ cells_in (sequence (stmt_of l.core.stmts) (drop l.k-index l.body)) ≡ cells_in (sequence (stmt_of l.core.stmts) l.body)
