use Rattle.std.proofs.Common.{◌≡◌, ◌++◌, ◌-◌, length, drop}
use Rattle.core_ir.specs.Tree.{sequence, stmt_of}
use Rattle.phi_place.specs.Assigned.{cells_in, second_body}
use Rattle.phi_place.proofs.cells.+add_cells.Given as goal

abbrev pub decreases-add_cells : goal.decreases-add_cells
decreases-add_cells l = length l.stmts.now - l.k

-- the cells so far, and those of the statements that are left, are all
abbrev pub invariant-loop-j : goal.invariant-loop-j
invariant-loop-j l =
    l.cells.items ++ (cells_in (sequence (stmt_of l.stmts) (drop l.j-index l.j-items)) ++ cells_in (sequence (stmt_of l.stmts) (second_body l.stmt)))
    ≡ l.fn.cells.items ++ cells_in (stmt_of l.stmts l.k)

abbrev pub invariant-loop-i : goal.invariant-loop-i
invariant-loop-i l = l.cells.items ++ cells_in (sequence (stmt_of l.stmts) (drop l.i-index l.i-items)) ≡ l.fn.cells.items ++ cells_in (stmt_of l.stmts l.k)
