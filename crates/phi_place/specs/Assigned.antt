-- For private contracts only: the cells that a statement assigns, one for each place that names them.
use Rattle.std.specs.Prelude.{ℕ, List, [], ◌++◌, map}
use Rattle.std.specs.Option.{option_to_list}
use Rattle.core_ir.specs.declared.statement.CoreStmt.{CoreStmt}
use Rattle.core_ir.specs.declared.statement.CoreStmt.TheVariants.{Assign as AssignNode, Measure as MeasureNode, If as IfNode, Block as BlockNode, Loop as LoopNode}
use Rattle.core_ir.specs.Tree.{Stmt, Skip, Seq, Assign, Gate, Reset, Measure, If, Block, Loop, Leave, Again}

abbrev pub cells_in : Stmt → List ℕ
cells_in Skip = []
cells_in (Seq a b) = cells_in a ++ cells_in b
cells_in (Assign pairs) = map (λ (p : ℕ × ℕ). p.0) pairs
cells_in (Gate leaf) = []
cells_in (Reset qubit) = []
cells_in (Measure qubit into) = option_to_list into
cells_in (If test a b) = cells_in a ++ cells_in b
cells_in (Block a) = cells_in a
cells_in (Loop a) = cells_in a
cells_in (Leave k) = []
cells_in (Again k) = []

-- those of a statement itself
abbrev pub own_cells : CoreStmt → List ℕ
own_cells (AssignNode pairs) = map (λ (p : ℕ × ℕ). p.0) pairs
own_cells (MeasureNode qubit into) = option_to_list into
own_cells _ = []

abbrev pub first_body : CoreStmt → List ℕ
first_body (IfNode test a b) = a
first_body (BlockNode a) = a
first_body (LoopNode a) = a
first_body _ = []

abbrev pub second_body : CoreStmt → List ℕ
second_body (IfNode test a b) = b
second_body _ = []
