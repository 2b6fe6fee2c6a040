-- For private contracts only: the levels around a statement, found from its number downwards.
use Rattle.std.specs.Prelude.{ℕ, zero, suc, ◌+◌, ◌<◌, nat_lt, if◌then◌else◌, Bool, true, false, List, length, Option, Some, slice_get}
use Rattle.core_ir.specs.declared.statement.CoreStmt.{CoreStmt}
use Rattle.core_ir.specs.declared.statement.CoreStmt.TheVariants.{Block as BlockNode, Loop as LoopNode, Leave as LeaveNode, Again as AgainNode}
use Rattle.core_ir.specs.WellFormed.{inner_of, times}

-- the levels that a statement opens: of loops alone, or of blocks too
abbrev pub opens : Bool → Option CoreStmt → ℕ
opens true (Some (BlockNode a)) = 0
opens false (Some (BlockNode a)) = 1
opens loops (Some (LoopNode a)) = 1
opens loops _ = 0

abbrev pub holds : Option CoreStmt → ℕ → Bool
holds o k = nat_lt 0 (times k (inner_of o))

-- around statement k, which stands in the body of one of the first n statements, or of none
abbrev pub levels_below : Bool → List CoreStmt → ℕ → ℕ → ℕ
levels_below loops stmts zero k = 0
levels_below loops stmts (suc n) k =
    if holds (slice_get stmts n) k then opens loops (slice_get stmts n) + levels_below loops stmts n n else levels_below loops stmts n k

abbrev pub LevelFits : List CoreStmt → ℕ → Option CoreStmt → Type 0
LevelFits stmts k (Some (LeaveNode n)) = n < levels_below false stmts k k
LevelFits stmts k (Some (AgainNode n)) = n < levels_below true stmts k k
LevelFits stmts k _ = Unit {0}

abbrev pub LevelsFit : List CoreStmt → Type 0
LevelsFit stmts = (k : ℕ) → k < length stmts → LevelFits stmts k (slice_get stmts k)

-- with so many blocks and loops, and loops alone, around a statement: what it leaves or goes back to is there
abbrev pub JumpHas : Option CoreStmt → ℕ → ℕ → Type 0
JumpHas (Some (LeaveNode n)) ends starts = n < ends
JumpHas (Some (AgainNode n)) ends starts = n < starts
JumpHas _ ends starts = Unit {0}
