-- Laws of the elaboration, and of the core as a tree.
use Rattle.std.specs.Prelude.{◌≡◌, ℕ, Bool, List, Result, Ok, Err}
use Rattle.qq_base.specs.declared.refusal.Refusal.{Refusal}
use Rattle.qq_base.specs.declared.refusal.Span.{Span}
use Rattle.qasm_ast.specs.Tree.{Statements}
use Rattle.core_ir.specs.Run.{Cells, Rest}
use Rattle.source_meaning.specs.GateCalls.{Expands}
use Rattle.source_meaning.specs.Walked.{Walked}
use Rattle.source_meaning.specs.Source.{walked}
use Rattle.source_core.specs.Core.{Body, joined}
use Rattle.source_core.specs.CoreRun.{body_meaning}
use Rattle.source_core.specs.Gates.{Lists}
use Rattle.source_core.specs.Made.{Made, walked_of}
use Rattle.source_core.specs.Elaborated.{elaborated}

-- what an elaboration has come to, without its cells and its core
abbrev pub come_to : Result (Made (Unit {0})) Refusal → Result Walked Refusal
come_to (Ok m) = Ok (walked_of m.work)
come_to (Err refusal) = Err refusal

-- A program is elaborated exactly where its walk refuses nothing: else it is refused by the rule of the walk, at its place. What it has come
-- to is what the walk has come to: what names stand for, the outputs, the cost, the joints and the sites.
abbrev pub ElaborationFollowsTheWalk : Type 0
ElaborationFollowsTheWalk = (expand : Expands) (lists : Lists) (top : Statements) (place : Span) → walked expand top place ≡ come_to (elaborated expand lists top place)

-- a body behind a body runs behind it
abbrev pub JoinedBodiesRunInOrder : Type 0
JoinedBodiesRunInOrder = (a b : Body) (ends starts : List Rest) (next : Rest) (cells : Cells) (outcomes : List Bool) (turns : ℕ)
    → body_meaning (joined a b) ends starts next cells outcomes turns ≡ body_meaning a ends starts (body_meaning b ends starts next) cells outcomes turns
