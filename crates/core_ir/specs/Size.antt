-- The size of a core: its weight bounds the items of the module that it is lowered to, its knots bound the
-- blocks, its calls those of gates, resets and measurements, and its joined cells the phis.
use Rattle.std.specs.Prelude.{ℕ, zero, suc, ◌+◌, ◌*◌, nat_eq, if◌then◌else◌, Bool, true, false, ◌&&◌, ◌||◌, List, [], ◌∷◌, length, map, Option, Some, slice_get}
use Rattle.std.specs.List.{list_any, flat_map}
use Rattle.core_ir.specs.declared.expression.CoreExpr.{CoreExpr}
use Rattle.core_ir.specs.declared.expression.CoreExpr.TheVariants.{Op as OpNode, Widen as WidenNode, Narrow as NarrowNode, Choose as ChooseNode}
use Rattle.core_ir.specs.declared.statement.GateArg.{GateArg}
use Rattle.core_ir.specs.declared.statement.GateArg.TheVariants.{Unused, Units, Running}
use Rattle.core_ir.specs.declared.statement.LeafCall.{LeafCall}
use Rattle.core_ir.specs.Core.{Core}
use Rattle.core_ir.specs.Tree.{Stmt, Skip, Seq, Assign, Gate, Reset, Measure, If, Block, Loop, Leave, Again, program_of}
use Rattle.core_ir.specs.Ways.{Falls, assigns, reaches, Before, begin, after, loop_start}

-- how many of n numbers from k on pass
abbrev pub count_from : (ℕ → Bool) → ℕ → ℕ → ℕ
count_from test k zero = 0
count_from test k (suc n) = if test k then suc (count_from test (suc k) n) else count_from test (suc k) n

-- ---- working nodes

abbrev pub is_working : Option CoreExpr → Bool
is_working (Some (OpNode op a b)) = true
is_working (Some (WidenNode a)) = true
is_working (Some (NarrowNode a)) = true
is_working (Some (ChooseNode test a b)) = true
is_working _ = false

-- the expressions that an expression names
abbrev pub operands_of : Option CoreExpr → List ℕ
operands_of (Some (OpNode op a b)) = a ∷ b ∷ []
operands_of (Some (WidenNode a)) = a ∷ []
operands_of (Some (NarrowNode a)) = a ∷ []
operands_of (Some (ChooseNode test a b)) = test ∷ a ∷ b ∷ []
operands_of _ = []

-- whether expression e reaches expression k, going down at most so many levels
abbrev pub reaches_within : List CoreExpr → ℕ → ℕ → ℕ → Bool
reaches_within exprs zero k e = false
reaches_within exprs (suc levels) k e = nat_eq e k || list_any (reaches_within exprs levels k) (operands_of (slice_get exprs e))

-- An expression names smaller numbers only, so no way down is longer than its own number.
unfoldable pub reaches_expr : List CoreExpr → ℕ → ℕ → Bool
reaches_expr exprs k e = reaches_within exprs (suc e) k e

-- whether one of the expressions reaches expression k
abbrev pub is_reached : List CoreExpr → List ℕ → ℕ → Bool
is_reached exprs roots k = list_any (reaches_expr exprs k) roots

-- each is counted once, however many of the expressions reach it
abbrev pub working_nodes : List CoreExpr → List ℕ → ℕ
working_nodes exprs roots = count_from (λ k. is_working (slice_get exprs k) && is_reached exprs roots k) 0 (length exprs)

abbrev pub running_in : GateArg → List ℕ
running_in (Running e) = e ∷ []
running_in (Units z) = []
running_in Unused = []

-- the expressions of a gate's arguments
abbrev pub leaf_exprs : LeafCall → List ℕ
leaf_exprs leaf = flat_map running_in leaf.args

abbrev pub pair_exprs : List (ℕ × ℕ) → List ℕ
pair_exprs pairs = map (λ (p : ℕ × ℕ). p.1) pairs

-- ---- weight

-- the open ones of n cells
abbrev pub open_cells : ℕ → Before → ℕ
open_cells n at = count_from at.open_cell 0 n

abbrev pub at_level : List ℕ → ℕ → ℕ
at_level [] k = 0
at_level (x ∷ xs) zero = x
at_level (x ∷ xs) (suc k) = at_level xs k

-- Of n cells, from a place: `ends` and `starts` are the open cells at the ends of the enclosing blocks and
-- loops, and at the starts of the enclosing loops.
abbrev pub weight_of : ℕ → List CoreExpr → Stmt → Before → List ℕ → List ℕ → ℕ
weight_of n exprs Skip at ends starts = 0
weight_of n exprs (Seq a b) at ends starts = weight_of n exprs a at ends starts + weight_of n exprs b (after exprs a Falls at) ends starts
weight_of n exprs (Assign pairs) at ends starts = working_nodes exprs (pair_exprs pairs)
weight_of n exprs (Gate leaf) at ends starts = 1 + working_nodes exprs (leaf_exprs leaf)
weight_of n exprs (Reset qubit) at ends starts = 1
weight_of n exprs (Measure qubit into) at ends starts = 2
weight_of n exprs (If test a b) at ends starts =
    6 + working_nodes exprs (test ∷ []) + 2 * open_cells n (after exprs (If test a b) Falls at)
    + weight_of n exprs a at ends starts + weight_of n exprs b at ends starts
weight_of n exprs (Block a) at ends starts =
    let behind = open_cells n (after exprs (Block a) Falls at) in
    2 + behind + weight_of n exprs a at (behind ∷ ends) starts
weight_of n exprs (Loop a) at ends starts =
    let behind = open_cells n (after exprs (Loop a) Falls at) in
    let start = open_cells n (loop_start exprs a at) in
    4 + start + behind + weight_of n exprs a (loop_start exprs a at) (behind ∷ ends) (start ∷ starts)
weight_of n exprs (Leave k) at ends starts = 1 + at_level ends k
weight_of n exprs (Again k) at ends starts = 1 + at_level starts k

-- each output weighs 1
abbrev pub weight : Core → ℕ
weight core = weight_of (length core.cells) core.exprs (program_of core) begin [] [] + length core.outputs

-- ---- knots, calls and joined cells

abbrev pub knots_of : Stmt → ℕ
knots_of (Seq a b) = knots_of a + knots_of b
-- with one body that never reaches its end there is no block behind
knots_of (If test a b) = (if reaches a Falls && reaches b Falls then 3 else 2) + knots_of a + knots_of b
knots_of (Block a) = 1 + knots_of a
knots_of (Loop a) = 2 + knots_of a
knots_of Skip = 0
knots_of (Assign pairs) = 0
knots_of (Gate leaf) = 0
knots_of (Reset qubit) = 0
knots_of (Measure qubit into) = 0
knots_of (Leave k) = 0
knots_of (Again k) = 0

abbrev pub knots : Core → ℕ
knots core = knots_of (program_of core)

-- statements that apply a gate, reset a qubit or measure one
abbrev pub calls_of : Stmt → ℕ
calls_of Skip = 0
calls_of (Seq a b) = calls_of a + calls_of b
calls_of (Assign pairs) = 0
calls_of (Gate leaf) = 1
calls_of (Reset qubit) = 1
calls_of (Measure qubit into) = 1
calls_of (If test a b) = calls_of a + calls_of b
calls_of (Block a) = calls_of a
calls_of (Loop a) = calls_of a
calls_of (Leave k) = 0
calls_of (Again k) = 0

abbrev pub calls : Core → ℕ
calls core = calls_of (program_of core)

-- at each end of an `If`, `Block` or `Loop` and each start of a `Loop`, the open cells that its body or
-- bodies assign
abbrev pub joined_of : ℕ → List CoreExpr → Stmt → Before → ℕ
joined_of n exprs Skip at = 0
joined_of n exprs (Seq a b) at = joined_of n exprs a at + joined_of n exprs b (after exprs a Falls at)
joined_of n exprs (Assign pairs) at = 0
joined_of n exprs (Gate leaf) at = 0
joined_of n exprs (Reset qubit) at = 0
joined_of n exprs (Measure qubit into) at = 0
joined_of n exprs (If test a b) at =
    count_from (λ c. (after exprs (If test a b) Falls at).open_cell c && (assigns a c || assigns b c)) 0 n
    + joined_of n exprs a at + joined_of n exprs b at
joined_of n exprs (Block a) at =
    count_from (λ c. (after exprs (Block a) Falls at).open_cell c && assigns a c) 0 n + joined_of n exprs a at
joined_of n exprs (Loop a) at =
    count_from (λ c. (loop_start exprs a at).open_cell c && assigns a c) 0 n
    + count_from (λ c. (after exprs (Loop a) Falls at).open_cell c && assigns a c) 0 n
    + joined_of n exprs a (loop_start exprs a at)
joined_of n exprs (Leave k) at = 0
joined_of n exprs (Again k) at = 0

abbrev pub joined_cells : Core → ℕ
joined_cells core = joined_of (length core.cells) core.exprs (program_of core) begin
