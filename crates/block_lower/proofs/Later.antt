-- The statements of a core: what their bodies name, and their trees.
use Rattle.std.proofs.Common.{◌≡◌, ℕ, ◌+◌, ◌<◌, All, List, [], ◌∷◌, ◌++◌, length, get_or, Some, sym, ap, ◌∙◌, subst, arith}
use Rattle.std.specs.Prelude.{slice_get}
use Rattle.std.specs.List.{AllByRecursion}
use Rattle.std.proofs.lemmas.Option.{slice_get-get_or}
use Rattle.std.proofs.lemmas.List.Elements.{recursion_from_All, All-from_recursion}
use Rattle.core_ir.specs.declared.statement.CoreStmt.{CoreStmt}
use Rattle.core_ir.specs.declared.statement.CoreStmt.TheVariants.{Assign as AssignNode, Gate as GateNode, Reset as ResetNode, Measure as MeasureNode, If as IfNode, Block as BlockNode, Loop as LoopNode, Leave as LeaveNode, Again as AgainNode}
use Rattle.core_ir.specs.Laws.{StmtsUnfold}
use Rattle.core_ir.specs.Tree.{node_stmt, stmt_of}
use Rattle.core_ir.specs.WellFormed.{inner_of, IsLater, NamesLater}
use Rattle.phi_place.specs.Assigned.{first_body, second_body}
use Rattle.block_lower.specs.Parts.{AreLater}

all_left : (P : ℕ → Type 0) (xs ys : List ℕ) → AllByRecursion P (xs ++ ys) → AllByRecursion P xs
all_left P [] ys all = tt
all_left P (x ∷ xs) ys all = (all.0, all_left P xs ys all.1)

all_right : (P : ℕ → Type 0) (xs ys : List ℕ) → AllByRecursion P (xs ++ ys) → AllByRecursion P ys
all_right P [] ys all = all
all_right P (x ∷ xs) ys all = all_right P xs ys all.1

later_from : (k count : ℕ) (js : List ℕ) → AllByRecursion (IsLater k count) js → AllByRecursion (AreLater (k + 1) count) js
later_from k count [] all = tt
later_from k count (j ∷ js) all = ((omega (arith, all.0.0), all.0.1), later_from k count js all.1)

inner_first : (k count : ℕ) (s : CoreStmt) → AllByRecursion (IsLater k count) (inner_of (Some s)) → AllByRecursion (IsLater k count) (first_body s)
inner_first k count (IfNode test a b) all = all_left (IsLater k count) a b all
inner_first k count (BlockNode a) all = all
inner_first k count (LoopNode a) all = all
inner_first k count (AssignNode pairs) all = tt
inner_first k count (GateNode leaf) all = tt
inner_first k count (ResetNode qubit) all = tt
inner_first k count (MeasureNode qubit into) all = tt
inner_first k count (LeaveNode n) all = tt
inner_first k count (AgainNode n) all = tt

inner_second : (k count : ℕ) (s : CoreStmt) → AllByRecursion (IsLater k count) (inner_of (Some s)) → AllByRecursion (IsLater k count) (second_body s)
inner_second k count (IfNode test a b) all = all_right (IsLater k count) a b all
inner_second k count (BlockNode a) all = tt
inner_second k count (LoopNode a) all = tt
inner_second k count (AssignNode pairs) all = tt
inner_second k count (GateNode leaf) all = tt
inner_second k count (ResetNode qubit) all = tt
inner_second k count (MeasureNode qubit into) all = tt
inner_second k count (LeaveNode n) all = tt
inner_second k count (AgainNode n) all = tt

get_is : (stmts : List CoreStmt) (k : ℕ) (s : CoreStmt) → k < length stmts → s ≡ get_or stmts k s → slice_get stmts k ≡ Some s
get_is stmts k s l is = slice_get-get_or stmts k s l ∙ ap Some (sym is)

inner_at : (stmts : List CoreStmt) (k : ℕ) (s : CoreStmt) → NamesLater stmts → k < length stmts → s ≡ get_or stmts k s → AllByRecursion (IsLater k (length stmts)) (inner_of (Some s))
inner_at stmts k s later l is = subst (λ o. AllByRecursion (IsLater k (length stmts)) (inner_of o)) (get_is stmts k s l is) (recursion_from_All (IsLater k (length stmts)) (inner_of (slice_get stmts k)) (later k l))

pub first_later : (stmts : List CoreStmt) (k : ℕ) (s : CoreStmt) → NamesLater stmts → k < length stmts → s ≡ get_or stmts k s → All (AreLater (k + 1) (length stmts)) (first_body s)
first_later stmts k s later l is =
    All-from_recursion (AreLater (k + 1) (length stmts)) (first_body s) (later_from k (length stmts) (first_body s) (inner_first k (length stmts) s (inner_at stmts k s later l is)))

pub second_later : (stmts : List CoreStmt) (k : ℕ) (s : CoreStmt) → NamesLater stmts → k < length stmts → s ≡ get_or stmts k s → All (AreLater (k + 1) (length stmts)) (second_body s)
second_later stmts k s later l is =
    All-from_recursion (AreLater (k + 1) (length stmts)) (second_body s) (later_from k (length stmts) (second_body s) (inner_second k (length stmts) s (inner_at stmts k s later l is)))

-- a statement's tree, by its node
pub tree_is : (stmts : List CoreStmt) (k : ℕ) (s : CoreStmt) → StmtsUnfold → NamesLater stmts → k < length stmts → s ≡ get_or stmts k s → stmt_of stmts k ≡ node_stmt (stmt_of stmts) (Some s)
tree_is stmts k s unfolds later l is = unfolds stmts k later ∙ ap (node_stmt (stmt_of stmts)) (get_is stmts k s l is)
