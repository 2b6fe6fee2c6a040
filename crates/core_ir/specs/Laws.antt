-- The laws by which the layers above take a core apart.
use Rattle.std.specs.Prelude.{◌≡◌, ℕ, ◌<◌, ◌≤◌, List, length, map, slice_get, Some}
use Rattle.std.specs.List.{AllByRecursion}
use Rattle.qir_module.specs.Machine.{Value, Word, Holds}
use Rattle.core_ir.specs.declared.expression.CellKind.{CellKind}
use Rattle.core_ir.specs.declared.expression.CellKind.TheVariants.{Truth as TruthKind, Number as NumberKind}
use Rattle.core_ir.specs.declared.expression.CoreExpr.{CoreExpr}
use Rattle.core_ir.specs.declared.statement.CoreStmt.{CoreStmt}
use Rattle.core_ir.specs.Tree.{Expr, node_expr, expr_of, node_stmt, stmt_of}
use Rattle.core_ir.specs.Run.{Cells, value_of}
use Rattle.core_ir.specs.Size.{operands_of}
use Rattle.core_ir.specs.WellFormed.{kind_of, NamesLater}

-- the first n expressions name smaller numbers
abbrev pub NameEarlier : List CoreExpr → ℕ → Type 0
NameEarlier exprs n = (k : ℕ) → k < n → AllByRecursion (λ j. j < k) (operands_of (slice_get exprs k))

-- an expression's tree is made of the trees of the expressions that it names
abbrev pub ExprsUnfold : Type 0
ExprsUnfold = (exprs : List CoreExpr) (n k : ℕ) → NameEarlier exprs n → k < n → expr_of exprs k ≡ node_expr (expr_of exprs) (slice_get exprs k)

-- lists whose first n expressions are the same have the same trees below n
abbrev pub ExprsStay : Type 0
ExprsStay = (exprs others : List CoreExpr) (n k : ℕ) → NameEarlier exprs n → ((j : ℕ) → j < n → slice_get others j ≡ slice_get exprs j) → k < n → expr_of others k ≡ expr_of exprs k

-- a statement's tree is made of the trees of the statements of its bodies
abbrev pub StmtsUnfold : Type 0
StmtsUnfold = (stmts : List CoreStmt) (k : ℕ) → NamesLater stmts → stmt_of stmts k ≡ node_stmt (stmt_of stmts) (slice_get stmts k)

-- lists whose statements from k on are the same, as far as the first list goes, have the same tree at k
abbrev pub StmtsStay : Type 0
StmtsStay = (stmts others : List CoreStmt) (k : ℕ) → NamesLater stmts → NamesLater others
    → ((j : ℕ) → k ≤ j → j < length stmts → slice_get others j ≡ slice_get stmts j) → k < length stmts → stmt_of others k ≡ stmt_of stmts k

abbrev pub value_kind : Value → CellKind
value_kind (Word z) = NumberKind
value_kind (Holds b) = TruthKind

-- where the cells hold values of their kinds, an expression's value is of its kind
abbrev pub ValuesHaveKinds : Type 0
ValuesHaveKinds = (e : Expr) (cells : Cells) (kind : CellKind) → kind_of (map value_kind cells) e ≡ Some kind → value_kind (value_of e cells) ≡ kind
