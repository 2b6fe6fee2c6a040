-- Trees stay where their parts do.
use Rattle.std.proofs.Common.{◌≡◌, ℕ, zero, suc, ◌+◌, ◌<◌, ◌≤◌, List, length, refl, ap, ◌∙◌, arith}
use Rattle.std.specs.Prelude.{slice_get}
use Rattle.core_ir.specs.declared.expression.CoreExpr.{CoreExpr}
use Rattle.core_ir.specs.declared.statement.CoreStmt.{CoreStmt}
use Rattle.core_ir.specs.Tree.{node_expr, expr_within, expr_of, node_stmt, stmt_within, stmt_of}
use Rattle.core_ir.specs.WellFormed.{NamesLater}
use Rattle.core_ir.specs.Laws.{NameEarlier, ExprsStay, StmtsStay}
use Rattle.core_ir.proofs.Exprs.{exprs_node_same}
use Rattle.core_ir.proofs.Levels.{stmts_node_same, enough, later_at}

exprs_within : (exprs others : List CoreExpr) (n : ℕ) → NameEarlier exprs n → ((j : ℕ) → j < n → slice_get others j ≡ slice_get exprs j) → (f k : ℕ) → k < n → expr_within others f k ≡ expr_within exprs f k
exprs_within exprs others n w same zero k l = refl
exprs_within exprs others n w same (suc f) k l =
    ap (node_expr (expr_within others f)) (same k l)
    ∙ exprs_node_same (expr_within others f) (expr_within exprs f) k (slice_get exprs k) (w k l) (λ j lt. exprs_within exprs others n w same f j (omega (arith, lt, l)))

pub exprs_stay : ExprsStay
unfolding expr_of
exprs_stay exprs others n k w same l = exprs_within exprs others n w same (suc k) k l

stmts_within : (stmts others : List CoreStmt) (k : ℕ) → NamesLater stmts → ((j : ℕ) → k ≤ j → j < length stmts → slice_get others j ≡ slice_get stmts j)
    → (f i : ℕ) → k ≤ i → i < length stmts → stmt_within others f i ≡ stmt_within stmts f i
stmts_within stmts others k later same zero i from l = refl
stmts_within stmts others k later same (suc f) i from l =
    ap (node_stmt (stmt_within others f)) (same i from l)
    ∙ stmts_node_same (stmt_within others f) (stmt_within stmts f) (slice_get stmts i)
    (λ j there. let at = later_at stmts later i j there in stmts_within stmts others k later same f j (omega (arith, from, at.1)) at.2)

pub stmts_stay : StmtsStay
unfolding stmt_of
stmts_stay stmts others k later also same l =
    enough others also (length others) (length others + length stmts) k (omega arith) (omega arith)
    ∙ stmts_within stmts others k later same (length others + length stmts) k (omega arith) l
    ∙ enough stmts later (length others + length stmts) (length stmts) k (omega arith) (omega arith)
