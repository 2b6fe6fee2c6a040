-- A body, one statement further.
use Rattle.std.proofs.Common.{◌≡◌, ℕ, zero, suc, ◌+◌, ◌<◌, ◌≤◌, All, List, [], ◌∷◌, length, get_or, drop, true, refl, sym, ap, ◌∙◌, subst, arith}
use Rattle.std.proofs.lemmas.List.Elements.{All-get_or}
use Rattle.core_ir.specs.declared.statement.CoreStmt.{CoreStmt}
use Rattle.core_ir.specs.declared.expression.CoreExpr.{CoreExpr}
use Rattle.core_ir.specs.Core.{Core}
use Rattle.core_ir.specs.Tree.{Stmt, Seq, stmt_of, body_of}
use Rattle.block_graph.specs.Work.{Work}
use Rattle.block_graph.specs.Lowering.{Coder, lower_of}
use Rattle.block_lower.specs.Marks.{Marks, seq_marks, straight_marks, passing, is_skipped, marks}
use Rattle.block_lower.specs.Parts.{IsSmall, AreLater}
use Rattle.core_ir.specs.Laws.{StmtsUnfold}
use Rattle.core_ir.specs.WellFormed.{NamesLater}
use Rattle.block_lower.proofs.Later.{tree_is}
use Rattle.block_lower.proofs.Rising.{statement_small}
use Rattle.block_lower.proofs.Skipping.{skipped_marks, seq_straight}

drop_next : (js : List ℕ) (i d : ℕ) → i < length js → drop i js ≡ get_or js i d ∷ drop (i + 1) js
drop_next [] i d l = absurd (omega (arith, l))
drop_next (j ∷ js) zero d l = refl
drop_next (j ∷ js) (suc i) d l = drop_next js i d (omega (arith, l)) ∙ ap (λ (n : ℕ). get_or js i d ∷ drop n (j ∷ js)) up
  where
    up : suc (i + 1) ≡ suc i + 1
    up = omega arith

drop_past : (js : List ℕ) (i : ℕ) → length js ≤ i → drop i js ≡ []
drop_past [] zero le = refl
drop_past [] (suc i) le = refl
drop_past (j ∷ js) zero le = absurd (omega (arith, le))
drop_past (j ∷ js) (suc i) le = drop_past js i (omega (arith, le))

pub body_next : (stmts : List CoreStmt) (body : List ℕ) (i k : ℕ) → i < length body → k ≡ get_or body i 0 → body_of stmts (drop i body) ≡ Seq (stmt_of stmts k) (body_of stmts (drop (i + 1) body))
body_next stmts body i k l is = ap (body_of stmts) (drop_next body i 0 l) ∙ ap (λ (j : ℕ). Seq (stmt_of stmts j) (body_of stmts (drop (i + 1) body))) (sym is)

-- ---- the statements of a body, one behind the other

pub step_small : (core : Core) (coder : Coder) (body : List ℕ) (i k : ℕ) (w all : Work) → i < length body → k ≡ get_or body i 0 → lower_of core coder (body_of core.stmts (drop i body)) w ≡ all → IsSmall all → IsSmall (lower_of core coder (stmt_of core.stmts k) w)
step_small core coder body i k w all l is so_far small =
    statement_small core coder (body_of core.stmts (drop (i + 1) body)) (lower_of core coder (stmt_of core.stmts k) w)
    (subst IsSmall (sym so_far ∙ ap (λ (s : Stmt). lower_of core coder s w) (body_next core.stmts body i k l is)) small)

pub step_further : (core : Core) (coder : Coder) (body : List ℕ) (i k : ℕ) (w v all : Work) → i < length body → k ≡ get_or body i 0 → lower_of core coder (body_of core.stmts (drop i body)) w ≡ all → v ≡ lower_of core coder (stmt_of core.stmts k) w
    → lower_of core coder (body_of core.stmts (drop (i + 1) body)) v ≡ all
step_further core coder body i k w v all l is so_far done =
    ap (lower_of core coder (body_of core.stmts (drop (i + 1) body))) done ∙ sym (ap (λ (s : Stmt). lower_of core coder s w) (body_next core.stmts body i k l is)) ∙ so_far

pub all_done : (core : Core) (coder : Coder) (body : List ℕ) (i : ℕ) (w all : Work) → length body ≤ i → lower_of core coder (body_of core.stmts (drop i body)) w ≡ all → w ≡ all
all_done core coder body i w all le so_far = sym (ap (λ (js : List ℕ). lower_of core coder (body_of core.stmts js) w) (drop_past body i le)) ∙ so_far

pub later_at : (least count : ℕ) (body : List ℕ) (i k : ℕ) → All (AreLater least count) body → i < length body → k ≡ get_or body i 0 → AreLater least count k
later_at least count body i k all l is = subst (AreLater least count) (sym is) (All-get_or (AreLater least count) body i 0 l all)

-- ---- their marks, from the last one on

pub marks_none : (exprs : List CoreExpr) (stmts : List CoreStmt) (body : List ℕ) (i c : ℕ) → length body ≤ i → straight_marks passing ≡ marks exprs (body_of stmts (drop i body)) c
marks_none exprs stmts body i c le = sym (ap (λ (js : List ℕ). marks exprs (body_of stmts js) c) (drop_past body i le))

pub marks_next : (exprs : List CoreExpr) (stmts : List CoreStmt) (body : List ℕ) (i k c : ℕ) (first all more : Marks) → i < length body → k ≡ get_or body i 0 → first ≡ marks exprs (stmt_of stmts k) c → all ≡ marks exprs (body_of stmts (drop (i + 1) body)) c
    → more ≡ seq_marks first all → more ≡ marks exprs (body_of stmts (drop i body)) c
marks_next exprs stmts body i k c first all more l is one behind made =
    made ∙ ap (λ (m : Marks). seq_marks m all) one ∙ ap (seq_marks (marks exprs (stmt_of stmts k) c)) behind ∙ sym (ap (λ (s : Stmt). marks exprs s c) (body_next stmts body i k l is))

pub marks_skip : (exprs : List CoreExpr) (stmts : List CoreStmt) (body : List ℕ) (i k c : ℕ) (s : CoreStmt) (all : Marks) → StmtsUnfold → NamesLater stmts → i < length body → k ≡ get_or body i 0 → k < length stmts → s ≡ get_or stmts k s
    → is_skipped s c ≡ true → all ≡ marks exprs (body_of stmts (drop (i + 1) body)) c → all ≡ marks exprs (body_of stmts (drop i body)) c
marks_skip exprs stmts body i k c s all unfolds later l is there node skipped behind =
    let straight : marks exprs (stmt_of stmts k) c ≡ straight_marks passing = ap (λ (t : Stmt). marks exprs t c) (tree_is stmts k s unfolds later there node) ∙ skipped_marks exprs (stmt_of stmts) s c skipped in
    behind
    ∙ sym (seq_straight (marks exprs (body_of stmts (drop (i + 1) body)) c))
    ∙ sym (ap (λ (m : Marks). seq_marks m (marks exprs (body_of stmts (drop (i + 1) body)) c)) straight)
    ∙ sym (ap (λ (t : Stmt). marks exprs t c) (body_next stmts body i k l is))
