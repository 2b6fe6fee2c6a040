-- A program of one name, two expressions and one statement.
use Rattle.std.proofs.Common.{◌≡◌, ℕ, zero, suc, ◌≤◌, List, [], ◌∷◌, length, Some, slice_get, refl, sym, ap, subst, arith}
use Rattle.std.specs.Prelude.{All}
use Rattle.std.proofs.lemmas.List.Elements.{All-nil, All-cons}
use Rattle.qasm_ast.specs.declared.expr.Expr.{Expr}
use Rattle.qasm_ast.specs.declared.stmt.Stmt.{Stmt}
use Rattle.qasm_ast.specs.Whole.{Source, AllOf, IsStmt, ExprFits, StmtFits, ExprsFit, StmtsFit, IsProgram}

module _ (text : List ℕ) (x y : Expr) (z : Stmt) (x_fits : ExprFits 1 0 x.kind) (y_fits : ExprFits 1 1 y.kind) (z_fits : StmtFits 1 (x ∷ y ∷ []) (z ∷ []) 0 z.kind) where
  some_same : {X : Type 0} (a c : X) → Some a ≡ Some c → a ≡ c
  some_same a c e = cc

  exprs_fit : ExprsFit 1 0 (x ∷ y ∷ [])
  exprs_fit zero node le e = subst (λ (w : Expr). ExprFits 1 0 w.kind) (some_same x node e) x_fits
  exprs_fit (suc zero) node le e = subst (λ (w : Expr). ExprFits 1 1 w.kind) (some_same y node e) y_fits
  exprs_fit (suc (suc n)) node le e = absurd (cc)

  stmts_fit : StmtsFit 1 (x ∷ y ∷ []) (z ∷ [])
  stmts_fit zero stmt e = subst (λ (w : Stmt). StmtFits 1 (x ∷ y ∷ []) (z ∷ []) 0 w.kind) (some_same z stmt e) z_fits
  stmts_fit (suc n) stmt e = absurd (cc)

  differ : (j k : ℕ) (t : List ℕ) → slice_get (text ∷ []) j ≡ Some t → slice_get (text ∷ []) k ≡ Some t → j ≡ k
  differ zero zero t e f = refl
  differ zero (suc k) t e f = absurd (cc)
  differ (suc j) k t e f = absurd (cc)

  pub sample_whole : (p : Source) → length text ≤ 4096 → p.names ≡ text ∷ [] → p.exprs ≡ x ∷ y ∷ [] → p.stmts ≡ z ∷ [] → p.top ≡ record { 0 = 0 } ∷ [] → IsProgram p
  sample_whole p le names exprs stmts top = record {
    few_names = omega (arith, ap length names);
    few_exprs = omega (arith, ap length exprs);
    few_stmts = omega (arith, ap length stmts);
    name_lengths = subst (All (λ w. length w ≤ 4096)) (sym names) (All-cons (λ w. length w ≤ 4096) text [] le (All-nil (λ w. length w ≤ 4096)));
    names_differ = subst (λ ns. (j k : ℕ) (t : List ℕ) → slice_get ns j ≡ Some t → slice_get ns k ≡ Some t → j ≡ k) (sym names) differ;
    exprs_fit = subst (λ ns. ExprsFit (length ns) 0 p.exprs) (sym names) (subst (ExprsFit 1 0) (sym exprs) exprs_fit);
    stmts_fit = subst (λ ns. StmtsFit (length ns) p.exprs p.stmts) (sym names) (subst (λ es. StmtsFit 1 es p.stmts) (sym exprs) (subst (StmtsFit 1 (x ∷ y ∷ [])) (sym stmts) stmts_fit));
    top_fits = subst (λ ss. AllOf (IsStmt (length ss)) p.top) (sym stmts) (subst (AllOf (IsStmt 1)) (sym top) (record { count = omega arith; each = All-cons (IsStmt 1) (record { 0 = 0 }) [] (omega arith) (All-nil (IsStmt 1)) }));
  }
