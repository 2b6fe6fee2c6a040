-- The loops over all nodes: the levels of the first n nodes give that of the next.
use Rattle.std.proofs.Common.{◌≡◌, ◌⊎◌, inl, inr, ℕ, zero, suc, ◌+◌, ◌≤◌, ◌<◌, ◌++◌, min, List, [], ◌∷◌, length, Some, slice_get, slice_index, get_or, refl, sym, ap, subst, ◌∙◌, length-append, arith}
use Rattle.std.specs.Prelude.{All}
use Rattle.std.proofs.lemmas.List.Elements.{All-head, All-tail, All-push}
use Rattle.std.proofs.lemmas.Option.{slice_get-get_or}
use Rattle.std.proofs.Math.ListN.{get_or-append}
use Rattle.std.proofs.Math.Seq.{get_or-append_seam}
use Rattle.qq_base.specs.declared.refusal.Span.{Span}
use Rattle.qasm_ast.specs.declared.expr.Expr.{Expr}
use Rattle.qasm_ast.specs.declared.stmt.Stmt.{Stmt}
use Rattle.qasm_ast.specs.declared.stmt.StmtId.{StmtId}
use Rattle.qasm_ast.specs.declared.stmt.StmtKind.{StmtKind}
use Rattle.qasm_ast.specs.declared.stmt.StmtKind.TheVariants as s
use Rattle.qasm_ast.specs.Tree.{Tree, tree_at, tree_of, Statement, statements_at, stmt_of, seen_stmt, stmt_at, statement_of}
use Rattle.qasm_ast.specs.Level.{level_of, stmt_level}
use Rattle.qasm_ast.specs.Shallow.{body_level, kind_level, stmt_kind_level, StmtNames, ExprLevels, StmtLevels}
use Rattle.qasm_ast.specs.Whole.{Source, IsProgram, IsStmt, ExprsFit, StmtsFit}
use Rattle.qasm_ast.specs.View.{tree_in, statement_in, depth}
use Rattle.qasm_ast.proofs.Seen.{kind_seen, body_seen, stmt_seen, in_range}
use Rattle.qasm_ast.proofs.Steps.{found_at, tree_at-enough, tree_of-node}

below_or_last : (j n : ℕ) → j < suc n → (j < n) ⊎ (j ≡ n)
below_or_last zero zero lt = inr refl
below_or_last zero (suc n) lt = inl (omega arith)
below_or_last (suc j) zero lt = absurd (omega arith)
below_or_last (suc j) (suc n) lt = elim (below_or_last j n (omega arith)) [ inl h ↦ inl (omega arith) | inr h ↦ inr (ap suc h) ]

pub read_at : {X : Type 0} (xs : List X) (n : ℕ) (x : X) → n < length xs → x ≡ get_or xs n x → slice_get xs n ≡ Some x
read_at xs n x lt e = slice_get-get_or xs n x lt ∙ ap Some (sym e)

-- ---- expressions

pub no_levels : (exprs : List Expr) (levels : List ℕ) → levels ≡ [] → ExprLevels exprs levels 0
no_levels exprs levels e = record { count = ap length e; low = subst (All (λ k. k ≤ 65)) (sym e) (λ k d lt. absurd (omega arith)); seen = λ names fit j lt. absurd (omega arith) }

pub more_levels : (exprs : List Expr) (levels : List ℕ) (n l : ℕ) (x : Expr) (new : List ℕ) → ExprLevels exprs levels n → slice_get exprs n ≡ Some x → n < length exprs → l ≡ min 65 (kind_level (slice_index levels) x.kind) → new ≡ levels ++ l ∷ [] → ExprLevels exprs new (n + 1)
more_levels exprs levels n l x new old found lt found_level e = record {
  count = ap length e ∙ omega (arith, length-append levels (l ∷ []), old.count);
  low = subst (All (λ k. k ≤ 65)) (sym e) (All-push (λ k. k ≤ 65) levels l old.low (omega arith));
  seen = λ names fit j lt'. subst (λ z. slice_index z j ≡ min 65 (level_of (tree_of names exprs j))) (sym e) (at_each names fit j (below_or_last j n (omega arith)));
}
  where
    at_each : (names : List (List ℕ)) → ExprsFit (length names) 0 exprs → (j : ℕ) → (j < n) ⊎ (j ≡ n) → slice_index (levels ++ l ∷ []) j ≡ min 65 (level_of (tree_of names exprs j))
    at_each names fit j (inl h) = get_or-append levels (l ∷ []) 0 j (omega (arith, old.count)) ∙ old.seen names fit j h
    at_each names fit j (inr h) = subst (λ k. slice_index (levels ++ l ∷ []) k ≡ min 65 (level_of (tree_of names exprs k))) (sym h)
        (ap (λ k. slice_index (levels ++ l ∷ []) k) (sym old.count) ∙ get_or-append_seam levels l [] 0 ∙ found_level
        ∙ kind_seen names (tree_at names exprs n) (slice_index levels) n
        (λ k lt''. old.seen names fit k lt'' ∙ ap (λ t. min 65 (level_of t)) (sym (tree_at-enough names exprs fit n k lt'' (omega arith))))
        (length names) x.kind x.at (fit n x (omega arith) found)
        ∙ ap (λ t. min 65 (level_of t)) (sym (tree_of-node names exprs fit n x found)))

-- ---- statements

module _ (names : List (List ℕ)) (sub : ℕ → Tree) (body body' : ℕ → Statement) (n : ℕ) (same : (k : ℕ) → k < n → body' k ≡ body k) where
  body_same : (ids : List StmtId) → All (IsStmt n) ids → statements_at names sub body' ids ≡ statements_at names sub body ids
  body_same [] a = refl
  body_same (id ∷ ids) a =
      let here : body' id.0 ≡ body id.0 = same id.0 (All-head (IsStmt n) id ids a) in
      let later : statements_at names sub body' ids ≡ statements_at names sub body ids = body_same ids (All-tail (IsStmt n) id ids a) in
      cc

  stmt_same : (k m : ℕ) (kind : StmtKind) (place close : Span) → StmtNames k m n kind → stmt_of names sub body' kind place close ≡ stmt_of names sub body kind place close
  stmt_same k m (s.Gate name params qs ids) place close f = rw (body_same ids f) refl
  stmt_same k m (s.Def name params result ids) place close f = rw (body_same ids f.2) refl
  stmt_same k m (s.If id taken other) place close f = rw (body_same taken f.1, body_same other f.2) refl
  stmt_same k m (s.While id ids) place close f = rw (body_same ids f.1) refl
  stmt_same k m (s.ForRange type name start step stop ids) place close f = rw (body_same ids f.4) refl
  stmt_same k m (s.ForSet type name ids body_ids) place close f = rw (body_same body_ids f.2) refl
  stmt_same k m _ place close f = refl

module _ (names : List (List ℕ)) (exprs : List Expr) (stmts : List Stmt) (fits : StmtsFit (length names) exprs stmts) where
  abbrev at_steps : ℕ → ℕ → Statement
  at_steps n = stmt_at names (tree_of names exprs) stmts n

  stmt-enough : (n m j : ℕ) → j < n → j < m → j < length stmts → at_steps n j ≡ at_steps m j
  stmt-enough zero m j lt lt' le = absurd (omega arith)
  stmt-enough (suc n) zero j lt lt' le = absurd (omega arith)
  stmt-enough (suc n) (suc m) j lt lt' le = shown (found_at stmts j le) (λ k lt''. stmt-enough n m k (omega arith) (omega arith) (omega arith))
    where
      shown : (x : Stmt) × (slice_get stmts j ≡ Some x) → ((k : ℕ) → k < j → at_steps n k ≡ at_steps m k) → at_steps (suc n) j ≡ at_steps (suc m) j
      shown (x, found) below =
          ap (seen_stmt names (tree_of names exprs) (at_steps n)) found
          ∙ stmt_same names (tree_of names exprs) (at_steps m) (at_steps n) j below (length names) (length exprs) x.kind x.at x.close (in_range (length names) exprs stmts j x.kind (fits j x found))
          ∙ ap (seen_stmt names (tree_of names exprs) (at_steps m)) (sym found)

  enough : (n j : ℕ) → j < n → j < length stmts → at_steps n j ≡ statement_of names exprs stmts j
  unfolding statement_of
  enough n j lt le = stmt-enough n (suc j) j lt (omega arith) le

  node : (j : ℕ) (x : Stmt) → slice_get stmts j ≡ Some x → statement_of names exprs stmts j ≡ stmt_of names (tree_of names exprs) (at_steps j) x.kind x.at x.close
  unfolding statement_of
  node j x found = ap (seen_stmt names (tree_of names exprs) (at_steps j)) found

  pub stmt_at-enough : (n j : ℕ) → j < n → j < length stmts → stmt_at names (tree_of names exprs) stmts n j ≡ statement_of names exprs stmts j
  stmt_at-enough = enough

  pub statement_of-node : (j : ℕ) (x : Stmt) → slice_get stmts j ≡ Some x → statement_of names exprs stmts j ≡ stmt_of names (tree_of names exprs) (stmt_at names (tree_of names exprs) stmts j) x.kind x.at x.close
  statement_of-node = node

  -- the tree of a statement, by the trees of the statements in its bodies
  pub statement_of-unfolds : (j : ℕ) (x : Stmt) → j < length stmts → slice_get stmts j ≡ Some x → statement_of names exprs stmts j ≡ stmt_of names (tree_of names exprs) (statement_of names exprs stmts) x.kind x.at x.close
  statement_of-unfolds j x le found =
      node j x found
      ∙ stmt_same names (tree_of names exprs) (statement_of names exprs stmts) (at_steps j) j (λ k lt. enough j k lt (omega arith)) (length names) (length exprs) x.kind x.at x.close (in_range (length names) exprs stmts j x.kind (fits j x found))

pub no_stmt_levels : (exprs : List Expr) (stmts : List Stmt) (levels : List ℕ) → levels ≡ [] → StmtLevels exprs stmts levels 0
no_stmt_levels exprs stmts levels e = record { count = ap length e; low = subst (All (λ k. k ≤ 65)) (sym e) (λ k d lt. absurd (omega arith)); seen = λ names fit fits j lt. absurd (omega arith) }

pub more_stmt_levels : (exprs : List Expr) (stmts : List Stmt) (trees levels : List ℕ) (n l : ℕ) (x : Stmt) (new : List ℕ) → ExprLevels exprs trees (length exprs) → StmtLevels exprs stmts levels n → slice_get stmts n ≡ Some x → n < length stmts → l ≡ min 65 (stmt_kind_level (slice_index trees) (slice_index levels) x.kind) → new ≡ levels ++ l ∷ [] → StmtLevels exprs stmts new (n + 1)
more_stmt_levels exprs stmts trees levels n l x new known old found lt found_level e = record {
  count = ap length e ∙ omega (arith, length-append levels (l ∷ []), old.count);
  low = subst (All (λ k. k ≤ 65)) (sym e) (All-push (λ k. k ≤ 65) levels l old.low (omega arith));
  seen = λ names fit fits j lt'. subst (λ z. slice_index z j ≡ min 65 (stmt_level (statement_of names exprs stmts j))) (sym e) (at_each names fit fits j (below_or_last j n (omega arith)));
}
  where
    at_each : (names : List (List ℕ)) → ExprsFit (length names) 0 exprs → StmtsFit (length names) exprs stmts → (j : ℕ) → (j < n) ⊎ (j ≡ n) → slice_index (levels ++ l ∷ []) j ≡ min 65 (stmt_level (statement_of names exprs stmts j))
    at_each names fit fits j (inl h) = get_or-append levels (l ∷ []) 0 j (omega (arith, old.count)) ∙ old.seen names fit fits j h
    at_each names fit fits j (inr h) = subst (λ k. slice_index (levels ++ l ∷ []) k ≡ min 65 (stmt_level (statement_of names exprs stmts k))) (sym h)
        (ap (λ k. slice_index (levels ++ l ∷ []) k) (sym old.count) ∙ get_or-append_seam levels l [] 0 ∙ found_level
        ∙ stmt_seen names (tree_of names exprs) (slice_index trees) (length exprs) (known.seen names fit)
        (stmt_at names (tree_of names exprs) stmts n) (slice_index levels) n
        (λ k lt''. old.seen names fit fits k lt'' ∙ ap (λ t. min 65 (stmt_level t)) (sym (stmt_at-enough names exprs stmts fits n k lt'' (omega arith))))
        (length names) x.kind x.at x.close (in_range (length names) exprs stmts n x.kind (fits n x found))
        ∙ ap (λ t. min 65 (stmt_level t)) (sym (statement_of-node names exprs stmts fits n x found)))

-- ---- the top level

pub depth_seen : (p : Source) (exprs : List Expr) (stmts : List Stmt) (levels read : List ℕ) (found : ℕ) → exprs ≡ p.exprs → stmts ≡ p.stmts → IsProgram p → StmtLevels exprs stmts levels (length stmts) → read ≡ levels → found ≡ min 65 (body_level (slice_index read) p.top) → found ≡ depth p
depth_seen p exprs stmts levels read found e f whole known g h =
    let at_exprs : StmtLevels p.exprs stmts levels (length stmts) = subst (λ es. StmtLevels es stmts levels (length stmts)) e known in
    let at_stmts : StmtLevels p.exprs p.stmts levels (length p.stmts) = subst (λ ss. StmtLevels p.exprs ss levels (length ss)) f at_exprs in
    h ∙ ap (λ l. min 65 (body_level (slice_index l) p.top)) g ∙ body_seen p.names (tree_in p) (λ k. 0) 0 (λ k lt. absurd (omega arith)) (statement_in p) (slice_index levels) (length p.stmts) (at_stmts.seen p.names whole.exprs_fit whole.stmts_fit) p.top whole.top_fits.each
