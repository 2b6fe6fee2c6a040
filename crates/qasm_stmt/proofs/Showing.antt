-- What the functions for expressions answer, as it is seen through the lists of the tree, and statements that
-- are added to their list.
use Rattle.std.proofs.Common.{◌≡◌, inl, inr, ℕ, zero, suc, ◌-◌, ◌<◌, ◌≤◌, ◌++◌, List, [], ◌∷◌, length, map, Some, Result, Ok, Err, slice_get, refl, sym, ap, subst, ◌∙◌, le_refl, append-nil, length-append, arith}
use Rattle.qasm_ast.specs.declared.expr.ExprId.{ExprId}
use Rattle.qasm_ast.specs.declared.expr.IndexRef.{IndexRef}
use Rattle.qasm_ast.specs.declared.expr.TypeRef.{TypeRef}
use Rattle.qasm_ast.specs.declared.stmt.Stmt.{Stmt}
use Rattle.qasm_ast.specs.declared.stmt.StmtId.{StmtId}
use Rattle.qasm_ast.specs.declared.stmt.StmtKind.{StmtKind}
use Rattle.qasm_ast.specs.Tree.{Tree, trees, Bracket, brackets, trees_at, Scalar, Statement, stmt_of, statement_of, stmt_at}
use Rattle.qasm_ast.specs.Whole.{AllOf, IndexFits, IsGateStmt, StmtFits, StmtsFit, ExprsFit}
use Rattle.qasm_ast.proofs.Staying.{stmt_stays, statement_of-append}
use Rattle.qasm_ast.proofs.Fitting.{stmt_on}
use Rattle.qasm_ast.proofs.Levels.{stmt_at-enough, statement_of-node}
use Rattle.qasm_expr.specs.Reader.{read_expr}
use Rattle.qasm_lexer.specs.declared.token.Token.{Token}
use Rattle.grammar_parts.specs.Reading.{Outcome}
use Rattle.qasm_expr.specs.declared.stop.Stop.{Stop}
use Rattle.qasm_expr.specs.declared.stop.Stop.TheVariants as e
use Rattle.qasm_expr.specs.Seen.{Gives, Sees, SeesAll, SeesBrackets, SeesScalar, deeper_expr, deeper_content}
use Rattle.qasm_expr.proofs.Growing.{sees_below, get_below, get_either, last_found}
use Rattle.qasm_expr.proofs.Trees.{sees_tree, tree_maybe, tree_brackets}
use Rattle.qasm_grammar.specs.Reader.{read_inner, read_inside}
use Rattle.qasm_stmt.specs.declared.arena.Arena.{Arena}
use Rattle.qasm_stmt.specs.Seen.{Each, IsList, Sound, Grown, Pushed, tree, stmt, IsTree, IsType, IsBrackets, IsLine, IsStatement, IsMember}
use Rattle.qasm_stmt.proofs.Growing.{each_all}

-- ---- the readers one level deeper

pub inner_is : (text : List ℕ) (room : ℕ) → deeper_expr text room ≡ read_inner text (Some 64) room
inner_is text zero = refl
inner_is text (suc room) = refl

pub inside_is : (text : List ℕ) (room : ℕ) → deeper_content text room ≡ read_inside text (Some 64) room
inside_is text zero = refl
inside_is text (suc zero) = refl
inside_is text (suc (suc room)) = refl

pub inner_at : (text : List ℕ) (room : ℕ) → 0 < room → read_inner text (Some 64) room ≡ read_expr text (Some 64) (room - 1)
inner_at text zero lt = absurd (omega arith)
inner_at text (suc room) lt = let e : suc room - 1 ≡ room = omega arith in ap (read_expr text (Some 64)) (sym e)

-- ---- from what is seen of nodes

module _ (a : Arena) where
  pub tree_from : (x : ExprId) (t : Tree) → Sees a.names.keys a.exprs.items x.0 t → IsTree a x t
  tree_from x t s = (sees_below a.names.keys a.exprs.items t x.0 s, sees_tree a.names.keys a.exprs.items t x.0 s)

  pub each_from : (ts : List Tree) (xs : List ExprId) → SeesAll a.names.keys a.exprs.items (length a.exprs.items) xs (trees ts) → Each (IsTree a) xs ts
  each_from [] xs s = subst (λ l. Each (IsTree a) l []) (sym s) tt
  each_from (t ∷ ts) xs (x, more, h, l, s, u) = subst (λ l. Each (IsTree a) l (t ∷ ts)) (sym h) (tree_from x t s, each_from ts more u)

  pub brackets_from : (bs : List Bracket) (js : List IndexRef) → SeesBrackets a.names.keys a.exprs.items (length a.exprs.items) js (brackets bs) → AllOf (IndexFits (length a.exprs.items)) js → IsBrackets a js bs
  brackets_from bs js s f = (f, tree_brackets a.names.keys a.exprs.items (brackets bs) (length a.exprs.items) js s)

  pub type_from : (x : TypeRef) (s : Scalar) → SeesScalar a.names.keys a.exprs.items x s → IsType a x s
  type_from x s (b, place, w, f) = (f, rw (b, place, tree_maybe a.names.keys a.exprs.items s.width (length a.exprs.items) x.width w) refl)

  -- ---- lists, whole

  pub trees_each : (xs : List ExprId) (ts : List Tree) → Each (IsTree a) xs ts → trees_at (tree a) xs ≡ trees ts
  trees_each [] [] e = refl
  trees_each (x ∷ xs) (t ∷ ts) e = rw (e.0.1, trees_each xs ts e.1) refl
  trees_each [] (t ∷ ts) e = absurd e
  trees_each (x ∷ xs) [] e = absurd e

pub map_each : {X A : Type 0} (P : X → Type 0) (f : X → A) (xs : List X) (as' : List A) → Each (λ x a. P x × (f x ≡ a)) xs as' → map f xs ≡ as'
map_each P f [] [] e = refl
map_each P f (x ∷ xs) (a ∷ as') e = rw (e.0.1, map_each P f xs as' e.1) refl
map_each P f [] (a ∷ as') e = absurd e
map_each P f (x ∷ xs) [] e = absurd e

pub fits_each : {X A : Type 0} (P : X → Type 0) (f : X → A) (xs : List X) (as' : List A) → IsList (λ x a. P x × (f x ≡ a)) xs as' → AllOf P xs
fits_each P f xs as' e = record { count = e.0; each = each_all (λ x a. P x × (f x ≡ a)) P (λ x a h. h.0) xs as' e.1 }

-- ---- a statement that is added

module _ (a b : Arena) (x : Stmt) (id : StmtId) (s : Sound a) (p : Pushed a b x id) where
  pub pushed_grown : Grown a b
  pushed_grown = record { more_names = []; more_exprs = []; more_stmts = x ∷ []; names = p.names ∙ sym (append-nil _); exprs = p.exprs ∙ sym (append-nil _); stmts = p.stmts }

  module _ (fits : StmtFits (length a.names.keys) a.exprs.items a.stmts.items (length a.stmts.items) x.kind) where
    -- with one more statement behind them
    wider : (n : ℕ) (kind : StmtKind) → n ≤ length a.stmts.items → StmtFits (length a.names.keys) a.exprs.items a.stmts.items n kind → StmtFits (length a.names.keys) a.exprs.items (a.stmts.items ++ x ∷ []) n kind
    wider n kind le f = subst (λ es. StmtFits (length a.names.keys) es (a.stmts.items ++ x ∷ []) n kind) (append-nil a.exprs.items)
        (stmt_on (length a.names.keys) (length a.names.keys) a.exprs.items [] a.stmts.items (x ∷ []) (le_refl _) n n (le_refl n) le kind f)

    all_fit : StmtsFit (length a.names.keys) a.exprs.items (a.stmts.items ++ x ∷ [])
    all_fit n y h = elim (get_either a.stmts.items x n y h) [
      | inl g ↦ wider n y.kind (omega (arith, get_below a.stmts.items n y g)) (s.stmts n y g)
      | inr g ↦ subst (λ z. StmtFits (length a.names.keys) a.exprs.items (a.stmts.items ++ x ∷ []) n z.kind) g.1
          (subst (λ k. StmtFits (length a.names.keys) a.exprs.items (a.stmts.items ++ x ∷ []) k x.kind) (sym g.0) (wider (length a.stmts.items) x.kind (le_refl _) fits))
    ]

    pub pushed_sound : Sound b
    pushed_sound = record {
      names = subst (λ ns. (k : ℕ) (text : List ℕ) → slice_get ns k ≡ Some text → length text ≤ 4096) (sym p.names) s.names;
      exprs = subst (λ ns. ExprsFit (length ns) 0 b.exprs.items) (sym p.names) (subst (λ es. ExprsFit (length a.names.keys) 0 es) (sym p.exprs) s.exprs);
      stmts = subst (λ ns. StmtsFit (length ns) b.exprs.items b.stmts.items) (sym p.names) (subst (λ es. StmtsFit (length a.names.keys) es b.stmts.items) (sym p.exprs) (subst (λ ss. StmtsFit (length a.names.keys) a.exprs.items ss) (sym p.stmts) all_fit));
    }

    here : slice_get (a.stmts.items ++ x ∷ []) (length a.stmts.items) ≡ Some x
    here = last_found a.stmts.items (a.stmts.items ++ x ∷ []) x (length a.stmts.items) refl refl

    -- bodies are seen as they were
    bodies : (k : ℕ) → k < length a.stmts.items → stmt_at a.names.keys (tree a) (a.stmts.items ++ x ∷ []) (length a.stmts.items) k ≡ stmt a k
    bodies k lt =
        stmt_at-enough a.names.keys a.exprs.items (a.stmts.items ++ x ∷ []) all_fit (length a.stmts.items) k lt (omega (arith, length-append a.stmts.items (x ∷ [])))
        ∙ subst (λ ns. statement_of ns a.exprs.items (a.stmts.items ++ x ∷ []) k ≡ stmt a k) (append-nil a.names.keys)
        (subst (λ es. statement_of (a.names.keys ++ []) es (a.stmts.items ++ x ∷ []) k ≡ stmt a k) (append-nil a.exprs.items)
        (statement_of-append a.names.keys [] a.exprs.items [] a.stmts.items (x ∷ []) s.exprs s.stmts k lt))

    seen : statement_of a.names.keys a.exprs.items (a.stmts.items ++ x ∷ []) (length a.stmts.items) ≡ stmt_of a.names.keys (tree a) (stmt a) x.kind x.at x.close
    seen = statement_of-node a.names.keys a.exprs.items (a.stmts.items ++ x ∷ []) all_fit (length a.stmts.items) x here
        ∙ subst (λ ns. stmt_of ns (tree a) (stmt_at a.names.keys (tree a) (a.stmts.items ++ x ∷ []) (length a.stmts.items)) x.kind x.at x.close ≡ stmt_of a.names.keys (tree a) (stmt a) x.kind x.at x.close) (append-nil a.names.keys)
        (stmt_stays a.names.keys [] a.exprs.items (tree a) (tree a) (λ k lt. refl) (stmt a) (stmt_at a.names.keys (tree a) (a.stmts.items ++ x ∷ []) (length a.stmts.items)) a.stmts.items (length a.stmts.items) bodies x.kind x.at x.close fits)

  pub pushed_statement : (t : Statement) → IsLine a x t → IsStatement b id t
  pushed_statement t l =
      subst (λ ns. (id.0 < length b.stmts.items) × (statement_of ns b.exprs.items b.stmts.items id.0 ≡ t)) (sym p.names)
      (subst (λ es. (id.0 < length b.stmts.items) × (statement_of a.names.keys es b.stmts.items id.0 ≡ t)) (sym p.exprs)
      (subst (λ ss. (id.0 < length ss) × (statement_of a.names.keys a.exprs.items ss id.0 ≡ t)) (sym p.stmts)
      (subst (λ k. (k < length (a.stmts.items ++ x ∷ [])) × (statement_of a.names.keys a.exprs.items (a.stmts.items ++ x ∷ []) k ≡ t)) (sym p.number)
      (omega (arith, length-append a.stmts.items (x ∷ [])), seen l.0 ∙ l.1))))

  pub pushed_member : (t : Statement) → IsLine a x t → IsGateStmt (Some x) → IsMember b id t
  pushed_member t l g =
      let st = pushed_statement t l in
      ((st.0, subst (λ ss. IsGateStmt (slice_get ss id.0)) (sym p.stmts) (subst (λ k. IsGateStmt (slice_get (a.stmts.items ++ x ∷ []) k)) (sym p.number) (subst IsGateStmt (sym (here l.0)) g))), st.1)

-- an answer of a reader stands for what is shown otherwise
pub gives_map : {X A : Type 0} (shows shows' : X → A → Type 0) (tokens : List Token) (from : ℕ) (out : Outcome Token A) (r : Result (X × ℕ) Stop) → ((x : X) (v : A) → shows x v → shows' x v) → Gives shows tokens from out r → Gives shows' tokens from out r
gives_map shows shows' tokens from out (Ok r) f g = (g.0, f r.0 g.0 g.1, g.2, g.3, g.4)
gives_map shows shows' tokens from out (Err (e.Syntax n)) f g = g
gives_map shows shows' tokens from out (Err (e.Deep n)) f g = g
gives_map shows shows' tokens from out (Err e.Memory) f g = tt
