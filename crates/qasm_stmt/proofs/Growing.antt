-- The lists of the tree grow, and what is seen through them stays.
use Rattle.std.proofs.Common.{◌≡◌, ◌⊎◌, inl, inr, ℕ, zero, suc, ◌<◌, ◌≤◌, ◌++◌, List, [], ◌∷◌, length, Option, Some, None, slice_get, sym, ap, subst, ◌∙◌, le_refl, append-nil, append_assoc, length-append, arith}
use Rattle.std.specs.Prelude.{All}
use Rattle.std.proofs.lemmas.List.Elements.{All-nil, All-cons}
use Rattle.qasm_ast.specs.declared.expr.Expr.{Expr}
use Rattle.qasm_ast.specs.declared.expr.ExprId.{ExprId}
use Rattle.qasm_ast.specs.declared.expr.IndexRef.{IndexRef}
use Rattle.qasm_ast.specs.declared.expr.OperandRef.{OperandRef}
use Rattle.qasm_ast.specs.declared.expr.TypeRef.{TypeRef}
use Rattle.qasm_ast.specs.declared.stmt.Stmt.{Stmt}
use Rattle.qasm_ast.specs.declared.stmt.StmtId.{StmtId}
use Rattle.qasm_ast.specs.declared.stmt.Declared.{Declared}
use Rattle.qasm_ast.specs.declared.stmt.ValueRef.{ValueRef}
use Rattle.qasm_ast.specs.declared.stmt.Modifier.{Modifier}
use Rattle.qasm_ast.specs.Tree.{Tree, Trees, Maybe, Bracket, brackets, brackets_at, trees_at, maybe_at, tree_of, Name, name_of, Scalar, scalar_of, Operand, operand_of, Value, value_of, Change, change_of, Parameter, parameter_of, Statement, Statements, statements_at, statement_of}
use Rattle.qasm_ast.specs.Whole.{IfThere, AllOf, IsExpr, IsStmt, IsGateMember, IndexFits, TypeFits, DeclaredFits, OperandFits, ValueFits, ModifierFits, ParamFits, StmtFits, StmtsFit}
use Rattle.qasm_ast.proofs.Steps.{tree_of-append, ids_same, some_same, indexes_same}
use Rattle.qasm_ast.proofs.Staying.{name_stays, scalar_stays, operand_stays, value_stays, change_stays, parameter_stays, statements_stay, statement_of-append}
use Rattle.qasm_ast.proofs.Fitting.{ids_longer, maybe_longer, indexes_longer, operand_longer, type_longer, declared_longer, value_longer, modifier_longer, param_longer, body_on, member_on, stmt_on}
use Rattle.qasm_expr.specs.Answer.{Grows}
use Rattle.qasm_stmt.specs.declared.arena.Arena.{Arena}
use Rattle.qasm_stmt.specs.Seen.{Each, IfBoth, Sound, Grown, IsTree, IsMaybe, IsTrees, IsName, IsType, IsBrackets, IsOperand, IsValue, IsChange, IsParameter, IsStatement, IsStatements, IsMember}
use Rattle.qasm_ast.specs.Whole.{ExprFits}
use Rattle.qasm_expr.proofs.Growing.{fits_more, get_below}

-- ---- growing

pub grown_same : (a : Arena) → Grown a a
grown_same a = record { more_names = []; more_exprs = []; more_stmts = []; names = sym (append-nil _); exprs = sym (append-nil _); stmts = sym (append-nil _) }

pub grown_on : {a b c : Arena} → Grown a b → Grown b c → Grown a c
grown_on {a} {b} {c} g h = record {
  more_names = g.more_names ++ h.more_names;
  more_exprs = g.more_exprs ++ h.more_exprs;
  more_stmts = g.more_stmts ++ h.more_stmts;
  names = h.names ∙ ap (λ l. l ++ h.more_names) g.names ∙ append_assoc a.names.keys g.more_names h.more_names;
  exprs = h.exprs ∙ ap (λ l. l ++ h.more_exprs) g.exprs ∙ append_assoc a.exprs.items g.more_exprs h.more_exprs;
  stmts = h.stmts ∙ ap (λ l. l ++ h.more_stmts) g.stmts ∙ append_assoc a.stmts.items g.more_stmts h.more_stmts;
}

-- names and expressions alone
pub grown_by : (a b : Arena) → Grows a.names.keys b.names.keys a.exprs.items b.exprs.items → b.stmts.items ≡ a.stmts.items → Grown a b
grown_by a b g e = record { more_names = g.more_names; more_exprs = g.more_nodes; more_stmts = []; names = g.names_are; exprs = g.nodes_are; stmts = e ∙ sym (append-nil _) }

old_or_new : {X : Type 0} (xs ys : List X) (n : ℕ) (x : X) → slice_get (xs ++ ys) n ≡ Some x → (slice_get xs n ≡ Some x) ⊎ (length xs ≤ n)
old_or_new [] ys n x e = inr (omega arith)
old_or_new (y ∷ xs) ys zero x e = inl e
old_or_new (y ∷ xs) ys (suc n) x e = elim (old_or_new xs ys n x e) [ inl a ↦ inl a | inr b ↦ inr (omega arith) ]

pub sound_by : (a b : Arena) → Sound a → Grows a.names.keys b.names.keys a.exprs.items b.exprs.items → b.stmts.items ≡ a.stmts.items → Sound b
sound_by a b s g e = record {
  names = λ k text h. elim (old_or_new a.names.keys g.more_names k text (subst (λ l. slice_get l k ≡ Some text) g.names_are h)) [ inl w ↦ s.names k text w | inr w ↦ g.sizes k text w h ];
  exprs = λ n x le h. elim (old_or_new a.exprs.items g.more_nodes n x (subst (λ l. slice_get l n ≡ Some x) g.nodes_are h)) [
    | inl w ↦ wider_names n x (s.exprs n x le w)
    | inr w ↦ g.fits n x w h
  ];
  stmts = subst (λ ss. StmtsFit (length b.names.keys) b.exprs.items ss) (sym e) (subst (λ es. StmtsFit (length b.names.keys) es a.stmts.items) (sym g.nodes_are) wider_stmts);
}
  where
    more : length a.names.keys ≤ length b.names.keys
    more = omega (arith, ap length g.names_are, length-append a.names.keys g.more_names)

    wider_names : (n : ℕ) (x : Expr) → ExprFits (length a.names.keys) n x.kind → ExprFits (length b.names.keys) n x.kind
    wider_names n x f = fits_more (length a.names.keys) (length b.names.keys) n x.kind more f

    below : {X : Type 0} (xs : List X) (n : ℕ) (x : X) → slice_get xs n ≡ Some x → n < length xs
    below xs n x h = get_below xs n x h

    wider_stmts : StmtsFit (length b.names.keys) (a.exprs.items ++ g.more_nodes) a.stmts.items
    wider_stmts n x h = subst (λ ss. StmtFits (length b.names.keys) (a.exprs.items ++ g.more_nodes) ss n x.kind) (append-nil a.stmts.items)
        (stmt_on (length a.names.keys) (length b.names.keys) a.exprs.items g.more_nodes a.stmts.items [] more n n (le_refl n) (omega (arith, get_below a.stmts.items n x h)) x.kind (s.stmts n x h))

-- ---- what is seen stays

-- of lists
pub each_on : {X A : Type 0} (R S : X → A → Type 0) → ((x : X) (a : A) → R x a → S x a) → (xs : List X) (as' : List A) → Each R xs as' → Each S xs as'
each_on R S f [] [] e = tt
each_on R S f (x ∷ xs) (a ∷ as') e = (f x a e.0, each_on R S f xs as' e.1)
each_on R S f [] (a ∷ as') e = absurd e
each_on R S f (x ∷ xs) [] e = absurd e

pub each_none : {X A : Type 0} (R : X → A → Type 0) (xs : List X) → xs ≡ [] → Each R xs []
each_none R xs e = subst (λ l. Each R l []) (sym e) tt

pub each_push : {X A : Type 0} (R : X → A → Type 0) (xs : List X) (as' : List A) (x : X) (a : A) → Each R xs as' → R x a → Each R (xs ++ x ∷ []) (as' ++ a ∷ [])
each_push R [] [] x a e r = (r, tt)
each_push R (y ∷ xs) (b ∷ as') x a e r = (e.0, each_push R xs as' x a e.1 r)
each_push R [] (b ∷ as') x a e r = absurd e
each_push R (y ∷ xs) [] x a e r = absurd e

pub each_all : {X A : Type 0} (R : X → A → Type 0) (P : X → Type 0) → ((x : X) (a : A) → R x a → P x) → (xs : List X) (as' : List A) → Each R xs as' → All P xs
each_all R P f [] as' e = All-nil P
each_all R P f (x ∷ xs) (a ∷ as') e = All-cons P x xs (f x a e.0) (each_all R P f xs as' e.1)
each_all R P f (x ∷ xs) [] e = absurd e

pub if_both_on : {X A : Type 0} (R S : X → A → Type 0) → ((x : X) (a : A) → R x a → S x a) → (x : Option X) (a : Option A) → IfBoth R x a → IfBoth S x a
if_both_on R S f None None e = tt
if_both_on R S f (Some x) (Some a) e = f x a e
if_both_on R S f None (Some a) e = absurd e
if_both_on R S f (Some x) None e = absurd e

module _ {a b : Arena} (s : Sound a) (g : Grown a b) where
  abbrev names : List (List ℕ)
  names = a.names.keys

  abbrev exprs : List Expr
  exprs = a.exprs.items

  abbrev stmts : List Stmt
  stmts = a.stmts.items

  moved : (P : List (List ℕ) → List Expr → List Stmt → Type 0) → P (names ++ g.more_names) (exprs ++ g.more_exprs) (stmts ++ g.more_stmts) → P b.names.keys b.exprs.items b.stmts.items
  moved P h = subst (λ l. P l b.exprs.items b.stmts.items) (sym g.names) (subst (λ l. P (names ++ g.more_names) l b.stmts.items) (sym g.exprs) (subst (λ l. P (names ++ g.more_names) (exprs ++ g.more_exprs) l) (sym g.stmts) h))

  le_names : length names ≤ length (names ++ g.more_names)
  le_names = omega (arith, length-append names g.more_names)

  le_exprs : length exprs ≤ length (exprs ++ g.more_exprs)
  le_exprs = omega (arith, length-append exprs g.more_exprs)

  le_stmts : length stmts ≤ length (stmts ++ g.more_stmts)
  le_stmts = omega (arith, length-append stmts g.more_stmts)

  sub : ℕ → Tree
  sub = tree_of names exprs

  same : (k : ℕ) → k < length exprs → tree_of (names ++ g.more_names) (exprs ++ g.more_exprs) k ≡ tree_of names exprs k
  same k lt = tree_of-append names g.more_names exprs g.more_exprs s.exprs k lt

  pub tree_later : (x : ExprId) (t : Tree) → IsTree a x t → IsTree b x t
  tree_later x t (lt, e) = moved (λ ns es ss. (x.0 < length es) × (tree_of ns es x.0 ≡ t)) (omega (arith, le_exprs), same x.0 lt ∙ e)

  pub maybe_later : (x : Option ExprId) (t : Maybe) → IsMaybe a x t → IsMaybe b x t
  maybe_later x t (f, e) = moved (λ ns es ss. IfThere (IsExpr (length es)) x × (maybe_at (tree_of ns es) x ≡ t)) (
    maybe_longer (length exprs) (length (exprs ++ g.more_exprs)) le_exprs x f,
    some_same names g.more_names (tree_of names exprs) (tree_of (names ++ g.more_names) (exprs ++ g.more_exprs)) (length exprs) same x f ∙ e,
  )

  pub trees_later : (xs : List ExprId) (ts : Trees) → IsTrees a xs ts → IsTrees b xs ts
  trees_later xs ts (f, e) = moved (λ ns es ss. AllOf (IsExpr (length es)) xs × (trees_at (tree_of ns es) xs ≡ ts)) (
    ids_longer (length exprs) (length (exprs ++ g.more_exprs)) le_exprs xs f,
    ids_same names g.more_names (tree_of names exprs) (tree_of (names ++ g.more_names) (exprs ++ g.more_exprs)) (length exprs) same xs f.each ∙ e,
  )

  pub name_later : (x : Declared) (n : Name) → IsName a x n → IsName b x n
  name_later x n (f, e) = moved (λ ns es ss. DeclaredFits (length ns) x × (name_of ns (tree_of ns es) x ≡ n)) (
    declared_longer (length names) (length (names ++ g.more_names)) le_names x f,
    name_stays names g.more_names (tree_of names exprs) (tree_of (names ++ g.more_names) (exprs ++ g.more_exprs)) (length exprs) same x f ∙ e,
  )

  pub type_later : (x : TypeRef) (t : Scalar) → IsType a x t → IsType b x t
  type_later x t (f, e) = moved (λ ns es ss. TypeFits (length es) x × (scalar_of ns (tree_of ns es) x ≡ t)) (
    type_longer (length exprs) (length (exprs ++ g.more_exprs)) le_exprs x f,
    scalar_stays names g.more_names (tree_of names exprs) (tree_of (names ++ g.more_names) (exprs ++ g.more_exprs)) (length exprs) same x f.fits ∙ e,
  )

  pub brackets_later : (xs : List IndexRef) (bs : List Bracket) → IsBrackets a xs bs → IsBrackets b xs bs
  brackets_later xs bs (f, e) = moved (λ ns es ss. AllOf (IndexFits (length es)) xs × (brackets_at (tree_of ns es) xs ≡ brackets bs)) (
    indexes_longer (length exprs) (length (exprs ++ g.more_exprs)) le_exprs xs f,
    indexes_same names g.more_names (tree_of names exprs) (tree_of (names ++ g.more_names) (exprs ++ g.more_exprs)) (length exprs) same xs f.each ∙ e,
  )

  pub operand_later : (x : OperandRef) (o : Operand) → IsOperand a x o → IsOperand b x o
  operand_later x o (f, e) = moved (λ ns es ss. OperandFits (length ns) (length es) x × (operand_of ns (tree_of ns es) x ≡ o)) (
    operand_longer (length names) (length (names ++ g.more_names)) (length exprs) (length (exprs ++ g.more_exprs)) le_names le_exprs x f,
    operand_stays names g.more_names (tree_of names exprs) (tree_of (names ++ g.more_names) (exprs ++ g.more_exprs)) (length exprs) same x f ∙ e,
  )

  pub value_later : (x : ValueRef) (v : Value) → IsValue a x v → IsValue b x v
  value_later x v (f, e) = moved (λ ns es ss. ValueFits (length ns) (length es) x × (value_of ns (tree_of ns es) x ≡ v)) (
    value_longer (length names) (length (names ++ g.more_names)) (length exprs) (length (exprs ++ g.more_exprs)) le_names le_exprs x f,
    value_stays names g.more_names (tree_of names exprs) (tree_of (names ++ g.more_names) (exprs ++ g.more_exprs)) (length exprs) same x f ∙ e,
  )

  pub change_later : (x : Modifier) (h : Change) → IsChange a x h → IsChange b x h
  change_later x h (f, e) = moved (λ ns es ss. ModifierFits (length es) x × (change_of ns (tree_of ns es) x ≡ h)) (
    modifier_longer (length exprs) (length (exprs ++ g.more_exprs)) le_exprs x f,
    change_stays names g.more_names (tree_of names exprs) (tree_of (names ++ g.more_names) (exprs ++ g.more_exprs)) (length exprs) same x f ∙ e,
  )

  pub parameter_later : (x : TypeRef × Declared) (q : Parameter) → IsParameter a x q → IsParameter b x q
  parameter_later x q (f, e) = moved (λ ns es ss. ParamFits (length ns) (length es) x × (parameter_of ns (tree_of ns es) x ≡ q)) (
    param_longer (length names) (length (names ++ g.more_names)) (length exprs) (length (exprs ++ g.more_exprs)) le_names le_exprs x f,
    parameter_stays names g.more_names (tree_of names exprs) (tree_of (names ++ g.more_names) (exprs ++ g.more_exprs)) (length exprs) same x f ∙ e,
  )

  stmt_same : (k : ℕ) → k < length stmts → statement_of (names ++ g.more_names) (exprs ++ g.more_exprs) (stmts ++ g.more_stmts) k ≡ statement_of names exprs stmts k
  stmt_same k lt = statement_of-append names g.more_names exprs g.more_exprs stmts g.more_stmts s.exprs s.stmts k lt

  pub statement_later : (x : StmtId) (t : Statement) → IsStatement a x t → IsStatement b x t
  statement_later x t (lt, e) = moved (λ ns es ss. (x.0 < length ss) × (statement_of ns es ss x.0 ≡ t)) (omega (arith, le_stmts), stmt_same x.0 lt ∙ e)

  pub statements_later : (xs : List StmtId) (ts : Statements) → IsStatements a xs ts → IsStatements b xs ts
  statements_later xs ts (f, e) = moved (λ ns es ss. AllOf (IsStmt (length ss)) xs × (statements_at ns (tree_of ns es) (statement_of ns es ss) xs ≡ ts)) (
    body_on (length names) (length (names ++ g.more_names)) exprs g.more_exprs stmts g.more_stmts le_names (length stmts) (length (stmts ++ g.more_stmts)) le_stmts xs f,
    statements_stay names g.more_names exprs g.more_exprs stmts g.more_stmts s.exprs s.stmts xs f.each ∙ e,
  )

  pub member_later : (x : StmtId) (t : Statement) → IsMember a x t → IsMember b x t
  member_later x t (f, e) = moved (λ ns es ss. IsGateMember ss (length ss) x × (statement_of ns es ss x.0 ≡ t)) (
    member_on (length names) (length (names ++ g.more_names)) exprs g.more_exprs stmts g.more_stmts le_names (length stmts) (length (stmts ++ g.more_stmts)) le_stmts (le_refl _) x f,
    stmt_same x.0 f.0 ∙ e,
  )
