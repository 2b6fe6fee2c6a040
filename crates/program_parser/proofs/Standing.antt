-- What an answer stands for lasts, and what the parser of expressions tells is told in that form.
use Rattle.std.proofs.Common.{◌≡◌, ℕ, Vec, Global, ◌<◌, ◌≤◌, ◌^◌, ◌++◌, List, [], ◌∷◌, length, Option, Some, None, refl, sym, ap, subst, ◌∙◌, suc, le_refl, append-nil, append_assoc, length-append, arith}
use Rattle.std.specs.Prelude.{All, map}
use Rattle.std.proofs.lemmas.List.Elements.{All-nil, All-cons}
use Rattle.qq_base.specs.declared.refusal.Span.{Span}
use Rattle.qasm_ast.specs.declared.expr.ExprId.{ExprId}
use Rattle.qasm_ast.specs.declared.expr.IndexRef.{IndexRef}
use Rattle.qasm_ast.specs.declared.expr.TypeRef.{TypeRef}
use Rattle.qasm_ast.specs.declared.stmt.Declared.{Declared}
use Rattle.qasm_ast.specs.declared.stmt.Stmt.{Stmt}
use Rattle.qasm_ast.specs.declared.stmt.StmtKind.{StmtKind}
use Rattle.qasm_ast.specs.Tree.{Tree, tree_at, trees, trees_at, maybe, present, maybe_at, Bracket, brackets, brackets_at, text_at, Scalar, scalar_of, if_some, Statement, stmt_of}
use Rattle.qasm_ast.specs.Whole.{AllOf, IfThere, IsExpr, StmtFits}
use Rattle.qasm_parser.specs.State.{State, Lasts, Longer}
use Rattle.qasm_parser.specs.Shows.{Each, IsWord, IsTree, IsTrees, IsBrackets, IsScalar}
use Rattle.qasm_parser.proofs.Showing.{each_on}
use Rattle.qasm_grammar.specs.Parts.{declared}
use Rattle.program_parser.specs.World.{World, From, Stands, sub_in, body_in}
use Rattle.program_parser.specs.Shows.{ListIn, MaybeIn, TreeIn, TreesIn, BracketsIn, NameIn, ScalarIn, LineIn, line_of}

-- a world that comes from later lists comes from these
pub from_on : {a b : State} {w : World} → Longer a b → From b w → From a w
from_on {a} {b} {w} g f = record {
  more_names = g.more_names ++ f.more_names;
  more_exprs = g.more_exprs ++ f.more_exprs;
  more_stmts = g.more_stmts ++ f.more_stmts;
  names = f.names ∙ ap (λ l. l ++ f.more_names) g.names ∙ append_assoc a.names g.more_names f.more_names;
  exprs = f.exprs ∙ ap (λ l. l ++ f.more_exprs) g.exprs ∙ append_assoc a.exprs g.more_exprs f.more_exprs;
  stmts = f.stmts ∙ ap (λ l. l ++ f.more_stmts) g.stmts ∙ append_assoc a.stmts g.more_stmts f.more_stmts;
  enough = λ k lt. f.enough k (omega (arith, ap length g.exprs, length-append a.exprs g.more_exprs));
  stmts_enough = λ k lt. f.stmts_enough k (omega (arith, ap length g.stmts, length-append a.stmts g.more_stmts));
  known = omega (arith, f.known, ap length g.names, length-append a.names g.more_names);
  count = omega (arith, f.count, ap length g.stmts, length-append a.stmts g.more_stmts);
}

-- the lists as they are now
abbrev pub world_of : State → World
world_of s = record { names = s.names; exprs = s.exprs; stmts = s.stmts; steps = suc; stmt_steps = suc; known = length s.names; count = length s.stmts }

pub from_here : (s : State) → From s (world_of s)
from_here s = record { more_names = []; more_exprs = []; more_stmts = []; names = sym (append-nil s.names); exprs = sym (append-nil s.exprs); stmts = sym (append-nil s.stmts); enough = λ k lt. omega arith; stmts_enough = λ k lt. omega arith; known = le_refl _; count = le_refl _ }

-- what an answer stands for lasts
pub later : {X A : Type 0} {look : World → X → A → Type 0} {a b : State} {x : X} {v : A} → Longer a b → Stands look a x v → Stands look b x v
later g s = record { holds = λ w f. s.holds w (from_on g f) }

-- ---- what the parser of expressions tells

module _ {s : State} {w : World} (f : From s w) where
  -- what lasts holds in the world
  pub lasting : (P : List (List ℕ) → (ℕ → Tree) → Type 0) → Lasts s P → P w.names (sub_in w)
  lasting P l =
      subst (λ ns. P ns (λ k. tree_at ns w.exprs (w.steps k) k)) (sym f.names)
      (subst (λ es. P (s.names ++ f.more_names) (λ k. tree_at (s.names ++ f.more_names) es (w.steps k) k)) (sym f.exprs)
      (l.holds f.more_names f.more_exprs w.steps f.enough))

  pub reach : length s.exprs ≤ length w.exprs
  reach = omega (arith, ap length f.exprs, length-append s.exprs f.more_exprs)

module _ (s : State) where
  pub name_stands : (x : Declared) (v : List ℕ × Span) → IsWord s x v → Stands NameIn s x (declared v)
  name_stands x v h = record { holds = λ w f. (omega (arith, h.0, f.known), rw (lasting f (λ names sub. text_at names x.name ≡ v.0) h.1, h.2) refl) }

  pub tree_stands : (x : ExprId) (t : Tree) → IsTree s x t → Stands TreeIn s x t
  tree_stands x t h = record { holds = λ w f. (omega (arith, h.0, reach f), lasting f (λ names sub. sub x.0 ≡ t) h.1) }

  pub scalar_stands : (x : TypeRef) (a : Scalar) → IsScalar s x a → Stands ScalarIn s x a
  scalar_stands x a h = record { holds = λ w f. (h.0 (length w.exprs) (reach f), lasting f (λ names sub. scalar_of names sub x ≡ a) h.1) }

  pub trees_stand : (xs : Vec ExprId Global) (ts : List Tree) → IsTrees s xs.items ts → Stands TreesIn s xs ts
  trees_stand xs ts h = record { holds = λ w f. (h.0 (length w.exprs) (reach f), lasting f (λ names sub. trees_at sub xs.items ≡ trees ts) h.1) }

  pub brackets_stand : (xs : Vec IndexRef Global) (bs : List Bracket) → IsBrackets s xs.items bs → Stands BracketsIn s xs bs
  brackets_stand xs bs h = record { holds = λ w f. (h.0 (length w.exprs) (reach f), lasting f (λ names sub. brackets_at sub xs.items ≡ brackets bs) h.1) }

  -- ---- what may be left out

  pub none_stands : {X A : Type 0} {look : World → X → A → Type 0} → Stands (MaybeIn look) s None None
  none_stands = record { holds = λ w f. tt }

  pub some_stands : {X A : Type 0} {look : World → X → A → Type 0} (x : X) (a : A) → Stands look s x a → Stands (MaybeIn look) s (Some x) (Some a)
  some_stands x a h = record { holds = h.holds }

  -- ---- lists

  pub each_stands : {X A : Type 0} (look : World → X → A → Type 0) (xs : Vec X Global) (as' : List A) → length xs.items < 2 ^ 32 → Each (Stands look s) xs.items as' → Stands (ListIn look) s xs as'
  each_stands look xs as' count e = record { holds = λ w f. (count, each_on (Stands look s) (look w) (λ x a h. h.holds w f) xs.items as' e) }

pub each_later : {X A : Type 0} (look : World → X → A → Type 0) {a b : State} → Longer a b → (xs : List X) (as' : List A) → Each (Stands look a) xs as' → Each (Stands look b) xs as'
each_later look {a} {b} g xs as' e = each_on (Stands look a) (Stands look b) (λ x v h. later g h) xs as' e

each_fits : {X A : Type 0} (P : X → Type 0) (see : X → A) (xs : List X) (as' : List A) → Each (λ x a. P x × (see x ≡ a)) xs as' → All P xs × (map see xs ≡ as')
each_fits P see [] [] e = (All-nil P, refl)
each_fits P see (x ∷ xs) (a ∷ as') e =
    let r = each_fits P see xs as' e.1 in
    (All-cons P x xs e.0.0 r.0, let here = e.0.1 in let more = r.1 in cc)
each_fits P see [] (a ∷ as') e = absurd e
each_fits P see (x ∷ xs) [] e = absurd e

-- a list that stands in a world is as a program asks, and is seen so
pub list_in : {X A : Type 0} (P : X → Type 0) (see : X → A) (xs : List X) (as' : List A) → (length xs < 2 ^ 32) × Each (λ x a. P x × (see x ≡ a)) xs as' → AllOf P xs × (map see xs ≡ as')
list_in P see xs as' (count, e) = let r = each_fits P see xs as' e in (record { count = count; each = r.0 }, r.1)

-- what may be left out, likewise
pub maybe_in : {X A : Type 0} (P : X → Type 0) (see : X → A) (w : World) (x : Option X) (a : Option A) → MaybeIn (λ v y b. P y × (see y ≡ b)) w x a → IfThere P x × (if_some see x ≡ a)
maybe_in P see w None None h = (tt, refl)
maybe_in P see w (Some x) (Some a) h = (h.0, ap Some h.1)
maybe_in P see w None (Some a) h = absurd h
maybe_in P see w (Some x) None h = absurd h

pub width_in : (w : World) (x : Option ExprId) (o : Option Tree) → MaybeIn TreeIn w x o → IfThere (IsExpr (length w.exprs)) x × (maybe_at (sub_in w) x ≡ maybe o)
width_in w None None h = (tt, refl)
width_in w (Some x) (Some t) h = (h.0, ap present h.1)
width_in w None (Some t) h = absurd h
width_in w (Some x) None h = absurd h

-- ---- statements that are made

-- a statement that has no other closing brace
pub line_stands : (s : State) (kind : StmtKind) (place : Span) (x : Stmt) (t : Statement) → x ≡ line_of kind place → ((w : World) → From s w → StmtFits w.known w.exprs w.stmts w.count kind × (stmt_of w.names (sub_in w) (body_in w) kind place place ≡ t)) → Stands LineIn s x t
line_stands s kind place x t is f = subst (λ y. Stands LineIn s y t) (sym is) (record { holds = f })
