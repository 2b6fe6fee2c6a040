-- What the answers of a parser stand for stays while its lists grow; lists of answers, item by item and whole.
use Rattle.std.proofs.Common.{◌≡◌, ℕ, ◌+◌, ◌<◌, ◌≤◌, ◌^◌, ◌++◌, List, [], ◌∷◌, length, Option, refl, sym, ap, subst, length-append, arith}
use Rattle.std.specs.Prelude.{All}
use Rattle.std.proofs.lemmas.List.Elements.{All-nil, All-cons}
use Rattle.qq_base.specs.declared.refusal.Span.{Span}
use Rattle.qasm_ast.specs.declared.expr.Expr.{Expr}
use Rattle.qasm_ast.specs.declared.expr.ExprId.{ExprId}
use Rattle.qasm_ast.specs.declared.expr.IndexRef.{IndexRef}
use Rattle.qasm_ast.specs.declared.expr.TypeRef.{TypeRef}
use Rattle.qasm_ast.specs.declared.stmt.Declared.{Declared}
use Rattle.qasm_ast.specs.Tree.{Tree, tree_at, trees, trees_at, Maybe, maybe_at, Bracket, bracket_at, brackets, brackets_at, text_at, Scalar, scalar_of}
use Rattle.qasm_ast.specs.Whole.{IsExpr, IndexFits}
use Rattle.qasm_parser.specs.State.{State, After, tree}
use Rattle.qasm_parser.specs.Shows.{Each, IsWord, IsTree, IsMaybe, IsTrees, IsBracket, IsBrackets, IsScalar}
use Rattle.qasm_parser.proofs.Growing.{lasts_later, lasts_now}

module _ {m n : ℕ} {a b : State} (g : After m n a b) where
  more_names : length a.names ≤ length b.names
  more_names = omega (arith, ap length g.longer.names, length-append a.names g.longer.more_names)

  more_exprs : length a.exprs ≤ length b.exprs
  more_exprs = omega (arith, ap length g.longer.exprs, length-append a.exprs g.longer.more_exprs)

  more_stmts : length a.stmts ≤ length b.stmts
  more_stmts = omega (arith, ap length g.longer.stmts, length-append a.stmts g.longer.more_stmts)

  -- the tokens that are left are fewer
  pub shorter : length b.left + m ≤ length a.left + n
  shorter = omega (arith, more_exprs, more_stmts, g.few_nodes)

  pub tree_later : (x : ExprId) (t : Tree) → IsTree a x t → IsTree b x t
  tree_later x t (lt, l) = (omega (arith, lt, more_exprs), lasts_later g.longer (λ names sub. sub x.0 ≡ t) l)

  pub maybe_later : (x : Option ExprId) (t : Maybe) → IsMaybe a x t → IsMaybe b x t
  maybe_later x t (f, l) = (λ k le. f k (omega (arith, le, more_exprs)), lasts_later g.longer (λ names sub. maybe_at sub x ≡ t) l)

  pub trees_later : (xs : List ExprId) (ts : List Tree) → IsTrees a xs ts → IsTrees b xs ts
  trees_later xs ts (f, l) = (λ k le. f k (omega (arith, le, more_exprs)), lasts_later g.longer (λ names sub. trees_at sub xs ≡ trees ts) l)

  pub bracket_later : (j : IndexRef) (t : Bracket) → IsBracket a j t → IsBracket b j t
  bracket_later j t (f, l) = (λ k le. f k (omega (arith, le, more_exprs)), lasts_later g.longer (λ names sub. bracket_at sub j ≡ t) l)

  pub word_later : (x : Declared) (w : List ℕ × Span) → IsWord a x w → IsWord b x w
  word_later x w (lt, l, h) = (omega (arith, lt, more_names), lasts_later g.longer (λ names sub. text_at names x.name ≡ w.0) l, h)

  pub scalar_later : (x : TypeRef) (t : Scalar) → IsScalar a x t → IsScalar b x t
  scalar_later x t (f, l) = (λ k le. f k (omega (arith, le, more_exprs)), lasts_later g.longer (λ names sub. scalar_of names sub x ≡ t) l)

-- the tree of a node now
pub tree_now : (s : State) (x : ExprId) (t : Tree) → IsTree s x t → tree s x.0 ≡ t
tree_now s x t (lt, l) = lasts_now s (λ names sub. sub x.0 ≡ t) l

-- ---- lists, item by item

pub each_on : {X A : Type 0} (R S : X → A → Type 0) → ((x : X) (a : A) → R x a → S x a) → (xs : List X) (as' : List A) → Each R xs as' → Each S xs as'
each_on R S f [] [] e = tt
each_on R S f (x ∷ xs) (a ∷ as') e = (f x a e.0, each_on R S f xs as' e.1)
each_on R S f [] (a ∷ as') e = absurd e
each_on R S f (x ∷ xs) [] e = absurd e

pub each_none : {X A : Type 0} (R : X → A → Type 0) (xs : List X) → xs ≡ [] → Each R xs []
each_none R xs e = subst (λ l. Each R l []) (sym e) tt

each_push : {X A : Type 0} (R : X → A → Type 0) (xs : List X) (as' : List A) (x : X) (a : A) → Each R xs as' → R x a → Each R (xs ++ x ∷ []) (as' ++ a ∷ [])
each_push R [] [] x a e r = (r, tt)
each_push R (y ∷ xs) (b ∷ as') x a e r = (e.0, each_push R xs as' x a e.1 r)
each_push R [] (b ∷ as') x a e r = absurd e
each_push R (y ∷ xs) [] x a e r = absurd e

each_all : {X A : Type 0} (R : X → A → Type 0) (P : X → Type 0) → ((x : X) (a : A) → R x a → P x) → (xs : List X) (as' : List A) → Each R xs as' → All P xs
each_all R P f [] as' e = All-nil P
each_all R P f (x ∷ xs) (a ∷ as') e = All-cons P x xs (f x a e.0) (each_all R P f xs as' e.1)
each_all R P f (x ∷ xs) [] e = absurd e

-- one item more, where what the others stand for stays
pub each_more : {X A : Type 0} (R S : X → A → Type 0) → ((x : X) (a : A) → R x a → S x a) → (found new : List X) (acc : List A) (x : X) (a : A) → new ≡ found ++ x ∷ [] → Each R found acc → S x a → Each S new (acc ++ a ∷ [])
each_more R S later found new acc x a push sees s = subst (λ l. Each S l (acc ++ a ∷ [])) (sym push) (each_push S found acc x a (each_on R S later found acc sees) s)

-- ---- lists, whole

module _ (s : State) where
  module _ (more_names : List (List ℕ)) (more_exprs : List Expr) (steps : ℕ → ℕ) (enough : (k : ℕ) → k < length s.exprs → k < steps k) where
    sub : ℕ → Tree
    sub k = tree_at (s.names ++ more_names) (s.exprs ++ more_exprs) (steps k) k

    trees_are : (xs : List ExprId) (ts : List Tree) → Each (IsTree s) xs ts → trees_at sub xs ≡ trees ts
    unfolding sub
    trees_are [] [] e = refl
    trees_are (x ∷ xs) (t ∷ ts) e =
        let here : sub x.0 ≡ t = e.0.1.holds more_names more_exprs steps enough in
        let more : trees_at sub xs ≡ trees ts = trees_are xs ts e.1 in
        cc
    trees_are [] (t ∷ ts) e = absurd e
    trees_are (x ∷ xs) [] e = absurd e

    brackets_are : (xs : List IndexRef) (bs : List Bracket) → Each (IsBracket s) xs bs → brackets_at sub xs ≡ brackets bs
    unfolding sub
    brackets_are [] [] e = refl
    brackets_are (x ∷ xs) (t ∷ ts) e =
        let here : bracket_at sub x ≡ t = e.0.1.holds more_names more_exprs steps enough in
        let more : brackets_at sub xs ≡ brackets ts = brackets_are xs ts e.1 in
        cc
    brackets_are [] (t ∷ ts) e = absurd e
    brackets_are (x ∷ xs) [] e = absurd e

  pub trees_whole : (xs : List ExprId) (ts : List Tree) → length xs < 2 ^ 32 → Each (IsTree s) xs ts → IsTrees s xs ts
  unfolding sub
  trees_whole xs ts count e = (
    λ n le. record { count = count; each = each_all (IsTree s) (IsExpr n) (λ x t h. omega (arith, h.0, le)) xs ts e },
    record { holds = λ more_names more_exprs steps enough. trees_are more_names more_exprs steps enough xs ts e },
  )

  pub brackets_whole : (xs : List IndexRef) (bs : List Bracket) → length xs < 2 ^ 32 → Each (IsBracket s) xs bs → IsBrackets s xs bs
  unfolding sub
  brackets_whole xs bs count e = (
    λ n le. record { count = count; each = each_all (IsBracket s) (IndexFits n) (λ x t h. h.0 n le) xs bs e },
    record { holds = λ more_names more_exprs steps enough. brackets_are more_names more_exprs steps enough xs bs e },
  )
