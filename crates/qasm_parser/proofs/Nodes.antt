-- What the parts of an expression stand for, put together.
use Rattle.std.proofs.Common.{◌≡◌, ℕ, List, Option, Some, None, refl, ap, sym, subst, arith}
use Rattle.qq_base.specs.declared.refusal.Span.{Span}
use Rattle.qasm_ast.specs.declared.expr.ExprId.{ExprId}
use Rattle.qasm_ast.specs.declared.expr.ExprKind.TheVariants as e
use Rattle.qasm_ast.specs.declared.expr.Base.{Base}
use Rattle.qasm_ast.specs.declared.expr.BinaryOp.{BinaryOp}
use Rattle.qasm_ast.specs.declared.expr.UnaryOp.{UnaryOp}
use Rattle.qasm_ast.specs.declared.expr.OperandName.TheVariants as o
use Rattle.qasm_ast.specs.declared.expr.IndexRef.{IndexRef}
use Rattle.qasm_ast.specs.declared.expr.IndexRef.TheVariants as i
use Rattle.qasm_ast.specs.declared.expr.TypeRef.{TypeRef}
use Rattle.qasm_ast.specs.declared.stmt.Declared.{Declared}
use Rattle.qasm_ast.specs.Tree.{Tree, word, named, unary as unary_tree, binary as binary_tree, cast as cast_tree, call, node_of, place_of, trees, Maybe, absent, present, maybe_at, Bracket, position, range, members, brackets, Scalar, scalar_of}
use Rattle.qasm_expr.specs.Grammar.{scalar}
use Rattle.qasm_parser.specs.State.{State, Lasts, tree}
use Rattle.qasm_parser.specs.Shows.{IsWord, IsTree, IsMaybe, IsTrees, IsBracket, IsBrackets, IsScalar}
use Rattle.qasm_parser.proofs.Growing.{lasts_now}
use Rattle.qasm_parser.proofs.Showing.{tree_now}

module _ (s : State) where
  -- ---- nodes

  binary_same : (o o' : BinaryOp) (a a' b b' : Tree) (p p' : Span) → o ≡ o' → a ≡ a' → b ≡ b' → p ≡ p' → binary_tree o a b p ≡ binary_tree o' a' b' p'
  binary_same o o' a a' b b' p p' h i j k = cc

  pub unary_lasts : (o o' : UnaryOp) (x : ExprId) (a : Tree) (place place' : Span) → o ≡ o' → place ≡ place' → IsTree s x a → Lasts s (λ names sub. node_of names sub (e.Unary o x) place ≡ unary_tree o' a place')
  unary_lasts o o' x a place place' h k f = record { holds = λ names exprs steps enough. let here = f.1.holds names exprs steps enough in rw (h, k, here) refl }

  -- at the place of the first operand
  pub binary_lasts : (o o' : BinaryOp) (x y : ExprId) (a b : Tree) → o ≡ o' → IsTree s x a → IsTree s y b → Lasts s (λ names sub. node_of names sub (e.Binary o x y) (place_of (tree s x.0)) ≡ binary_tree o' a b (place_of a))
  binary_lasts o o' x y a b h f g = record { holds = λ names exprs steps enough. binary_same _ _ _ _ _ _ _ _ h (f.1.holds names exprs steps enough) (g.1.holds names exprs steps enough) (ap place_of (tree_now s x a f)) }

  pub cast_lasts : (type : TypeRef) (x : ExprId) (a : Scalar) (t : Tree) → IsScalar s type a → IsTree s x t → Lasts s (λ names sub. node_of names sub (e.Cast type x) type.at ≡ cast_tree a.base a.width a.place t a.place)
  cast_lasts type x a t f g = record {
    holds = λ names exprs steps enough.
        cast_same _ _ _ _ (f.1.holds names exprs steps enough) (g.1.holds names exprs steps enough);
  }
    where
      cast_same : (b a : Scalar) (u t : Tree) → b ≡ a → u ≡ t → cast_tree b.base b.width b.place u b.place ≡ cast_tree a.base a.width a.place t a.place
      cast_same b a u t h k = rw (h, k) refl

  pub call_lasts : (x : Declared) (w : List ℕ × Span) (xs : List ExprId) (ts : List Tree) → IsWord s x w → IsTrees s xs ts → Lasts s (λ names sub. node_of names sub (e.Call x.name xs) x.at ≡ call w.0 (trees ts) w.1)
  call_lasts x w xs ts f g = record { holds = λ names exprs steps enough. rw (f.1.holds names exprs steps enough, g.1.holds names exprs steps enough, f.2) refl }

  pub named_lasts : (x : Declared) (w : List ℕ × Span) (js : List IndexRef) (bs : List Bracket) → IsWord s x w → IsBrackets s js bs → Lasts s (λ names sub. node_of names sub (e.Name (record { name = o.Name x.name; index = js; at = x.at })) x.at ≡ named (word w.0) (brackets bs) w.1 w.1)
  named_lasts x w js bs f g = record { holds = λ names exprs steps enough. rw (f.1.holds names exprs steps enough, g.1.holds names exprs steps enough, f.2) refl }

  pub scalar_lasts : (base base' : Base) (width : Option ExprId) (m : Maybe) (place place' : Span) → base ≡ base' → place ≡ place' → Lasts s (λ names sub. maybe_at sub width ≡ m) → Lasts s (λ names sub. scalar_of names sub (record { base = base; width = width; at = place }) ≡ scalar base' m place')
  scalar_lasts base base' width m place place' h k l = record { holds = λ names exprs steps enough. let here = l.holds names exprs steps enough in rw (h, k, here) refl }

  -- ---- parts that may be left out

  pub none_is : IsMaybe s None absent
  none_is = (λ n le. tt, record { holds = λ names exprs steps enough. refl })

  pub some_is : (x : ExprId) (t : Tree) → IsTree s x t → IsMaybe s (Some x) (present t)
  some_is x t (lt, l) = (λ n le. omega (arith, lt, le), record { holds = λ names exprs steps enough. ap present (l.holds names exprs steps enough) })

  pub maybe_now : (x : Option ExprId) (m : Maybe) → IsMaybe s x m → maybe_at (tree s) x ≡ m
  maybe_now x m (f, l) = lasts_now s (λ names sub. maybe_at sub x ≡ m) l

  -- what it is now
  pub maybe_own : (x : Option ExprId) (m : Maybe) → IsMaybe s x m → IsMaybe s x (maybe_at (tree s) x)
  maybe_own x m f = subst (IsMaybe s x) (sym (maybe_now x m f)) f

  -- ---- what stands between the brackets of an index

  pub position_is : (x : ExprId) (t : Tree) → IsTree s x t → IsBracket s (i.At x) (position t)
  position_is x t (lt, l) = (λ n le. omega (arith, lt, le), record { holds = λ names exprs steps enough. ap position (l.holds names exprs steps enough) })

  pub members_is : (xs : List ExprId) (ts : List Tree) → IsTrees s xs ts → IsBracket s (i.Set xs) (members (trees ts))
  members_is xs ts (f, l) = (f, record { holds = λ names exprs steps enough. ap members (l.holds names exprs steps enough) })

  pub range_is : (x y z : Option ExprId) (a b c : Maybe) (place : Span) → IsMaybe s x a → IsMaybe s y b → IsMaybe s z c → IsBracket s (i.Range x y z place) (range a b c place)
  range_is x y z a b c place f g h = (λ n le. (f.0 n le, g.0 n le, h.0 n le), record { holds = λ names exprs steps enough. range_same _ _ _ _ _ _ (f.1.holds names exprs steps enough) (g.1.holds names exprs steps enough) (h.1.holds names exprs steps enough) })
    where
      range_same : (a a' b b' c c' : Maybe) → a ≡ a' → b ≡ b' → c ≡ c' → range a b c place ≡ range a' b' c' place
      range_same a a' b b' c c' h i j = cc
