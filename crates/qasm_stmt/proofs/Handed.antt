-- What a function hands on of what its calls answer: names, trees, types, index brackets, lists and parameters.
use Rattle.std.proofs.Common.{◌≡◌, ℕ, zero, suc, ◌-◌, ◌<◌, List, Vec, Global, Option, Some, None, length, slice_get, Result, Ok, Err, refl, ap, sym, ◌∙◌, [], le_refl, arith}
use Rattle.std.specs.Prelude.{IfOk, OnOk}
use Rattle.qq_base.specs.declared.refusal.Span.{Span}
use Rattle.qasm_ast.specs.declared.expr.Base.TheVariants as b
use Rattle.qasm_lexer.specs.declared.token.Token.{Token}
use Rattle.qasm_ast.specs.declared.expr.ExprId.{ExprId}
use Rattle.qasm_ast.specs.declared.expr.IndexRef.{IndexRef}
use Rattle.qasm_ast.specs.declared.expr.TypeRef.{TypeRef}
use Rattle.qasm_ast.specs.declared.stmt.Declared.{Declared}
use Rattle.qasm_ast.specs.Tree.{Tree, trees, present, maybe, Bracket, brackets, Name, name_of, Scalar, scalar_of, Parameter}
use Rattle.qasm_ast.specs.Whole.{AllOf, IsExpr, IndexFits, AnyTypeFits}
use Rattle.grammar_parts.specs.Reading.{Outcome}
use Rattle.qasm_expr.specs.declared.stop.Stop.{Stop}
use Rattle.qasm_expr.specs.declared.stop.Stop.TheVariants as e
use Rattle.qasm_expr.specs.Seen.{Gives, Sees, SeesAll, SeesBrackets, SeesScalar}
use Rattle.qasm_expr.proofs.Growing.{get_below}
use Rattle.qasm_expr.proofs.Trees.{text_found}
use Rattle.grammar_parts.proofs.Productions.{Reads}
use Rattle.qasm_expr.specs.TokenKinds.{kind}
use Rattle.qasm_expr.specs.Grammar.{scalar}
use Rattle.qasm_grammar.specs.Parts.{declared, parameter}
use Rattle.qasm_grammar.specs.Reader.{read_parameter, read_inner_parameter, parameter_kinds}
use Rattle.qasm_grammar.proofs.Depths.{depth}
use Rattle.qasm_grammar.proofs.Pieces.{reads_parameter}
use Rattle.qasm_grammar.proofs.Moves.{moves}
use Rattle.qasm_stmt.specs.declared.arena.Arena.{Arena}
use Rattle.qasm_stmt.specs.Seen.{IsList, IfBoth, tree, IsTree, IsMaybe, IsName, IsType, IsBrackets, IsParameter}
use Rattle.qasm_stmt.proofs.Showing.{each_from, brackets_from, tree_from, type_from, gives_map}

-- what holds anyway
pub holds_on_ok : {X E P : Type 0} (r : Result X E) → P → OnOk r P
holds_on_ok (Ok x) p = p
holds_on_ok (Err y) p = tt

-- an answer stands for what is shown otherwise, where more is known of its value
gives_known : {X A : Type 0} (shows shows' : X → A → Type 0) (Known : X → Type 0) (tokens : List Token) (from : ℕ) (out : Outcome Token A) (r : Result (X × ℕ) Stop) → ((x : X) (v : A) → Known x → shows x v → shows' x v) → IfOk r (λ p. Known p.0) → Gives shows tokens from out r → Gives shows' tokens from out r
gives_known shows shows' Known tokens from out (Ok r) f k g = (g.0, f r.0 g.0 k g.1, g.2, g.3, g.4)
gives_known shows shows' Known tokens from out (Err (e.Syntax n)) f k g = g
gives_known shows shows' Known tokens from out (Err (e.Deep n)) f k g = g
gives_known shows shows' Known tokens from out (Err e.Memory) f k g = tt

module _ (a : Arena) where
  pub name_from : (x : Declared) (text : List ℕ) → slice_get a.names.keys x.name ≡ Some text → IsName a x (declared (text, x.at))
  name_from x text h = (get_below a.names.keys x.name text h, ap (λ s. declared (s, x.at)) (text_found a.names.keys x.name text h))

  pub list_from : (ts : List Tree) (xs : List ExprId) → AllOf (IsExpr (length a.exprs.items)) xs → SeesAll a.names.keys a.exprs.items (length a.exprs.items) xs (trees ts) → IsList (IsTree a) xs ts
  list_from ts xs f s = (f.count, each_from a ts xs s)

  module _ (tokens : List Token) (from : ℕ) where
    pub tree_given : (out : Outcome Token Tree) (r : Result (ExprId × ℕ) Stop) → Gives (λ x t. Sees a.names.keys a.exprs.items x.0 t) tokens from out r → Gives (IsTree a) tokens from out r
    tree_given out r = gives_map _ _ tokens from out r (tree_from a)

    pub type_given : (out : Outcome Token Scalar) (r : Result (TypeRef × ℕ) Stop) → Gives (SeesScalar a.names.keys a.exprs.items) tokens from out r → Gives (IsType a) tokens from out r
    type_given out r = gives_map _ _ tokens from out r (type_from a)

    pub list_given : (out : Outcome Token (List Tree)) (r : Result (Vec ExprId Global × ℕ) Stop) → IfOk r (λ p. AllOf (IsExpr (length a.exprs.items)) p.0.items) → Gives (λ v ts. SeesAll a.names.keys a.exprs.items (length a.exprs.items) v.items (trees ts)) tokens from out r → Gives (λ v ts. IsList (IsTree a) v.items ts) tokens from out r
    list_given out r = gives_known _ _ (λ v. AllOf (IsExpr (length a.exprs.items)) v.items) tokens from out r (λ v ts f s. list_from ts v.items f s)

    pub brackets_given : (out : Outcome Token (List Bracket)) (r : Result (Vec IndexRef Global × ℕ) Stop) → IfOk r (λ p. AllOf (IndexFits (length a.exprs.items)) p.0.items) → Gives (λ v bs. SeesBrackets a.names.keys a.exprs.items (length a.exprs.items) v.items (brackets bs)) tokens from out r → Gives (λ v bs. IsBrackets a v.items bs) tokens from out r
    brackets_given out r = gives_known _ _ (λ v. AllOf (IndexFits (length a.exprs.items)) v.items) tokens from out r (λ v bs f s. brackets_from a bs v.items s f)

  -- ---- types and parameters

  pub width_from : (w : Option ExprId) (e : Option Tree) → IfBoth (IsTree a) w e → IsMaybe a w (maybe e)
  width_from None None h = (tt, refl)
  width_from (Some x) (Some t) h = (h.0, ap present h.1)
  width_from None (Some t) h = absurd h
  width_from (Some x) None h = absurd h

  pub qubit_from : (w : Option ExprId) (e : Option Tree) (place place' : Span) → IfBoth (IsTree a) w e → place ≡ place' → AnyTypeFits (length a.exprs.items) (record { base = b.Qubit; width = w; at = place }) × (scalar_of a.names.keys (tree a) (record { base = b.Qubit; width = w; at = place }) ≡ scalar b.Qubit (maybe e) place')
  qubit_from w e place place' h same = let g = width_from w e h in (record { bool = tt; width = g.0 }, ap (λ m. scalar b.Qubit m place) g.1 ∙ ap (scalar b.Qubit (maybe e)) same)

  pub parameter_from : (x : TypeRef) (y : Declared) (s : Scalar) (n : Name) → AnyTypeFits (length a.exprs.items) x → scalar_of a.names.keys (tree a) x ≡ s → IsName a y n → IsParameter a (x, y) (record { type = s; name = n })
  parameter_from x y s n f e h = ((f, h.0), ap (λ z. record { type = z; name = name_of a.names.keys (tree a) y }) e ∙ ap (λ z. record { type = s; name = z }) h.1)

-- ---- parameters one level deeper, and what one takes

pub inner_parameter_at : (text : List ℕ) (room : ℕ) → 0 < room → read_inner_parameter text (Some 64) room ≡ read_parameter text (Some 64) (room - 1)
inner_parameter_at text zero lt = absurd (omega arith)
inner_parameter_at text (suc room) lt = let e : suc room - 1 ≡ room = omega arith in ap (read_parameter text (Some 64)) (sym e)

pub parameter_moves : (text : List ℕ) (limit : Option ℕ) (room : ℕ) (ts : List Token) (q : Parameter) (rest : List Token) → read_parameter text limit room ts ≡ Ok (q, rest) → length rest < length ts
parameter_moves text limit room ts q rest h = moves known.follows ts q rest h known.filled
  where
    known : Reads (kind text) (Unit {0}) (parameter text limit room) (parameter text None (suc (suc (suc room)))) (read_parameter text limit room) parameter_kinds []
    known = reads_parameter text (depth text limit room (suc (suc (suc room))) (le_refl _))
