-- Tokens of a line that were seen, and lines that are made of parts.
use Rattle.std.proofs.Common.{◌≡◌, ℕ, ◌+◌, ◌≤◌, ◌<◌, Bool, true, List, [], ◌∷◌, length, drop, map, Option, Some, None, Ok, refl, ap, subst, sym, ◌∙◌, arith}
use Rattle.std.specs.Prelude.{◌==◌}
use Rattle.qq_base.specs.declared.refusal.Span.{Span}
use Rattle.qasm_ast.specs.declared.expr.Base.TheVariants as b
use Rattle.qasm_ast.specs.declared.expr.ExprId.{ExprId}
use Rattle.qasm_ast.specs.declared.expr.OperandRef.{OperandRef}
use Rattle.qasm_ast.specs.declared.stmt.Stmt.{Stmt}
use Rattle.qasm_ast.specs.declared.stmt.StmtKind.{StmtKind}
use Rattle.qasm_ast.specs.declared.stmt.ValueRef.{ValueRef}
use Rattle.qasm_ast.specs.Tree.{Tree, maybe, Operand, operand_of, Value, value_of, scalar_of, if_some, Statement}
use Rattle.qasm_ast.specs.Whole.{IfThere, AllOf, OperandFits, ValueFits, QubitFits}
use Rattle.qasm_lexer.specs.declared.token.Token.{Token}
use Rattle.qasm_lexer.specs.declared.token.Keyword.{Keyword}
use Rattle.qasm_lexer.specs.declared.token.Keyword.TheVariants as k
use Rattle.grammar_parts.specs.Reading.{heads, taken, take_one}
use Rattle.grammar_parts.specs.Kinds.{found_in, picked}
use Rattle.qasm_expr.specs.Grammar.{scalar}
use Rattle.qasm_expr.specs.Reader.{begins, read_sign}
use Rattle.qasm_expr.specs.Seen.{head_kind, head_in}
use Rattle.qasm_expr.specs.TokenKinds.{keyword_kind, kind}
use Rattle.qasm_expr.proofs.Chains.{found_at}
use Rattle.qasm_expr.proofs.Fits.{sized_fits}
use Rattle.qasm_expr.proofs.Places.{heads_sign, passes_yes}
use Rattle.qasm_grammar.specs.Reader.{word_kinds}
use Rattle.qasm_stmt.specs.declared.arena.Arena.{Arena}
use Rattle.qasm_stmt.specs.Seen.{IsList, IfBoth, tree, IsTree, IsMaybe, IsType, IsOperand, IsValue, IsLine, line_of}
use Rattle.qasm_stmt.proofs.Showing.{map_each, fits_each}

-- ---- tokens that were seen

-- a token of this kind, where it was seen
pub mark_seen : (text : List ℕ) (tokens : List Token) (from k : ℕ) → 0 < k → from ≤ length tokens → (head_kind text (drop from tokens) == k) ≡ true → (x : Token) × (heads (begins text (k ∷ [])) (drop from tokens) ≡ true) × (from + 1 ≤ length tokens) × (read_sign text k (drop from tokens) ≡ Ok (x, drop (from + 1) tokens))
mark_seen text tokens from k lt le h = let p = passes_yes text tokens from k lt le h in (p.0, heads_sign text k (drop from tokens) true lt h, p.2, p.4)

keyword_positive : (w : Keyword) → 0 < keyword_kind w
keyword_positive k.OpenQasm = omega arith
keyword_positive _ = omega arith

-- whether a word was seen
pub word_heads : (text : List ℕ) (ts : List Token) (w : Keyword) (b : Bool) → (head_kind text ts == keyword_kind w) ≡ b → heads (begins text (word_kinds w)) ts ≡ b
word_heads text ts w b h = heads_sign text (keyword_kind w) ts b (keyword_positive w) h

-- the value that a table has for a token, where it was seen
pub picked_seen : {A : Type 0} (text : List ℕ) (rows : List (ℕ × A)) (tokens : List Token) (from : ℕ) (o : A) → from ≤ length tokens → found_in rows 0 ≡ None → head_in text rows (drop from tokens) ≡ Some o → (x : Token) × (from + 1 ≤ length tokens) × (take_one (picked (kind text) rows) (drop from tokens) ≡ Ok ((o, x), drop (from + 1) tokens))
picked_seen text rows tokens from o le none h =
    let f = found_at text rows tokens from o le none h in
    (f.token, f.inside, ap (take_one (picked (kind text) rows)) f.here ∙ ap (taken f.token (drop (from + 1) tokens)) f.is)

-- ---- lines

pub line_shows : (a : Arena) (x : Stmt) (kind : StmtKind) (place : Span) (s : Statement) → x ≡ line_of kind place → IsLine a (line_of kind place) s → IsLine a x s
line_shows a x kind place s e l = subst (λ y. IsLine a y s) (sym e) l

-- ---- parts that may be left out

if_parts : {X A : Type 0} (P : X → Type 0) (f : X → A) (x : Option X) (a : Option A) → IfBoth (λ x a. P x × (f x ≡ a)) x a → IfThere P x × (if_some f x ≡ a)
if_parts P f None None h = (tt, refl)
if_parts P f (Some x) (Some a) h = (h.0, rw h.1 refl)
if_parts P f None (Some a) h = absurd h
if_parts P f (Some x) None h = absurd h

module _ (a : Arena) where
  pub operand_if : (x : Option OperandRef) (o : Option Operand) → IfBoth (IsOperand a) x o → IfThere (OperandFits (length a.names.keys) (length a.exprs.items)) x × (if_some (operand_of a.names.keys (tree a)) x ≡ o)
  operand_if x o h = if_parts (OperandFits (length a.names.keys) (length a.exprs.items)) (operand_of a.names.keys (tree a)) x o h

  pub value_if : (x : Option ValueRef) (v : Option Value) → IfBoth (IsValue a) x v → IfThere (ValueFits (length a.names.keys) (length a.exprs.items)) x × (if_some (value_of a.names.keys (tree a)) x ≡ v)
  value_if x v h = if_parts (ValueFits (length a.names.keys) (length a.exprs.items)) (value_of a.names.keys (tree a)) x v h

  pub tree_if : (x : Option ExprId) (t : Option Tree) → IfBoth (IsTree a) x t → IsMaybe a x (maybe t)
  tree_if None None h = (tt, refl)
  tree_if (Some x) (Some t) h = (h.0, rw h.1 refl)
  tree_if None (Some t) h = absurd h
  tree_if (Some x) None h = absurd h

  -- ---- lists

  pub operands_whole : (xs : List OperandRef) (os : List Operand) → IsList (IsOperand a) xs os → AllOf (OperandFits (length a.names.keys) (length a.exprs.items)) xs × (map (operand_of a.names.keys (tree a)) xs ≡ os)
  operands_whole xs os h =
      let fits : AllOf (OperandFits (length a.names.keys) (length a.exprs.items)) xs = fits_each (OperandFits (length a.names.keys) (length a.exprs.items)) (operand_of a.names.keys (tree a)) xs os h in
      (fits, map_each (OperandFits (length a.names.keys) (length a.exprs.items)) (operand_of a.names.keys (tree a)) xs os h.1)

  -- ---- types with a width

  module _ (width : Option ExprId) (t : Option Tree) (place place' : Span) (h : IfBoth (IsTree a) width t) (e : place ≡ place') where
    pub qubit_type : QubitFits (length a.exprs.items) (record { base = b.Qubit; width = width; at = place }) × (scalar_of a.names.keys (tree a) (record { base = b.Qubit; width = width; at = place }) ≡ scalar b.Qubit (maybe t) place')
    qubit_type = let w = tree_if width t h in (record { quantum = refl; fits = record { bool = tt; width = w.0 } }, rw (w.1, e) refl)

    pub bit_type : IsType a (record { base = b.Bit; width = width; at = place }) (scalar b.Bit (maybe t) place')
    bit_type = let w = tree_if width t h in (sized_fits (length a.exprs.items) b.Bit width place tt w.0, rw (w.1, e) refl)
