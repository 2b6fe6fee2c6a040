-- Which kinds the tests of single tokens tell.
use Rattle.std.proofs.Common.{◌≡◌, ℕ, Bool, true, false, List, [], ◌∷◌, Option, Some, None, refl}
use Rattle.qq_base.specs.declared.refusal.Span.{Span}
use Rattle.qasm_lexer.specs.declared.token.Token.{Token}
use Rattle.qasm_lexer.specs.declared.token.TokenKind.{TokenKind}
use Rattle.qasm_lexer.specs.declared.token.TokenKind.TheVariants as t
use Rattle.qasm_lexer.specs.declared.token.Keyword.{Keyword}
use Rattle.qasm_lexer.specs.declared.token.Keyword.TheVariants as k
use Rattle.qasm_lexer.specs.declared.token.Mark.{Mark}
use Rattle.qasm_lexer.specs.declared.token.Mark.TheVariants as m
use Rattle.qasm_ast.specs.Tree.{Tree}
use Rattle.grammar_parts.specs.Kinds.{has, is_some}
use Rattle.grammar_parts.proofs.Sets.{Tells}
use Rattle.qasm_lexer.specs.Sizes.{bytes_of}
use Rattle.qasm_expr.specs.TokenKinds.{keyword_kind, mark_kind, bits_of, text_kind, kind_of, kind}
use Rattle.qasm_expr.specs.Grammar.{bits_literal, literal_at, literal_of, name_at, name_of}
use Rattle.qasm_expr.specs.Reader.{literal_kinds}

-- no mark is a literal or a name
mark_no_literal : (x : Mark) → has literal_kinds (mark_kind x) ≡ false
mark_no_literal m.Semicolon = refl
mark_no_literal _ = refl

mark_no_name : (x : Mark) → has (1 ∷ []) (mark_kind x) ≡ false
mark_no_name m.Semicolon = refl
mark_no_name _ = refl

word_no_name : (x : Keyword) → has (1 ∷ []) (keyword_kind x) ≡ false
word_no_name k.OpenQasm = refl
word_no_name _ = refl

bits_sound : (place : Span) (o : Option (List Bool)) (a : Tree) → bits_literal [] place o ≡ Some a → has literal_kinds (text_kind (is_some o)) ≡ true
bits_sound place None a e = absurd (cc)
bits_sound place (Some bits) a e = refl

bits_complete : (place : Span) (o : Option (List Bool)) → has literal_kinds (text_kind (is_some o)) ≡ true → is_some (bits_literal [] place o) ≡ true
bits_complete place None e = absurd (cc)
bits_complete place (Some bits) e = refl

text_no_name : (b : Bool) → has (1 ∷ []) (text_kind b) ≡ true → ⊥
text_no_name true e = cc
text_no_name false e = cc

module _ (text : List ℕ) where
  literal_sound : (x : Token) (kd : TokenKind) (a : Tree) → literal_at text x kd ≡ Some a → has literal_kinds (kind_of (is_some (bits_of (bytes_of text x))) kd) ≡ true
  literal_sound x (t.Whole n) a e = refl
  literal_sound x (t.Hardware n) a e = refl
  literal_sound x t.Text a e = bits_sound x.at (bits_of (bytes_of text x)) a e
  literal_sound x (t.Word k.True) a e = refl
  literal_sound x (t.Word k.False) a e = refl
  literal_sound x _ a e = absurd (cc)

  literal_complete : (x : Token) (kd : TokenKind) → has literal_kinds (kind_of (is_some (bits_of (bytes_of text x))) kd) ≡ true → is_some (literal_at text x kd) ≡ true
  literal_complete x (t.Whole n) e = refl
  literal_complete x (t.Hardware n) e = refl
  literal_complete x t.Text e = bits_complete x.at (bits_of (bytes_of text x)) e
  literal_complete x (t.Word k.True) e = refl
  literal_complete x (t.Word k.False) e = refl
  literal_complete x (t.Mark y) e = let n : has literal_kinds (mark_kind y) ≡ false = mark_no_literal y in absurd (cc)
  literal_complete x _ e = absurd (cc)

  pub tells_literal : Tells (kind text) (literal_of text) literal_kinds
  tells_literal = record { sound = λ x. literal_sound x x.kind; complete = λ x. literal_complete x x.kind }

  name_sound : (x : Token) (kd : TokenKind) (a : List ℕ × Span) → name_at text x kd ≡ Some a → has (1 ∷ []) (kind_of (is_some (bits_of (bytes_of text x))) kd) ≡ true
  name_sound x t.Name a e = refl
  name_sound x _ a e = absurd (cc)

  name_complete : (x : Token) (kd : TokenKind) → has (1 ∷ []) (kind_of (is_some (bits_of (bytes_of text x))) kd) ≡ true → is_some (name_at text x kd) ≡ true
  name_complete x t.Name e = refl
  name_complete x (t.Word w) e = let n : has (1 ∷ []) (keyword_kind w) ≡ false = word_no_name w in absurd (cc)
  name_complete x (t.Mark y) e = let n : has (1 ∷ []) (mark_kind y) ≡ false = mark_no_name y in absurd (cc)
  name_complete x t.Text e = absurd (text_no_name (is_some (bits_of (bytes_of text x))) e)
  name_complete x _ e = absurd (cc)

  pub tells_name : Tells (kind text) (name_of text) (1 ∷ [])
  tells_name = record { sound = λ x. name_sound x x.kind; complete = λ x. name_complete x x.kind }
