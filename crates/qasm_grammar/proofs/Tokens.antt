-- Which kinds the tests of single tokens tell.
use Rattle.std.proofs.Common.{◌≡◌, ℕ, Bool, true, false, List, [], ◌∷◌, Some, refl}
use Rattle.qasm_lexer.specs.declared.token.Token.{Token}
use Rattle.qasm_lexer.specs.declared.token.TokenKind.{TokenKind}
use Rattle.qasm_lexer.specs.declared.token.TokenKind.TheVariants as t
use Rattle.qasm_lexer.specs.declared.token.Keyword.{Keyword}
use Rattle.qasm_lexer.specs.declared.token.Keyword.TheVariants as k
use Rattle.qasm_lexer.specs.declared.token.Mark.{Mark}
use Rattle.qasm_lexer.specs.declared.token.Mark.TheVariants as m
use Rattle.qasm_ast.specs.Tree.{Operand}
use Rattle.grammar_parts.specs.Kinds.{has, is_some, Among}
use Rattle.grammar_parts.proofs.Sets.{Tells}
use Rattle.qasm_lexer.specs.Sizes.{bytes_of}
use Rattle.qasm_expr.specs.TokenKinds.{keyword_kind, mark_kind, bits_of, text_kind, kind_of, kind}
use Rattle.qasm_grammar.specs.Parts.{hardware_at, hardware_of, version_at, version_of, included_at, included}

mark_no_hardware : (x : Mark) → has (6 ∷ []) (mark_kind x) ≡ false
mark_no_hardware m.Semicolon = refl
mark_no_hardware _ = refl

word_no_hardware : (x : Keyword) → has (6 ∷ []) (keyword_kind x) ≡ false
word_no_hardware k.OpenQasm = refl
word_no_hardware _ = refl

text_no_hardware : (b : Bool) → has (6 ∷ []) (text_kind b) ≡ true → ⊥
text_no_hardware true e = cc
text_no_hardware false e = cc

any_text : (b : Bool) → has (3 ∷ 4 ∷ []) (text_kind b) ≡ true
any_text true = refl
any_text false = refl

hardware_sound : (bits : Bool) (x : Token) (kd : TokenKind) (o : Operand) → hardware_at x kd ≡ Some o → has (6 ∷ []) (kind_of bits kd) ≡ true
hardware_sound bits x (t.Hardware n) o e = refl
hardware_sound bits x _ o e = absurd (cc)

hardware_complete : (bits : Bool) (x : Token) (kd : TokenKind) → has (6 ∷ []) (kind_of bits kd) ≡ true → is_some (hardware_at x kd) ≡ true
hardware_complete bits x (t.Hardware n) e = refl
hardware_complete bits x (t.Word w) e = let n : has (6 ∷ []) (keyword_kind w) ≡ false = word_no_hardware w in absurd (cc)
hardware_complete bits x (t.Mark y) e = let n : has (6 ∷ []) (mark_kind y) ≡ false = mark_no_hardware y in absurd (cc)
hardware_complete bits x t.Text e = absurd (text_no_hardware bits e)
hardware_complete bits x _ e = absurd (cc)

version_sound : (bits : Bool) (x a : Token) (kd : TokenKind) → version_at x kd ≡ Some a → has (5 ∷ []) (kind_of bits kd) ≡ true
version_sound bits x a (t.Version major minor) e = refl
version_sound bits x a _ e = absurd (cc)

module _ (text : List ℕ) where
  included_sound : (bits : Bool) (x a : Token) (kd : TokenKind) → included_at text x kd ≡ Some a → has (3 ∷ 4 ∷ []) (kind_of bits kd) ≡ true
  included_sound bits x a t.Text e = any_text bits
  included_sound bits x a _ e = absurd (cc)

  pub tells_hardware : Tells (kind text) hardware_of (6 ∷ [])
  tells_hardware = record { sound = λ x o e. hardware_sound (is_some (bits_of (bytes_of text x))) x x.kind o e; complete = λ x e. hardware_complete (is_some (bits_of (bytes_of text x))) x x.kind e }

  -- not each token of these kinds is a version or a file that may stand
  pub version_among : (x a : Token) → version_of x ≡ Some a → Among (kind text) (5 ∷ []) x
  version_among x a e = version_sound (is_some (bits_of (bytes_of text x))) x a x.kind e

  pub included_among : (x a : Token) → included text x ≡ Some a → Among (kind text) (3 ∷ 4 ∷ []) x
  included_among x a e = included_sound (is_some (bits_of (bytes_of text x))) x a x.kind e
