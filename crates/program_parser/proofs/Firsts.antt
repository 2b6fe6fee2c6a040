-- Which parts a token begins, by the number of its kind.
use Rattle.std.proofs.Common.{◌≡◌, ℕ, Bool, true, false, ◌||◌, Option, List, [], ◌∷◌, ◌++◌, refl, ap, ◌∙◌}
use Rattle.std.specs.Prelude.{◌==◌}
use Rattle.qasm_lexer.specs.declared.token.Token.{Token}
use Rattle.qasm_lexer.specs.declared.token.TokenKind.{TokenKind}
use Rattle.qasm_lexer.specs.declared.token.TokenKind.TheVariants as t
use Rattle.qasm_lexer.specs.declared.token.Keyword.{Keyword}
use Rattle.qasm_lexer.specs.declared.token.Keyword.TheVariants as k
use Rattle.qasm_lexer.specs.declared.token.Mark.{Mark}
use Rattle.qasm_lexer.specs.declared.token.Mark.TheVariants as m
use Rattle.grammar_parts.specs.Kinds.{has}
use Rattle.grammar_parts.specs.Reading.{heads}
use Rattle.qasm_expr.specs.TokenKinds.{keyword_kind, mark_kind, text_kind, kind_of, kind}
use Rattle.qasm_expr.specs.Reader.{begins}
use Rattle.program_parser.specs.declared.begins.Part.{Part}
use Rattle.program_parser.specs.declared.begins.Part.TheVariants as p
use Rattle.program_parser.specs.Begins.{is_begun, kinds_with}

marks_begin : (part : Part) (x : Mark) → has (kinds_with part) (mark_kind x) ≡ is_begun part (t.Mark x)
marks_begin p.Name m.Semicolon = refl
marks_begin p.Name _ = refl
marks_begin p.Operand m.Semicolon = refl
marks_begin p.Operand _ = refl
marks_begin p.Parameter m.Semicolon = refl
marks_begin p.Parameter _ = refl
marks_begin p.Change m.Semicolon = refl
marks_begin p.Change _ = refl
marks_begin p.Call m.Semicolon = refl
marks_begin p.Call _ = refl
marks_begin p.Member m.Semicolon = refl
marks_begin p.Member _ = refl
marks_begin p.Assignment m.Semicolon = refl
marks_begin p.Assignment _ = refl
marks_begin p.Declaration m.Semicolon = refl
marks_begin p.Declaration _ = refl
marks_begin p.Action m.Semicolon = refl
marks_begin p.Action _ = refl
marks_begin p.Stmt m.Semicolon = refl
marks_begin p.Stmt _ = refl

words_begin : (part : Part) (x : Keyword) → has (kinds_with part) (keyword_kind x) ≡ is_begun part (t.Word x)
words_begin p.Name k.OpenQasm = refl
words_begin p.Name _ = refl
words_begin p.Operand k.OpenQasm = refl
words_begin p.Operand _ = refl
words_begin p.Parameter k.OpenQasm = refl
words_begin p.Parameter _ = refl
words_begin p.Change k.OpenQasm = refl
words_begin p.Change _ = refl
words_begin p.Call k.OpenQasm = refl
words_begin p.Call _ = refl
words_begin p.Member k.OpenQasm = refl
words_begin p.Member _ = refl
words_begin p.Assignment k.OpenQasm = refl
words_begin p.Assignment _ = refl
words_begin p.Declaration k.OpenQasm = refl
words_begin p.Declaration _ = refl
words_begin p.Action k.OpenQasm = refl
words_begin p.Action _ = refl
words_begin p.Stmt k.OpenQasm = refl
words_begin p.Stmt _ = refl

texts_begin : (part : Part) (bits : Bool) → has (kinds_with part) (text_kind bits) ≡ is_begun part t.Text
texts_begin p.Name true = refl
texts_begin p.Name false = refl
texts_begin p.Operand true = refl
texts_begin p.Operand false = refl
texts_begin p.Parameter true = refl
texts_begin p.Parameter false = refl
texts_begin p.Change true = refl
texts_begin p.Change false = refl
texts_begin p.Call true = refl
texts_begin p.Call false = refl
texts_begin p.Member true = refl
texts_begin p.Member false = refl
texts_begin p.Assignment true = refl
texts_begin p.Assignment false = refl
texts_begin p.Declaration true = refl
texts_begin p.Declaration false = refl
texts_begin p.Action true = refl
texts_begin p.Action false = refl
texts_begin p.Stmt true = refl
texts_begin p.Stmt false = refl

names_begin : (part : Part) → has (kinds_with part) 1 ≡ is_begun part t.Name
names_begin p.Name = refl
names_begin _ = refl

numbers_begin : (part : Part) (n : ℕ) → has (kinds_with part) 2 ≡ is_begun part (t.Whole n)
numbers_begin p.Name n = refl
numbers_begin _ n = refl

versions_begin : (part : Part) (major : ℕ) (minor : Option ℕ) → has (kinds_with part) 5 ≡ is_begun part (t.Version major minor)
versions_begin p.Name major minor = refl
versions_begin _ major minor = refl

qubits_begin : (part : Part) (n : ℕ) → has (kinds_with part) 6 ≡ is_begun part (t.Hardware n)
qubits_begin p.Name n = refl
qubits_begin _ n = refl

pub begun : (part : Part) (bits : Bool) (kind : TokenKind) → has (kinds_with part) (kind_of bits kind) ≡ is_begun part kind
begun part bits (t.Mark x) = marks_begin part x
begun part bits (t.Word w) = words_begin part w
begun part bits t.Text = texts_begin part bits
begun part bits t.Name = names_begin part
begun part bits (t.Whole n) = numbers_begin part n
begun part bits (t.Version a b) = versions_begin part a b
begun part bits (t.Hardware n) = qubits_begin part n

-- ---- two sets in one

has-append : (xs ys : List ℕ) (k : ℕ) → has (xs ++ ys) k ≡ (has xs k || has ys k)
has-append [] ys k = refl
has-append (x ∷ xs) ys k = ap (λ b. (k == x) || b) (has-append xs ys k) ∙ either_of (k == x) (has xs k) (has ys k)
  where
    either_of : (a b c : Bool) → (a || (b || c)) ≡ ((a || b) || c)
    either_of true b c = refl
    either_of false b c = refl

pub heads-append : (text xs ys : List ℕ) (ts : List Token) → heads (begins text (xs ++ ys)) ts ≡ (heads (begins text xs) ts || heads (begins text ys) ts)
heads-append text xs ys [] = refl
heads-append text xs ys (x ∷ ts) = has-append xs ys (kind text x)
