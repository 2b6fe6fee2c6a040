-- What tokens are, by the numbers of their kinds.
use Rattle.std.proofs.Common.{◌≡◌, ℕ, zero, suc, ◌<◌, ◌≤◌, Bool, true, false, ◌||◌, Option, Some, None, List, [], ◌∷◌, drop, cond, refl, ap, ◌∙◌, arith}
use Rattle.std.specs.Prelude.{◌==◌}
use Rattle.std.specs.Option.{is_some as option_is_some}
use Rattle.std.proofs.lemmas.Bool.{ne_eqb}
use Rattle.qasm_lexer.specs.declared.token.TokenKind.{TokenKind}
use Rattle.qasm_lexer.specs.declared.token.TokenKind.TheVariants as t
use Rattle.qasm_lexer.specs.declared.token.Keyword.{Keyword}
use Rattle.qasm_lexer.specs.declared.token.Keyword.TheVariants as k
use Rattle.qasm_lexer.specs.declared.token.Mark.{Mark}
use Rattle.qasm_lexer.specs.declared.token.Mark.TheVariants as m
use Rattle.grammar_parts.specs.Kinds.{has, found_in, kinds_of, is_some}
use Rattle.qasm_expr.specs.TokenKinds.{keyword_kind, mark_kind, text_kind, kind_of}
use Rattle.qasm_expr.specs.Grammar.{Rows, operators, unary_operators, plain_types, sized_types}
use Rattle.qasm_expr.specs.Reader.{literal_kinds, type_kinds, expr_kinds}
use Rattle.qasm_expr.specs.Seen.{first_rows, rows_at}
use Rattle.qasm_parser.specs.Kinds.{is_mark, is_word, sign_of, operator_of, of_level, plain_type_of, sized_type_of, is_type, is_literal, begins_operand}

-- ---- marks

mark_large : (x : Mark) → 100 ≤ mark_kind x
mark_large m.Semicolon = omega arith
mark_large _ = omega arith

word_small : (x : Keyword) → keyword_kind x < 100
word_small k.OpenQasm = omega arith
word_small _ = omega arith

text_small : (bits : Bool) → text_kind bits < 100
text_small true = omega arith
text_small false = omega arith

no_mark : (n : ℕ) (x : Mark) → n < 100 → (n == mark_kind x) ≡ false
no_mark n x lt = ne_eqb n (mark_kind x) (λ e. absurd (omega (arith, mark_large x)))

pub marks : (bits : Bool) (kind : TokenKind) (x : Mark) → (kind_of bits kind == mark_kind x) ≡ is_mark kind x
marks bits (t.Mark y) x = refl
marks bits (t.Word w) x = no_mark (keyword_kind w) x (word_small w)
marks bits t.Text x = no_mark (text_kind bits) x (text_small bits)
marks bits t.Name x = no_mark 1 x (omega arith)
marks bits (t.Whole n) x = no_mark 2 x (omega arith)
marks bits (t.Version a b) x = no_mark 5 x (omega arith)
marks bits (t.Hardware n) x = no_mark 6 x (omega arith)

-- ---- words

word_large : (x : Keyword) → 10 ≤ keyword_kind x
word_large k.OpenQasm = omega arith
word_large _ = omega arith

text_smaller : (bits : Bool) → text_kind bits < 10
text_smaller true = omega arith
text_smaller false = omega arith

no_word : (n : ℕ) (x : Keyword) → n < 10 → (n == keyword_kind x) ≡ false
no_word n x lt = ne_eqb n (keyword_kind x) (λ e. absurd (omega (arith, word_large x)))

pub words : (bits : Bool) (kind : TokenKind) (x : Keyword) → (kind_of bits kind == keyword_kind x) ≡ is_word kind x
words bits (t.Word y) x = refl
words bits (t.Mark y) x = ne_eqb (mark_kind y) (keyword_kind x) (λ e. absurd (omega (arith, mark_large y, word_small x)))
words bits t.Text x = no_word (text_kind bits) x (text_smaller bits)
words bits t.Name x = no_word 1 x (omega arith)
words bits (t.Whole n) x = no_word 2 x (omega arith)
words bits (t.Version a b) x = no_word 5 x (omega arith)
words bits (t.Hardware n) x = no_word 6 x (omega arith)

-- ---- operators

sign_mark : (x : Mark) → found_in unary_operators (mark_kind x) ≡ sign_of (t.Mark x)
sign_mark m.Semicolon = refl
sign_mark _ = refl

sign_word : (x : Keyword) → found_in unary_operators (keyword_kind x) ≡ None
sign_word k.OpenQasm = refl
sign_word _ = refl

pub signs : (bits : Bool) (kind : TokenKind) → found_in unary_operators (kind_of bits kind) ≡ sign_of kind
signs bits (t.Mark x) = sign_mark x
signs bits (t.Word w) = sign_word w
signs true t.Text = refl
signs false t.Text = refl
signs bits _ = refl

level_mark : (rank : ℕ) (x : Mark) → rank < 10 → found_in (rows_at rank) (mark_kind x) ≡ of_level rank (operator_of (t.Mark x))
level_mark zero m.Semicolon lt = refl
level_mark zero _ lt = refl
level_mark (suc zero) m.Semicolon lt = refl
level_mark (suc zero) _ lt = refl
level_mark (suc (suc zero)) m.Semicolon lt = refl
level_mark (suc (suc zero)) _ lt = refl
level_mark (suc (suc (suc zero))) m.Semicolon lt = refl
level_mark (suc (suc (suc zero))) _ lt = refl
level_mark (suc (suc (suc (suc zero)))) m.Semicolon lt = refl
level_mark (suc (suc (suc (suc zero)))) _ lt = refl
level_mark (suc (suc (suc (suc (suc zero))))) m.Semicolon lt = refl
level_mark (suc (suc (suc (suc (suc zero))))) _ lt = refl
level_mark (suc (suc (suc (suc (suc (suc zero)))))) m.Semicolon lt = refl
level_mark (suc (suc (suc (suc (suc (suc zero)))))) _ lt = refl
level_mark (suc (suc (suc (suc (suc (suc (suc zero))))))) m.Semicolon lt = refl
level_mark (suc (suc (suc (suc (suc (suc (suc zero))))))) _ lt = refl
level_mark (suc (suc (suc (suc (suc (suc (suc (suc zero)))))))) m.Semicolon lt = refl
level_mark (suc (suc (suc (suc (suc (suc (suc (suc zero)))))))) _ lt = refl
level_mark (suc (suc (suc (suc (suc (suc (suc (suc (suc zero))))))))) m.Semicolon lt = refl
level_mark (suc (suc (suc (suc (suc (suc (suc (suc (suc zero))))))))) _ lt = refl
level_mark (suc (suc (suc (suc (suc (suc (suc (suc (suc (suc rank)))))))))) x lt = absurd (omega arith)

-- no level lists a kind below 100
abbrev Silent : ℕ → List Rows → Type 0
Silent k [] = Unit {0}
Silent k (rows ∷ levels) = (found_in rows k ≡ None) × Silent k levels

silent_at : (k : ℕ) (levels : List Rows) → Silent k levels → (rank : ℕ) → found_in (first_rows (drop rank levels)) k ≡ None
silent_at k [] h zero = refl
silent_at k [] h (suc rank) = refl
silent_at k (rows ∷ levels) h zero = h.0
silent_at k (rows ∷ levels) h (suc rank) = silent_at k levels h.1 rank

word_silent : (x : Keyword) → Silent (keyword_kind x) operators
word_silent k.OpenQasm = (refl, (refl, (refl, (refl, (refl, (refl, (refl, (refl, (refl, (refl, tt))))))))))
word_silent _ = (refl, (refl, (refl, (refl, (refl, (refl, (refl, (refl, (refl, (refl, tt))))))))))

level_none : (k rank : ℕ) → Silent k operators → found_in (rows_at rank) k ≡ None
level_none k rank h = silent_at k operators h rank

pub levels : (rank : ℕ) (bits : Bool) (kind : TokenKind) → rank < 10 → found_in (rows_at rank) (kind_of bits kind) ≡ of_level rank (operator_of kind)
levels rank bits (t.Mark x) lt = level_mark rank x lt
levels rank bits (t.Word w) lt = level_none (keyword_kind w) rank (word_silent w)
levels rank true t.Text lt = level_none 4 rank (refl, (refl, (refl, (refl, (refl, (refl, (refl, (refl, (refl, (refl, tt))))))))))
levels rank false t.Text lt = level_none 3 rank (refl, (refl, (refl, (refl, (refl, (refl, (refl, (refl, (refl, (refl, tt))))))))))
levels rank bits t.Name lt = level_none 1 rank (refl, (refl, (refl, (refl, (refl, (refl, (refl, (refl, (refl, (refl, tt))))))))))
levels rank bits (t.Whole n) lt = level_none 2 rank (refl, (refl, (refl, (refl, (refl, (refl, (refl, (refl, (refl, (refl, tt))))))))))
levels rank bits (t.Version a b) lt = level_none 5 rank (refl, (refl, (refl, (refl, (refl, (refl, (refl, (refl, (refl, (refl, tt))))))))))
levels rank bits (t.Hardware n) lt = level_none 6 rank (refl, (refl, (refl, (refl, (refl, (refl, (refl, (refl, (refl, (refl, tt))))))))))

-- ---- types

plain_mark : (x : Mark) → found_in plain_types (mark_kind x) ≡ None
plain_mark m.Semicolon = refl
plain_mark _ = refl

plain_word : (x : Keyword) → found_in plain_types (keyword_kind x) ≡ plain_type_of (t.Word x)
plain_word k.OpenQasm = refl
plain_word _ = refl

pub plain : (bits : Bool) (kind : TokenKind) → found_in plain_types (kind_of bits kind) ≡ plain_type_of kind
plain bits (t.Mark x) = plain_mark x
plain bits (t.Word w) = plain_word w
plain true t.Text = refl
plain false t.Text = refl
plain bits _ = refl

sized_mark : (x : Mark) → found_in sized_types (mark_kind x) ≡ None
sized_mark m.Semicolon = refl
sized_mark _ = refl

sized_word : (x : Keyword) → found_in sized_types (keyword_kind x) ≡ sized_type_of (t.Word x)
sized_word k.OpenQasm = refl
sized_word _ = refl

pub sized : (bits : Bool) (kind : TokenKind) → found_in sized_types (kind_of bits kind) ≡ sized_type_of kind
sized bits (t.Mark x) = sized_mark x
sized bits (t.Word w) = sized_word w
sized true t.Text = refl
sized false t.Text = refl
sized bits _ = refl

type_mark : (x : Mark) → has type_kinds (mark_kind x) ≡ false
type_mark m.Semicolon = refl
type_mark _ = refl

type_word : (x : Keyword) → has type_kinds (keyword_kind x) ≡ is_type (t.Word x)
type_word k.OpenQasm = refl
type_word _ = refl

pub types : (bits : Bool) (kind : TokenKind) → has type_kinds (kind_of bits kind) ≡ is_type kind
types bits (t.Mark x) = type_mark x
types bits (t.Word w) = type_word w
types true t.Text = refl
types false t.Text = refl
types bits _ = refl

-- ---- literals and expressions

literal_mark : (x : Mark) → has literal_kinds (mark_kind x) ≡ false
literal_mark m.Semicolon = refl
literal_mark _ = refl

literal_word : (bits : Bool) (x : Keyword) → has literal_kinds (keyword_kind x) ≡ is_literal bits (t.Word x)
literal_word bits k.OpenQasm = refl
literal_word bits _ = refl

pub literals : (bits : Bool) (kind : TokenKind) → has literal_kinds (kind_of bits kind) ≡ is_literal bits kind
literals bits (t.Mark x) = literal_mark x
literals bits (t.Word w) = literal_word bits w
literals true t.Text = refl
literals false t.Text = refl
literals bits _ = refl

expr_mark : (bits : Bool) (x : Mark) → has expr_kinds (mark_kind x) ≡ (is_literal bits (t.Mark x) || begins_operand (t.Mark x))
expr_mark bits m.Semicolon = refl
expr_mark bits _ = refl

expr_word : (bits : Bool) (x : Keyword) → has expr_kinds (keyword_kind x) ≡ (is_literal bits (t.Word x) || begins_operand (t.Word x))
expr_word bits k.OpenQasm = refl
expr_word bits _ = refl

pub exprs : (bits : Bool) (kind : TokenKind) → has expr_kinds (kind_of bits kind) ≡ (is_literal bits kind || begins_operand kind)
exprs bits (t.Mark x) = expr_mark bits x
exprs bits (t.Word w) = expr_word bits w
exprs true t.Text = refl
exprs false t.Text = refl
exprs bits _ = refl

-- ---- whether a table has a kind

has_found : {A : Type 0} (rows : List (ℕ × A)) (k : ℕ) → has (kinds_of rows) k ≡ is_some (found_in rows k)
has_found [] k = refl
has_found (row ∷ rows) k = by_test (k == row.0) (has_found rows k)
  where
    by_test : (b : Bool) → has (kinds_of rows) k ≡ is_some (found_in rows k) → (b || has (kinds_of rows) k) ≡ is_some (cond b (Some row.1) (found_in rows k))
    by_test true later = refl
    by_test false later = later

-- the two words for whether there is a value
pub some_same : {A : Type 0} (o : Option A) → option_is_some o ≡ is_some o
some_same None = refl
some_same (Some a) = refl

pub plain_begins : (bits : Bool) (kind : TokenKind) → has (kinds_of plain_types) (kind_of bits kind) ≡ is_some (plain_type_of kind)
plain_begins bits kind = has_found plain_types (kind_of bits kind) ∙ ap is_some (plain bits kind)

pub sign_begins : (bits : Bool) (kind : TokenKind) → has (kinds_of unary_operators) (kind_of bits kind) ≡ is_some (sign_of kind)
sign_begins bits kind = has_found unary_operators (kind_of bits kind) ∙ ap is_some (signs bits kind)

pub level_begins : (rank : ℕ) (bits : Bool) (kind : TokenKind) → rank < 10 → has (kinds_of (rows_at rank)) (kind_of bits kind) ≡ is_some (of_level rank (operator_of kind))
level_begins rank bits kind lt = has_found (rows_at rank) (kind_of bits kind) ∙ ap is_some (levels rank bits kind lt)
