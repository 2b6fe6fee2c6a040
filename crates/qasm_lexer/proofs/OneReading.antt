-- A text has one reading: one thing stands at each place, and one thing comes next.
use Rattle.std.proofs.Common.{◌≡◌, ℕ, ◌⊎◌, Bool, true, false, not, ◌&&◌, ◌==◌, List, [], ◌∷◌, ◌++◌, length, sym, refl, ap, ◌∙◌, subst, arith, inl, inr, ⊎_elim, append_assoc}
use Rattle.std.specs.List.{list_all}
use Rattle.std.proofs.lemmas.Bool.{false≢true}
use Rattle.std.proofs.lemmas.Bool.Decides.{Decides-eqb, nat_tests}
use Rattle.qq_base.specs.declared.rule.Rule.{Rule}
use Rattle.qq_base.specs.declared.rule.Rule.TheVariants.{BadCharacter, OpenComment, OpenString, LiteralRange, FloatLiteral}
use Rattle.qasm_lexer.specs.Characters.{is_blank, is_quote, ends_line, is_digit_in}
use Rattle.qasm_lexer.specs.Spelling.{Spells, SpellsDecimal, IsSpelled, AsToken, AsDecimal, IsTooLarge}
use Rattle.qasm_lexer.specs.Scan.{StopsAt, passes}
use Rattle.qasm_lexer.specs.Tokens.{BeginsComment, BeginsWith, IsLongest, IsRefused}
use Rattle.qasm_lexer.specs.declared.scan.Class.TheVariants.{InText}
use Rattle.qasm_lexer.specs.declared.token.TokenKind.{TokenKind}
use Rattle.qasm_lexer.specs.declared.token.TokenKind.TheVariants.{Name, Word, Whole, Text, Version, Hardware, Mark as MarkKind}
use Rattle.qasm_lexer.specs.declared.token.Mark.{Mark}
use Rattle.qasm_lexer.specs.Tables.{mark_spelling}
use Rattle.qasm_lexer.specs.declared.token.Mark.TheVariants.{Semicolon, Comma, LeftParen, RightParen, LeftBracket, RightBracket, LeftBrace, RightBrace, At, Hash, Colon, Assign, Arrow, Plus, PlusPlus, Minus, Star, StarStar, Slash, Percent, Tilde, Bang, Ampersand, AndAnd, Pipe, OrOr, Caret, ShiftLeft, ShiftRight, Less, LessEqual, Greater, GreaterEqual, Equal, NotEqual, PlusAssign, MinusAssign, StarAssign, SlashAssign, PercentAssign, AndAssign, OrAssign, CaretAssign, ShiftLeftAssign, ShiftRightAssign}
use Rattle.qasm_lexer.proofs.Cutting.{cons≢nil}
use Rattle.qasm_lexer.proofs.Numerals.{cons_head, cons_tail}
use Rattle.qasm_lexer.proofs.Starts.{Start, AtQuote, AtMark, start_of, quote_cases, quote_start, spelled_some, spelled_at, digit_range, decimal_start}
use Rattle.qasm_lexer.proofs.Fronts.{run_unique}
use Rattle.qasm_lexer.proofs.KindLaws.{start_kind, kind_start, kinds_same, kind_no_decimal}

and_false : (b : Bool) → (b && false) ≡ false
and_false true = refl
and_false false = refl

front_same : (x y r s : List ℕ) → x ++ r ≡ y ++ s → length x ≡ length y → x ≡ y
front_same [] [] r s e h = refl
front_same [] (y ∷ ys) r s e h = absurd (omega arith)
front_same (x ∷ xs) [] r s e h = absurd (omega arith)
front_same (x ∷ xs) (y ∷ ys) r s e h = ap (λ z. z ∷ xs) (cons_head e) ∙ ap (λ z. y ∷ z) (front_same xs ys r s (cons_tail e) (omega arith))

-- the longest spelling is one
pub longest_same : (version : Bool) (rest a b c d : List ℕ) → IsLongest version rest a b → IsLongest version rest c d → IsSpelled version a → IsSpelled version c → a ≡ c
longest_same version rest a b c d x y s t =
    let short = y.longest a b x.split s in
    let long = x.longest c d y.split t in
    front_same a c b d (sym x.split ∙ y.split) (omega (arith, short, long))

-- what is spelled is no blank
abbrev first_blank : List ℕ → Bool
first_blank [] = false
first_blank (c ∷ cs) = is_blank c

mark_no_blank : (m : Mark) → first_blank (mark_spelling m) ≡ false
mark_no_blank Semicolon = refl
mark_no_blank Comma = refl
mark_no_blank LeftParen = refl
mark_no_blank RightParen = refl
mark_no_blank LeftBracket = refl
mark_no_blank RightBracket = refl
mark_no_blank LeftBrace = refl
mark_no_blank RightBrace = refl
mark_no_blank At = refl
mark_no_blank Hash = refl
mark_no_blank Colon = refl
mark_no_blank Assign = refl
mark_no_blank Arrow = refl
mark_no_blank Plus = refl
mark_no_blank PlusPlus = refl
mark_no_blank Minus = refl
mark_no_blank Star = refl
mark_no_blank StarStar = refl
mark_no_blank Slash = refl
mark_no_blank Percent = refl
mark_no_blank Tilde = refl
mark_no_blank Bang = refl
mark_no_blank Ampersand = refl
mark_no_blank AndAnd = refl
mark_no_blank Pipe = refl
mark_no_blank OrOr = refl
mark_no_blank Caret = refl
mark_no_blank ShiftLeft = refl
mark_no_blank ShiftRight = refl
mark_no_blank Less = refl
mark_no_blank LessEqual = refl
mark_no_blank Greater = refl
mark_no_blank GreaterEqual = refl
mark_no_blank Equal = refl
mark_no_blank NotEqual = refl
mark_no_blank PlusAssign = refl
mark_no_blank MinusAssign = refl
mark_no_blank StarAssign = refl
mark_no_blank SlashAssign = refl
mark_no_blank PercentAssign = refl
mark_no_blank AndAssign = refl
mark_no_blank OrAssign = refl
mark_no_blank CaretAssign = refl
mark_no_blank ShiftLeftAssign = refl
mark_no_blank ShiftRightAssign = refl

blank_cases : (c : ℕ) → is_blank c ≡ true → (c ≡ 32) ⊎ ((c ≡ 9) ⊎ ((c ≡ 13) ⊎ (c ≡ 10)))
blank_cases c h = grind (arith, nat_tests)

start_no_blank : (c : ℕ) (start : Start) → is_blank c ≡ true → start_of c ≡ AtMark
start_no_blank c start h = ⊎_elim (λ (e : c ≡ 32). ap start_of e) (λ e. ⊎_elim (λ (e : c ≡ 9). ap start_of e) (λ e. ⊎_elim (λ (e : c ≡ 13). ap start_of e) (λ (e : c ≡ 10). ap start_of e) e) e) (blank_cases c h)

no_mark_blank : (m : Mark) (c : ℕ) (cs : List ℕ) → is_blank c ≡ true → c ∷ cs ≡ mark_spelling m → ⊥
no_mark_blank m c cs h e = false≢true (sym (mark_no_blank m) ∙ ap first_blank (sym e) ∙ h)

pub spelled_no_blank : (version : Bool) (c : ℕ) (rest other more : List ℕ) → is_blank c ≡ true → c ∷ rest ≡ other ++ more → IsSpelled version other → ⊥
spelled_no_blank version c rest [] more h e s = spelled_some version s
spelled_no_blank version c rest (d ∷ ds) more h e s =
    let blank : is_blank d ≡ true = ap is_blank (sym (cons_head e)) ∙ h in
    let is = spelled_at AtMark version c rest (d ∷ ds) more (start_no_blank c AtMark h) e s in
    no_mark_blank is.0 d ds blank is.1

-- what stands at a comment's start is a mark
comment_head : (rest : List ℕ) → BeginsComment rest → (tail : List ℕ) × (rest ≡ 47 ∷ tail)
comment_head rest (body, inl e) = (47 ∷ body, e)
comment_head rest (body, inr e) = (42 ∷ body, e)

slash_spelled : (version : Bool) → IsSpelled version (47 ∷ [])
slash_spelled version = AsToken (MarkKind Slash) refl

pub slash_no_literal : (version : Bool) (tail spelling behind : List ℕ) (kind : TokenKind) → 47 ∷ tail ≡ spelling ++ behind → Spells version spelling kind → IsTooLarge spelling kind → ⊥
slash_no_literal version tail [] behind kind e s large = spelled_some version (AsToken kind s)
slash_no_literal version tail (c ∷ cs) behind kind e s large = by_kind kind s large (ap start_of (cons_head e) ∙ kind_start version c cs kind s)
  where
    by_kind : (k : TokenKind) → Spells version (c ∷ cs) k → IsTooLarge (c ∷ cs) k → AtMark ≡ start_kind k → ⊥
    by_kind (MarkKind m) s large h = large
    by_kind Name s large h = cc
    by_kind (Word w) s large h = large
    by_kind (Whole n) s large h = cc
    by_kind Text s large h = cc
    by_kind (Version a b) s large h = cc
    by_kind (Hardware n) s large h = cc

pub slash_no_decimal : (version : Bool) (tail spelling behind : List ℕ) → 47 ∷ tail ≡ spelling ++ behind → SpellsDecimal version spelling → ⊥
slash_no_decimal version tail [] behind e d = spelled_some version (AsDecimal d)
slash_no_decimal version tail (c ∷ cs) behind e d =
    ⊎_elim (λ (h : c ≡ 46). let same = cons_head e in omega (arith, h, same)) (λ (h : is_digit_in 10 c ≡ true). let range = digit_range c h in let same = cons_head e in omega (arith, range, same)) (decimal_start c cs d.0)

quote_no_line : (quote : ℕ) → is_quote quote ≡ true → ends_line quote ≡ false
quote_no_line quote h = ⊎_elim (λ (e : quote ≡ 34). ap ends_line e) (λ (e : quote ≡ 39). ap ends_line e) (quote_cases quote h)

-- an open text is no token
open_text_not : (version : Bool) (rest other more : List ℕ) → IsRefused version rest OpenString → rest ≡ other ++ more → IsSpelled version other → ⊥
open_text_not version rest other more x e s =
    let is = spelled_at AtQuote version x.0 (x.1 ++ x.2) other more (quote_start x.0 x.4) (sym x.3 ∙ e) s in
    let tails = sym x.3 ∙ e ∙ ap (λ y. y ++ more) is.2.split in
    let q : is.0 ≡ x.0 = sym (cons_head tails) in
    let both : x.1 ++ x.2 ≡ is.1 ++ (x.0 ∷ more) = cons_tail tails ∙ append_assoc is.1 (is.0 ∷ []) more ∙ ap (λ y. is.1 ++ y ∷ more) q in
    let same = run_unique (passes (InText x.0)) x.1 x.2 is.1 (x.0 ∷ more) both (stops x.2 x.6) (ap (λ b. not b && not (ends_line x.0)) ((Decides-eqb x.0 x.0).1 refl)) x.5 (ap (λ y. list_all (passes (InText y)) is.1) (sym q) ∙ is.2.closed) in
    at_quote x.2 x.6 same.1
  where
    stops : (cs : List ℕ) → (cs ≡ []) ⊎ BeginsWith ends_line cs → StopsAt (passes (InText x.0)) cs
    stops [] h = tt
    stops (c ∷ cs) (inl h) = absurd (cons≢nil h)
    stops (c ∷ cs) (inr h) = ap (λ b. not (c == x.0) && not b) h ∙ and_false (not (c == x.0))

    at_quote : (cs : List ℕ) → (cs ≡ []) ⊎ BeginsWith ends_line cs → cs ≡ x.0 ∷ more → ⊥
    at_quote [] h e = cons≢nil (sym e)
    at_quote (c ∷ cs) (inl h) e = cons≢nil h
    at_quote (c ∷ cs) (inr h) e = false≢true (sym (quote_no_line x.0 x.4) ∙ ap ends_line (sym (cons_head e)) ∙ h)

pub not_both : (b : Bool) → not b ≡ true → b ≡ true → ⊥
not_both true h k = false≢true h
not_both false h k = false≢true k

pub bad_comment : (version : Bool) (rest : List ℕ) → IsRefused version rest BadCharacter → (tail : List ℕ) → rest ≡ 47 ∷ tail → ⊥
bad_comment version rest x tail e = x.5 (47 ∷ []) tail e (slash_spelled version)

bad_text : (version : Bool) (rest : List ℕ) → IsRefused version rest BadCharacter → IsRefused version rest OpenString → ⊥
bad_text version rest x y = not_both (is_quote x.0) x.4 (ap is_quote (cons_head (sym x.2 ∙ y.3)) ∙ y.4)

comment_text : (version : Bool) (rest : List ℕ) → IsRefused version rest OpenComment → IsRefused version rest OpenString → ⊥
comment_text version rest x y = false≢true (ap is_quote (cons_head (sym x.1 ∙ y.3)) ∙ y.4)

comment_literal : (version : Bool) (rest : List ℕ) → IsRefused version rest OpenComment → IsRefused version rest LiteralRange → ⊥
comment_literal version rest x y = slash_no_literal version (42 ∷ x.0) y.0 y.1 y.2 (sym x.1 ∙ y.3.split) y.4 y.5

comment_float : (version : Bool) (rest : List ℕ) → IsRefused version rest OpenComment → IsRefused version rest FloatLiteral → ⊥
comment_float version rest x y = slash_no_decimal version (42 ∷ x.0) y.0 y.1 (sym x.1 ∙ y.2.split) y.3

literal_float : (version : Bool) (rest : List ℕ) → IsRefused version rest LiteralRange → IsRefused version rest FloatLiteral → ⊥
literal_float version rest x y =
    let same = longest_same version rest x.0 x.1 y.0 y.1 x.3 y.2 (AsToken x.2 x.4) (AsDecimal y.3) in
    kind_no_decimal version y.0 x.2 (subst (λ z. Spells version z x.2) same x.4) y.3

-- one rule refuses
pub rule_same : (version : Bool) (rest : List ℕ) (a b : Rule) → IsRefused version rest a → IsRefused version rest b → a ≡ b
rule_same version rest BadCharacter BadCharacter x y = refl
rule_same version rest BadCharacter OpenComment x y = absurd (bad_comment version rest x (42 ∷ y.0) y.1)
rule_same version rest BadCharacter OpenString x y = absurd (bad_text version rest x y)
rule_same version rest BadCharacter LiteralRange x y = absurd (x.5 y.0 y.1 y.3.split (AsToken y.2 y.4))
rule_same version rest BadCharacter FloatLiteral x y = absurd (x.5 y.0 y.1 y.2.split (AsDecimal y.3))
rule_same version rest OpenComment BadCharacter x y = absurd (bad_comment version rest y (42 ∷ x.0) x.1)
rule_same version rest OpenComment OpenComment x y = refl
rule_same version rest OpenComment OpenString x y = absurd (comment_text version rest x y)
rule_same version rest OpenComment LiteralRange x y = absurd (comment_literal version rest x y)
rule_same version rest OpenComment FloatLiteral x y = absurd (comment_float version rest x y)
rule_same version rest OpenString BadCharacter x y = absurd (bad_text version rest y x)
rule_same version rest OpenString OpenComment x y = absurd (comment_text version rest y x)
rule_same version rest OpenString OpenString x y = refl
rule_same version rest OpenString LiteralRange x y = absurd (open_text_not version rest y.0 y.1 x y.3.split (AsToken y.2 y.4))
rule_same version rest OpenString FloatLiteral x y = absurd (open_text_not version rest y.0 y.1 x y.2.split (AsDecimal y.3))
rule_same version rest LiteralRange BadCharacter x y = absurd (y.5 x.0 x.1 x.3.split (AsToken x.2 x.4))
rule_same version rest LiteralRange OpenComment x y = absurd (comment_literal version rest y x)
rule_same version rest LiteralRange OpenString x y = absurd (open_text_not version rest x.0 x.1 y x.3.split (AsToken x.2 x.4))
rule_same version rest LiteralRange LiteralRange x y = refl
rule_same version rest LiteralRange FloatLiteral x y = absurd (literal_float version rest x y)
rule_same version rest FloatLiteral BadCharacter x y = absurd (y.5 x.0 x.1 x.2.split (AsDecimal x.3))
rule_same version rest FloatLiteral OpenComment x y = absurd (comment_float version rest y x)
rule_same version rest FloatLiteral OpenString x y = absurd (open_text_not version rest x.0 x.1 y x.2.split (AsDecimal x.3))
rule_same version rest FloatLiteral LiteralRange x y = absurd (literal_float version rest y x)
rule_same version rest FloatLiteral FloatLiteral x y = refl
rule_same version rest BadCharacter _ x y = absurd y
rule_same version rest OpenComment _ x y = absurd y
rule_same version rest OpenString _ x y = absurd y
rule_same version rest LiteralRange _ x y = absurd y
rule_same version rest FloatLiteral _ x y = absurd y
rule_same version rest _ b x y = absurd x

-- a token or a refusal
pub token_refused : (version : Bool) (rest spelling behind : List ℕ) (kind : TokenKind) (rule : Rule) → ¬ (BeginsComment rest) → IsLongest version rest spelling behind → Spells version spelling kind → ¬ (IsTooLarge spelling kind) → IsRefused version rest rule → ⊥
token_refused version rest spelling behind kind BadCharacter no_comment l s fits x = x.5 spelling behind l.split (AsToken kind s)
token_refused version rest spelling behind kind OpenComment no_comment l s fits x = no_comment (x.0, inr x.1)
token_refused version rest spelling behind kind OpenString no_comment l s fits x = open_text_not version rest spelling behind x l.split (AsToken kind s)
token_refused version rest spelling behind kind LiteralRange no_comment l s fits x =
    let same = longest_same version rest x.0 x.1 spelling behind x.3 l (AsToken x.2 x.4) (AsToken kind s) in
    let kinds = kinds_same version spelling x.2 kind (subst (λ z. Spells version z x.2) same x.4) s in
    fits (subst (λ k. IsTooLarge spelling k) kinds (subst (λ z. IsTooLarge z x.2) same x.5))
token_refused version rest spelling behind kind FloatLiteral no_comment l s fits x =
    let same = longest_same version rest spelling behind x.0 x.1 l x.2 (AsToken kind s) (AsDecimal x.3) in
    kind_no_decimal version x.0 kind (subst (λ z. Spells version z kind) same s) x.3
token_refused version rest spelling behind kind _ no_comment l s fits x = x
