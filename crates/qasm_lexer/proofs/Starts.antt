-- What may be spelled at a character: names and words at a letter, numbers at a digit, and so on.
use Rattle.std.proofs.Common.{◌≡◌, ℕ, ◌<◌, ◌≤◌, ◌⊎◌, Bool, true, false, ◌==◌, List, [], ◌∷◌, ◌++◌, length, Option, None, Some, sym, refl, ap, ◌∙◌, subst, arith, inl, inr, ⊎_elim, nat_lt}
use Rattle.std.specs.Prelude.{if◌then◌else◌}
use Rattle.std.specs.List.{list_all}
use Rattle.unicode.specs.GeneralCategory.{general_category}
use Rattle.unicode.specs.Rows.{value_in}
use Rattle.ucd_category.specs.GeneralCategoryRows.{general_category_rows}
use Rattle.qasm_lexer.specs.Characters.{is_digit_in, is_quote, is_letter, begins_name}
use Rattle.qasm_lexer.specs.Tables.{word_spelling, mark_spelling}
use Rattle.std.proofs.lemmas.Bool.Decides.{nat_tests}
use Rattle.std.proofs.lemmas.Bool.{false≢true}
use Rattle.std.proofs.lemmas.Str.Parse.{digit_from_value}
use Rattle.qasm_lexer.specs.Spelling.{IsNameLike, AreDigits, Base, IsPrefix, IsWhole, IsDecimal, IsQuoted, IsVersion, IsHardware, Spells, IsSpelled, is_numeral, radix}
use Rattle.qasm_lexer.specs.declared.token.TokenKind.{TokenKind}
use Rattle.qasm_lexer.specs.declared.token.TokenKind.TheVariants.{Name, Word, Whole, Text, Version, Hardware, Mark as MarkKind}
use Rattle.qasm_lexer.specs.Spelling.{Binary, Octal, Decimal, Hexadecimal, AsToken, AsDecimal}
use Rattle.qasm_lexer.proofs.Cutting.{cons≢nil}
use Rattle.qasm_lexer.proofs.Passing.{and_first}
use Rattle.qasm_lexer.proofs.Numerals.{cons_head}
use Rattle.qasm_lexer.specs.declared.token.Keyword.{Keyword}
use Rattle.qasm_lexer.specs.declared.token.Keyword.TheVariants.{OpenQasm, Include, Qubit, Qreg, Bit, Creg, Bool as BoolWord, Int, Uint, Angle, Const, Output, Let, Gate, Def, Gphase, Inv, Pow, Ctrl, Reset, Barrier, Measure, If, Else, While, For, In, Break, Continue, Return, End, True, False, Float, Complex, Array, Duration, Stretch, Box, Delay, DurationOf, Defcal, Cal, DefcalGrammar, Extern, Pragma, Input, Readonly, Mutable, Void, Switch, Case, Default, Negctrl, Euler, EulerSign}
use Rattle.qasm_lexer.specs.declared.token.Mark.{Mark}
use Rattle.qasm_lexer.specs.declared.token.Mark.TheVariants.{Semicolon, Comma, LeftParen, RightParen, LeftBracket, RightBracket, LeftBrace, RightBrace, At, Hash, Colon, Assign, Arrow, Plus, PlusPlus, Minus, Star, StarStar, Slash, Percent, Tilde, Bang, Ampersand, AndAnd, Pipe, OrOr, Caret, ShiftLeft, ShiftRight, Less, LessEqual, Greater, GreaterEqual, Equal, NotEqual, PlusAssign, MinusAssign, StarAssign, SlashAssign, PercentAssign, AndAssign, OrAssign, CaretAssign, ShiftLeftAssign, ShiftRightAssign}

-- `ℇ` is a letter
euler_is_letter : is_letter (general_category 0x2107) ≡ true
unfolding general_category value_in general_category_rows
euler_is_letter = refl

-- a word is spelled like a name
pub word_is_name_like : (w : Keyword) → IsNameLike (word_spelling w)
word_is_name_like OpenQasm = (refl, refl)
word_is_name_like Include = (refl, refl)
word_is_name_like Qubit = (refl, refl)
word_is_name_like Qreg = (refl, refl)
word_is_name_like Bit = (refl, refl)
word_is_name_like Creg = (refl, refl)
word_is_name_like BoolWord = (refl, refl)
word_is_name_like Int = (refl, refl)
word_is_name_like Uint = (refl, refl)
word_is_name_like Angle = (refl, refl)
word_is_name_like Const = (refl, refl)
word_is_name_like Output = (refl, refl)
word_is_name_like Let = (refl, refl)
word_is_name_like Gate = (refl, refl)
word_is_name_like Def = (refl, refl)
word_is_name_like Gphase = (refl, refl)
word_is_name_like Inv = (refl, refl)
word_is_name_like Pow = (refl, refl)
word_is_name_like Ctrl = (refl, refl)
word_is_name_like Reset = (refl, refl)
word_is_name_like Barrier = (refl, refl)
word_is_name_like Measure = (refl, refl)
word_is_name_like If = (refl, refl)
word_is_name_like Else = (refl, refl)
word_is_name_like While = (refl, refl)
word_is_name_like For = (refl, refl)
word_is_name_like In = (refl, refl)
word_is_name_like Break = (refl, refl)
word_is_name_like Continue = (refl, refl)
word_is_name_like Return = (refl, refl)
word_is_name_like End = (refl, refl)
word_is_name_like True = (refl, refl)
word_is_name_like False = (refl, refl)
word_is_name_like Float = (refl, refl)
word_is_name_like Complex = (refl, refl)
word_is_name_like Array = (refl, refl)
word_is_name_like Duration = (refl, refl)
word_is_name_like Stretch = (refl, refl)
word_is_name_like Box = (refl, refl)
word_is_name_like Delay = (refl, refl)
word_is_name_like DurationOf = (refl, refl)
word_is_name_like Defcal = (refl, refl)
word_is_name_like Cal = (refl, refl)
word_is_name_like DefcalGrammar = (refl, refl)
word_is_name_like Extern = (refl, refl)
word_is_name_like Pragma = (refl, refl)
word_is_name_like Input = (refl, refl)
word_is_name_like Readonly = (refl, refl)
word_is_name_like Mutable = (refl, refl)
word_is_name_like Void = (refl, refl)
word_is_name_like Switch = (refl, refl)
word_is_name_like Case = (refl, refl)
word_is_name_like Default = (refl, refl)
word_is_name_like Negctrl = (refl, refl)
word_is_name_like Euler = (refl, refl)
word_is_name_like EulerSign = (euler_is_letter, refl)

-- how a token may start
pub data Start : Type 0 where
  AtLetter : Start
  AtDigit : Start
  AtPoint : Start
  AtQuote : Start
  AtDollar : Start
  AtMark : Start

abbrev pub start_of : ℕ → Start
start_of c = if begins_name c then AtLetter else (if is_digit_in 10 c then AtDigit else (if c == 46 then AtPoint else (if is_quote c then AtQuote else (if c == 36 then AtDollar else AtMark))))

-- some version, whole number, text or hardware qubit
abbrev pub IsSomeVersion : List ℕ → Type 0
IsSomeVersion cs = (major : ℕ) × (minor : Option ℕ) × IsVersion cs major minor

abbrev pub IsSomeWhole : List ℕ → Type 0
IsSomeWhole cs = (value : ℕ) × IsWhole cs value

abbrev pub IsSomeText : List ℕ → Type 0
IsSomeText cs = (quote : ℕ) × (body : List ℕ) × IsQuoted cs quote body

abbrev pub IsSomeHardware : List ℕ → Type 0
IsSomeHardware cs = (number : ℕ) × IsHardware cs number

abbrev pub IsSomeMark : List ℕ → Type 0
IsSomeMark cs = (mark : Mark) × (cs ≡ mark_spelling mark)

-- what may be spelled at each start
abbrev pub MaySpell : Start → List ℕ → Type 0
MaySpell AtLetter cs = IsNameLike cs
MaySpell AtDigit cs = IsSomeWhole cs ⊎ IsSomeVersion cs ⊎ IsDecimal cs
MaySpell AtPoint cs = IsDecimal cs
MaySpell AtQuote cs = IsSomeText cs
MaySpell AtDollar cs = IsSomeHardware cs
MaySpell AtMark cs = IsSomeMark cs

-- a digit is none of the other characters
below_from_test : (a b : ℕ) → nat_lt a b ≡ true → a < b
below_from_test a b h = grind (arith, nat_tests)

pub digit_range : (c : ℕ) → is_digit_in 10 c ≡ true → (48 ≤ c) × (c < 58)
digit_range c h = let r = digit_from_value c (below_from_test _ _ h) in (omega arith, omega arith)

pub digit_no_name : (c : ℕ) → 48 ≤ c → c < 58 → begins_name c ≡ false
digit_no_name c low high = grind (arith, nat_tests)

pub letter_start : (c : ℕ) → begins_name c ≡ true → start_of c ≡ AtLetter
letter_start c h = ap (λ b. if b then AtLetter else (if is_digit_in 10 c then AtDigit else (if c == 46 then AtPoint else (if is_quote c then AtQuote else (if c == 36 then AtDollar else AtMark))))) h

pub digit_start : (c : ℕ) → is_digit_in 10 c ≡ true → start_of c ≡ AtDigit
digit_start c h =
    let range = digit_range c h in
    ap (λ b. if b then AtLetter else (if is_digit_in 10 c then AtDigit else (if c == 46 then AtPoint else (if is_quote c then AtQuote else (if c == 36 then AtDollar else AtMark))))) (digit_no_name c range.0 range.1)
    ∙ ap (λ b. if b then AtDigit else (if c == 46 then AtPoint else (if is_quote c then AtQuote else (if c == 36 then AtDollar else AtMark)))) h

pub quote_cases : (c : ℕ) → is_quote c ≡ true → (c ≡ 34) ⊎ (c ≡ 39)
quote_cases c h = grind (arith, nat_tests)

pub quote_start : (c : ℕ) → is_quote c ≡ true → start_of c ≡ AtQuote
quote_start c h = ⊎_elim (λ (e : c ≡ 34). ap start_of e) (λ (e : c ≡ 39). ap start_of e) (quote_cases c h)

pub point_start : (c : ℕ) → c ≡ 46 → start_of c ≡ AtPoint
point_start c e = ap start_of e

pub dollar_start : (c : ℕ) → c ≡ 36 → start_of c ≡ AtDollar
dollar_start c e = ap start_of e

pub mark_first : (m : Mark) → (c : ℕ) × (cs : List ℕ) × (mark_spelling m ≡ c ∷ cs) × (start_of c ≡ AtMark)
mark_first Semicolon = (59, [], refl, refl)
mark_first Comma = (44, [], refl, refl)
mark_first LeftParen = (40, [], refl, refl)
mark_first RightParen = (41, [], refl, refl)
mark_first LeftBracket = (91, [], refl, refl)
mark_first RightBracket = (93, [], refl, refl)
mark_first LeftBrace = (123, [], refl, refl)
mark_first RightBrace = (125, [], refl, refl)
mark_first At = (64, [], refl, refl)
mark_first Hash = (35, [], refl, refl)
mark_first Colon = (58, [], refl, refl)
mark_first Assign = (61, [], refl, refl)
mark_first Arrow = (45, 62 ∷ [], refl, refl)
mark_first Plus = (43, [], refl, refl)
mark_first PlusPlus = (43, 43 ∷ [], refl, refl)
mark_first Minus = (45, [], refl, refl)
mark_first Star = (42, [], refl, refl)
mark_first StarStar = (42, 42 ∷ [], refl, refl)
mark_first Slash = (47, [], refl, refl)
mark_first Percent = (37, [], refl, refl)
mark_first Tilde = (126, [], refl, refl)
mark_first Bang = (33, [], refl, refl)
mark_first Ampersand = (38, [], refl, refl)
mark_first AndAnd = (38, 38 ∷ [], refl, refl)
mark_first Pipe = (124, [], refl, refl)
mark_first OrOr = (124, 124 ∷ [], refl, refl)
mark_first Caret = (94, [], refl, refl)
mark_first ShiftLeft = (60, 60 ∷ [], refl, refl)
mark_first ShiftRight = (62, 62 ∷ [], refl, refl)
mark_first Less = (60, [], refl, refl)
mark_first LessEqual = (60, 61 ∷ [], refl, refl)
mark_first Greater = (62, [], refl, refl)
mark_first GreaterEqual = (62, 61 ∷ [], refl, refl)
mark_first Equal = (61, 61 ∷ [], refl, refl)
mark_first NotEqual = (33, 61 ∷ [], refl, refl)
mark_first PlusAssign = (43, 61 ∷ [], refl, refl)
mark_first MinusAssign = (45, 61 ∷ [], refl, refl)
mark_first StarAssign = (42, 61 ∷ [], refl, refl)
mark_first SlashAssign = (47, 61 ∷ [], refl, refl)
mark_first PercentAssign = (37, 61 ∷ [], refl, refl)
mark_first AndAssign = (38, 61 ∷ [], refl, refl)
mark_first OrAssign = (124, 61 ∷ [], refl, refl)
mark_first CaretAssign = (94, 61 ∷ [], refl, refl)
mark_first ShiftLeftAssign = (60, 60 ∷ 61 ∷ [], refl, refl)
mark_first ShiftRightAssign = (62, 62 ∷ 61 ∷ [], refl, refl)

-- the first of some digits
some_digits : (c : ℕ) (cs ds es : List ℕ) → c ∷ cs ≡ ds ++ es → AreDigits ds → is_digit_in 10 c ≡ true
some_digits c cs [] es e digits = absurd (omega (arith, digits.some))
some_digits c cs (d ∷ ds) es e digits = ap (is_digit_in 10) (cons_head e) ∙ and_first (is_digit_in 10 d) _ digits.each

zero_first : (c : ℕ) (cs mark letter digits : List ℕ) → c ∷ cs ≡ mark ++ digits → mark ≡ 48 ∷ letter → is_digit_in 10 c ≡ true
zero_first c cs mark letter digits e q = ap (is_digit_in 10) (cons_head (e ∙ ap (λ m. m ++ digits) q))

pub whole_first : (c : ℕ) (cs mark digits : List ℕ) (base : Base) → c ∷ cs ≡ mark ++ digits → IsPrefix base mark → is_numeral (radix base) digits ≡ true → is_digit_in 10 c ≡ true
whole_first c cs mark digits Binary e p n = ⊎_elim (λ (q : mark ≡ 48 ∷ 98 ∷ []). zero_first c cs mark (98 ∷ []) digits e q) (λ (q : mark ≡ 48 ∷ 66 ∷ []). zero_first c cs mark (66 ∷ []) digits e q) p
whole_first c cs mark digits Octal e p n = zero_first c cs mark (111 ∷ []) digits e p
whole_first c cs mark digits Hexadecimal e p n = ⊎_elim (λ (q : mark ≡ 48 ∷ 120 ∷ []). zero_first c cs mark (120 ∷ []) digits e q) (λ (q : mark ≡ 48 ∷ 88 ∷ []). zero_first c cs mark (88 ∷ []) digits e q) p
whole_first c cs mark [] Decimal e p n = absurd (false≢true n)
whole_first c cs mark (d ∷ digits) Decimal e p n =
    ap (is_digit_in 10) (cons_head (e ∙ ap (λ m. m ++ d ∷ digits) p)) ∙ and_first (is_digit_in 10 d) _ n

pub decimal_start : (c : ℕ) (cs : List ℕ) → IsDecimal (c ∷ cs) → (c ≡ 46) ⊎ (is_digit_in 10 c ≡ true)
decimal_start c cs (inl p) = by_front p.front p.split p.front_digits
  where
    by_front : (front : List ℕ) → c ∷ cs ≡ front ++ 46 ∷ p.back ++ p.exponent → list_all (is_digit_in 10) front ≡ true → (c ≡ 46) ⊎ (is_digit_in 10 c ≡ true)
    by_front [] e d = inl (cons_head e)
    by_front (f ∷ fs) e d = inr (ap (is_digit_in 10) (cons_head e) ∙ and_first (is_digit_in 10 f) _ d)
decimal_start c cs (inr s) = inr (some_digits c cs s.front s.exponent s.split s.front_digits)

may_decimal : (c : ℕ) (cs : List ℕ) → IsDecimal (c ∷ cs) → MaySpell (start_of c) (c ∷ cs)
may_decimal c cs d =
    ⊎_elim
    (λ (e : c ≡ 46). subst (λ s. MaySpell s (c ∷ cs)) (sym (point_start c e)) d)
    (λ (h : is_digit_in 10 c ≡ true). subst (λ s. MaySpell s (c ∷ cs)) (sym (digit_start c h)) (inr (inr d)))
    (decimal_start c cs d)

pub version_first : (c : ℕ) (cs : List ℕ) (major : ℕ) (minor : Option ℕ) → IsVersion (c ∷ cs) major minor → is_digit_in 10 c ≡ true
version_first c cs major None v = and_first (is_digit_in 10 c) _ v.0.each
version_first c cs major (Some minor) v = some_digits c cs v.0 _ v.2 v.3

may_token : (version : Bool) (c : ℕ) (cs : List ℕ) (kind : TokenKind) → Spells version (c ∷ cs) kind → MaySpell (start_of c) (c ∷ cs)
may_token version c cs Name s = subst (λ x. MaySpell x (c ∷ cs)) (sym (letter_start c s.0.0)) s.0
may_token version c cs (Word w) s =
    let like = subst IsNameLike (sym s) (word_is_name_like w) in
    subst (λ x. MaySpell x (c ∷ cs)) (sym (letter_start c like.0)) like
may_token version c cs (Whole n) s =
    let w = s.0 in
    subst (λ x. MaySpell x (c ∷ cs)) (sym (digit_start c (whole_first c cs w.mark w.digits w.base w.split w.marked w.numeral))) (inl (n, w))
may_token version c cs Text s =
    subst (λ x. MaySpell x (c ∷ cs)) (sym (quote_start c (ap is_quote (cons_head s.2.split) ∙ s.2.quotes))) s
may_token version c cs (Version major minor) s =
    subst (λ x. MaySpell x (c ∷ cs)) (sym (digit_start c (version_first c cs major minor s.1))) (inr (inl (major, minor, s.1)))
may_token version c cs (Hardware n) s =
    subst (λ x. MaySpell x (c ∷ cs)) (sym (dollar_start c (cons_head s.1))) (n, s)
may_token version c cs (MarkKind m) s =
    let first = mark_first m in
    subst (λ x. MaySpell x (c ∷ cs)) (sym (ap start_of (cons_head (s ∙ first.2)) ∙ first.3)) (m, s)

-- what may be spelled at a character
pub may_spell : (version : Bool) (c : ℕ) (cs : List ℕ) → IsSpelled version (c ∷ cs) → MaySpell (start_of c) (c ∷ cs)
may_spell version c cs (AsToken kind s) = may_token version c cs kind s
may_spell version c cs (AsDecimal s) = may_decimal c cs s.0

no_whole : (mark digits : List ℕ) (base : Base) → [] ≡ mark ++ digits → is_numeral (radix base) digits ≡ true → ⊥
no_whole [] [] base e n = false≢true n
no_whole [] (d ∷ digits) base e n = cons≢nil (sym e)
no_whole (m ∷ mark) digits base e n = cons≢nil (sym e)

no_decimal : IsDecimal [] → ⊥
no_decimal (inl p) = by_front p.front p.split
  where
    by_front : (front : List ℕ) → [] ≡ front ++ 46 ∷ p.back ++ p.exponent → ⊥
    by_front [] e = cons≢nil (sym e)
    by_front (f ∷ fs) e = cons≢nil (sym e)
no_decimal (inr s) = by_front s.front s.split s.front_digits.some
  where
    by_front : (front : List ℕ) → [] ≡ front ++ s.exponent → 0 < length front → ⊥
    by_front [] e h = omega arith
    by_front (f ∷ fs) e h = cons≢nil (sym e)

no_version : (major : ℕ) (minor : Option ℕ) → IsVersion [] major minor → ⊥
no_version major None v = let h = v.0.some in omega arith
no_version major (Some minor) v = by_front v.0 v.2
  where
    by_front : (front : List ℕ) → [] ≡ front ++ 46 ∷ v.1 → ⊥
    by_front [] e = cons≢nil (sym e)
    by_front (f ∷ fs) e = cons≢nil (sym e)

-- no token is spelled by no characters
pub spelled_some : (version : Bool) → IsSpelled version [] → ⊥
spelled_some version (AsToken Name s) = s.0
spelled_some version (AsToken (Word w) s) = subst IsNameLike (sym s) (word_is_name_like w)
spelled_some version (AsToken (Whole n) s) = no_whole s.0.mark s.0.digits s.0.base s.0.split s.0.numeral
spelled_some version (AsToken Text s) = cons≢nil (sym s.2.split)
spelled_some version (AsToken (Version major minor) s) = no_version major minor s.1
spelled_some version (AsToken (Hardware n) s) = cons≢nil (sym s.1)
spelled_some version (AsToken (MarkKind m) s) = cons≢nil (sym (s ∙ (mark_first m).2))
spelled_some version (AsDecimal s) = no_decimal s.0

-- what is spelled at a start
pub spelled_at : (start : Start) (version : Bool) (c : ℕ) (rest other more : List ℕ) → start_of c ≡ start → c ∷ rest ≡ other ++ more → IsSpelled version other → MaySpell start other
spelled_at start version c rest [] more at e s = absurd (spelled_some version s)
spelled_at start version c rest (d ∷ ds) more at e s =
    subst (λ x. MaySpell x (d ∷ ds)) (ap start_of (sym (cons_head e)) ∙ at) (may_spell version d ds s)
