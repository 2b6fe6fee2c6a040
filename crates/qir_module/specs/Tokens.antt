-- The tokens of QIR text, in the syntax of the LLVM Language Reference: what each is and how it is spelled; and
-- the tokens of some bytes, or the rule by which they have none, and where. A byte is a character here.
use Rattle.std.specs.Prelude.{◌≡◌, ℕ, ◌+◌, ◌-◌, ◌*◌, ◌<◌, ◌≤◌, ◌^◌, Bool, true, false, not, ◌&&◌, ◌||◌, ◌⊎◌, ◌==◌, List, [], ◌∷◌, ◌++◌, length, take, drop, filter, codes, IsTrue, ℤ, pos, negsuc, neg_ℤ, nat_lt, zero, Option, Some, None, Result, Ok, Err, if◌then◌else◌}
use Rattle.std.specs.List.{list_all}
use Rattle.std.specs.Char.{is_ascii_digit, is_ascii_alphabetic, digit_value}
use Rattle.std.specs.Str.Parse.{digits_value}
use Rattle.qq_base.specs.declared.refusal.Span.{Span}
use Rattle.qir_module.specs.Text.{is_plain}

-- What a token is. Words and names are as they are spelled, and so is what stands between the quotes of a text.
pub data TokenKind : Type 0 where
  Word : (spelling : List ℕ) → TokenKind
  Number : (value : ℤ) → TokenKind
  Register : (number : ℕ) → TokenKind
  Target : (number : ℕ) → TokenKind
  Block : (number : ℕ) → TokenKind
  Constant : (number : ℕ) → TokenKind
  Group : (number : ℕ) → TokenKind
  Flag : (number : ℕ) → TokenKind
  Named : (word : List ℕ) → TokenKind
  FlagName : (word : List ℕ) → TokenKind
  Text : (body : List ℕ) → TokenKind
  Bytes : (body : List ℕ) → TokenKind
  FlagText : (body : List ℕ) → TokenKind
  Mark : (character : ℕ) → TokenKind

-- a token, from its first byte to behind its last one, and the place of the first
pub record Token : Type 0 where
  pub kind : TokenKind
  pub start : ℕ
  pub end : ℕ
  pub at : Span

-- the number of the rule that a text breaks, and where
pub record Breach : Type 0 where
  pub rule : ℕ
  pub at : Span

-- ---- characters

-- space, tab, CR and LF
abbrev pub is_blank : ℕ → Bool
is_blank c = (c == 32) || (c == 9) || (c == 13) || (c == 10)

-- CR and LF
abbrev pub ends_line : ℕ → Bool
ends_line c = (c == 13) || (c == 10)

-- an ASCII letter or `_`
abbrev pub begins_word : ℕ → Bool
begins_word c = is_ascii_alphabetic c || (c == 95)

-- these, digits and `.`
abbrev pub continues_word : ℕ → Bool
continues_word c = begins_word c || is_ascii_digit c || (c == 46)

-- one of = ( ) [ ] { } , !
abbrev pub is_mark : ℕ → Bool
is_mark c = (c == 61) || (c == 40) || (c == 41) || (c == 91) || (c == 93) || (c == 123) || (c == 125) || (c == 44) || (c == 33)

-- a hexadecimal digit, with a letter of either case
abbrev pub is_hex : ℕ → Bool
is_hex c = nat_lt (digit_value c) 16

-- ---- quoted texts

-- where a character of a quoted text stands: outside an escape, behind its backslash, or behind its first digit
pub data Escape : Type 0 where
  Outside : Escape
  Opened : Escape
  HalfRead : (high : ℕ) → Escape

-- the state behind a character
abbrev pub behind : Escape → ℕ → Escape
behind Outside c = if c == 92 then Opened else Outside
behind Opened c = HalfRead (digit_value c)
behind (HalfRead high) c = Outside

-- the bytes that end with a character
abbrev pub bytes_at : Escape → ℕ → List ℕ
bytes_at Outside c = if c == 92 then [] else c ∷ []
bytes_at Opened c = []
bytes_at (HalfRead high) c = (high * 16 + digit_value c) ∷ []

-- a character may stand there: a byte from the blank to the tilde but the quote, or a digit of an escape
abbrev pub may_stand : Escape → ℕ → Bool
may_stand Outside c = is_plain c || (c == 92)
may_stand Opened c = is_hex c
may_stand (HalfRead high) c = is_hex c

-- no escape is left open
abbrev pub is_outside : Escape → Bool
is_outside Outside = true
is_outside _ = false

-- the characters may go on a quoted text up to its closing quote
abbrev pub is_body : Escape → List ℕ → Bool
is_body state [] = is_outside state
is_body state (c ∷ cs) = may_stand state c && is_body (behind state c) cs

-- the bytes that these characters of a quoted text mean: each itself, and `\HH` the byte of that number
abbrev pub bytes_from : Escape → List ℕ → List ℕ
bytes_from state [] = []
bytes_from state (c ∷ cs) = bytes_at state c ++ bytes_from (behind state c) cs

abbrev pub bytes_meant : List ℕ → List ℕ
bytes_meant body = bytes_from Outside body

-- ---- spellings

abbrev pub IsWord : List ℕ → Type 0
IsWord [] = ⊥
IsWord (c ∷ cs) = IsTrue (begins_word c) × IsTrue (list_all continues_word cs)

-- one digit or more, and nothing else
pub record AreDigits (cs : List ℕ) : Type 0 where
  pub some : 0 < length cs
  pub each : IsTrue (list_all is_ascii_digit cs)

-- digits behind one spelling and in front of another, with their value
pub record IsNumbered (front back cs : List ℕ) (number : ℕ) : Type 0 where
  pub digits : List ℕ
  pub split : cs ≡ front ++ digits ++ back
  pub are_digits : AreDigits digits
  pub value : number ≡ digits_value 10 digits

-- digits, with at most one `-` in front
abbrev pub IsNumber : List ℕ → ℤ → Type 0
IsNumber cs value =
    (digits : List ℕ) × AreDigits digits
    × (((cs ≡ digits) × (value ≡ pos (digits_value 10 digits))) ⊎ ((cs ≡ 45 ∷ digits) × (value ≡ neg_ℤ (pos (digits_value 10 digits)))))

-- a quoted text behind this spelling: a quote, what may stand in a quoted text, and a quote
abbrev pub IsQuoted : List ℕ → List ℕ → List ℕ → Type 0
IsQuoted front cs body = (cs ≡ front ++ 34 ∷ body ++ 34 ∷ []) × IsTrue (is_body Outside body)

-- the characters are one token of this kind
abbrev pub Spells : List ℕ → TokenKind → Type 0
Spells cs (Word spelling) = (cs ≡ spelling) × IsWord spelling
Spells cs (Number value) = IsNumber cs value
Spells cs (Register number) = IsNumbered (codes "%r") [] cs number
Spells cs (Target number) = IsNumbered (codes "%b") [] cs number
Spells cs (Block number) = IsNumbered (codes "b") (codes ":") cs number
Spells cs (Constant number) = IsNumbered (codes "@") [] cs number
Spells cs (Group number) = IsNumbered (codes "#") [] cs number
Spells cs (Flag number) = IsNumbered (codes "!") [] cs number
Spells cs (Named word) = (cs ≡ 64 ∷ word) × IsWord word
Spells cs (FlagName word) = (cs ≡ 33 ∷ word) × IsWord word
Spells cs (Text body) = IsQuoted [] cs body
Spells cs (Bytes body) = IsQuoted (codes "c") cs body
Spells cs (FlagText body) = IsQuoted (codes "!") cs body
Spells cs (Mark character) = (cs ≡ character ∷ []) × IsTrue (is_mark character)

-- a 0, and a digit behind it
abbrev pub leads_with_zero : List ℕ → Bool
leads_with_zero [] = false
leads_with_zero (c ∷ []) = false
leads_with_zero (c ∷ d ∷ cs) = c == 48

-- the value of a word of 64 bits with sign
abbrev pub is_word : ℤ → Bool
is_word (pos n) = nat_lt n (2 ^ 63)
is_word (negsuc n) = nat_lt n (2 ^ 63)

abbrev pub is_minus_zero : List ℕ → ℤ → Bool
is_minus_zero (c ∷ cs) (pos zero) = c == 45
is_minus_zero _ _ = false

-- a number with a leading zero, or from 2^32 on
abbrev pub is_misnumbered : List ℕ → ℕ → Bool
is_misnumbered cs number = leads_with_zero (filter is_ascii_digit cs) || not (nat_lt number (2 ^ 32))

-- The number in the spelling has a leading zero, is `-0`, or is out of range: a number by itself is a word of 64
-- bits, and every other is below 2^32.
abbrev pub is_misformed : List ℕ → TokenKind → Bool
is_misformed cs (Number value) = leads_with_zero (filter is_ascii_digit cs) || is_minus_zero cs value || not (is_word value)
is_misformed cs (Register number) = is_misnumbered cs number
is_misformed cs (Target number) = is_misnumbered cs number
is_misformed cs (Block number) = is_misnumbered cs number
is_misformed cs (Constant number) = is_misnumbered cs number
is_misformed cs (Group number) = is_misnumbered cs number
is_misformed cs (Flag number) = is_misnumbered cs number
is_misformed cs _ = false

-- ---- places

-- the first place of a text
abbrev pub first_place : Span
first_place = record { line = 1; column = 1 }

-- the place behind some bytes: a column is one byte, and a line ends behind LF
abbrev pub place_behind : Span → List ℕ → Span
place_behind at [] = at
place_behind at (c ∷ cs) = place_behind (if c == 10 then record { line = at.line + 1; column = 1 } else record { line = at.line; column = at.column + 1 }) cs

-- the place of a byte of a text, also of its end
abbrev pub place_of : List ℕ → ℕ → Span
place_of text n = place_behind first_place (take n text)

-- the place behind the last byte
abbrev pub end_of : List ℕ → Span
end_of text = place_behind first_place text

-- ---- what stands at a byte

-- what stands behind a comment: the end of the text, or the end of a line
abbrev pub EndsLine : List ℕ → Type 0
EndsLine [] = Unit {0}
EndsLine (c ∷ cs) = IsTrue (ends_line c)

-- one blank, or one comment: from `;` to before the next CR or LF
abbrev pub IsGap : List ℕ → List ℕ → Type 0
IsGap gap rest =
    ((c : ℕ) × (gap ≡ c ∷ []) × IsTrue (is_blank c))
    ⊎ ((body : List ℕ) × (gap ≡ 59 ∷ body) × IsTrue (list_all (λ c. not (ends_line c)) body) × EndsLine rest)

-- the rest stands behind these gaps of the text, one behind the other
abbrev pub Skips : List (List ℕ) → List ℕ → List ℕ → Type 0
Skips [] text rest = text ≡ rest
Skips (gap ∷ gaps) text rest = (more : List ℕ) × (text ≡ gap ++ more) × IsGap gap more × Skips gaps more rest

-- the text begins with this spelling, and with no longer one of a token
pub record IsLongest (text spelling : List ℕ) : Type 0 where
  pub rest : List ℕ
  pub split : text ≡ spelling ++ rest
  pub longest : (other more : List ℕ) (kind : TokenKind) → text ≡ other ++ more → Spells other kind → length other ≤ length spelling

-- no token begins the text
abbrev pub NoToken : List ℕ → Type 0
NoToken text = (other more : List ℕ) (kind : TokenKind) → text ≡ other ++ more → ¬ (Spells other kind)

-- a byte begins no token, and neither a blank nor a comment nor a quoted text
abbrev pub BeginsNothing : List ℕ → Type 0
BeginsNothing text = (c : ℕ) × (rest : List ℕ) × (text ≡ c ∷ rest) × (is_blank c ≡ false) × (c == 59 ≡ false) × (c == 34 ≡ false) × NoToken text

-- a quote begins no quoted text
abbrev pub BeginsNoText : List ℕ → Type 0
BeginsNoText text = (rest : List ℕ) × (text ≡ 34 ∷ rest) × NoToken text

-- the longest token has a number of the wrong form
abbrev pub BeginsMisformed : List ℕ → Type 0
BeginsMisformed text = (spelling : List ℕ) × (kind : TokenKind) × IsLongest text spelling × Spells spelling kind × IsTrue (is_misformed spelling kind)

-- no token of the right form begins the text, by this rule: BadCharacter, OpenString or NumberForm
abbrev pub BreaksBy : List ℕ → ℕ → Type 0
BreaksBy text rule = ((rule ≡ 2) × BeginsNothing text) ⊎ ((rule ≡ 3) × BeginsNoText text) ⊎ ((rule ≡ 4) × BeginsMisformed text)

-- the bytes of a token
abbrev pub spelling_of : List ℕ → Token → List ℕ
spelling_of text token = take (token.end - token.start) (drop token.start text)

-- the token stands in the text
pub record IsToken (text : List ℕ) (token : Token) : Type 0 where
  pub ordered : token.start < token.end
  pub inside : token.end ≤ length text
  pub place : token.at ≡ place_of text token.start
  pub spells : Spells (spelling_of text token) token.kind
  pub longest : IsLongest (drop token.start text) (spelling_of text token)
  pub well_formed : is_misformed (spelling_of text token) token.kind ≡ false

-- what stands at a byte of the text behind all gaps: its end, a token, or a breach
abbrev pub Stands : List ℕ → ℕ → Result (Option Token) Breach → Type 0
Stands text at (Ok None) = at ≡ length text
Stands text at (Ok (Some token)) = (token.start ≡ at) × IsToken text token
Stands text at (Err breach) = (at ≤ length text) × (breach.at ≡ place_of text at) × BreaksBy (drop at text) breach.rule

-- what comes next in the text from a byte on, behind blanks and comments
pub record IsNext (text : List ℕ) (from : ℕ) (found : Result (Option Token) Breach) : Type 0 where
  pub gaps : List (List ℕ)
  pub at : ℕ
  pub forward : from ≤ at
  pub skipped : Skips gaps (drop from text) (drop at text)
  pub stands : Stands text at found

-- from a byte on these are the tokens, one behind the other, and then the text ends, or breaks a rule
abbrev pub Reads : List ℕ → ℕ → List Token → Option Breach → Type 0
Reads text from [] None = IsNext text from (Ok None)
Reads text from [] (Some breach) = IsNext text from (Err breach)
Reads text from (token ∷ tokens) end = IsNext text from (Ok (Some token)) × Reads text token.end tokens end

-- the tokens of some bytes, or the first breach of a rule of tokens
abbrev pub Tokens : List ℕ → Result (List Token) Breach → Type 0
Tokens text (Ok tokens) = Reads text 0 tokens None
Tokens text (Err breach) = (tokens : List Token) × Reads text 0 tokens (Some breach)
