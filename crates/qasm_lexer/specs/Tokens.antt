-- The tokens of a text: at each place the longest spelling, with blanks and comments dropped, or the rule
-- by which the text is refused, and where. As in the OpenQASM 3.0 specification.
use Rattle.std.specs.Prelude.{◌≡◌, ℕ, ◌+◌, ◌-◌, ◌<◌, ◌≤◌, Bool, true, false, ◌&&◌, ◌||◌, not, ◌⊎◌, List, [], ◌∷◌, ◌++◌, ◌==◌, length, take, drop, IsTrue, codes, Option, Some, None, Result, Ok, Err, if◌then◌else◌}
use Rattle.std.specs.List.{list_all}
use Rattle.std.specs.Str.{chars, IsUtf8, IsCharBoundary, IsValidUpTo}
use Rattle.std.specs.declared.alloc.Global.{Global}
use Rattle.std.specs.declared.vec.Vec.{Vec}
use Rattle.qq_base.specs.declared.refusal.Fault.{Fault}
use Rattle.qq_base.specs.declared.refusal.Fault.TheVariants.{Memory, Refused}
use Rattle.qq_base.specs.declared.refusal.Span.{Span}
use Rattle.qq_base.specs.declared.refusal.Refusal.{Refusal}
use Rattle.qq_base.specs.declared.rule.Rule.{Rule}
use Rattle.qq_base.specs.declared.rule.Rule.TheVariants.{NotUtf8, BadCharacter, OpenComment, OpenString, LiteralRange, FloatLiteral}
use Rattle.qasm_lexer.specs.Characters.{is_blank, ends_line, is_quote}
use Rattle.qasm_lexer.specs.Spelling.{Spells, SpellsDecimal, IsSpelled, IsTooLarge}
use Rattle.qasm_lexer.specs.declared.token.Keyword.TheVariants.{OpenQasm}
use Rattle.qasm_lexer.specs.declared.token.Token.{Token}
use Rattle.qasm_lexer.specs.declared.token.TokenKind.{TokenKind}
use Rattle.qasm_lexer.specs.declared.token.TokenKind.TheVariants.{Word}

-- the first place of a text
abbrev pub first_place : Span
first_place = record { line = 1; column = 1 }

-- the place behind some characters: a column is one character, and a line ends after LF
abbrev pub place_behind : Span → List ℕ → Span
place_behind at [] = at
place_behind at (c ∷ cs) = place_behind (if c == 10 then record { line = at.line + 1; column = 1 } else record { line = at.line; column = at.column + 1 }) cs

-- the place of a byte of a text, also of its end
abbrev pub place_of : List ℕ → ℕ → Span
place_of text n = place_behind first_place (chars (take n text))

-- the characters of a text from a byte on
abbrev pub rest_from : List ℕ → ℕ → List ℕ
rest_from text n = chars (drop n text)

-- the spelling of a token
abbrev pub spelling_of : List ℕ → Token → List ℕ
spelling_of text token = chars (take (token.end - token.start) (drop token.start text))

-- there is a first character, and it passes
abbrev pub BeginsWith : (ℕ → Bool) → List ℕ → Type 0
BeginsWith passes [] = ⊥
BeginsWith passes (c ∷ cs) = IsTrue (passes c)

-- `*/` stands somewhere
abbrev pub has_close : List ℕ → Bool
has_close [] = false
has_close (c ∷ []) = false
has_close (c ∷ d ∷ cs) = ((c == 42) && (d == 47)) || has_close (d ∷ cs)

-- the characters of a gap are one blank, or one comment, where these characters stand behind it
pub data IsGap (gap behind : List ℕ) : Type 0 where
  Blank : (c : ℕ) → gap ≡ c ∷ [] → IsTrue (is_blank c) → IsGap gap behind
  -- from `//` to before the next CR or LF
  LineComment : (body : List ℕ) → gap ≡ codes "//" ++ body → IsTrue (list_all (λ c. not (ends_line c)) body) → (behind ≡ []) ⊎ BeginsWith ends_line behind → IsGap gap behind
  -- from `/*` to the next `*/`
  BlockComment : (body : List ℕ) → gap ≡ codes "/*" ++ body ++ codes "*/" → has_close (body ++ codes "*") ≡ false → IsGap gap behind

-- the rest stands behind these gaps of the text, one behind the other
abbrev pub Skips : List (List ℕ) → List ℕ → List ℕ → Type 0
Skips [] text rest = text ≡ rest
Skips (gap ∷ gaps) text rest = (behind : List ℕ) × (text ≡ gap ++ behind) × IsGap gap behind × Skips gaps behind rest

-- a comment begins here
abbrev pub BeginsComment : List ℕ → Type 0
BeginsComment cs = (body : List ℕ) × ((cs ≡ codes "//" ++ body) ⊎ (cs ≡ codes "/*" ++ body))

-- the rest begins with this spelling, and with no longer one
pub record IsLongest (version : Bool) (rest spelling behind : List ℕ) : Type 0 where
  pub split : rest ≡ spelling ++ behind
  pub longest : (other more : List ℕ) → rest ≡ other ++ more → IsSpelled version other → length other ≤ length spelling

-- the token stands in the text, where `version` says that a version may stand there
pub record IsToken (text : List ℕ) (version : Bool) (token : Token) : Type 0 where
  pub ordered : token.start < token.end
  pub starts : IsCharBoundary text token.start
  pub ends : IsCharBoundary text token.end
  pub place : token.at ≡ place_of text token.start
  pub spells : Spells version (spelling_of text token) token.kind
  pub longest : IsLongest version (rest_from text token.start) (spelling_of text token) (rest_from text token.end)
  pub fits : ¬ (IsTooLarge (spelling_of text token) token.kind)

-- no token begins the rest, by this rule
abbrev pub IsRefused : Bool → List ℕ → Rule → Type 0
-- a character begins no token, and no blank, comment or text
IsRefused version rest BadCharacter = (c : ℕ) × (behind : List ℕ) × (rest ≡ c ∷ behind) × IsTrue (not (is_blank c)) × IsTrue (not (is_quote c)) × ((other more : List ℕ) → rest ≡ other ++ more → ¬ (IsSpelled version other))
-- a `/*` has no `*/`
IsRefused version rest OpenComment = (body : List ℕ) × (rest ≡ codes "/*" ++ body) × (has_close body ≡ false)
-- a quote has no equal quote before the next CR, the next LF or the end of the text
IsRefused version rest OpenString = (quote : ℕ) × (body : List ℕ) × (behind : List ℕ) × (rest ≡ quote ∷ body ++ behind) × IsTrue (is_quote quote) × IsTrue (list_all (λ c. not (c == quote) && not (ends_line c)) body) × ((behind ≡ []) ⊎ BeginsWith ends_line behind)
-- a token is out of range
IsRefused version rest LiteralRange = (spelling : List ℕ) × (behind : List ℕ) × (kind : TokenKind) × IsLongest version rest spelling behind × Spells version spelling kind × IsTooLarge spelling kind
-- a decimal stands
IsRefused version rest FloatLiteral = (spelling : List ℕ) × (behind : List ℕ) × IsLongest version rest spelling behind × SpellsDecimal version spelling
IsRefused version rest _ = ⊥

-- what stands at a byte of the text where no blank and no whole comment begins: its end, a token, or a
-- refusal
abbrev pub Stands : List ℕ → ℕ → Bool → Result (Option Token) Refusal → Type 0
Stands text at version (Ok None) = at ≡ length text
Stands text at version (Ok (Some token)) = (token.start ≡ at) × ¬ (BeginsComment (rest_from text at)) × IsToken text version token
Stands text at version (Err refusal) = (refusal.at ≡ place_of text at) × IsRefused version (rest_from text at) refusal.rule

-- what comes next in the text from a byte on, behind blanks and comments
pub record IsNext (text : List ℕ) (from : ℕ) (version : Bool) (found : Result (Option Token) Refusal) : Type 0 where
  pub gaps : List (List ℕ)
  pub at : ℕ
  pub boundary : IsCharBoundary text at
  pub forward : from ≤ at
  pub skipped : Skips gaps (rest_from text from) (rest_from text at)
  pub stands : Stands text at version found

-- a version may stand behind `OPENQASM`, and nowhere else
abbrev pub opens_version : TokenKind → Bool
opens_version (Word OpenQasm) = true
opens_version _ = false

-- from a byte on these are the tokens, one behind the other, and then the text ends, or is refused
abbrev pub Reads : List ℕ → ℕ → Bool → List Token → Option Refusal → Type 0
Reads text from version [] None = IsNext text from version (Ok None)
Reads text from version [] (Some refusal) = IsNext text from version (Err refusal)
Reads text from version (token ∷ tokens) end = IsNext text from version (Ok (Some token)) × Reads text token.end (opens_version token.kind) tokens end

-- the tokens of some bytes, or their first refusal: that they are no UTF-8 comes before all others, and
-- stands behind the longest front that is
abbrev pub Tokens : List ℕ → Result (List Token) Refusal → Type 0
Tokens bytes (Ok tokens) = IsUtf8 bytes × Reads bytes 0 false tokens None
Tokens bytes (Err refusal) = ((tokens : List Token) × IsUtf8 bytes × Reads bytes 0 false tokens (Some refusal)) ⊎ ((n : ℕ) × ¬ (IsUtf8 bytes) × IsValidUpTo bytes n × (refusal ≡ record { rule = NotUtf8; at = place_of bytes n }))

-- the answer of the lexer is the reading of the bytes, want of memory aside
abbrev pub Gives : List ℕ → Result (Vec Token Global) Fault → Type 0
Gives bytes (Ok tokens) = Tokens bytes (Ok tokens.items)
Gives bytes (Err (Refused refusal)) = Tokens bytes (Err refusal)
Gives bytes (Err Memory) = Unit {0}

-- the answer of the lexer is this reading, want of memory aside
abbrev pub IsAnswer : Result (List Token) Refusal → Result (Vec Token Global) Fault → Type 0
IsAnswer reading (Ok tokens) = reading ≡ Ok tokens.items
IsAnswer reading (Err (Refused refusal)) = reading ≡ Err refusal
IsAnswer reading (Err Memory) = Unit {0}
