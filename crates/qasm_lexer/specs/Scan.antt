-- For private contracts alone: what the scanners skip, and what they find.
use Rattle.std.specs.Prelude.{◌≡◌, ℕ, ◌<◌, ◌≤◌, Bool, false, not, ◌&&◌, ◌||◌, ◌⊎◌, List, [], ◌∷◌, ◌++◌, ◌==◌, IsTrue, MatchBool, codes, length, Result, Ok, Err}
use denote.Ref.{Bor}
use Rattle.qq_base.specs.declared.rule.Rule.{Rule}
use Rattle.qq_base.specs.declared.rule.Rule.TheVariants.{OpenComment}
use Rattle.qasm_lexer.specs.Spelling.{Base, radix, IsPrefix, goes_on, IsExponent, Spells, IsTooLarge}
use Rattle.qasm_lexer.specs.Tokens.{IsLongest, IsRefused, IsGap, Skips, BeginsComment, has_close}
use Rattle.qasm_lexer.specs.Tables.{mark_spelling}
use Rattle.qasm_lexer.specs.declared.token.Mark.{Mark}
use Rattle.qasm_lexer.specs.declared.token.TokenKind.{TokenKind}
use Rattle.qasm_lexer.specs.declared.gaps.Gap.{Gap}
use Rattle.qasm_lexer.specs.declared.gaps.Gap.TheVariants.{Before, Open, Nothing}
use Rattle.std.specs.List.{list_all}
use Rattle.std.specs.Str.{chars, IsUtf8}
use Rattle.qasm_lexer.specs.Characters.{is_blank, ends_line, is_quote, is_digit_in, begins_name, continues_name}
use Rattle.qasm_lexer.specs.declared.scan.Class.{Class}
use Rattle.qasm_lexer.specs.declared.scan.Class.TheVariants.{NamePart, Digit, InLine, InText}

-- a text is these characters, and then a rest
pub record Cuts (text : List ℕ) (front : List ℕ) (rest : List ℕ) : Type 0 where
  pub bytes : List ℕ
  pub utf8 : IsUtf8 bytes
  pub spelled : chars bytes ≡ front
  pub split : text ≡ bytes ++ rest
  pub rest_utf8 : IsUtf8 rest

-- no characters, or the first one fails
abbrev pub StopsAt : (ℕ → Bool) → List ℕ → Type 0
StopsAt passes [] = Unit {0}
StopsAt passes (c ∷ cs) = passes c ≡ false

-- the rest stands behind the longest front of the text of which each character passes
pub record SkipsPassing (passes : ℕ → Bool) (text rest : List ℕ) : Type 0 where
  pub front : List ℕ
  pub cuts : Cuts text front rest
  pub each : IsTrue (list_all passes front)
  pub stops : StopsAt passes (chars rest)

-- the same, of at least one character
abbrev pub SkipsSome : (ℕ → Bool) → List ℕ → List ℕ → Type 0
SkipsSome passes text rest = SkipsPassing passes text rest × (length rest < length text)

-- the classes of characters that a scanner passes over
abbrev pub passes : Class → ℕ → Bool
passes NamePart c = continues_name c
passes Digit c = is_digit_in 10 c
passes InLine c = not (ends_line c)
passes (InText quote) c = not (c == quote) && not (ends_line c)

-- a digit, or a `_` and a digit, begins here
abbrev pub begins_step : ℕ → List ℕ → Bool
begins_step base [] = false
begins_step base (c ∷ []) = is_digit_in base c
begins_step base (c ∷ d ∷ cs) = is_digit_in base c || ((c == 95) && is_digit_in base d)

-- a digit, or a `_` and a digit
abbrev pub IsStep : ℕ → List ℕ → Type 0
IsStep base cs = (d : ℕ) × IsTrue (is_digit_in base d) × ((cs ≡ d ∷ []) ⊎ (cs ≡ 95 ∷ d ∷ []))

-- the rest stands behind the longest front that may follow a digit
pub record SkipsDigits (base : ℕ) (text rest : List ℕ) : Type 0 where
  pub front : List ℕ
  pub cuts : Cuts text front rest
  pub each : IsTrue (goes_on base front)
  pub stops : begins_step base (chars rest) ≡ false

-- the rest stands behind some characters of the text
abbrev pub HasRest : List ℕ → List ℕ → Type 0
HasRest text rest = (front : List ℕ) × Cuts text front rest

-- a decimal's exponent
abbrev pub BeginsExponent : List ℕ → Type 0
BeginsExponent cs = (exponent : List ℕ) × (behind : List ℕ) × (cs ≡ exponent ++ behind) × IsExponent exponent

-- the rest stands behind an exponent, with all its digits
pub record SkipsExponent (text rest : List ℕ) : Type 0 where
  pub front : List ℕ
  pub cuts : Cuts text front rest
  pub exponent : IsExponent front
  pub stops : StopsAt (is_digit_in 10) (chars rest)

-- the rest stands behind a sign, or is the text, which begins with none
abbrev pub SkipsSign : List ℕ → List ℕ → Type 0
SkipsSign text rest = Cuts text (codes "+") rest ⊎ Cuts text (codes "-") rest ⊎ ((text ≡ rest) × StopsAt (λ c. (c == 43) || (c == 45)) (chars text))

-- the base that a letter behind a 0 names: b or B, o, x or X
abbrev pub BaseLetter : ℕ → ℕ → Type 0
BaseLetter letter base = (kind : Base) × (base ≡ radix kind) × IsPrefix kind (48 ∷ letter ∷ [])

abbrev pub NoBaseLetter : ℕ → Type 0
NoBaseLetter letter = (base : ℕ) → ¬ (BaseLetter letter base)

-- the text begins with no number that names its base
abbrev pub NoBased : List ℕ → Type 0
NoBased cs = (letter digit base : ℕ) (more : List ℕ) → cs ≡ 48 ∷ letter ∷ digit ∷ more → BaseLetter letter base → is_digit_in base digit ≡ false

-- the text begins with a number that names its base, which goes on as long as it may
pub record SkipsBased (text : List ℕ) (base : ℕ) (digits rest : List ℕ) : Type 0 where
  pub letter : ℕ
  pub digit : ℕ
  pub front : List ℕ
  pub names_base : BaseLetter letter base
  pub prefix_cut : Cuts text (48 ∷ letter ∷ []) digits
  pub digits_cut : Cuts digits (digit ∷ front) rest
  pub begins : IsTrue (is_digit_in base digit)
  pub each : IsTrue (goes_on base front)
  pub stops : begins_step base (chars rest) ≡ false

-- no name, number, text or hardware qubit begins with the character, and it is no blank
pub record BeginsMark (c : ℕ) : Type 0 where
  pub no_name : begins_name c ≡ false
  pub no_digit : is_digit_in 10 c ≡ false
  pub no_point : c == 46 ≡ false
  pub no_quote : is_quote c ≡ false
  pub no_dollar : c == 36 ≡ false
  pub no_blank : is_blank c ≡ false

-- the rest stands behind the first `*/`
pub record SkipsClose (text rest : List ℕ) : Type 0 where
  pub front : List ℕ
  pub cuts : Cuts text (front ++ codes "*/") rest
  pub first : has_close (front ++ codes "*") ≡ false

-- neither a blank nor a comment begins here
pub record BeginsNoGap (cs : List ℕ) : Type 0 where
  pub no_blank : StopsAt is_blank cs
  pub no_comment : ¬ (BeginsComment cs)

-- what stands at the beginning of a text
abbrev pub BeginsSo : List ℕ → Gap → Type 0
BeginsSo text (Before rest) = (gap : List ℕ) × Cuts text gap rest.now × IsGap gap (chars rest.now)
BeginsSo text Open = IsRefused false (chars text) OpenComment
BeginsSo text Nothing = BeginsNoGap (chars text)

-- the rest stands behind blanks and comments, and an open comment begins it, or nothing of the kind
pub record SkipsGaps (text rest : List ℕ) (is_open : Bool) : Type 0 where
  pub gaps : List (List ℕ)
  pub has_rest : HasRest text rest
  pub skipped : Skips gaps (chars text) (chars rest)
  pub begins : MatchBool is_open (IsRefused false (chars rest) OpenComment) (BeginsNoGap (chars rest))

-- what a scanner finds first in a text: a token and what stands behind it, or why there is none
abbrev pub Finds : Bool → List ℕ → Result (TokenKind × Bor (List ℕ)) Rule → Type 0
Finds version text (Ok found) = (front : List ℕ) × Cuts text front found.1.now × Spells version front found.0 × IsLongest version (chars text) front (chars found.1.now) × ¬ (IsTooLarge front found.0)
Finds version text (Err rule) = IsRefused version (chars text) rule

-- the text begins with no mark
abbrev pub BeginsNoMark : List ℕ → Type 0
BeginsNoMark cs = (mark : Mark) (more : List ℕ) → ¬ (cs ≡ mark_spelling mark ++ more)

-- no longer mark than this begins the text
abbrev pub IsFirstMark : List ℕ → Mark → Type 0
IsFirstMark cs mark = (other : Mark) (more : List ℕ) → cs ≡ mark_spelling other ++ more → length (mark_spelling other) ≤ length (mark_spelling mark)
