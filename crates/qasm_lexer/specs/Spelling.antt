-- What it means that some characters are one token of a kind. Each definition looks at a whole spelling.
-- The spellings are those of the OpenQASM 3.0 specification, its grammar of tokens.
use Rattle.std.specs.Prelude.{◌≡◌, ℕ, ◌+◌, ◌-◌, ◌<◌, ◌^◌, Bool, true, false, not, ◌&&◌, ◌⊎◌, List, [], ◌∷◌, ◌++◌, ◌==◌, length, filter, IsTrue, codes, Option, Some, None, if◌then◌else◌}
use Rattle.std.specs.List.{list_all}
use Rattle.std.specs.Str.Parse.{digits_value}
use Rattle.qasm_lexer.specs.Characters.{ends_line, is_quote, is_digit_in, begins_name, continues_name}
use Rattle.qasm_lexer.specs.Tables.{word_spelling, mark_spelling}
use Rattle.qasm_lexer.specs.declared.token.Keyword.{Keyword}
use Rattle.qasm_lexer.specs.declared.token.TokenKind.{TokenKind}
use Rattle.qasm_lexer.specs.declared.token.TokenKind.TheVariants.{Name, Word, Whole, Text, Version, Hardware, Mark}

-- a name, or a word: it begins with one of the first characters of names, and goes on with others
abbrev pub IsNameLike : List ℕ → Type 0
IsNameLike [] = ⊥
IsNameLike (c ∷ cs) = IsTrue (begins_name c) × IsTrue (list_all continues_name cs)

abbrev pub IsWord : List ℕ → Type 0
IsWord cs = (word : Keyword) × (cs ≡ word_spelling word)

-- at least one decimal digit, and nothing else
pub record AreDigits (cs : List ℕ) : Type 0 where
  pub some : 0 < length cs
  pub each : IsTrue (list_all (is_digit_in 10) cs)

-- what may stand behind a digit of a numeral: nothing, a digit, or a `_` and a digit, and so on
abbrev pub goes_on : ℕ → List ℕ → Bool
goes_on base [] = true
goes_on base (c ∷ []) = is_digit_in base c
goes_on base (c ∷ d ∷ cs) = if is_digit_in base c then goes_on base (d ∷ cs) else (c == 95) && is_digit_in base d && goes_on base cs

-- digits of the base, with single `_` between them
abbrev pub is_numeral : ℕ → List ℕ → Bool
is_numeral base [] = false
is_numeral base (c ∷ cs) = is_digit_in base c && goes_on base cs

-- its digits alone
abbrev pub digits_of_numeral : ℕ → List ℕ → List ℕ
digits_of_numeral base cs = filter (is_digit_in base) cs

-- its value
abbrev pub numeral_value : ℕ → List ℕ → ℕ
numeral_value base cs = digits_value base (digits_of_numeral base cs)

-- the base of a whole number
pub data Base : Type 0 where
  Binary : Base
  Octal : Base
  Decimal : Base
  Hexadecimal : Base

abbrev pub radix : Base → ℕ
radix Binary = 2
radix Octal = 8
radix Decimal = 10
radix Hexadecimal = 16

-- what stands in front of the digits
abbrev pub IsPrefix : Base → List ℕ → Type 0
IsPrefix Binary cs = (cs ≡ codes "0b") ⊎ (cs ≡ codes "0B")
IsPrefix Octal cs = cs ≡ codes "0o"
IsPrefix Decimal cs = cs ≡ []
IsPrefix Hexadecimal cs = (cs ≡ codes "0x") ⊎ (cs ≡ codes "0X")

-- a whole number, with its value
pub record IsWhole (cs : List ℕ) (value : ℕ) : Type 0 where
  pub base : Base
  pub mark : List ℕ
  pub digits : List ℕ
  pub split : cs ≡ mark ++ digits
  pub marked : IsPrefix base mark
  pub numeral : IsTrue (is_numeral (radix base) digits)
  pub value_is : value ≡ numeral_value (radix base) digits

-- `e` or `E`, `+`, `-` or no sign, and digits
pub record IsExponent (cs : List ℕ) : Type 0 where
  pub letter : ℕ
  pub sign : List ℕ
  pub digits : List ℕ
  pub split : cs ≡ letter ∷ sign ++ digits
  pub is_letter : (letter ≡ 101) ⊎ (letter ≡ 69)
  pub is_sign : (sign ≡ []) ⊎ (sign ≡ codes "+") ⊎ (sign ≡ codes "-")
  pub are_digits : AreDigits digits

-- decimal digits with a point before, between or behind them, and an exponent or none
pub record IsPointed (cs : List ℕ) : Type 0 where
  pub front : List ℕ
  pub back : List ℕ
  pub exponent : List ℕ
  pub split : cs ≡ front ++ 46 ∷ back ++ exponent
  pub front_digits : IsTrue (list_all (is_digit_in 10) front)
  pub back_digits : IsTrue (list_all (is_digit_in 10) back)
  pub some : 0 < length front + length back
  pub scale : (exponent ≡ []) ⊎ IsExponent exponent

-- decimal digits and an exponent
pub record IsScaled (cs : List ℕ) : Type 0 where
  pub front : List ℕ
  pub exponent : List ℕ
  pub split : cs ≡ front ++ exponent
  pub front_digits : AreDigits front
  pub scale : IsExponent exponent

abbrev pub IsDecimal : List ℕ → Type 0
IsDecimal cs = IsPointed cs ⊎ IsScaled cs

-- a quote, characters other than that quote, CR and LF, and the same quote
pub record IsQuoted (cs : List ℕ) (quote : ℕ) (body : List ℕ) : Type 0 where
  pub split : cs ≡ quote ∷ body ++ quote ∷ []
  pub quotes : IsTrue (is_quote quote)
  pub closed : IsTrue (list_all (λ c. not (c == quote) && not (ends_line c)) body)

-- a bit string: a text in `"` of digits 0 and 1, with single `_` between them
pub record IsBitString (cs : List ℕ) (body : List ℕ) : Type 0 where
  pub split : cs ≡ 34 ∷ body ++ 34 ∷ []
  pub bits : IsTrue (is_numeral 2 body)

-- a version: digits, or digits, a point and digits
abbrev pub IsVersion : List ℕ → ℕ → Option ℕ → Type 0
IsVersion cs major None = AreDigits cs × (major ≡ digits_value 10 cs)
IsVersion cs major (Some minor) = (front : List ℕ) × (back : List ℕ) × (cs ≡ front ++ 46 ∷ back) × AreDigits front × AreDigits back × (major ≡ digits_value 10 front) × (minor ≡ digits_value 10 back)

-- a version is spelled behind `OPENQASM` alone, and no number of the same spelling is there
abbrev pub IsNoVersion : Bool → List ℕ → Type 0
IsNoVersion version cs = IsTrue version → (major : ℕ) (minor : Option ℕ) → ¬ (IsVersion cs major minor)

-- a hardware qubit: `$` and digits
abbrev pub IsHardware : List ℕ → ℕ → Type 0
IsHardware cs number = (digits : List ℕ) × (cs ≡ 36 ∷ digits) × AreDigits digits × (number ≡ digits_value 10 digits)

-- the characters are one token of this kind, where `version` says that a version may stand there
abbrev pub Spells : Bool → List ℕ → TokenKind → Type 0
Spells version cs Name = IsNameLike cs × ¬ (IsWord cs)
Spells version cs (Word word) = cs ≡ word_spelling word
Spells version cs (Whole value) = IsWhole cs value × IsNoVersion version cs
Spells version cs Text = (quote : ℕ) × (body : List ℕ) × IsQuoted cs quote body
Spells version cs (Version major minor) = IsTrue version × IsVersion cs major minor
Spells version cs (Hardware number) = IsHardware cs number
Spells version cs (Mark mark) = cs ≡ mark_spelling mark

-- the characters are a decimal, which is spelled like a token and always refused
abbrev pub SpellsDecimal : Bool → List ℕ → Type 0
SpellsDecimal version cs = IsDecimal cs × IsNoVersion version cs

-- the characters are spelled as some token
pub data IsSpelled (version : Bool) (cs : List ℕ) : Type 0 where
  AsToken : (kind : TokenKind) → Spells version cs kind → IsSpelled version cs
  AsDecimal : SpellsDecimal version cs → IsSpelled version cs

-- a token is out of range: a name over 1,024 characters, a whole number over 2^64 - 1, a bit string over
-- 4,096 bits, a number of a version or a hardware qubit over 2^32 - 1
abbrev pub IsTooLarge : List ℕ → TokenKind → Type 0
IsTooLarge cs Name = 1024 < length cs
IsTooLarge cs (Word word) = ⊥
IsTooLarge cs (Whole value) = 2 ^ 64 - 1 < value
IsTooLarge cs Text = (body : List ℕ) × IsBitString cs body × (4096 < length (digits_of_numeral 2 body))
IsTooLarge cs (Version major None) = 2 ^ 32 - 1 < major
IsTooLarge cs (Version major (Some minor)) = (2 ^ 32 - 1 < major) ⊎ (2 ^ 32 - 1 < minor)
IsTooLarge cs (Hardware number) = 2 ^ 32 - 1 < number
IsTooLarge cs (Mark mark) = ⊥
