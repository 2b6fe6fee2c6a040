-- The characters of a source text, each by its code point in Unicode, and their classes in the
-- OpenQASM 3.0 specification.
use Rattle.std.specs.Prelude.{ℕ, Bool, true, false, ◌||◌, ◌==◌, nat_lt, if◌then◌else◌}
use Rattle.std.specs.Char.{is_ascii_digit, is_ascii_alphabetic, digit_value}
use Rattle.unicode.specs.GeneralCategory.{general_category}
use Rattle.ucd_category.specs.declared.GeneralCategory.{GeneralCategory}
use Rattle.ucd_category.specs.declared.GeneralCategory.TheVariants.{UppercaseLetter, LowercaseLetter, TitlecaseLetter, ModifierLetter, OtherLetter, LetterNumber}

-- space, tab, CR and LF
abbrev pub is_blank : ℕ → Bool
is_blank c = (c == 32) || (c == 9) || (c == 13) || (c == 10)

-- CR and LF
abbrev pub ends_line : ℕ → Bool
ends_line c = (c == 13) || (c == 10)

-- `"` and `'`
abbrev pub is_quote : ℕ → Bool
is_quote c = (c == 34) || (c == 39)

-- a digit of the base, with letters of either case behind 9
abbrev pub is_digit_in : ℕ → ℕ → Bool
is_digit_in base c = nat_lt (digit_value c) base

-- the categories Lu, Ll, Lt, Lm, Lo and Nl of Unicode
abbrev pub is_letter : GeneralCategory → Bool
is_letter UppercaseLetter = true
is_letter LowercaseLetter = true
is_letter TitlecaseLetter = true
is_letter ModifierLetter = true
is_letter OtherLetter = true
is_letter LetterNumber = true
is_letter _ = false

-- `_`, an ASCII letter, or a character outside ASCII of one of these categories. (ASCII has no others
-- of them than its letters.)
abbrev pub begins_name : ℕ → Bool
begins_name c = if nat_lt c 128 then (c == 95) || is_ascii_alphabetic c else is_letter (general_category c)

-- these, and ASCII digits
abbrev pub continues_name : ℕ → Bool
continues_name c = begins_name c || is_ascii_digit c
