-- Serves private contracts: what the scanners of the lexer's code see.
use Rattle.std.specs.Prelude.{ℕ, zero, suc, ◌&&◌, ◌||◌, not, Bool, true, false, List, take, pos, neg_ℤ, ℤ, Option, Some, None, Result, Ok, Err}
use Rattle.std.specs.Char.{is_ascii_digit}
use Rattle.std.specs.Str.Parse.{digits_value}
use Rattle.qir_module.specs.Tokens.{TokenKind, ends_line, continues_word, leads_with_zero, is_word}
use Rattle.qir_module.specs.Tokens as t
use Rattle.qir_module.specs.Lexer as x
use Rattle.qir_lexer.specs.declared.scan.Class.{Class}
use Rattle.qir_lexer.specs.declared.scan.Class.TheVariants.{WordPart, Digit, InLine}
use Rattle.qir_lexer.specs.declared.scan.Lead.{Lead}
use Rattle.qir_lexer.specs.declared.scan.Lead.TheVariants as l
use Rattle.qir_lexer.specs.declared.scan.Escape.{Escape}
use Rattle.qir_lexer.specs.declared.scan.Escape.TheVariants as e
use Rattle.qir_lexer.specs.declared.piece.Piece.{Piece}
use Rattle.qir_lexer.specs.declared.piece.Numbered.{Numbered}
use Rattle.qir_lexer.specs.declared.piece.Numbered.TheVariants as n
use Rattle.qir_lexer.specs.declared.rule.TextRule.{TextRule}
use Rattle.qir_lexer.specs.Rules.{number_of}
use Rattle.qir_lexer.specs.Seen.{kind_of}

abbrev pub passes : Class → ℕ → Bool
passes WordPart c = continues_word c
passes Digit c = is_ascii_digit c
passes InLine c = not (ends_line c)

abbrev pub lead_in : Lead → x.Lead
lead_in l.Blank = x.Blank
lead_in l.Semicolon = x.Semicolon
lead_in l.Letter = x.Letter
lead_in l.Digit = x.Digit
lead_in l.Minus = x.Minus
lead_in l.Percent = x.Percent
lead_in l.At = x.At
lead_in l.Hash = x.Hash
lead_in l.Bang = x.Bang
lead_in l.Quote = x.Quote
lead_in l.OtherMark = x.OtherMark
lead_in l.Nothing = x.Nothing

-- a blank or a comment begins so
abbrev pub is_gap : x.Lead → Bool
is_gap x.Blank = true
is_gap x.Semicolon = true
is_gap _ = false

-- the value of the first digit of an escape is no matter here
abbrev pub escape_in : Escape → t.Escape
escape_in e.Outside = t.Outside
escape_in e.Opened = t.Opened
escape_in e.HalfRead = t.HalfRead 0

-- a number by the value of its digits
abbrev pub signed : Bool → ℕ → ℤ
signed true n = neg_ℤ (pos n)
signed false n = pos n

abbrev pub is_zero : ℕ → Bool
is_zero zero = true
is_zero (suc n) = false

-- the digits of a number, with or without a minus in front, have the right form
abbrev pub is_number : Bool → List ℕ → Bool
is_number negative digits = not (leads_with_zero digits || (negative && is_zero (digits_value 10 digits)) || not (is_word (signed negative (digits_value 10 digits))))

abbrev pub numbered_kind : Numbered → ℕ → TokenKind
numbered_kind n.Register = t.Register
numbered_kind n.Target = t.Target
numbered_kind n.Block = t.Block
numbered_kind n.Constant = t.Constant
numbered_kind n.Group = t.Group
numbered_kind n.Flag = t.Flag

-- what the first token of the text is found to be
abbrev pub step_in : List ℕ → Result Piece TextRule → x.Step
step_in text (Ok piece) = x.Found (kind_of (take piece.size text) piece.kind) piece.size
step_in text (Err rule) = x.Fails (number_of rule)

abbrev pub some_step_in : List ℕ → Option (Result Piece TextRule) → Option x.Step
some_step_in text None = None
some_step_in text (Some found) = Some (step_in text found)
