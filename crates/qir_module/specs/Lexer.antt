-- Serves private contracts: the first token of a text and the tokens of a text as functions. Laws say that they
-- are those of the definition.
use Rattle.std.specs.Prelude.{ℕ, zero, suc, ◌+◌, ◌==◌, ◌&&◌, not, Bool, true, false, cond, List, [], ◌∷◌, length, take, drop, pos, neg_ℤ, Option, Some, None, Result, Ok, Err}
use Rattle.std.specs.Char.{is_ascii_digit}
use Rattle.std.specs.Str.Parse.{digits_value}
use Rattle.qq_base.specs.declared.refusal.Span.{Span}
use Rattle.qir_module.specs.Tokens.{TokenKind, Token, Breach, is_blank, ends_line, begins_word, continues_word, is_mark, Escape, Outside, behind, may_stand, is_outside, is_misformed, first_place, place_behind}
use Rattle.qir_module.specs.Tokens as t

-- what a token, a blank or a comment may begin with
pub data Lead : Type 0 where
  Blank : Lead
  Semicolon : Lead
  Letter : Lead
  Digit : Lead
  Minus : Lead
  Percent : Lead
  At : Lead
  Hash : Lead
  Bang : Lead
  Quote : Lead
  -- a mark other than `!`
  OtherMark : Lead
  Nothing : Lead

abbrev pub lead_of : ℕ → Lead
lead_of c =
    cond (is_blank c) Blank (cond (c == 59) Semicolon (cond (begins_word c) Letter (cond (is_ascii_digit c) Digit
    (cond (c == 45) Minus (cond (c == 37) Percent (cond (c == 64) At (cond (c == 35) Hash (cond (c == 33) Bang
    (cond (c == 34) Quote (cond (is_mark c) OtherMark Nothing))))))))))

-- What stands first in a text: a gap or a token, by its length, or the number of the rule by which there is none.
pub data Step : Type 0 where
  Gap : (size : ℕ) → Step
  Found : (kind : TokenKind) → (size : ℕ) → Step
  Fails : (rule : ℕ) → Step

-- how many characters pass from the front on
abbrev pub run : (ℕ → Bool) → List ℕ → ℕ
run passes [] = 0
run passes (c ∷ cs) = elim (passes c) [ true ↦ suc (run passes cs) | false ↦ 0 ]

-- the first character passes
abbrev pub heads : (ℕ → Bool) → List ℕ → Bool
heads passes [] = false
heads passes (c ∷ cs) = passes c

-- one more, where there are so many
abbrev pub one_more : Option ℕ → Option ℕ
one_more None = None
one_more (Some n) = Some (suc n)

-- how many characters stand in front of the closing quote, where it closes a quoted text
abbrev pub closed : Escape → List ℕ → Option ℕ
closed state [] = None
closed state (c ∷ cs) = elim (is_outside state && (c == 34)) [ true ↦ Some 0 | false ↦ elim (may_stand state c) [ true ↦ one_more (closed (behind state c) cs) | false ↦ None ] ]

-- the first of two, or else the second
abbrev pub or_else : Option Step → Step → Step
or_else None other = other
or_else (Some step) other = step

-- a token of these characters, where its number has the right form
abbrev pub found : TokenKind → List ℕ → Step
found kind spelling = cond (is_misformed spelling kind) (Fails 4) (Found kind (length spelling))

-- ---- digits, a word or a quoted text behind so many characters of a text

abbrev pub number_behind : (List ℕ → TokenKind) → ℕ → List ℕ → ℕ → Option Step
number_behind make skip text zero = None
number_behind make skip text (suc n) = Some (found (make (take (suc n) (drop skip text))) (take (skip + suc n) text))

abbrev pub number_step : (List ℕ → TokenKind) → ℕ → List ℕ → Option Step
number_step make skip text = number_behind make skip text (run is_ascii_digit (drop skip text))

abbrev pub name_behind : (List ℕ → TokenKind) → ℕ → List ℕ → Bool → Option Step
name_behind make skip text false = None
name_behind make skip text true = Some (Found (make (take (run continues_word (drop skip text)) (drop skip text))) (skip + run continues_word (drop skip text)))

abbrev pub name_step : (List ℕ → TokenKind) → ℕ → List ℕ → Option Step
name_step make skip text = name_behind make skip text (heads begins_word (drop skip text))

abbrev pub quoted_behind : (List ℕ → TokenKind) → ℕ → List ℕ → Option ℕ → Option Step
quoted_behind make skip text None = None
quoted_behind make skip text (Some n) = Some (Found (make (take n (drop (skip + 1) text))) (skip + n + 2))

abbrev pub quoted_at : (List ℕ → TokenKind) → ℕ → List ℕ → Bool → Option Step
quoted_at make skip text false = None
quoted_at make skip text true = quoted_behind make skip text (closed Outside (drop (skip + 1) text))

abbrev pub quoted_step : (List ℕ → TokenKind) → ℕ → List ℕ → Option Step
quoted_step make skip text = quoted_at make skip text (heads (λ c. c == 34) (drop skip text))

-- ---- what each kind of token is made of

abbrev pub value_of : List ℕ → ℕ
value_of digits = digits_value 10 digits

abbrev pub plus : List ℕ → TokenKind
plus digits = t.Number (pos (value_of digits))

abbrev pub minus : List ℕ → TokenKind
minus digits = t.Number (neg_ℤ (pos (value_of digits)))

abbrev pub numbered : (ℕ → TokenKind) → List ℕ → TokenKind
numbered kind digits = kind (value_of digits)

-- a block's name: `b`, digits and `:`
abbrev pub block_behind : List ℕ → ℕ → Bool → Option Step
block_behind text zero ends = None
block_behind text (suc n) false = None
block_behind text (suc n) true = Some (found (t.Block (value_of (take (suc n) (drop 1 text)))) (take (suc n + 2) text))

abbrev pub block_step : List ℕ → Option Step
block_step text = block_behind text (run is_ascii_digit (drop 1 text)) (heads (λ c. c == 58) (drop (1 + run is_ascii_digit (drop 1 text)) text))

-- behind a letter
abbrev pub special_step : Bool → Bool → List ℕ → Option Step
special_step true is_c text = block_step text
special_step false true text = quoted_step t.Bytes 1 text
special_step false false text = None

-- behind a `%`
abbrev pub percent_step : Bool → Bool → List ℕ → Step
percent_step true is_b text = or_else (number_step (numbered t.Register) 2 text) (Fails 2)
percent_step false true text = or_else (number_step (numbered t.Target) 2 text) (Fails 2)
percent_step false false text = Fails 2

abbrev pub step_by : Lead → ℕ → List ℕ → Step
step_by Blank c text = Gap 1
step_by Semicolon c text = Gap (1 + run (λ d. not (ends_line d)) (drop 1 text))
step_by Letter c text = or_else (special_step (c == 98) (c == 99) text) (or_else (name_step t.Word 0 text) (Fails 2))
step_by Digit c text = or_else (number_step plus 0 text) (Fails 2)
step_by Minus c text = or_else (number_step minus 1 text) (Fails 2)
step_by Percent c text = percent_step (heads (λ d. d == 114) (drop 1 text)) (heads (λ d. d == 98) (drop 1 text)) text
step_by At c text = or_else (number_step (numbered t.Constant) 1 text) (or_else (name_step t.Named 1 text) (Fails 2))
step_by Hash c text = or_else (number_step (numbered t.Group) 1 text) (Fails 2)
step_by Bang c text = or_else (number_step (numbered t.Flag) 1 text) (or_else (name_step t.FlagName 1 text) (or_else (quoted_step t.FlagText 1 text) (Found (t.Mark 33) 1)))
step_by Quote c text = or_else (quoted_step t.Text 0 text) (Fails 3)
step_by OtherMark c text = Found (t.Mark c) 1
step_by Nothing c text = Fails 2

-- what stands first in the text of a character and those behind it
abbrev pub step_of : ℕ → List ℕ → Step
step_of c cs = step_by (lead_of c) c (c ∷ cs)

-- ---- the tokens of a text

abbrev pub with_token : Token → Result (List Token) Breach → Result (List Token) Breach
with_token x (Ok xs) = Ok (x ∷ xs)
with_token x (Err breach) = Err breach

abbrev pub lexed_behind : (ℕ → Result (List Token) Breach) → ℕ → Span → Step → Result (List Token) Breach
lexed_behind rest start at (Gap size) = rest size
lexed_behind rest start at (Found kind size) = with_token (record { kind = kind; start = start; end = start + size; at = at }) (rest size)
lexed_behind rest start at (Fails rule) = Err (record { rule = rule; at = at })

-- the tokens of a text from a byte on, at most so many steps far
abbrev pub lexed_from : ℕ → ℕ → Span → List ℕ → Result (List Token) Breach
lexed_from zero start at text = Ok []
lexed_from (suc n) start at [] = Ok []
lexed_from (suc n) start at (c ∷ cs) =
    lexed_behind (λ size. lexed_from n (start + size) (place_behind at (take size (c ∷ cs))) (drop size (c ∷ cs))) start at (step_of c cs)

abbrev pub lexed : List ℕ → Result (List Token) Breach
lexed text = lexed_from (length text) 0 first_place text
