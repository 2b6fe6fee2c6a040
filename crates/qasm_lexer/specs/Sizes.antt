-- How many tokens a text has, where they stand, and how large they are.
use Rattle.std.specs.Prelude.{◌≡◌, ℕ, ◌-◌, ◌<◌, ◌≤◌, List, length, take, drop, slice_get, Some}
use Rattle.qasm_lexer.specs.Spelling.{IsBitString, digits_of_numeral}
use Rattle.qasm_lexer.specs.declared.token.Token.{Token}
use Rattle.qasm_lexer.specs.declared.token.TokenKind.TheVariants.{Name}

-- the bytes of a token
abbrev pub bytes_of : List ℕ → Token → List ℕ
bytes_of text token = take (token.end - token.start) (drop token.start text)

-- There are no more tokens than bytes. Each has a byte at least and ends within the text. A name has at most
-- 4,096 bytes, and what is spelled as a bit string at most 4,096 bits.
pub record AreBounded (text : List ℕ) (tokens : List Token) : Type 0 where
  pub few : length tokens ≤ length text
  pub spans : (n : ℕ) (token : Token) → slice_get tokens n ≡ Some token → (token.start < token.end) × (token.end ≤ length text)
  pub names : (n : ℕ) (token : Token) → slice_get tokens n ≡ Some token → token.kind ≡ Name → length (bytes_of text token) ≤ 4096
  pub bit_strings : (n : ℕ) (token : Token) (body : List ℕ) → slice_get tokens n ≡ Some token → IsBitString (bytes_of text token) body → length (digits_of_numeral 2 body) ≤ 4096
