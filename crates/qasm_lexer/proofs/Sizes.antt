-- How many tokens a text has, where they stand, and how large they are.
use Rattle.std.proofs.Common.{◌≡◌, ℕ, zero, suc, ◌+◌, ◌*◌, ◌<◌, ◌≤◌, Bool, true, false, List, [], ◌∷◌, ◌++◌, length, slice_get, IsUtf8, Option, None, Some, Ok, sym, refl, ap, ◌∙◌, subst, arith, length-append}
use Rattle.std.specs.Prelude.{IsTrue}
use Rattle.std.specs.List.{list_all}
use Rattle.std.specs.Str.{IsAscii}
use lib.Utf8.{encode, encodes}
use Rattle.std.proofs.lemmas.Bool.Decides.{nat_tests}
use Rattle.std.proofs.lemmas.Option.{none-some, same_Some}
use Rattle.std.proofs.lemmas.Str.{chars-IsAscii, encodes-chars, length-encode, len_utf8_bounds, IsUtf8-between}
use Rattle.std.proofs.lemmas.Str.Ascii.{IsAscii-nil, IsAscii-cons, IsAscii-push}
use Rattle.qq_base.specs.declared.refusal.Refusal.{Refusal}
use Rattle.qasm_lexer.specs.Spelling.{IsBitString, IsTooLarge, Spells, digits_of_numeral}
use Rattle.qasm_lexer.specs.Tokens.{IsToken, Reads, Tokens, opens_version, spelling_of}
use Rattle.qasm_lexer.specs.Sizes.{AreBounded, bytes_of}
use Rattle.qasm_lexer.specs.declared.token.Token.{Token}
use Rattle.qasm_lexer.specs.declared.token.TokenKind.{TokenKind}
use Rattle.qasm_lexer.specs.declared.token.TokenKind.TheVariants.{Name, Text}
use Rattle.qasm_lexer.proofs.KindLaws.{start_kind, kind_start}
use Rattle.qasm_lexer.proofs.LexRun.{token_forward}
use Rattle.qasm_lexer.proofs.NumberLaws.{in_numeral, numeral_class}
use Rattle.qasm_lexer.proofs.Passing.{and_first, and_second}
use Rattle.qasm_lexer.proofs.Starts.{AtQuote}

-- each token of a reading stands in the text
token_read : (text : List ℕ) (from : ℕ) (version : Bool) (tokens : List Token) (end : Option Refusal) (n : ℕ) (token : Token) → Reads text from version tokens end → slice_get tokens n ≡ Some token → (may : Bool) × IsToken text may token
token_read text from version [] end n token reads e = absurd (none-some token e)
token_read text from version (first ∷ tokens) end zero token reads e = (version, subst (IsToken text version) (same_Some first token e) reads.0.stands.2)
token_read text from version (first ∷ tokens) end (suc n) token reads e = token_read text first.end (opens_version first.kind) tokens end n token reads.1 e

-- a token takes a byte at least
tokens_within_bytes : (text : List ℕ) (from : ℕ) (version : Bool) (tokens : List Token) (end : Option Refusal) → Reads text from version tokens end → from + length tokens ≤ length text
tokens_within_bytes text from version [] None reads = omega (arith, reads.forward, reads.stands)
tokens_within_bytes text from version [] (Some refusal) reads = omega (arith, reads.forward, reads.boundary.0)
tokens_within_bytes text from version (token ∷ tokens) end reads =
    let behind = tokens_within_bytes text token.end (opens_version token.kind) tokens end reads.1 in
    omega (arith, behind, (token_forward reads.0).0)

-- a character has at most four bytes
four_bytes_each : (cs : List ℕ) → length (encodes cs) ≤ 4 * length cs
four_bytes_each [] = omega arith
four_bytes_each (c ∷ cs) = omega (arith, four_bytes_each cs, length-append (encode c) (encodes cs), length-encode c, (len_utf8_bounds c).1)

not_above : (a b : ℕ) → ¬ (b < a) → a ≤ b
not_above a b h = omega arith

name_bounded : (text : List ℕ) (version : Bool) (token : Token) → IsUtf8 text → IsToken text version token → token.kind ≡ Name → length (bytes_of text token) ≤ 4096
name_bounded text version token utf8 is e =
    let fits = subst (λ kind. ¬ (IsTooLarge (spelling_of text token) kind)) e is.fits in
    let few = not_above (length (spelling_of text token)) 1024 fits in
    let whole = encodes-chars (bytes_of text token) (IsUtf8-between text token.start token.end utf8 (omega (arith, is.ordered)) is.starts is.ends) in
    omega (arith, few, four_bytes_each (spelling_of text token), ap length whole)

-- the characters of a bit string are ASCII
bit_character : (c : ℕ) → in_numeral 2 c ≡ true → c < 128
bit_character c h = grind (arith, nat_tests)

bits_ascii : (cs : List ℕ) → IsTrue (list_all (in_numeral 2) cs) → IsAscii cs
bits_ascii [] h = IsAscii-nil
bits_ascii (c ∷ cs) h = IsAscii-cons c cs (bit_character c (and_first (in_numeral 2 c) _ h)) (bits_ascii cs (and_second (in_numeral 2 c) _ h))

bit_string_ascii : (cs body : List ℕ) → IsBitString cs body → IsAscii cs
bit_string_ascii cs body is =
    let inside = bits_ascii body (numeral_class 2 body is.bits) in
    subst IsAscii (sym is.split) (IsAscii-cons 34 (body ++ 34 ∷ []) (omega arith) (IsAscii-push body 34 inside (omega arith)))

-- what begins with a quote is a text
quote_kind : (kind : TokenKind) → AtQuote ≡ start_kind kind → kind ≡ Text
quote_kind Text e = refl
quote_kind _ e = absurd (cc)

bit_string_bounded : (text : List ℕ) (version : Bool) (token : Token) (body : List ℕ) → IsToken text version token → IsBitString (bytes_of text token) body → length (digits_of_numeral 2 body) ≤ 4096
bit_string_bounded text version token body is bits =
    let same : spelling_of text token ≡ bytes_of text token = chars-IsAscii (bytes_of text token) (bit_string_ascii (bytes_of text token) body bits) in
    let spells = subst (λ cs. Spells version cs token.kind) (same ∙ bits.split) is.spells in
    let text_kind = quote_kind token.kind (kind_start version 34 (body ++ 34 ∷ []) token.kind spells) in
    let fits = subst (λ kind. ¬ (IsTooLarge (bytes_of text token) kind)) text_kind (subst (λ cs. ¬ (IsTooLarge cs token.kind)) same is.fits) in
    not_above (length (digits_of_numeral 2 body)) 4096 (λ more. fits (body, bits, more))

-- the tokens of a text are bounded
pub tokens_bounded : (text : List ℕ) (tokens : List Token) → Tokens text (Ok tokens) → AreBounded text tokens
tokens_bounded text tokens found = record {
  few = omega (arith, tokens_within_bytes text 0 false tokens None found.1);
  spans = λ n token e. let is = (token_read text 0 false tokens None n token found.1 e).1 in (is.ordered, is.ends.0);
  names = λ n token e name. let is = token_read text 0 false tokens None n token found.1 e in name_bounded text is.0 token found.0 is.1 name;
  bit_strings = λ n token body e bits. let is = token_read text 0 false tokens None n token found.1 e in bit_string_bounded text is.0 token body is.1 bits;
}
