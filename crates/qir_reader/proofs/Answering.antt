-- The tokens of a text as the cursor needs them, and what the answer of a whole list of tokens says of the text.
use Rattle.std.proofs.Common.{◌≡◌, inr, ℕ, ◌<◌, ◌≤◌, ◌^◌, List, [], ◌∷◌, length, map, Result, Ok, Err, subst, arith}
use Rattle.std.specs.List.{AllByRecursion}
use Rattle.std.proofs.lemmas.List.{length-map}
use Rattle.qir_module.specs.Module.{Module, IsShaped}
use Rattle.qir_module.specs.Tokens.{Token, IsToken, Tokens}
use Rattle.qir_module.specs.Spoilt.{IsAnswer}
use Rattle.qir_module.specs.Reader.{answer}
use Rattle.qir_lexer.specs.declared.token.QirToken.{QirToken}
use Rattle.qir_lexer.specs.declared.rule.TextFault.{TextFault}
use Rattle.qir_lexer.specs.declared.rule.TextFault.TheVariants.{Memory, Refused}
use Rattle.qir_lexer.specs.Seen.{token_of, tokens_of}
use Rattle.qir_reader.specs.Inside.{AreTokens}
use Rattle.qir_reader.specs.Answered.{IsRead}
use Rattle.qir_reader.specs.Whole.{Answers}
use Rattle.qir_reader.proofs.Sound.{Stand, tokens_stand, tokens_fit, read_shaped}

each_stands : (text : List ℕ) (xs : List QirToken) → AllByRecursion (IsToken text) (map (token_of text) xs) → AreTokens text xs
each_stands text [] h = tt
each_stands text (x ∷ xs) h = (h.0, each_stands text xs h.1)

stand : (text : List ℕ) (xs : List QirToken) → Tokens text (Ok (tokens_of text xs)) → Stand text 0 (tokens_of text xs)
stand text xs h = tokens_stand text 0 (tokens_of text xs) h

pub are_tokens : (text : List ℕ) (xs : List QirToken) → Tokens text (Ok (tokens_of text xs)) → AreTokens text xs
are_tokens text xs h = each_stands text xs (stand text xs h).each

pub are_few : (text : List ℕ) (xs : List QirToken) → length text ≤ 1073741824 → Tokens text (Ok (tokens_of text xs)) → length xs < 2 ^ 32
are_few text xs few h = omega (arith, few, (stand text xs h).few, length-map xs (token_of text))

pub is_shaped : (text : List ℕ) (xs : List QirToken) → length text ≤ 1073741824 → Tokens text (Ok (tokens_of text xs)) → (m : Module) → answer text (tokens_of text xs) ≡ Ok m → IsShaped m
is_shaped text xs few h m e =
    let below : length text < 2 ^ 32 = omega (arith, few) in
    read_shaped text (tokens_of text xs) m (tokens_fit text (tokens_of text xs) below (stand text xs h)) e

-- what is answered of the tokens of a text is said of the text
pub answered : (text : List ℕ) (tokens : List Token) (result : Result Module TextFault) → Tokens text (Ok tokens) → IsAnswer text tokens (answer text tokens) → Answers (answer text tokens) result → IsRead text result
answered text tokens (Ok m) t a e = (tokens, t, subst (IsAnswer text tokens) e a)
answered text tokens (Err (Refused f)) t a e = inr (tokens, t, subst (IsAnswer text tokens) e a)
answered text tokens (Err Memory) t a e = tt
