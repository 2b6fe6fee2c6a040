-- The run of the lexer: the tokens so far, and what stands behind them.
use Rattle.std.proofs.Common.{◌≡◌, ℕ, ◌+◌, ◌-◌, ◌<◌, ◌≤◌, ◌^◌, Bool, false, List, [], ◌∷◌, ◌++◌, length, take, drop, IsUtf8, Option, None, Some, Ok, Err, sym, refl, ap, ◌∙◌, subst, arith, append_assoc, zero, suc, inl, not}
use Rattle.std.specs.Prelude.{if◌then◌else◌}
use Rattle.std.specs.Str.{chars, IsCharBoundary}
use Rattle.std.proofs.lemmas.Str.{chars-append, chars-nil, IsUtf8-take, IsCharBoundary-start}
use Rattle.std.proofs.lemmas.List.{append-nil}
use Rattle.qq_base.specs.declared.refusal.Span.{Span}
use Rattle.qq_base.specs.declared.refusal.Refusal.{Refusal}
use Rattle.qasm_lexer.specs.Tokens.{place_behind, place_of, first_place, IsToken, IsNext, Reads, Tokens, opens_version}
use Rattle.qasm_lexer.specs.declared.token.Token.{Token}
use Rattle.qasm_lexer.proofs.Places.{place-append, place_small}

-- behind these tokens the reading goes on from here
pub record SoFar (text : List ℕ) (from : ℕ) (at : Span) (version : Bool) (tokens : List Token) : Type 0 where
  pub boundary : IsCharBoundary text from
  pub place : at ≡ place_of text from
  pub goes_on : (rest : List Token) (end : Option Refusal) → Reads text from version rest end → Reads text 0 false (tokens ++ rest) end

pub at_start : (text : List ℕ) (tokens : List Token) → IsUtf8 text → tokens ≡ [] → SoFar text 0 first_place false tokens
at_start text tokens utf8 none = record {
  boundary = IsCharBoundary-start text utf8;
  place = ap (place_behind first_place) (sym chars-nil);
  goes_on = λ rest end reads. subst (λ t. Reads text 0 false (t ++ rest) end) (sym none) reads;
}

token_at : {text : List ℕ} {from : ℕ} {version : Bool} {token : Token} → IsNext text from version (Ok (Some token)) → IsToken text version token
token_at next = next.stands.2

-- a token is behind what came before, and within the text
pub token_forward : {text : List ℕ} {from : ℕ} {version : Bool} {token : Token} → IsNext text from version (Ok (Some token)) → (from < token.end) × (token.start ≤ token.end) × (token.end ≤ length text)
token_forward next = (omega (arith, next.forward, next.stands.0, next.stands.2.ordered), omega (arith, next.stands.2.ordered), next.stands.2.ends.0)

pub token_starts : {text : List ℕ} {from : ℕ} {version : Bool} {token : Token} → IsNext text from version (Ok (Some token)) → IsCharBoundary text token.start
token_starts next = next.stands.2.starts

pub token_ends : {text : List ℕ} {from : ℕ} {version : Bool} {token : Token} → IsNext text from version (Ok (Some token)) → IsCharBoundary text token.end
token_ends next = next.stands.2.ends

-- its place has room
pub token_room : {text : List ℕ} {from : ℕ} {version : Bool} {token : Token} (n : ℕ) → IsNext text from version (Ok (Some token)) → IsUtf8 text → length text ≤ 4194304 → n + token.start ≡ token.end → (token.at.line + n < 2 ^ 32) × (token.at.column + n < 2 ^ 32)
token_room {text} {from} {version} {token} n next utf8 few e =
    let small = place_small text token.start utf8 next.stands.2.starts in
    let p = next.stands.2.place in
    (omega (arith, small.0, ap (λ x. x.line) p, few, e, next.stands.2.ends.0), omega (arith, small.1, ap (λ x. x.column) p, few, e, next.stands.2.ends.0))

take_nil : (n : ℕ) → take n (let none : List ℕ = [] in none) ≡ []
take_nil zero = refl
take_nil (suc n) = refl

take_parts : (i j : ℕ) (xs : List ℕ) → i ≤ j → take j xs ≡ take i xs ++ take (j - i) (drop i xs)
take_parts zero j xs h = ap (λ n. take n xs) (omega arith)
take_parts (suc i) zero xs h = absurd (omega arith)
take_parts (suc i) (suc j) [] h = sym (take_nil (suc j - suc i))
take_parts (suc i) (suc j) (x ∷ xs) h =
    ap (λ l. x ∷ l) (take_parts i j xs (omega arith)) ∙ ap (λ n. x ∷ take i xs ++ take n (drop i xs)) (less i j)
  where
    less : (i j : ℕ) → j - i ≡ suc j - suc i
    less i j = omega arith

-- the place behind a token
pub token_place : {text : List ℕ} {from : ℕ} {version : Bool} {token : Token} (slice : List ℕ) (at : Span) → IsNext text from version (Ok (Some token)) → IsUtf8 text → slice ≡ take (token.end - token.start) (drop token.start text) → at ≡ place_behind token.at (chars slice) → at ≡ place_of text token.end
token_place {text} {from} {version} {token} slice at next utf8 e p =
    let token_is = next.stands.2 in
    p ∙ ap (λ x. place_behind x (chars slice)) token_is.place ∙ sym (place-append first_place (chars (take token.start text)) (chars slice))
    ∙ ap (place_behind first_place) (sym (chars-append (take token.start text) slice (IsUtf8-take text token.start utf8 token_is.starts)))
    ∙ ap (λ x. place_behind first_place (chars x)) (ap (λ s. take token.start text ++ s) e ∙ sym (take_parts token.start token.end text (omega (arith, token_is.ordered))))

-- one token more
pub one_token_more : {text : List ℕ} {from : ℕ} {at : Span} {version : Bool} {tokens : List Token} (token : Token) (at_end : Span) (version_next : Bool) (more : List Token) → SoFar text from at version tokens → IsNext text from version (Ok (Some token)) → at_end ≡ place_of text token.end → version_next ≡ opens_version token.kind → more ≡ tokens ++ token ∷ [] → SoFar text token.end at_end version_next more
one_token_more {text} {from} {at} {version} {tokens} token at_end version_next more before next p v m = record {
  boundary = next.stands.2.ends;
  place = p;
  goes_on = λ rest end reads.
      subst (λ t. Reads text 0 false t end) (sym (ap (λ x. x ++ rest) m ∙ append_assoc tokens (token ∷ []) rest))
      (before.goes_on (token ∷ rest) end (next, subst (λ b. Reads text token.end b rest end) v reads));
}

pub all_tokens : {text : List ℕ} {from : ℕ} {at : Span} {version : Bool} {tokens : List Token} → SoFar text from at version tokens → IsNext text from version (Ok None) → Reads text 0 false tokens None
all_tokens {text} {tokens = tokens} before next = subst (λ t. Reads text 0 false t None) (append-nil tokens) (before.goes_on [] None next)

pub refused_there : {text : List ℕ} {from : ℕ} {at : Span} {version : Bool} {tokens : List Token} {refusal : Refusal} → SoFar text from at version tokens → IsNext text from version (Err refusal) → Reads text 0 false (tokens ++ []) (Some refusal)
refused_there {refusal = refusal} before next = before.goes_on [] (Some refusal) next

-- the reading of the source is that of the bytes
pub gives_all : {source bytes : List ℕ} (tokens : List Token) → source ≡ bytes → IsUtf8 bytes → Reads source 0 false tokens None → Tokens bytes (Ok tokens)
gives_all {source} {bytes} tokens e utf8 reads = (utf8, subst (λ x. Reads x 0 false tokens None) e reads)

pub gives_refusal : {source bytes : List ℕ} (tokens : List Token) {refusal : Refusal} → source ≡ bytes → IsUtf8 bytes → Reads source 0 false tokens (Some refusal) → Tokens bytes (Err refusal)
gives_refusal {source} {bytes} tokens {refusal} e utf8 reads = inl (tokens, utf8, subst (λ x. Reads x 0 false tokens (Some refusal)) e reads)

-- what a push that worked leaves
pub pushed : (before after : List Token) (token : Token) (ok failed : Bool) → after ≡ (if ok then before ++ token ∷ [] else before) → ok ≡ not failed → failed ≡ false → after ≡ before ++ token ∷ []
pushed before after token ok failed e n h = e ∙ ap (λ b. if b then before ++ token ∷ [] else before) (n ∙ ap not h)

-- the token of a step
pub some_token : {text : List ℕ} {from : ℕ} {version : Bool} (found : Option Token) (token : Token) → found ≡ Some token → IsNext text from version (Ok found) → IsNext text from version (Ok (Some token))
some_token {text} {from} {version} found token e next = subst (λ r. IsNext text from version (Ok r)) e next
