-- What is left of the tokens, and what is seen of the next one.
use Rattle.std.proofs.Common.{◌≡◌, ℕ, ◌+◌, List, [], ◌∷◌, map, drop, Option, Some, sym, ap, ◌∙◌}
use Rattle.std.proofs.lemmas.List.{drop-map, drop-drop}
use Rattle.qir_module.specs.Tokens.{TokenKind, Token}
use Rattle.qir_lexer.specs.Seen.{kind_of, token_of}
use Rattle.qir_lexer.specs.declared.token.QirToken.{QirToken}
use Rattle.qir_reader.specs.Inside.{left_from}
use Rattle.qir_reader.specs.Seen.{Peeks, first_by}
use Rattle.qir_reader.specs.declared.peek.Next.{Next}

-- what is left behind one token more
pub left_on : (text : List ℕ) (tokens : List QirToken) (position : ℕ) → left_from text tokens (position + 1) ≡ drop 1 (left_from text tokens position)
left_on text tokens position =
    ap (map (token_of text)) (sym (drop-drop 1 position tokens)) ∙ sym (drop-map (token_of text) 1 (drop position tokens))

-- what a test has for the next token
pub first_seen : {A : Type 0} (test : TokenKind → Option A) (ts : List Token) (next : Next) → Peeks ts (Some next)
    → first_by (λ t. test t.kind) ts ≡ test (kind_of next.spelling.now next.kind)
first_seen test [] next seen = absurd seen
first_seen test (t ∷ ts) next seen = ap test seen.kind
