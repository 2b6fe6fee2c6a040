-- Serves private contracts: what a cursor keeps.
use Rattle.std.specs.Prelude.{◌≡◌, ℕ, ◌≤◌, ◌<◌, ◌^◌, List, length, drop, map}
use Rattle.std.specs.List.{AllByRecursion}
use Rattle.qir_module.specs.Tokens.{Token, IsToken}
use Rattle.qir_lexer.specs.Seen.{token_of}
use Rattle.qir_lexer.specs.declared.token.QirToken.{QirToken}
use Rattle.qir_reader.specs.Seen.{head_kind}
use Rattle.qir_reader.specs.declared.cursor.Cursor.TheInside.{Inside}

-- the tokens stand in the text
abbrev pub AreTokens : List ℕ → List QirToken → Type 0
AreTokens text tokens = AllByRecursion (λ t. IsToken text (token_of text t)) tokens

-- the tokens from a place of the list on, as the definitions see them
abbrev pub left_from : List ℕ → List QirToken → ℕ → List Token
left_from text tokens position = map (token_of text) (drop position tokens)

abbrev pub left_of : Inside → List Token
left_of c = left_from c.text.now c.tokens.now c.position

pub record IsReady (c : Inside) : Type 0 where
  pub within : c.position ≤ length c.tokens.now
  pub few : length c.tokens.now < 2 ^ 32
  pub sound : AreTokens c.text.now c.tokens.now
  pub class : c.class ≡ head_kind (left_of c)
