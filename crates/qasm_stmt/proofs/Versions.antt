-- The version of a program, and what stands in front of a place.
use Rattle.std.proofs.Common.{◌≡◌, inl, inr, ℕ, zero, suc, ◌+◌, ◌≤◌, ◌<◌, Bool, true, List, [], ◌∷◌, length, take, drop, get_or, Option, Ok, refl, arith}
use Rattle.qasm_lexer.specs.declared.token.Token.{Token}
use Rattle.qasm_lexer.specs.declared.token.TokenKind.{TokenKind}
use Rattle.qasm_lexer.specs.declared.token.TokenKind.TheVariants as t
use Rattle.grammar_parts.specs.Reading.{take_one}
use Rattle.qasm_expr.proofs.Places.{Split, split_at}
use Rattle.qasm_expr.proofs.Units.{token_is}
use Rattle.qasm_grammar.specs.Parts.{is_zero, version_of}
use Rattle.qasm_grammar.specs.Answer.{ends_in}

-- a token at a place, where there is one
pub record Here (tokens : List Token) (from : ℕ) (d : Token) : Type 0 where
  pub token : Token
  pub here : drop from tokens ≡ token ∷ drop (from + 1) tokens
  pub inside : from + 1 ≤ length tokens
  pub is : get_or tokens from d ≡ token

pub here_at : (tokens : List Token) (from : ℕ) (d : Token) → from < length tokens → Here tokens from d
here_at tokens from d lt = found (split_at tokens from (omega arith))
  where
    found : Split tokens from → Here tokens from d
    found (inl e) = absurd (omega (arith, e.1))
    found (inr e) = record { token = e.0; here = e.1; inside = e.2; is = token_is tokens from d e.0 (drop (from + 1) tokens) e.1 }

pub version_here : (x : Token) (rest : List Token) (major : ℕ) (minor : Option ℕ) → x.kind ≡ t.Version major minor → major ≡ 3 → is_zero minor ≡ true → take_one version_of (x ∷ rest) ≡ Ok (x, rest)
version_here x rest major minor h three none = rw (h, three, none) refl

-- the last of the tokens in front of a place
pub last_in : (test : TokenKind → Bool) (tokens : List Token) (n : ℕ) (d : Token) → n < length tokens → ends_in test (take (suc n) tokens) ≡ test (get_or tokens n d).kind
last_in test [] n d lt = absurd (omega arith)
last_in test (x ∷ []) zero d lt = refl
last_in test (x ∷ []) (suc n) d lt = absurd (omega arith)
last_in test (x ∷ y ∷ tokens) zero d lt = refl
last_in test (x ∷ y ∷ tokens) (suc n) d lt = last_in test (y ∷ tokens) n d (omega arith)
