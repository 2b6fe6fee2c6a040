-- A text is refused by one rule and at one place at most.
use Rattle.std.proofs.Common.{◌≡◌, ℕ, List, Some, Ok, Err, inl, inr, sym, ◌∙◌, subst, arith}
use Rattle.qq_base.specs.declared.refusal.Refusal.{Refusal}
use Rattle.qasm_lexer.specs.declared.token.Token.{Token}
use Rattle.qasm_lexer.proofs.OneRun.{one_reading}
use Rattle.qasm_grammar.specs.Stops.{IsRefused as AreRefused}
use Rattle.qasm_grammar.proofs.Refusals.{one_refusal}
use Rattle.qq_tool.specs.Refused.{BreaksRule, IsRefused}
use Rattle.qq_tool.proofs.ThinPrograms.{programs_break_none}

one_rule : (bytes : List ℕ) (a b : Refusal) → BreaksRule bytes a → BreaksRule bytes b → a ≡ b
one_rule bytes a b (inl x) (inl y) = let same = one_reading bytes (Err a) (Err b) x y in cc
one_rule bytes a b (inl x) (inr (tokens, lexed, refused)) = let same = one_reading bytes (Err a) (Ok tokens) x lexed in absurd cc
one_rule bytes a b (inr (tokens, lexed, refused)) (inl y) = let same = one_reading bytes (Ok tokens) (Err b) lexed y in absurd cc
one_rule bytes a b (inr (tokens, lexed, refused)) (inr (others, other_lexed, other_refused)) =
    let same = one_reading bytes (Ok tokens) (Ok others) lexed other_lexed in
    let alike : tokens ≡ others = cc in
    one_refusal bytes (Some 64) 64 others a b (subst (λ (ts : List Token). AreRefused bytes (Some 64) 64 ts a) alike refused) other_refused

pub refused_once : (bytes : List ℕ) (a b : Refusal) → IsRefused bytes a → IsRefused bytes b → a ≡ b
refused_once bytes a b (inl x) (inl y) = x.1 ∙ sym y.1
refused_once bytes a b (inl x) (inr y) = absurd (omega (arith, x.0, y.0))
refused_once bytes a b (inr x) (inl y) = absurd (omega (arith, x.0, y.0))
refused_once bytes a b (inr (few, inl x)) (inr (few', inl y)) = one_rule bytes a b x y
refused_once bytes a b (inr (few, inl x)) (inr (few', inr y)) = absurd (programs_break_none bytes a y.0 x)
refused_once bytes a b (inr (few, inr x)) (inr (few', inl y)) = absurd (programs_break_none bytes b x.0 y)
refused_once bytes a b (inr (few, inr x)) (inr (few', inr y)) = x.2 ∙ sym y.2
