-- The text that may be included, and its token.
use Rattle.std.proofs.Common.{◌≡◌, inl, inr, ℕ, ◌+◌, ◌<◌, ◌++◌, ◌||◌, true, false, cond, List, [], ◌∷◌, length, drop, get_or, Some, None, Ok, Bool, refl, sym, ap, ◌∙◌, arith}
use Rattle.std.specs.Prelude.{◌==◌, ◌&&◌, codes, nat_eq}
use Rattle.std.specs.Cmp.Lexicographic.{pointwise}
use Rattle.qasm_lexer.specs.declared.token.Token.{Token}
use Rattle.qasm_lexer.specs.declared.token.TokenKind.TheVariants as t
use Rattle.grammar_parts.specs.Reading.{take_one, taken}
use Rattle.qasm_lexer.specs.Sizes.{bytes_of}
use Rattle.qasm_expr.proofs.Places.{Split, split_at}
use Rattle.qasm_expr.proofs.Units.{token_is}
use Rattle.qasm_grammar.specs.Parts.{same, is_stdgates, included, included_at}

-- both compare two lists head by head
pub same_is : (xs ys : List ℕ) → pointwise nat_eq xs ys ≡ same xs ys
same_is [] [] = refl
same_is [] (y ∷ ys) = refl
same_is (x ∷ xs) [] = refl
same_is (x ∷ xs) (y ∷ ys) = ap (λ b. (x == y) && b) (same_is xs ys)

pub either_quote : (cs single : List ℕ) (r : Bool) → single ≡ (39 ∷ []) ++ (codes "stdgates.inc" ++ (39 ∷ [])) → pointwise nat_eq cs ((34 ∷ []) ++ (codes "stdgates.inc" ++ (34 ∷ []))) ≡ false → r ≡ pointwise nat_eq cs single → r ≡ is_stdgates cs
either_quote cs single r h e f = f ∙ ap (pointwise nat_eq cs) h ∙ same_is cs ((39 ∷ []) ++ (codes "stdgates.inc" ++ (39 ∷ []))) ∙ ap (λ b. b || same cs ((39 ∷ []) ++ (codes "stdgates.inc" ++ (39 ∷ [])))) (sym e ∙ same_is cs ((34 ∷ []) ++ (codes "stdgates.inc" ++ (34 ∷ []))))

pub text_taken : (text : List ℕ) (tokens : List Token) (from : ℕ) (d : Token) → from < length tokens → (get_or tokens from d).kind ≡ t.Text → is_stdgates (bytes_of text (get_or tokens from d)) ≡ true → take_one (included text) (drop from tokens) ≡ Ok (get_or tokens from d, drop (from + 1) tokens)
text_taken text tokens from d lt k h = at_split (split_at tokens from (omega arith))
  where
    x : Token
    x = get_or tokens from d

    there : included text x ≡ Some x
    there = ap (included_at text x) k ∙ ap (λ b. cond b (Some x) None) h

    at_split : Split tokens from → take_one (included text) (drop from tokens) ≡ Ok (x, drop (from + 1) tokens)
    at_split (inl e) = absurd (omega (arith, e.1))
    at_split (inr e) =
        ap (take_one (included text)) (e.1 ∙ ap (λ y. y ∷ drop (from + 1) tokens) (sym (token_is tokens from d e.0 (drop (from + 1) tokens) e.1)))
        ∙ ap (taken x (drop (from + 1) tokens)) there
