-- The text that may be included, and the version of a program.
use Rattle.std.proofs.Common.{◌≡◌, ℕ, zero, suc, ◌<◌, ◌++◌, ◌||◌, Bool, true, false, cond, List, [], ◌∷◌, length, take, get_or, Some, None, refl, sym, ap, ◌∙◌, arith}
use Rattle.std.specs.Prelude.{◌==◌, ◌&&◌, codes, nat_eq}
use Rattle.std.specs.Cmp.Lexicographic.{pointwise}
use Rattle.qasm_lexer.specs.declared.token.Token.{Token}
use Rattle.qasm_lexer.specs.declared.token.TokenKind.{TokenKind}
use Rattle.qasm_lexer.specs.declared.token.TokenKind.TheVariants as t
use Rattle.qasm_lexer.specs.Sizes.{bytes_of}
use Rattle.qasm_grammar.specs.Parts.{same, is_stdgates, included, included_at, version_of, version_at}
use Rattle.qasm_grammar.specs.Answer.{ends_in}
use Rattle.program_parser.specs.Refusing.{is_text, is_version}

-- both compare two lists head by head
same_is : (xs ys : List ℕ) → pointwise nat_eq xs ys ≡ same xs ys
same_is [] [] = refl
same_is [] (y ∷ ys) = refl
same_is (x ∷ xs) [] = refl
same_is (x ∷ xs) (y ∷ ys) = ap (λ b. (x == y) && b) (same_is xs ys)

pub either_quote : (cs single : List ℕ) (r : Bool) → single ≡ (39 ∷ []) ++ (codes "stdgates.inc" ++ (39 ∷ [])) → pointwise nat_eq cs ((34 ∷ []) ++ (codes "stdgates.inc" ++ (34 ∷ []))) ≡ false → r ≡ pointwise nat_eq cs single → r ≡ is_stdgates cs
either_quote cs single r h e f = f ∙ ap (pointwise nat_eq cs) h ∙ same_is cs ((39 ∷ []) ++ (codes "stdgates.inc" ++ (39 ∷ []))) ∙ ap (λ b. b || same cs ((39 ∷ []) ++ (codes "stdgates.inc" ++ (39 ∷ [])))) (sym e ∙ same_is cs ((34 ∷ []) ++ (codes "stdgates.inc" ++ (34 ∷ []))))

-- ---- the text of an include

module _ (text : List ℕ) (x : Token) where
  included_kind : (kind : TokenKind) → is_text kind ≡ true → included_at text x kind ≡ cond (is_stdgates (bytes_of text x)) (Some x) None
  included_kind t.Text h = refl
  included_kind _ h = absurd (cc)

  not_included : (kind : TokenKind) → is_text kind ≡ false → included_at text x kind ≡ None
  not_included t.Text h = absurd (cc)
  not_included _ h = refl

  pub no_text : is_text x.kind ≡ false → included text x ≡ None
  no_text h = not_included x.kind h

  module _ (b : Bool) (text_is : is_text x.kind ≡ true) (is : is_stdgates (bytes_of text x) ≡ b) where
    pub text_included : included text x ≡ cond b (Some x) None
    text_included = included_kind x.kind text_is ∙ ap (λ a. cond a (Some x) None) is

-- ---- the version

version_kind : (x : Token) (kind : TokenKind) → version_at x kind ≡ cond (is_version kind) (Some x) None
version_kind x (t.Version major minor) = refl
version_kind x _ = refl

pub version_as : (x : Token) (b : Bool) → is_version x.kind ≡ b → version_of x ≡ cond b (Some x) None
version_as x b h = version_kind x x.kind ∙ ap (λ a. cond a (Some x) None) h

-- the last of the tokens in front of a place
pub last_in : (test : TokenKind → Bool) (tokens : List Token) (n : ℕ) (d : Token) → n < length tokens → ends_in test (take (suc n) tokens) ≡ test (get_or tokens n d).kind
last_in test [] n d lt = absurd (omega arith)
last_in test (x ∷ []) zero d lt = refl
last_in test (x ∷ []) (suc n) d lt = absurd (omega arith)
last_in test (x ∷ y ∷ tokens) zero d lt = refl
last_in test (x ∷ y ∷ tokens) (suc n) d lt = last_in test (y ∷ tokens) n d (omega arith)
