-- Passages of a text: the kinds of the tokens that stand between two of its places, as the lexer's steps find them.
use Rattle.std.proofs.Common.{◌≡◌, ℕ, zero, suc, ◌+◌, ◌≤◌, List, [], ◌∷◌, ◌++◌, length, take, drop, Option, Some, None, Result, Ok, refl, ap, ◌∙◌, subst, arith}
use Rattle.std.proofs.lemmas.List.{length-drop, drop_at}
use Rattle.qq_base.specs.declared.refusal.Span.{Span}
use Rattle.qir_module.specs.Tokens.{TokenKind, Token, Breach, place_behind, first_place}
use Rattle.qir_module.specs.Lexer.{Step, Gap, Found, Fails, step_of, with_token, lexed_behind, lexed_from, lexed}
use Rattle.qir_text_tokens.specs.Signs.{kinds_of}

-- the kinds of the tokens found, and what of the text stands behind them
abbrev pub Passage : Type 0
Passage = Option (List TokenKind × List ℕ)

abbrev pub with_kind : TokenKind → Passage → Passage
with_kind kind None = None
with_kind kind (Some found) = Some (kind ∷ found.0, found.1)

-- by what stands first in the text
abbrev pub passage_by : (List ℕ → Passage) → List ℕ → Step → Passage
passage_by more text (Gap zero) = None
passage_by more text (Gap (suc n)) = more (drop (suc n) text)
passage_by more text (Found kind zero) = None
passage_by more text (Found kind (suc n)) = with_kind kind (more (drop (suc n) text))
passage_by more text (Fails rule) = None

-- so many gaps and tokens of a text
abbrev pub passage_of : ℕ → List ℕ → Passage
passage_of zero text = Some ([], text)
passage_of (suc n) [] = None
passage_of (suc n) (c ∷ cs) = passage_by (passage_of n) (c ∷ cs) (step_of c cs)

-- from the text on to what stands behind, the tokens have these kinds
pub record Tokenizes (text : List ℕ) (kinds : List TokenKind) (behind : List ℕ) : Type 0 where
  pub steps : ℕ
  pub passed : passage_of steps text ≡ Some (kinds, behind)

-- what steps give that compute
pub go : (steps : ℕ) {text behind : List ℕ} {kinds : List TokenKind} → passage_of steps text ≡ Some (kinds, behind) → Tokenizes text kinds behind
go steps e = record { steps = steps; passed = e }

-- one token
pub one_token : (c : ℕ) (cs text behind : List ℕ) (kind : TokenKind) (size : ℕ) → text ≡ cs ++ behind → step_of c text ≡ Found kind size → size ≡ suc (length cs) → Tokenizes (c ∷ text) (kind ∷ []) behind
one_token c cs text behind kind size split e same = record {
  steps = 1;
  passed =
      ap (passage_by (passage_of 0) (c ∷ text)) (e ∙ ap (Found kind) same)
      ∙ ap (λ (x : List ℕ). Some (kind ∷ [], x)) (ap (drop (length cs)) split ∙ drop_at cs behind (length cs) refl);
}

-- ---- one passage behind another

abbrev after : ℕ → ℕ → ℕ
after zero k = k
after (suc j) k = suc (after j k)

same_passage : (p q : List TokenKind × List ℕ) → Some p ≡ Some q → (p.0 ≡ q.0) × (p.1 ≡ q.1)
same_passage p q e = let same : p ≡ q = cc in (ap (λ x. x.0) same, ap (λ x. x.1) same)

passages_joined : (j k : ℕ) (text mid rest : List ℕ) (ks ls : List TokenKind) → passage_of j text ≡ Some (ks, mid) → passage_of k mid ≡ Some (ls, rest) → passage_of (after j k) text ≡ Some (ks ++ ls, rest)
passages_joined zero k text mid rest ks ls e f =
    let same = same_passage ([], text) (ks, mid) e in
    ap (passage_of k) same.1 ∙ f ∙ ap (λ (x : List TokenKind). Some (x ++ ls, rest)) same.0
passages_joined (suc j) k [] mid rest ks ls e f = absurd (cc)
passages_joined (suc j) k (c ∷ cs) mid rest ks ls e f = by_step (λ xs ys h. passages_joined j k ys mid rest xs ls h f) (step_of c cs) e
  where
    kept : (kind : TokenKind) (more : Passage) (other : Passage) → ((xs : List TokenKind) → more ≡ Some (xs, mid) → other ≡ Some (xs ++ ls, rest)) → with_kind kind more ≡ Some (ks, mid) → with_kind kind other ≡ Some (ks ++ ls, rest)
    kept kind None other h e = absurd (cc)
    kept kind (Some (xs, ys)) other h e =
        let same = same_passage (kind ∷ xs, ys) (ks, mid) e in
        ap (with_kind kind) (h xs (ap (λ (y : List ℕ). Some (xs, y)) same.1)) ∙ ap (λ (x : List TokenKind). Some (x ++ ls, rest)) same.0

    by_step : ((xs : List TokenKind) (ys : List ℕ) → passage_of j ys ≡ Some (xs, mid) → passage_of (after j k) ys ≡ Some (xs ++ ls, rest)) → (s : Step) → passage_by (passage_of j) (c ∷ cs) s ≡ Some (ks, mid) → passage_by (passage_of (after j k)) (c ∷ cs) s ≡ Some (ks ++ ls, rest)
    by_step h (Gap zero) e = absurd (cc)
    by_step h (Gap (suc n)) e = h ks (drop n cs) e
    by_step h (Found kind zero) e = absurd (cc)
    by_step h (Found kind (suc n)) e = kept kind (passage_of j (drop n cs)) (passage_of (after j k) (drop n cs)) (λ xs. h xs (drop n cs)) e
    by_step h (Fails rule) e = absurd (cc)

infixr 10 ◌▷◌
pub ◌▷◌ : {text mid behind : List ℕ} {ks ls : List TokenKind} → Tokenizes text ks mid → Tokenizes mid ls behind → Tokenizes text (ks ++ ls) behind
◌▷◌ {text} {mid} {behind} {ks} {ls} x y = record { steps = after x.steps y.steps; passed = passages_joined x.steps y.steps text mid behind ks ls x.passed y.passed }

-- ---- a passage over a whole text

-- the lexer finds tokens of these kinds
pub record Lexes (out : Result (List Token) Breach) (kinds : List TokenKind) : Type 0 where
  pub tokens : List Token
  pub found : out ≡ Ok tokens
  pub kinds_are : kinds_of tokens ≡ kinds

lexed_empty : (n start : ℕ) (at : Span) → lexed_from n start at [] ≡ Ok []
lexed_empty zero start at = refl
lexed_empty (suc n) start at = refl

shorter : (n s : ℕ) (cs : List ℕ) → suc (length cs) ≤ suc n → length (drop s cs) ≤ n
shorter n s cs h = omega (arith, length-drop s cs)

with_token_found : (x : Token) (out : Result (List Token) Breach) (kinds : List TokenKind) → Lexes out kinds → Lexes (with_token x out) (x.kind ∷ kinds)
with_token_found x out kinds l = record { tokens = x ∷ l.tokens; found = ap (with_token x) l.found; kinds_are = ap (λ ks. x.kind ∷ ks) l.kinds_are }

cons_not_nil : (c : ℕ) (cs : List ℕ) → c ∷ cs ≡ [] → ⊥
cons_not_nil c cs e = cc

passage_lexed : (k n start : ℕ) (at : Span) (text : List ℕ) (kinds : List TokenKind) → length text ≤ n → passage_of k text ≡ Some (kinds, []) → Lexes (lexed_from n start at text) kinds
passage_lexed zero n start at [] kinds h e =
    let same = same_passage ([], []) (kinds, []) e in
    record { tokens = []; found = lexed_empty n start at; kinds_are = same.0 }
passage_lexed zero n start at (c ∷ cs) kinds h e = absurd (cons_not_nil c cs (same_passage ([], c ∷ cs) (kinds, []) e).1)
passage_lexed (suc k) n start at [] kinds h e = absurd (cc)
passage_lexed (suc k) zero start at (c ∷ cs) kinds h e = absurd (omega arith)
passage_lexed (suc k) (suc n) start at (c ∷ cs) kinds h e = by_step (λ xs start at ks. passage_lexed k n start at xs ks) (step_of c cs) e
  where
    rest : ℕ → Result (List Token) Breach
    rest size = lexed_from n (start + size) (place_behind at (take size (c ∷ cs))) (drop size (c ∷ cs))

    kept : (kind : TokenKind) (s : ℕ) (more : Passage) (out : Result (List Token) Breach) → ((ks : List TokenKind) → more ≡ Some (ks, []) → Lexes out ks) → with_kind kind more ≡ Some (kinds, []) → Lexes (with_token (record { kind = kind; start = start; end = start + s; at = at }) out) kinds
    kept kind s None out h e = absurd (cc)
    kept kind s (Some (xs, ys)) out h e =
        let same = same_passage (kind ∷ xs, ys) (kinds, []) e in
        subst (Lexes (with_token (record { kind = kind; start = start; end = start + s; at = at }) out)) same.0
        (with_token_found _ out xs (h xs (ap (λ (y : List ℕ). Some (xs, y)) same.1)))

    by_step : ((xs : List ℕ) (start : ℕ) (at : Span) (ks : List TokenKind) → length xs ≤ n → passage_of k xs ≡ Some (ks, []) → Lexes (lexed_from n start at xs) ks) → (s : Step) → passage_by (passage_of k) (c ∷ cs) s ≡ Some (kinds, []) → Lexes (lexed_behind (λ size. lexed_from n (start + size) (place_behind at (take size (c ∷ cs))) (drop size (c ∷ cs))) start at s) kinds
    by_step f (Gap zero) e = absurd (cc)
    by_step f (Gap (suc s)) e = f (drop s cs) _ _ kinds (shorter n s cs h) e
    by_step f (Found kind zero) e = absurd (cc)
    by_step f (Found kind (suc s)) e = kept kind (suc s) (passage_of k (drop s cs)) (rest (suc s)) (λ ks g. f (drop s cs) _ _ ks (shorter n s cs h) g) e
    by_step f (Fails rule) e = absurd (cc)

-- the tokens of a text that is read to its end
pub tokenized_lexed : (text : List ℕ) (kinds : List TokenKind) → Tokenizes text kinds [] → Lexes (lexed text) kinds
tokenized_lexed text kinds p = passage_lexed p.steps (length text) 0 first_place text kinds (omega arith) p.passed
