-- Single tokens at places in the list of tokens.
use Rattle.std.proofs.Common.{◌≡◌, ◌⊎◌, inl, inr, ℕ, zero, suc, ◌+◌, ◌≤◌, ◌<◌, Bool, true, false, ◌||◌, cond, List, [], ◌∷◌, length, drop, Some, None, Result, Ok, Err, refl, sym, ap, ◌∙◌, arith}
use Rattle.std.specs.Prelude.{◌==◌}
use Rattle.std.proofs.lemmas.Bool.{eqb-true, ne_eqb}
use Rattle.qasm_lexer.specs.declared.token.Token.{Token}
use Rattle.qasm_lexer.specs.declared.token.Mark.{Mark}
use Rattle.qasm_lexer.specs.declared.token.Mark.TheVariants as m
use Rattle.grammar_parts.specs.Reading.{Outcome, syntax, deep, taken, take_never, heads}
use Rattle.grammar_parts.specs.Kinds.{has, among, marked, take_mark, by, is_some}
use Rattle.qasm_expr.specs.declared.stop.Stop.{Stop}
use Rattle.qasm_expr.specs.declared.stop.Stop.TheVariants as s
use Rattle.qasm_expr.specs.TokenKinds.{mark_kind, kind}
use Rattle.qasm_expr.specs.Reader.{read_sign, read_opener}
use Rattle.qasm_expr.specs.Seen.{Passes, head_kind}

-- ---- cutting the list at a place

abbrev pub Split : {T : Type 0} → List T → ℕ → Type 0
Split {T} xs n = ((drop n xs ≡ []) × (n ≡ length xs)) ⊎ ((x : T) × (drop n xs ≡ x ∷ drop (n + 1) xs) × (n + 1 ≤ length xs))

split_suc : {T : Type 0} (x : T) (xs : List T) (n : ℕ) → Split xs n → Split (x ∷ xs) (suc n)
split_suc x xs n (inl h) = inl (h.0, omega (arith, h.1))
split_suc x xs n (inr h) = let e : suc n + 1 ≡ suc (n + 1) = omega arith in inr (h.0, h.1 ∙ ap (λ k. h.0 ∷ drop k (x ∷ xs)) (sym e), omega (arith, h.2))

pub split_at : {T : Type 0} (xs : List T) (n : ℕ) → n ≤ length xs → Split xs n
split_at [] zero le = inl (refl, refl)
split_at [] (suc n) le = absurd (omega arith)
split_at (x ∷ xs) zero le = inr (x, refl, omega arith)
split_at (x ∷ xs) (suc n) le = split_suc x xs n (split_at xs n (omega arith))

pub mark_positive : (x : Mark) → 0 < mark_kind x
mark_positive m.Semicolon = omega arith
mark_positive _ = omega arith

module _ (text : List ℕ) where
  -- ---- the kind of the first token

  -- a set without 0 has the kind of the first token exactly where the first token is in it
  pub heads_among : (set : List ℕ) (ts : List Token) → has set 0 ≡ false → heads (among (kind text) set) ts ≡ has set (head_kind text ts)
  heads_among set [] e = sym e
  heads_among set (x ∷ ts) e = refl

  pub heads_sign : (k : ℕ) (ts : List Token) (b : Bool) → 0 < k → (head_kind text ts == k) ≡ b → heads (among (kind text) (k ∷ [])) ts ≡ b
  heads_sign k [] b lt e = let z : (0 == k) ≡ false = ne_eqb 0 k (λ h. absurd (omega arith)) in sym z ∙ e
  heads_sign k (x ∷ ts) b lt e = or_false (kind text x == k) ∙ e
    where
      or_false : (c : Bool) → (c || false) ≡ c
      or_false true = refl
      or_false false = refl

  -- ---- marks

  pub mark_taken : (x : Token) (rest : List Token) (k : ℕ) (b : Bool) → (kind text x == k) ≡ b → take_mark (kind text) k (x ∷ rest) ≡ taken x rest (cond b (Some x) None)
  mark_taken x rest k b e = ap (λ c. taken x rest (cond c (Some x) None)) e

  pub sign_yes : (ts rest : List Token) (x : Token) (k : ℕ) → ts ≡ x ∷ rest → (head_kind text ts == k) ≡ true → read_sign text k ts ≡ Ok (x, rest)
  sign_yes ts rest x k e h = ap (read_sign text k) e ∙ mark_taken x rest k true (sym (ap (λ l. head_kind text l == k) e) ∙ h)

  pub sign_no : (ts : List Token) (k : ℕ) → (head_kind text ts == k) ≡ false → read_sign text k ts ≡ Err (syntax ts)
  sign_no [] k h = refl
  sign_no (x ∷ ts) k h = mark_taken x ts k false h

  pub by_marked : (x : Token) (k : ℕ) (b : Bool) → (kind text x == k) ≡ b → by (marked (kind text) k) x ≡ b
  by_marked x k true e = ap (λ c. is_some (cond c (Some x) None)) e
  by_marked x k false e = ap (λ c. is_some (cond c (Some x) None)) e

  pub shut_yes : (ts : List Token) (k : ℕ) → 0 < k → (head_kind text ts == k) ≡ true → take_never {A = Token} (by (marked (kind text) k)) ts ≡ Err (deep ts)
  shut_yes [] k lt h = let z : 0 ≡ k = eqb-true 0 k h in absurd (omega arith)
  shut_yes (x ∷ ts) k lt h = ap (λ b. cond {A = Outcome Token Token} b (Err (deep (x ∷ ts))) (Err (syntax (x ∷ ts)))) (by_marked x k true h)

  pub shut_no : (ts : List Token) (k : ℕ) → (head_kind text ts == k) ≡ false → take_never {A = Token} (by (marked (kind text) k)) ts ≡ Err (syntax ts)
  shut_no [] k h = refl
  shut_no (x ∷ ts) k h = ap (λ b. cond {A = Outcome Token Token} b (Err (deep (x ∷ ts))) (Err (syntax (x ∷ ts)))) (by_marked x k false h)

  module _ (tokens : List Token) (from k : ℕ) (lt : 0 < k) where
    pub passes_yes : from ≤ length tokens → (head_kind text (drop from tokens) == k) ≡ true → Passes tokens from (read_sign text k (drop from tokens)) (Ok (from + 1))
    passes_yes le h = at_split (split_at tokens from le)
      where
        at_split : Split tokens from → Passes tokens from (read_sign text k (drop from tokens)) (Ok (from + 1))
        at_split (inl e) = let z : 0 ≡ k = eqb-true 0 k (sym (ap (λ l. head_kind text l == k) e.0) ∙ h) in absurd (omega arith)
        at_split (inr e) = (e.0, refl, e.2, e.1, sign_yes (drop from tokens) (drop (from + 1) tokens) e.0 k e.1 h)

    pub passes_no : (head_kind text (drop from tokens) == k) ≡ false → Passes tokens from (read_sign text k (drop from tokens)) (Err (s.Syntax from))
    passes_no h = (refl, sign_no (drop from tokens) k h)

    pub opener_yes : (room : ℕ) → room ≡ 0 → (head_kind text (drop from tokens) == k) ≡ true → Passes tokens from (read_opener text room k (drop from tokens)) (Err (s.Deep from))
    opener_yes zero e h = (refl, shut_yes (drop from tokens) k lt h)
    opener_yes (suc room) e h = absurd (omega arith)

    pub opener_no : (room : ℕ) → room ≡ 0 → (head_kind text (drop from tokens) == k) ≡ false → Passes tokens from (read_opener text room k (drop from tokens)) (Err (s.Syntax from))
    opener_no zero e h = (refl, shut_no (drop from tokens) k h)
    opener_no (suc room) e h = absurd (omega arith)

    pub opener_some : (room : ℕ) (r : Result ℕ Stop) → 0 < room → Passes tokens from (read_sign text k (drop from tokens)) r → Passes tokens from (read_opener text room k (drop from tokens)) r
    opener_some zero r l h = absurd (omega arith)
    opener_some (suc room) r l h = h
