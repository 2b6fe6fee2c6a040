-- A bit string, character by character.
use Rattle.std.proofs.Common.{◌≡◌, ℕ, zero, suc, ◌+◌, ◌≤◌, ◌<◌, Bool, true, false, List, [], ◌∷◌, length, drop, get_or, Option, Some, None, refl, sym, ap, ◌∙◌, drop-cons, add-one, arith}
use Rattle.std.specs.Prelude.{◌==◌}
use Rattle.std.proofs.lemmas.Bool.{eq-eqb, ne_eqb}
use Rattle.grammar_parts.specs.Kinds.{is_some}
use Rattle.qasm_expr.specs.TokenKinds.{with_bit, bits_from}

some_with : (b : Bool) (o : Option (List Bool)) → is_some (with_bit b o) ≡ is_some o
some_with b None = refl
some_with b (Some bits) = refl

-- the characters from a place on
abbrev pub left : Bool → List ℕ → ℕ → Bool
left digit s at' = is_some (bits_from digit (drop at' s))

next : (s : List ℕ) (n : ℕ) → n < length s → drop n s ≡ get_or s n 0 ∷ drop (n + 1) s
next s n lt = rw (add-one, drop-cons s n 0) refl

module _ (s : List ℕ) (n c : ℕ) (lt : n < length s) (is : c ≡ get_or s n 0) where
  here : (digit : Bool) → left digit s n ≡ is_some (bits_from digit (c ∷ drop (n + 1) s))
  here digit = ap (λ l. is_some (bits_from digit l)) (next s n lt ∙ ap (λ x. x ∷ drop (n + 1) s) (sym is))

  pub left_zero : (digit : Bool) → c ≡ 48 → left digit s n ≡ left false s (n + 1)
  left_zero digit e = here digit ∙ rw (eq-eqb c 48 e) (some_with false (bits_from false (drop (n + 1) s)))

  pub left_one : (digit : Bool) → c ≡ 49 → left digit s n ≡ left false s (n + 1)
  left_one digit e =
      let other : (c == 48) ≡ false = ne_eqb c 48 (λ h. absurd (omega arith)) in
      here digit ∙ rw (other, eq-eqb c 49 e) (some_with true (bits_from false (drop (n + 1) s)))

  module _ (no_zero : c ≡ 48 → ⊥) (no_one : c ≡ 49 → ⊥) where
    pub left_none : left true s n ≡ false
    left_none = here true ∙ rw (ne_eqb c 48 no_zero, ne_eqb c 49 no_one) refl

    pub left_line : c ≡ 95 → left false s n ≡ left true s (n + 1)
    left_line e = here false ∙ rw (ne_eqb c 48 no_zero, ne_eqb c 49 no_one, eq-eqb c 95 e) refl

    pub left_other : (c ≡ 95 → ⊥) → (c ≡ 34 → ⊥) → left false s n ≡ false
    left_other no_line no_quote = here false ∙ rw (ne_eqb c 48 no_zero, ne_eqb c 49 no_one, ne_eqb c 95 no_line, ne_eqb c 34 no_quote) refl

pub left_end : (digit : Bool) (s : List ℕ) (n : ℕ) → length s ≤ n → left digit s n ≡ false
left_end digit [] zero le = refl
left_end digit [] (suc n) le = refl
left_end digit (x ∷ s) zero le = absurd (omega arith)
left_end digit (x ∷ s) (suc n) le = left_end digit s n (omega arith)
