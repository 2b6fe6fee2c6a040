-- Loops over items, one at least: each goes on with a reader of its own, as behind a comma.
use Rattle.std.proofs.Common.{◌≡◌, ℕ, ◌+◌, ◌-◌, ◌<◌, ◌≤◌, Bool, true, false, List, [], ◌∷◌, ◌++◌, length, Ok, Err, refl, sym, ap, ◌∙◌, arith}
use Rattle.grammar_parts.specs.Part.{nothing_kept}
use Rattle.grammar_parts.specs.Reading.{Refusal, Outcome, Reader, done, ◌>>=◌, and_then, heads, take_many, take_repeated}
use Rattle.qir_module.specs.Tokens.{Token}
use Rattle.qir_module.specs.Reader.{◌▹◌, read_comma}
use Rattle.qir_reader.specs.Parts.{read_some}
use Rattle.qir_reader.proofs.Listing.{behind}
use Rattle.qir_reader.proofs.Going.{Going, going_stops, going_ends, going_on, going_fails}

abbrev pub kept : {A : Type 0} → Unit {0} → A → Unit {0}
kept s a = s

behind_front : {A : Type 0} (x : A) (out : Outcome Token (List A)) → and_then out (λ xs. done (x ∷ xs)) ≡ behind (x ∷ []) out
behind_front x (Ok (items, rest)) = refl
behind_front x (Err e) = refl

module _ {A : Type 0} (test : Token → Bool) (item more : Reader Token A) where
  -- these items were read of the tokens, and so many may still be read
  abbrev pub Some : List Token → ℕ → List A → List Token → Type 0
  Some old n items ts = Going (λ s. test) (λ s. more) kept (read_some test item more old) n nothing_kept items ts

  pub first_read : {old ts : List Token} {x : A} (n : ℕ) → item old ≡ Ok (x, ts) → n ≡ length ts → Some old (n - 0) (x ∷ []) ts
  first_read {old} {ts} {x} n read count =
      let all : n - 0 ≡ length ts = omega (arith, count) in
      record {
        is =
            ap (λ out. and_then out (λ y rest. and_then (take_repeated test more rest) (λ xs. done (y ∷ xs)))) read
            ∙ behind_front x (take_repeated test more ts)
            ∙ sym (ap (λ k. behind (x ∷ []) (take_many (λ s. test) (λ s. more) kept k nothing_kept ts)) all);
      }

  pub none_here : (old : List Token) {ts : List Token} {n : ℕ} {items : List A} → Some old n items ts → heads test ts ≡ false → read_some test item more old ≡ Ok (items, ts)
  none_here old g e = going_stops (λ s. test) (λ s. more) kept g e

  pub all_read : (old : List Token) {ts : List Token} {n i : ℕ} {items : List A} → Some old (n - i) items ts → n ≤ i → read_some test item more old ≡ Ok (items, ts)
  all_read old g l = going_ends (λ s. test) (λ s. more) kept g l

  pub one_more : (old : List Token) {ts rest : List Token} {n i : ℕ} {items : List A} {a : A} → Some old (n - i) items ts → i < n → heads test ts ≡ true → more ts ≡ Ok (a, rest) → Some old (n - (i + 1)) (items ++ a ∷ []) rest
  one_more old g l e read = going_on (λ s. test) (λ s. more) kept g l e read

  pub more_fails : (old : List Token) {ts : List Token} {n i : ℕ} {items : List A} {e : Refusal Token} → Some old (n - i) items ts → i < n → heads test ts ≡ true → more ts ≡ Err e → read_some test item more old ≡ Err e
  more_fails old g l s fails = going_fails (λ s. test) (λ s. more) kept g l s fails

  -- what stands behind the items
  pub some_then : {B : Type 0} (f : List A → Reader Token B) (old : List Token) → (read_some test item more >>= f) old ≡ (item >>= (λ x. take_repeated test more >>= (λ xs. f (x ∷ xs)))) old
  some_then {B} f old = outer (item old)
    where
      inner : (x : A) (out : Outcome Token (List A)) → and_then (and_then out (λ xs. done (x ∷ xs))) f ≡ and_then out (λ xs. f (x ∷ xs))
      inner x (Ok (xs, rest)) = refl
      inner x (Err e) = refl

      outer : (out : Outcome Token A) → and_then (and_then out (λ x. take_repeated test more >>= (λ xs. done (x ∷ xs)))) f ≡ and_then out (λ x. take_repeated test more >>= (λ xs. f (x ∷ xs)))
      outer (Ok (x, rest)) = inner x (take_repeated test more rest)
      outer (Err e) = refl

-- ---- behind a comma

module _ {A : Type 0} (item : Reader Token A) where
  pub both_read : (ts mid : List Token) {rest : List Token} {t : Token} {a : A} → read_comma ts ≡ Ok (t, mid) → item mid ≡ Ok (a, rest) → (read_comma ▹ item) ts ≡ Ok (a, rest)
  both_read ts mid comma read = rw (comma, read) refl

  pub comma_fails : (ts : List Token) {e : Refusal Token} → read_comma ts ≡ Err e → (read_comma ▹ item) ts ≡ Err e
  comma_fails ts comma = rw comma refl

  pub item_fails : (ts mid : List Token) {t : Token} {e : Refusal Token} → read_comma ts ≡ Ok (t, mid) → item mid ≡ Err e → (read_comma ▹ item) ts ≡ Err e
  item_fails ts mid comma fails = rw (comma, fails) refl
