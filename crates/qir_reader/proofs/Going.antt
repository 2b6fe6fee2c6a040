-- Loops that read item by item: what was read so far stands in front of what is still to be read.
use Rattle.std.proofs.Common.{◌≡◌, ℕ, suc, ◌+◌, ◌-◌, ◌<◌, ◌≤◌, Bool, true, false, List, [], ◌∷◌, ◌++◌, Ok, Err, sym, ap, ◌∙◌, arith, append-nil}
use Rattle.grammar_parts.specs.Reading.{Refusal, Outcome, Reader, heads, take_many}
use Rattle.qir_reader.proofs.Listing.{behind, behind_none, behind_both, many_stops, many_goes, many_fails}

behind_all : {T A : Type 0} (items : List A) (ts : List T) → behind items (Ok ([], ts)) ≡ Ok (items, ts)
behind_all items ts = ap (λ xs. Ok (xs, ts)) (append-nil items)

module _ {S T A : Type 0} (test : S → T → Bool) (r : S → Reader T A) (next : S → A → S) where
  -- these items were read, and from here on as many as the number says may be read
  pub record Going (whole : Outcome T (List A)) (n : ℕ) (s : S) (items : List A) (ts : List T) : Type 0 where
    pub is : whole ≡ behind items (take_many test r next n s ts)

  pub going_first : (n : ℕ) (s : S) (ts : List T) → Going (take_many test r next n s ts) n s [] ts
  going_first n s ts = record { is = sym (behind_none (take_many test r next n s ts)) }

  -- no item begins here
  pub going_stops : {whole : Outcome T (List A)} {n : ℕ} {s : S} {items : List A} {ts : List T} → Going whole n s items ts → heads (test s) ts ≡ false → whole ≡ Ok (items, ts)
  going_stops {whole} {n} {s} {items} {ts} g e = g.is ∙ ap (behind items) (many_stops test r next n s ts e) ∙ behind_all items ts

  -- no more may be read
  pub going_ends : {whole : Outcome T (List A)} {n i : ℕ} {s : S} {items : List A} {ts : List T} → Going whole (n - i) s items ts → n ≤ i → whole ≡ Ok (items, ts)
  going_ends {whole} {n} {i} {s} {items} {ts} g l =
      let none : n - i ≡ 0 = omega (arith, l) in
      g.is ∙ ap (λ k. behind items (take_many test r next k s ts)) none ∙ behind_all items ts

  -- an item is read
  pub going_on : {whole : Outcome T (List A)} {n i : ℕ} {s : S} {items : List A} {ts rest : List T} {a : A} → Going whole (n - i) s items ts → i < n → heads (test s) ts ≡ true → r s ts ≡ Ok (a, rest)
      → Going whole (n - (i + 1)) (next s a) (items ++ a ∷ []) rest
  going_on {whole} {n} {i} {s} {items} {ts} {rest} {a} g l seen read =
      let one : n - i ≡ suc (n - (i + 1)) = omega (arith, l) in
      record { is = g.is ∙ ap (λ k. behind items (take_many test r next k s ts)) one ∙ ap (behind items) (many_goes test r next (n - (i + 1)) s ts rest a seen read) ∙ behind_both items (a ∷ []) (take_many test r next (n - (i + 1)) (next s a) rest) }

  -- an item is not read
  pub going_fails : {whole : Outcome T (List A)} {n i : ℕ} {s : S} {items : List A} {ts : List T} {e : Refusal T} → Going whole (n - i) s items ts → i < n → heads (test s) ts ≡ true → r s ts ≡ Err e → whole ≡ Err e
  going_fails {whole} {n} {i} {s} {items} {ts} {e} g l seen read =
      let one : n - i ≡ suc (n - (i + 1)) = omega (arith, l) in
      g.is ∙ ap (λ k. behind items (take_many test r next k s ts)) one ∙ ap (behind items) (many_fails test r next (n - (i + 1)) s ts e seen read)
