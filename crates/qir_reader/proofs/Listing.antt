-- Lists that are read item by item: what stands in front of what is still to be read.
use Rattle.std.proofs.Common.{◌≡◌, ℕ, zero, suc, Bool, true, false, List, [], ◌∷◌, ◌++◌, Ok, Err, refl, sym, ap}
use Rattle.std.proofs.lemmas.List.{append_assoc}
use Rattle.grammar_parts.specs.Reading.{Refusal, Outcome, Reader, heads, and_then, take_many}

-- these items in front of what a reader answers
abbrev pub behind : {T A : Type 0} → List A → Outcome T (List A) → Outcome T (List A)
behind found (Ok (items, rest)) = Ok (found ++ items, rest)
behind found (Err e) = Err e

behind_one : {T A : Type 0} (a : A) (out : Outcome T (List A)) → and_then out (λ items rest. Ok (a ∷ items, rest)) ≡ behind (a ∷ []) out
behind_one a (Ok (items, rest)) = refl
behind_one a (Err e) = refl

-- nothing in front changes nothing
pub behind_none : {T A : Type 0} (out : Outcome T (List A)) → behind [] out ≡ out
behind_none (Ok (items, rest)) = refl
behind_none (Err e) = refl

-- one list in front of another
pub behind_both : {T A : Type 0} (xs ys : List A) (out : Outcome T (List A)) → behind xs (behind ys out) ≡ behind (xs ++ ys) out
behind_both xs ys (Ok (items, rest)) = ap (λ zs. Ok (zs, rest)) (sym (append_assoc xs ys items))
behind_both xs ys (Err e) = refl

module _ {S T A : Type 0} (test : S → T → Bool) (r : S → Reader T A) (next : S → A → S) where
  -- no item begins here
  pub many_stops : (n : ℕ) (s : S) (ts : List T) → heads (test s) ts ≡ false → take_many test r next n s ts ≡ Ok ([], ts)
  many_stops zero s ts not_seen = refl
  many_stops (suc n) s ts not_seen = rw not_seen refl

  -- an item begins here, and is read
  pub many_goes : (n : ℕ) (s : S) (ts rest : List T) (a : A) → heads (test s) ts ≡ true → r s ts ≡ Ok (a, rest)
      → take_many test r next (suc n) s ts ≡ behind (a ∷ []) (take_many test r next n (next s a) rest)
  many_goes n s ts rest a seen read = rw (seen, read) (behind_one a (take_many test r next n (next s a) rest))

  -- an item begins here, and is not read
  pub many_fails : (n : ℕ) (s : S) (ts : List T) (e : Refusal T) → heads (test s) ts ≡ true → r s ts ≡ Err e → take_many test r next (suc n) s ts ≡ Err e
  many_fails n s ts e seen read = rw (seen, read) refl
