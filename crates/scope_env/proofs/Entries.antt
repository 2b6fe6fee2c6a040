-- Entries whose keys differ are read alike in both orders.
use Rattle.std.proofs.Common.{◌≡◌, ℕ, Bool, true, false, List, [], ◌∷◌, ◌++◌, Option, None, Some, nat_eq, refl, sym, cond, reverse, OnOk, OnErr, Result, Ok, Err}
use Rattle.std.proofs.lemmas.List.{reverse-append}
use Rattle.std.proofs.lemmas.Bool.{eqb-true}
use Rattle.std.specs.Map.{lookup}
use Rattle.std.specs.Option.{option_or}
use Rattle.indexmap.specs.IndexMap.{IndexMap, get, insert_entry}
use Rattle.indexmap.proofs.CallerLemmas.{insert_entry-new}

module _ {A : Type 0} where
  -- both orders of the entries give each name the same value
  abbrev pub ReadAlike : List (ℕ × A) → Type 0
  ReadAlike entries = (name : ℕ) → lookup (nat_eq name) (reverse entries) ≡ lookup (nat_eq name) entries

  lookup-append : (test : ℕ → Bool) (xs ys : List (ℕ × A)) → lookup test (xs ++ ys) ≡ option_or (lookup test xs) (lookup test ys)
  lookup-append test [] ys = refl
  lookup-append test (e ∷ xs) ys = by (test e.0) (lookup-append test xs ys)
    where
      by : (b : Bool) → lookup test (xs ++ ys) ≡ option_or (lookup test xs) (lookup test ys) → cond b (Some e.1) (lookup test (xs ++ ys)) ≡ option_or (cond b (Some e.1) (lookup test xs)) (lookup test ys)
      by true rest = refl
      by false rest = rest

  option_or-None : (o : Option A) → option_or o None ≡ o
  option_or-None None = refl
  option_or-None (Some x) = refl

  -- a new name is read alike
  module _ (entries : List (ℕ × A)) (name : ℕ) (value : A) (absent : lookup (nat_eq name) entries ≡ None) (alike : ReadAlike entries) where
    at_end : (other : ℕ) (b : Bool) → nat_eq other name ≡ b → cond b (Some value) (lookup (nat_eq other) entries) ≡ option_or (lookup (nat_eq other) entries) (cond b (Some value) None)
    at_end other true e = let same : other ≡ name = eqb-true other name e in rw (same, absent) refl
    at_end other false e = sym (option_or-None (lookup (nat_eq other) entries))

    ReadAlike-push : ReadAlike (entries ++ (name, value) ∷ [])
    ReadAlike-push other =
        rw (reverse-append entries ((name, value) ∷ []), lookup-append (nat_eq other) entries ((name, value) ∷ []), alike other) (at_end other (nat_eq other name) refl)

module _ {A S : Type 0} (old new : IndexMap ℕ A S) (name : ℕ) (value : A) (absent : get nat_eq old name ≡ None) where
  -- the entries after an `insert` of a new name, whatever it answers
  pub ReadAlike-insert : {E : Type 0} (r : Result (Option A) E) → ReadAlike old.entries → OnOk r (new.entries ≡ insert_entry nat_eq old.entries name value) → OnErr r (new.entries ≡ old.entries) → ReadAlike new.entries
  ReadAlike-insert (Ok o) alike ok err = rw (ok, insert_entry-new nat_eq old name value absent) (ReadAlike-push old.entries name value absent alike)
  ReadAlike-insert (Err e) alike ok err = rw err alike

  -- and newest first
  pub reverse-insert : new.entries ≡ insert_entry nat_eq old.entries name value → reverse new.entries ≡ (name, value) ∷ reverse old.entries
  reverse-insert ok = rw (ok, insert_entry-new nat_eq old name value absent, reverse-append old.entries ((name, value) ∷ [])) refl
