-- What names stand for as things, and what they mean in expressions.
use Rattle.std.proofs.Common.{◌≡◌, ℕ, suc, zero, ◌+◌, ◌<◌, ◌≤◌, Bool, true, false, cond, List, [], ◌∷◌, length, Option, Some, IsSome, nat_eq, refl, sym, ap, ◌∙◌, subst, arith}
use Rattle.std.proofs.lemmas.Bool.{eqb-true, eqb-false, eq-eqb, false≢true}
use Rattle.std.specs.Map.{lookup}
use Rattle.std.specs.Option.{option_map}
use Rattle.qasm_ast.specs.Whole.{Source}
use Rattle.qasm_ast.specs.Tree.{text_at}
use Rattle.qasm_ast.specs.View.{text_in}
use Rattle.scope_env.specs.OpenScopes.{OpenScopes, Outside, Opened, Sealed, Named, find, is_same, map_scopes, is_here, close}
use Rattle.const_eval.specs.Meaning.{Meaning}
use Rattle.const_eval.specs.Things.{meaning_of_thing, means_in}
use Rattle.open_names.specs.declared.slot.Slot.{Slot}
use Rattle.open_names.specs.declared.slot.Slot.TheVariants as slot
use Rattle.open_names.specs.Slots.{thing_in, meaning_of_slot}
use Rattle.open_names.specs.Standing.{Standing, Stands, scopes_of, things, with_row_slots}
use Rattle.source_meaning.specs.Library.{with_rows}
use Rattle.open_names.specs.Meanings.{meanings_from, meanings}

-- ---- things

pub find-mapped : {A B : Type 0} (f : A → B) (x : List ℕ) (scopes : OpenScopes A) → find x (map_scopes f scopes) ≡ option_map f (find x scopes)
find-mapped f x Outside = refl
find-mapped f x (Opened outer) = find-mapped f x outer
find-mapped f x (Sealed seen callers) = find-mapped f x seen
find-mapped {A} {B} f x (Named y a rest) = by (is_same x y) (find-mapped f x rest)
  where
    by : (same : Bool) → find x (map_scopes f rest) ≡ option_map f (find x rest) → cond same (Some (f a)) (find x (map_scopes f rest)) ≡ option_map f (cond same (Some a) (find x rest))
    by true rest_is = refl
    by false rest_is = rest_is

pub is_here-mapped : {A B : Type 0} (f : A → B) (x : List ℕ) (scopes : OpenScopes A) → is_here x (map_scopes f scopes) ≡ is_here x scopes
is_here-mapped f x Outside = refl
is_here-mapped f x (Opened outer) = refl
is_here-mapped f x (Sealed seen callers) = refl
is_here-mapped f x (Named y a rest) = ap (λ (b : Bool). cond (is_same x y) true b) (is_here-mapped f x rest)

pub close-mapped : {A B : Type 0} (f : A → B) (scopes : OpenScopes A) → close (map_scopes f scopes) ≡ map_scopes f (close scopes)
close-mapped f Outside = refl
close-mapped f (Opened outer) = refl
close-mapped f (Sealed seen callers) = refl
close-mapped f (Named y a rest) = close-mapped f rest

pub rows-mapped : {A : Type 0} (p : Source) (rows : List (List ℕ × ℕ)) (scopes : OpenScopes (Slot A)) → map_scopes (thing_in p) (with_row_slots rows scopes) ≡ with_rows rows (map_scopes (thing_in p) scopes)
rows-mapped p [] scopes = refl
rows-mapped p (entry ∷ rows) scopes = rows-mapped p rows (Named entry.0 (slot.Row (record { 0 = entry.1 })) scopes)

module _ {A : Type 0} where
  -- one thing more
  pub record OneMore (old new : Standing A) (x : List ℕ) (slot : Slot A) : Type 0 where
    pub program : new.program ≡ old.program
    pub more : things new ≡ Named x (thing_in old.program slot) (things old)

  pub one_more : (old new : Standing A) (x : List ℕ) (slot : Slot A) → Stands old.program (Named x slot (scopes_of old)) new → OneMore old new x slot
  one_more old new x slot stands = record {
    program = stands.program;
    more = ap (λ (p : Source). map_scopes (thing_in p) (scopes_of new)) stands.program ∙ ap (map_scopes (thing_in old.program)) stands.scopes;
  }

  pub means-slot : (s : Standing A) (x : List ℕ) → means_in (things s) x ≡ meaning_of_thing (option_map (thing_in s.program) (find x (scopes_of s)))
  means-slot s x = ap meaning_of_thing (find-mapped (thing_in s.program) x (scopes_of s))

-- ---- meanings

later_is_other : (from k : ℕ) → nat_eq (from + suc k) from ≡ false
later_is_other from k = by (nat_eq (from + suc k) from) refl
  where
    by : (b : Bool) → nat_eq (from + suc k) from ≡ b → b ≡ false
    by true e = absurd (let same : from + suc k ≡ from = eqb-true (from + suc k) from e in omega (arith, same))
    by false e = refl

lookup-meanings : (means : List ℕ → Meaning) (names : List (List ℕ)) (from k : ℕ) → k < length names → lookup (nat_eq (from + k)) (meanings_from means from names) ≡ Some (means (text_at names k))
lookup-meanings means [] from k h = absurd (omega (arith, h))
lookup-meanings means (text ∷ names) from zero h =
    ap (λ b. cond b (Some (means text)) (lookup (nat_eq (from + 0)) (meanings_from means (suc from) names))) (eq-eqb (from + 0) from (omega arith))
lookup-meanings means (text ∷ names) from (suc k) h =
    let same : suc from + k ≡ from + suc k = omega arith in
    ap (λ b. cond b (Some (means text)) (lookup (nat_eq (from + suc k)) (meanings_from means (suc from) names))) (later_is_other from k)
    ∙ subst (λ (j : ℕ). lookup (nat_eq j) (meanings_from means (suc from) names) ≡ Some (means (text_at names k))) same (lookup-meanings means names (suc from) k (omega (arith, h)))

module _ {A : Type 0} (s : Standing A) where
  pub lookup-meaning : (n : ℕ) → n < length s.program.names → lookup (nat_eq n) (meanings s) ≡ Some (means_in (things s) (text_in s.program n))
  lookup-meaning n within = subst (λ (m : ℕ). lookup (nat_eq m) (meanings s) ≡ Some (means_in (things s) (text_in s.program n))) (let e : 0 + n ≡ n = omega arith in e) (lookup-meanings (means_in (things s)) s.program.names 0 n within)

  pub IsSome-meaning : (n : ℕ) → n < length s.program.names → IsSome (lookup (nat_eq n) (meanings s))
  IsSome-meaning n within = rw (lookup-meaning n within) refl

  -- by what is found in the open scopes
  pub told_meaning : (n : ℕ) → n < length s.program.names → (o : Option (Slot A)) → o ≡ find (text_in s.program n) (scopes_of s) → lookup (nat_eq n) (meanings s) ≡ Some (meaning_of_thing (option_map (thing_in s.program) o))
  told_meaning n within o found = lookup-meaning n within ∙ ap Some (means-slot s (text_in s.program n) ∙ ap (λ o'. meaning_of_thing (option_map (thing_in s.program) o')) (sym found))

pub meaning-slot : {A : Type 0} (p : Source) (s : Slot A) → meaning_of_thing (Some (thing_in p s)) ≡ meaning_of_slot s
meaning-slot p (slot.Fixed c) = refl
meaning-slot p (slot.Variable type a) = refl
meaning-slot p (slot.Counter type a) = refl
meaning-slot p (slot.Qubits register) = refl
meaning-slot p (slot.Alias register) = refl
meaning-slot p (slot.Row row) = refl
meaning-slot p (slot.Gate id) = refl
meaning-slot p (slot.Subroutine id) = refl

-- a name that has a meaning is one of the program
pub meanings_are_of_names : (means : List ℕ → Meaning) (names : List (List ℕ)) (from n : ℕ) → from ≤ n → IsSome (lookup (nat_eq n) (meanings_from means from names)) → n < from + length names
meanings_are_of_names means [] from n above found = absurd (false≢true found)
meanings_are_of_names means (text ∷ names) from n above found = by (nat_eq n from) refl found (λ more later. meanings_are_of_names means names (suc from) n more later)
  where
    by : (b : Bool) → nat_eq n from ≡ b → IsSome (cond b (Some (means text)) (lookup (nat_eq n) (meanings_from means (suc from) names))) → (suc from ≤ n → IsSome (lookup (nat_eq n) (meanings_from means (suc from) names)) → n < suc from + length names) → n < from + suc (length names)
    by true e here next = let same : n ≡ from = eqb-true n from e in omega (arith, same)
    by false e later next =
        let other : (n ≡ from → ⊥) = eqb-false n from e in
        let more : suc from ≤ n = omega (arith, above, other) in
        omega (arith, next more later)
