-- A name is found at its number.
use Rattle.std.proofs.Common.{◌≡◌, ℕ, suc, zero, ◌+◌, ◌<◌, List, [], ◌∷◌, length, Some, None, true, false, refl, sym, ap, ◌∙◌, ◌≤◌, Bor, arith}
use Rattle.std.specs.Prelude.{nat_eq, IsSome}
use Rattle.std.specs.List.{slice_get}
use Rattle.std.specs.Slice.{IsItemAt}
use Rattle.std.specs.Map.{lookup}
use Rattle.std.specs.Option.{option_map}
use Rattle.std.proofs.lemmas.Bool.Decides.{nat_tests}
use Rattle.std.proofs.lemmas.Bool.{false≢true}
use Rattle.std.proofs.lemmas.Option.{slice_get-get_or, slice_get_read, slice_get_past}
use Rattle.qasm_ast.specs.Whole.{Source}
use Rattle.const_eval.specs.Seen.{HasNames}
use Rattle.const_cases.specs.declared.names.Named.{Named}
use Rattle.const_cases.specs.declared.names.Named.TheVariants.{Unknown}
use Rattle.const_cases.specs.Numbered.{numbered, meaning_of}

same_number : (m n : ℕ) → m ≡ n → nat_eq m n ≡ true
same_number m n e = grind (arith, nat_tests)

other_number : (m n k : ℕ) → m ≡ suc n + k → nat_eq m n ≡ false
other_number m n k e = grind (arith, nat_tests)

found_from : (n from k : ℕ) → (items : List Named) → n ≡ from + k → lookup (nat_eq n) (numbered from items) ≡ option_map meaning_of (slice_get items k)
found_from n from k [] e = refl
found_from n from zero (item ∷ items) e = let same : nat_eq n from ≡ true = same_number n from (omega arith) in rw same refl
found_from n from (suc k) (item ∷ items) e =
    let moved : n ≡ suc from + k = omega arith in
    let other : nat_eq n from ≡ false = other_number n from k moved in
    rw other (found_from n (suc from) k items moved)

-- a look-up gives the meaning at the name's number
pub found_at : (n : ℕ) (items : List Named) → lookup (nat_eq n) (numbered 0 items) ≡ option_map meaning_of (slice_get items n)
found_at n items = found_from n 0 n items (omega arith)

-- as many meanings as a program has names are meanings of its names
pub names_found : (p : Source) (items : List Named) → length items ≡ length p.names → HasNames p (numbered 0 items)
names_found p items e n lt =
    let within : n < length items = omega arith in
    rw (found_at n items, slice_get-get_or items n Unknown within) refl

pub found_item : (n : ℕ) (items seen : List Named) (lent : Bor Named) (item : Named) → IsItemAt seen n (Some lent) → seen ≡ items → lent.now ≡ item
    → lookup (nat_eq n) (numbered 0 items) ≡ Some (meaning_of item)
found_item n items seen lent item is e e' =
    let read : slice_get seen n ≡ Some lent.now = slice_get_read seen (length seen) n lent.now refl is.3.0 is.1 in
    let there : slice_get items n ≡ Some item = rw (sym e) (read ∙ ap Some e') in
    rw (found_at n items, there) refl

-- a name that has a meaning has a place
pub not_past : (n : ℕ) (items seen : List Named) → IsItemAt seen n None → seen ≡ items → ¬ IsSome (lookup (nat_eq n) (numbered 0 items))
not_past n items seen is e some =
    let past : length items ≤ n = rw (sym e) is.3 in
    let none : lookup (nat_eq n) (numbered 0 items) ≡ None = rw (found_at n items, slice_get_past items n past) refl in
    false≢true (rw none at some)
