-- What is told of a name in a definition is found at the two numbers.
use Rattle.std.proofs.Common.{◌≡◌, ℕ, suc, zero, ◌+◌, ◌<◌, ◌≤◌, List, [], ◌∷◌, length, Option, Some, None, Bool, true, false, refl, ◌∙◌, arith}
use Rattle.std.specs.Prelude.{nat_eq, nat_lt, IsSome}
use Rattle.std.specs.List.{slice_get}
use Rattle.std.specs.Map.{lookup}
use Rattle.std.specs.Option.{option_map, option_and_then, option_or}
use Rattle.std.proofs.lemmas.Bool.Decides.{nat_tests}
use Rattle.std.proofs.lemmas.Bool.{false≢true}
use Rattle.std.proofs.lemmas.Option.{slice_get_past}
use Rattle.const_eval.specs.Seen.{MeaningInside, is_same_place}
use Rattle.gate_cases.specs.declared.env.Entry.{Entry}
use Rattle.gate_cases.specs.Told.{row, rows, inside_told}
use Rattle.gate_cases.proofs.Found.{same_number, other_number}

first_alone : (a : Option MeaningInside) → option_or a None ≡ a
first_alone (Some meaning) = refl
first_alone None = refl

none_at_all : (a : Option ℕ) (entries : List Entry) (n : ℕ) → slice_get entries n ≡ None → option_and_then (λ order. option_map (inside_told order) (slice_get entries n)) a ≡ None
none_at_all None entries n none = refl
none_at_all (Some order) entries n none = rw none refl

-- the row of another definition is passed over
row_of_other : (def d order from n : ℕ) (entries : List Entry) (rest : List ((ℕ × ℕ) × MeaningInside)) → nat_eq def d ≡ false
    → lookup (is_same_place (def, n)) (row d order from entries rest) ≡ lookup (is_same_place (def, n)) rest
row_of_other def d order from n [] rest other = refl
row_of_other def d order from n (entry ∷ entries) rest other = rw other (row_of_other def d order (suc from) n entries rest other)

row_of_same : (def d order from n k : ℕ) (entries : List Entry) (rest : List ((ℕ × ℕ) × MeaningInside)) → nat_eq def d ≡ true → n ≡ from + k
    → lookup (is_same_place (def, n)) (row d order from entries rest) ≡ option_or (option_map (inside_told order) (slice_get entries k)) (lookup (is_same_place (def, n)) rest)
row_of_same def d order from n k [] rest same e = refl
row_of_same def d order from n zero (entry ∷ entries) rest same e = let here : nat_eq n from ≡ true = same_number n from (omega arith) in rw (same, here) refl
row_of_same def d order from n (suc k) (entry ∷ entries) rest same e =
    let moved : n ≡ suc from + k = omega arith in
    let other : nat_eq n from ≡ false = other_number n from k moved in
    rw (same, other) (row_of_same def d order (suc from) n k entries rest same moved)

rows_past : (def from n : ℕ) (orders : List ℕ) (entries : List Entry) → def < from → lookup (is_same_place (def, n)) (rows from orders entries) ≡ None
rows_past def from n [] entries lt = refl
rows_past def from n (order ∷ orders) entries lt =
    let other : nat_eq def from ≡ false = grind (arith, nat_tests) in
    rw (row_of_other def from order 0 n entries (rows (suc from) orders entries) other) (rows_past def (suc from) n orders entries (omega arith))

rows_from : (def from i n : ℕ) (orders : List ℕ) (entries : List Entry) → def ≡ from + i
    → lookup (is_same_place (def, n)) (rows from orders entries) ≡ option_and_then (λ order. option_map (inside_told order) (slice_get entries n)) (slice_get orders i)
rows_from def from i n [] entries e = refl
rows_from def from zero n (order ∷ orders) entries e =
    let same : nat_eq def from ≡ true = same_number def from (omega arith) in
    let past : lookup (is_same_place (def, n)) (rows (suc from) orders entries) ≡ None = rows_past def (suc from) n orders entries (omega arith) in
    rw (row_of_same def from order 0 n n entries (rows (suc from) orders entries) same (omega arith), past) (first_alone (option_map (inside_told order) (slice_get entries n)))
rows_from def from (suc i) n (order ∷ orders) entries e =
    let moved : def ≡ suc from + i = omega arith in
    let other : nat_eq def from ≡ false = other_number def from i moved in
    rw (row_of_other def from order 0 n entries (rows (suc from) orders entries) other) (rows_from def (suc from) i n orders entries moved)

pub rows_at : (def n : ℕ) (orders : List ℕ) (entries : List Entry)
    → lookup (is_same_place (def, n)) (rows 0 orders entries) ≡ option_and_then (λ order. option_map (inside_told order) (slice_get entries n)) (slice_get orders def)
rows_at def n orders entries = rows_from def 0 def n orders entries (omega arith)

pub found_inside : (def n order : ℕ) (orders : List ℕ) (entries : List Entry) (entry : Entry) → slice_get orders def ≡ Some order → slice_get entries n ≡ Some entry
    → lookup (is_same_place (def, n)) (rows 0 orders entries) ≡ Some (inside_told order entry)
found_inside def n order orders entries entry here there = rw (rows_at def n orders entries, here, there) refl

-- a definition and a name of which something is told have places
pub definition_within : (def n : ℕ) (orders : List ℕ) (entries : List Entry) → IsSome (lookup (is_same_place (def, n)) (rows 0 orders entries)) → def < length orders
definition_within def n orders entries some = in_place (nat_lt def (length orders)) refl
  where
    in_place : (b : Bool) → nat_lt def (length orders) ≡ b → def < length orders
    in_place true e = grind (arith, nat_tests)
    in_place false e =
        let past : length orders ≤ def = grind (arith, nat_tests) in
        let none : lookup (is_same_place (def, n)) (rows 0 orders entries) ≡ None = rw (rows_at def n orders entries, slice_get_past orders def past) refl in
        absurd (false≢true (rw none at some))

pub name_within : (def n : ℕ) (orders : List ℕ) (entries : List Entry) → IsSome (lookup (is_same_place (def, n)) (rows 0 orders entries)) → n < length entries
name_within def n orders entries some = in_place (nat_lt n (length entries)) refl
  where
    in_place : (b : Bool) → nat_lt n (length entries) ≡ b → n < length entries
    in_place true e = grind (arith, nat_tests)
    in_place false e =
        let past : length entries ≤ n = grind (arith, nat_tests) in
        let none : lookup (is_same_place (def, n)) (rows 0 orders entries) ≡ None = rows_at def n orders entries ∙ none_at_all (slice_get orders def) entries n (slice_get_past entries n past) in
        absurd (false≢true (rw none at some))
