-- Decimal numbers: what is read is the decimal of the number, and the decimal of a small number is read.
use Rattle.std.proofs.Common.{◌≡◌, ℕ, ◌+◌, ◌-◌, ◌*◌, ◌<◌, ◌≤◌, true, false, eqb, leb, not, ◌&&◌, List, [], ◌∷◌, ◌++◌, length, get_or, take, drop, Some, refl, sym, ap, ◌∙◌, ◌≢◌, arith, inl, inr}
use Rattle.std.specs.Char.{is_ascii_digit, digit_value}
use Rattle.std.specs.Int.{IsInRange}
use Rattle.std.specs.List.{prefix_len}
use Rattle.std.specs.Fmt.{decimal}
use Rattle.std.specs.Str.Parse.{digits_value}
use Rattle.std.proofs.lemmas.Bool.{cases_lt}
use Rattle.std.proofs.lemmas.Bool.Decides.{nat_tests}
use Rattle.std.proofs.lemmas.List.{take_at, drop_at, take-append-drop, length-append, get_or-take, get_or_append_left, get_or_at}
use Rattle.std.proofs.lemmas.List.Folds.{length-prefix_len}
use Rattle.std.proofs.lemmas.List.Sums.{prefix_len_is, prefix_len_passes}
use Rattle.std.proofs.lemmas.Str.Parse.{IsNumeralModel, numerals_by_value, tells_by_index, digits_value_short, digits_value-take-le}
use Rattle.std.proofs.lemmas.Int.Digits.{digits_value_more}
use Rattle.std.proofs.lemmas.Fmt.{decimal-digits_value, digits_decimal, digits_value-decimal, first_decimal, length-decimal-le, decimal_nonempty, decimal_digit}
use Rattle.qq_tool.specs.Reading.{is_numeral, number_at}
use Rattle.std.proofs.lemmas.Option.{some_pair_parts}
use Rattle.qq_tool.proofs.Pieces.{test_some}

-- each byte is a digit
abbrev pub AreDigits : List ℕ → Type 0
AreDigits ds = (i : ℕ) → i < length ds → IsInRange 48 57 (get_or ds i 0)

pub by_index : IsNumeralModel AreDigits (digits_value 10)
by_index = numerals_by_value _ tells_by_index

digit_passes : (c : ℕ) → IsInRange 48 57 c → is_ascii_digit c ≡ true
digit_passes c range = grind (arith, nat_tests)

passes_digit : (c : ℕ) → is_ascii_digit c ≡ true → IsInRange 48 57 c
passes_digit c passes = grind (arith, nat_tests)

pub digits_in_front : (bytes : List ℕ) → AreDigits (take (prefix_len is_ascii_digit bytes) bytes)
digits_in_front bytes i lt =
    let below : i < prefix_len is_ascii_digit bytes = omega (arith, length-prefix_len is_ascii_digit bytes) in
    rw (get_or-take (prefix_len is_ascii_digit bytes) bytes i 0 below) (passes_digit (get_or bytes i 0) (prefix_len_passes is_ascii_digit bytes i 0 below))

-- what the test of a numeral says
pub record IsNumeralText (ds : List ℕ) : Type 0 where
  pub some : 0 < length ds
  pub few : length ds ≤ 4
  pub plain : get_or ds 0 0 ≡ 48 → length ds ≡ 1

two_tell : (first n : ℕ) → (not (eqb first 48) && leb n 2) ≡ true → (first ≢ 48) × (n ≤ 2)
two_tell first n e = grind (arith, nat_tests)

two_told : (first n : ℕ) → first ≢ 48 → n ≤ 2 → (not (eqb first 48) && leb n 2) ≡ true
two_told first n other few = grind (arith, nat_tests)

pub numeral_tells : (ds : List ℕ) → is_numeral ds ≡ true → IsNumeralText ds
unfolding is_numeral
numeral_tells [] e = absurd cc
numeral_tells (digit ∷ []) e = record { some = omega arith; few = omega arith; plain = λ h. refl }
numeral_tells (first ∷ second ∷ digits) e =
    let t = two_tell first (length digits) e in
    record { some = omega arith; few = omega (arith, t.1); plain = λ h. absurd (t.0 h) }

pub numeral_told : (ds : List ℕ) → IsNumeralText ds → is_numeral ds ≡ true
unfolding is_numeral
numeral_told [] is = absurd (omega (arith, is.some))
numeral_told (digit ∷ []) is = refl
numeral_told (first ∷ second ∷ digits) is =
    let few : length digits ≤ 2 = omega (arith, is.few) in
    two_told first (length digits) (λ h. absurd (omega (arith, is.plain h))) few

decimal_is_numeral : (n : ℕ) → n < 10000 → IsNumeralText (decimal n)
decimal_is_numeral n small =
    let plain : get_or (decimal n) 0 0 ≡ 48 → length (decimal n) ≡ 1 = λ h.
    elim (cases_lt 0 n) [
      | inl positive ↦ absurd (omega (arith, first_decimal n positive (omega arith)))
      | inr nothing ↦ ap length (decimal_digit n (omega arith))
    ] in
    record { some = decimal_nonempty n (omega arith); few = length-decimal-le 4 n (omega arith) (omega arith) (omega arith); plain = plain }

pub number_takes : (bytes : List ℕ) (n : ℕ) (rest : List ℕ) → number_at bytes ≡ Some (n, rest) → bytes ≡ decimal n ++ rest
unfolding number_at
number_takes bytes n rest e =
    let len = prefix_len is_ascii_digit bytes in
    let ds = take len bytes in
    let t = test_some (is_numeral ds) (Some (digits_value 10 ds, drop len bytes)) (n, rest) e in
    let parts = some_pair_parts (digits_value 10 ds) n (drop len bytes) rest t.1 in
    let is = numeral_tells ds t.0 in
    let digits = digits_in_front bytes in
    let small = digits_value_short by_index ds 4 digits is.few in
    let same : decimal (digits_value 10 ds) ≡ ds = decimal-digits_value by_index ds digits is.some is.plain (omega (arith, small)) in
    rw (← parts.0, ← parts.1, same) (sym (take-append-drop len bytes))

digits_end : (n c : ℕ) (rest : List ℕ) → n < 10000 → is_ascii_digit c ≡ false → prefix_len is_ascii_digit (decimal n ++ c ∷ rest) ≡ length (decimal n)
digits_end n c rest small ends =
    let digits : AreDigits (decimal n) = digits_decimal by_index n (omega arith) in
    prefix_len_is is_ascii_digit (decimal n ++ c ∷ rest) (length (decimal n)) 0
    (omega (arith, length-append (decimal n) (c ∷ rest)))
    (λ k lt. rw (get_or_append_left (decimal n) (c ∷ rest) 0 k lt) (digit_passes (get_or (decimal n) k 0) (digits k lt)))
    (λ lt. rw (get_or_at (decimal n) c rest 0 (length (decimal n)) refl) ends)

-- a byte that is no digit ends the number
pub number_again : (n c : ℕ) (rest : List ℕ) → n < 10000 → is_ascii_digit c ≡ false → number_at (decimal n ++ c ∷ rest) ≡ Some (n, c ∷ rest)
unfolding number_at
number_again n c rest small ends =
    rw (
      digits_end n c rest small ends,
      take_at (decimal n) (c ∷ rest) (length (decimal n)) refl,
      drop_at (decimal n) (c ∷ rest) (length (decimal n)) refl,
      numeral_told (decimal n) (decimal_is_numeral n small),
      digits_value-decimal by_index n (omega arith),
    ) refl

-- ---- the number that digits write, from the left

pub value_below : (ds : List ℕ) (i : ℕ) → length ds ≤ 4 → AreDigits ds → digits_value 10 (take i ds) < 10000
value_below ds i few digits = omega (arith, digits_value-take-le 10 ds i (omega arith), digits_value_short by_index ds 4 digits few)

digit_counts : (c : ℕ) → IsInRange 48 57 c → digit_value c ≡ c - 48
digit_counts c range = grind (arith, nat_tests)

pub value_more : (ds : List ℕ) (i : ℕ) → i < length ds → AreDigits ds → digits_value 10 (take (i + 1) ds) ≡ digits_value 10 (take i ds) * 10 + (get_or ds i 0 - 48)
value_more ds i lt digits = digits_value_more 10 ds i lt ∙ ap (λ (d : ℕ). digits_value 10 (take i ds) * 10 + d) (digit_counts (get_or ds i 0) (digits i lt))
