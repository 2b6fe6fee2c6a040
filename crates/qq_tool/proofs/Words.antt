-- The words of a run: numbers in decimal.
use Rattle.std.proofs.Common.{◌≡◌, refl, ap, ◌∙◌, ℕ, ◌<◌, ◌≤◌, ◌^◌, arith, Bool, true, false, cond, ◌&&◌, leb, List, Some, None, Result, Ok, length}
use Rattle.std.specs.Fmt.{decimal}
use Rattle.std.specs.Str.{bytes_eq}
use Rattle.std.specs.Str.Parse.{ParsesUnsigned, digits_value}
use Rattle.std.proofs.lemmas.Bool.{and_parts, and_from}
use Rattle.std.proofs.lemmas.Bool.Decides.{nat_tests}
use Rattle.std.proofs.lemmas.Fmt.{digits_decimal, digits_value-decimal, decimal_nonempty}
use Rattle.std.proofs.lemmas.Slice.Eq.{bytes_eq-Decides}
use Rattle.std.proofs.lemmas.Str.Parse.{parse_gives}
use Rattle.qq_tool.specs.Command.{number_in}
use Rattle.qq_tool.proofs.Numbers.{AreDigits, by_index}

at_most : (n most : ℕ) → n ≤ most → leb n most ≡ true
at_most n most h = grind (arith, nat_tests)

within : (n most : ℕ) → leb n most ≡ true → n ≤ most
within n most h = grind (arith, nat_tests)

where_true : (b : Bool) (n : ℕ) → b ≡ true → cond b (Some n) None ≡ Some n
where_true true n h = refl
where_true false n h = absurd cc

where_not : (b : Bool) (n : ℕ) → (b ≡ true → ⊥) → cond b (Some n) None ≡ None
where_not true n h = absurd (h refl)
where_not false n h = refl

-- the word is the decimal of a number that is small enough
pub number_in_word : (most n : ℕ) (word : List ℕ) → n < 2 ^ 64 → n ≤ most → word ≡ decimal n → number_in most word ≡ Some n
number_in_word most n word fits small is =
    let value : digits_value 10 word ≡ n = ap (digits_value 10) is ∙ digits_value-decimal by_index n fits in
    rw value (where_true (bytes_eq word (decimal n) && leb n most) n (and_from _ _ ((bytes_eq-Decides word (decimal n)).1 is) (at_most n most small)))

-- the word is that of no such number
pub no_number_in_word : (most : ℕ) (word : List ℕ) → ((n : ℕ) → n ≤ most → word ≡ decimal n → ⊥) → number_in most word ≡ None
no_number_in_word most word none =
    let n = digits_value 10 word in
    where_not (bytes_eq word (decimal n) && leb n most) n
    (λ h. let parts = and_parts (bytes_eq word (decimal n)) (leb n most) h in none n (within n most parts.1) ((bytes_eq-Decides word (decimal n)).0 parts.0))

-- `parse` reads the decimal of a number of 32 bits
pub decimal_parses : {E : Type 0} (word : List ℕ) (r : Result ℕ E) (n : ℕ) → ParsesUnsigned 32 10 word r → word ≡ decimal n → n < 2 ^ 32 → r ≡ Ok n
decimal_parses word r n parses is small =
    let fits : n < 2 ^ 64 = omega arith in
    let same : digits_value 10 word ≡ n = ap (digits_value 10) is ∙ digits_value-decimal by_index n fits in
    let digits : AreDigits word = rw is (digits_decimal by_index n fits) in
    let some : 0 < length word = rw is (decimal_nonempty n fits) in
    parse_gives by_index 32 word r parses digits some (omega (arith, same)) ∙ ap Ok same
