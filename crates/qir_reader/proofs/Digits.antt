-- The number of a text in decimal digits.
use Rattle.std.proofs.Common.{◌≡◌, ℕ, ◌+◌, ◌-◌, ◌*◌, ◌<◌, ◌≤◌, ◌^◌, ◌&&◌, Bool, true, false, not, cond, List, [], ◌∷◌, length, drop, get_or, refl, ap, arith}
use Rattle.std.specs.Prelude.{IsTrue, nat_lt}
use Rattle.std.specs.List.{list_all}
use Rattle.std.specs.Char.{is_ascii_digit, digit_value}
use Rattle.std.specs.Str.Parse.{digits_value, digits_value_after}
use Rattle.std.proofs.lemmas.Bool.{ltb-true}
use Rattle.std.proofs.lemmas.Str.{digit_value_digit}
use Rattle.std.proofs.lemmas.List.{at_drop_more}
use Rattle.qir_module.specs.Tokens.{leads_with_zero}
use Rattle.qir_module.specs.Words.{Quoted, Numeral, OtherText, is_empty, is_numeral, looked_up, texts, text_of}

-- a value does not fall with more digits
value_grows : (n : ℕ) (ds : List ℕ) → n ≤ digits_value_after 10 n ds
value_grows n [] = omega arith
value_grows n (d ∷ ds) = omega (arith, value_grows (n * 10 + digit_value d) ds)

last_true : (p q : Bool) → (p && q) ≡ true → q ≡ true
last_true true q is = is
last_true false q is = cc

-- a number is below 2^32
numeral_is_small : (cs : List ℕ) → IsTrue (is_numeral cs) → digits_value 10 cs < 2 ^ 32
numeral_is_small cs is =
    ltb-true _ _ (last_true (not (is_empty cs) && list_all is_ascii_digit cs && not (leads_with_zero cs)) (nat_lt (digits_value 10 cs) (2 ^ 32)) is)

-- the digits up to one place are too large for a number already
pub too_large : (value place byte : ℕ) (cs : List ℕ) → place < length cs → byte ≡ get_or cs place 0 → 48 ≤ byte → byte ≤ 57
    → digits_value_after 10 value (drop place cs) ≡ digits_value 10 cs → 2 ^ 32 ≤ value * 10 + (byte - 48) → IsTrue (is_numeral cs) → ⊥
too_large value place byte cs inside here low high so_far large is =
    let next : digits_value_after 10 value (drop place cs) ≡ digits_value_after 10 (value * 10 + digit_value (get_or cs place 0)) (drop (place + 1) cs) = at_drop_more (digits_value_after 10 value) cs place 0 inside in
    let digit : digit_value byte + 48 ≡ byte = digit_value_digit byte (low, high) in
    let same : digit_value byte ≡ digit_value (get_or cs place 0) = ap digit_value here in
    omega (arith, value_grows (value * 10 + digit_value (get_or cs place 0)) (drop (place + 1) cs), numeral_is_small cs is, next, digit, same)

-- a text that is no number is looked up
pub text_is_name : (cs : List ℕ) (found : Quoted) → (IsTrue (is_numeral cs) → ⊥) → found ≡ looked_up OtherText texts cs → found ≡ text_of cs
text_is_name cs found none is = at (is_numeral cs) refl
  where
    at : (b : Bool) → is_numeral cs ≡ b → found ≡ cond b (Numeral (digits_value 10 cs)) (looked_up OtherText texts cs)
    at true e = absurd (none e)
    at false e = is
