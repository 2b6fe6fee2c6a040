-- What the scanners of the code find.
use Rattle.std.proofs.Common.{◌≡◌, ℕ, ◌+◌, ◌*◌, ◌≤◌, ◌<◌, List, [], ◌∷◌, length, drop, Option, Some, None, refl, sym, ap, ◌∙◌, arith}
use Rattle.std.proofs.Math.ListN.{get_or}
use Rattle.std.proofs.lemmas.List.{drop_more}
use Rattle.std.specs.Char.{digit_value}
use Rattle.std.specs.Str.Parse.{digits_value_after}
use Rattle.qir_module.specs.Tokens.{HalfRead}
use Rattle.qir_module.specs.Lexer.{closed}

-- so many characters farther on
abbrev pub farther : ℕ → Option ℕ → Option ℕ
farther n None = None
farther n (Some m) = Some (n + m)

-- the first digit of an escape does not matter
pub half_read : (a b : ℕ) (cs : List ℕ) → closed (HalfRead a) cs ≡ closed (HalfRead b) cs
half_read a b [] = refl
half_read a b (c ∷ cs) = refl

-- a value does not fall with more digits
pub value_grows : (n : ℕ) (ds : List ℕ) → n ≤ digits_value_after 10 n ds
value_grows n [] = omega arith
value_grows n (d ∷ ds) = omega (arith, value_grows (n * 10 + digit_value d) ds)

pub too_large : (v : ℕ) (ds : List ℕ) (i total : ℕ) → i < length ds → digits_value_after 10 v (drop i ds) ≡ total → 1844674407370955160 < v → 9223372036854775808 < total
too_large v ds i total l e h =
    let step : digits_value_after 10 v (drop i ds) ≡ digits_value_after 10 (v * 10 + digit_value (get_or ds i 0)) (drop (i + 1) ds) = ap (digits_value_after 10 v) (drop_more ds i 0 l) in
    omega (arith, value_grows (v * 10 + digit_value (get_or ds i 0)) (drop (i + 1) ds), sym step ∙ e, h)
