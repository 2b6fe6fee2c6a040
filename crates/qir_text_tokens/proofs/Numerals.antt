-- The decimal digits of a number, and the tokens that are made of them.
use Rattle.std.proofs.Common.{◌≡◌, ℕ, zero, suc, ◌+◌, ◌≤◌, ◌<◌, ◌^◌, ◌&&◌, ◌||◌, not, Bool, true, false, cond, List, [], ◌∷◌, ◌++◌, length, take, drop, get_or, Some, sym, refl, ap, ◌∙◌, subst, arith}
use Rattle.std.specs.Prelude.{filter, nat_lt}
use Rattle.std.specs.List.{list_all}
use Rattle.std.specs.Char.{is_ascii_digit}
use Rattle.std.specs.Fmt.{decimal}
use Rattle.std.specs.Str.Parse.{digits_value}
use Rattle.std.proofs.lemmas.Bool.{and_parts}
use Rattle.std.proofs.lemmas.Bool.Decides.{nat_tests}
use Rattle.std.proofs.lemmas.Fmt.{decimal_digit, decimal_nonempty, first_decimal, digits_decimal, digits_value-decimal}
use Rattle.std.proofs.lemmas.Str.Parse.{IsDigitsTest, IsNumeralModel, numerals_by_value}
use Rattle.std.proofs.lemmas.List.{append_assoc, take_at, drop_at, length-append}
use Rattle.qir_module.specs.Tokens.{TokenKind, is_misformed, is_misnumbered, leads_with_zero}
use Rattle.qir_module.specs.Lexer.{Found, Fails, run, heads, found, number_behind, number_step, numbered}

-- ---- what is known of the digits

abbrev pub AreDigits : List ℕ → Type 0
AreDigits ds = list_all is_ascii_digit ds ≡ true

and_true : (a b : Bool) → a ≡ true → b ≡ true → (a && b) ≡ true
and_true true b e f = f
and_true false b e f = absurd (cc)

digit_above : (c : ℕ) → is_ascii_digit c ≡ true → 48 ≤ c
digit_above c e = grind (arith, nat_tests)

digit_below : (c : ℕ) → is_ascii_digit c ≡ true → c ≤ 57
digit_below c e = grind (arith, nat_tests)

digit_passes : (c : ℕ) → 48 ≤ c → c ≤ 57 → is_ascii_digit c ≡ true
digit_passes c low high = grind (arith, nat_tests)

tells : IsDigitsTest AreDigits
tells = record {
  empty = refl;
  parts = λ c cs e. let p = and_parts (is_ascii_digit c) (list_all is_ascii_digit cs) e in ((digit_above c p.0, digit_below c p.0), p.1);
  more = λ c cs range e. and_true (is_ascii_digit c) (list_all is_ascii_digit cs) (digit_passes c range.0 range.1) e;
}

own : IsNumeralModel AreDigits (digits_value 10)
own = numerals_by_value AreDigits tells

not_zero : (ds : List ℕ) → 48 < get_or ds 0 0 → leads_with_zero ds ≡ false
not_zero [] h = refl
not_zero (c ∷ []) h = refl
not_zero (c ∷ d ∷ cs) h = grind (arith, nat_tests)

plain : (n : ℕ) → n < 2 ^ 64 → leads_with_zero (decimal n) ≡ false
plain zero small = ap leads_with_zero (decimal_digit 0 (omega arith))
plain (suc n) small = not_zero (decimal (suc n)) (first_decimal (suc n) (omega arith) small)

-- the digits of a number, a first one and others
pub record IsDecimal (n first : ℕ) (others : List ℕ) : Type 0 where
  pub is : decimal n ≡ first ∷ others
  pub digits : AreDigits (first ∷ others)
  pub plain : leads_with_zero (first ∷ others) ≡ false
  pub value : digits_value 10 (first ∷ others) ≡ n

pub decimal_is : (n : ℕ) → n < 2 ^ 64 → (first : ℕ) × (others : List ℕ) × IsDecimal n first others
decimal_is n small = by (decimal n) refl
  where
    by : (ds : List ℕ) → decimal n ≡ ds → (first : ℕ) × (others : List ℕ) × IsDecimal n first others
    by [] e = absurd (omega (arith, decimal_nonempty n small, ap length e))
    by (d ∷ ds) e = (
      d,
      ds,
      record {
        is = e;
        digits = subst AreDigits e (digits_decimal own n small);
        plain = sym (ap leads_with_zero e) ∙ plain n small;
        value = sym (ap (digits_value 10) e) ∙ digits_value-decimal own n small;
      },
    )

-- ---- digits in front of what goes on with no digit

run_none : (p : ℕ → Bool) (text : List ℕ) → heads p text ≡ false → run p text ≡ 0
run_none p [] e = refl
run_none p (c ∷ cs) e = ap (λ b. elim b as (λ b. ℕ) [ true ↦ suc (run p cs) | false ↦ 0 ]) e

pub run_all : (p : ℕ → Bool) (ds text : List ℕ) → list_all p ds ≡ true → heads p text ≡ false → run p (ds ++ text) ≡ length ds
run_all p [] text e f = run_none p text f
run_all p (d ∷ ds) text e f =
    let parts = and_parts (p d) (list_all p ds) e in
    ap (λ b. elim b as (λ b. ℕ) [ true ↦ suc (run p (ds ++ text)) | false ↦ 0 ]) parts.0 ∙ ap suc (run_all p ds text parts.1 f)

pub filter_all : (p : ℕ → Bool) (ds : List ℕ) → list_all p ds ≡ true → filter p ds ≡ ds
filter_all p [] e = refl
filter_all p (d ∷ ds) e =
    let parts = and_parts (p d) (list_all p ds) e in
    ap (λ b. cond b (d ∷ filter p ds) (filter p ds)) parts.0 ∙ ap (λ (x : List ℕ). d ∷ x) (filter_all p ds parts.1)

-- digits behind a spelling
pub digits_step : (make : List ℕ → TokenKind) (front : List ℕ) (first : ℕ) (others behind : List ℕ) → AreDigits (first ∷ others) → heads is_ascii_digit behind ≡ false →
    number_step make (length front) (front ++ (first ∷ others ++ behind)) ≡ Some (found (make (first ∷ others)) (front ++ first ∷ others))
digits_step make front first others behind digits ends =
    let ds : List ℕ = first ∷ others in
    let text : List ℕ = front ++ (ds ++ behind) in
    let rest : drop (length front) text ≡ ds ++ behind = drop_at front (ds ++ behind) (length front) refl in
    let count : run is_ascii_digit (drop (length front) text) ≡ suc (length others) = ap (run is_ascii_digit) rest ∙ run_all is_ascii_digit ds behind digits ends in
    let made : take (suc (length others)) (drop (length front) text) ≡ ds = ap (take (suc (length others))) rest ∙ take_at ds behind (suc (length others)) refl in
    let spelled : take (length front + suc (length others)) text ≡ front ++ ds =
    ap (take (length front + suc (length others))) (sym (append_assoc front ds behind)) ∙ take_at (front ++ ds) behind (length front + suc (length others)) (length-append front ds) in
    ap (number_behind make (length front) text) count
    ∙ ap (λ (x : List ℕ). Some (found (make x) (take (length front + suc (length others)) text))) made
    ∙ ap (λ (x : List ℕ). Some (found (make ds) x)) spelled

-- ---- numbers behind a spelling, all below 2^32

pub below_test : (a b : ℕ) → a < b → nat_lt a b ≡ true
below_test a b h = grind (arith, nat_tests)

or_false : (a b : Bool) → a ≡ false → b ≡ true → (a || not b) ≡ false
or_false true b e f = absurd (cc)
or_false false true e f = refl
or_false false false e f = absurd (cc)

pub well_numbered : (cs ds : List ℕ) (n : ℕ) → filter is_ascii_digit cs ≡ ds → leads_with_zero ds ≡ false → n < 2 ^ 32 → is_misnumbered cs n ≡ false
well_numbered cs ds n e f small = or_false (leads_with_zero (filter is_ascii_digit cs)) (nat_lt n (2 ^ 32)) (ap leads_with_zero e ∙ f) (below_test n (2 ^ 32) small)

pub well_found : (kind : TokenKind) (cs : List ℕ) → is_misformed cs kind ≡ false → found kind cs ≡ Found kind (length cs)
well_found kind cs e = ap (λ b. cond b (Fails 4) (Found kind (length cs))) e

-- the kinds of tokens whose number is one of these
pub record IsNumberedKind (kind : ℕ → TokenKind) : Type 0 where
  pub form : (cs : List ℕ) (n : ℕ) → is_misformed cs (kind n) ≡ is_misnumbered cs n

pub numbered_step : (kind : ℕ → TokenKind) → IsNumberedKind kind → (front : List ℕ) → ((ds : List ℕ) → filter is_ascii_digit (front ++ ds) ≡ filter is_ascii_digit ds) → (n : ℕ) → n < 2 ^ 32 → (behind : List ℕ) → heads is_ascii_digit behind ≡ false →
    number_step (numbered kind) (length front) (front ++ (decimal n ++ behind)) ≡ Some (Found (kind n) (length (front ++ decimal n)))
numbered_step kind form front passes n small behind ends =
    let d = decimal_is n (omega arith) in
    let ds : List ℕ = d.0 ∷ d.1 in
    let is : IsDecimal n d.0 d.1 = d.2 in
    let kept : filter is_ascii_digit (front ++ ds) ≡ ds = passes ds ∙ filter_all is_ascii_digit ds is.digits in
    let right : is_misformed (front ++ ds) (kind n) ≡ false = form.form (front ++ ds) n ∙ well_numbered (front ++ ds) ds n kept is.plain small in
    ap (λ (x : List ℕ). number_step (numbered kind) (length front) (front ++ (x ++ behind))) is.is
    ∙ digits_step (numbered kind) front d.0 d.1 behind is.digits ends
    ∙ ap (λ (x : ℕ). Some (found (kind x) (front ++ ds))) is.value
    ∙ ap Some (well_found (kind n) (front ++ ds) right)
    ∙ ap (λ (x : List ℕ). Some (Found (kind n) (length (front ++ x)))) (sym is.is)
