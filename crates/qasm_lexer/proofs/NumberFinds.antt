-- What the number scanners find.
use Rattle.std.proofs.Common.{◌≡◌, ℕ, ◌+◌, ◌-◌, ◌<◌, ◌^◌, ◌⊎◌, Bool, true, false, not, cond, List, [], ◌∷◌, ◌++◌, length, Option, None, Some, MatchOption, is_some, sym, refl, ap, ◌∙◌, subst, arith, inl, inr, ⊎_elim, append_assoc}
use Rattle.std.specs.Prelude.{IsTrue, filter}
use denote.Ref.{Bor}
use Rattle.std.specs.List.{list_all}
use Rattle.std.specs.Str.{chars}
use Rattle.std.specs.Str.Parse.{digits_value}
use Rattle.std.proofs.lemmas.Bool.{false≢true}
use Rattle.std.proofs.lemmas.List.{append-nil}
use Rattle.qq_base.specs.declared.rule.Rule.TheVariants.{BadCharacter, LiteralRange, FloatLiteral}
use Rattle.qasm_lexer.specs.Characters.{is_digit_in}
use Rattle.qasm_lexer.specs.Spelling.{AreDigits, IsDecimal, IsVersion, Spells, IsTooLarge, numeral_value}
use Rattle.qasm_lexer.specs.Scan.{Cuts, StopsAt, SkipsPassing, SkipsSome, SkipsExponent, BeginsExponent}
use Rattle.qasm_lexer.specs.Tokens.{IsLongest, IsRefused}
use Rattle.qasm_lexer.specs.declared.token.TokenKind.{TokenKind}
use Rattle.qasm_lexer.specs.declared.token.TokenKind.TheVariants.{Version}
use Rattle.qasm_lexer.proofs.Cutting.{chars_cut, cut_twice}
use Rattle.qasm_lexer.proofs.Passing.{and_first, and_second}
use Rattle.qasm_lexer.proofs.Numerals.{cons_tail}
use Rattle.qasm_lexer.proofs.Starts.{AtPoint, spelled_at}
use Rattle.qasm_lexer.proofs.NumberLaws.{DigitsThen, pointed_place, scaled_place}
use Rattle.qasm_lexer.proofs.DecimalLaws.{Scale, Scaled, Plain, PointAt, point_spelling, point_longest, point_decimal, NoVersion, NotThere, NoFront, NoBack, WithExponent, point_no_version, ExponentAt, exponent_at_longest, exponent_at_decimal, exponent_at_no_version}
use Rattle.qasm_lexer.proofs.NumberSteps.{cut_something, front_chars}

-- what `Finds` says of a token and the rest behind it
abbrev pub Found : Bool → List ℕ → TokenKind → List ℕ → Type 0
Found version text kind end = (front : List ℕ) × Cuts text front end × Spells version front kind × IsLongest version (chars text) front (chars end) × ¬ (IsTooLarge front kind)

pub digits_then : {text rest : List ℕ} (skip : SkipsPassing (is_digit_in 10) text rest) → DigitsThen (chars text) skip.front (chars rest)
digits_then skip = record { split = chars_cut skip.cuts; each = skip.each; stops = skip.stops }

-- digits stand first where a digit does
pub front_some : (p : ℕ → Bool) {text rest : List ℕ} (skip : SkipsPassing p text rest) (d : ℕ) (ds : List ℕ) → chars text ≡ d ∷ ds → p d ≡ true → 0 < length skip.front
front_some p {text} {rest} skip d ds e h = some skip.front (chars_cut skip.cuts)
  where
    some : (front : List ℕ) → chars text ≡ front ++ chars rest → 0 < length front
    some [] split = absurd (false≢true (sym (subst (StopsAt p) (sym split ∙ e) skip.stops) ∙ h))
    some (f ∷ fs) split = omega arith

filter_all : (p : ℕ → Bool) (cs : List ℕ) → list_all p cs ≡ true → filter p cs ≡ cs
filter_all p [] h = refl
filter_all p (c ∷ cs) h =
    ap (λ b. cond b (c ∷ filter p cs) (filter p cs)) (and_first (p c) _ h) ∙ ap (λ x. c ∷ x) (filter_all p cs (and_second (p c) _ h))

-- the value of decimal digits
pub digits_number : (cs : List ℕ) → list_all (is_digit_in 10) cs ≡ true → numeral_value 10 cs ≡ digits_value 10 cs
digits_number cs h = ap (digits_value 10) (filter_all (is_digit_in 10) cs h)

-- digits and an exponent are refused
pub float_at_exponent : (version : Bool) {text point : List ℕ} (skip : SkipsPassing (is_digit_in 10) text point) → 0 < length skip.front → (r : Option (Bor (List ℕ))) → is_some r ≡ true → MatchOption r (¬ (BeginsExponent (chars point))) (λ b. SkipsExponent point b.now) → IsRefused version (chars text) FloatLiteral
float_at_exponent version skip some None is m = absurd (false≢true is)
float_at_exponent version {text} {point} skip some (Some b) is m =
    let at : ExponentAt (chars text) skip.front m.front (chars b.now) = record {
      digits = record { split = chars_cut skip.cuts ∙ ap (λ x. skip.front ++ x) (chars_cut m.cuts); each = skip.each; stops = subst (StopsAt (is_digit_in 10)) (chars_cut m.cuts) skip.stops };
      some = some;
      scale = m.exponent;
      stops = m.stops;
    } in
    (skip.front ++ m.front, chars b.now, exponent_at_longest at version, (exponent_at_decimal at, exponent_at_no_version at version))

pub no_exponent_here : (point : List ℕ) (r : Option (Bor (List ℕ))) → is_some r ≡ false → MatchOption r (¬ (BeginsExponent (chars point))) (λ b. SkipsExponent point b.now) → ¬ (BeginsExponent (chars point))
no_exponent_here point None is m = m
no_exponent_here point (Some b) is m = absurd (false≢true (sym is))

-- what stands at a point
point_at : {text point fraction end exponent behind : List ℕ} (front : SkipsPassing (is_digit_in 10) text point) → Cuts point (46 ∷ []) fraction → (back : SkipsPassing (is_digit_in 10) fraction end) → 0 < length front.front + length back.front → chars end ≡ exponent ++ behind → Scale exponent behind → PointAt (chars text) front.front back.front exponent behind
point_at {text} {point} {fraction} {end} {exponent} {behind} front point_cut back some split scale =
    let tail : chars point ≡ 46 ∷ (back.front ++ (exponent ++ behind)) = chars_cut point_cut ∙ ap (λ x. 46 ∷ x) (chars_cut back.cuts ∙ ap (λ x. back.front ++ x) split) in
    record {
      digits = record { split = chars_cut front.cuts ∙ ap (λ x. front.front ++ x) tail; each = front.each; stops = refl };
      back_each = back.each;
      back_stops = subst (StopsAt (is_digit_in 10)) split back.stops;
      some = some;
      scale = scale;
    }

-- why digits with a point are refused
pub data WhyNot (version : Bool) (front back : List ℕ) (r : Option (Bor (List ℕ))) : Type 0 where
  Never : version ≡ false → WhyNot version front back r
  FrontEmpty : front ≡ [] → WhyNot version front back r
  BackEmpty : back ≡ [] → WhyNot version front back r
  HasScale : is_some r ≡ true → WhyNot version front back r

pub float_at_point : (version : Bool) {text point fraction end : List ℕ} (front : SkipsPassing (is_digit_in 10) text point) → Cuts point (46 ∷ []) fraction → (back : SkipsPassing (is_digit_in 10) fraction end) → 0 < length front.front + length back.front → (r : Option (Bor (List ℕ))) → MatchOption r (¬ (BeginsExponent (chars end))) (λ b. SkipsExponent end b.now) → WhyNot version front.front back.front r → IsRefused version (chars text) FloatLiteral
float_at_point version {text} {point} {fraction} {end} front point_cut back some None m why =
    let at : PointAt (chars text) front.front back.front [] (chars end) = point_at front point_cut back some refl (Plain refl m) in
    (point_spelling front.front back.front [], chars end, point_longest at version, (point_decimal at, point_no_version at version (reason why)))
  where
    reason : WhyNot version front.front back.front None → NoVersion version front.front back.front []
    reason (Never h) = NotThere h
    reason (FrontEmpty h) = NoFront h
    reason (BackEmpty h) = NoBack h
    reason (HasScale h) = absurd (false≢true h)
float_at_point version {text} {point} {fraction} {end} front point_cut back some (Some b) m why =
    let at : PointAt (chars text) front.front back.front m.front (chars b.now) = point_at front point_cut back some (chars_cut m.cuts) (Scaled m.exponent m.stops) in
    (point_spelling front.front back.front m.front, chars b.now, point_longest at version, (point_decimal at, point_no_version at version (WithExponent m.exponent)))

-- a point with no digits begins no token
pub lone_point : (version : Bool) {text point fraction end : List ℕ} (front : SkipsPassing (is_digit_in 10) text point) → Cuts point (46 ∷ []) fraction → (back : SkipsPassing (is_digit_in 10) fraction end) → front.front ≡ [] → back.front ≡ [] → IsRefused version (chars text) BadCharacter
lone_point version {text} {point} {fraction} {end} front point_cut back no_front no_back =
    (46, chars fraction, whole, refl, refl, λ other more e s. not_decimal other more e (spelled_at AtPoint version 46 (chars fraction) other more refl (sym whole ∙ e) s))
  where
    whole : chars text ≡ 46 ∷ chars fraction
    whole = chars_cut front.cuts ∙ ap (λ f. f ++ chars point) no_front ∙ chars_cut point_cut

    stops : StopsAt (is_digit_in 10) (chars fraction)
    stops = subst (StopsAt (is_digit_in 10)) (sym (chars_cut back.cuts ∙ ap (λ f. f ++ chars end) no_back)) back.stops

    begins_digit : (digits tail : List ℕ) → IsTrue (list_all (is_digit_in 10) digits) → 0 < length digits → chars fraction ≡ digits ++ tail → ⊥
    begins_digit [] tail each some e = omega arith
    begins_digit (d ∷ ds) tail each some e = false≢true (sym (subst (StopsAt (is_digit_in 10)) e stops) ∙ and_first (is_digit_in 10 d) _ each)

    not_decimal : (other more : List ℕ) → chars text ≡ other ++ more → IsDecimal other → ⊥
    not_decimal other more e (inl p) =
        let place = pointed_place other more (digits_then front) p e in
        let none : p.front ≡ [] = sym place.0 ∙ no_front in
        begins_digit p.back (p.exponent ++ more) p.back_digits (omega (arith, p.some, ap length none)) (cons_tail (sym (chars_cut point_cut) ∙ place.1))
    not_decimal other more e (inr s) =
        let place = scaled_place other more (digits_then front) s e in
        omega (arith, s.front_digits.some, ap length (sym place.0 ∙ no_front))

-- a version with a point
module _ {text point fraction end : List ℕ} (front : SkipsSome (is_digit_in 10) text point) (point_cut : Cuts point (46 ∷ []) fraction) (back : SkipsSome (is_digit_in 10) fraction end) (no_exponent : ¬ (BeginsExponent (chars end))) where
  version_at : PointAt (chars text) front.0.front back.0.front [] (chars end)
  version_at =
      let some = cut_something front.0.cuts front.1 in
      point_at front.0 point_cut back.0 (omega (arith, some)) refl (Plain refl no_exponent)

  are_front : AreDigits front.0.front
  are_front = record { some = cut_something front.0.cuts front.1; each = front.0.each }

  are_back : AreDigits back.0.front
  are_back = record { some = cut_something back.0.cuts back.1; each = back.0.each }

  version_cut : Cuts text (point_spelling front.0.front back.0.front []) end
  version_cut =
      let all = cut_twice (cut_twice front.0.cuts point_cut) back.0.cuts in
      subst (λ f. Cuts text f end) (append_assoc front.0.front (46 ∷ []) back.0.front ∙ sym (append-nil (front.0.front ++ 46 ∷ back.0.front))) all

  version_is : IsVersion (point_spelling front.0.front back.0.front []) (digits_value 10 front.0.front) (Some (digits_value 10 back.0.front))
  version_is = (front.0.front, back.0.front, append-nil (front.0.front ++ 46 ∷ back.0.front), are_front, are_back, refl, refl)

  pub version_found : (major minor : ℕ) → (major < 2 ^ 32) × (major ≡ digits_value 10 front.0.front) → (minor < 2 ^ 32) × (minor ≡ digits_value 10 back.0.front) → Found true text (Version major (Some minor)) end
  version_found major minor a b = (
    point_spelling front.0.front back.0.front [],
    version_cut,
    (refl, subst (λ x. IsVersion (point_spelling front.0.front back.0.front []) x (Some minor)) (sym a.1) (subst (λ x. IsVersion (point_spelling front.0.front back.0.front []) (digits_value 10 front.0.front) (Some x)) (sym b.1) version_is)),
    point_longest version_at true,
    λ large. ⊎_elim (λ (h : 2 ^ 32 - 1 < major). omega (arith, a.0)) (λ (h : 2 ^ 32 - 1 < minor). omega (arith, b.0)) large,
  )

  pub version_too_large : ((2 ^ 32 - 1 < digits_value 10 front.0.front) ⊎ (2 ^ 32 - 1 < digits_value 10 back.0.front)) → IsRefused true (chars text) LiteralRange
  version_too_large large =
      (point_spelling front.0.front back.0.front [], chars end, Version (digits_value 10 front.0.front) (Some (digits_value 10 back.0.front)), point_longest version_at true, (refl, version_is), large)

-- the value of the digits that are cut off
pub value_cut : {text rest : List ℕ} (skip : SkipsPassing (is_digit_in 10) text rest) (bytes : List ℕ) → text ≡ bytes ++ rest → numeral_value 10 (chars bytes) ≡ digits_value 10 skip.front
value_cut skip bytes e = ap (numeral_value 10) (front_chars bytes skip.cuts e) ∙ digits_number skip.front skip.each

pub none_false : (a b : Bool) → a ≡ not b → b ≡ false → a ≡ true
none_false a b e h = e ∙ ap not h

pub small_is : (v n w : ℕ) → (w < 2 ^ 32) × (v ≡ w) → w ≡ n → (v < 2 ^ 32) × (v ≡ n)
small_is v n w h e = (omega (arith, h.0, h.1), h.1 ∙ e)

pub large_is : (n w : ℕ) → ¬ (w < 2 ^ 32) → w ≡ n → 2 ^ 32 - 1 < n
large_is n w h e = not_small n (λ k. h (subst (λ x. x < 2 ^ 32) (sym e) k))
  where
    not_small : (n : ℕ) → ¬ (n < 2 ^ 32) → 2 ^ 32 - 1 < n
    not_small n h = omega arith

-- some digits stand before the point or behind it
pub some_digits : {text point fraction end : List ℕ} (front : SkipsPassing (is_digit_in 10) text point) (back : SkipsPassing (is_digit_in 10) fraction end) → (length point < length text) ⊎ (length end < length fraction) → 0 < length front.front + length back.front
some_digits front back (inl h) = let some = cut_something front.cuts h in omega (arith, some)
some_digits front back (inr h) = let some = cut_something back.cuts h in omega (arith, some)
