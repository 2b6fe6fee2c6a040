-- What the scanners of whole numbers, versions without a point and hardware qubits find.
use Rattle.std.proofs.Common.{◌≡◌, ℕ, ◌+◌, ◌-◌, ◌<◌, ◌≤◌, ◌^◌, ◌⊎◌, Bool, true, false, ◌||◌, ◌==◌, List, [], ◌∷◌, ◌++◌, length, None, sym, refl, ap, ◌∙◌, subst, arith, inl, inr, length-append}
use Rattle.std.specs.Prelude.{IsTrue}
use Rattle.std.specs.List.{list_all}
use Rattle.std.specs.Str.{chars}
use Rattle.std.specs.Str.Parse.{digits_value}
use Rattle.std.proofs.lemmas.Bool.{false≢true}
use Rattle.std.proofs.lemmas.Str.{encodes-chars}
use Rattle.std.proofs.lemmas.List.{append_cancel_left}
use lib.Utf8.{encodes}
use Rattle.qq_base.specs.declared.rule.Rule.TheVariants.{BadCharacter, LiteralRange}
use Rattle.qasm_lexer.specs.Characters.{is_digit_in}
use Rattle.qasm_lexer.specs.Spelling.{AreDigits, IsSpelled, numeral_value}
use Rattle.qasm_lexer.specs.Scan.{Cuts, StopsAt, SkipsPassing, SkipsBased, SkipsDigits, BeginsExponent, NoBased, begins_step}
use Rattle.qasm_lexer.specs.Tokens.{IsLongest, IsRefused}
use Rattle.qasm_lexer.specs.declared.token.TokenKind.TheVariants.{Whole, Version, Hardware}
use Rattle.qasm_lexer.proofs.Cutting.{chars_cut, cut_twice}
use Rattle.qasm_lexer.proofs.Numerals.{cons_head, cons_tail}
use Rattle.qasm_lexer.proofs.Starts.{AtDollar, spelled_at}
use Rattle.qasm_lexer.proofs.Fronts.{run_longest}
use Rattle.qasm_lexer.proofs.Longest.{dollar_bound, dollar_longest}
use Rattle.qasm_lexer.proofs.WholeLaws.{WholeAt, BasedAt, based_longest, based_is_whole, based_no_version, NumeralAt, numeral_longest, numeral_is_whole, numeral_no_version}
use Rattle.qasm_lexer.proofs.NumberSteps.{front_chars}
use Rattle.qasm_lexer.proofs.NumberFinds.{Found, digits_then, digits_number}

or_first : (a b : Bool) → (a || b) ≡ false → a ≡ false
or_first true b h = h
or_first false b h = refl

pub whole_at : {text point : List ℕ} (skip : SkipsPassing (is_digit_in 10) text point) → StopsAt (λ c. c == 46) (chars point) → ¬ (BeginsExponent (chars point)) → WholeAt (chars text) skip.front (chars point)
whole_at skip no_point no_exponent = record { context = digits_then skip; no_point = no_point; no_exponent = no_exponent }

-- two cuts of a text that leave as much cut the same
pub same_cut : {text a b r s : List ℕ} → Cuts text a r → Cuts text b s → length r ≡ length s → a ≡ b
same_cut {text} {a} {b} {r} {s} one two h =
    sym one.spelled ∙ ap chars (front_same one.bytes two.bytes r s (sym one.split ∙ two.split) (omega (arith, h, ap length one.split, ap length two.split, length-append one.bytes r, length-append two.bytes s))) ∙ two.spelled
  where
    front_same : (x y r s : List ℕ) → x ++ r ≡ y ++ s → length x ≡ length y → x ≡ y
    front_same [] [] r s e h = refl
    front_same [] (y ∷ ys) r s e h = absurd (omega arith)
    front_same (x ∷ xs) [] r s e h = absurd (omega arith)
    front_same (x ∷ xs) (y ∷ ys) r s e h =
        ap (λ z. z ∷ xs) (cons_head e) ∙ ap (λ z. y ∷ z) (front_same xs ys r s (cons_tail e) (omega arith))

-- two cuts of a text behind the same characters leave the same
pub same_rest : {text a b r s : List ℕ} → Cuts text a r → Cuts text b s → a ≡ b → r ≡ s
same_rest {text} {a} {b} {r} {s} one two h =
    let bytes : one.bytes ≡ two.bytes = sym (encodes-chars one.bytes one.utf8) ∙ ap encodes (one.spelled ∙ h ∙ sym two.spelled) ∙ encodes-chars two.bytes two.utf8 in
    append_cancel_left two.bytes r s (ap (λ x. x ++ r) (sym bytes) ∙ sym one.split ∙ two.split)

module _ {text point digits end : List ℕ} {base : ℕ} (skip : SkipsPassing (is_digit_in 10) text point) (no_point : StopsAt (λ c. c == 46) (chars point)) (no_exponent : ¬ (BeginsExponent (chars point))) (based : SkipsBased text base digits end) where
  based_at : BasedAt (chars text) based.letter base based.digit based.front (chars end)
  based_at = record {
    names_base = based.names_base;
    split = chars_cut based.prefix_cut ∙ ap (λ x. 48 ∷ based.letter ∷ x) (chars_cut based.digits_cut);
    begins = based.begins;
    each = based.each;
    stops = based.stops;
  }

  based_value : (bytes : List ℕ) → digits ≡ bytes ++ end → numeral_value base (chars bytes) ≡ numeral_value base (based.digit ∷ based.front)
  based_value bytes e = ap (numeral_value base) (front_chars bytes based.digits_cut e)

  pub based_found : (version : Bool) (value : ℕ) (bytes : List ℕ) → digits ≡ bytes ++ end → (numeral_value base (chars bytes) < 2 ^ 64) × (value ≡ numeral_value base (chars bytes)) → Found version text (Whole value) end
  based_found version value bytes e h =
      let at = whole_at skip no_point no_exponent in
      (48 ∷ based.letter ∷ based.digit ∷ based.front, cut_twice based.prefix_cut based.digits_cut, (based_is_whole at based_at value (h.1 ∙ based_value bytes e), based_no_version at based_at version), based_longest at based_at version, λ large. omega (arith, h.0, h.1))

  pub based_too_large : (version : Bool) (bytes : List ℕ) → digits ≡ bytes ++ end → ¬ (numeral_value base (chars bytes) < 2 ^ 64) → IsRefused version (chars text) LiteralRange
  based_too_large version bytes e h =
      let at = whole_at skip no_point no_exponent in
      (48 ∷ based.letter ∷ based.digit ∷ based.front, chars end, Whole (numeral_value base (based.digit ∷ based.front)), based_longest at based_at version, (based_is_whole at based_at _ refl, based_no_version at based_at version), passes_bound _ _ h (based_value bytes e))
    where
      passes_bound : (v w : ℕ) → ¬ (v < 2 ^ 64) → v ≡ w → 2 ^ 64 - 1 < w
      passes_bound v w h e = omega arith

module _ {text point behind end : List ℕ} {digit : ℕ} (skip : SkipsPassing (is_digit_in 10) text point) (no_point : StopsAt (λ c. c == 46) (chars point)) (no_exponent : ¬ (BeginsExponent (chars point))) (first : Cuts text (digit ∷ []) behind) (begins : is_digit_in 10 digit ≡ true) (digits : SkipsDigits 10 behind end) where
  pub numeral_cut : Cuts text (digit ∷ digits.front) end
  numeral_cut = cut_twice first digits.cuts

  numeral_at : NoBased (chars text) → NumeralAt (chars text) digit digits.front (chars end)
  numeral_at no_based = record {
    split = chars_cut numeral_cut;
    begins = begins;
    each = digits.each;
    stops = digits.stops;
    no_based = no_based;
  }

  numeral_value_is : (bytes : List ℕ) → text ≡ bytes ++ end → numeral_value 10 (chars bytes) ≡ numeral_value 10 (digit ∷ digits.front)
  numeral_value_is bytes e = ap (numeral_value 10) (front_chars bytes numeral_cut e)

  -- the numeral has more than digits where it is longer than they are
  not_digits : (length end ≡ length point → ⊥) → AreDigits (digit ∷ digits.front) → ⊥
  not_digits differ are = by_lengths (run_longest (is_digit_in 10) skip.front (chars point) (digit ∷ digits.front) (chars end) (sym (chars_cut skip.cuts) ∙ chars_cut numeral_cut) skip.stops are.each) (run_longest (is_digit_in 10) (digit ∷ digits.front) (chars end) skip.front (chars point) (sym (chars_cut numeral_cut) ∙ chars_cut skip.cuts) (end_stops (chars end) digits.stops) skip.each)
    where
      end_stops : (cs : List ℕ) → begins_step 10 cs ≡ false → StopsAt (is_digit_in 10) cs
      end_stops [] h = tt
      end_stops (c ∷ []) h = h
      end_stops (c ∷ d ∷ cs) h = or_first (is_digit_in 10 c) _ h

      front_same : (x y r s : List ℕ) → x ++ r ≡ y ++ s → length x ≡ length y → x ≡ y
      front_same [] [] r s e h = refl
      front_same [] (y ∷ ys) r s e h = absurd (omega arith)
      front_same (x ∷ xs) [] r s e h = absurd (omega arith)
      front_same (x ∷ xs) (y ∷ ys) r s e h =
          ap (λ z. z ∷ xs) (cons_head e) ∙ ap (λ z. y ∷ z) (front_same xs ys r s (cons_tail e) (omega arith))

      by_lengths : length (digit ∷ digits.front) ≤ length skip.front → length skip.front ≤ length (digit ∷ digits.front) → ⊥
      by_lengths a b =
          let fronts = front_same (digit ∷ digits.front) skip.front (chars end) (chars point) (sym (chars_cut numeral_cut) ∙ chars_cut skip.cuts) (omega (arith, a, b)) in
          differ (ap length (same_rest numeral_cut skip.cuts fronts))

  -- why it is a whole number, and no version
  pub not_version : (version : Bool) → (version ≡ false) ⊎ (length end ≡ length point → ⊥) → IsTrue version → AreDigits (digit ∷ digits.front) → ⊥
  not_version version (inl h) is are = false≢true (sym h ∙ is)
  not_version version (inr h) is are = not_digits h are

  pub numeral_found : (version : Bool) (value : ℕ) (bytes : List ℕ) → NoBased (chars text) → (version ≡ false) ⊎ (length end ≡ length point → ⊥) → text ≡ bytes ++ end → (numeral_value 10 (chars bytes) < 2 ^ 64) × (value ≡ numeral_value 10 (chars bytes)) → Found version text (Whole value) end
  numeral_found version value bytes no_based why e h =
      let at = whole_at skip no_point no_exponent in
      let numeral = numeral_at no_based in
      (digit ∷ digits.front, numeral_cut, (numeral_is_whole at numeral value (h.1 ∙ numeral_value_is bytes e), numeral_no_version at numeral version (not_version version why)), numeral_longest at numeral version, λ large. omega (arith, h.0, h.1))

  pub numeral_too_large : (version : Bool) (bytes : List ℕ) → NoBased (chars text) → (version ≡ false) ⊎ (length end ≡ length point → ⊥) → text ≡ bytes ++ end → ¬ (numeral_value 10 (chars bytes) < 2 ^ 64) → IsRefused version (chars text) LiteralRange
  numeral_too_large version bytes no_based why e h =
      let at = whole_at skip no_point no_exponent in
      let numeral = numeral_at no_based in
      (digit ∷ digits.front, chars end, Whole (numeral_value 10 (digit ∷ digits.front)), numeral_longest at numeral version, (numeral_is_whole at numeral _ refl, numeral_no_version at numeral version (not_version version why)), passes_bound _ _ h (numeral_value_is bytes e))
    where
      passes_bound : (v w : ℕ) → ¬ (v < 2 ^ 64) → v ≡ w → 2 ^ 64 - 1 < w
      passes_bound v w h e = omega arith

  -- a version of digits alone
  are_digits : length end ≡ length point → AreDigits (digit ∷ digits.front)
  are_digits h = record { some = omega arith; each = ap (list_all (is_digit_in 10)) (same_cut numeral_cut skip.cuts h) ∙ skip.each }

  major_is : (bytes : List ℕ) → length end ≡ length point → text ≡ bytes ++ end → numeral_value 10 (chars bytes) ≡ digits_value 10 (digit ∷ digits.front)
  major_is bytes h e = numeral_value_is bytes e ∙ digits_number (digit ∷ digits.front) (are_digits h).each

  pub major_found : (version : Bool) → IsTrue version → (major : ℕ) (bytes : List ℕ) → NoBased (chars text) → length end ≡ length point → text ≡ bytes ++ end → (numeral_value 10 (chars bytes) < 2 ^ 32) × (major ≡ numeral_value 10 (chars bytes)) → Found version text (Version major None) end
  major_found version is major bytes no_based same e h =
      (digit ∷ digits.front, numeral_cut, (is, (are_digits same, h.1 ∙ major_is bytes same e)), numeral_longest (whole_at skip no_point no_exponent) (numeral_at no_based) version, λ large. omega (arith, h.0, h.1))

  pub major_too_large : (version : Bool) → IsTrue version → (bytes : List ℕ) → NoBased (chars text) → length end ≡ length point → text ≡ bytes ++ end → ¬ (numeral_value 10 (chars bytes) < 2 ^ 32) → IsRefused version (chars text) LiteralRange
  major_too_large version is bytes no_based same e h =
      (digit ∷ digits.front, chars end, Version (digits_value 10 (digit ∷ digits.front)) None, numeral_longest (whole_at skip no_point no_exponent) (numeral_at no_based) version, (is, (are_digits same, refl)), passes_bound _ _ h (major_is bytes same e))
    where
      passes_bound : (v w : ℕ) → ¬ (v < 2 ^ 32) → v ≡ w → 2 ^ 32 - 1 < w
      passes_bound v w h e = omega arith

-- a hardware qubit
module _ {text digits end : List ℕ} (cut : Cuts text (36 ∷ []) digits) (skip : SkipsPassing (is_digit_in 10) digits end) where
  dollar_split : chars text ≡ 36 ∷ (skip.front ++ chars end)
  dollar_split = chars_cut cut ∙ ap (λ x. 36 ∷ x) (chars_cut skip.cuts)

  bound_here : (version : Bool) (other more : List ℕ) → chars text ≡ other ++ more → IsSpelled version other → length other ≤ length skip.front + 1
  bound_here version other more e s = dollar_bound version skip.front (chars end) skip.stops other more (sym dollar_split ∙ e) s

  longest_here : (version : Bool) → IsLongest version (chars text) (36 ∷ skip.front) (chars end)
  longest_here version = subst (λ x. IsLongest version x (36 ∷ skip.front) (chars end)) (sym dollar_split) (dollar_longest version skip.front (chars end) skip.stops)

  dollar_value : (bytes : List ℕ) → digits ≡ bytes ++ end → numeral_value 10 (chars bytes) ≡ digits_value 10 skip.front
  dollar_value bytes e = ap (numeral_value 10) (front_chars bytes skip.cuts e) ∙ digits_number skip.front skip.each

  pub hardware_found : (version : Bool) (number : ℕ) (bytes : List ℕ) → 0 < length skip.front → digits ≡ bytes ++ end → (numeral_value 10 (chars bytes) < 2 ^ 32) × (number ≡ numeral_value 10 (chars bytes)) → Found version text (Hardware number) end
  hardware_found version number bytes some e h =
      (36 ∷ skip.front, cut_twice cut skip.cuts, (skip.front, refl, record { some = some; each = skip.each }, h.1 ∙ dollar_value bytes e), longest_here version, λ large. omega (arith, h.0, h.1))

  pub hardware_too_large : (version : Bool) (bytes : List ℕ) → 0 < length skip.front → digits ≡ bytes ++ end → ¬ (numeral_value 10 (chars bytes) < 2 ^ 32) → IsRefused version (chars text) LiteralRange
  hardware_too_large version bytes some e h =
      (36 ∷ skip.front, chars end, Hardware (digits_value 10 skip.front), longest_here version, (skip.front, refl, record { some = some; each = skip.each }, refl), passes_bound _ _ h (dollar_value bytes e))
    where
      passes_bound : (v w : ℕ) → ¬ (v < 2 ^ 32) → v ≡ w → 2 ^ 32 - 1 < w
      passes_bound v w h e = omega arith

  pub lone_dollar : (version : Bool) → skip.front ≡ [] → IsRefused version (chars text) BadCharacter
  lone_dollar version none = (
    36,
    skip.front ++ chars end,
    dollar_split,
    refl,
    refl,
    λ other more e s.
        let h = spelled_at AtDollar version 36 (skip.front ++ chars end) other more refl (sym dollar_split ∙ e) s in
        let short = bound_here version other more e s in
        omega (arith, short, ap length h.1.1, h.1.2.some, ap length none),
  )
