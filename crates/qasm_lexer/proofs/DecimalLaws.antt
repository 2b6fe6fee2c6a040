-- Decimals, and versions with a point: the longest spelling at digits with a point or an exponent.
use Rattle.std.proofs.Common.{◌≡◌, ℕ, ◌+◌, ◌<◌, ◌≤◌, ◌⊎◌, Bool, true, false, List, [], ◌∷◌, ◌++◌, length, Option, None, Some, sym, refl, ap, ◌∙◌, subst, arith, inl, inr, ⊎_elim, length-append, append_assoc}
use Rattle.std.specs.Prelude.{IsTrue}
use Rattle.std.specs.List.{list_all}
use Rattle.std.proofs.lemmas.Bool.{false≢true}
use Rattle.std.proofs.lemmas.List.{append-nil}
use Rattle.qasm_lexer.specs.Characters.{is_digit_in}
use Rattle.qasm_lexer.specs.Spelling.{AreDigits, IsExponent, IsPointed, IsScaled, IsDecimal, IsVersion, IsSpelled, IsNoVersion}
use Rattle.qasm_lexer.specs.Scan.{StopsAt, BeginsExponent}
use Rattle.qasm_lexer.specs.Tokens.{IsLongest}
use Rattle.qasm_lexer.proofs.Cutting.{cons≢nil}
use Rattle.qasm_lexer.proofs.Passing.{and_first, and_second}
use Rattle.qasm_lexer.proofs.Numerals.{cons_tail}
use Rattle.qasm_lexer.proofs.Starts.{MaySpell, AtDigit, AtPoint, digit_start, spelled_at}
use Rattle.qasm_lexer.proofs.Fronts.{run_longest, run_unique, exponent_longest, exponent_stops, exponent_no_point}
use Rattle.qasm_lexer.proofs.NumberLaws.{DigitsThen, point_ends, exponent_ends, whole_short, version_short, version_place, pointed_place, scaled_place}

-- an exponent and what stands behind it, or no exponent
pub data Scale (exponent behind : List ℕ) : Type 0 where
  Scaled : IsExponent exponent → StopsAt (is_digit_in 10) behind → Scale exponent behind
  Plain : exponent ≡ [] → ¬ (BeginsExponent behind) → Scale exponent behind

-- digits or none, a point, digits or none, and an exponent or none
pub record PointAt (cs front back exponent behind : List ℕ) : Type 0 where
  pub digits : DigitsThen cs front (46 ∷ (back ++ (exponent ++ behind)))
  pub back_each : IsTrue (list_all (is_digit_in 10) back)
  pub back_stops : StopsAt (is_digit_in 10) (exponent ++ behind)
  pub some : 0 < length front + length back
  pub scale : Scale exponent behind

-- the spelling
abbrev pub point_spelling : List ℕ → List ℕ → List ℕ → List ℕ
point_spelling front back exponent = front ++ 46 ∷ back ++ exponent

pub point_length : (front back exponent : List ℕ) → length (point_spelling front back exponent) ≡ length front + length back + length exponent + 1
point_length front back exponent =
    omega (arith, length-append (front ++ 46 ∷ back) exponent, length-append front (46 ∷ back))

module _ {cs front back exponent behind : List ℕ} (at : PointAt cs front back exponent behind) where
  -- another exponent is not longer
  scale_longest : (other more : List ℕ) → exponent ++ behind ≡ other ++ more → IsExponent other → length other ≤ length exponent
  scale_longest other more e x = by_scale at.scale
    where
      by_scale : Scale exponent behind → length other ≤ length exponent
      by_scale (Scaled y stops) = exponent_longest exponent behind other more e y stops x
      by_scale (Plain none no_exponent) = absurd (no_exponent (other, more, sym (ap (λ y. y ++ behind) none) ∙ e, x))

  pointed_short : (other more : List ℕ) → cs ≡ other ++ more → IsPointed other → length other ≤ length front + length back + length exponent + 1
  pointed_short other more e p =
      let place = pointed_place other more at.digits p e in
      let tails = cons_tail place.1 in
      ⊎_elim
      (λ (none : p.exponent ≡ []).
      let short = run_longest (is_digit_in 10) back (exponent ++ behind) p.back (p.exponent ++ more) tails at.back_stops p.back_digits in
      omega (arith, short, ap length place.0, ap length p.split, ap length none, point_length p.front p.back p.exponent))
      (λ (x : IsExponent p.exponent).
      let same = run_unique (is_digit_in 10) back (exponent ++ behind) p.back (p.exponent ++ more) tails at.back_stops (exponent_stops p.exponent more x) at.back_each p.back_digits in
      let short = scale_longest p.exponent more same.1 x in
      omega (arith, short, ap length place.0, ap length same.0, ap length p.split, point_length p.front p.back p.exponent))
      p.scale

  scaled_not : (other more : List ℕ) → cs ≡ other ++ more → IsScaled other → ⊥
  scaled_not other more e s =
      let place = scaled_place other more at.digits s e in
      exponent_no_point s.exponent more (back ++ (exponent ++ behind)) s.scale place.1

  version_bound : (other more : List ℕ) (major : ℕ) (minor : Option ℕ) → cs ≡ other ++ more → IsVersion other major minor → length other ≤ length front + length back + length exponent + 1
  version_bound other more major None e v =
      let short = version_short other more at.digits v.0 e in
      omega (arith, short)
  version_bound other more major (Some minor) e v =
      let place = version_place other more v.0 v.1 at.digits v.3.each v.2 e in
      let short = run_longest (is_digit_in 10) back (exponent ++ behind) v.1 more (cons_tail place.1) at.back_stops v.4.each in
      omega (arith, short, ap length place.0, ap length v.2, length-append v.0 (46 ∷ v.1))

  decimal_bound : (other more : List ℕ) → cs ≡ other ++ more → IsDecimal other → length other ≤ length front + length back + length exponent + 1
  decimal_bound other more e (inl p) = pointed_short other more e p
  decimal_bound other more e (inr s) = absurd (scaled_not other more e s)

  digit_bound : (other more : List ℕ) → cs ≡ other ++ more → MaySpell AtDigit other → length other ≤ length front + length back + length exponent + 1
  digit_bound other more e (inl w) =
      let short = whole_short cs front (back ++ (exponent ++ behind)) other more 46 w.0 at.digits.split at.digits.each point_ends w.1 e in
      omega (arith, short)
  digit_bound other more e (inr (inl v)) = version_bound other more v.0 v.1 e v.2
  digit_bound other more e (inr (inr d)) = decimal_bound other more e d

  spelled_bound : (version : Bool) (other more : List ℕ) → cs ≡ other ++ more → IsSpelled version other → length other ≤ length front + length back + length exponent + 1
  spelled_bound version other more e s = by_front front at.digits.split at.digits.each
    where
      by_front : (digits : List ℕ) → cs ≡ digits ++ 46 ∷ (back ++ (exponent ++ behind)) → IsTrue (list_all (is_digit_in 10) digits) → length other ≤ length front + length back + length exponent + 1
      by_front [] split each = decimal_bound other more e (spelled_at AtPoint version 46 (back ++ (exponent ++ behind)) other more refl (sym split ∙ e) s)
      by_front (d ∷ ds) split each =
          digit_bound other more e (spelled_at AtDigit version d (ds ++ 46 ∷ (back ++ (exponent ++ behind))) other more (digit_start d (and_first (is_digit_in 10 d) _ each)) (sym split ∙ e) s)

  pub point_split : cs ≡ point_spelling front back exponent ++ behind
  point_split = at.digits.split ∙ sym (append_assoc (front ++ 46 ∷ back) exponent behind ∙ append_assoc front (46 ∷ back) (exponent ++ behind))

  -- the spelling is the longest
  pub point_longest : (version : Bool) → IsLongest version cs (point_spelling front back exponent) behind
  point_longest version = record {
    split = point_split;
    longest = λ other more e s. let bound = spelled_bound version other more e s in omega (arith, bound, point_length front back exponent);
  }

  -- and a decimal
  pub point_decimal : IsDecimal (point_spelling front back exponent)
  point_decimal = inl (record {
    front = front;
    back = back;
    exponent = exponent;
    split = refl;
    front_digits = at.digits.each;
    back_digits = at.back_each;
    some = at.some;
    scale = by_scale at.scale;
  })
    where
      by_scale : Scale exponent behind → (exponent ≡ []) ⊎ IsExponent exponent
      by_scale (Scaled y stops) = inr y
      by_scale (Plain none no_exponent) = inl none

pub list_all_at : (p : ℕ → Bool) (a : List ℕ) (x : ℕ) (r : List ℕ) → IsTrue (list_all p (a ++ x ∷ r)) → p x ≡ true
list_all_at p [] x r h = and_first (p x) _ h
list_all_at p (y ∷ a) x r h = list_all_at p a x r (and_second (p y) _ h)

list_all_back : (p : ℕ → Bool) (a b : List ℕ) → IsTrue (list_all p (a ++ b)) → IsTrue (list_all p b)
list_all_back p [] b h = h
list_all_back p (y ∷ a) b h = list_all_back p a b (and_second (p y) _ h)

stops_all : (p : ℕ → Bool) (cs : List ℕ) → StopsAt p (cs ++ []) → IsTrue (list_all p cs) → cs ≡ []
stops_all p [] stops h = refl
stops_all p (c ∷ cs) stops h = absurd (false≢true (sym stops ∙ and_first (p c) _ h))

exponent_some : (cs : List ℕ) → IsExponent cs → cs ≡ [] → ⊥
exponent_some cs x e = cons≢nil (sym x.split ∙ e)

-- why digits with a point are no version: none may stand there, or a part is missing, or an exponent stands
pub data NoVersion (version : Bool) (front back exponent : List ℕ) : Type 0 where
  NotThere : version ≡ false → NoVersion version front back exponent
  NoFront : front ≡ [] → NoVersion version front back exponent
  NoBack : back ≡ [] → NoVersion version front back exponent
  WithExponent : IsExponent exponent → NoVersion version front back exponent

module _ {cs front back exponent behind : List ℕ} (at : PointAt cs front back exponent behind) where
  no_tail : (digits : List ℕ) → AreDigits digits → digits ≡ back ++ exponent → back ≡ [] → ⊥
  no_tail digits are e none = by_scale at.scale
    where
      same : digits ≡ exponent
      same = e ∙ ap (λ b. b ++ exponent) none

      by_scale : Scale exponent behind → ⊥
      by_scale (Scaled y stops) = exponent_some exponent y (stops_all (is_digit_in 10) exponent (exponent_stops exponent [] y) (sym (ap (list_all (is_digit_in 10)) same) ∙ are.each))
      by_scale (Plain empty no_exponent) = omega (arith, are.some, ap length same, ap length empty)

  version_parts : (other_front other_back : List ℕ) → AreDigits other_front → AreDigits other_back → point_spelling front back exponent ≡ other_front ++ 46 ∷ other_back → (front ≡ other_front) × (back ++ exponent ≡ other_back)
  version_parts other_front other_back fronts backs e =
      let same = run_unique (is_digit_in 10) front (46 ∷ (back ++ exponent)) other_front (46 ∷ other_back) (sym (append_assoc front (46 ∷ back) exponent) ∙ e) refl refl at.digits.each fronts.each in
      (same.0, cons_tail same.1)

  pub point_no_version : (version : Bool) → NoVersion version front back exponent → IsNoVersion version (point_spelling front back exponent)
  point_no_version version why is major None v =
      absurd (false≢true (list_all_at (is_digit_in 10) front 46 (back ++ exponent) (ap (list_all (is_digit_in 10)) (sym (append_assoc front (46 ∷ back) exponent)) ∙ v.0.each)))
  point_no_version version (NotThere h) is major (Some minor) v = absurd (false≢true (sym h ∙ is))
  point_no_version version (NoFront h) is major (Some minor) v =
      let parts = version_parts v.0 v.1 v.3 v.4 v.2 in
      omega (arith, v.3.some, ap length parts.0, ap length h)
  point_no_version version (NoBack h) is major (Some minor) v =
      let parts = version_parts v.0 v.1 v.3 v.4 v.2 in
      no_tail v.1 v.4 (sym parts.1) h
  point_no_version version (WithExponent x) is major (Some minor) v =
      let parts = version_parts v.0 v.1 v.3 v.4 v.2 in
      exponent_some exponent x (stops_all (is_digit_in 10) exponent (exponent_stops exponent [] x) (list_all_back (is_digit_in 10) back exponent (ap (list_all (is_digit_in 10)) parts.1 ∙ v.4.each)))

-- digits and an exponent
pub record ExponentAt (cs front exponent behind : List ℕ) : Type 0 where
  pub digits : DigitsThen cs front (exponent ++ behind)
  pub some : 0 < length front
  pub scale : IsExponent exponent
  pub stops : StopsAt (is_digit_in 10) behind

module _ {cs front exponent behind : List ℕ} (at : ExponentAt cs front exponent behind) where
  -- behind the digits stands the letter
  letter_split : cs ≡ front ++ at.scale.letter ∷ (at.scale.sign ++ (at.scale.digits ++ behind))
  letter_split =
      at.digits.split ∙ ap (λ x. front ++ (x ++ behind)) at.scale.split ∙ ap (λ x. front ++ at.scale.letter ∷ x) (append_assoc at.scale.sign at.scale.digits behind)

  no_point_there : (tail : List ℕ) → exponent ++ behind ≡ 46 ∷ tail → ⊥
  no_point_there tail e = exponent_no_point exponent behind tail at.scale (sym e)

  scaled_bound : (other more : List ℕ) → cs ≡ other ++ more → MaySpell AtDigit other → length other ≤ length front + length exponent
  scaled_bound other more e (inl w) =
      let short = whole_short cs front _ other more at.scale.letter w.0 letter_split at.digits.each (exponent_ends at.scale.letter at.scale.is_letter) w.1 e in
      omega (arith, short)
  scaled_bound other more e (inr (inl v)) = by_minor v.1 v.2
    where
      by_minor : (minor : Option ℕ) → IsVersion other v.0 minor → length other ≤ length front + length exponent
      by_minor None is = let short = version_short other more at.digits is.0 e in omega (arith, short)
      by_minor (Some minor) is = absurd (no_point_there (is.1 ++ more) (version_place other more is.0 is.1 at.digits is.3.each is.2 e).1)
  scaled_bound other more e (inr (inr (inl p))) = absurd (no_point_there (p.back ++ (p.exponent ++ more)) (pointed_place other more at.digits p e).1)
  scaled_bound other more e (inr (inr (inr s))) =
      let place = scaled_place other more at.digits s e in
      let short = exponent_longest exponent behind s.exponent more place.1 at.scale at.stops s.scale in
      omega (arith, short, ap length place.0, ap length s.split, length-append s.front s.exponent)

  scaled_spelled : (version : Bool) (other more : List ℕ) → cs ≡ other ++ more → IsSpelled version other → length other ≤ length front + length exponent
  scaled_spelled version other more e s = by_front front at.digits.split at.digits.each at.some
    where
      by_front : (digits : List ℕ) → cs ≡ digits ++ (exponent ++ behind) → IsTrue (list_all (is_digit_in 10) digits) → 0 < length digits → length other ≤ length front + length exponent
      by_front [] split each some = absurd (omega arith)
      by_front (d ∷ ds) split each some =
          scaled_bound other more e (spelled_at AtDigit version d (ds ++ (exponent ++ behind)) other more (digit_start d (and_first (is_digit_in 10 d) _ each)) (sym split ∙ e) s)

  pub exponent_at_longest : (version : Bool) → IsLongest version cs (front ++ exponent) behind
  exponent_at_longest version = record {
    split = at.digits.split ∙ sym (append_assoc front exponent behind);
    longest = λ other more e s. let bound = scaled_spelled version other more e s in omega (arith, bound, length-append front exponent);
  }

  front_are : AreDigits front
  front_are = record { some = at.some; each = at.digits.each }

  pub exponent_at_decimal : IsDecimal (front ++ exponent)
  exponent_at_decimal = inr (record { front = front; exponent = exponent; split = refl; front_digits = front_are; scale = at.scale })

  pub exponent_at_no_version : (version : Bool) → IsNoVersion version (front ++ exponent)
  exponent_at_no_version version is major None v =
      absurd (exponent_some exponent at.scale (stops_all (is_digit_in 10) exponent (exponent_stops exponent [] at.scale) (list_all_back (is_digit_in 10) front exponent v.0.each)))
  exponent_at_no_version version is major (Some minor) v =
      let same = run_unique (is_digit_in 10) front exponent v.0 (46 ∷ v.1) v.2 (subst (StopsAt (is_digit_in 10)) (append-nil exponent) (exponent_stops exponent [] at.scale)) refl at.digits.each v.3.each in
      exponent_no_point exponent [] v.1 at.scale (sym same.1 ∙ sym (append-nil exponent))
