-- Whole numbers, and versions without a point: the longest spelling at digits with no point and no exponent.
use Rattle.std.proofs.Common.{◌≡◌, ℕ, ◌+◌, ◌≤◌, ◌⊎◌, Bool, true, false, ◌||◌, ◌==◌, List, [], ◌∷◌, ◌++◌, length, Option, None, Some, sym, refl, ap, ◌∙◌, subst, arith, inl, inr}
use Rattle.std.specs.Prelude.{IsTrue, if◌then◌else◌}
use Rattle.std.specs.List.{list_all}
use Rattle.std.proofs.lemmas.Bool.{false≢true}
use Rattle.std.proofs.lemmas.Bool.Decides.{Decides-eqb}
use Rattle.qasm_lexer.specs.Characters.{is_digit_in}
use Rattle.qasm_lexer.specs.Spelling.{Base, Binary, Octal, Decimal, Hexadecimal, radix, IsPrefix, is_numeral, goes_on, numeral_value, AreDigits, IsWhole, IsDecimal, IsVersion, IsNoVersion}
use Rattle.qasm_lexer.specs.Scan.{StopsAt, BeginsExponent, BaseLetter, NoBased, begins_step}
use Rattle.qasm_lexer.specs.Tokens.{IsLongest}
use Rattle.qasm_lexer.proofs.Cutting.{cons≢nil}
use Rattle.qasm_lexer.proofs.Passing.{and_first, and_second, and_true}
use Rattle.qasm_lexer.proofs.Numerals.{cons_head, cons_tail, either, goes_digit, longest_on}
use Rattle.qasm_lexer.proofs.Starts.{MaySpell, AtDigit, digit_start, spelled_at}
use Rattle.qasm_lexer.proofs.Fronts.{run_longest}
use Rattle.qasm_lexer.proofs.NumberLaws.{DigitsThen, in_numeral, numeral_class, NamesBase, prefix_parts, version_place, pointed_place, scaled_place}
use Rattle.qasm_lexer.proofs.DecimalLaws.{list_all_at}

-- digits, with neither a point nor an exponent behind them
pub record WholeAt (cs digits rest : List ℕ) : Type 0 where
  pub context : DigitsThen cs digits rest
  pub no_point : StopsAt (λ c. c == 46) rest
  pub no_exponent : ¬ (BeginsExponent rest)

point_stops : (rest tail : List ℕ) → StopsAt (λ c. c == 46) rest → rest ≡ 46 ∷ tail → ⊥
point_stops rest tail stops e = false≢true (sym (subst (StopsAt (λ c. c == 46)) e stops))

module _ {cs digits rest : List ℕ} (at : WholeAt cs digits rest) where
  pub no_decimal_at : (other more : List ℕ) → cs ≡ other ++ more → IsDecimal other → ⊥
  no_decimal_at other more e (inl p) = point_stops rest _ at.no_point (pointed_place other more at.context p e).1
  no_decimal_at other more e (inr s) = at.no_exponent (s.exponent, more, (scaled_place other more at.context s e).1, s.scale)

  pub no_minor_at : (other more : List ℕ) (major minor : ℕ) → cs ≡ other ++ more → IsVersion other major (Some minor) → ⊥
  no_minor_at other more major minor e v = point_stops rest _ at.no_point (version_place other more v.0 v.1 at.context v.3.each v.2 e).1

-- digits may stand behind a digit
pub digits_go_on : (base : ℕ) (cs : List ℕ) → list_all (is_digit_in base) cs ≡ true → goes_on base cs ≡ true
digits_go_on base [] h = refl
digits_go_on base (c ∷ []) h = and_first (is_digit_in base c) _ h
digits_go_on base (c ∷ d ∷ cs) h =
    goes_digit base c d cs (and_first (is_digit_in base c) _ h) ∙ digits_go_on base (d ∷ cs) (and_second (is_digit_in base c) _ h)

-- digits alone are a numeral
pub digits_numeral : (cs : List ℕ) → AreDigits cs → is_numeral 10 cs ≡ true
digits_numeral [] are = absurd (omega (arith, are.some))
digits_numeral (d ∷ ds) are = and_true (and_first (is_digit_in 10 d) _ are.each) (digits_go_on 10 ds (and_second (is_digit_in 10 d) _ are.each))

-- the base of a letter
abbrev letter_base : ℕ → ℕ
letter_base c = if (c == 98) || (c == 66) then 2 else (if c == 111 then 8 else 16)

second_is : {a b x y : ℕ} → a ∷ b ∷ [] ≡ x ∷ y ∷ [] → b ≡ y
second_is e = cons_head (cons_tail e)

prefix_base : (kind : Base) (letter : ℕ) → IsPrefix kind (48 ∷ letter ∷ []) → radix kind ≡ letter_base letter
prefix_base Binary letter (inl e) = sym (ap letter_base (second_is e))
prefix_base Binary letter (inr e) = sym (ap letter_base (second_is e))
prefix_base Octal letter e = sym (ap letter_base (second_is e))
prefix_base Decimal letter e = absurd (cons≢nil e)
prefix_base Hexadecimal letter (inl e) = sym (ap letter_base (second_is e))
prefix_base Hexadecimal letter (inr e) = sym (ap letter_base (second_is e))

-- one letter names one base
pub same_base : (one two : Base) (a b : ℕ) → IsPrefix one (48 ∷ a ∷ []) → IsPrefix two (48 ∷ b ∷ []) → a ≡ b → radix one ≡ radix two
same_base one two a b p q e = prefix_base one a p ∙ ap letter_base e ∙ sym (prefix_base two b q)

names_letter : (kind : Base) (letter : ℕ) → IsPrefix kind (48 ∷ letter ∷ []) → NamesBase letter
names_letter kind letter p = by_parts (prefix_parts kind (48 ∷ letter ∷ []) p)
  where
    by_parts : ((kind ≡ Decimal) × (48 ∷ letter ∷ [] ≡ [])) ⊎ ((l : ℕ) × (48 ∷ letter ∷ [] ≡ 48 ∷ l ∷ []) × NamesBase l) → NamesBase letter
    by_parts (inl q) = absurd (cons≢nil q.1)
    by_parts (inr q) = subst NamesBase (sym (second_is q.1)) q.2

eqb_is : (a b : ℕ) → (a == b) ≡ true → a ≡ b
eqb_is a b h = (Decides-eqb a b).0 h

pub not_in_numeral : (letter : ℕ) → NamesBase letter → in_numeral 10 letter ≡ false
not_in_numeral letter names = ap (λ b. b || (letter == 95)) names.no_digit ∙ no_mark (either (letter == 95))
  where
    no_mark : ((letter == 95) ≡ true) ⊎ ((letter == 95) ≡ false) → (letter == 95) ≡ false
    no_mark (inl h) = absurd (names.no_mark (eqb_is letter 95 h))
    no_mark (inr h) = h

-- a number that names its base, as long as it may be
pub record BasedAt (cs : List ℕ) (letter base digit : ℕ) (front after : List ℕ) : Type 0 where
  pub names_base : BaseLetter letter base
  pub split : cs ≡ 48 ∷ letter ∷ digit ∷ front ++ after
  pub begins : is_digit_in base digit ≡ true
  pub each : goes_on base front ≡ true
  pub stops : begins_step base after ≡ false

numeral_parts : (base d : ℕ) (cs : List ℕ) → is_numeral base (d ∷ cs) ≡ true → (is_digit_in base d ≡ true) × (goes_on base cs ≡ true)
numeral_parts base d cs h = (and_first (is_digit_in base d) _ h, and_second (is_digit_in base d) _ h)

module _ {cs digits rest front after : List ℕ} {letter base digit : ℕ} (whole : WholeAt cs digits rest) (at : BasedAt cs letter base digit front after) where
  names : NamesBase letter
  names = names_letter at.names_base.0 letter at.names_base.2

  short_one : (p : ℕ → Bool) (other more : List ℕ) → cs ≡ other ++ more → p letter ≡ false → list_all p other ≡ true → length other ≤ length front + 3
  short_one p other more e h all =
      let short = run_longest p (48 ∷ []) (letter ∷ digit ∷ front ++ after) other more (sym at.split ∙ e) h all in
      omega (arith, short)

  based_same : (other more other_digits : List ℕ) (other_letter : ℕ) (kind : Base) → cs ≡ other ++ more → IsPrefix kind (48 ∷ other_letter ∷ []) → other ≡ 48 ∷ other_letter ∷ other_digits → is_numeral (radix kind) other_digits ≡ true → length other ≤ length front + 3
  based_same other more [] other_letter kind e p split n = absurd (false≢true n)
  based_same other more (d ∷ ds) other_letter kind e p split n =
      let tails = sym at.split ∙ e ∙ ap (λ x. x ++ more) split in
      let base_is : radix kind ≡ base = same_base kind at.names_base.0 other_letter letter p at.names_base.2 (sym (cons_head (cons_tail tails))) ∙ sym at.names_base.1 in
      let parts = numeral_parts base d ds (subst (λ b. is_numeral b (d ∷ ds) ≡ true) base_is n) in
      let short = longest_on base front after ds more (cons_tail (cons_tail (cons_tail tails))) at.each at.stops parts.1 in
      omega (arith, short, ap length split)

  based_whole : (other more : List ℕ) (value : ℕ) → cs ≡ other ++ more → (w : IsWhole other value) → length other ≤ length front + 3
  based_whole other more value e w = by_parts (prefix_parts w.base w.mark w.marked)
    where
      by_parts : ((w.base ≡ Decimal) × (w.mark ≡ [])) ⊎ ((l : ℕ) × (w.mark ≡ 48 ∷ l ∷ []) × NamesBase l) → length other ≤ length front + 3
      by_parts (inl p) =
          let same : other ≡ w.digits = w.split ∙ ap (λ m. m ++ w.digits) p.1 in
          let numeral : is_numeral 10 w.digits ≡ true = subst (λ b. is_numeral (radix b) w.digits ≡ true) p.0 w.numeral in
          short_one (in_numeral 10) other more e (not_in_numeral letter names) (ap (list_all (in_numeral 10)) same ∙ numeral_class 10 w.digits numeral)
      by_parts (inr p) =
          based_same other more w.digits p.0 w.base e (subst (IsPrefix w.base) p.1 w.marked) (w.split ∙ ap (λ m. m ++ w.digits) p.1) w.numeral

  based_bound : (other more : List ℕ) → cs ≡ other ++ more → MaySpell AtDigit other → length other ≤ length front + 3
  based_bound other more e (inl w) = based_whole other more w.0 e w.1
  based_bound other more e (inr (inl v)) = by_minor v.1 v.2
    where
      by_minor : (minor : Option ℕ) → IsVersion other v.0 minor → length other ≤ length front + 3
      by_minor None is = short_one (is_digit_in 10) other more e names.no_digit is.0.each
      by_minor (Some minor) is = absurd (no_minor_at whole other more v.0 minor e is)
  based_bound other more e (inr (inr d)) = absurd (no_decimal_at whole other more e d)

  pub based_longest : (version : Bool) → IsLongest version cs (48 ∷ letter ∷ digit ∷ front) after
  based_longest version = record {
    split = at.split;
    longest = λ other more e s. let bound = based_bound other more e (spelled_at AtDigit version 48 (letter ∷ digit ∷ front ++ after) other more (digit_start 48 refl) (sym at.split ∙ e) s) in omega (arith, bound);
  }

  pub based_is_whole : (value : ℕ) → value ≡ numeral_value base (digit ∷ front) → IsWhole (48 ∷ letter ∷ digit ∷ front) value
  based_is_whole value e = record {
    base = at.names_base.0;
    mark = 48 ∷ letter ∷ [];
    digits = digit ∷ front;
    split = refl;
    marked = at.names_base.2;
    numeral = subst (λ b. is_numeral b (digit ∷ front) ≡ true) at.names_base.1 (and_true at.begins at.each);
    value_is = e ∙ ap (λ b. numeral_value b (digit ∷ front)) at.names_base.1;
  }

  no_version_front : (other back : List ℕ) → 48 ∷ letter ∷ digit ∷ front ≡ other ++ 46 ∷ back → list_all (is_digit_in 10) other ≡ true → ⊥
  no_version_front [] back e h = let same = cons_head e in omega (arith, same)
  no_version_front (x ∷ []) back e h = names.no_point (cons_head (cons_tail e))
  no_version_front (x ∷ y ∷ ys) back e h =
      false≢true (sym names.no_digit ∙ ap (is_digit_in 10) (cons_head (cons_tail e)) ∙ and_first (is_digit_in 10 y) _ (and_second (is_digit_in 10 x) _ h))

  pub based_no_version : (version : Bool) → IsNoVersion version (48 ∷ letter ∷ digit ∷ front)
  based_no_version version is major None v = absurd (false≢true (sym names.no_digit ∙ and_first (is_digit_in 10 letter) _ (and_second (is_digit_in 10 48) _ v.0.each)))
  based_no_version version is major (Some minor) v = no_version_front v.0 v.1 v.2 v.3.each

-- a decimal numeral, as long as it may be, where none names its base
pub record NumeralAt (cs : List ℕ) (digit : ℕ) (front after : List ℕ) : Type 0 where
  pub split : cs ≡ digit ∷ front ++ after
  pub begins : is_digit_in 10 digit ≡ true
  pub each : goes_on 10 front ≡ true
  pub stops : begins_step 10 after ≡ false
  pub no_based : NoBased cs

module _ {cs digits rest front after : List ℕ} {digit : ℕ} (whole : WholeAt cs digits rest) (at : NumeralAt cs digit front after) where
  numeral_short : (other more : List ℕ) → cs ≡ other ++ more → is_numeral 10 other ≡ true → length other ≤ length front + 1
  numeral_short [] more e n = absurd (false≢true n)
  numeral_short (d ∷ ds) more e n =
      let short = longest_on 10 front after ds more (cons_tail (sym at.split ∙ e)) at.each at.stops (numeral_parts 10 d ds n).1 in
      omega (arith, short)

  based_not : (other more other_digits : List ℕ) (other_letter : ℕ) (kind : Base) → cs ≡ other ++ more → IsPrefix kind (48 ∷ other_letter ∷ []) → other ≡ 48 ∷ other_letter ∷ other_digits → is_numeral (radix kind) other_digits ≡ true → ⊥
  based_not other more [] other_letter kind e p split n = false≢true n
  based_not other more (d ∷ ds) other_letter kind e p split n =
      false≢true (sym (at.no_based other_letter d (radix kind) (ds ++ more) (e ∙ ap (λ x. x ++ more) split) (kind, refl, p)) ∙ (numeral_parts (radix kind) d ds n).0)

  numeral_whole : (other more : List ℕ) (value : ℕ) → cs ≡ other ++ more → (w : IsWhole other value) → length other ≤ length front + 1
  numeral_whole other more value e w = by_parts (prefix_parts w.base w.mark w.marked)
    where
      by_parts : ((w.base ≡ Decimal) × (w.mark ≡ [])) ⊎ ((l : ℕ) × (w.mark ≡ 48 ∷ l ∷ []) × NamesBase l) → length other ≤ length front + 1
      by_parts (inl p) =
          let same : other ≡ w.digits = w.split ∙ ap (λ m. m ++ w.digits) p.1 in
          numeral_short other more e (ap (is_numeral 10) same ∙ subst (λ b. is_numeral (radix b) w.digits ≡ true) p.0 w.numeral)
      by_parts (inr p) =
          absurd (based_not other more w.digits p.0 w.base e (subst (IsPrefix w.base) p.1 w.marked) (w.split ∙ ap (λ m. m ++ w.digits) p.1) w.numeral)

  numeral_bound : (other more : List ℕ) → cs ≡ other ++ more → MaySpell AtDigit other → length other ≤ length front + 1
  numeral_bound other more e (inl w) = numeral_whole other more w.0 e w.1
  numeral_bound other more e (inr (inl v)) = by_minor v.1 v.2
    where
      by_minor : (minor : Option ℕ) → IsVersion other v.0 minor → length other ≤ length front + 1
      by_minor None is = numeral_short other more e (digits_numeral other is.0)
      by_minor (Some minor) is = absurd (no_minor_at whole other more v.0 minor e is)
  numeral_bound other more e (inr (inr d)) = absurd (no_decimal_at whole other more e d)

  pub numeral_longest : (version : Bool) → IsLongest version cs (digit ∷ front) after
  numeral_longest version = record {
    split = at.split;
    longest = λ other more e s. let bound = numeral_bound other more e (spelled_at AtDigit version digit (front ++ after) other more (digit_start digit at.begins) (sym at.split ∙ e) s) in omega (arith, bound);
  }

  pub numeral_is_whole : (value : ℕ) → value ≡ numeral_value 10 (digit ∷ front) → IsWhole (digit ∷ front) value
  numeral_is_whole value e = record {
    base = Decimal;
    mark = [];
    digits = digit ∷ front;
    split = refl;
    marked = refl;
    numeral = and_true at.begins at.each;
    value_is = e;
  }

  -- no version, unless it is the digits alone
  pub numeral_no_version : (version : Bool) → (IsTrue version → AreDigits (digit ∷ front) → ⊥) → IsNoVersion version (digit ∷ front)
  numeral_no_version version why is major None v = why is v.0
  numeral_no_version version why is major (Some minor) v =
      absurd (false≢true (list_all_at (in_numeral 10) v.0 46 v.1 (ap (list_all (in_numeral 10)) (sym v.2) ∙ numeral_class 10 (digit ∷ front) (and_true at.begins at.each))))
