-- What may be spelled at decimal digits, by what stands behind them.
use Rattle.std.proofs.Common.{◌≡◌, ℕ, ◌≤◌, ◌⊎◌, Bool, true, false, ◌&&◌, ◌||◌, ◌==◌, List, [], ◌∷◌, ◌++◌, length, sym, refl, ap, ◌∙◌, subst, arith, inl, inr, ⊎_elim, append_assoc}
use Rattle.std.specs.Prelude.{IsTrue}
use Rattle.std.specs.List.{list_all}
use Rattle.std.proofs.lemmas.Bool.{false≢true}
use Rattle.qasm_lexer.specs.Characters.{is_digit_in}
use Rattle.qasm_lexer.specs.Spelling.{Base, Binary, Octal, Decimal, Hexadecimal, radix, IsPrefix, is_numeral, goes_on, AreDigits, IsWhole, IsExponent, IsPointed, IsScaled}
use Rattle.qasm_lexer.specs.Scan.{StopsAt}
use Rattle.qasm_lexer.proofs.Passing.{and_first, and_second, and_true}
use Rattle.qasm_lexer.proofs.Numerals.{cons_head, cons_tail, either, goes_digit, goes_mark}
use Rattle.qasm_lexer.proofs.Fronts.{run_longest, run_unique, exponent_stops}

-- the text is decimal digits, and then no digit
pub record DigitsThen (cs digits rest : List ℕ) : Type 0 where
  pub split : cs ≡ digits ++ rest
  pub each : IsTrue (list_all (is_digit_in 10) digits)
  pub stops : StopsAt (is_digit_in 10) rest

-- the characters of a numeral
abbrev pub in_numeral : ℕ → ℕ → Bool
in_numeral base c = is_digit_in base c || (c == 95)

numeral_digit : (base c : ℕ) → is_digit_in base c ≡ true → in_numeral base c ≡ true
numeral_digit base c h = ap (λ b. b || (c == 95)) h

numeral_mark : (base c : ℕ) → (c == 95) ≡ true → in_numeral base c ≡ true
numeral_mark base c h = ⊎_elim (λ (d : is_digit_in base c ≡ true). numeral_digit base c d) (λ (d : is_digit_in base c ≡ false). ap (λ b. b || (c == 95)) d ∙ h) (either (is_digit_in base c))

goes_on_class : (base : ℕ) (cs : List ℕ) → goes_on base cs ≡ true → list_all (in_numeral base) cs ≡ true
goes_on_class base [] h = refl
goes_on_class base (c ∷ []) h = and_true (numeral_digit base c h) refl
goes_on_class base (c ∷ d ∷ cs) h =
    ⊎_elim
    (λ (digit : is_digit_in base c ≡ true). and_true (numeral_digit base c digit) (goes_on_class base (d ∷ cs) (sym (goes_digit base c d cs digit) ∙ h)))
    (λ (mark : is_digit_in base c ≡ false).
    let parts = sym (goes_mark base c d cs mark) ∙ h in
    let two = and_first ((c == 95) && is_digit_in base d) (goes_on base cs) parts in
    and_true (numeral_mark base c (and_first (c == 95) _ two)) (and_true (numeral_digit base d (and_second (c == 95) _ two)) (goes_on_class base cs (and_second _ (goes_on base cs) parts))))
    (either (is_digit_in base c))

pub numeral_class : (base : ℕ) (cs : List ℕ) → is_numeral base cs ≡ true → list_all (in_numeral base) cs ≡ true
numeral_class base [] h = absurd (false≢true h)
numeral_class base (c ∷ cs) h = and_true (numeral_digit base c (and_first (is_digit_in base c) _ h)) (goes_on_class base cs (and_second (is_digit_in base c) _ h))

-- the letter that names a base is no digit, no point, no `_` and no exponent's
pub record NamesBase (letter : ℕ) : Type 0 where
  pub no_digit : is_digit_in 10 letter ≡ false
  pub no_point : letter ≡ 46 → ⊥
  pub no_mark : letter ≡ 95 → ⊥
  pub no_exponent : (letter ≡ 101) ⊎ (letter ≡ 69) → ⊥

names_base : (n letter : ℕ) → letter ≡ n → NamesBase n → NamesBase letter
names_base n letter e h = subst NamesBase (sym e) h

names_b : NamesBase 98
names_b = record { no_digit = refl; no_point = λ e. omega arith; no_mark = λ e. omega arith; no_exponent = λ e. ⊎_elim (λ (x : 98 ≡ 101). omega arith) (λ (x : 98 ≡ 69). omega arith) e }

names_B : NamesBase 66
names_B = record { no_digit = refl; no_point = λ e. omega arith; no_mark = λ e. omega arith; no_exponent = λ e. ⊎_elim (λ (x : 66 ≡ 101). omega arith) (λ (x : 66 ≡ 69). omega arith) e }

names_o : NamesBase 111
names_o = record { no_digit = refl; no_point = λ e. omega arith; no_mark = λ e. omega arith; no_exponent = λ e. ⊎_elim (λ (x : 111 ≡ 101). omega arith) (λ (x : 111 ≡ 69). omega arith) e }

names_x : NamesBase 120
names_x = record { no_digit = refl; no_point = λ e. omega arith; no_mark = λ e. omega arith; no_exponent = λ e. ⊎_elim (λ (x : 120 ≡ 101). omega arith) (λ (x : 120 ≡ 69). omega arith) e }

names_X : NamesBase 88
names_X = record { no_digit = refl; no_point = λ e. omega arith; no_mark = λ e. omega arith; no_exponent = λ e. ⊎_elim (λ (x : 88 ≡ 101). omega arith) (λ (x : 88 ≡ 69). omega arith) e }

-- what stands in front of a whole number: nothing, or a 0 and a letter
pub prefix_parts : (base : Base) (mark : List ℕ) → IsPrefix base mark → ((base ≡ Decimal) × (mark ≡ [])) ⊎ ((letter : ℕ) × (mark ≡ 48 ∷ letter ∷ []) × NamesBase letter)
prefix_parts Binary mark (inl e) = inr (98, e, names_b)
prefix_parts Binary mark (inr e) = inr (66, e, names_B)
prefix_parts Octal mark e = inr (111, e, names_o)
prefix_parts Decimal mark e = inl (refl, e)
prefix_parts Hexadecimal mark (inl e) = inr (120, e, names_x)
prefix_parts Hexadecimal mark (inr e) = inr (88, e, names_X)

-- no number that names its base begins with digits that another character ends
no_based : (digits rest z : List ℕ) (x letter : ℕ) → IsTrue (list_all (is_digit_in 10) digits) → is_digit_in 10 x ≡ false → is_digit_in 10 letter ≡ false → (x ≡ letter → ⊥) → digits ++ x ∷ rest ≡ 48 ∷ letter ∷ z → ⊥
no_based [] rest z x letter each h k differ e = false≢true (sym h ∙ ap (is_digit_in 10) (cons_head e))
no_based (d ∷ []) rest z x letter each h k differ e = differ (cons_head (cons_tail e))
no_based (d ∷ f ∷ ds) rest z x letter each h k differ e =
    false≢true (sym k ∙ ap (is_digit_in 10) (sym (cons_head (cons_tail e))) ∙ and_first (is_digit_in 10 f) _ (and_second (is_digit_in 10 d) _ each))

-- a character that ends a numeral, and names no base
pub record EndsNumeral (x : ℕ) : Type 0 where
  pub no_digit : is_digit_in 10 x ≡ false
  pub no_numeral : in_numeral 10 x ≡ false
  pub no_base : (letter : ℕ) → NamesBase letter → x ≡ letter → ⊥

pub point_ends : EndsNumeral 46
point_ends = record { no_digit = refl; no_numeral = refl; no_base = λ letter names e. names.no_point (sym e) }

pub exponent_ends : (c : ℕ) → (c ≡ 101) ⊎ (c ≡ 69) → EndsNumeral c
exponent_ends c (inl e) = record { no_digit = ap (is_digit_in 10) e; no_numeral = ap (in_numeral 10) e; no_base = λ letter names same. names.no_exponent (inl (sym same ∙ e)) }
exponent_ends c (inr e) = record { no_digit = ap (is_digit_in 10) e; no_numeral = ap (in_numeral 10) e; no_base = λ letter names same. names.no_exponent (inr (sym same ∙ e)) }

-- a whole number ends where such a character does
pub whole_short : (cs digits rest other more : List ℕ) (x value : ℕ) → cs ≡ digits ++ x ∷ rest → IsTrue (list_all (is_digit_in 10) digits) → EndsNumeral x → IsWhole other value → cs ≡ other ++ more → length other ≤ length digits
whole_short cs digits rest other more x value split each ends w at = by_prefix (prefix_parts w.base w.mark w.marked)
  where
    by_prefix : ((w.base ≡ Decimal) × (w.mark ≡ [])) ⊎ ((letter : ℕ) × (w.mark ≡ 48 ∷ letter ∷ []) × NamesBase letter) → length other ≤ length digits
    by_prefix (inl p) =
        let same : other ≡ w.digits = w.split ∙ ap (λ m. m ++ w.digits) p.1 in
        let numeral : is_numeral 10 w.digits ≡ true = subst (λ b. is_numeral (radix b) w.digits ≡ true) p.0 w.numeral in
        run_longest (in_numeral 10) digits (x ∷ rest) other more (sym split ∙ at) ends.no_numeral (ap (list_all (in_numeral 10)) same ∙ numeral_class 10 w.digits numeral)
    by_prefix (inr p) =
        absurd (no_based digits rest (w.digits ++ more) x p.0 each ends.no_digit p.2.no_digit (ends.no_base p.0 p.2) (sym split ∙ at ∙ ap (λ y. y ++ more) (w.split ∙ ap (λ m. m ++ w.digits) p.1)))

-- a version without a point ends with the digits
pub version_short : {cs digits rest : List ℕ} (other more : List ℕ) → DigitsThen cs digits rest → AreDigits other → cs ≡ other ++ more → length other ≤ length digits
version_short {cs} {digits} {rest} other more ctx are at = run_longest (is_digit_in 10) digits rest other more (sym ctx.split ∙ at) ctx.stops are.each

-- what has a point has it behind the digits
pub point_place : {cs digits rest : List ℕ} (front tail : List ℕ) → DigitsThen cs digits rest → IsTrue (list_all (is_digit_in 10) front) → cs ≡ front ++ 46 ∷ tail → (digits ≡ front) × (rest ≡ 46 ∷ tail)
point_place {cs} {digits} {rest} front tail ctx each at = run_unique (is_digit_in 10) digits rest front (46 ∷ tail) (sym ctx.split ∙ at) ctx.stops refl ctx.each each

-- what has an exponent has it behind the digits
pub exponent_place : {cs digits rest : List ℕ} (front exponent more : List ℕ) → DigitsThen cs digits rest → IsTrue (list_all (is_digit_in 10) front) → IsExponent exponent → cs ≡ front ++ (exponent ++ more) → (digits ≡ front) × (rest ≡ exponent ++ more)
exponent_place {cs} {digits} {rest} front exponent more ctx each x at =
    run_unique (is_digit_in 10) digits rest front (exponent ++ more) (sym ctx.split ∙ at) ctx.stops (exponent_stops exponent more x) ctx.each each

regroup : (a b c d : List ℕ) (x : ℕ) → ((a ++ x ∷ b) ++ c) ++ d ≡ a ++ x ∷ (b ++ (c ++ d))
regroup a b c d x = append_assoc (a ++ x ∷ b) c d ∙ append_assoc a (x ∷ b) (c ++ d)

pub version_place : {cs digits rest : List ℕ} (other more front back : List ℕ) → DigitsThen cs digits rest → IsTrue (list_all (is_digit_in 10) front) → other ≡ front ++ 46 ∷ back → cs ≡ other ++ more → (digits ≡ front) × (rest ≡ 46 ∷ (back ++ more))
version_place other more front back ctx each split at =
    point_place front (back ++ more) ctx each (at ∙ ap (λ y. y ++ more) split ∙ append_assoc front (46 ∷ back) more)

pub pointed_place : {cs digits rest : List ℕ} (other more : List ℕ) → DigitsThen cs digits rest → (p : IsPointed other) → cs ≡ other ++ more → (digits ≡ p.front) × (rest ≡ 46 ∷ (p.back ++ (p.exponent ++ more)))
pointed_place other more ctx p at =
    point_place p.front (p.back ++ (p.exponent ++ more)) ctx p.front_digits (at ∙ ap (λ y. y ++ more) p.split ∙ regroup p.front p.back p.exponent more 46)

pub scaled_place : {cs digits rest : List ℕ} (other more : List ℕ) → DigitsThen cs digits rest → (s : IsScaled other) → cs ≡ other ++ more → (digits ≡ s.front) × (rest ≡ s.exponent ++ more)
scaled_place other more ctx s at =
    exponent_place s.front s.exponent more ctx s.front_digits.each s.scale (at ∙ ap (λ y. y ++ more) s.split ∙ append_assoc s.front s.exponent more)
