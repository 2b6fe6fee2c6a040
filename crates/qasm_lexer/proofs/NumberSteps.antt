-- What the steps of the number scanners tell.
use Rattle.std.proofs.Common.{◌≡◌, ℕ, ◌<◌, ◌≤◌, ◌⊎◌, Bool, true, false, ◌&&◌, ◌==◌, List, [], ◌∷◌, ◌++◌, length, sym, refl, ap, ◌∙◌, subst, arith, inl, inr, ⊎_elim, length-append, append_assoc}
use Rattle.std.specs.Prelude.{IsTrue, count_by, nat_lt, ◌↔◌}
use Rattle.std.specs.List.{list_all}
use Rattle.std.specs.Str.{chars, IsUtf8}
use Rattle.std.proofs.lemmas.Bool.{false≢true}
use Rattle.std.proofs.lemmas.Bool.Decides.{Decides-eqb, Decides-ltb}
use Rattle.std.proofs.lemmas.Str.{encodes-chars, chars-nil}
use Rattle.std.proofs.lemmas.List.{append_cancel_right, append-nil, nil_from_length}
use Rattle.std.proofs.lemmas.List.Sums.{length-filter}
use lib.Utf8.{encodes}
use Rattle.qasm_lexer.specs.Characters.{is_digit_in}
use Rattle.qasm_lexer.specs.Spelling.{AreDigits, IsExponent, goes_on, is_numeral, digits_of_numeral}
use Rattle.qasm_lexer.specs.Scan.{Cuts, StopsAt, SkipsPassing, SkipsExponent, SkipsSign, BeginsExponent, BaseLetter, NoBaseLetter, NoBased, SkipsBased, SkipsDigits}
use Rattle.qasm_lexer.proofs.Cutting.{cons≢nil, chars_cut, cut_twice, cut_none}
use Rattle.qasm_lexer.proofs.Passing.{and_first, and_second, and_true}
use Rattle.qasm_lexer.proofs.Numerals.{cons_head, cons_tail, longest_on}
use Rattle.qasm_lexer.proofs.Fronts.{is_sign, run_unique, digits_stop_sign, sign_all}
use Rattle.qasm_lexer.proofs.WholeLaws.{same_base}

-- characters are cut off exactly where bytes are
pub cut_nothing : {text front rest : List ℕ} → Cuts text front rest → length text ≤ length rest → front ≡ []
cut_nothing {text} {front} {rest} cut h = some cut.bytes cut.spelled (ap length cut.split)
  where
    some : (bytes : List ℕ) → chars bytes ≡ front → length text ≡ length (bytes ++ rest) → front ≡ []
    some [] spelled len = sym spelled ∙ chars-nil
    some (b ∷ bs) spelled len = absurd (omega (arith, len, length-append bs rest))

pub cut_something : {text front rest : List ℕ} → Cuts text front rest → length rest < length text → 0 < length front
cut_something {text} {front} {rest} cut h = some front cut.spelled
  where
    some : (cs : List ℕ) → chars cut.bytes ≡ cs → 0 < length cs
    some [] spelled =
        let empty : cut.bytes ≡ [] = sym (encodes-chars cut.bytes cut.utf8) ∙ ap encodes spelled in
        absurd (omega (arith, ap length cut.split, length-append cut.bytes rest, ap length empty))
    some (c ∷ cs) spelled = omega arith

-- the characters of what is cut off
pub front_chars : {text front rest : List ℕ} (bytes : List ℕ) → Cuts text front rest → text ≡ bytes ++ rest → chars bytes ≡ front
front_chars {text} {front} {rest} bytes cut e = ap chars (append_cancel_right bytes cut.bytes rest (sym e ∙ cut.split)) ∙ cut.spelled

-- no number that names its base begins here
pub no_based_short : (cs ds : List ℕ) (z : ℕ) → cs ≡ z ∷ ds → ds ≡ [] → NoBased cs
no_based_short cs ds z e none letter digit base more at is = absurd (cons≢nil (sym (cons_tail (sym e ∙ at)) ∙ none))

pub no_based_letter : (cs ds es : List ℕ) (z l : ℕ) → cs ≡ z ∷ ds → ds ≡ l ∷ es → NoBaseLetter l → NoBased cs
no_based_letter cs ds es z l e f none letter digit base more at is =
    absurd (none base (subst (λ x. BaseLetter x base) (sym (cons_head (sym f ∙ cons_tail (sym e ∙ at)))) is))

pub no_based_end : (cs ds es : List ℕ) (z l : ℕ) → cs ≡ z ∷ ds → ds ≡ l ∷ es → es ≡ [] → NoBased cs
no_based_end cs ds es z l e f none letter digit base more at is = absurd (cons≢nil (sym (cons_tail (sym f ∙ cons_tail (sym e ∙ at))) ∙ none))

pub no_based_zero : (cs ds : List ℕ) (z : ℕ) → cs ≡ z ∷ ds → (z ≡ 48 → ⊥) → NoBased cs
no_based_zero cs ds z e not letter digit base more at is = absurd (not (cons_head (sym e ∙ at)))

pub no_based_digit : (cs ds es fs : List ℕ) (z l d b : ℕ) → cs ≡ z ∷ ds → ds ≡ l ∷ es → es ≡ d ∷ fs → BaseLetter l b → is_digit_in b d ≡ false → NoBased cs
no_based_digit cs ds es fs z l d b e f g is_base not letter digit base more at is =
    let tails = sym f ∙ cons_tail (sym e ∙ at) in
    let same : b ≡ base = is_base.1 ∙ same_base is_base.0 is.0 l letter is_base.2 is.2 (cons_head tails) ∙ sym is.1 in
    sym (ap (is_digit_in base) (cons_head (sym g ∙ cons_tail tails))) ∙ subst (λ n. is_digit_in n d ≡ false) same not

-- no exponent begins at another letter
pub no_exponent_letter : (cs ds : List ℕ) (l : ℕ) → cs ≡ l ∷ ds → (l ≡ 101 → ⊥) → (l ≡ 69 → ⊥) → ¬ (BeginsExponent cs)
no_exponent_letter cs ds l e not_e not_E x =
    ⊎_elim
    (λ (h : x.3.letter ≡ 101). not_e (cons_head (sym e ∙ x.2 ∙ ap (λ y. y ++ x.1) x.3.split) ∙ h))
    (λ (h : x.3.letter ≡ 69). not_E (cons_head (sym e ∙ x.2 ∙ ap (λ y. y ++ x.1) x.3.split) ∙ h))
    x.3.is_letter

-- what stands behind the sign of an exponent
behind_sign : (n : ℕ) (sign tail rest : List ℕ) → is_sign n ≡ true → StopsAt is_sign tail → IsTrue (list_all is_sign sign) → length sign ≤ 1 → sign ++ tail ≡ n ∷ rest → tail ≡ rest
behind_sign n [] [] rest h stops all short e = absurd (cons≢nil (sym e))
behind_sign n [] (t ∷ tail) rest h stops all short e = absurd (false≢true (sym stops ∙ ap is_sign (cons_head e) ∙ h))
behind_sign n (s ∷ []) tail rest h stops all short e = cons_tail e
behind_sign n (s ∷ r ∷ sign) tail rest h stops all short e = absurd (omega arith)

sign_short : (sign : List ℕ) → (sign ≡ []) ⊎ (sign ≡ 43 ∷ []) ⊎ (sign ≡ 45 ∷ []) → length sign ≤ 1
sign_short sign (inl e) = omega (arith, ap length e)
sign_short sign (inr (inl e)) = omega (arith, ap length e)
sign_short sign (inr (inr e)) = omega (arith, ap length e)

exponent_digits : (text rest : List ℕ) (more : List ℕ) (x : List ℕ) (is : IsExponent x) → SkipsSign text rest → chars text ≡ is.sign ++ (is.digits ++ more) → is.digits ++ more ≡ chars rest
exponent_digits text rest more x is (inl cut) e =
    behind_sign 43 is.sign (is.digits ++ more) (chars rest) refl (digits_stop_sign is.digits more is.are_digits) (sign_all is.sign is.is_sign) (sign_short is.sign is.is_sign) (sym e ∙ chars_cut cut)
exponent_digits text rest more x is (inr (inl cut)) e =
    behind_sign 45 is.sign (is.digits ++ more) (chars rest) refl (digits_stop_sign is.digits more is.are_digits) (sign_all is.sign is.is_sign) (sign_short is.sign is.is_sign) (sym e ∙ chars_cut cut)
exponent_digits text rest more x is (inr (inr none)) e =
    (run_unique is_sign is.sign (is.digits ++ more) [] (chars rest) (sym e ∙ ap chars none.0) (digits_stop_sign is.digits more is.are_digits) (subst (λ t. StopsAt is_sign (chars t)) none.0 none.1) (sign_all is.sign is.is_sign) refl).1

digits_not : (digits more rest : List ℕ) → AreDigits digits → digits ++ more ≡ rest → StopsAt (is_digit_in 10) rest → ⊥
digits_not [] more rest are e stops = omega (arith, are.some)
digits_not (d ∷ ds) more [] are e stops = cons≢nil e
digits_not (d ∷ ds) more (r ∷ rest) are e stops = false≢true (sym stops ∙ ap (is_digit_in 10) (sym (cons_head e)) ∙ and_first (is_digit_in 10 d) _ are.each)

-- no exponent begins where no digit stands behind its sign
pub no_exponent_digits : (cs behind digits : List ℕ) (l : ℕ) → cs ≡ l ∷ chars behind → SkipsSign behind digits → StopsAt (is_digit_in 10) (chars digits) → ¬ (BeginsExponent cs)
no_exponent_digits cs behind digits l e sign stops x =
    let is = x.3 in
    let all : cs ≡ is.letter ∷ is.sign ++ (is.digits ++ x.1) = x.2 ∙ ap (λ y. y ++ x.1) is.split ∙ ap (λ y. is.letter ∷ y) (append_assoc is.sign is.digits x.1) in
    digits_not is.digits x.1 (chars digits) is.are_digits (exponent_digits behind digits x.1 x.0 is sign (cons_tail (sym e ∙ all))) stops

-- the signs that are skipped
pub sign_of : {text rest : List ℕ} → SkipsSign text rest → IsUtf8 text → (sign : List ℕ) × Cuts text sign rest × ((sign ≡ []) ⊎ (sign ≡ 43 ∷ []) ⊎ (sign ≡ 45 ∷ []))
sign_of (inl cut) utf8 = (43 ∷ [], cut, inr (inl refl))
sign_of (inr (inl cut)) utf8 = (45 ∷ [], cut, inr (inr refl))
sign_of {text} {rest} (inr (inr none)) utf8 = ([], subst (λ r. Cuts text [] r) none.0 (cut_none text utf8), inl refl)

-- an exponent
pub exponent_skipped : {text behind digits end : List ℕ} {l : ℕ} → Cuts text (l ∷ []) behind → (l ≡ 101) ⊎ (l ≡ 69) → SkipsSign behind digits → (d : SkipsPassing (is_digit_in 10) digits end) → 0 < length d.front → SkipsExponent text end
exponent_skipped {text} {behind} {digits} {end} {l} cut letter sign d some =
    let s = sign_of sign cut.rest_utf8 in
    record {
      front = (l ∷ []) ++ (s.0 ++ d.front);
      cuts = cut_twice cut (cut_twice s.1 d.cuts);
      exponent = record { letter = l; sign = s.0; digits = d.front; split = refl; is_letter = letter; is_sign = s.2; are_digits = record { some = some; each = d.each } };
      stops = d.stops;
    }

-- a front that goes on is a whole numeral where nothing is left
pub numeral_whole_is : (base c : ℕ) (cs front after : List ℕ) → cs ≡ c ∷ (front ++ after) → after ≡ [] → is_digit_in base c ≡ true → goes_on base front ≡ true → is_numeral base cs ≡ true
numeral_whole_is base c cs front after e none h g =
    ap (is_numeral base) (e ∙ ap (λ a. c ∷ (front ++ a)) none ∙ ap (λ f. c ∷ f) (append-nil front)) ∙ and_true h g

pub numeral_false : (base c : ℕ) (cs ds : List ℕ) → cs ≡ c ∷ ds → is_digit_in base c ≡ false → is_numeral base cs ≡ false
numeral_false base c cs ds e h = ap (is_numeral base) e ∙ ap (λ b. b && goes_on base ds) h

test_is : (a b : ℕ) → (a == b) ≡ true → a ≡ b
test_is a b h = (Decides-eqb a b).0 h

same_tests : (a b : Bool) → (a ≡ true → b ≡ true) → (b ≡ true → a ≡ true) → a ≡ b
same_tests true b h k = sym (h refl)
same_tests false true h k = k refl
same_tests false false h k = refl

chars_empty : (end : List ℕ) → IsUtf8 end → chars end ≡ [] → end ≡ []
chars_empty end utf8 e = sym (encodes-chars end utf8) ∙ ap encodes e

-- some characters are a numeral where nothing is left behind the digits
pub numeral_test : {behind end : List ℕ} (cs : List ℕ) (c : ℕ) → cs ≡ c ∷ chars behind → is_digit_in 2 c ≡ true → SkipsDigits 2 behind end → (length end == 0) ≡ is_numeral 2 cs
numeral_test {behind} {end} cs c e digit skip =
    let all : cs ≡ c ∷ (skip.front ++ chars end) = e ∙ ap (λ x. c ∷ x) (chars_cut skip.cuts) in
    same_tests (length end == 0) (is_numeral 2 cs)
    (λ h. numeral_whole_is 2 c cs skip.front (chars end) all (ap chars (nil_from_length end (test_is _ _ h)) ∙ chars-nil) digit skip.each)
    (λ n.
    let goes : goes_on 2 (skip.front ++ chars end) ≡ true = and_second (is_digit_in 2 c) _ (sym (ap (is_numeral 2) all) ∙ n) in
    let short = longest_on 2 skip.front (chars end) (skip.front ++ chars end) [] (sym (append-nil (skip.front ++ chars end))) skip.each skip.stops goes in
    let none : chars end ≡ [] = nil_from_length (chars end) (omega (arith, short, length-append skip.front (chars end))) in
    ap (λ x. length x == 0) (chars_empty end skip.cuts.rest_utf8 none))

-- a number that names its base
pub based_skipped : {text mark digits behind end : List ℕ} {first letter base digit : ℕ} → Cuts text (first ∷ []) mark → first ≡ 48 → Cuts mark (letter ∷ []) digits → BaseLetter letter base → Cuts digits (digit ∷ []) behind → is_digit_in base digit ≡ true → SkipsDigits base behind end → SkipsBased text base digits end
based_skipped {text} {mark} {digits} {behind} {end} {first} {letter} {base} {digit} one z two is three h skip = record {
  letter = letter;
  digit = digit;
  front = skip.front;
  names_base = is;
  prefix_cut = subst (λ x. Cuts text (x ∷ letter ∷ []) digits) z (cut_twice one two);
  digits_cut = cut_twice three skip.cuts;
  begins = h;
  each = skip.each;
  stops = skip.stops;
}

-- where nothing is skipped, the text stops at once
pub passing_none : (p : ℕ → Bool) {text rest : List ℕ} → SkipsPassing p text rest → length rest ≡ length text → StopsAt p (chars text)
passing_none p {text} {rest} skip h =
    let none = cut_nothing skip.cuts (omega (arith, h)) in
    subst (StopsAt p) (sym (chars_cut skip.cuts ∙ ap (λ f. f ++ chars rest) none)) skip.stops

pub passing_some : (p : ℕ → Bool) {text rest : List ℕ} → (skip : SkipsPassing p text rest) → (length rest ≡ length text → ⊥) → 0 < length skip.front
passing_some p {text} {rest} skip h =
    cut_something skip.cuts (omega (arith, ap length skip.cuts.split, length-append skip.cuts.bytes rest, h))

-- the test of the number of bits
pub bits_test : (cs : List ℕ) (n : ℕ) → is_numeral 2 cs ≡ true → n ≡ count_by (is_digit_in 2) cs → IsTrue (nat_lt 4096 n) ↔ (IsTrue (is_numeral 2 cs) × (4096 < length (digits_of_numeral 2 cs)))
bits_test cs n h e =
    let same : n ≡ length (digits_of_numeral 2 cs) = e ∙ sym (length-filter (is_digit_in 2) cs) in (
      λ t. (h, subst (λ m. 4096 < m) same ((Decides-ltb 4096 n).0 t)),
      λ p. (Decides-ltb 4096 n).1 (subst (λ m. 4096 < m) (sym same) p.1),
    )
