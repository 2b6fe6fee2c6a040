-- Fronts of a list whose elements pass a test, and exponents behind digits.
use Rattle.std.proofs.Common.{◌≡◌, ℕ, ◌+◌, ◌≤◌, ◌⊎◌, Bool, true, false, ◌||◌, ◌==◌, List, [], ◌∷◌, ◌++◌, length, sym, refl, ap, ◌∙◌, subst, arith, inl, inr, length-append, append_assoc}
use Rattle.std.specs.Prelude.{IsTrue}
use Rattle.std.specs.List.{list_all}
use Rattle.std.proofs.lemmas.Bool.{false≢true}
use Rattle.std.proofs.lemmas.Bool.Decides.{nat_tests}
use Rattle.qasm_lexer.specs.Characters.{is_digit_in}
use Rattle.qasm_lexer.specs.Spelling.{AreDigits, IsExponent}
use Rattle.qasm_lexer.specs.Scan.{StopsAt}
use Rattle.qasm_lexer.proofs.Cutting.{cons≢nil}
use Rattle.qasm_lexer.proofs.Passing.{and_first, and_second}
use Rattle.qasm_lexer.proofs.Numerals.{cons_head, cons_tail}
use Rattle.qasm_lexer.proofs.Starts.{digit_range}

-- a front of which each element passes is no longer than what stands before one that fails
pub run_longest : (p : ℕ → Bool) (a r b s : List ℕ) → a ++ r ≡ b ++ s → StopsAt p r → IsTrue (list_all p b) → length b ≤ length a
run_longest p a r [] s e stops all = omega arith
run_longest p [] [] (y ∷ b) s e stops all = absurd (cons≢nil (sym e))
run_longest p [] (x ∷ r) (y ∷ b) s e stops all = absurd (false≢true (sym stops ∙ ap p (cons_head e) ∙ and_first (p y) _ all))
run_longest p (x ∷ a) r (y ∷ b) s e stops all =
    let ih = run_longest p a r b s (cons_tail e) stops (and_second (p y) _ all) in
    omega (arith, ih)

-- there is one front of which each element passes, up to one that fails
pub run_unique : (p : ℕ → Bool) (a r b s : List ℕ) → a ++ r ≡ b ++ s → StopsAt p r → StopsAt p s → IsTrue (list_all p a) → IsTrue (list_all p b) → (a ≡ b) × (r ≡ s)
run_unique p [] r [] s e stops ends all each = (refl, e)
run_unique p [] [] (y ∷ b) s e stops ends all each = absurd (cons≢nil (sym e))
run_unique p [] (x ∷ r) (y ∷ b) s e stops ends all each = absurd (false≢true (sym stops ∙ ap p (cons_head e) ∙ and_first (p y) _ each))
run_unique p (x ∷ a) r [] [] e stops ends all each = absurd (cons≢nil e)
run_unique p (x ∷ a) r [] (y ∷ s) e stops ends all each = absurd (false≢true (sym ends ∙ ap p (sym (cons_head e)) ∙ and_first (p x) _ all))
run_unique p (x ∷ a) r (y ∷ b) s e stops ends all each =
    let ih = run_unique p a r b s (cons_tail e) stops ends (and_second (p x) _ all) (and_second (p y) _ each) in
    (ap (λ z. z ∷ a) (cons_head e) ∙ ap (λ z. y ∷ z) ih.0, ih.1)

-- signs
abbrev pub is_sign : ℕ → Bool
is_sign c = (c == 43) || (c == 45)

pub sign_all : (sign : List ℕ) → (sign ≡ []) ⊎ (sign ≡ 43 ∷ []) ⊎ (sign ≡ 45 ∷ []) → IsTrue (list_all is_sign sign)
sign_all sign (inl e) = ap (list_all is_sign) e
sign_all sign (inr (inl e)) = ap (list_all is_sign) e
sign_all sign (inr (inr e)) = ap (list_all is_sign) e

digit_no_sign : (c : ℕ) → is_digit_in 10 c ≡ true → is_sign c ≡ false
digit_no_sign c h = let range = digit_range c h in grind (arith, nat_tests)

pub digits_stop_sign : (digits more : List ℕ) → AreDigits digits → StopsAt is_sign (digits ++ more)
digits_stop_sign [] more d = absurd (omega (arith, d.some))
digits_stop_sign (c ∷ cs) more d = digit_no_sign c (and_first (is_digit_in 10 c) _ d.each)

-- the longest exponent takes all digits
pub exponent_longest : (front after other more : List ℕ) → front ++ after ≡ other ++ more → IsExponent front → StopsAt (is_digit_in 10) after → IsExponent other → length other ≤ length front
exponent_longest front after other more e f stops o =
    let left : front ++ after ≡ f.letter ∷ f.sign ++ (f.digits ++ after) = ap (λ x. x ++ after) f.split ∙ ap (λ x. f.letter ∷ x) (append_assoc f.sign f.digits after) in
    let right : other ++ more ≡ o.letter ∷ o.sign ++ (o.digits ++ more) = ap (λ x. x ++ more) o.split ∙ ap (λ x. o.letter ∷ x) (append_assoc o.sign o.digits more) in
    let tails = cons_tail (sym left ∙ e ∙ right) in
    let signs = run_unique is_sign f.sign (f.digits ++ after) o.sign (o.digits ++ more) tails (digits_stop_sign f.digits after f.are_digits) (digits_stop_sign o.digits more o.are_digits) (sign_all f.sign f.is_sign) (sign_all o.sign o.is_sign) in
    let digits = run_longest (is_digit_in 10) f.digits after o.digits more signs.1 stops o.are_digits.each in
    omega (arith, ap length f.split, ap length o.split, length-append f.sign f.digits, length-append o.sign o.digits, ap length signs.0, digits)

-- an exponent begins with no digit and no point
pub exponent_stops : (exponent more : List ℕ) → IsExponent exponent → StopsAt (is_digit_in 10) (exponent ++ more)
exponent_stops exponent more x =
    subst (λ y. StopsAt (is_digit_in 10) (y ++ more)) (sym x.split) (letter_no_digit x.letter x.is_letter)
  where
    letter_no_digit : (c : ℕ) → (c ≡ 101) ⊎ (c ≡ 69) → is_digit_in 10 c ≡ false
    letter_no_digit c (inl e) = ap (is_digit_in 10) e
    letter_no_digit c (inr e) = ap (is_digit_in 10) e

pub exponent_no_point : (exponent more rest : List ℕ) → IsExponent exponent → 46 ∷ rest ≡ exponent ++ more → ⊥
exponent_no_point exponent more rest x e = letter_no_point x.letter x.is_letter (cons_head (e ∙ ap (λ y. y ++ more) x.split))
  where
    letter_no_point : (c : ℕ) → (c ≡ 101) ⊎ (c ≡ 69) → 46 ≡ c → ⊥
    letter_no_point c (inl e) p = omega arith
    letter_no_point c (inr e) p = omega arith

-- a longer spelling in two parts
pub length_two : (a b c : List ℕ) → length (a ++ b ++ c) ≡ length a + length b + length c
length_two a b c = omega (arith, length-append (a ++ b) c, length-append a b)
