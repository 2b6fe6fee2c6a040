-- Numerals: digits with single `_` between them.
use Rattle.std.proofs.Common.{◌≡◌, ℕ, ◌+◌, ◌*◌, ◌<◌, ◌≤◌, ◌⊎◌, Bool, true, false, ◌&&◌, ◌||◌, cond, ◌==◌, List, [], ◌∷◌, ◌++◌, length, IsUtf8, sym, refl, ap, ◌∙◌, subst, arith, ⊎_elim, inl, inr, nat_lt, Option, None}
use Rattle.std.specs.Prelude.{IsTrue, SomeIff}
use Rattle.std.specs.Char.{digit_value}
use Rattle.std.specs.Str.{chars}
use Rattle.std.specs.Str.Parse.{digits_value_after}
use Rattle.std.proofs.lemmas.Bool.{false≢true}
use Rattle.std.proofs.lemmas.Bool.Decides.{nat_tests}
use Rattle.qasm_lexer.specs.Characters.{is_digit_in}
use Rattle.qasm_lexer.specs.Spelling.{goes_on, digits_of_numeral}
use Rattle.qasm_lexer.specs.Scan.{Cuts, IsStep, begins_step, SkipsDigits}
use Rattle.qasm_lexer.proofs.Cutting.{cut_none, cut_twice, cons≢nil, cut_shorter_by}
use Rattle.qasm_lexer.proofs.Passing.{and_first, and_second, and_true}

-- the rest stands behind what may stand behind a digit
pub record WentOn (base : ℕ) (text rest : List ℕ) : Type 0 where
  pub front : List ℕ
  pub cuts : Cuts text front rest
  pub each : IsTrue (goes_on base front)

pub went_none : (base : ℕ) (text : List ℕ) → IsUtf8 text → WentOn base text text
went_none base text utf8 = record { front = []; cuts = cut_none text utf8; each = refl }

-- two characters and more, where the first is a digit or not
pub goes_digit : (base c d : ℕ) (cs : List ℕ) → is_digit_in base c ≡ true → goes_on base (c ∷ d ∷ cs) ≡ goes_on base (d ∷ cs)
goes_digit base c d cs h = ap (λ b. cond b (goes_on base (d ∷ cs)) ((c == 95) && is_digit_in base d && goes_on base cs)) h

pub goes_mark : (base c d : ℕ) (cs : List ℕ) → is_digit_in base c ≡ false → goes_on base (c ∷ d ∷ cs) ≡ ((c == 95) && is_digit_in base d && goes_on base cs)
goes_mark base c d cs h = ap (λ b. cond b (goes_on base (d ∷ cs)) ((c == 95) && is_digit_in base d && goes_on base cs)) h

pub not_eqb : (a b : ℕ) → (a ≡ b → ⊥) → (a == b) ≡ false
not_eqb a b h = grind (arith, nat_tests, h)

and_false : (b : Bool) → (b && false) ≡ false
and_false true = refl
and_false false = refl

pub below_test : (a b : ℕ) → a < b → nat_lt a b ≡ true
below_test a b h = grind (arith, nat_tests)

pub not_below_test : (a b : ℕ) → ¬ (a < b) → nat_lt a b ≡ false
not_below_test a b h = grind (arith, nat_tests)

le_mul : (n base : ℕ) → 1 ≤ base → n ≤ n * base
le_mul n base h = grind arith

pub either : (b : Bool) → (b ≡ true) ⊎ (b ≡ false)
either true = inl refl
either false = inr refl

-- no step begins at a character that is neither a digit nor a `_`
pub no_step_here : (base c : ℕ) (cs ds : List ℕ) → cs ≡ c ∷ ds → is_digit_in base c ≡ false → (c ≡ 95 → ⊥) → begins_step base cs ≡ false
no_step_here base c cs ds e h k = ap (begins_step base) e ∙ here ds
  where
    here : (ds : List ℕ) → begins_step base (c ∷ ds) ≡ false
    here [] = h
    here (d ∷ ds) = ap (λ b. b || ((c == 95) && is_digit_in base d)) h ∙ ap (λ b. b && is_digit_in base d) (not_eqb c 95 k)

-- nor at a `_` with no digit behind it
pub no_step_end : (base c : ℕ) (cs ds : List ℕ) → cs ≡ c ∷ ds → ds ≡ [] → is_digit_in base c ≡ false → begins_step base cs ≡ false
no_step_end base c cs ds e none h = ap (begins_step base) (e ∙ ap (λ x. c ∷ x) none) ∙ h

pub no_step_behind : (base c d : ℕ) (cs ds es : List ℕ) → cs ≡ c ∷ ds → ds ≡ d ∷ es → is_digit_in base c ≡ false → is_digit_in base d ≡ false → begins_step base cs ≡ false
no_step_behind base c d cs ds es e f h k =
    ap (begins_step base) (e ∙ ap (λ x. c ∷ x) f) ∙ ap (λ b. b || ((c == 95) && is_digit_in base d)) h ∙ ap (λ b. (c == 95) && b) k ∙ and_false (c == 95)

-- one step more goes on too
goes_step : (base d : ℕ) (step : List ℕ) → is_digit_in base d ≡ true → (step ≡ d ∷ []) ⊎ (step ≡ 95 ∷ d ∷ []) → goes_on base step ≡ true
goes_step base d step h (inl e) = ap (goes_on base) e ∙ h
goes_step base d step h (inr e) = ap (goes_on base) e ∙ by_case (is_digit_in base 95)
  where
    by_case : (b : Bool) → cond b (goes_on base (d ∷ [])) (true && is_digit_in base d && true) ≡ true
    by_case true = h
    by_case false = ap (λ x. (true && x) && true) h

step_begins : (base c d : ℕ) (step : List ℕ) → is_digit_in base c ≡ true → is_digit_in base d ≡ true → (step ≡ d ∷ []) ⊎ (step ≡ 95 ∷ d ∷ []) → goes_on base (c ∷ step) ≡ true
step_begins base c d step h k (inl e) = ap (λ s. goes_on base (c ∷ s)) e ∙ goes_digit base c d [] h ∙ k
step_begins base c d step h k (inr e) =
    ap (λ s. goes_on base (c ∷ s)) e ∙ goes_digit base c 95 (d ∷ []) h ∙ goes_step base d (95 ∷ d ∷ []) k (inr refl)

goes_on-append : (base d : ℕ) (front step : List ℕ) → goes_on base front ≡ true → is_digit_in base d ≡ true → (step ≡ d ∷ []) ⊎ (step ≡ 95 ∷ d ∷ []) → goes_on base (front ++ step) ≡ true
goes_on-append base d [] step g h e = goes_step base d step h e
goes_on-append base d (c ∷ []) step g h e = step_begins base c d step g h e
goes_on-append base d (c ∷ x ∷ cs) step g h e =
    ⊎_elim
    (λ (digit : is_digit_in base c ≡ true). goes_digit base c x (cs ++ step) digit ∙ goes_on-append base d (x ∷ cs) step (sym (goes_digit base c x cs digit) ∙ g) h e)
    (λ (mark : is_digit_in base c ≡ false).
    let parts = sym (goes_mark base c x cs mark) ∙ g in
    goes_mark base c x (cs ++ step) mark ∙ and_true (and_first _ (goes_on base cs) parts) (goes_on-append base d cs step (and_second _ (goes_on base cs) parts) h e))
    (either (is_digit_in base c))

pub went_step : (base : ℕ) {text rest step behind : List ℕ} → WentOn base text rest → Cuts rest step behind → IsStep base step → WentOn base text behind
went_step base {text} {rest} {step} {behind} before cut is = record {
  front = before.front ++ step;
  cuts = cut_twice before.cuts cut;
  each = goes_on-append base is.0 before.front step before.each is.1 is.2;
}

pub skips_digits_end : (base : ℕ) {text rest : List ℕ} → WentOn base text rest → begins_step base (chars rest) ≡ false → SkipsDigits base text rest
skips_digits_end base before stops = record { front = before.front; cuts = before.cuts; each = before.each; stops = stops }

-- where a step is behind the front, the front was not all that goes on
pub no_step_of : (base : ℕ) (other more : List ℕ) → begins_step base (other ++ more) ≡ false → goes_on base other ≡ true → other ≡ []
no_step_of base [] more stops g = refl
no_step_of base (c ∷ []) [] stops g = absurd (false≢true (sym stops ∙ g))
no_step_of base (c ∷ []) (m ∷ more) stops g = absurd (false≢true (sym stops ∙ ap (λ b. b || ((c == 95) && is_digit_in base m)) g))
no_step_of base (c ∷ d ∷ cs) more stops g =
    ⊎_elim
    (λ (digit : is_digit_in base c ≡ true). absurd (false≢true (sym stops ∙ ap (λ b. b || ((c == 95) && is_digit_in base d)) digit)))
    (λ (mark : is_digit_in base c ≡ false).
    let parts : ((c == 95) && is_digit_in base d) ≡ true = and_first _ (goes_on base cs) (sym (goes_mark base c d cs mark) ∙ g) in
    absurd (false≢true (sym stops ∙ ap (λ b. b || ((c == 95) && is_digit_in base d)) mark ∙ parts)))
    (either (is_digit_in base c))

pub cons_head : {x y : ℕ} {xs ys : List ℕ} → x ∷ xs ≡ y ∷ ys → x ≡ y
cons_head e = cc

pub cons_tail : {x y : ℕ} {xs ys : List ℕ} → x ∷ xs ≡ y ∷ ys → xs ≡ ys
cons_tail e = cc

-- the longest front that may stand behind a digit
pub longest_on : (base : ℕ) (front after other more : List ℕ) → front ++ after ≡ other ++ more → goes_on base front ≡ true → begins_step base after ≡ false → goes_on base other ≡ true → length other ≤ length front
longest_on base [] after other more e g stops h =
    omega (arith, ap length (no_step_of base other more (sym (ap (begins_step base) e) ∙ stops) h))
longest_on base (f ∷ fs) after [] more e g stops h = omega arith
longest_on base (f ∷ fs) after (c ∷ []) more e g stops h = omega arith
longest_on base (f ∷ []) after (c ∷ d ∷ cs) more e g stops h =
    let same : is_digit_in base c ≡ true = ap (is_digit_in base) (sym (cons_head e)) ∙ g in
    let none = no_step_of base (d ∷ cs) more (sym (ap (begins_step base) (cons_tail e)) ∙ stops) (sym (goes_digit base c d cs same) ∙ h) in
    absurd (cons≢nil none)
longest_on base (f ∷ x ∷ fs) after (c ∷ d ∷ cs) more e g stops h =
    ⊎_elim
    (λ (digit : is_digit_in base f ≡ true).
    let same : is_digit_in base c ≡ true = ap (is_digit_in base) (sym (cons_head e)) ∙ digit in
    let ih = longest_on base (x ∷ fs) after (d ∷ cs) more (cons_tail e) (sym (goes_digit base f x fs digit) ∙ g) stops (sym (goes_digit base c d cs same) ∙ h) in
    omega (arith, ih))
    (λ (mark : is_digit_in base f ≡ false).
    let same : is_digit_in base c ≡ false = ap (is_digit_in base) (sym (cons_head e)) ∙ mark in
    let ih = longest_on base fs after cs more (cons_tail (cons_tail e)) (and_second _ (goes_on base fs) (sym (goes_mark base f x fs mark) ∙ g)) stops (and_second _ (goes_on base cs) (sym (goes_mark base c d cs same) ∙ h)) in
    omega (arith, ih))
    (either (is_digit_in base f))

-- a step leaves less
pub step_shorter : (base : ℕ) {text front rest : List ℕ} → Cuts text front rest → IsStep base front → length rest < length text
step_shorter base cut is =
    ⊎_elim
    (λ e. cut_shorter_by cut e)
    (λ e. cut_shorter_by cut e)
    is.2

-- the value of digits, one character on
pub value_digit : (base n c : ℕ) (cs ds : List ℕ) → cs ≡ c ∷ ds → digit_value c < base → digits_value_after base n (digits_of_numeral base cs) ≡ digits_value_after base (n * base + digit_value c) (digits_of_numeral base ds)
value_digit base n c cs ds e h =
    ap (λ x. digits_value_after base n (digits_of_numeral base x)) e ∙ ap (λ b. digits_value_after base n (cond b (c ∷ digits_of_numeral base ds) (digits_of_numeral base ds))) (below_test _ _ h)

pub value_other : (base n c : ℕ) (cs ds : List ℕ) → cs ≡ c ∷ ds → ¬ (digit_value c < base) → digits_value_after base n (digits_of_numeral base cs) ≡ digits_value_after base n (digits_of_numeral base ds)
value_other base n c cs ds e h =
    ap (λ x. digits_value_after base n (digits_of_numeral base x)) e ∙ ap (λ b. digits_value_after base n (cond b (c ∷ digits_of_numeral base ds) (digits_of_numeral base ds))) (not_below_test _ _ h)

-- the value never falls
pub value_grows : (base n : ℕ) (ds : List ℕ) → 1 ≤ base → n ≤ digits_value_after base n ds
value_grows base n [] h = omega arith
value_grows base n (d ∷ ds) h =
    let ih = value_grows base (n * base + digit_value d) ds h in
    let more : n ≤ n * base = le_mul n base h in
    omega (arith, ih, more)

-- a call that gave nothing, where nothing is to be given
pub none_unless : {X : Type 0} (P : Type 0) (v : X) (r : Option X) → r ≡ None → ¬ P → SomeIff r P v
none_unless P v r e h = subst (λ o. SomeIff o P v) (sym e) h

pub value_end : (base n : ℕ) (cs : List ℕ) → cs ≡ [] → digits_value_after base n (digits_of_numeral base cs) ≡ n
value_end base n cs e = ap (λ x. digits_value_after base n (digits_of_numeral base x)) e

-- the value of all digits passes a bound that it has passed
pub value_passes : (base n c bound total : ℕ) (cs ds : List ℕ) → 1 ≤ base → cs ≡ c ∷ ds → digit_value c < base → digits_value_after base n (digits_of_numeral base cs) ≡ total → ¬ (n * base + digit_value c < bound) → ¬ (total < bound)
value_passes base n c bound total cs ds one e digit all passed small =
    let step = value_digit base n c cs ds e digit in
    let grows = value_grows base (n * base + digit_value c) (digits_of_numeral base ds) one in
    passed (omega (arith, step, grows, all))

pub product_passes : (a b d bound : ℕ) → ¬ (a * b < bound) → ¬ (a * b + d < bound)
product_passes a b d bound h k = h (omega arith)

pub product_is : (a b x bound : ℕ) → x ≡ b → ¬ (a * x < bound) → ¬ (a * b < bound)
product_is a b x bound e h k = h (subst (λ y. a * y < bound) (sym e) k)

-- one digit is added
pub added : (n base x v d e f : ℕ) → x ≡ base → v ≡ n * x → e ≡ d → d ≡ f → v + e ≡ n * base + f
added n base x v d e f p q r t = ap (λ y. y + e) (q ∙ ap (λ y. n * y) p) ∙ ap (λ y. n * base + y) (r ∙ t)

pub sum_is : (x y bound : ℕ) → x ≡ y → ¬ (x < bound) → ¬ (y < bound)
sum_is x y bound e h k = h (subst (λ n. n < bound) (sym e) k)
