-- What a character may begin.
use Rattle.std.proofs.Common.{◌≡◌, ◌⊎◌, inl, inr, ℕ, ◌≤◌, ◌<◌, Bool, true, false, cond, ◌||◌, ◌==◌, refl, ap, ◌∙◌, arith, eqb-true, leb-true}
use Rattle.std.specs.Char.{is_ascii_digit}
use Rattle.std.specs.Int.{is_in_range}
use Rattle.grammar_parts.proofs.Sets.{both_true}
use Rattle.qir_module.specs.Tokens.{is_blank, begins_word, is_mark}
use Rattle.qir_module.specs.Lexer.{Lead, Blank, Semicolon, Letter, Digit, Minus, Percent, At, Hash, Bang, Quote, OtherMark, Nothing, lead_of}

pub or_false : (a b : Bool) → a ≡ false → b ≡ false → (a || b) ≡ false
or_false a b e f = ap (λ x. x || b) e ∙ f

pub or_cases : (a b : Bool) → (a || b) ≡ true → (a ≡ true) ⊎ (b ≡ true)
or_cases true b e = inl refl
or_cases false b e = inr e

pub differs : (p : ℕ → Bool) (c k : ℕ) → p c ≡ true → p k ≡ false → (c == k) ≡ false
differs p c k h f = at (c == k) refl
  where
    at : (b : Bool) → (c == k) ≡ b → (c == k) ≡ false
    at false e = e
    at true e = absurd (cc (ap p (eqb-true c k e), h, f))

not_blank : (p : ℕ → Bool) (c : ℕ) → p c ≡ true → p 32 ≡ false → p 9 ≡ false → p 13 ≡ false → p 10 ≡ false → is_blank c ≡ false
not_blank p c h a b d e =
    or_false _ (c == 10) (or_false _ (c == 13) (or_false (c == 32) (c == 9) (differs p c 32 h a) (differs p c 9 h b)) (differs p c 13 h d)) (differs p c 10 h e)

-- the leads behind each test that fails
abbrev behind_word : ℕ → Lead
behind_word c =
    cond (is_ascii_digit c) Digit (cond (c == 45) Minus (cond (c == 37) Percent (cond (c == 64) At (cond (c == 35) Hash (cond (c == 33) Bang
    (cond (c == 34) Quote (cond (is_mark c) OtherMark Nothing)))))))

pub letter_lead : (c : ℕ) → begins_word c ≡ true → lead_of c ≡ Letter
letter_lead c h =
    ap (λ b. cond b Blank (cond (c == 59) Semicolon (cond (begins_word c) Letter (behind_word c)))) (not_blank begins_word c h refl refl refl refl)
    ∙ ap (λ b. cond b Semicolon (cond (begins_word c) Letter (behind_word c))) (differs begins_word c 59 h refl)
    ∙ ap (λ b. cond b Letter (behind_word c)) h

in_range : (lo hi c : ℕ) → is_in_range lo hi c ≡ true → (lo ≤ c) × (c ≤ hi)
in_range lo hi c h = let b = both_true _ _ h in (leb-true lo c b.0, leb-true c hi b.1)

-- a digit is no letter
digit_no_range : (lo hi c : ℕ) → is_ascii_digit c ≡ true → 57 < lo → is_in_range lo hi c ≡ false
digit_no_range lo hi c h l = at (is_in_range lo hi c) refl
  where
    at : (b : Bool) → is_in_range lo hi c ≡ b → is_in_range lo hi c ≡ false
    at false e = e
    at true e = absurd (omega (arith, (in_range 48 57 c h).1, (in_range lo hi c e).0, l))

pub digit_no_word : (c : ℕ) → is_ascii_digit c ≡ true → begins_word c ≡ false
digit_no_word c h = or_false _ _ (or_false _ _ (digit_no_range 65 90 c h (omega arith)) (digit_no_range 97 122 c h (omega arith))) (differs is_ascii_digit c 95 h refl)

pub digit_lead : (c : ℕ) → is_ascii_digit c ≡ true → lead_of c ≡ Digit
digit_lead c h =
    ap (λ b. cond b Blank (cond (c == 59) Semicolon (cond (begins_word c) Letter (behind_word c)))) (not_blank is_ascii_digit c h refl refl refl refl)
    ∙ ap (λ b. cond b Semicolon (cond (begins_word c) Letter (behind_word c))) (differs is_ascii_digit c 59 h refl)
    ∙ ap (λ b. cond b Letter (behind_word c)) (digit_no_word c h)
    ∙ ap (λ b. cond b Digit (cond (c == 45) Minus (cond (c == 37) Percent (cond (c == 64) At (cond (c == 35) Hash (cond (c == 33) Bang (cond (c == 34) Quote (cond (is_mark c) OtherMark Nothing)))))))) h

-- a mark is `!`, or has a lead of its own
pub mark_lead : (c : ℕ) → is_mark c ≡ true → (c ≡ 33) ⊎ (lead_of c ≡ OtherMark)
mark_lead c h = elim (or_cases _ (c == 33) h) [
  | inr e ↦ inl (eqb-true c 33 e)
  | inl h ↦ elim (or_cases _ (c == 44) h) [
    | inr e ↦ inr (ap lead_of (eqb-true c 44 e))
    | inl h ↦ elim (or_cases _ (c == 125) h) [
      | inr e ↦ inr (ap lead_of (eqb-true c 125 e))
      | inl h ↦ elim (or_cases _ (c == 123) h) [
        | inr e ↦ inr (ap lead_of (eqb-true c 123 e))
        | inl h ↦ elim (or_cases _ (c == 93) h) [
          | inr e ↦ inr (ap lead_of (eqb-true c 93 e))
          | inl h ↦ elim (or_cases _ (c == 91) h) [
            | inr e ↦ inr (ap lead_of (eqb-true c 91 e))
            | inl h ↦ elim (or_cases _ (c == 41) h) [
              | inr e ↦ inr (ap lead_of (eqb-true c 41 e))
              | inl h ↦ elim (or_cases _ (c == 40) h) [
                | inr e ↦ inr (ap lead_of (eqb-true c 40 e))
                | inl e ↦ inr (ap lead_of (eqb-true c 61 e))
              ]
            ]
          ]
        ]
      ]
    ]
  ]
]

-- what is known of a character by its lead
abbrev pub LeadIs : ℕ → Lead → Type 0
LeadIs c Blank = is_blank c ≡ true
LeadIs c Semicolon = c ≡ 59
LeadIs c Letter = begins_word c ≡ true
LeadIs c Digit = is_ascii_digit c ≡ true
LeadIs c Minus = c ≡ 45
LeadIs c Percent = c ≡ 37
LeadIs c At = c ≡ 64
LeadIs c Hash = c ≡ 35
LeadIs c Bang = c ≡ 33
LeadIs c Quote = c ≡ 34
LeadIs c OtherMark = is_mark c ≡ true
LeadIs c Nothing = (is_blank c ≡ false) × (c == 59 ≡ false) × (c == 34 ≡ false)

tested : (P : Lead → Type 0) (b : Bool) (x y : Lead) → (b ≡ true → P x) → (b ≡ false → P y) → P (cond b x y)
tested P true x y f g = f refl
tested P false x y f g = g refl

pub lead_is : (c : ℕ) → LeadIs c (lead_of c)
lead_is c =
    tested (LeadIs c) (is_blank c) _ _ (λ e. e) (λ no_blank.
    tested (LeadIs c) (c == 59) _ _ (λ e. eqb-true c 59 e) (λ no_comment.
    tested (LeadIs c) (begins_word c) _ _ (λ e. e) (λ e.
    tested (LeadIs c) (is_ascii_digit c) _ _ (λ e. e) (λ e.
    tested (LeadIs c) (c == 45) _ _ (λ e. eqb-true c 45 e) (λ e.
    tested (LeadIs c) (c == 37) _ _ (λ e. eqb-true c 37 e) (λ e.
    tested (LeadIs c) (c == 64) _ _ (λ e. eqb-true c 64 e) (λ e.
    tested (LeadIs c) (c == 35) _ _ (λ e. eqb-true c 35 e) (λ e.
    tested (LeadIs c) (c == 33) _ _ (λ e. eqb-true c 33 e) (λ e.
    tested (LeadIs c) (c == 34) _ _ (λ e. eqb-true c 34 e) (λ no_quote.
    tested (LeadIs c) (is_mark c) _ _ (λ e. e) (λ e. (no_blank, no_comment, no_quote))))))))))))
