-- How long a token may be that begins a text, by the text's first character.
use Rattle.std.proofs.Common.{◌≡◌, ◌⊎◌, inl, inr, ℕ, suc, ◌+◌, ◌<◌, ◌≤◌, true, ◌&&◌, ◌||◌, ◌==◌, List, [], ◌∷◌, ◌++◌, length, drop, Some, refl, sym, ap, ◌∙◌, subst, arith, append-nil, append_assoc, length-append}
use Rattle.std.proofs.Math.Seq.{drop-append_seam}
use Rattle.std.specs.List.{list_all}
use Rattle.std.specs.Char.{is_ascii_digit}
use Rattle.grammar_parts.proofs.Sets.{both_true}
use Rattle.qir_module.specs.Tokens.{TokenKind, begins_word, continues_word, is_mark, Outside, IsWord, AreDigits, IsNumbered, IsNumber, IsQuoted, is_body, Spells}
use Rattle.qir_module.specs.Tokens as t
use Rattle.qir_module.specs.Lexer.{Lead, Letter, Digit, Minus, Percent, At, Hash, Bang, Quote, OtherMark, lead_of, run, heads, closed}
use Rattle.qir_lexer.proofs.Runs.{run_most, run_exact, closed_is}
use Rattle.qir_lexer.proofs.Leads.{letter_lead, digit_lead, mark_lead}

-- so long a token of digits, a word or a quoted text is there behind so many characters
abbrev pub NumberFits : ℕ → List ℕ → ℕ → Type 0
NumberFits skip text n = (0 < run is_ascii_digit (drop skip text)) × (n ≤ skip + run is_ascii_digit (drop skip text))

abbrev pub NameFits : ℕ → List ℕ → ℕ → Type 0
NameFits skip text n = (heads begins_word (drop skip text) ≡ true) × (n ≤ skip + run continues_word (drop skip text))

abbrev pub QuotedFits : ℕ → List ℕ → ℕ → Type 0
QuotedFits skip text n = (heads (λ c. c == 34) (drop skip text) ≡ true) × (k : ℕ) × (closed Outside (drop (skip + 1) text) ≡ Some k) × (n ≡ skip + k + 2)

abbrev pub BlockFits : List ℕ → ℕ → Type 0
BlockFits text n = (0 < run is_ascii_digit (drop 1 text)) × (heads (λ c. c == 58) (drop (1 + run is_ascii_digit (drop 1 text)) text) ≡ true) × (n ≡ run is_ascii_digit (drop 1 text) + 2)

-- a token of this length may be there
abbrev pub Possible : Lead → ℕ → List ℕ → ℕ → Type 0
Possible Letter c text n = (n ≤ run continues_word text) ⊎ (((c == 98) ≡ true) × BlockFits text n) ⊎ (((c == 99) ≡ true) × QuotedFits 1 text n)
Possible Digit c text n = NumberFits 0 text n
Possible Minus c text n = NumberFits 1 text n
Possible Percent c text n = ((heads (λ d. d == 114) (drop 1 text) ≡ true) × NumberFits 2 text n) ⊎ ((heads (λ d. d == 98) (drop 1 text) ≡ true) × NumberFits 2 text n)
Possible At c text n = NumberFits 1 text n ⊎ NameFits 1 text n
Possible Hash c text n = NumberFits 1 text n
Possible Bang c text n = NumberFits 1 text n ⊎ NameFits 1 text n ⊎ QuotedFits 1 text n ⊎ (n ≡ 1)
Possible Quote c text n = QuotedFits 0 text n
Possible OtherMark c text n = n ≡ 1
Possible _ c text n = ⊥

abbrev pub PossibleIn : List ℕ → ℕ → Type 0
PossibleIn [] n = ⊥
PossibleIn (c ∷ cs) n = Possible (lead_of c) c (c ∷ cs) n

-- ---- each kind

digits_fit : (ds more : List ℕ) → AreDigits ds → (0 < run is_ascii_digit (ds ++ more)) × (length ds ≤ run is_ascii_digit (ds ++ more))
digits_fit ds more a = let m : length ds ≤ run is_ascii_digit (ds ++ more) = run_most is_ascii_digit ds more a.each in (omega (arith, m, a.some), m)

-- the characters behind a front, where nothing else is behind the digits
pub numbered_as : (front cs : List ℕ) (n : ℕ) (h : IsNumbered front [] cs n) → cs ≡ front ++ h.digits
numbered_as front cs n h = h.split ∙ append-nil (front ++ h.digits)

behind_one : (ds more : List ℕ) (c : ℕ) → AreDigits ds → NumberFits 1 (c ∷ (ds ++ more)) (suc (length ds))
behind_one ds more c a = let f = digits_fit ds more a in (f.0, omega (arith, f.1))

behind_two : (ds more : List ℕ) (c d : ℕ) → AreDigits ds → NumberFits 2 (c ∷ d ∷ (ds ++ more)) (suc (suc (length ds)))
behind_two ds more c d a = let f = digits_fit ds more a in (f.0, omega (arith, f.1))

continues : (c : ℕ) → begins_word c ≡ true → continues_word c ≡ true
continues c e = ap (λ b. b || is_ascii_digit c || (c == 46)) e

pub word_all : (w : List ℕ) → IsWord w → list_all continues_word w ≡ true
word_all [] h = absurd h
word_all (c ∷ cs) h = ap (λ b. b && list_all continues_word cs) (continues c h.0) ∙ h.1

word_heads : (w more : List ℕ) → IsWord w → heads begins_word (w ++ more) ≡ true
word_heads [] more h = absurd h
word_heads (c ∷ cs) more h = h.0

behind_name : (w more : List ℕ) (c : ℕ) → IsWord w → NameFits 1 (c ∷ (w ++ more)) (suc (length w))
behind_name w more c h = (word_heads w more h, omega (arith, run_most continues_word w more (word_all w h)))

word_in : (w more : List ℕ) → IsWord w → PossibleIn (w ++ more) (length w)
word_in [] more h = absurd h
word_in (c ∷ cs) more h = subst (λ l. Possible l c (c ∷ (cs ++ more)) (suc (length cs))) (sym (letter_lead c h.0)) (inl (run_most continues_word (c ∷ cs) more (word_all (c ∷ cs) h)))

digits_in : (ds more : List ℕ) → AreDigits ds → PossibleIn (ds ++ more) (length ds)
digits_in [] more a = absurd (omega (arith, a.some))
digits_in (d ∷ ds) more a =
    let b = both_true (is_ascii_digit d) (list_all is_ascii_digit ds) a.each in
    let f = digits_fit (d ∷ ds) more a in
    subst (λ l. Possible l d (d ∷ (ds ++ more)) (suc (length ds))) (sym (digit_lead d b.0)) (f.0, omega (arith, f.1))

-- the length of a quoted text, and where it closes
quoted_length : (front body : List ℕ) → length (front ++ 34 ∷ body ++ 34 ∷ []) ≡ length front + length body + 2
quoted_length front body = omega (arith, length-append (front ++ 34 ∷ body) (34 ∷ []), length-append front (34 ∷ body))

quoted_tail : (body more : List ℕ) → (body ++ 34 ∷ []) ++ more ≡ body ++ 34 ∷ more
quoted_tail body more = append_assoc body (34 ∷ []) more

quoted_at : (c : ℕ) (body more : List ℕ) → is_body Outside body ≡ true → QuotedFits 1 (c ∷ 34 ∷ ((body ++ 34 ∷ []) ++ more)) (length (c ∷ 34 ∷ (body ++ 34 ∷ [])))
quoted_at c body more h = (refl, length body, ap (closed Outside) (quoted_tail body more) ∙ closed_is Outside body more h, quoted_length (c ∷ []) body)

text_in : (body more : List ℕ) → is_body Outside body ≡ true → PossibleIn (34 ∷ ((body ++ 34 ∷ []) ++ more)) (length (34 ∷ (body ++ 34 ∷ [])))
text_in body more h = (refl, length body, ap (closed Outside) (quoted_tail body more) ∙ closed_is Outside body more h, quoted_length [] body)

block_fits : (ds more : List ℕ) → AreDigits ds → BlockFits (98 ∷ ((ds ++ 58 ∷ []) ++ more)) (length (98 ∷ (ds ++ 58 ∷ [])))
block_fits ds more a =
    let tail : (ds ++ 58 ∷ []) ++ more ≡ ds ++ 58 ∷ more = append_assoc ds (58 ∷ []) more in
    let size : run is_ascii_digit ((ds ++ 58 ∷ []) ++ more) ≡ length ds = ap (run is_ascii_digit) tail ∙ run_exact is_ascii_digit ds 58 more a.each refl in
    let one : 1 + length ds ≡ suc (length ds) = omega arith in (
      omega (arith, size, a.some),
      ap (λ n. heads (λ c. c == 58) (drop (1 + n) (98 ∷ ((ds ++ 58 ∷ []) ++ more)))) size ∙ ap (λ n. heads (λ c. c == 58) (drop n (98 ∷ ((ds ++ 58 ∷ []) ++ more)))) one ∙ ap (λ l. heads (λ c. c == 58) (drop (length ds) l)) tail ∙ ap (heads (λ c. c == 58)) (drop-append_seam ds (58 ∷ more)),
      omega (arith, size, length-append ds (58 ∷ [])),
    )

mark_in : (c : ℕ) (more : List ℕ) → is_mark c ≡ true → PossibleIn (c ∷ more) 1
mark_in c more h = elim (mark_lead c h) [
  | inl e ↦ subst (λ d. PossibleIn (d ∷ more) 1) (sym e) (inr (inr (inr refl)))
  | inr e ↦ subst (λ l. Possible l c (c ∷ more) 1) (sym e) refl
]

-- a token that begins a text is possible there
pub spelled_in : (other more : List ℕ) (kind : TokenKind) → Spells other kind → PossibleIn (other ++ more) (length other)
spelled_in other more (t.Word w) h = subst (λ l. PossibleIn (l ++ more) (length l)) (sym h.0) (word_in w more h.1)
spelled_in other more (t.Number z) (ds, a, inl h) = subst (λ l. PossibleIn (l ++ more) (length l)) (sym h.0) (digits_in ds more a)
spelled_in other more (t.Number z) (ds, a, inr h) = subst (λ l. PossibleIn (l ++ more) (length l)) (sym h.0) (behind_one ds more 45 a)
spelled_in other more (t.Register n) h = subst (λ l. PossibleIn (l ++ more) (length l)) (sym (numbered_as (37 ∷ 114 ∷ []) other n h)) (inl (refl, behind_two h.digits more 37 114 h.are_digits))
spelled_in other more (t.Target n) h = subst (λ l. PossibleIn (l ++ more) (length l)) (sym (numbered_as (37 ∷ 98 ∷ []) other n h)) (inr (refl, behind_two h.digits more 37 98 h.are_digits))
spelled_in other more (t.Block n) h = subst (λ l. PossibleIn (l ++ more) (length l)) (sym h.split) (inr (inl (refl, block_fits h.digits more h.are_digits)))
spelled_in other more (t.Constant n) h = subst (λ l. PossibleIn (l ++ more) (length l)) (sym (numbered_as (64 ∷ []) other n h)) (inl (behind_one h.digits more 64 h.are_digits))
spelled_in other more (t.Group n) h = subst (λ l. PossibleIn (l ++ more) (length l)) (sym (numbered_as (35 ∷ []) other n h)) (behind_one h.digits more 35 h.are_digits)
spelled_in other more (t.Flag n) h = subst (λ l. PossibleIn (l ++ more) (length l)) (sym (numbered_as (33 ∷ []) other n h)) (inl (behind_one h.digits more 33 h.are_digits))
spelled_in other more (t.Named w) h = subst (λ l. PossibleIn (l ++ more) (length l)) (sym h.0) (inr (behind_name w more 64 h.1))
spelled_in other more (t.FlagName w) h = subst (λ l. PossibleIn (l ++ more) (length l)) (sym h.0) (inr (inl (behind_name w more 33 h.1)))
spelled_in other more (t.Text body) h = subst (λ l. PossibleIn (l ++ more) (length l)) (sym h.0) (text_in body more h.1)
spelled_in other more (t.Bytes body) h = subst (λ l. PossibleIn (l ++ more) (length l)) (sym h.0) (inr (inr (refl, quoted_at 99 body more h.1)))
spelled_in other more (t.FlagText body) h = subst (λ l. PossibleIn (l ++ more) (length l)) (sym h.0) (inr (inr (inl (quoted_at 33 body more h.1))))
spelled_in other more (t.Mark c) h = subst (λ l. PossibleIn (l ++ more) (length l)) (sym h.0) (mark_in c more h.1)

pub possible : (text other more : List ℕ) (kind : TokenKind) → text ≡ other ++ more → Spells other kind → PossibleIn text (length other)
possible text other more kind e h = subst (λ l. PossibleIn l (length other)) (sym e) (spelled_in other more kind h)
