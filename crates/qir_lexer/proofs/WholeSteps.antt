-- A spelling by itself is found as the token that it spells, so it spells one token of the right form at most.
use Rattle.std.proofs.Common.{◌≡◌, inl, inr, ℕ, zero, suc, ◌+◌, ◌<◌, ◌≤◌, Bool, true, false, ◌==◌, cond, List, [], ◌∷◌, ◌++◌, length, take, drop, Some, None, refl, sym, ap, ◌∙◌, subst, arith, append-nil, length-append}
use Rattle.std.specs.List.{list_all}
use Rattle.std.specs.Char.{is_ascii_digit}
use Rattle.std.proofs.Math.Seq.{take-append_seam, drop-append_seam, take-length}
use Rattle.std.proofs.lemmas.List.{drop-drop}
use Rattle.grammar_parts.proofs.Sets.{both_true}
use Rattle.qir_module.specs.Tokens.{TokenKind, begins_word, continues_word, is_mark, Outside, IsWord, AreDigits, IsNumbered, is_body, Spells, is_misformed}
use Rattle.qir_module.specs.Tokens as t
use Rattle.qir_module.specs.Lexer.{Step, Found, Fails, run, heads, closed, or_else, found, number_behind, number_step, name_behind, name_step, quoted_behind, quoted_at, quoted_step, value_of, plus, minus, numbered, block_behind, special_step, step_by, step_of}
use Rattle.qir_lexer.proofs.Runs.{run_le, run_most, run_exact, run_off, closed_is}
use Rattle.qir_lexer.proofs.Leads.{differs, digit_no_word, letter_lead, digit_lead, mark_lead}
use Rattle.qir_lexer.proofs.Possible.{word_all, numbered_as}
use Rattle.qir_lexer.proofs.Finding.{step_number}

-- what stands first in a text
abbrev pub first_step : List ℕ → Step
first_step [] = Fails 2
first_step (c ∷ cs) = step_of c cs

run_whole : (passes : ℕ → Bool) (ds : List ℕ) → list_all passes ds ≡ true → run passes ds ≡ length ds
run_whole passes ds a = omega (arith, run_le passes ds, subst (λ l. length ds ≤ run passes l) (append-nil ds) (run_most passes ds [] a))

drop_front : (front xs : List ℕ) → drop (length front) (front ++ xs) ≡ xs
drop_front front xs = drop-append_seam front xs

-- ---- each way to go on, over a whole spelling

number_whole : (make : List ℕ → TokenKind) (front ds : List ℕ) → AreDigits ds → number_step make (length front) (front ++ ds) ≡ Some (found (make ds) (front ++ ds))
number_whole make front ds a =
    step_number make (length front) (length ds) (front ++ ds) ds (sym (drop_front front ds)) (sym (run_whole is_ascii_digit ds a.each)) (λ z. absurd (omega (arith, z, a.some)))
    ∙ ap (λ l. Some (found (make l) (take (length front + length ds) (front ++ ds)))) (take-length ds)
    ∙ ap (λ n. Some (found (make ds) (take n (front ++ ds)))) (sym (length-append front ds)) ∙ ap (λ l. Some (found (make ds) l)) (take-length (front ++ ds))

name_whole : (make : List ℕ → TokenKind) (front w : List ℕ) → heads begins_word w ≡ true → list_all continues_word w ≡ true → name_step make (length front) (front ++ w) ≡ Some (Found (make w) (length (front ++ w)))
name_whole make front w h a =
    let behind : drop (length front) (front ++ w) ≡ w = drop_front front w in
    let here : heads begins_word (drop (length front) (front ++ w)) ≡ true = ap (heads begins_word) behind ∙ h in
    let size : run continues_word (drop (length front) (front ++ w)) ≡ length w = ap (run continues_word) behind ∙ run_whole continues_word w a in
    ap (name_behind make (length front) (front ++ w)) here
    ∙ ap (λ l. Some (Found (make (take (run continues_word (drop (length front) (front ++ w))) l)) (length front + run continues_word (drop (length front) (front ++ w))))) behind
    ∙ ap (λ n. Some (Found (make (take n w)) (length front + n))) size ∙ ap (λ l. Some (Found (make l) (length front + length w))) (take-length w) ∙ ap (λ n. Some (Found (make w) n)) (sym (length-append front w))

-- the quote, the body and the quote
abbrev quoted : List ℕ → List ℕ
quoted body = 34 ∷ (body ++ 34 ∷ [])

quoted_whole : (make : List ℕ → TokenKind) (front body : List ℕ) → is_body Outside body ≡ true → quoted_step make (length front) (front ++ quoted body) ≡ Some (Found (make body) (length (front ++ quoted body)))
quoted_whole make front body h =
    let text : List ℕ = front ++ quoted body in
    let behind : drop (length front) text ≡ quoted body = drop_front front (quoted body) in
    let inner : drop (length front + 1) text ≡ body ++ 34 ∷ [] = sym (drop-drop 1 (length front) text) ∙ ap (drop 1) behind in
    let here : heads (λ c. c == 34) (drop (length front) text) ≡ true = ap (heads (λ c. c == 34)) behind in
    let close : closed Outside (drop (length front + 1) text) ≡ Some (length body) = ap (closed Outside) inner ∙ closed_is Outside body [] h in
    let size : length front + length body + 2 ≡ length text = omega (arith, length-append front (quoted body), length-append body (34 ∷ [])) in
    ap (quoted_at make (length front) text) here ∙ ap (quoted_behind make (length front) text) close
    ∙ ap (λ l. Some (Found (make (take (length body) l)) (length front + length body + 2))) inner ∙ ap (λ l. Some (Found (make l) (length front + length body + 2))) (take-append_seam body (34 ∷ []))
    ∙ ap (λ n. Some (Found (make body) n)) size

-- ---- what is not there

no_number : (make : List ℕ → TokenKind) (skip : ℕ) (text : List ℕ) → run is_ascii_digit (drop skip text) ≡ 0 → number_step make skip text ≡ None
no_number make skip text e = ap (number_behind make skip text) e

no_name : (make : List ℕ → TokenKind) (skip : ℕ) (text : List ℕ) → heads begins_word (drop skip text) ≡ false → name_step make skip text ≡ None
no_name make skip text e = ap (name_behind make skip text) e

word_no_digit : (w : List ℕ) → heads begins_word w ≡ true → run is_ascii_digit w ≡ 0
word_no_digit [] h = refl
word_no_digit (c ∷ cs) h = run_off is_ascii_digit c cs (at (is_ascii_digit c) refl)
  where
    at : (b : Bool) → is_ascii_digit c ≡ b → is_ascii_digit c ≡ false
    at false e = e
    at true e = absurd (cc (digit_no_word c e, h))

-- no character of a word is this one
no_char : (k : ℕ) (w : List ℕ) (i : ℕ) → continues_word k ≡ false → list_all continues_word w ≡ true → heads (λ c. c == k) (drop i w) ≡ false
no_char k [] zero f a = refl
no_char k [] (suc i) f a = refl
no_char k (c ∷ cs) zero f a = differs continues_word c k (both_true (continues_word c) (list_all continues_word cs) a).0 f
no_char k (c ∷ cs) (suc i) f a = no_char k cs i f (both_true (continues_word c) (list_all continues_word cs) a).1

-- ---- each kind

found_plain : (kind : TokenKind) (cs : List ℕ) → is_misformed cs kind ≡ false → found kind cs ≡ Found kind (length cs)
found_plain kind cs e = ap (λ b. cond b (Fails 4) (Found kind (length cs))) e

special_none : (c : ℕ) (cs : List ℕ) → list_all continues_word (c ∷ cs) ≡ true → (a b : Bool) → special_step a b (c ∷ cs) ≡ None
special_none c cs all false false = refl
special_none c cs all false true = ap (quoted_at t.Bytes 1 (c ∷ cs)) (no_char 34 (c ∷ cs) 1 refl all)
special_none c cs all true b = ap (block_behind (c ∷ cs) (run is_ascii_digit cs)) (no_char 58 (c ∷ cs) (1 + run is_ascii_digit cs) refl all) ∙ no_end (run is_ascii_digit cs)
  where
    no_end : (m : ℕ) → block_behind (c ∷ cs) m false ≡ None
    no_end zero = refl
    no_end (suc m) = refl

-- a word has a head
word_head : (w : List ℕ) → IsWord w → heads begins_word w ≡ true
word_head [] h = absurd h
word_head (c ∷ cs) h = h.0

word_found : (w : List ℕ) → IsWord w → first_step w ≡ found (t.Word w) w
word_found [] h = absurd h
word_found (c ∷ cs) h =
    let all : list_all continues_word (c ∷ cs) ≡ true = word_all (c ∷ cs) h in
    ap (λ l. step_by l c (c ∷ cs)) (letter_lead c h.0)
    ∙ ap (λ s. or_else s (or_else (name_step t.Word 0 (c ∷ cs)) (Fails 2))) (special_none c cs all (c == 98) (c == 99))
    ∙ ap (λ s. or_else s (Fails 2)) (name_whole t.Word [] (c ∷ cs) h.0 all)

digits_found : (ds : List ℕ) → AreDigits ds → first_step ds ≡ found (plus ds) ds
digits_found [] a = absurd (omega (arith, a.some))
digits_found (d ∷ ds) a =
    ap (λ l. step_by l d (d ∷ ds)) (digit_lead d (both_true (is_ascii_digit d) (list_all is_ascii_digit ds) a.each).0) ∙ ap (λ s. or_else s (Fails 2)) (number_whole plus [] (d ∷ ds) a)

block_found : (ds : List ℕ) → AreDigits ds → first_step (98 ∷ (ds ++ 58 ∷ [])) ≡ found (t.Block (value_of ds)) (98 ∷ (ds ++ 58 ∷ []))
block_found ds a =
    let text : List ℕ = 98 ∷ (ds ++ 58 ∷ []) in
    let size : run is_ascii_digit (ds ++ 58 ∷ []) ≡ length ds = run_exact is_ascii_digit ds 58 [] a.each refl in
    let one : 1 + length ds ≡ suc (length ds) = omega arith in
    let ends : heads (λ c. c == 58) (drop (1 + run is_ascii_digit (ds ++ 58 ∷ [])) text) ≡ true =
    ap (λ n. heads (λ c. c == 58) (drop (1 + n) text)) size ∙ ap (λ n. heads (λ c. c == 58) (drop n text)) one ∙ ap (heads (λ c. c == 58)) (drop-append_seam ds (58 ∷ [])) in
    let all : length ds + 2 ≡ length text = omega (arith, length-append ds (58 ∷ [])) in
    ap (λ s. or_else s (or_else (name_step t.Word 0 text) (Fails 2)))
    (ap (λ n. block_behind text n (heads (λ c. c == 58) (drop (1 + run is_ascii_digit (ds ++ 58 ∷ [])) text))) size ∙ ap (block_behind text (length ds)) ends ∙ with_end (length ds) (omega (arith, a.some))
    ∙ ap (λ l. Some (found (t.Block (value_of l)) (take (length ds + 2) text))) (take-append_seam ds (58 ∷ [])) ∙ ap (λ n. Some (found (t.Block (value_of ds)) (take n text))) all ∙ ap (λ l. Some (found (t.Block (value_of ds)) l)) (take-length text))
  where
    with_end : (m : ℕ) → 0 < m → block_behind (98 ∷ (ds ++ 58 ∷ [])) m true ≡ Some (found (t.Block (value_of (take m (ds ++ 58 ∷ [])))) (take (m + 2) (98 ∷ (ds ++ 58 ∷ []))))
    with_end zero l = absurd (omega (arith, l))
    with_end (suc m) l = refl

named_found : (w : List ℕ) → IsWord w → first_step (64 ∷ w) ≡ found (t.Named w) (64 ∷ w)
named_found w h =
    ap (λ s. or_else s (or_else (name_step t.Named 1 (64 ∷ w)) (Fails 2))) (no_number (numbered t.Constant) 1 (64 ∷ w) (word_no_digit w (word_head w h)))
    ∙ ap (λ s. or_else s (Fails 2)) (name_whole t.Named (64 ∷ []) w (word_head w h) (word_all w h))

flag_name_found : (w : List ℕ) → IsWord w → first_step (33 ∷ w) ≡ found (t.FlagName w) (33 ∷ w)
flag_name_found w h =
    let last : Step = or_else (quoted_step t.FlagText 1 (33 ∷ w)) (Found (t.Mark 33) 1) in
    ap (λ s. or_else s (or_else (name_step t.FlagName 1 (33 ∷ w)) last)) (no_number (numbered t.Flag) 1 (33 ∷ w) (word_no_digit w (word_head w h)))
    ∙ ap (λ s. or_else s last) (name_whole t.FlagName (33 ∷ []) w (word_head w h) (word_all w h))

flag_text_found : (body : List ℕ) → is_body Outside body ≡ true → first_step (33 ∷ quoted body) ≡ found (t.FlagText body) (33 ∷ quoted body)
flag_text_found body h =
    let text : List ℕ = 33 ∷ quoted body in
    let last : Step = or_else (quoted_step t.FlagText 1 text) (Found (t.Mark 33) 1) in
    ap (λ s. or_else s (or_else (name_step t.FlagName 1 text) last)) (no_number (numbered t.Flag) 1 text (run_off is_ascii_digit 34 (body ++ 34 ∷ []) refl))
    ∙ ap (λ s. or_else s last) (no_name t.FlagName 1 text refl) ∙ ap (λ s. or_else s (Found (t.Mark 33) 1)) (quoted_whole t.FlagText (33 ∷ []) body h)

mark_found : (c : ℕ) → is_mark c ≡ true → first_step (c ∷ []) ≡ found (t.Mark c) (c ∷ [])
mark_found c h = elim (mark_lead c h) [
  | inl e ↦ subst (λ d. first_step (d ∷ []) ≡ found (t.Mark d) (d ∷ [])) (sym e) refl
  | inr e ↦ ap (λ l. step_by l c (c ∷ [])) e
]

-- ---- all

pub whole_step : (cs : List ℕ) (kind : TokenKind) → Spells cs kind → first_step cs ≡ found kind cs
whole_step cs (t.Word w) h = subst (λ l. first_step l ≡ found (t.Word w) l) (sym h.0) (word_found w h.1)
whole_step cs (t.Number z) (ds, a, inl h) = subst (λ l. first_step l ≡ found (t.Number z) l) (sym h.0) (digits_found ds a ∙ ap (λ v. found (t.Number v) ds) (sym h.1))
whole_step cs (t.Number z) (ds, a, inr h) = subst (λ l. first_step l ≡ found (t.Number z) l) (sym h.0) (ap (λ s. or_else s (Fails 2)) (number_whole minus (45 ∷ []) ds a) ∙ ap (λ v. found (t.Number v) (45 ∷ ds)) (sym h.1))
whole_step cs (t.Register n) h = subst (λ l. first_step l ≡ found (t.Register n) l) (sym (numbered_as (37 ∷ 114 ∷ []) cs n h)) (ap (λ s. or_else s (Fails 2)) (number_whole (numbered t.Register) (37 ∷ 114 ∷ []) h.digits h.are_digits) ∙ ap (λ v. found (t.Register v) (37 ∷ 114 ∷ h.digits)) (sym h.value))
whole_step cs (t.Target n) h = subst (λ l. first_step l ≡ found (t.Target n) l) (sym (numbered_as (37 ∷ 98 ∷ []) cs n h)) (ap (λ s. or_else s (Fails 2)) (number_whole (numbered t.Target) (37 ∷ 98 ∷ []) h.digits h.are_digits) ∙ ap (λ v. found (t.Target v) (37 ∷ 98 ∷ h.digits)) (sym h.value))
whole_step cs (t.Block n) h = subst (λ l. first_step l ≡ found (t.Block n) l) (sym h.split) (block_found h.digits h.are_digits ∙ ap (λ v. found (t.Block v) (98 ∷ (h.digits ++ 58 ∷ []))) (sym h.value))
whole_step cs (t.Constant n) h = subst (λ l. first_step l ≡ found (t.Constant n) l) (sym (numbered_as (64 ∷ []) cs n h)) (ap (λ s. or_else s (or_else (name_step t.Named 1 (64 ∷ h.digits)) (Fails 2))) (number_whole (numbered t.Constant) (64 ∷ []) h.digits h.are_digits) ∙ ap (λ v. found (t.Constant v) (64 ∷ h.digits)) (sym h.value))
whole_step cs (t.Group n) h = subst (λ l. first_step l ≡ found (t.Group n) l) (sym (numbered_as (35 ∷ []) cs n h)) (ap (λ s. or_else s (Fails 2)) (number_whole (numbered t.Group) (35 ∷ []) h.digits h.are_digits) ∙ ap (λ v. found (t.Group v) (35 ∷ h.digits)) (sym h.value))
whole_step cs (t.Flag n) h =
    subst (λ l. first_step l ≡ found (t.Flag n) l) (sym (numbered_as (33 ∷ []) cs n h))
    (ap (λ s. or_else s (or_else (name_step t.FlagName 1 (33 ∷ h.digits)) (or_else (quoted_step t.FlagText 1 (33 ∷ h.digits)) (Found (t.Mark 33) 1)))) (number_whole (numbered t.Flag) (33 ∷ []) h.digits h.are_digits) ∙ ap (λ v. found (t.Flag v) (33 ∷ h.digits)) (sym h.value))
whole_step cs (t.Named w) h = subst (λ l. first_step l ≡ found (t.Named w) l) (sym h.0) (named_found w h.1)
whole_step cs (t.FlagName w) h = subst (λ l. first_step l ≡ found (t.FlagName w) l) (sym h.0) (flag_name_found w h.1)
whole_step cs (t.Text body) h = subst (λ l. first_step l ≡ found (t.Text body) l) (sym h.0) (ap (λ s. or_else s (Fails 3)) (quoted_whole t.Text [] body h.1))
whole_step cs (t.Bytes body) h = subst (λ l. first_step l ≡ found (t.Bytes body) l) (sym h.0) (ap (λ s. or_else s (or_else (name_step t.Word 0 (99 ∷ quoted body)) (Fails 2))) (quoted_whole t.Bytes (99 ∷ []) body h.1))
whole_step cs (t.FlagText body) h = subst (λ l. first_step l ≡ found (t.FlagText body) l) (sym h.0) (flag_text_found body h.1)
whole_step cs (t.Mark c) h = subst (λ l. first_step l ≡ found (t.Mark c) l) (sym h.0) (mark_found c h.1)

-- one kind of the right form at most
pub one_kind : (cs : List ℕ) (a b : TokenKind) → Spells cs a → Spells cs b → is_misformed cs a ≡ false → is_misformed cs b ≡ false → a ≡ b
one_kind cs a b h g e f = let same : Found a (length cs) ≡ Found b (length cs) = sym (found_plain a cs e) ∙ sym (whole_step cs a h) ∙ whole_step cs b g ∙ found_plain b cs f in cc

-- a spelling does not spell one of the right form and one that is not
pub one_form : (cs : List ℕ) (a b : TokenKind) → Spells cs a → Spells cs b → is_misformed cs a ≡ false → is_misformed cs b ≡ true → ⊥
one_form cs a b h g e f = let same : Found a (length cs) ≡ Fails 4 = sym (found_plain a cs e) ∙ sym (whole_step cs a h) ∙ whole_step cs b g ∙ ap (λ x. cond x (Fails 4) (Found b (length cs))) f in cc
