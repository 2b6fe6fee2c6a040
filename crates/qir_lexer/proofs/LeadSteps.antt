-- What stands first in a text is found, whatever its first character is.
use Rattle.std.proofs.Common.{◌≡◌, inl, inr, ℕ, zero, suc, ◌+◌, Bool, true, false, not, ◌&&◌, ◌||◌, ◌==◌, List, [], ◌∷◌, ◌++◌, length, take, drop, refl, sym, ap, ◌∙◌, subst, arith, eqb-true, append_assoc, length-append}
use Rattle.std.specs.List.{list_all}
use Rattle.std.specs.Char.{is_ascii_digit}
use Rattle.std.proofs.Math.Seq.{take-append_seam}
use Rattle.std.proofs.lemmas.List.{take-append-drop, length-take-le}
use Rattle.grammar_parts.proofs.Sets.{both_true}
use Rattle.qir_module.specs.Tokens.{TokenKind, is_blank, ends_line, begins_word, continues_word, is_mark, Outside, EndsLine, Spells, is_misformed, NoToken, BreaksBy}
use Rattle.qir_module.specs.Tokens as t
use Rattle.qir_module.specs.Lexer.{Lead, Blank, Semicolon, Letter, Digit, Minus, Percent, At, Hash, Bang, Quote, OtherMark, Nothing, lead_of, Found, Fails, run, heads, or_else, found, name_step, quoted_step, value_of, plus, minus, numbered, block_behind, special_step, percent_step, step_by, step_of}
use Rattle.qir_lexer.proofs.Runs.{run_on, run_off, run_le, run_all, run_exact, run_stops, Stopped}
use Rattle.qir_lexer.proofs.Leads.{LeadIs, lead_is}
use Rattle.qir_lexer.proofs.Possible.{QuotedFits, BlockFits, Possible, possible}
use Rattle.qir_lexer.proofs.Steps.{Longest, TokenHolds, GapHolds, StepHolds, found_holds, number_case, name_case, quoted_case, spells_numbered, spells_word, spells_quoted, run_digits, nothing_by, heads_is, digits_ahead, digit_no_name, other_head}

or_true : (a : Bool) → (a || true) ≡ true
or_true true = refl
or_true false = refl

-- ---- gaps

line_ends : (xs : List ℕ) → Stopped (λ c. not (ends_line c)) xs → EndsLine xs
line_ends [] h = tt
line_ends (c ∷ cs) h = at (ends_line c) refl h
  where
    at : (b : Bool) → ends_line c ≡ b → not (ends_line c) ≡ false → ends_line c ≡ true
    at true e g = e
    at false e g = absurd (cc (ap not e, g))

pub comment_holds : (c : ℕ) (cs : List ℕ) → c ≡ 59 → GapHolds (c ∷ cs) (suc (run (λ d. not (ends_line d)) cs))
comment_holds c cs e = record {
  some = omega arith;
  inside = omega (arith, run_le (λ d. not (ends_line d)) cs);
  gap = inr (take (run (λ d. not (ends_line d)) cs) cs, ap (λ d. d ∷ take (run (λ d. not (ends_line d)) cs) cs) e, run_all (λ d. not (ends_line d)) cs, line_ends (drop (run (λ d. not (ends_line d)) cs) cs) (run_stops (λ d. not (ends_line d)) cs));
}

module _ (c : ℕ) (cs : List ℕ) where
  abbrev text : List ℕ
  text = c ∷ cs

  -- what may be there, by the lead
  abbrev May : Lead → Type 0
  May lead = (other more : List ℕ) (kind : TokenKind) → text ≡ other ++ more → Spells other kind → Possible lead c text (length other)

  none_of : (lead : Lead) → May lead → ((n : ℕ) → Possible lead c text n → ⊥) → NoToken text
  none_of lead may never other more kind e s = never (length other) (may other more kind e s)

  -- a sign in front of which nothing else may stand
  lone : (k : ℕ) → c ≡ k → is_blank k ≡ false → (k == 59) ≡ false → (k == 34) ≡ false → NoToken text → BreaksBy text 2
  lone k e a b d none = nothing_by text c cs refl (ap is_blank e ∙ a) (ap (λ x. x == 59) e ∙ b) (ap (λ x. x == 34) e ∙ d) none

  -- ---- numbers

  digit_holds : May Digit → is_ascii_digit c ≡ true → StepHolds text (step_by Digit c text)
  digit_holds may h = number_case text plus 0 (Fails 2)
      (λ n e. let one : 0 + suc n ≡ suc n = omega arith in subst (λ m. Spells (take m text) (plus (take (suc n) text))) (sym one) (take (suc n) text, run_digits text text n e, inl (refl, refl)))
      (λ n e other more kind g s. omega (arith, (may other more kind g s).1, e))
      (λ e. absurd (cc (run_on is_ascii_digit c cs h, e)))

  minus_holds : May Minus → c ≡ 45 → StepHolds text (step_by Minus c text)
  minus_holds may h = number_case text minus 1 (Fails 2)
      (λ n e. let one : 1 + suc n ≡ suc (suc n) = omega arith in subst (λ m. Spells (take m text) (minus (take (suc n) cs))) (sym one) (take (suc n) cs, run_digits text cs n e, inr (ap (λ d. d ∷ take (suc n) cs) h, refl)))
      (λ n e other more kind g s. omega (arith, (may other more kind g s).1, e))
      (λ e. lone 45 h refl refl refl (none_of Minus may (λ n p. absurd (omega (arith, p.0, e)))))

  one_sign : (k : ℕ) → c ≡ k → take 1 text ≡ k ∷ []
  one_sign k e = ap (λ d. d ∷ []) e

  hash_holds : May Hash → c ≡ 35 → StepHolds text (step_by Hash c text)
  hash_holds may h = number_case text (numbered t.Group) 1 (Fails 2)
      (λ n e. spells_numbered text (35 ∷ []) n (one_sign 35 h) e)
      (λ n e other more kind g s. omega (arith, (may other more kind g s).1, e))
      (λ e. lone 35 h refl refl refl (none_of Hash may (λ n p. absurd (omega (arith, p.0, e)))))

  -- ---- numbers and names

  named_spells : (k : ℕ) → c ≡ k → heads begins_word cs ≡ true → take (1 + run continues_word cs) text ≡ k ∷ take (run continues_word cs) cs
  named_spells k h e = let one : 1 + run continues_word cs ≡ suc (run continues_word cs) = omega arith in ap (λ m. take m text) one ∙ ap (λ d. d ∷ take (run continues_word cs) cs) h

  at_holds : May At → c ≡ 64 → StepHolds text (step_by At c text)
  at_holds may h = number_case text (numbered t.Constant) 1 (or_else (name_step t.Named 1 text) (Fails 2))
      (λ n e. spells_numbered text (64 ∷ []) n (one_sign 64 h) e)
      (λ n e other more kind g s. elim (may other more kind g s) [ inl p ↦ omega (arith, p.1, e) | inr p ↦ absurd (digit_no_name cs (digits_ahead cs n e) p.0) ])
      (λ e. name_case text t.Named 1 (Fails 2)
      (λ f. (named_spells 64 h f, spells_word text cs f))
      (λ xs w. refl)
      (λ f other more kind g s. elim (may other more kind g s) [ inl p ↦ absurd (omega (arith, p.0, e)) | inr p ↦ p.1 ])
      (λ f. lone 64 h refl refl refl (none_of At may (λ n p. elim p [ inl q ↦ absurd (omega (arith, q.0, e)) | inr q ↦ cc (q.0, f) ]))))

  bang_mark : May Bang → c ≡ 33 → run is_ascii_digit cs ≡ 0 → heads begins_word cs ≡ false → ((n : ℕ) → QuotedFits 1 text n → ⊥) → TokenHolds text (t.Mark 33) 1
  bang_mark may h e f none = record {
    some = omega arith;
    inside = omega arith;
    spells = (one_sign 33 h, refl);
    longest = λ other more kind g s. elim (may other more kind g s) [ inl p ↦ absurd (omega (arith, p.0, e)) | inr (inl p) ↦ absurd (cc (p.0, f)) | inr (inr (inl p)) ↦ absurd (none (length other) p) | inr (inr (inr p)) ↦ omega (arith, p) ];
    well_formed = refl;
  }

  -- a quote ahead, and what is behind it
  quote_ahead : heads (λ d. d == 34) cs ≡ true → cs ≡ 34 ∷ drop 1 cs
  quote_ahead f = let y = heads_is 34 cs f in y.1 ∙ ap (λ l. 34 ∷ drop 1 l) (sym y.1)

  flag_text_holds : May Bang → c ≡ 33 → run is_ascii_digit cs ≡ 0 → heads begins_word cs ≡ false → StepHolds text (or_else (quoted_step t.FlagText 1 text) (Found (t.Mark 33) 1))
  flag_text_holds may h e f = quoted_case text t.FlagText 1 (Found (t.Mark 33) 1)
      (λ k q w. spells_quoted text (33 ∷ []) k (drop 1 cs) (ap (λ d. d ∷ cs) h ∙ ap (λ l. 33 ∷ l) (quote_ahead q)) w)
      (λ xs w. refl)
      (λ k q w other more kind g s. elim (may other more kind g s) [
        | inl p ↦ absurd (omega (arith, p.0, e))
        | inr (inl p) ↦ absurd (cc (p.0, f))
        | inr (inr (inl p)) ↦ let same : p.1 ≡ k = cc (p.2, w) in omega (arith, p.3, same)
        | inr (inr (inr p)) ↦ omega (arith, p)
      ])
      (λ none. bang_mark may h e f none)

  bang_holds : May Bang → c ≡ 33 → StepHolds text (step_by Bang c text)
  bang_holds may h = number_case text (numbered t.Flag) 1 (or_else (name_step t.FlagName 1 text) (or_else (quoted_step t.FlagText 1 text) (Found (t.Mark 33) 1)))
      (λ n e. spells_numbered text (33 ∷ []) n (one_sign 33 h) e)
      (λ n e other more kind g s. elim (may other more kind g s) [
        | inl p ↦ omega (arith, p.1, e)
        | inr (inl p) ↦ absurd (digit_no_name cs (digits_ahead cs n e) p.0)
        | inr (inr (inl p)) ↦ absurd (other_head is_ascii_digit 34 cs refl (digits_ahead cs n e) p.0)
        | inr (inr (inr p)) ↦ omega (arith, p)
      ])
      (λ e. name_case text t.FlagName 1 (or_else (quoted_step t.FlagText 1 text) (Found (t.Mark 33) 1))
      (λ f. (named_spells 33 h f, spells_word text cs f))
      (λ xs w. refl)
      (λ f other more kind g s. elim (may other more kind g s) [
        | inl p ↦ absurd (omega (arith, p.0, e))
        | inr (inl p) ↦ p.1
        | inr (inr (inl p)) ↦ absurd (other_head begins_word 34 cs refl f p.0)
        | inr (inr (inr p)) ↦ omega (arith, p)
      ])
      (λ f. flag_text_holds may h e f))

  -- ---- registers and targets

  percent_front : (k : ℕ) → c ≡ 37 → heads (λ d. d == k) cs ≡ true → take 2 text ≡ 37 ∷ k ∷ []
  percent_front k h f = let y = heads_is k cs f in ap (λ d. d ∷ take 1 cs) h ∙ ap (λ l. 37 ∷ take 1 l) y.1

  percent_none : May Percent → c ≡ 37 → run is_ascii_digit (drop 2 text) ≡ 0 → BreaksBy text 2
  percent_none may h e = lone 37 h refl refl refl (none_of Percent may (λ n p. elim p [ inl q ↦ absurd (omega (arith, q.1.0, e)) | inr q ↦ absurd (omega (arith, q.1.0, e)) ]))

  percent_longest : May Percent → (n : ℕ) → run is_ascii_digit (drop 2 text) ≡ suc n → Longest text (2 + suc n)
  percent_longest may n e other more kind g s = elim (may other more kind g s) [ inl q ↦ omega (arith, q.1.1, e) | inr q ↦ omega (arith, q.1.1, e) ]

  percent_holds : May Percent → c ≡ 37 → (a b : Bool) → heads (λ d. d == 114) cs ≡ a → heads (λ d. d == 98) cs ≡ b → StepHolds text (percent_step a b text)
  percent_holds may h true b e f = number_case text (numbered t.Register) 2 (Fails 2) (λ n g. spells_numbered text (37 ∷ 114 ∷ []) n (percent_front 114 h e) g) (percent_longest may) (percent_none may h)
  percent_holds may h false true e f = number_case text (numbered t.Target) 2 (Fails 2) (λ n g. spells_numbered text (37 ∷ 98 ∷ []) n (percent_front 98 h f) g) (percent_longest may) (percent_none may h)
  percent_holds may h false false e f = lone 37 h refl refl refl (none_of Percent may (λ n p. elim p [ inl q ↦ cc (q.0, e) | inr q ↦ cc (q.0, f) ]))

  -- ---- texts and marks

  quote_holds : May Quote → c ≡ 34 → StepHolds text (step_by Quote c text)
  quote_holds may h = quoted_case text t.Text 0 (Fails 3)
      (λ k q w. let zero_plus : 0 + k ≡ k = omega arith in spells_quoted text [] k cs (ap (λ d. d ∷ cs) h) w)
      (λ xs w. refl)
      (λ k q w other more kind g s. let p = may other more kind g s in let same : p.1 ≡ k = cc (p.2, w) in omega (arith, p.3, same))
      (λ none. inr (inl (refl, (cs, ap (λ d. d ∷ cs) h, none_of Quote may none))))

  mark_holds : May OtherMark → is_mark c ≡ true → TokenHolds text (t.Mark c) 1
  mark_holds may h = record { some = omega arith; inside = omega arith; spells = (refl, h); longest = λ other more kind g s. omega (arith, may other more kind g s); well_formed = refl }

  -- ---- words

  module _ (may : May Letter) (h : begins_word c ≡ true) where
    word_size : run continues_word text ≡ suc (run continues_word cs)
    word_size = run_on continues_word c cs (ap (λ b. b || is_ascii_digit c || (c == 46)) h)

    word_holds : ((n : ℕ) → (c == 98) ≡ true → BlockFits text n → ⊥) → ((n : ℕ) → (c == 99) ≡ true → QuotedFits 1 text n → ⊥) → StepHolds text (or_else (name_step t.Word 0 text) (Fails 2))
    word_holds no_block no_bytes = name_case text t.Word 0 (Fails 2)
        (λ f. let size : 0 + run continues_word text ≡ run continues_word text = omega arith in (ap (λ m. take m text) size, spells_word text text f))
        (λ xs w. refl)
        (λ f other more kind g s. elim (may other more kind g s) [ inl p ↦ omega (arith, p) | inr (inl p) ↦ absurd (no_block (length other) p.0 p.1) | inr (inr p) ↦ absurd (no_bytes (length other) p.0 p.1) ])
        (λ f. absurd (cc (f, h)))

    both_letters : (c == 98) ≡ true → (c == 99) ≡ true → ⊥
    both_letters e f = cc (ap (λ d. d == 99) (eqb-true c 98 e), f)

    abbrev block_run : ℕ
    block_run = run is_ascii_digit cs

    -- a block's name: behind its digits is a `:`
    block_split : heads (λ d. d == 58) (drop (1 + block_run) text) ≡ true → (rest : List ℕ) × (cs ≡ take block_run cs ++ 58 ∷ rest)
    block_split f =
        let one : 1 + block_run ≡ suc block_run = omega arith in
        let y = heads_is 58 (drop block_run cs) (ap (λ m. heads (λ d. d == 58) (drop m text)) (sym one) ∙ f) in
        (y.0, sym (take-append-drop block_run cs) ∙ ap (λ l. take block_run cs ++ l) y.1)

    digits_continue : (ds : List ℕ) → list_all is_ascii_digit ds ≡ true → list_all continues_word ds ≡ true
    digits_continue [] a = refl
    digits_continue (d ∷ ds) a =
        let b = both_true (is_ascii_digit d) (list_all is_ascii_digit ds) a in
        ap (λ x. (begins_word d || x || (d == 46)) && list_all continues_word ds) b.0 ∙ ap (λ x. (x || (d == 46)) && list_all continues_word ds) (or_true (begins_word d)) ∙ digits_continue ds b.1

    module _ (e : (c == 98) ≡ true) (n : ℕ) (r : block_run ≡ suc n) (f : heads (λ d. d == 58) (drop (1 + block_run) text) ≡ true) where
      abbrev digits : List ℕ
      digits = take (suc n) cs

      is_block : c ≡ 98
      is_block = eqb-true c 98 e

      digits_size : length digits ≡ suc n
      digits_size = length-take-le (suc n) cs (omega (arith, run_le is_ascii_digit cs, r))

      behind_digits : (rest : List ℕ) × (cs ≡ digits ++ 58 ∷ rest)
      behind_digits = let y = block_split f in (y.0, subst (λ m. cs ≡ take m cs ++ 58 ∷ y.0) r y.1)

      block_whole : text ≡ (98 ∷ digits ++ 58 ∷ []) ++ behind_digits.0
      block_whole = ap (λ d. d ∷ cs) is_block ∙ ap (λ l. 98 ∷ l) (behind_digits.1 ∙ sym (append_assoc digits (58 ∷ []) behind_digits.0))

      block_size : length (98 ∷ digits ++ 58 ∷ []) ≡ suc n + 2
      block_size = omega (arith, length-append digits (58 ∷ []), digits_size)

      block_spelled : take (suc n + 2) text ≡ 98 ∷ digits ++ 58 ∷ []
      block_spelled = ap (λ m. take m text) (sym block_size) ∙ ap (take (length (98 ∷ digits ++ 58 ∷ []))) block_whole ∙ take-append_seam (98 ∷ digits ++ 58 ∷ []) behind_digits.0

      block_word : run continues_word text ≡ suc (suc n)
      block_word =
          let all : list_all continues_word (98 ∷ digits) ≡ true = digits_continue digits (run_digits text cs n r).each in
          ap (run continues_word) (ap (λ d. d ∷ cs) is_block ∙ ap (λ l. 98 ∷ l) behind_digits.1) ∙ run_exact continues_word (98 ∷ digits) 58 behind_digits.0 all refl ∙ ap suc digits_size

      block_longest : Longest text (suc n + 2)
      block_longest other more kind g s = elim (may other more kind g s) [
        | inl p ↦ omega (arith, p, block_word)
        | inr (inl p) ↦ omega (arith, p.1.2, r)
        | inr (inr p) ↦ absurd (both_letters e p.0)
      ]

      block_found : StepHolds text (found (t.Block (value_of digits)) (take (suc n + 2) text))
      block_found = found_holds text (t.Block (value_of digits)) (suc n + 2) (omega arith) (omega (arith, ap length block_whole, length-append (98 ∷ digits ++ 58 ∷ []) behind_digits.0, block_size))
          (record { digits = digits; split = block_spelled; are_digits = run_digits text cs n r; value = refl }) block_longest

    block_holds : (e : (c == 98) ≡ true) (r : ℕ) (ends : Bool) → block_run ≡ r → heads (λ d. d == 58) (drop (1 + block_run) text) ≡ ends → StepHolds text (or_else (block_behind text r ends) (or_else (name_step t.Word 0 text) (Fails 2)))
    block_holds e zero ends g f = word_holds (λ n q p. absurd (omega (arith, p.0, g))) (λ n q p. both_letters e q)
    block_holds e (suc n) false g f = word_holds (λ n q p. cc (p.1, f)) (λ n q p. both_letters e q)
    block_holds e (suc n) true g f = block_found e n g f

    quoted_no_word : heads (λ d. d == 34) cs ≡ true → run continues_word cs ≡ 0
    quoted_no_word f = let y = heads_is 34 cs f in ap (run continues_word) y.1 ∙ run_off continues_word 34 y.0 refl

    bytes_holds : (c == 98) ≡ false → (c == 99) ≡ true → StepHolds text (or_else (quoted_step t.Bytes 1 text) (or_else (name_step t.Word 0 text) (Fails 2)))
    bytes_holds e f = quoted_case text t.Bytes 1 (or_else (name_step t.Word 0 text) (Fails 2))
        (λ k q w. spells_quoted text (99 ∷ []) k (drop 1 cs) (ap (λ d. d ∷ cs) (eqb-true c 99 f) ∙ ap (λ l. 99 ∷ l) (quote_ahead q)) w)
        (λ xs w. refl)
        (λ k q w other more kind g s. elim (may other more kind g s) [
          | inl p ↦ omega (arith, p, word_size, quoted_no_word q)
          | inr (inl p) ↦ absurd (cc (p.0, e))
          | inr (inr p) ↦ let same : p.1.1 ≡ k = cc (p.1.2, w) in omega (arith, p.1.3, same)
        ])
        (λ none. word_holds (λ n q p. cc (q, e)) (λ n q p. none n p))

    letter_holds : (a b : Bool) → (c == 98) ≡ a → (c == 99) ≡ b → StepHolds text (or_else (special_step a b text) (or_else (name_step t.Word 0 text) (Fails 2)))
    letter_holds true b e f = block_holds e block_run (heads (λ d. d == 58) (drop (1 + block_run) text)) refl refl
    letter_holds false true e f = bytes_holds e f
    letter_holds false false e f = word_holds (λ n q p. cc (q, e)) (λ n q p. cc (q, f))

  -- ---- all

  by_lead : (lead : Lead) → LeadIs c lead → May lead → StepHolds text (step_by lead c text)
  by_lead Blank h may = record { some = omega arith; inside = omega arith; gap = inl (c, refl, h) }
  by_lead Semicolon h may = let one : 1 + run (λ d. not (ends_line d)) cs ≡ suc (run (λ d. not (ends_line d)) cs) = omega arith in subst (λ m. GapHolds text m) (sym one) (comment_holds c cs h)
  by_lead Letter h may = letter_holds may h (c == 98) (c == 99) refl refl
  by_lead Digit h may = digit_holds may h
  by_lead Minus h may = minus_holds may h
  by_lead Percent h may = percent_holds may h (heads (λ d. d == 114) cs) (heads (λ d. d == 98) cs) refl refl
  by_lead At h may = at_holds may h
  by_lead Hash h may = hash_holds may h
  by_lead Bang h may = bang_holds may h
  by_lead Quote h may = quote_holds may h
  by_lead OtherMark h may = mark_holds may h
  by_lead Nothing h may = nothing_by text c cs refl h.0 h.1 h.2 (none_of Nothing may (λ n p. p))

  pub step_right : StepHolds text (step_of c cs)
  step_right = by_lead (lead_of c) (lead_is c) (λ other more kind e s. possible text other more kind e s)
