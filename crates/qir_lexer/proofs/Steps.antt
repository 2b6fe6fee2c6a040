-- The first token of a text, or the rule by which it has none, is found.
use Rattle.std.proofs.Common.{◌≡◌, inl, inr, ℕ, zero, suc, ◌+◌, ◌<◌, ◌≤◌, Bool, true, false, ◌||◌, ◌==◌, cond, List, [], ◌∷◌, ◌++◌, length, take, drop, Option, Some, None, refl, sym, ap, ◌∙◌, subst, arith, eqb-true, append-nil, append_assoc, length-append}
use Rattle.std.specs.List.{list_all}
use Rattle.std.specs.Char.{is_ascii_digit}
use Rattle.std.proofs.Math.Seq.{take-add, take-append_seam}
use Rattle.std.proofs.lemmas.List.{take-append-drop, length-take-le, length-drop}
use Rattle.qir_module.specs.Tokens.{TokenKind, is_blank, begins_word, continues_word, Outside, IsWord, AreDigits, IsNumbered, IsQuoted, Spells, is_misformed, IsGap, IsLongest, NoToken, BreaksBy}
use Rattle.qir_module.specs.Lexer.{Step, Gap, Found, Fails, run, heads, closed, or_else, found, number_behind, number_step, name_behind, name_step, quoted_behind, quoted_at, quoted_step, value_of}
use Rattle.qir_lexer.proofs.Runs.{run_on, run_off, run_le, run_all, Closes, closed_gives}
use Rattle.qir_lexer.proofs.Leads.{digit_no_word}
use Rattle.qir_lexer.proofs.Possible.{QuotedFits}

-- no token that begins the text is longer
abbrev pub Longest : List ℕ → ℕ → Type 0
Longest text n = (other more : List ℕ) (kind : TokenKind) → text ≡ other ++ more → Spells other kind → length other ≤ n

pub record TokenHolds (text : List ℕ) (kind : TokenKind) (n : ℕ) : Type 0 where
  pub some : 0 < n
  pub inside : n ≤ length text
  pub spells : Spells (take n text) kind
  pub longest : Longest text n
  pub well_formed : is_misformed (take n text) kind ≡ false

pub record GapHolds (text : List ℕ) (n : ℕ) : Type 0 where
  pub some : 0 < n
  pub inside : n ≤ length text
  pub gap : IsGap (take n text) (drop n text)

-- what a step says of the text
abbrev pub StepHolds : List ℕ → Step → Type 0
StepHolds text (Gap n) = GapHolds text n
StepHolds text (Found kind n) = TokenHolds text kind n
StepHolds text (Fails rule) = BreaksBy text rule

module _ (text : List ℕ) where
  pub longest_of : (n : ℕ) → n ≤ length text → Longest text n → IsLongest text (take n text)
  longest_of n l h = record { rest = drop n text; split = sym (take-append-drop n text); longest = λ other more kind e s. omega (arith, h other more kind e s, length-take-le n text l) }

  pub found_holds : (kind : TokenKind) (n : ℕ) → 0 < n → n ≤ length text → Spells (take n text) kind → Longest text n → StepHolds text (found kind (take n text))
  found_holds kind n some inside spells longest = at (is_misformed (take n text) kind) refl
    where
      at : (b : Bool) → is_misformed (take n text) kind ≡ b → StepHolds text (cond b (Fails 4) (Found kind (length (take n text))))
      at true e = inr (inr (refl, (take n text, kind, longest_of n inside longest, spells, e)))
      at false e = subst (λ m. TokenHolds text kind m) (sym (length-take-le n text inside)) (record { some = some; inside = inside; spells = spells; longest = longest; well_formed = e })

  -- ---- each way to go on

  pub drop_room : (skip m : ℕ) → 0 < m → m ≤ length (drop skip text) → skip + m ≤ length text
  drop_room skip m p l = omega (arith, length-drop skip text, p, l)

  module _ (make : List ℕ → TokenKind) (skip : ℕ) (rest : Step) where
    abbrev digit_run : ℕ
    digit_run = run is_ascii_digit (drop skip text)

    pub number_case : ((n : ℕ) → digit_run ≡ suc n → Spells (take (skip + suc n) text) (make (take (suc n) (drop skip text)))) → ((n : ℕ) → digit_run ≡ suc n → Longest text (skip + suc n)) → (digit_run ≡ 0 → StepHolds text rest) → StepHolds text (or_else (number_step make skip text) rest)
    number_case spells longest other = at digit_run refl
      where
        at : (r : ℕ) → digit_run ≡ r → StepHolds text (or_else (number_behind make skip text r) rest)
        at zero e = other e
        at (suc n) e = found_holds (make (take (suc n) (drop skip text))) (skip + suc n) (omega arith) (drop_room skip (suc n) (omega arith) (omega (arith, run_le is_ascii_digit (drop skip text), e))) (spells n e) (longest n e)

    abbrev word_run : ℕ
    word_run = run continues_word (drop skip text)

    word_some : (xs : List ℕ) → heads begins_word xs ≡ true → 0 < run continues_word xs
    word_some [] h = absurd (cc)
    word_some (c ∷ cs) h = let n : run continues_word (c ∷ cs) ≡ suc (run continues_word cs) = run_on continues_word c cs (ap (λ b. b || is_ascii_digit c || (c == 46)) h) in omega (arith, n)

    pub name_case : (heads begins_word (drop skip text) ≡ true → Spells (take (skip + word_run) text) (make (take word_run (drop skip text)))) → ((cs w : List ℕ) → is_misformed cs (make w) ≡ false) → (heads begins_word (drop skip text) ≡ true → Longest text (skip + word_run)) → (heads begins_word (drop skip text) ≡ false → StepHolds text rest) → StepHolds text (or_else (name_step make skip text) rest)
    name_case spells formed longest other = at (heads begins_word (drop skip text)) refl
      where
        at : (b : Bool) → heads begins_word (drop skip text) ≡ b → StepHolds text (or_else (name_behind make skip text b) rest)
        at false e = other e
        at true e = record {
          some = omega (arith, word_some (drop skip text) e);
          inside = drop_room skip word_run (word_some (drop skip text) e) (run_le continues_word (drop skip text));
          spells = spells e;
          longest = longest e;
          well_formed = formed (take (skip + word_run) text) (take word_run (drop skip text));
        }

    pub quoted_case : ((k : ℕ) → heads (λ c. c == 34) (drop skip text) ≡ true → closed Outside (drop (skip + 1) text) ≡ Some k → Spells (take (skip + k + 2) text) (make (take k (drop (skip + 1) text)))) → ((cs w : List ℕ) → is_misformed cs (make w) ≡ false) → ((k : ℕ) → heads (λ c. c == 34) (drop skip text) ≡ true → closed Outside (drop (skip + 1) text) ≡ Some k → Longest text (skip + k + 2)) → (((n : ℕ) → QuotedFits skip text n → ⊥) → StepHolds text rest) → StepHolds text (or_else (quoted_step make skip text) rest)
    quoted_case spells formed longest other = at (heads (λ c. c == 34) (drop skip text)) refl (closed Outside (drop (skip + 1) text)) refl
      where
        at : (b : Bool) → heads (λ c. c == 34) (drop skip text) ≡ b → (o : Option ℕ) → closed Outside (drop (skip + 1) text) ≡ o → StepHolds text (or_else (quoted_at make skip text b) rest)
        at false e o f = other (λ n h. absurd (cc (h.0, e)))
        at true e None f = subst (λ o. StepHolds text (or_else (quoted_behind make skip text o) rest)) (sym f) (other (λ n h. absurd (cc (h.2, f))))
        at true e (Some k) f =
            let c : Closes Outside (drop (skip + 1) text) k = closed_gives Outside (drop (skip + 1) text) k f in
            subst (λ o. StepHolds text (or_else (quoted_behind make skip text o) rest)) (sym f) (record {
              some = omega arith;
              inside = omega (arith, c.inside, length-drop (skip + 1) text);
              spells = spells k e f;
              longest = longest k e f;
              well_formed = formed (take (skip + k + 2) text) (take k (drop (skip + 1) text));
            })

  -- ---- what is spelled

  pub run_digits : (xs : List ℕ) (n : ℕ) → run is_ascii_digit xs ≡ suc n → AreDigits (take (suc n) xs)
  run_digits xs n e = record {
    some = omega (arith, length-take-le (suc n) xs (omega (arith, run_le is_ascii_digit xs, e)));
    each = subst (λ m. list_all is_ascii_digit (take m xs) ≡ true) e (run_all is_ascii_digit xs);
  }

  pub spells_numbered : (front : List ℕ) (n : ℕ) → take (length front) text ≡ front → run is_ascii_digit (drop (length front) text) ≡ suc n → IsNumbered front [] (take (length front + suc n) text) (value_of (take (suc n) (drop (length front) text)))
  spells_numbered front n e h = record {
    digits = take (suc n) (drop (length front) text);
    split = take-add (length front) (suc n) text ∙ ap (λ l. l ++ take (suc n) (drop (length front) text)) e ∙ sym (append-nil (front ++ take (suc n) (drop (length front) text)));
    are_digits = run_digits (drop (length front) text) n h;
    value = refl;
  }

  pub spells_word : (xs : List ℕ) → heads begins_word xs ≡ true → IsWord (take (run continues_word xs) xs)
  spells_word [] h = absurd (cc)
  spells_word (c ∷ cs) h =
      let n : run continues_word (c ∷ cs) ≡ suc (run continues_word cs) = run_on continues_word c cs (ap (λ b. b || is_ascii_digit c || (c == 46)) h) in
      subst (λ m. IsWord (take m (c ∷ cs))) (sym n) (h, run_all continues_word cs)

  -- a quoted text behind a front of so many characters
  pub spells_quoted : (front : List ℕ) (k : ℕ) (rest : List ℕ) → text ≡ front ++ 34 ∷ rest → closed Outside rest ≡ Some k → IsQuoted front (take (length front + k + 2) text) (take k rest)
  spells_quoted front k rest e h =
      let c : Closes Outside rest k = closed_gives Outside rest k h in
      let whole : text ≡ (front ++ 34 ∷ take k rest ++ 34 ∷ []) ++ c.rest =
      e ∙ ap (λ l. front ++ 34 ∷ l) c.split ∙ sym (append_assoc front (34 ∷ take k rest) (34 ∷ c.rest)) ∙ sym (append_assoc (front ++ 34 ∷ take k rest) (34 ∷ []) c.rest) in
      let size : length (front ++ 34 ∷ take k rest ++ 34 ∷ []) ≡ length front + k + 2 =
      omega (arith, length-append (front ++ 34 ∷ take k rest) (34 ∷ []), length-append front (34 ∷ take k rest), length-take-le k rest (omega (arith, c.inside))) in
      (ap (λ m. take m text) (sym size) ∙ ap (take (length (front ++ 34 ∷ take k rest ++ 34 ∷ []))) whole ∙ take-append_seam (front ++ 34 ∷ take k rest ++ 34 ∷ []) c.rest, c.body)

  -- ---- why nothing stands

  pub nothing_by : (c : ℕ) (cs : List ℕ) → text ≡ c ∷ cs → is_blank c ≡ false → (c == 59) ≡ false → (c == 34) ≡ false → NoToken text → BreaksBy text 2
  nothing_by c cs e a b d none = inl (refl, (c, cs, e, a, b, d, none))

pub heads_is : (k : ℕ) (xs : List ℕ) → heads (λ d. d == k) xs ≡ true → (ys : List ℕ) × (xs ≡ k ∷ ys)
heads_is k [] h = absurd (cc)
heads_is k (c ∷ cs) h = (cs, ap (λ d. d ∷ cs) (eqb-true c k h))

pub digits_ahead : (xs : List ℕ) (n : ℕ) → run is_ascii_digit xs ≡ suc n → heads is_ascii_digit xs ≡ true
digits_ahead [] n e = absurd (cc)
digits_ahead (c ∷ cs) n e = at (is_ascii_digit c) refl
  where
    at : (b : Bool) → is_ascii_digit c ≡ b → is_ascii_digit c ≡ true
    at true h = h
    at false h = absurd (cc (run_off is_ascii_digit c cs h, e))

-- no word and no quote where a digit stands
pub digit_no_name : (xs : List ℕ) → heads is_ascii_digit xs ≡ true → heads begins_word xs ≡ true → ⊥
digit_no_name [] h g = cc
digit_no_name (c ∷ cs) h g = cc (digit_no_word c h, g)

pub other_head : (p : ℕ → Bool) (k : ℕ) (xs : List ℕ) → p k ≡ false → heads p xs ≡ true → heads (λ d. d == k) xs ≡ true → ⊥
other_head p k [] f h g = cc
other_head p k (c ∷ cs) f h g = cc (ap p (eqb-true c k g), h, f)
