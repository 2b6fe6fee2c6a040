-- What the scanners of names, texts and marks find.
use Rattle.std.proofs.Common.{◌≡◌, ℕ, ◌<◌, ◌≤◌, ◌⊎◌, Bool, true, false, not, ◌&&◌, ◌||◌, ◌==◌, cond, List, [], ◌∷◌, ◌++◌, length, sym, refl, ap, ◌∙◌, subst, arith, inl, inr}
use Rattle.std.specs.Prelude.{IsTrue}
use Rattle.std.specs.List.{list_all}
use Rattle.std.specs.Str.{chars}
use Rattle.std.proofs.lemmas.Bool.{false≢true}
use Rattle.std.proofs.lemmas.Bool.Decides.{nat_tests}
use Rattle.std.proofs.lemmas.List.{append_cancel_right}
use Rattle.qq_base.specs.declared.rule.Rule.TheVariants.{BadCharacter, LiteralRange, OpenString}
use Rattle.qasm_lexer.specs.Characters.{is_digit_in, is_quote, ends_line, begins_name, continues_name}
use Rattle.qasm_lexer.specs.Tables.{word_spelling, mark_spelling}
use Rattle.qasm_lexer.specs.Spelling.{IsNameLike, IsWord, IsQuoted, IsSpelled, IsTooLarge, is_numeral, digits_of_numeral}
use Rattle.qasm_lexer.specs.Scan.{Cuts, StopsAt, SkipsPassing, passes, BeginsMark, BeginsNoMark, IsFirstMark}
use Rattle.qasm_lexer.specs.Tokens.{IsLongest, IsRefused, BeginsWith}
use Rattle.qasm_lexer.specs.declared.scan.Class.TheVariants.{InText}
use Rattle.qasm_lexer.specs.declared.token.Keyword.{Keyword}
use Rattle.qasm_lexer.specs.declared.token.Mark.{Mark}
use Rattle.qasm_lexer.specs.declared.token.TokenKind.TheVariants.{Name, Word, Text, Mark as MarkKind}
use Rattle.qasm_lexer.proofs.Cutting.{chars_cut, cut_twice}
use Rattle.qasm_lexer.proofs.Passing.{and_second}
use Rattle.qasm_lexer.proofs.Numerals.{cons_head, cons_tail}
use Rattle.qasm_lexer.proofs.Starts.{start_of, AtLetter, AtDigit, AtPoint, AtQuote, AtDollar, AtMark, spelled_at}
use Rattle.qasm_lexer.proofs.Longest.{name_continues, name_longest, text_longest}
use Rattle.qasm_lexer.proofs.NumberSteps.{front_chars}
use Rattle.qasm_lexer.proofs.NumberFinds.{Found, front_some}

-- what begins so has a first character
pub begins_cons : (p : ℕ → Bool) (cs : List ℕ) → BeginsWith p cs → (c : ℕ) × (ds : List ℕ) × (cs ≡ c ∷ ds) × (p c ≡ true)
begins_cons p [] b = absurd b
begins_cons p (c ∷ cs) b = (c, cs, refl, b)

-- names and words
module _ {text end : List ℕ} (begins : BeginsWith begins_name (chars text)) (skip : SkipsPassing continues_name text end) where
  first : (c : ℕ) × (ds : List ℕ) × (chars text ≡ c ∷ ds) × (begins_name c ≡ true)
  first = begins_cons begins_name (chars text) begins

  name_like : IsNameLike skip.front
  name_like = by_front skip.front (chars_cut skip.cuts) skip.each (front_some continues_name skip first.0 first.1 first.2 (name_continues first.0 first.3))
    where
      by_front : (front : List ℕ) → chars text ≡ front ++ chars end → list_all continues_name front ≡ true → 0 < length front → IsNameLike front
      by_front [] e each some = absurd (omega arith)
      by_front (f ∷ fs) e each some = (ap begins_name (sym (cons_head (sym first.2 ∙ e))) ∙ first.3, and_second (continues_name f) _ each)

  longest_here : (version : Bool) → IsLongest version (chars text) skip.front (chars end)
  longest_here version = subst (λ x. IsLongest version x skip.front (chars end)) (sym (chars_cut skip.cuts)) (name_longest version skip.front (chars end) name_like skip.stops)

  pub word_found : (version : Bool) (word : Keyword) (bytes : List ℕ) → text ≡ bytes ++ end → chars bytes ≡ word_spelling word → Found version text (Word word) end
  word_found version word bytes e is = (skip.front, skip.cuts, sym (front_chars bytes skip.cuts e) ∙ is, longest_here version, λ large. large)

  no_word_is : (bytes : List ℕ) → text ≡ bytes ++ end → ((word : Keyword) → ¬ (chars bytes ≡ word_spelling word)) → ¬ (IsWord skip.front)
  no_word_is bytes e none is = none is.0 (front_chars bytes skip.cuts e ∙ is.1)

  pub name_found : (version : Bool) (bytes : List ℕ) (n : ℕ) → text ≡ bytes ++ end → ((word : Keyword) → ¬ (chars bytes ≡ word_spelling word)) → n ≡ length (chars bytes) → n ≤ 1024 → Found version text Name end
  name_found version bytes n e none count short =
      (skip.front, skip.cuts, (name_like, no_word_is bytes e none), longest_here version, λ large. omega (arith, large, count, ap length (front_chars bytes skip.cuts e)))

  pub name_too_long : (version : Bool) (bytes : List ℕ) (n : ℕ) → text ≡ bytes ++ end → ((word : Keyword) → ¬ (chars bytes ≡ word_spelling word)) → n ≡ length (chars bytes) → 1024 < n → IsRefused version (chars text) LiteralRange
  name_too_long version bytes n e none count long =
      let large : 1024 < length skip.front = omega (arith, count, ap length (front_chars bytes skip.cuts e)) in
      (skip.front, chars end, Name, longest_here version, (name_like, no_word_is bytes e none), large)

-- texts
module _ {text inside close : List ℕ} {quote : ℕ} (quotes : is_quote quote ≡ true) (cut : Cuts text (quote ∷ []) inside) (skip : SkipsPassing (passes (InText quote)) inside close) where
  text_split : chars text ≡ quote ∷ (skip.front ++ chars close)
  text_split = chars_cut cut ∙ ap (λ x. quote ∷ x) (chars_cut skip.cuts)

  pub text_open : (version : Bool) → StopsAt (λ d. d == quote) (chars close) → IsRefused version (chars text) OpenString
  text_open version stops = (quote, skip.front, chars close, text_split, quotes, skip.each, at_end (chars close) skip.stops stops)
    where
      ends : (a b : Bool) → (not a && not b) ≡ false → a ≡ false → b ≡ true
      ends true b h k = absurd (false≢true (sym k))
      ends false true h k = refl
      ends false false h k = absurd (false≢true (sym h))

      at_end : (cs : List ℕ) → StopsAt (passes (InText quote)) cs → StopsAt (λ d. d == quote) cs → (cs ≡ []) ⊎ BeginsWith ends_line cs
      at_end [] h k = inl refl
      at_end (c ∷ cs) h k = inr (ends (c == quote) (ends_line c) h k)

  module _ {end : List ℕ} (shut : Cuts close (quote ∷ []) end) where
    text_cut : Cuts text (quote ∷ skip.front ++ quote ∷ []) end
    text_cut = cut_twice cut (cut_twice skip.cuts shut)

    text_is : IsQuoted (quote ∷ skip.front ++ quote ∷ []) quote skip.front
    text_is = record { split = refl; quotes = quotes; closed = skip.each }

    quoted_longest : (version : Bool) → IsLongest version (chars text) (quote ∷ skip.front ++ quote ∷ []) (chars end)
    quoted_longest version = subst (λ x. IsLongest version x (quote ∷ skip.front ++ quote ∷ []) (chars end)) (sym (chars_cut text_cut)) (text_longest version (quote ∷ skip.front ++ quote ∷ []) (chars end) quote skip.front text_is)

    pub text_found : (version : Bool) → ((quote ≡ 34) → ¬ (IsTrue (is_numeral 2 skip.front) × (4096 < length (digits_of_numeral 2 skip.front)))) → Found version text Text end
    text_found version why = (quote ∷ skip.front ++ quote ∷ [], text_cut, (quote, skip.front, text_is), quoted_longest version, not_large)
      where
        not_large : ¬ (IsTooLarge (quote ∷ skip.front ++ quote ∷ []) Text)
        not_large large =
            let q : quote ≡ 34 = cons_head large.1.split in
            let body : skip.front ≡ large.0 = append_cancel_right skip.front large.0 (34 ∷ []) (ap (λ x. skip.front ++ x ∷ []) (sym q) ∙ cons_tail large.1.split) in
            why q (subst (λ b. IsTrue (is_numeral 2 b) × (4096 < length (digits_of_numeral 2 b))) (sym body) (large.1.bits, large.2))

    pub text_too_long : (version : Bool) → quote ≡ 34 → IsTrue (is_numeral 2 skip.front) × (4096 < length (digits_of_numeral 2 skip.front)) → IsRefused version (chars text) LiteralRange
    text_too_long version q bits =
        (quote ∷ skip.front ++ quote ∷ [], chars end, Text, quoted_longest version, (quote, skip.front, text_is), (skip.front, record { split = ap (λ x. x ∷ skip.front ++ x ∷ []) q; bits = bits.0 }, bits.1))

-- the bits of a text are those of what is cut off
pub bits_of : (quote : ℕ) {inside close : List ℕ} (skip : SkipsPassing (passes (InText quote)) inside close) (bytes : List ℕ) → inside ≡ bytes ++ close → IsTrue (is_numeral 2 (chars bytes)) × (4096 < length (digits_of_numeral 2 (chars bytes))) → IsTrue (is_numeral 2 skip.front) × (4096 < length (digits_of_numeral 2 skip.front))
bits_of quote skip bytes e h = subst (λ b. IsTrue (is_numeral 2 b) × (4096 < length (digits_of_numeral 2 b))) (front_chars bytes skip.cuts e) h

pub bits_back : (quote : ℕ) {inside close : List ℕ} (skip : SkipsPassing (passes (InText quote)) inside close) (bytes : List ℕ) → inside ≡ bytes ++ close → IsTrue (is_numeral 2 skip.front) × (4096 < length (digits_of_numeral 2 skip.front)) → IsTrue (is_numeral 2 (chars bytes)) × (4096 < length (digits_of_numeral 2 (chars bytes)))
bits_back quote skip bytes e h = subst (λ b. IsTrue (is_numeral 2 b) × (4096 < length (digits_of_numeral 2 b))) (sym (front_chars bytes skip.cuts e)) h

-- marks
mark_start : (c : ℕ) → BeginsMark c → start_of c ≡ AtMark
mark_start c b =
    ap (λ x. cond x AtLetter (cond (is_digit_in 10 c) AtDigit (cond (c == 46) AtPoint (cond (is_quote c) AtQuote (cond (c == 36) AtDollar AtMark))))) b.no_name
    ∙ ap (λ x. cond x AtDigit (cond (c == 46) AtPoint (cond (is_quote c) AtQuote (cond (c == 36) AtDollar AtMark)))) b.no_digit
    ∙ ap (λ x. cond x AtPoint (cond (is_quote c) AtQuote (cond (c == 36) AtDollar AtMark))) b.no_point
    ∙ ap (λ x. cond x AtQuote (cond (c == 36) AtDollar AtMark)) b.no_quote
    ∙ ap (λ x. cond x AtDollar AtMark) b.no_dollar

pub mark_found : (version : Bool) {text end : List ℕ} (c : ℕ) (behind : List ℕ) (mark : Mark) → chars text ≡ c ∷ behind → BeginsMark c → Cuts text (mark_spelling mark) end × IsFirstMark (chars text) mark → Found version text (MarkKind mark) end
mark_found version {text} {end} c behind mark e b found =
    (mark_spelling mark, found.0, refl, record { split = chars_cut found.0; longest = λ other more at s. bound other more at s }, λ large. large)
  where
    bound : (other more : List ℕ) → chars text ≡ other ++ more → IsSpelled version other → length other ≤ length (mark_spelling mark)
    bound other more at s =
        let is = spelled_at AtMark version c behind other more (mark_start c b) (sym e ∙ at) s in
        let first = found.1 is.0 more (at ∙ ap (λ x. x ++ more) is.1) in
        omega (arith, first, ap length is.1)

pub no_mark_found : (version : Bool) (text : List ℕ) (c : ℕ) (behind : List ℕ) → chars text ≡ c ∷ behind → BeginsMark c → BeginsNoMark (chars text) → IsRefused version (chars text) BadCharacter
no_mark_found version text c behind e b none = (
  c,
  behind,
  e,
  ap not b.no_blank,
  ap not b.no_quote,
  λ other more at s.
      let is = spelled_at AtMark version c behind other more (mark_start c b) (sym e ∙ at) s in
      none is.0 more (at ∙ ap (λ x. x ++ more) is.1),
)

pub begins_here : (p : ℕ → Bool) (cs ds : List ℕ) (c : ℕ) → cs ≡ c ∷ ds → p c ≡ true → BeginsWith p cs
begins_here p cs ds c e h = subst (BeginsWith p) (sym e) h

-- a character that is none of these
pub not_equal : (a b : ℕ) → (a ≡ b → ⊥) → (a == b) ≡ false
not_equal a b h = grind (arith, nat_tests, h)

pub no_quotes : (c : ℕ) → (c ≡ 34 → ⊥) → (c ≡ 39 → ⊥) → is_quote c ≡ false
no_quotes c h k = ap (λ b. b || (c == 39)) (not_equal c 34 h) ∙ not_equal c 39 k
