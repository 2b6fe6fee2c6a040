-- What is written and cannot go on with what stands behind it is the longest spelling there.
use Rattle.std.proofs.Common.{◌≡◌, ℕ, ◌<◌, ◌≤◌, ◌⊎◌, Bool, true, false, ◌&&◌, ◌||◌, ◌==◌, List, [], ◌∷◌, ◌++◌, length, Option, None, Some, sym, refl, ap, ◌∙◌, subst, arith, inl, inr, ⊎_elim, append_assoc}
use Rattle.std.specs.List.{list_all}
use Rattle.std.specs.Char.{is_ascii_digit}
use Rattle.std.proofs.lemmas.Bool.{false≢true}
use Rattle.std.proofs.lemmas.Bool.Decides.{nat_tests}
use Rattle.std.proofs.lemmas.List.{append-nil}
use Rattle.qasm_lexer.specs.Characters.{is_digit_in, begins_name, continues_name}
use Rattle.qasm_lexer.specs.Tables.{mark_spelling}
use Rattle.qasm_lexer.specs.Spelling.{Base, Binary, Octal, Decimal, Hexadecimal, IsPrefix, IsNameLike, AreDigits, IsVersion, Spells, IsSpelled, AsToken}
use Rattle.qasm_lexer.specs.Scan.{StopsAt, BeginsExponent, NoBased, begins_step}
use Rattle.qasm_lexer.specs.Tokens.{BeginsComment, IsLongest}
use Rattle.qasm_lexer.specs.Pieces.{continues_mark, EndsBefore, IsPlain}
use Rattle.qasm_lexer.specs.declared.token.TokenKind.{TokenKind}
use Rattle.qasm_lexer.specs.declared.token.TokenKind.TheVariants.{Name, Word, Whole, Text, Version, Hardware, Mark as MarkKind}
use Rattle.qasm_lexer.specs.declared.token.Mark.{Mark}
use Rattle.qasm_lexer.specs.declared.token.Mark.TheVariants.{Semicolon, Comma, LeftParen, RightParen, LeftBracket, RightBracket, LeftBrace, RightBrace, At, Hash, Colon, Assign, Arrow, Plus, PlusPlus, Minus, Star, StarStar, Slash, Percent, Tilde, Bang, Ampersand, AndAnd, Pipe, OrOr, Caret, ShiftLeft, ShiftRight, Less, LessEqual, Greater, GreaterEqual, Equal, NotEqual, PlusAssign, MinusAssign, StarAssign, SlashAssign, PercentAssign, AndAssign, OrAssign, CaretAssign, ShiftLeftAssign, ShiftRightAssign}
use Rattle.qasm_lexer.proofs.Cutting.{cons≢nil}
use Rattle.qasm_lexer.proofs.Passing.{and_first, and_second}
use Rattle.qasm_lexer.proofs.Numerals.{cons_head, cons_tail, either, no_step_here}
use Rattle.qasm_lexer.proofs.Starts.{AtMark, start_of, mark_first, digit_range, word_is_name_like, spelled_some, spelled_at}
use Rattle.qasm_lexer.proofs.Fronts.{run_longest}
use Rattle.qasm_lexer.proofs.DecimalLaws.{Plain, PointAt, point_longest}
use Rattle.qasm_lexer.proofs.WholeLaws.{WholeAt, NumeralAt, numeral_longest, digits_go_on}
use Rattle.qasm_lexer.proofs.Longest.{name_longest, text_longest, dollar_longest}
use Rattle.qasm_lexer.proofs.KindLaws.{start_kind, kind_start}

-- what stops at more, stops here
stops_too : (p q : ℕ → Bool) → ((c : ℕ) → q c ≡ true → p c ≡ true) → (cs : List ℕ) → StopsAt p cs → StopsAt q cs
stops_too p q more [] stops = tt
stops_too p q more (c ∷ cs) stops = by_test (either (q c))
  where
    by_test : (q c ≡ true) ⊎ (q c ≡ false) → q c ≡ false
    by_test (inl h) = absurd (false≢true (sym stops ∙ more c h))
    by_test (inr h) = h

stops_before : (p : ℕ → Bool) (cs : List ℕ) (c : ℕ) (ds : List ℕ) → StopsAt p cs → cs ≡ c ∷ ds → p c ≡ true → ⊥
stops_before p cs c ds stops e h = false≢true (sym (subst (StopsAt p) e stops) ∙ h)

or_second : (a b : Bool) → b ≡ true → (a || b) ≡ true
or_second true b h = refl
or_second false b h = h

digit_continues : (c : ℕ) → is_digit_in 10 c ≡ true → continues_name c ≡ true
digit_continues c h =
    let range = digit_range c h in
    or_second (begins_name c) (is_ascii_digit c) (digit_is range.0 range.1)
  where
    digit_is : 48 ≤ c → c < 58 → is_ascii_digit c ≡ true
    digit_is low high = grind (arith, nat_tests)

name_part : (c : ℕ) → continues_name c ≡ true → (continues_name c || (c == 46)) ≡ true
name_part c h = ap (λ b. b || (c == 46)) h

second_is : {a b x y : ℕ} → a ∷ b ∷ [] ≡ x ∷ y ∷ [] → b ≡ y
second_is e = cons_head (cons_tail e)

-- the letter that names a base goes on a name, and is no digit
base_letter : (kind : Base) (letter : ℕ) → IsPrefix kind (48 ∷ letter ∷ []) → (continues_name letter ≡ true) × (is_digit_in 10 letter ≡ false)
base_letter Binary letter (inl e) = (ap continues_name (second_is e), ap (is_digit_in 10) (second_is e))
base_letter Binary letter (inr e) = (ap continues_name (second_is e), ap (is_digit_in 10) (second_is e))
base_letter Octal letter e = (ap continues_name (second_is e), ap (is_digit_in 10) (second_is e))
base_letter Decimal letter e = absurd (cons≢nil e)
base_letter Hexadecimal letter (inl e) = (ap continues_name (second_is e), ap (is_digit_in 10) (second_is e))
base_letter Hexadecimal letter (inr e) = (ap continues_name (second_is e), ap (is_digit_in 10) (second_is e))

module _ (behind : List ℕ) (stops : StopsAt (λ c. continues_name c || (c == 46)) behind) where
  no_digit_behind : StopsAt (is_digit_in 10) behind
  no_digit_behind = stops_too (λ c. continues_name c || (c == 46)) (is_digit_in 10) (λ c h. name_part c (digit_continues c h)) behind stops

  no_point_behind : StopsAt (λ c. c == 46) behind
  no_point_behind = stops_too (λ c. continues_name c || (c == 46)) (λ c. c == 46) (λ c h. or_second (continues_name c) (c == 46) h) behind stops

  no_name_behind : (c : ℕ) (cs : List ℕ) → behind ≡ c ∷ cs → continues_name c ≡ true → ⊥
  no_name_behind c cs e h = stops_before (λ c. continues_name c || (c == 46)) behind c cs stops e (name_part c h)

  no_exponent_behind : ¬ (BeginsExponent behind)
  no_exponent_behind x = no_name_behind x.3.letter (x.3.sign ++ x.3.digits ++ x.1) (x.2 ∙ ap (λ y. y ++ x.1) x.3.split) (by_letter x.3.letter x.3.is_letter)
    where
      by_letter : (c : ℕ) → (c ≡ 101) ⊎ (c ≡ 69) → continues_name c ≡ true
      by_letter c (inl e) = ap continues_name e
      by_letter c (inr e) = ap continues_name e

  no_step_behind : begins_step 10 behind ≡ false
  no_step_behind = by_list behind no_digit_behind no_name_behind
    where
      by_list : (cs : List ℕ) → StopsAt (is_digit_in 10) cs → ((c : ℕ) (ds : List ℕ) → cs ≡ c ∷ ds → continues_name c ≡ true → ⊥) → begins_step 10 cs ≡ false
      by_list [] digit name = refl
      by_list (c ∷ ds) digit name = no_step_here 10 c (c ∷ ds) ds refl digit (λ (e : c ≡ 95). name c ds refl (ap continues_name e))

  no_base_behind : (d : ℕ) (ds : List ℕ) → list_all (is_digit_in 10) (d ∷ ds) ≡ true → NoBased (d ∷ ds ++ behind)
  no_base_behind d [] each letter digit base more e b = absurd (no_name_behind letter (digit ∷ more) (cons_tail e) (base_letter b.0 letter b.2).0)
  no_base_behind d (f ∷ ds) each letter digit base more e b =
      absurd (false≢true (sym (base_letter b.0 letter b.2).1 ∙ ap (is_digit_in 10) (sym (cons_head (cons_tail e))) ∙ and_first (is_digit_in 10 f) _ (and_second (is_digit_in 10 d) _ each)))

  -- decimal digits alone
  digits_longest : (version : Bool) (cs : List ℕ) → AreDigits cs → IsLongest version (cs ++ behind) cs behind
  digits_longest version [] are = absurd (omega (arith, are.some))
  digits_longest version (d ∷ ds) are = numeral_longest whole numeral version
    where
      whole : WholeAt (d ∷ ds ++ behind) (d ∷ ds) behind
      whole = record { context = record { split = refl; each = are.each; stops = no_digit_behind }; no_point = no_point_behind; no_exponent = no_exponent_behind }

      numeral : NumeralAt (d ∷ ds ++ behind) d ds behind
      numeral = record {
        split = refl;
        begins = and_first (is_digit_in 10 d) _ are.each;
        each = digits_go_on 10 ds (and_second (is_digit_in 10 d) _ are.each);
        stops = no_step_behind;
        no_based = no_base_behind d ds are.each;
      }

  -- a version
  pointed_longest : (version : Bool) (front back : List ℕ) → AreDigits front → AreDigits back → IsLongest version ((front ++ 46 ∷ back) ++ behind) (front ++ 46 ∷ back) behind
  pointed_longest version front back fronts backs =
      subst (λ cs. IsLongest version ((front ++ 46 ∷ back) ++ behind) cs behind) (append-nil (front ++ 46 ∷ back)) (point_longest at version)
    where
      at : PointAt ((front ++ 46 ∷ back) ++ behind) front back [] behind
      at = record {
        digits = record { split = append_assoc front (46 ∷ back) behind; each = fronts.each; stops = refl };
        back_each = backs.each;
        back_stops = no_digit_behind;
        some = omega (arith, fronts.some);
        scale = Plain refl no_exponent_behind;
      }

  version_longest : (version : Bool) (cs : List ℕ) (major : ℕ) (minor : Option ℕ) → IsVersion cs major minor → IsLongest version (cs ++ behind) cs behind
  version_longest version cs major None is = digits_longest version cs is.0
  version_longest version cs major (Some minor) is =
      subst (λ x. IsLongest version (x ++ behind) x behind) (sym is.2) (pointed_longest version is.0 is.1 is.3 is.4)

-- marks
abbrev behind_first : List ℕ → List ℕ
behind_first [] = []
behind_first (c ∷ cs) = cs

-- a comment begins with these characters
abbrev opens_comment : List ℕ → Bool
opens_comment [] = false
opens_comment (c ∷ []) = false
opens_comment (c ∷ d ∷ cs) = (c == 47) && ((d == 47) || (d == 42))

-- a mark goes on as it may, and opens no comment
mark_goes_on : (m : Mark) → (list_all continues_mark (behind_first (mark_spelling m)) ≡ true) × (opens_comment (mark_spelling m) ≡ false)
mark_goes_on Semicolon = (refl, refl)
mark_goes_on Comma = (refl, refl)
mark_goes_on LeftParen = (refl, refl)
mark_goes_on RightParen = (refl, refl)
mark_goes_on LeftBracket = (refl, refl)
mark_goes_on RightBracket = (refl, refl)
mark_goes_on LeftBrace = (refl, refl)
mark_goes_on RightBrace = (refl, refl)
mark_goes_on At = (refl, refl)
mark_goes_on Hash = (refl, refl)
mark_goes_on Colon = (refl, refl)
mark_goes_on Assign = (refl, refl)
mark_goes_on Arrow = (refl, refl)
mark_goes_on Plus = (refl, refl)
mark_goes_on PlusPlus = (refl, refl)
mark_goes_on Minus = (refl, refl)
mark_goes_on Star = (refl, refl)
mark_goes_on StarStar = (refl, refl)
mark_goes_on Slash = (refl, refl)
mark_goes_on Percent = (refl, refl)
mark_goes_on Tilde = (refl, refl)
mark_goes_on Bang = (refl, refl)
mark_goes_on Ampersand = (refl, refl)
mark_goes_on AndAnd = (refl, refl)
mark_goes_on Pipe = (refl, refl)
mark_goes_on OrOr = (refl, refl)
mark_goes_on Caret = (refl, refl)
mark_goes_on ShiftLeft = (refl, refl)
mark_goes_on ShiftRight = (refl, refl)
mark_goes_on Less = (refl, refl)
mark_goes_on LessEqual = (refl, refl)
mark_goes_on Greater = (refl, refl)
mark_goes_on GreaterEqual = (refl, refl)
mark_goes_on Equal = (refl, refl)
mark_goes_on NotEqual = (refl, refl)
mark_goes_on PlusAssign = (refl, refl)
mark_goes_on MinusAssign = (refl, refl)
mark_goes_on StarAssign = (refl, refl)
mark_goes_on SlashAssign = (refl, refl)
mark_goes_on PercentAssign = (refl, refl)
mark_goes_on AndAssign = (refl, refl)
mark_goes_on OrAssign = (refl, refl)
mark_goes_on CaretAssign = (refl, refl)
mark_goes_on ShiftLeftAssign = (refl, refl)
mark_goes_on ShiftRightAssign = (refl, refl)

mark_longest : (version : Bool) (cs behind : List ℕ) (mark : Mark) → cs ≡ mark_spelling mark → StopsAt continues_mark behind → IsLongest version (cs ++ behind) cs behind
mark_longest version cs behind mark is stops = by_first cs (is ∙ (mark_first mark).2)
  where
    by_first : (cs : List ℕ) → cs ≡ (mark_first mark).0 ∷ (mark_first mark).1 → IsLongest version (cs ++ behind) cs behind
    by_first [] e = absurd (cons≢nil (sym e))
    by_first (c ∷ cs) e = record { split = refl; longest = λ other more at s. bound other more at s }
      where
        bound : (other more : List ℕ) → c ∷ cs ++ behind ≡ other ++ more → IsSpelled version other → length other ≤ length (c ∷ cs)
        bound other more at s =
            let h = spelled_at AtMark version c (cs ++ behind) other more (ap start_of (cons_head e) ∙ (mark_first mark).3) at s in
            let first = mark_first h.0 in
            let other_is : other ≡ first.0 ∷ first.1 = h.1 ∙ first.2 in
            let tails : cs ++ behind ≡ first.1 ++ more = cons_tail (at ∙ ap (λ x. x ++ more) other_is) in
            let short = run_longest continues_mark cs behind first.1 more tails stops (ap (λ x. list_all continues_mark (behind_first x)) (sym first.2) ∙ (mark_goes_on h.0).0) in
            omega (arith, short, ap length other_is)

-- what is written is the longest spelling
pub piece_longest : (version : Bool) (cs behind : List ℕ) (kind : TokenKind) → Spells version cs kind → IsPlain kind cs → EndsBefore kind behind → IsLongest version (cs ++ behind) cs behind
piece_longest version cs behind Name s plain ends = name_longest version cs behind s.0 ends
piece_longest version cs behind (Word word) s plain ends = name_longest version cs behind (subst IsNameLike (sym s) (word_is_name_like word)) ends
piece_longest version cs behind (Whole value) s plain ends = digits_longest behind ends version cs plain
piece_longest version cs behind Text s plain ends = text_longest version cs behind s.0 s.1 s.2
piece_longest version cs behind (Version major minor) s plain ends = version_longest behind ends version cs major minor s.1
piece_longest version cs behind (Hardware number) s plain ends = subst (λ x. IsLongest version (x ++ behind) x behind) (sym s.1) (dollar_longest version s.0 behind ends)
piece_longest version cs behind (MarkKind mark) s plain ends = mark_longest version cs behind mark s ends

-- no comment begins with a mark
slash_then : (x : ℕ) → continues_mark x ≡ true → ((x == 47) || (x == 42)) ≡ true → (cs behind body : List ℕ) → opens_comment cs ≡ false → StopsAt continues_mark behind → 0 < length cs → cs ++ behind ≡ 47 ∷ x ∷ body → ⊥
slash_then x goes opens [] behind body closed stops some e = omega arith
slash_then x goes opens (c ∷ []) behind body closed stops some e = stops_before continues_mark behind x body stops (cons_tail e) goes
slash_then x goes opens (c ∷ d ∷ ds) behind body closed stops some e =
    false≢true (sym closed ∙ ap (λ y. opens_comment (y ∷ d ∷ ds)) (cons_head e) ∙ ap (λ y. opens_comment (47 ∷ y ∷ ds)) (cons_head (cons_tail e)) ∙ opens)

mark_no_comment : (mark : Mark) (cs behind : List ℕ) → cs ≡ mark_spelling mark → StopsAt continues_mark behind → BeginsComment (cs ++ behind) → ⊥
mark_no_comment mark cs behind is stops comment =
    ⊎_elim (λ e. slash_then 47 refl refl cs behind comment.0 closed stops some e) (λ e. slash_then 42 refl refl cs behind comment.0 closed stops some e) comment.1
  where
    closed : opens_comment cs ≡ false
    closed = ap opens_comment is ∙ (mark_goes_on mark).1

    some : 0 < length cs
    some = omega (arith, ap length (is ∙ (mark_first mark).2))

-- no comment begins with what is written
pub piece_no_comment : (version : Bool) (cs behind : List ℕ) (kind : TokenKind) → Spells version cs kind → EndsBefore kind behind → ¬ (BeginsComment (cs ++ behind))
piece_no_comment version [] behind kind s ends comment = absurd (spelled_some version (AsToken kind s))
piece_no_comment version (c ∷ cs) behind kind s ends comment = by_kind kind s ends (sym (ap start_of first) ∙ kind_start version c cs kind s)
  where
    first : c ≡ 47
    first = ⊎_elim (λ e. cons_head e) (λ e. cons_head e) comment.1

    by_kind : (k : TokenKind) → Spells version (c ∷ cs) k → EndsBefore k behind → AtMark ≡ start_kind k → ⊥
    by_kind (MarkKind m) s ends h = mark_no_comment m (c ∷ cs) behind s ends comment
    by_kind Name s ends h = cc
    by_kind (Word w) s ends h = cc
    by_kind (Whole n) s ends h = cc
    by_kind Text s ends h = cc
    by_kind (Version a b) s ends h = cc
    by_kind (Hardware n) s ends h = cc
