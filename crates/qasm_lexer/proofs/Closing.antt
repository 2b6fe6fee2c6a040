-- Comments: where they close, and gaps one behind the other.
use Rattle.std.proofs.Common.{◌≡◌, ℕ, ◌<◌, ◌⊎◌, Bool, true, false, not, ◌&&◌, ◌||◌, ◌==◌, List, [], ◌∷◌, ◌++◌, length, IsUtf8, sym, refl, ap, ◌∙◌, subst, arith, inl, inr, ⊎_elim, append_assoc, MatchBool}
use Rattle.std.specs.Str.{chars}
use Rattle.std.proofs.lemmas.Bool.{false≢true}
use Rattle.std.proofs.lemmas.Bool.Decides.{nat_tests, Decides-eqb}
use Rattle.qq_base.specs.declared.rule.Rule.TheVariants.{OpenComment}
use Rattle.qasm_lexer.specs.Characters.{is_blank, ends_line}
use Rattle.qasm_lexer.specs.Scan.{Cuts, HasRest, StopsAt, SkipsPassing, SkipsClose, BeginsNoGap, SkipsGaps, passes}
use Rattle.qasm_lexer.specs.Tokens.{has_close, IsGap, Blank, LineComment, BlockComment, Skips, IsRefused, BeginsWith}
use Rattle.qasm_lexer.specs.declared.scan.Class.TheVariants.{InLine}
use Rattle.qasm_lexer.proofs.Cutting.{cons≢nil, chars_cut, cut_none, cut_twice, cut_shorter_by}
use Rattle.qasm_lexer.proofs.Numerals.{cons_head, cons_tail}

and_false : (b : Bool) → (b && false) ≡ false
and_false true = refl
and_false false = refl

-- a list begins as another does, or is empty
abbrev pub SameStart : List ℕ → List ℕ → Type 0
SameStart [] cs = Unit {0}
SameStart (x ∷ xs) [] = ⊥
SameStart (x ∷ xs) (c ∷ cs) = x ≡ c

-- no `*/` begins within the front, whatever follows that begins as the rest does
pub record NotYet (text rest : List ℕ) : Type 0 where
  pub front : List ℕ
  pub cuts : Cuts text front rest
  pub open_still : (tail : List ℕ) → SameStart tail (chars rest) → has_close (front ++ tail) ≡ has_close tail

pub not_yet_start : (text : List ℕ) → IsUtf8 text → NotYet text text
not_yet_start text utf8 = record { front = []; cuts = cut_none text utf8; open_still = λ tail same. refl }

-- one character on, where no `*/` begins at it
one_more : (c : ℕ) (tail rest : List ℕ) → (c ≡ 42 → ⊥) ⊎ StopsAt (λ d. d == 47) rest → SameStart tail rest → has_close (c ∷ tail) ≡ has_close tail
one_more c [] rest why same = refl
one_more c (x ∷ xs) [] why same = absurd same
one_more c (x ∷ xs) (r ∷ rest) (inl h) same = ap (λ b. (b && (x == 47)) || has_close (x ∷ xs)) (not_star c h)
  where
    not_star : (c : ℕ) → (c ≡ 42 → ⊥) → (c == 42) ≡ false
    not_star c h = grind (arith, nat_tests, h)
one_more c (x ∷ xs) (r ∷ rest) (inr h) same =
    ap (λ y. ((c == 42) && (y == 47)) || has_close (x ∷ xs)) same ∙ ap (λ b. ((c == 42) && b) || has_close (x ∷ xs)) h ∙ ap (λ b. b || has_close (x ∷ xs)) (and_false (c == 42))

pub not_yet_step : {text rest behind : List ℕ} (c : ℕ) → NotYet text rest → Cuts rest (c ∷ []) behind → (c ≡ 42 → ⊥) ⊎ StopsAt (λ d. d == 47) (chars behind) → NotYet text behind
not_yet_step {text} {rest} {behind} c before cut why = record {
  front = before.front ++ c ∷ [];
  cuts = cut_twice before.cuts cut;
  open_still = λ tail same.
      ap has_close (append_assoc before.front (c ∷ []) tail) ∙ before.open_still (c ∷ tail) (subst (SameStart (c ∷ tail)) (sym (chars_cut cut)) refl) ∙ one_more c tail (chars behind) why same;
}

-- the first `*/`
pub close_found : {text rest behind end : List ℕ} {c : ℕ} → NotYet text rest → Cuts rest (c ∷ []) behind → c ≡ 42 → Cuts behind (47 ∷ []) end → SkipsClose text end
close_found {text} {rest} {behind} {end} {c} before cut star slash = record {
  front = before.front;
  cuts = cut_twice before.cuts (subst (λ x. Cuts rest (x ∷ 47 ∷ []) end) star (cut_twice cut slash));
  first = before.open_still (42 ∷ []) (subst (SameStart (42 ∷ [])) (sym (chars_cut cut)) (sym star));
}

pub never_closed : {text rest : List ℕ} → NotYet text rest → chars rest ≡ [] → has_close (chars text) ≡ false
never_closed {text} {rest} before none =
    ap has_close (chars_cut before.cuts ∙ ap (λ x. before.front ++ x) none) ∙ before.open_still [] tt

-- gaps so far: whatever is behind gaps of the rest is behind gaps of the text
pub record GapsSoFar (text rest : List ℕ) : Type 0 where
  pub has_rest : HasRest text rest
  pub goes_on : (gaps : List (List ℕ)) (end : List ℕ) → Skips gaps (chars rest) end → (all : List (List ℕ)) × Skips all (chars text) end

pub no_gaps_yet : (text : List ℕ) → IsUtf8 text → GapsSoFar text text
no_gaps_yet text utf8 = record { has_rest = ([], cut_none text utf8); goes_on = λ gaps end s. (gaps, s) }

pub one_gap_more : {text rest behind gap : List ℕ} → GapsSoFar text rest → Cuts rest gap behind → IsGap gap (chars behind) → GapsSoFar text behind
one_gap_more {text} {rest} {behind} {gap} before cut is = record {
  has_rest = (_, cut_twice before.has_rest.1 cut);
  goes_on = λ gaps end s. before.goes_on (gap ∷ gaps) end (chars behind, chars_cut cut, is, s);
}

pub gaps_end : {text rest : List ℕ} (is_open : Bool) → GapsSoFar text rest → MatchBool is_open (IsRefused false (chars rest) OpenComment) (BeginsNoGap (chars rest)) → SkipsGaps text rest is_open
gaps_end {text} {rest} is_open before begins =
    let all = before.goes_on [] (chars rest) refl in
    record { gaps = all.0; has_rest = before.has_rest; skipped = all.1; begins = begins }

-- a gap is not empty
pub gap_shorter : {text gap rest : List ℕ} → Cuts text gap rest → IsGap gap (chars rest) → length rest < length text
gap_shorter cut (Blank c e h) = cut_shorter_by cut e
gap_shorter cut (LineComment body e h k) = cut_shorter_by cut e
gap_shorter cut (BlockComment body e h) = cut_shorter_by cut e

-- neither a blank nor a comment begins
pub nothing_at_end : (cs : List ℕ) → cs ≡ [] → BeginsNoGap cs
nothing_at_end cs e = record {
  no_blank = subst (StopsAt is_blank) (sym e) tt;
  no_comment = λ comment. ⊎_elim (λ h. cons≢nil (sym h ∙ e)) (λ h. cons≢nil (sym h ∙ e)) comment.1;
}

pub nothing_here : (cs ds : List ℕ) (c : ℕ) → cs ≡ c ∷ ds → is_blank c ≡ false → (c ≡ 47 → ⊥) → BeginsNoGap cs
nothing_here cs ds c e blank slash = record {
  no_blank = subst (StopsAt is_blank) (sym e) blank;
  no_comment = λ comment. ⊎_elim (λ h. slash (cons_head (sym e ∙ h))) (λ h. slash (cons_head (sym e ∙ h))) comment.1;
}

other_char : (n : ℕ) (cs ds : List ℕ) → StopsAt (λ c. c == n) cs → cs ≡ n ∷ ds → ⊥
other_char n cs ds stops e = false≢true (sym (subst (StopsAt (λ c. c == n)) e stops) ∙ (Decides-eqb n n).1 refl)

pub lone_slash : {text behind : List ℕ} → Cuts text (47 ∷ []) behind → StopsAt (λ c. c == 47) (chars behind) → StopsAt (λ c. c == 42) (chars behind) → BeginsNoGap (chars text)
lone_slash {text} {behind} cut slash star = record {
  no_blank = subst (StopsAt is_blank) (sym (chars_cut cut)) refl;
  no_comment = λ comment. ⊎_elim (λ h. other_char 47 (chars behind) comment.0 slash (cons_tail (sym (chars_cut cut) ∙ h))) (λ h. other_char 42 (chars behind) comment.0 star (cons_tail (sym (chars_cut cut) ∙ h))) comment.1;
}

-- a comment to the end of its line
pub line_comment : {text behind body end : List ℕ} → Cuts text (47 ∷ []) behind → Cuts behind (47 ∷ []) body → SkipsPassing (passes InLine) body end → (gap : List ℕ) × Cuts text gap end × IsGap gap (chars end)
line_comment {text} {behind} {body} {end} one two skip =
    (47 ∷ 47 ∷ skip.front, cut_twice one (cut_twice two skip.cuts), LineComment skip.front refl skip.each (at_end (chars end) skip.stops))
  where
    ends : (b : Bool) → not b ≡ false → b ≡ true
    ends true h = refl
    ends false h = absurd (false≢true (sym h))

    at_end : (cs : List ℕ) → StopsAt (passes InLine) cs → (cs ≡ []) ⊎ BeginsWith ends_line cs
    at_end [] h = inl refl
    at_end (c ∷ cs) h = inr (ends (ends_line c) h)

-- a comment that closes
pub block_comment : {text behind body end : List ℕ} → Cuts text (47 ∷ []) behind → Cuts behind (42 ∷ []) body → SkipsClose body end → (gap : List ℕ) × Cuts text gap end × IsGap gap (chars end)
block_comment one two close = (47 ∷ 42 ∷ (close.front ++ 42 ∷ 47 ∷ []), cut_twice one (cut_twice two close.cuts), BlockComment close.front refl close.first)

-- a comment that does not
pub open_comment : {text behind body : List ℕ} → Cuts text (47 ∷ []) behind → Cuts behind (42 ∷ []) body → has_close (chars body) ≡ false → IsRefused false (chars text) OpenComment
open_comment {text} {behind} {body} one two h = (chars body, chars_cut one ∙ ap (λ x. 47 ∷ x) (chars_cut two), h)

-- a blank
pub blank_gap : {text behind : List ℕ} {c : ℕ} → Cuts text (c ∷ []) behind → is_blank c ≡ true → (gap : List ℕ) × Cuts text gap behind × IsGap gap (chars behind)
blank_gap {text} {behind} {c} cut h = (c ∷ [], cut, Blank c refl h)
