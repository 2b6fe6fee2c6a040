-- Texts that are cut: the characters of the parts, and parts of parts.
use Rattle.std.proofs.Common.{◌≡◌, ℕ, ◌-◌, ◌<◌, Bool, true, false, ◌&&◌, List, [], ◌∷◌, ◌++◌, length, drop, IsUtf8, sym, refl, ap, ◌∙◌, subst, arith, length-append, append_assoc, zero-add, Option, None, MatchOption}
use Rattle.std.specs.Str.{chars, IsCharBoundary}
use Rattle.std.specs.Char.{len_utf8}
use lib.Utf8.{scalar, scalars, encode}
use Rattle.std.proofs.lemmas.Str.{chars-append, chars-nil, IsUtf8-nil, IsUtf8-append, IsUtf8-encode, chars-encodes, chars_past_char, scalars-chars, IsCharBoundary-past_char, IsCharBoundary-at_seam, IsUtf8-past_char, length-encode}
use Rattle.std.proofs.lemmas.List.{append-nil, drop_at}
use Rattle.qasm_lexer.specs.Scan.{Cuts}

-- the characters of a text that is cut
pub chars_cut : {text front rest : List ℕ} → Cuts text front rest → chars text ≡ front ++ chars rest
chars_cut {text} {front} {rest} cut =
    ap chars cut.split ∙ chars-append cut.bytes rest cut.utf8 ∙ ap (λ cs. cs ++ chars rest) cut.spelled

-- nothing is cut off
pub cut_none : (text : List ℕ) → IsUtf8 text → Cuts text [] text
cut_none text utf8 = record { bytes = []; utf8 = IsUtf8-nil; spelled = chars-nil; split = refl; rest_utf8 = utf8 }

-- a second cut behind a first one
pub cut_twice : {text front middle back rest : List ℕ} → Cuts text front middle → Cuts middle back rest → Cuts text (front ++ back) rest
cut_twice {text} {front} {middle} {back} {rest} one two = record {
  bytes = one.bytes ++ two.bytes;
  utf8 = IsUtf8-append one.bytes two.bytes one.utf8 two.utf8;
  spelled = chars-append one.bytes two.bytes one.utf8 ∙ ap (λ cs. cs ++ chars two.bytes) one.spelled ∙ ap (λ cs. front ++ cs) two.spelled;
  split = one.split ∙ ap (λ bs. one.bytes ++ bs) two.split ∙ sym (append_assoc one.bytes two.bytes rest);
  rest_utf8 = two.rest_utf8;
}

pub cons≢nil : {c : ℕ} {cs : List ℕ} → c ∷ cs ≡ [] → ⊥
cons≢nil e = cc

and_first : (a b : Bool) → (a && b) ≡ true → a ≡ true
and_first true b h = refl
and_first false b h = h

-- one character is cut off
pub cut_char : (text rest : List ℕ) (c : ℕ) → IsUtf8 text → text ≡ encode c ++ rest → Cuts text (c ∷ []) (drop (len_utf8 c) text)
cut_char text rest c utf8 split =
    let known : scalars (c ∷ chars rest) ≡ true = ap scalars (sym (chars_past_char text rest c utf8 split)) ∙ scalars-chars text utf8 in
    let one : scalar c ≡ true = and_first (scalar c) (scalars (chars rest)) known in
    let behind : drop (len_utf8 c) text ≡ rest = ap (λ bs. drop (len_utf8 c) bs) split ∙ drop_at (encode c) rest (len_utf8 c) (length-encode c) in
    record {
      bytes = encode c;
      utf8 = IsUtf8-encode c one;
      spelled = ap chars (sym (append-nil (encode c))) ∙ chars-encodes (c ∷ []) (ap (λ b. b && true) one);
      split = split ∙ ap (λ bs. encode c ++ bs) (sym behind);
      rest_utf8 = subst IsUtf8 (sym behind) (IsUtf8-past_char text rest c utf8 split);
    }

-- and may be
pub boundary_behind_char : (text rest : List ℕ) (c : ℕ) → IsUtf8 text → text ≡ encode c ++ rest → IsCharBoundary text (len_utf8 c)
boundary_behind_char text rest c utf8 split = subst (λ n. IsCharBoundary text n) (zero-add (len_utf8 c)) (IsCharBoundary-past_char text rest 0 c (omega arith) utf8 split)

-- what is left is shorter
pub cut_shorter_by : {text front rest cs : List ℕ} {c : ℕ} → Cuts text front rest → front ≡ c ∷ cs → length rest < length text
cut_shorter_by {text} {front} {rest} {cs} {c} cut e = some cut.bytes (cut.spelled ∙ e) cut.split
  where
    some : (bytes : List ℕ) → chars bytes ≡ c ∷ cs → text ≡ bytes ++ rest → length rest < length text
    some [] spelled split = absurd (cons≢nil (sym spelled ∙ chars-nil))
    some (b ∷ bs) spelled split = omega (arith, ap length split, length-append bs rest)

pub cut_shorter : {text rest : List ℕ} {c : ℕ} → Cuts text (c ∷ []) rest → length rest < length text
cut_shorter cut = cut_shorter_by cut refl

-- a text may be cut in front of a rest
pub boundary_at_rest : {text front rest : List ℕ} → Cuts text front rest → IsCharBoundary text (length text - length rest)
boundary_at_rest {text} {front} {rest} cut =
    let here : length cut.bytes ≡ length text - length rest = omega (arith, ap length cut.split, length-append cut.bytes rest) in
    subst (λ n. IsCharBoundary text n) here (IsCharBoundary-at_seam text cut.bytes rest cut.split cut.rest_utf8)

-- a call that gave nothing
pub none_gives : {X : Type 0} (P : Type 0) (Q : X → Type 0) (r : Option X) → r ≡ None → P → MatchOption r P Q
none_gives {X} P Q r e p = subst (λ o. MatchOption o P Q) (sym e) p
