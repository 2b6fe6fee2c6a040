-- What the tables of words and marks say of a text.
use Rattle.std.proofs.Common.{◌≡◌, ℕ, ◌<◌, ◌≤◌, Bool, true, false, ◌&&◌, List, [], ◌∷◌, ◌++◌, length, drop, get_or, leb, IsUtf8, sym, refl, ap, ◌∙◌, subst, arith, zero, suc, ⊎_elim}
use Rattle.std.proofs.str.Laws.{order}
use Rattle.qasm_lexer.proofs.Passing.{and_first, and_second}
use Rattle.std.specs.Str.{chars, IsCharBoundary}
use lib.Utf8.{encodes}
use Rattle.std.proofs.lemmas.Bool.Decides.{leb_tells}
use Rattle.std.proofs.lemmas.Bool.{false≢true}
use Rattle.std.proofs.lemmas.Slice.Eq.{bytes_eq-Decides}
use Rattle.std.specs.Str.{bytes_eq}
use Rattle.std.proofs.lemmas.Str.{chars-encodes, encodes-chars, encodes-append, IsUtf8-drop}
use Rattle.std.proofs.lemmas.List.{get_or-map}
use Rattle.qasm_lexer.specs.Tables.{word_spelling, mark_spelling}
use Rattle.qasm_lexer.specs.Scan.{Cuts, BeginsNoMark, IsFirstMark}
use Rattle.qasm_lexer.specs.declared.token.Keyword.{Keyword}
use Rattle.qasm_lexer.specs.declared.token.Mark.{Mark}
use Rattle.qasm_lexer.specs.declared.token.Mark.TheVariants.{Semicolon}
use Rattle.qasm_lexer.specs.declared.token.Keyword.TheVariants.{OpenQasm}
use Rattle.qasm_lexer.proofs.TableRows.{words, word_index, word_at, word_within, word_scalars, marks, mark_lengths, mark_index, mark_at, mark_within, mark_length, mark_scalars, mark_encodes}

-- a text that is the bytes of a word is the word
pub word_from_bytes : (text : List ℕ) (w : Keyword) → encodes (word_spelling w) ≡ text → chars text ≡ word_spelling w
word_from_bytes text w e = ap chars (sym e) ∙ chars-encodes (word_spelling w) (word_scalars w)

pub word_to_bytes : (text : List ℕ) (w : Keyword) → IsUtf8 text → chars text ≡ word_spelling w → encodes (word_spelling w) ≡ text
word_to_bytes text w utf8 e = ap encodes (sym e) ∙ encodes-chars text utf8

le_from_leb : (a b : ℕ) → leb a b ≡ true → a ≤ b
le_from_leb a b h = grind (arith, leb_tells)

pub word_bound : (w : Keyword) → word_index w < 56
word_bound w = let within = le_from_leb _ _ (word_within w) in omega (arith, within)

-- no word is the text, where none of the list is
pub no_word : (text : List ℕ) → ((k : ℕ) → k < 56 → ¬ (chars text ≡ word_spelling (get_or words k OpenQasm))) → (w : Keyword) → ¬ (chars text ≡ word_spelling w)
no_word text none w e = none (word_index w) (word_bound w) (e ∙ ap word_spelling (sym (word_at w OpenQasm)))

-- what a test of the bytes tells
pub word_here : (text bytes : List ℕ) (w : Keyword) (r : Bool) → r ≡ bytes_eq bytes text → bytes ≡ encodes (word_spelling w) → r ≡ true → chars text ≡ word_spelling w
word_here text bytes w r e b h = word_from_bytes text w (sym b ∙ (bytes_eq-Decides bytes text).0 (sym e ∙ h))

pub word_not_here : (text bytes : List ℕ) (w : Keyword) (r : Bool) → IsUtf8 text → r ≡ bytes_eq bytes text → bytes ≡ encodes (word_spelling w) → r ≡ false → ¬ (chars text ≡ word_spelling w)
word_not_here text bytes w r utf8 e b h is = false≢true (sym h ∙ e ∙ (bytes_eq-Decides bytes text).1 (b ∙ word_to_bytes text w utf8 is))

-- the lengths in a list fall, or stay
abbrev falls : List ℕ → Bool
falls [] = true
falls (x ∷ []) = true
falls (x ∷ y ∷ ys) = leb y x && falls (y ∷ ys)

falls_tail : (x : ℕ) (xs : List ℕ) → falls (x ∷ xs) ≡ true → falls xs ≡ true
falls_tail x [] h = refl
falls_tail x (y ∷ ys) h = and_second (leb y x) _ h

falls_from : (x : ℕ) (xs : List ℕ) (j : ℕ) → falls (x ∷ xs) ≡ true → get_or (x ∷ xs) j 0 ≤ x
falls_from x xs zero h = omega arith
falls_from x [] (suc j) h = omega arith
falls_from x (y ∷ ys) (suc j) h =
    let step = le_from_leb y x (and_first (leb y x) _ h) in
    let rest = falls_from y ys j (falls_tail x (y ∷ ys) h) in
    omega (arith, step, rest)

falls_between : (xs : List ℕ) (i j : ℕ) → falls xs ≡ true → i ≤ j → get_or xs j 0 ≤ get_or xs i 0
falls_between [] i j h le = omega arith
falls_between (x ∷ xs) zero j h le = falls_from x xs j h
falls_between (x ∷ xs) (suc i) zero h le = absurd (omega arith)
falls_between (x ∷ xs) (suc i) (suc j) h le = falls_between xs i j (falls_tail x xs h) (omega arith)

pub mark_bound : (m : Mark) → mark_index m < 45
mark_bound m = let within = le_from_leb _ _ (mark_within m) in omega (arith, within)

-- the length of the mark at a place
length_at : (i : ℕ) → i < 45 → length (mark_spelling (get_or marks i Semicolon)) ≡ get_or mark_lengths i 0
length_at i lt = sym (get_or-map (λ m. length (mark_spelling m)) marks i Semicolon 0 lt)

-- a mark at or behind a place is not longer than the mark there
pub mark_longest : (i : ℕ) (m : Mark) → i < 45 → i ≤ mark_index m → length (mark_spelling m) ≤ length (mark_spelling (get_or marks i Semicolon))
mark_longest i m lt le =
    let here = length_at i lt in
    let there = mark_length m in
    let order = falls_between mark_lengths i (mark_index m) refl le in
    omega (arith, here, there, order)

-- a text that begins with the bytes of a mark
pub mark_cut : (text rest : List ℕ) (m : Mark) → IsUtf8 rest → text ≡ mark_spelling m ++ rest → Cuts text (mark_spelling m) rest
mark_cut text rest m utf8 split = record {
  bytes = mark_spelling m;
  utf8 = (mark_spelling m, (mark_scalars m, mark_encodes m));
  spelled = ap chars (sym (mark_encodes m)) ∙ chars-encodes (mark_spelling m) (mark_scalars m);
  split = split;
  rest_utf8 = utf8;
}

-- a text that begins with the characters of a mark
pub mark_bytes : (text more : List ℕ) (m : Mark) → IsUtf8 text → chars text ≡ mark_spelling m ++ more → text ≡ mark_spelling m ++ encodes more
mark_bytes text more m utf8 e =
    sym (encodes-chars text utf8) ∙ ap encodes e ∙ encodes-append (mark_spelling m) more ∙ ap (λ bs. bs ++ encodes more) (mark_encodes m)

-- none of the first marks begins the text
abbrev pub NoneBelow : List ℕ → ℕ → Type 0
NoneBelow cs n = (k : ℕ) → k < n → (more : List ℕ) → ¬ (cs ≡ mark_spelling (get_or marks k Semicolon) ++ more)

pub no_mark : (cs : List ℕ) → NoneBelow cs 45 → BeginsNoMark cs
no_mark cs none m more e = none (mark_index m) (mark_bound m) more (e ∙ ap (λ n. mark_spelling n ++ more) (sym (mark_at m Semicolon)))

-- so the mark at that place is the longest
pub first_is_longest : (cs : List ℕ) (i : ℕ) → i < 45 → NoneBelow cs i → IsFirstMark cs (get_or marks i Semicolon)
first_is_longest cs i lt none m more e =
    ⊎_elim
    (λ (below : mark_index m < i). absurd (none (mark_index m) below more (e ∙ ap (λ n. mark_spelling n ++ more) (sym (mark_at m Semicolon)))))
    (λ (not_below : i ≤ mark_index m). mark_longest i m lt not_below)
    (order (mark_index m) i)

-- what a test for the bytes of a mark tells
pub mark_here : (text behind bytes : List ℕ) (m : Mark) (n : ℕ) → IsUtf8 text → bytes ≡ mark_spelling m → n ≡ length bytes → text ≡ bytes ++ drop n text → IsCharBoundary text (length bytes) → behind ≡ drop n text → Cuts text (mark_spelling m) behind
mark_here text behind bytes m n utf8 b len split boundary rest =
    mark_cut text behind m (subst IsUtf8 (sym rest) (IsUtf8-drop text n utf8 (subst (IsCharBoundary text) (sym len) boundary)))
    (split ∙ ap (λ bs. bs ++ drop n text) b ∙ ap (λ bs. mark_spelling m ++ bs) (sym rest))

pub mark_not_here : (text bytes : List ℕ) (m : Mark) → IsUtf8 text → bytes ≡ mark_spelling m → ((rest : List ℕ) → ¬ (text ≡ bytes ++ rest)) → (more : List ℕ) → ¬ (chars text ≡ mark_spelling m ++ more)
mark_not_here text bytes m utf8 b none more e = none (encodes more) (mark_bytes text more m utf8 e ∙ ap (λ bs. bs ++ encodes more) (sym b))
