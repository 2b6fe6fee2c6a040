-- One spelling is of one kind.
use Rattle.std.proofs.Common.{◌≡◌, ℕ, ◌⊎◌, Bool, true, List, [], ◌∷◌, ◌++◌, length, Option, None, Some, sym, refl, ap, ◌∙◌, subst, arith, inl, inr, ⊎_elim, length-append, append_assoc}
use Rattle.std.specs.List.{list_all}
use Rattle.std.specs.Str.Parse.{digits_value}
use Rattle.std.proofs.lemmas.Bool.{false≢true}
use Rattle.std.proofs.lemmas.List.{append-nil}
use Rattle.qasm_lexer.specs.Characters.{is_digit_in, is_quote}
use Rattle.qasm_lexer.specs.Spelling.{Decimal, radix, IsPrefix, is_numeral, IsNameLike, IsWhole, IsVersion, IsDecimal, Spells, SpellsDecimal, AsToken, numeral_value}
use Rattle.qasm_lexer.specs.declared.token.TokenKind.{TokenKind}
use Rattle.qasm_lexer.specs.declared.token.TokenKind.TheVariants.{Name, Word, Whole, Text, Version, Hardware, Mark as MarkKind}
use Rattle.qasm_lexer.proofs.Passing.{and_first, and_second}
use Rattle.qasm_lexer.proofs.Numerals.{cons_head, cons_tail}
use Rattle.qasm_lexer.proofs.Starts.{Start, AtLetter, AtDigit, AtPoint, AtQuote, AtDollar, AtMark, start_of, letter_start, digit_start, quote_start, dollar_start, point_start, mark_first, whole_first, version_first, word_is_name_like, decimal_start, spelled_some}
use Rattle.qasm_lexer.proofs.Fronts.{run_unique}
use Rattle.qasm_lexer.proofs.NumberLaws.{in_numeral, numeral_class, NamesBase, prefix_parts, whole_short, point_ends, exponent_ends}
use Rattle.qasm_lexer.proofs.DecimalLaws.{list_all_at, point_length}
use Rattle.qasm_lexer.proofs.WholeLaws.{same_base, not_in_numeral}
use Rattle.qasm_lexer.proofs.Apart.{word_unique, mark_unique}

abbrev pub start_kind : TokenKind → Start
start_kind Name = AtLetter
start_kind (Word w) = AtLetter
start_kind (Whole n) = AtDigit
start_kind Text = AtQuote
start_kind (Version major minor) = AtDigit
start_kind (Hardware n) = AtDollar
start_kind (MarkKind m) = AtMark

-- a token starts as its kind does
pub kind_start : (version : Bool) (c : ℕ) (cs : List ℕ) (kind : TokenKind) → Spells version (c ∷ cs) kind → start_of c ≡ start_kind kind
kind_start version c cs Name s = letter_start c s.0.0
kind_start version c cs (Word w) s = let like = subst IsNameLike (sym s) (word_is_name_like w) in letter_start c like.0
kind_start version c cs (Whole n) s = digit_start c (whole_first c cs s.0.mark s.0.digits s.0.base s.0.split s.0.marked s.0.numeral)
kind_start version c cs Text s = quote_start c (ap is_quote (cons_head s.2.split) ∙ s.2.quotes)
kind_start version c cs (Version major minor) s = digit_start c (version_first c cs major minor s.1)
kind_start version c cs (Hardware n) s = dollar_start c (cons_head s.1)
kind_start version c cs (MarkKind m) s = let first = mark_first m in ap start_of (cons_head (s ∙ first.2)) ∙ first.3

-- the value of a whole number
based_letter : (cs digits : List ℕ) (letter : ℕ) → cs ≡ 48 ∷ letter ∷ digits → NamesBase letter → is_numeral 10 cs ≡ true → ⊥
based_letter cs digits letter e names n =
    false≢true (sym (not_in_numeral letter names) ∙ and_first (in_numeral 10 letter) _ (and_second (in_numeral 10 48) _ (ap (list_all (in_numeral 10)) (sym e) ∙ numeral_class 10 cs n)))

whole_same : (cs : List ℕ) (m n : ℕ) → IsWhole cs m → IsWhole cs n → m ≡ n
whole_same cs m n a b = by_parts (prefix_parts a.base a.mark a.marked) (prefix_parts b.base b.mark b.marked)
  where
    plain : (w : ℕ) (x : IsWhole cs w) → (x.base ≡ Decimal) × (x.mark ≡ []) → (w ≡ numeral_value 10 cs) × (is_numeral 10 cs ≡ true)
    plain w x p =
        let same : cs ≡ x.digits = x.split ∙ ap (λ y. y ++ x.digits) p.1 in
        (x.value_is ∙ ap (λ y. numeral_value (radix y) x.digits) p.0 ∙ ap (numeral_value 10) (sym same), ap (is_numeral 10) same ∙ subst (λ y. is_numeral (radix y) x.digits ≡ true) p.0 x.numeral)

    by_parts : ((a.base ≡ Decimal) × (a.mark ≡ [])) ⊎ ((l : ℕ) × (a.mark ≡ 48 ∷ l ∷ []) × NamesBase l) → ((b.base ≡ Decimal) × (b.mark ≡ [])) ⊎ ((l : ℕ) × (b.mark ≡ 48 ∷ l ∷ []) × NamesBase l) → m ≡ n
    by_parts (inl p) (inl q) = (plain m a p).0 ∙ sym (plain n b q).0
    by_parts (inl p) (inr q) = absurd (based_letter cs b.digits q.0 (b.split ∙ ap (λ y. y ++ b.digits) q.1) q.2 (plain m a p).1)
    by_parts (inr p) (inl q) = absurd (based_letter cs a.digits p.0 (a.split ∙ ap (λ y. y ++ a.digits) p.1) p.2 (plain n b q).1)
    by_parts (inr p) (inr q) =
        let tails = sym (a.split ∙ ap (λ y. y ++ a.digits) p.1) ∙ (b.split ∙ ap (λ y. y ++ b.digits) q.1) in
        let bases : radix a.base ≡ radix b.base = same_base a.base b.base p.0 q.0 (subst (IsPrefix a.base) p.1 a.marked) (subst (IsPrefix b.base) q.1 b.marked) (cons_head (cons_tail tails)) in
        a.value_is ∙ ap (λ r. numeral_value r a.digits) bases ∙ ap (numeral_value (radix b.base)) (cons_tail (cons_tail tails)) ∙ sym b.value_is

version_same : (cs : List ℕ) (a b : ℕ) (c d : Option ℕ) → IsVersion cs a c → IsVersion cs b d → Version a c ≡ Version b d
version_same cs a b None None x y = ap (λ n. Version n None) (x.1 ∙ sym y.1)
version_same cs a b None (Some d) x y = absurd (false≢true (list_all_at (is_digit_in 10) y.0 46 y.1 (ap (list_all (is_digit_in 10)) (sym y.2) ∙ x.0.each)))
version_same cs a b (Some c) None x y = absurd (false≢true (list_all_at (is_digit_in 10) x.0 46 x.1 (ap (list_all (is_digit_in 10)) (sym x.2) ∙ y.0.each)))
version_same cs a b (Some c) (Some d) x y =
    let same = run_unique (is_digit_in 10) x.0 (46 ∷ x.1) y.0 (46 ∷ y.1) (sym x.2 ∙ y.2) refl refl x.3.each y.3.each in
    ap (λ n. Version n (Some c)) (x.5 ∙ ap (digits_value 10) same.0 ∙ sym y.5) ∙ ap (λ n. Version b (Some n)) (x.6 ∙ ap (digits_value 10) (cons_tail same.1) ∙ sym y.6)

starts_apart : (a b : Start) → a ≡ b → (a ≡ b → ⊥) → ⊥
starts_apart a b e h = h e

pub kind_unique : (version : Bool) (cs : List ℕ) (a b : TokenKind) → Spells version cs a → Spells version cs b → start_kind a ≡ start_kind b → a ≡ b
kind_unique version cs Name Name s t e = refl
kind_unique version cs Name (Word w) s t e = absurd (s.1 (w, t))
kind_unique version cs (Word w) Name s t e = absurd (t.1 (w, s))
kind_unique version cs (Word w) (Word x) s t e = ap Word (word_unique w x (sym s ∙ t))
kind_unique version cs (Whole m) (Whole n) s t e = ap Whole (whole_same cs m n s.0 t.0)
kind_unique version cs (Whole m) (Version a b) s t e = absurd (s.1 t.0 a b t.1)
kind_unique version cs (Version a b) (Whole m) s t e = absurd (t.1 s.0 a b s.1)
kind_unique version cs (Version a b) (Version c d) s t e = version_same cs a c b d s.1 t.1
kind_unique version cs Text Text s t e = refl
kind_unique version cs (Hardware m) (Hardware n) s t e = ap Hardware (s.3 ∙ ap (digits_value 10) (cons_tail (sym s.1 ∙ t.1)) ∙ sym t.3)
kind_unique version cs (MarkKind m) (MarkKind n) s t e = ap MarkKind (mark_unique m n (sym s ∙ t))
kind_unique version cs _ _ s t e = cc

pub kinds_same : (version : Bool) (cs : List ℕ) (a b : TokenKind) → Spells version cs a → Spells version cs b → a ≡ b
kinds_same version [] a b s t = absurd (spelled_some version (AsToken a s))
kinds_same version (c ∷ cs) a b s t = kind_unique version (c ∷ cs) a b s t (sym (kind_start version c cs a s) ∙ kind_start version c cs b t)

whole_no_decimal : (cs : List ℕ) (n : ℕ) → IsWhole cs n → IsDecimal cs → ⊥
whole_no_decimal cs n w (inl p) =
    let short = whole_short cs p.front (p.back ++ p.exponent) cs [] 46 n (p.split ∙ append_assoc p.front (46 ∷ p.back) p.exponent) p.front_digits point_ends w (sym (append-nil cs)) in
    omega (arith, short, ap length p.split, point_length p.front p.back p.exponent)
whole_no_decimal cs n w (inr s) =
    let short = whole_short cs s.front (s.scale.sign ++ s.scale.digits) cs [] s.scale.letter n (s.split ∙ ap (λ x. s.front ++ x) s.scale.split) s.front_digits.each (exponent_ends s.scale.letter s.scale.is_letter) w (sym (append-nil cs)) in
    omega (arith, short, ap length s.split, length-append s.front s.exponent, ap length s.scale.split)

kind_decimal_at : (version : Bool) (c : ℕ) (cs : List ℕ) (kind : TokenKind) → Spells version (c ∷ cs) kind → SpellsDecimal version (c ∷ cs) → (start_kind kind ≡ AtPoint) ⊎ (start_kind kind ≡ AtDigit) → ⊥
kind_decimal_at version c cs (Whole n) s d e = whole_no_decimal (c ∷ cs) n s.0 d.0
kind_decimal_at version c cs (Version a b) s d e = d.1 s.0 a b s.1
kind_decimal_at version c cs _ s d e = ⊎_elim (λ h. cc) (λ h. cc) e

-- no token is a decimal too
pub kind_no_decimal : (version : Bool) (cs : List ℕ) (kind : TokenKind) → Spells version cs kind → SpellsDecimal version cs → ⊥
kind_no_decimal version [] kind s d = spelled_some version (AsToken kind s)
kind_no_decimal version (c ∷ cs) kind s d =
    kind_decimal_at version c cs kind s d
    (⊎_elim (λ (h : c ≡ 46). inl (sym (kind_start version c cs kind s) ∙ point_start c h)) (λ (h : is_digit_in 10 c ≡ true). inr (sym (kind_start version c cs kind s) ∙ digit_start c h)) (decimal_start c cs d.0))
