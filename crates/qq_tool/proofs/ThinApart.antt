-- The pieces of a thin text stand apart.
use Rattle.std.proofs.Common.{◌≡◌, ℕ, suc, ◌||◌, ◌==◌, subst, length-append, ◌<◌, ◌≤◌, Bool, true, false, ltb, List, [], ◌∷◌, ◌++◌, length, Some, inl, inr, refl, sym, ap, ◌∙◌, arith}
use Rattle.std.specs.Prelude.{codes, IsTrue, ◌^◌}
use Rattle.std.specs.Fmt.{decimal}
use Rattle.std.specs.Int.{IsInRange}
use Rattle.std.specs.List.{list_all, flat_map, AllByRecursion}
use Rattle.std.proofs.lemmas.Bool.{false≢true}
use Rattle.std.proofs.lemmas.Bool.Decides.{nat_tests}
use Rattle.std.proofs.lemmas.List.Sums.{length-filter, count_by-le-length}
use Rattle.std.proofs.lemmas.Fmt.{digits_decimal, digits_value-decimal, decimal_nonempty}
use Rattle.qasm_lexer.specs.Characters.{is_blank, is_digit_in, continues_name}
use Rattle.qasm_lexer.specs.Spelling.{IsNameLike, IsWord, IsWhole, Decimal, IsTooLarge}
use Rattle.qasm_lexer.specs.Scan.{StopsAt}
use Rattle.qasm_lexer.specs.Tokens.{opens_version}
use Rattle.qasm_lexer.specs.Tables.{word_spelling, mark_spelling}
use Rattle.qasm_lexer.specs.declared.token.TokenKind.TheVariants as t
use Rattle.qasm_lexer.specs.declared.token.Keyword.{Keyword}
use Rattle.qasm_lexer.specs.declared.token.Keyword.TheVariants as k
use Rattle.qasm_lexer.specs.declared.token.Mark.{Mark}
use Rattle.qasm_lexer.specs.declared.token.Mark.TheVariants as m
use Rattle.qasm_lexer.proofs.Passing.{and_first, and_second, and_true}
use Rattle.qasm_lexer.proofs.WholeLaws.{digits_numeral}
use Rattle.qasm_lexer.proofs.NumberFinds.{digits_number}
use Rattle.qasm_grammar.specs.Parts.{same}
use Rattle.qq_tool.specs.declared.thin.ThinLine.{ThinLine}
use Rattle.qq_tool.specs.declared.thin.ThinLine.TheVariants.{Hadamard, Not, ControlledNot, Measure}
use Rattle.qq_tool.specs.Thin.{Thin, IsThin, IsWithin}
use Rattle.qasm_lexer.specs.Pieces.{Piece, text_of, continues_mark, Stands, AreApart}
use Rattle.qq_tool.proofs.Numbers.{AreDigits as HasDigits, by_index}
use Rattle.qq_tool.proofs.ThinPieces.{tight, spaced, at_end, mark_piece, word_piece, type_piece, name_piece, number_piece, version_piece, file_piece, bracket_pieces, place_pieces, ending, line_pieces, register_pieces, statement_pieces, pieces_of}

-- ---- digits

digit_passes : (c : ℕ) → IsInRange 48 57 c → is_digit_in 10 c ≡ true
digit_passes c range = grind (arith, nat_tests)

digit_stops : (c : ℕ) → IsInRange 48 57 c → continues_mark c ≡ false
digit_stops c range = grind (arith, nat_tests)

digits_pass : (ds : List ℕ) → HasDigits ds → list_all (is_digit_in 10) ds ≡ true
digits_pass [] digits = refl
digits_pass (d ∷ ds) digits = and_true (digit_passes d (digits 0 (omega arith))) (digits_pass ds (λ i lt. digits (suc i) (omega (arith, lt))))

digits_ascii : (ds : List ℕ) → HasDigits ds → AllByRecursion (λ c. c < 128) ds
digits_ascii [] digits = tt
digits_ascii (d ∷ ds) digits = let first = digits 0 (omega arith) in (omega (arith, first), digits_ascii ds (λ i lt. digits (suc i) (omega (arith, lt))))

digits_stop : (ds behind : List ℕ) → 0 < length ds → HasDigits ds → StopsAt continues_mark (ds ++ behind)
digits_stop [] behind some digits = absurd (omega (arith, some))
digits_stop (d ∷ ds) behind some digits = digit_stops d (digits 0 (omega arith))

-- ---- small numbers

small_wide : (n : ℕ) → n < 10000 → n < 2 ^ 64
small_wide n small = omega (arith, small)

number_digits : (n : ℕ) → n < 10000 → HasDigits (decimal n)
number_digits n small = digits_decimal by_index n (small_wide n small)

number_some : (n : ℕ) → n < 10000 → 0 < length (decimal n)
number_some n small = decimal_nonempty n (small_wide n small)

number_all : (n : ℕ) → n < 10000 → list_all (is_digit_in 10) (decimal n) ≡ true
number_all n small = digits_pass (decimal n) (number_digits n small)

number_whole : (n : ℕ) → n < 10000 → IsWhole (decimal n) n
number_whole n small = record {
  base = Decimal;
  mark = [];
  digits = decimal n;
  split = refl;
  marked = refl;
  numeral = digits_numeral (decimal n) (record { some = number_some n small; each = number_all n small });
  value_is = sym (digits_number (decimal n) (number_all n small) ∙ digits_value-decimal by_index n (small_wide n small));
}

number_stands : (n : ℕ) (behind : List ℕ) → n < 10000 → StopsAt (λ c. continues_name c || (c == 46)) behind → Stands false (number_piece n) behind
number_stands n behind small ends = record {
  ascii = digits_ascii (decimal n) (number_digits n small);
  blank = refl;
  plain = record { some = number_some n small; each = number_all n small };
  spells = (number_whole n small, λ version. absurd cc);
  fits = λ large. absurd (omega (arith, small, large));
  ends = ends;
}

-- ---- marks and words

below : (c : ℕ) → ltb c 128 ≡ true → c < 128
below c h = grind (arith, nat_tests)

all_below : (cs : List ℕ) → list_all (λ c. ltb c 128) cs ≡ true → AllByRecursion (λ c. c < 128) cs
all_below [] each = tt
all_below (c ∷ cs) each = (below c (and_first (ltb c 128) _ each), all_below cs (and_second (ltb c 128) _ each))

mark_stands : (y : Mark) (blanks behind : List ℕ) → list_all (λ c. ltb c 128) (mark_spelling y) ≡ true → IsTrue (list_all is_blank blanks) → StopsAt continues_mark (blanks ++ behind) → Stands false (mark_piece y blanks) behind
mark_stands y blanks behind each blank ends = record { ascii = all_below (mark_spelling y) each; blank = blank; plain = tt; spells = refl; fits = λ large. large; ends = ends }

word_stands : (w : Keyword) (behind : List ℕ) → list_all (λ c. ltb c 128) (word_spelling w) ≡ true → Stands false (word_piece w) behind
word_stands w behind each = record { ascii = all_below (word_spelling w) each; blank = refl; plain = tt; spells = refl; fits = λ large. large; ends = refl }

type_stands : (w : Keyword) (behind : List ℕ) → list_all (λ c. ltb c 128) (word_spelling w) ≡ true → StopsAt continues_name behind → Stands false (type_piece w) behind
type_stands w behind each ends = record { ascii = all_below (word_spelling w) each; blank = refl; plain = tt; spells = refl; fits = λ large. large; ends = ends }

-- ---- names, the file and the version

-- the names of registers and gates
abbrev is_own : List ℕ → Bool
is_own cs = same cs (codes "q") || (same cs (codes "c") || (same cs (codes "h") || (same cs (codes "x") || same cs (codes "cx"))))

own_no_word : (w : Keyword) → is_own (word_spelling w) ≡ false
own_no_word k.OpenQasm = refl
own_no_word _ = refl

no_word : (cs : List ℕ) → is_own cs ≡ true → ¬ IsWord cs
no_word cs own (w, e) = absurd (false≢true (sym (own_no_word w) ∙ ap is_own (sym e) ∙ own))

record IsOwnName (name : List ℕ) : Type 0 where
  pub like : IsNameLike name
  pub own : is_own name ≡ true
  pub short : length name ≤ 2
  pub each : list_all (λ c. ltb c 128) name ≡ true

own_q : IsOwnName (codes "q")
own_q = record { like = (refl, refl); own = refl; short = omega arith; each = refl }

own_c : IsOwnName (codes "c")
own_c = record { like = (refl, refl); own = refl; short = omega arith; each = refl }

own_h : IsOwnName (codes "h")
own_h = record { like = (refl, refl); own = refl; short = omega arith; each = refl }

own_x : IsOwnName (codes "x")
own_x = record { like = (refl, refl); own = refl; short = omega arith; each = refl }

own_cx : IsOwnName (codes "cx")
own_cx = record { like = (refl, refl); own = refl; short = omega arith; each = refl }

name_stands : (name blanks behind : List ℕ) → IsOwnName name → IsTrue (list_all is_blank blanks) → StopsAt continues_name (blanks ++ behind) → Stands false (name_piece name blanks) behind
name_stands name blanks behind is blank ends = record {
  ascii = all_below name is.each;
  blank = blank;
  plain = tt;
  spells = (is.like, no_word name is.own);
  fits = λ large. absurd (omega (arith, is.short, large));
  ends = ends;
}

file_fits : ¬ (IsTooLarge (codes "\"stdgates.inc\"") t.Text)
file_fits (body, bits, many) =
    absurd (omega (arith, ap length bits.split, length-append body (34 ∷ []), length-filter (is_digit_in 2) body, count_by-le-length (is_digit_in 2) body, many))

file_stands : (behind : List ℕ) → Stands false file_piece behind
file_stands behind = record {
  ascii = all_below (codes "\"stdgates.inc\"") refl;
  blank = refl;
  plain = tt;
  spells = (34, codes "stdgates.inc", record { split = refl; quotes = refl; closed = refl });
  fits = file_fits;
  ends = tt;
}

version_fits : ¬ (IsTooLarge (codes "3.0") (t.Version 3 (Some 0)))
version_fits (inl large) = absurd (omega (arith, large))
version_fits (inr large) = absurd (omega (arith, large))

version_stands : (behind : List ℕ) → StopsAt (λ c. continues_name c || (c == 46)) behind → Stands true version_piece behind
version_stands behind ends = record {
  ascii = all_below (codes "3.0") refl;
  blank = refl;
  plain = tt;
  spells = (refl, (codes "3", codes "0", refl, record { some = omega arith; each = refl }, record { some = omega arith; each = refl }, refl, refl));
  fits = version_fits;
  ends = ends;
}

-- ---- lines, one behind the other

bracket_apart : (n : ℕ) (blanks : List ℕ) (rest : List Piece) → n < 10000 → IsTrue (list_all is_blank blanks) → StopsAt continues_mark (blanks ++ text_of rest) → AreApart false rest → AreApart false (bracket_pieces n blanks ++ rest)
bracket_apart n blanks rest small blank ends apart = (
  mark_stands m.LeftBracket tight _ refl refl (digits_stop (decimal n) _ (number_some n small) (number_digits n small)),
  (number_stands n _ small refl, (mark_stands m.RightBracket blanks (text_of rest) refl blank ends, apart)),
)

ending_apart : (rest : List Piece) → AreApart false rest → AreApart false (ending ++ rest)
ending_apart rest apart = (mark_stands m.Semicolon at_end _ refl refl refl, apart)

place_apart : (name : List ℕ) (n : ℕ) (blanks : List ℕ) (rest : List Piece) → IsOwnName name → n < 10000 → IsTrue (list_all is_blank blanks) → StopsAt continues_mark (blanks ++ text_of rest) → AreApart false rest → AreApart false (place_pieces name n blanks ++ rest)
place_apart name n blanks rest is small blank ends apart = (name_stands name tight _ is refl refl, bracket_apart n blanks rest small blank ends apart)

last_apart : (n : ℕ) (rest : List Piece) → n < 10000 → AreApart false rest → AreApart false (place_pieces (codes "q") n tight ++ (ending ++ rest))
last_apart n rest small apart = place_apart (codes "q") n tight (ending ++ rest) own_q small refl refl (ending_apart rest apart)

line_apart : (qubits bits : ℕ) (l : ThinLine) (rest : List Piece) → qubits ≤ 1024 → bits ≤ 4096 → IsWithin qubits bits l → AreApart false rest → AreApart false (line_pieces l ++ rest)
line_apart qubits bits (Hadamard qubit) rest few few' within apart = (name_stands (codes "h") spaced _ own_h refl refl, last_apart qubit rest (omega (arith, within)) apart)
line_apart qubits bits (Not qubit) rest few few' within apart = (name_stands (codes "x") spaced _ own_x refl refl, last_apart qubit rest (omega (arith, within)) apart)
line_apart qubits bits (ControlledNot control target) rest few few' within apart =
    let behind = place_pieces (codes "q") target tight ++ (ending ++ rest) in
    let second : AreApart false behind = last_apart target rest (omega (arith, within.1)) apart in (
      name_stands (codes "cx") spaced _ own_cx refl refl,
      place_apart (codes "q") control tight (mark_piece m.Comma spaced ∷ behind) own_q (omega (arith, within.0)) refl refl (mark_stands m.Comma spaced _ refl refl refl, second),
    )
line_apart qubits bits (Measure qubit bit) rest few few' within apart =
    let behind = place_pieces (codes "q") qubit tight ++ (ending ++ rest) in
    let measured : AreApart false behind = last_apart qubit rest (omega (arith, within.0)) apart in
    place_apart (codes "c") bit spaced (mark_piece m.Assign spaced ∷ word_piece k.Measure ∷ behind) own_c (omega (arith, within.1)) refl refl
    (mark_stands m.Assign spaced _ refl refl refl, (word_stands k.Measure _ refl, measured))

lines_apart : (qubits bits : ℕ) (ls : List ThinLine) → qubits ≤ 1024 → bits ≤ 4096 → AllByRecursion (IsWithin qubits bits) ls → AreApart false (flat_map line_pieces ls)
lines_apart qubits bits [] few few' within = tt
lines_apart qubits bits (l ∷ ls) few few' within = line_apart qubits bits l (flat_map line_pieces ls) few few' within.0 (lines_apart qubits bits ls few few' within.1)

-- ---- the whole text

register_apart : (w : Keyword) (size : ℕ) (name : List ℕ) (rest : List Piece) → opens_version (t.Word w) ≡ false → list_all (λ c. ltb c 128) (word_spelling w) ≡ true → size < 10000 → IsOwnName name → AreApart false rest → AreApart false (register_pieces w size name ++ rest)
register_apart w size name rest plain word small is apart =
    let behind = name_piece name tight ∷ (ending ++ rest) in
    let sized : AreApart false (bracket_pieces size spaced ++ behind) = bracket_apart size spaced behind small refl refl (name_stands name tight _ is refl refl, ending_apart rest apart) in
    (type_stands w _ word refl, subst (λ (version : Bool). AreApart version (bracket_pieces size spaced ++ behind)) (sym plain) sized)

pub pieces_apart : (p : Thin) → IsThin p → AreApart false (pieces_of p)
pieces_apart p is =
    let lines : AreApart false (flat_map line_pieces p.lines) = lines_apart p.qubits p.bits p.lines is.few_qubits is.few_bits is.within in
    let few_bits : p.bits < 10000 = omega (arith, is.few_bits) in
    let few_qubits : p.qubits < 10000 = omega (arith, is.few_qubits) in
    let behind_bits = flat_map line_pieces p.lines in
    let behind_qubits = register_pieces k.Bit p.bits (codes "c") ++ behind_bits in
    let behind_file = register_pieces k.Qubit p.qubits (codes "q") ++ behind_qubits in
    let bits : AreApart false behind_qubits = register_apart k.Bit p.bits (codes "c") behind_bits refl refl few_bits own_c lines in
    let qubits : AreApart false behind_file = register_apart k.Qubit p.qubits (codes "q") behind_qubits refl refl few_qubits own_q bits in
    let statements : AreApart false (statement_pieces p) = (word_stands k.Include _ refl, (file_stands _, ending_apart behind_file qubits)) in
    (word_stands k.OpenQasm _ refl, (version_stands _ refl, ending_apart (statement_pieces p) statements))
