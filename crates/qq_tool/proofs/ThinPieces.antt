-- The pieces of a thin text: each token with the blanks behind it.
use Rattle.std.proofs.Common.{◌≡◌, ℕ, List, [], ◌∷◌, ◌++◌, Some, refl, sym, ap, ◌∙◌, append_assoc}
use Rattle.std.specs.Prelude.{codes}
use Rattle.std.specs.Fmt.{decimal}
use Rattle.std.specs.List.{flat_map}
use Rattle.qasm_lexer.specs.Tables.{word_spelling, mark_spelling}
use Rattle.qasm_lexer.specs.declared.token.TokenKind.TheVariants as t
use Rattle.qasm_lexer.specs.declared.token.Keyword.{Keyword}
use Rattle.qasm_lexer.specs.declared.token.Keyword.TheVariants as k
use Rattle.qasm_lexer.specs.declared.token.Mark.{Mark}
use Rattle.qasm_lexer.specs.declared.token.Mark.TheVariants as m
use Rattle.qir_module.specs.Text.{line}
use Rattle.qq_tool.specs.declared.thin.ThinLine.{ThinLine}
use Rattle.qq_tool.specs.declared.thin.ThinLine.TheVariants.{Hadamard, Not, ControlledNot, Measure}
use Rattle.qq_tool.specs.Thin.{Thin, qubit_text, line_text, header_text, thin_text}
use Rattle.qasm_lexer.specs.Pieces.{Piece, text_of}

-- ---- single pieces

abbrev pub tight : List ℕ
tight = []

abbrev pub spaced : List ℕ
spaced = codes " "

-- a mark at the end of a line
abbrev pub at_end : List ℕ
at_end = 10 ∷ []

abbrev pub mark_piece : Mark → List ℕ → Piece
mark_piece y blanks = record { kind = t.Mark y; spelling = mark_spelling y; blanks = blanks }

abbrev pub word_piece : Keyword → Piece
word_piece w = record { kind = t.Word w; spelling = word_spelling w; blanks = spaced }

-- a type's word, right before its width
abbrev pub type_piece : Keyword → Piece
type_piece w = record { kind = t.Word w; spelling = word_spelling w; blanks = tight }

abbrev pub name_piece : List ℕ → List ℕ → Piece
name_piece name blanks = record { kind = t.Name; spelling = name; blanks = blanks }

abbrev pub number_piece : ℕ → Piece
number_piece n = record { kind = t.Whole n; spelling = decimal n; blanks = tight }

abbrev pub version_piece : Piece
version_piece = record { kind = t.Version 3 (Some 0); spelling = codes "3.0"; blanks = tight }

abbrev pub file_piece : Piece
file_piece = record { kind = t.Text; spelling = codes "\"stdgates.inc\""; blanks = tight }

-- ---- lines

abbrev pub ending : List Piece
ending = mark_piece m.Semicolon at_end ∷ []

-- a number in square brackets
abbrev pub bracket_pieces : ℕ → List ℕ → List Piece
bracket_pieces n blanks = mark_piece m.LeftBracket tight ∷ number_piece n ∷ mark_piece m.RightBracket blanks ∷ []

abbrev pub place_pieces : List ℕ → ℕ → List ℕ → List Piece
place_pieces register n blanks = name_piece register tight ∷ bracket_pieces n blanks

abbrev pub gate_pieces : List ℕ → ℕ → List Piece
gate_pieces gate qubit = name_piece gate spaced ∷ (place_pieces (codes "q") qubit tight ++ ending)

abbrev pub line_pieces : ThinLine → List Piece
line_pieces (Hadamard qubit) = gate_pieces (codes "h") qubit
line_pieces (Not qubit) = gate_pieces (codes "x") qubit
line_pieces (ControlledNot control target) = name_piece (codes "cx") spaced ∷ (place_pieces (codes "q") control tight ++ (mark_piece m.Comma spaced ∷ (place_pieces (codes "q") target tight ++ ending)))
line_pieces (Measure qubit bit) = place_pieces (codes "c") bit spaced ++ (mark_piece m.Assign spaced ∷ word_piece k.Measure ∷ (place_pieces (codes "q") qubit tight ++ ending))

abbrev pub version_pieces : List Piece
version_pieces = word_piece k.OpenQasm ∷ version_piece ∷ ending

abbrev pub include_pieces : List Piece
include_pieces = word_piece k.Include ∷ file_piece ∷ ending

abbrev pub register_pieces : Keyword → ℕ → List ℕ → List Piece
register_pieces type size register = type_piece type ∷ (bracket_pieces size spaced ++ (name_piece register tight ∷ ending))

-- the statements behind the version
abbrev pub statement_pieces : Thin → List Piece
statement_pieces p = include_pieces ++ (register_pieces k.Qubit p.qubits (codes "q") ++ (register_pieces k.Bit p.bits (codes "c") ++ flat_map line_pieces p.lines))

abbrev pub pieces_of : Thin → List Piece
pieces_of p = version_pieces ++ statement_pieces p

-- ---- their text

nested : (a b c d e f g : List ℕ) → ((((((a ++ b) ++ c) ++ d) ++ e) ++ f) ++ g) ≡ a ++ (b ++ (c ++ (d ++ (e ++ (f ++ g)))))
nested a b c d e f g = simp append_assoc refl

text_of_line : (l : ThinLine) (rest : List Piece) → text_of (line_pieces l ++ rest) ≡ line_text l ++ text_of rest
text_of_line (Hadamard qubit) rest = simp append_assoc refl
text_of_line (Not qubit) rest = simp append_assoc refl
text_of_line (ControlledNot control target) rest =
    ap (λ (t : List ℕ). codes "cx q[" ++ (decimal control ++ (codes "], q[" ++ t))) (sym (append_assoc (decimal target) (codes "]") (59 ∷ 10 ∷ text_of rest)))
    ∙ ap (λ (t : List ℕ). codes "cx q[" ++ t) (sym (nested (decimal control) (codes "]") (codes ", ") (qubit_text target) (codes ";") (10 ∷ []) (text_of rest)))
text_of_line (Measure qubit bit) rest =
    ap (λ (t : List ℕ). codes "c[" ++ (decimal bit ++ (codes "] = measure q[" ++ t))) (sym (append_assoc (decimal qubit) (codes "]") (59 ∷ 10 ∷ text_of rest)))
    ∙ ap (λ (t : List ℕ). codes "c[" ++ t) (sym (nested (decimal bit) (codes "]") (codes " = measure ") (qubit_text qubit) (codes ";") (10 ∷ []) (text_of rest)))

text_of_lines : (ls : List ThinLine) → text_of (flat_map line_pieces ls) ≡ flat_map line_text ls
text_of_lines [] = refl
text_of_lines (l ∷ ls) = text_of_line l (flat_map line_pieces ls) ∙ ap (λ (rest : List ℕ). line_text l ++ rest) (text_of_lines ls)

-- the text of a register's line
sized : (size : ℕ) (behind : List ℕ) (rest : List ℕ) → ((decimal size ++ behind) ++ 10 ∷ []) ++ rest ≡ decimal size ++ (behind ++ 10 ∷ rest)
sized size behind rest = append_assoc (decimal size ++ behind) (10 ∷ []) rest ∙ append_assoc (decimal size) behind (10 ∷ rest)

text_of_header : (qubits bits : ℕ) (rest : List Piece) → text_of (version_pieces ++ (include_pieces ++ (register_pieces k.Qubit qubits (codes "q") ++ (register_pieces k.Bit bits (codes "c") ++ rest)))) ≡ header_text qubits bits ++ text_of rest
text_of_header qubits bits rest =
    let front = line (codes "OPENQASM 3.0;") ++ line (codes "include \"stdgates.inc\";") in
    let first = line (codes "qubit[" ++ decimal qubits ++ codes "] q;") in
    let second = line (codes "bit[" ++ decimal bits ++ codes "] c;") in
    ap (λ (t : List ℕ). front ++ (codes "qubit[" ++ (decimal qubits ++ (codes "] q;" ++ 10 ∷ (codes "bit[" ++ t))))) (sym (sized bits (codes "] c;") (text_of rest)))
    ∙ ap (λ (t : List ℕ). front ++ (codes "qubit[" ++ t)) (sym (sized qubits (codes "] q;") (second ++ text_of rest)))
    ∙ sym (append_assoc (front ++ first) second (text_of rest) ∙ append_assoc front first (second ++ text_of rest))

pub text_of_pieces : (p : Thin) → text_of (pieces_of p) ≡ thin_text p
text_of_pieces p = text_of_header p.qubits p.bits (flat_map line_pieces p.lines) ∙ ap (λ (rest : List ℕ). header_text p.qubits p.bits ++ rest) (text_of_lines p.lines)
