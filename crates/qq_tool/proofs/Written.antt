-- Parts of the grammar that some pieces are, in whatever text these are written.
use Rattle.std.proofs.Common.{◌≡◌, ℕ, zero, suc, Bool, true, cond, List, [], ◌∷◌, ◌++◌, Option, Some, None, inl, inr, refl, sym, ap, ◌∙◌, append-nil}
use Rattle.std.specs.Prelude.{◌==◌}
use Rattle.std.proofs.lemmas.Bool.{eq-eqb}
use Rattle.qasm_lexer.specs.declared.token.Token.{Token}
use Rattle.qasm_lexer.specs.declared.token.TokenKind.{TokenKind}
use Rattle.qasm_lexer.specs.declared.token.TokenKind.TheVariants as t
use Rattle.qasm_lexer.specs.declared.token.Keyword.{Keyword}
use Rattle.qasm_lexer.specs.declared.token.Keyword.TheVariants as k
use Rattle.qasm_lexer.specs.declared.token.Mark.{Mark}
use Rattle.qasm_lexer.specs.declared.token.Mark.TheVariants as m
use Rattle.qasm_lexer.specs.Sizes.{bytes_of}
use Rattle.qasm_ast.specs.declared.expr.Base.TheVariants as b
use Rattle.qasm_ast.specs.Tree.{number, position}
use Rattle.grammar_parts.specs.Part.{Part, nothing, one, then, either, many, repeated}
use Rattle.grammar_parts.specs.Kinds.{is_some, marked, picked, found_in, with_token, is_item, entry, entries}
use Rattle.qasm_expr.specs.TokenKinds.{keyword_kind, mark_kind, bits_of, kind_of, kind}
use Rattle.qasm_expr.specs.Grammar.{Rows, operators, sized_types, Counted, comma, literal_at, literal_of, name_at, name_of, link, level, binary, unary, expr, index, width}
use Rattle.qasm_grammar.specs.Parts.{keyword, symbol, ended, name, included_at, included, is_stdgates, version_at, version_of, inner, target, operand, inside}
use Rattle.qasm_lexer.specs.Pieces.{Piece, AreWritten}
use Rattle.qq_tool.proofs.ThinPieces.{tight, spaced, at_end, mark_piece, word_piece, type_piece, name_piece, number_piece, version_piece, file_piece, ending, bracket_pieces, place_pieces}

-- wherever these pieces are written, their tokens are this part
pub record IsPart {A : Type 0} (text : List ℕ) (p : Part Token A) (ps : List Piece) : Type 0 where
  pub holds : (ts : List Token) → AreWritten text ts ps → (a : A) × p.derives ts a

-- ---- parts behind parts

record Split (text : List ℕ) (ts : List Token) (ps qs : List Piece) : Type 0 where
  pub front : List Token
  pub behind : List Token
  pub whole : ts ≡ front ++ behind
  pub first : AreWritten text front ps
  pub second : AreWritten text behind qs

split : (text : List ℕ) (ts : List Token) (ps qs : List Piece) → AreWritten text ts (ps ++ qs) → Split text ts ps qs
split text ts [] qs w = record { front = []; behind = ts; whole = refl; first = tt; second = w }
split text [] (p ∷ ps) qs w = absurd w
split text (t ∷ ts) (p ∷ ps) qs w =
    let s = split text ts ps qs w.2 in
    record { front = t ∷ s.front; behind = s.behind; whole = ap (λ (rest : List Token). t ∷ rest) s.whole; first = (w.0, w.1, s.first); second = s.second }

pub then_part : {A B : Type 0} {text : List ℕ} {p : Part Token A} {q : A → Part Token B} {ps qs : List Piece} → IsPart text p ps → ((a : A) → IsPart text (q a) qs) → IsPart text (then p q) (ps ++ qs)
then_part {text = text} {ps = ps} {qs = qs} first others = record {
  holds = λ ts w.
      let s = split text ts ps qs w in
      let d = first.holds s.front s.first in
      let e = (others d.0).holds s.behind s.second in
      (e.0, (s.front, s.behind, d.0, s.whole, d.1, e.1));
}

pub nothing_part : {A : Type 0} {text : List ℕ} (a : A) → IsPart text (nothing a) []
nothing_part {text = text} a = record { holds = λ ts w. (a, (none ts w, refl)) }
  where
    none : (ts : List Token) → AreWritten text ts [] → ts ≡ []
    none [] w = refl
    none (t ∷ ts) w = absurd w

pub first_part : {A : Type 0} {text : List ℕ} {p q : Part Token A} {ps : List Piece} → IsPart text p ps → IsPart text (either p q) ps
first_part part = record { holds = λ ts w. let d = part.holds ts w in (d.0, inl d.1) }

pub second_part : {A : Type 0} {text : List ℕ} {p q : Part Token A} {ps : List Piece} → IsPart text q ps → IsPart text (either p q) ps
second_part part = record { holds = λ ts w. let d = part.holds ts w in (d.0, inr d.1) }

-- ---- one token

pub one_part : {A : Type 0} {text : List ℕ} (test : Token → Option A) (p : Piece) → ((x : Token) → x.kind ≡ p.kind → bytes_of text x ≡ p.spelling → (a : A) × (test x ≡ Some a)) → IsPart text (one test) (p ∷ [])
one_part {A} {text = text} test p passes = record { holds = alone }
  where
    alone : (ts : List Token) → AreWritten text ts (p ∷ []) → (a : A) × (one test).derives ts a
    alone [] w = absurd w
    alone (x ∷ []) w = let d = passes x w.0 w.1 in (d.0, (x, refl, d.1))
    alone (x ∷ y ∷ ts) w = absurd w.2

marked_at : (wanted found : ℕ) (x : Token) → found ≡ wanted → cond (found == wanted) (Some x) None ≡ Some x
marked_at wanted found x e = ap (λ (b : Bool). cond b (Some x) None) (eq-eqb found wanted e)

-- a token of the kind that a sign asks for
sign_is : (text : List ℕ) (wanted : ℕ) (is : TokenKind) (x : Token) → x.kind ≡ is → kind_of (is_some (bits_of (bytes_of text x))) is ≡ wanted → marked (kind text) wanted x ≡ Some x
sign_is text wanted is x e same = marked_at wanted (kind text x) x (ap (kind_of (is_some (bits_of (bytes_of text x)))) e ∙ same)

pub mark_part : {text : List ℕ} (y : Mark) (blanks : List ℕ) → IsPart text (symbol text y) (mark_piece y blanks ∷ [])
mark_part {text = text} y blanks = one_part (marked (kind text) (mark_kind y)) (mark_piece y blanks) (λ x e s. (x, sign_is text (mark_kind y) (t.Mark y) x e refl))

pub word_part : {text : List ℕ} (w : Keyword) → IsPart text (keyword text w) (word_piece w ∷ [])
word_part {text = text} w = one_part (marked (kind text) (keyword_kind w)) (word_piece w) (λ x e s. (x, sign_is text (keyword_kind w) (t.Word w) x e refl))

pub type_part : {text : List ℕ} (w : Keyword) → IsPart text (keyword text w) (type_piece w ∷ [])
type_part {text = text} w = one_part (marked (kind text) (keyword_kind w)) (type_piece w) (λ x e s. (x, sign_is text (keyword_kind w) (t.Word w) x e refl))

pub name_of_part : {text : List ℕ} (name blanks : List ℕ) → IsPart text (one (name_of text)) (name_piece name blanks ∷ [])
name_of_part {text = text} name blanks = one_part (name_of text) (name_piece name blanks) (λ x e s. ((bytes_of text x, x.at), ap (name_at text x) e))

literal_part : {text : List ℕ} (n : ℕ) → IsPart text (one (literal_of text)) (number_piece n ∷ [])
literal_part {text = text} n = one_part (literal_of text) (number_piece n) (λ x e s. (number n x.at, ap (literal_at text x) e))

pub version_part : {text : List ℕ} → IsPart text (one version_of) (version_piece ∷ [])
version_part = one_part version_of version_piece (λ x e s. (x, ap (version_at x) e))

pub file_part : {text : List ℕ} → IsPart text (one (included text)) (file_piece ∷ [])
file_part {text = text} = one_part (included text) file_piece (λ x e s. (x, ap (included_at text x) e ∙ ap (λ (cs : List ℕ). cond (is_stdgates cs) (Some x) None) s))

pub bit_part : {text : List ℕ} → IsPart text (one (picked (kind text) sized_types)) (type_piece k.Bit ∷ [])
bit_part {text = text} = one_part (picked (kind text) sized_types) (type_piece k.Bit) (λ x e s. ((b.Bit, x), ap (λ (is : TokenKind). with_token x (found_in sized_types (kind_of (is_some (bits_of (bytes_of text x))) is))) e))

-- ---- a value made of a part's value, and parts in a row

pub map_part : {A B : Type 0} {text : List ℕ} {p : Part Token A} {f : A → B} {ps : List Piece} → IsPart text p ps → IsPart text (then p (λ a. nothing (f a))) ps
map_part {f = f} part = record { holds = λ ts w. let d = part.holds ts w in (f d.0, (ts, [], d.0, sym (append-nil ts), d.1, (refl, refl))) }

pub none_part : {S A : Type 0} {text : List ℕ} (p : S → Part Token A) (next : S → A → S) (s : S) → IsPart text (many p next s) []
none_part {text = text} p next s = record { holds = λ ts w. ([], none ts w) }
  where
    none : (ts : List Token) → AreWritten text ts [] → ts ≡ []
    none [] w = refl
    none (t ∷ ts) w = absurd w

pub more_part : {A : Type 0} {text : List ℕ} {p : Part Token A} {ps qs : List Piece} → IsPart text p ps → IsPart text (repeated p) qs → IsPart text (repeated p) (ps ++ qs)
more_part {text = text} {ps = ps} {qs = qs} first others = record {
  holds = λ ts w.
      let s = split text ts ps qs w in
      let d = first.holds s.front s.first in
      let e = others.holds s.behind s.second in
      (d.0 ∷ e.0, (s.front, s.behind, s.whole, d.1, e.1));
}

pub once_part : {A : Type 0} {text : List ℕ} {p : Part Token A} {ps : List Piece} → IsPart text p ps → IsPart text (repeated p) ps
once_part part = record { holds = λ ts w. let d = part.holds ts w in (d.0 ∷ [], (ts, [], sym (append-nil ts), d.1, refl)) }

-- a comma and one more item end a list
pub comma_part : {A : Type 0} {text : List ℕ} {item : Part Token A} {ps : List Piece} → IsPart text item ps → IsPart text (entries (kind text) comma item true) (mark_piece m.Comma spaced ∷ ps)
comma_part {A} {text} {item} {ps} part = record { holds = last }
  where
    last : (ts : List Token) → AreWritten text ts (mark_piece m.Comma spaced ∷ ps) → (a : List (Option A)) × (entries (kind text) comma item true).derives ts a
    last [] w = absurd w
    last (x ∷ ts) w =
        let d = part.holds ts w.2 in
        let e : marked (kind text) comma x ≡ Some x = sign_is text comma (t.Mark m.Comma) x w.0 refl in (
          None ∷ Some d.0 ∷ [],
          (
            x ∷ [],
            ts,
            refl,
            (x ∷ [], [], x, refl, (x, refl, e), (refl, refl)),
            (ts, [], sym (append-nil ts), (ts, [], d.0, sym (append-nil ts), d.1, (refl, refl)), refl),
          ),
        )

-- ---- numbers

level_part : {text : List ℕ} {p : Piece} (limit : Option ℕ) (rows : Rows) (item : ℕ → Part Token Counted) (used : ℕ) → IsPart text (item used) (p ∷ []) → IsPart text (level text limit rows item used) (p ∷ [])
level_part {text = text} limit rows item used part = then_part part (λ first. map_part (none_part (link text limit rows item) (λ s l. l.used) first.1))

binary_part : {text : List ℕ} {p : Piece} (limit : Option ℕ) (rows : List Rows) (item : ℕ → Part Token Counted) (used : ℕ) → IsPart text (item used) (p ∷ []) → IsPart text (binary text limit rows item used) (p ∷ [])
binary_part limit [] item used part = part
binary_part {text = text} limit (row ∷ rows) item used part = level_part limit row (binary text limit rows item) used (binary_part limit rows item used part)

unary_part : {text : List ℕ} (limit : Option ℕ) (room used n : ℕ) → IsPart text (unary text limit room used) (number_piece n ∷ [])
unfolding unary
unary_part limit zero used n = second_part (then_part (first_part (literal_part n)) (λ base. second_part (nothing_part (base, used))))
unary_part limit (suc zero) used n = second_part (then_part (first_part (literal_part n)) (λ base. second_part (nothing_part (base, used))))
unary_part limit (suc (suc room)) used n = second_part (then_part (first_part (literal_part n)) (λ base. second_part (nothing_part (base, used))))

pub number_part : {text : List ℕ} (limit : Option ℕ) (room n : ℕ) → IsPart text (expr text limit room) (number_piece n ∷ [])
number_part {text = text} limit room n = map_part (binary_part limit operators (unary text limit room) 0 (unary_part limit room 0 n))

-- ---- numbers in brackets

pub width_part : {text : List ℕ} (limit : Option ℕ) (room n : ℕ) → IsPart text (width text (suc room) (inner text limit (suc room))) (bracket_pieces n spaced)
width_part limit room n = then_part (mark_part m.LeftBracket tight) (λ o. then_part (number_part limit room n) (λ e. map_part (mark_part m.RightBracket spaced)))

pub index_part : {text : List ℕ} (limit : Option ℕ) (room n : ℕ) (blanks : List ℕ) → IsPart text (index text (suc room) (inside text limit (suc room))) (bracket_pieces n blanks)
index_part limit room n blanks =
    then_part (mark_part m.LeftBracket tight) (λ o. then_part (second_part (second_part (then_part (number_part limit room n) (λ e. second_part (nothing_part (position e)))))) (λ i. map_part (mark_part m.RightBracket blanks)))

pub target_part : {text : List ℕ} (limit : Option ℕ) (room : ℕ) (register : List ℕ) (n : ℕ) (blanks : List ℕ) → IsPart text (target text limit (suc room)) (place_pieces register n blanks)
target_part limit room register n blanks = then_part (name_of_part register tight) (λ x. map_part (once_part (index_part limit room n blanks)))

pub operand_part : {text : List ℕ} (limit : Option ℕ) (room : ℕ) (register : List ℕ) (n : ℕ) (blanks : List ℕ) → IsPart text (operand text limit (suc room)) (place_pieces register n blanks)
operand_part limit room register n blanks = first_part (target_part limit room register n blanks)

-- ---- names and ends

pub name_part : {text : List ℕ} (register blanks : List ℕ) → IsPart text (name text) (name_piece register blanks ∷ [])
name_part register blanks = map_part (name_of_part register blanks)

pub ended_part : {A : Type 0} {text : List ℕ} (a : A) → IsPart text (ended text a) ending
ended_part a = map_part (mark_part m.Semicolon at_end)

-- a list that ends behind its first item
pub alone_part : {A : Type 0} {text : List ℕ} (item : Part Token A) → IsPart text (entries (kind text) comma item true) []
alone_part {text = text} item = none_part (entry (kind text) comma item) (λ s a. is_item a) true
