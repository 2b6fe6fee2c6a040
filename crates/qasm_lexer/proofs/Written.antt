-- Texts that are written token by token are read as they are written.
use Rattle.std.proofs.Common.{◌≡◌, ℕ, ◌-◌, ◌<◌, Bool, true, false, List, [], ◌∷◌, ◌++◌, length, take, drop, Option, None, Some, Result, Ok, sym, refl, ap, ◌∙◌, subst, arith, length-append, append_assoc}
use Rattle.std.specs.Prelude.{IsTrue}
use Rattle.std.specs.List.{list_all, AllByRecursion}
use Rattle.std.specs.Str.{IsAscii, IsCharBoundary}
use Rattle.std.proofs.lemmas.Bool.Decides.{nat_tests}
use Rattle.std.proofs.lemmas.List.{take_at, drop_at, append-nil}
use Rattle.std.proofs.lemmas.Str.{chars-IsAscii, IsAscii-drop, IsAscii-take, IsAscii-append, IsUtf8-from_ascii, IsCharBoundary-from_ascii}
use Rattle.std.proofs.lemmas.Str.Ascii.{IsAscii-nil, IsAscii-cons}
use Rattle.qq_base.specs.declared.refusal.Refusal.{Refusal}
use Rattle.qasm_lexer.specs.Characters.{is_blank}
use Rattle.qasm_lexer.specs.Spelling.{Spells, AsToken, IsTooLarge}
use Rattle.qasm_lexer.specs.Tokens.{Blank, Skips, rest_from, spelling_of, place_of, BeginsComment, IsLongest, IsToken, Stands as StandsAt, IsNext, Reads, Tokens, opens_version}
use Rattle.qasm_lexer.specs.Sizes.{bytes_of}
use Rattle.qasm_lexer.specs.Pieces.{Piece, text_of, EndsBefore, IsPlain, AreApart, AreWritten}
use Rattle.qasm_lexer.specs.declared.token.Token.{Token}
use Rattle.qasm_lexer.proofs.Passing.{and_first, and_second}
use Rattle.qasm_lexer.proofs.Starts.{spelled_some}
use Rattle.qasm_lexer.proofs.WrittenKinds.{piece_longest, piece_no_comment}

-- the characters are ASCII
blank_ascii : (c : ℕ) → is_blank c ≡ true → c < 128
blank_ascii c h = grind (arith, nat_tests)

blanks_ascii : (cs : List ℕ) → IsTrue (list_all is_blank cs) → IsAscii cs
blanks_ascii [] h = IsAscii-nil
blanks_ascii (c ∷ cs) h = IsAscii-cons c cs (blank_ascii c (and_first (is_blank c) _ h)) (blanks_ascii cs (and_second (is_blank c) _ h))

each_ascii : (cs : List ℕ) → AllByRecursion (λ c. c < 128) cs → IsAscii cs
each_ascii [] h = IsAscii-nil
each_ascii (c ∷ cs) h = IsAscii-cons c cs h.0 (each_ascii cs h.1)

text_ascii : (version : Bool) (pieces : List Piece) → AreApart version pieces → IsAscii (text_of pieces)
text_ascii version [] apart = IsAscii-nil
text_ascii version (p ∷ ps) apart =
    IsAscii-append p.spelling (p.blanks ++ text_of ps) (each_ascii p.spelling apart.0.ascii) (IsAscii-append p.blanks (text_of ps) (blanks_ascii p.blanks apart.0.blank) (text_ascii (opens_version p.kind) ps apart.1))

-- blanks are gaps of one character
abbrev each_alone : List ℕ → List (List ℕ)
each_alone [] = []
each_alone (c ∷ cs) = (c ∷ []) ∷ each_alone cs

blanks_skipped : (blanks rest : List ℕ) → IsTrue (list_all is_blank blanks) → Skips (each_alone blanks) (blanks ++ rest) rest
blanks_skipped [] rest h = refl
blanks_skipped (c ∷ cs) rest h =
    (cs ++ rest, refl, Blank c refl (and_first (is_blank c) _ h), blanks_skipped cs rest (and_second (is_blank c) _ h))

-- the token of a piece that stands behind the front
abbrev token_of : List ℕ → List ℕ → Piece → Token
token_of text front p = record { kind = p.kind; start = length front; end = length (front ++ p.spelling); at = place_of text (length front) }

module _ {text : List ℕ} (ascii : IsAscii text) where
  -- what stands behind a front
  rest_is : (front rest : List ℕ) → text ≡ front ++ rest → rest_from text (length front) ≡ rest
  rest_is front rest e =
      chars-IsAscii (drop (length front) text) (IsAscii-drop text (length front) ascii) ∙ ap (drop (length front)) e ∙ drop_at front rest (length front) refl

  boundary_is : (front rest : List ℕ) → text ≡ front ++ rest → IsCharBoundary text (length front)
  boundary_is front rest e = IsCharBoundary-from_ascii text (length front) ascii (omega (arith, ap length e, length-append front rest))

  module _ (front blanks rest : List ℕ) (e : text ≡ front ++ (blanks ++ rest)) where
    behind_blanks : text ≡ (front ++ blanks) ++ rest
    behind_blanks = e ∙ sym (append_assoc front blanks rest)

    skipped_to : IsTrue (list_all is_blank blanks) → Skips (each_alone blanks) (rest_from text (length front)) (rest_from text (length (front ++ blanks)))
    skipped_to blank =
        subst (λ x. Skips (each_alone blanks) x (rest_from text (length (front ++ blanks)))) (sym (rest_is front (blanks ++ rest) e))
        (subst (λ x. Skips (each_alone blanks) (blanks ++ rest) x) (sym (rest_is (front ++ blanks) rest behind_blanks)) (blanks_skipped blanks rest blank))

    next_is : (version : Bool) (found : Result (Option Token) Refusal) → IsTrue (list_all is_blank blanks) → StandsAt text (length (front ++ blanks)) version found → IsNext text (length front) version found
    next_is version found blank stands = record {
      gaps = each_alone blanks;
      at = length (front ++ blanks);
      boundary = boundary_is (front ++ blanks) rest behind_blanks;
      forward = omega (arith, length-append front blanks);
      skipped = skipped_to blank;
      stands = stands;
    }

  -- a piece
  module _ (front : List ℕ) (version : Bool) (p : Piece) (rest : List ℕ) (e : text ≡ front ++ (p.spelling ++ rest)) where
    behind_piece : text ≡ (front ++ p.spelling) ++ rest
    behind_piece = e ∙ sym (append_assoc front p.spelling rest)

    bytes_are : bytes_of text (token_of text front p) ≡ p.spelling
    bytes_are =
        ap (take (length (front ++ p.spelling) - length front)) (ap (drop (length front)) e ∙ drop_at front (p.spelling ++ rest) (length front) refl)
        ∙ take_at p.spelling rest _ (omega (arith, length-append front p.spelling))

    spelling_is : spelling_of text (token_of text front p) ≡ p.spelling
    spelling_is = chars-IsAscii (bytes_of text (token_of text front p)) (IsAscii-take (drop (length front) text) _ (IsAscii-drop text (length front) ascii)) ∙ bytes_are

    token_written : Spells version p.spelling p.kind → IsLongest version (p.spelling ++ rest) p.spelling rest → ¬ (IsTooLarge p.spelling p.kind) → IsToken text version (token_of text front p)
    token_written spells longest fits = record {
      ordered = longer p.spelling spells;
      starts = boundary_is front (p.spelling ++ rest) e;
      ends = boundary_is (front ++ p.spelling) rest behind_piece;
      place = refl;
      spells = subst (λ x. Spells version x p.kind) (sym spelling_is) spells;
      longest = subst (λ x. IsLongest version x (spelling_of text (token_of text front p)) (rest_from text (length (front ++ p.spelling)))) (sym (rest_is front (p.spelling ++ rest) e))
          (subst (λ x. IsLongest version (p.spelling ++ rest) x (rest_from text (length (front ++ p.spelling)))) (sym spelling_is)
          (subst (λ x. IsLongest version (p.spelling ++ rest) p.spelling x) (sym (rest_is (front ++ p.spelling) rest behind_piece)) longest));
      fits = subst (λ x. ¬ (IsTooLarge x p.kind)) (sym spelling_is) fits;
    }
      where
        longer : (cs : List ℕ) → Spells version cs p.kind → length front < length (front ++ cs)
        longer [] s = absurd (spelled_some version (AsToken p.kind s))
        longer (c ∷ cs) s = omega (arith, length-append front (c ∷ cs))

    no_comment_there : ¬ (BeginsComment (p.spelling ++ rest)) → ¬ (BeginsComment (rest_from text (length front)))
    no_comment_there none = subst (λ x. ¬ (BeginsComment x)) (sym (rest_is front (p.spelling ++ rest) e)) none

    piece_stands : Spells version p.spelling p.kind → IsPlain p.kind p.spelling → ¬ (IsTooLarge p.spelling p.kind) → EndsBefore p.kind rest → StandsAt text (length front) version (Ok (Some (token_of text front p)))
    piece_stands spells plain fits ends = (
      refl,
      no_comment_there (piece_no_comment version p.spelling rest p.kind spells ends),
      token_written spells (piece_longest version p.spelling rest p.kind spells plain ends) fits,
    )

  -- all pieces, behind a front and blanks
  all_written : (front blanks : List ℕ) (version : Bool) (pieces : List Piece) → text ≡ front ++ (blanks ++ text_of pieces) → IsTrue (list_all is_blank blanks) → AreApart version pieces → (tokens : List Token) × Reads text (length front) version tokens None × AreWritten text tokens pieces
  all_written front blanks version [] e blank apart =
      ([], next_is front blanks [] e version (Ok None) blank (ap length (sym (behind_blanks front blanks [] e ∙ append-nil (front ++ blanks)))), tt)
  all_written front blanks version (p ∷ ps) e blank apart =
      let before : text ≡ (front ++ blanks) ++ (p.spelling ++ (p.blanks ++ text_of ps)) = behind_blanks front blanks _ e in
      let stands = piece_stands (front ++ blanks) version p (p.blanks ++ text_of ps) before apart.0.spells apart.0.plain apart.0.fits apart.0.ends in
      let more = all_written ((front ++ blanks) ++ p.spelling) p.blanks (opens_version p.kind) ps (behind_piece (front ++ blanks) version p (p.blanks ++ text_of ps) before) apart.0.blank apart.1 in
      (token_of text (front ++ blanks) p ∷ more.0, (next_is front blanks (text_of (p ∷ ps)) e version _ blank stands, more.1), (refl, bytes_are (front ++ blanks) version p (p.blanks ++ text_of ps) before, more.2))

-- the text of pieces that are apart is read as these
pub written_read : (pieces : List Piece) → AreApart false pieces → (tokens : List Token) × Tokens (text_of pieces) (Ok tokens) × AreWritten (text_of pieces) tokens pieces
written_read pieces apart =
    let ascii = text_ascii false pieces apart in
    let all = all_written ascii [] [] false pieces refl refl apart in
    (all.0, (IsUtf8-from_ascii (text_of pieces) ascii, all.1), all.2)
