-- Texts that are written token by token, each with the blanks behind it.
use Rattle.std.specs.Prelude.{◌≡◌, ◌<◌, ℕ, Bool, ◌||◌, ◌==◌, List, [], ◌∷◌, ◌++◌, IsTrue}
use Rattle.std.specs.List.{list_all, AllByRecursion}
use Rattle.qasm_lexer.specs.Characters.{is_blank, is_digit_in, continues_name}
use Rattle.qasm_lexer.specs.Spelling.{AreDigits, Spells, IsTooLarge}
use Rattle.qasm_lexer.specs.Scan.{StopsAt}
use Rattle.qasm_lexer.specs.Sizes.{bytes_of}
use Rattle.qasm_lexer.specs.Tokens.{opens_version}
use Rattle.qasm_lexer.specs.declared.token.Token.{Token}
use Rattle.qasm_lexer.specs.declared.token.TokenKind.{TokenKind}
use Rattle.qasm_lexer.specs.declared.token.TokenKind.TheVariants.{Name, Word, Whole, Text, Version, Hardware, Mark}

-- a token as it is written: its kind, its characters, all in ASCII, and the blanks behind it
pub record Piece : Type 0 where
  pub kind : TokenKind
  pub spelling : List ℕ
  pub blanks : List ℕ

abbrev pub text_of : List Piece → List ℕ
text_of [] = []
text_of (p ∷ ps) = p.spelling ++ (p.blanks ++ text_of ps)

-- the characters with which a mark of several characters goes on, or a comment begins
abbrev pub continues_mark : ℕ → Bool
continues_mark c = (c == 61) || (c == 43) || (c == 62) || (c == 60) || (c == 42) || (c == 38) || (c == 124) || (c == 47)

-- a token of this kind cannot go on with the first of these characters
abbrev pub EndsBefore : TokenKind → List ℕ → Type 0
EndsBefore Name behind = StopsAt continues_name behind
EndsBefore (Word word) behind = StopsAt continues_name behind
EndsBefore (Whole value) behind = StopsAt (λ c. continues_name c || (c == 46)) behind
EndsBefore (Version major minor) behind = StopsAt (λ c. continues_name c || (c == 46)) behind
EndsBefore (Hardware number) behind = StopsAt (is_digit_in 10) behind
EndsBefore Text behind = Unit {0}
EndsBefore (Mark mark) behind = StopsAt continues_mark behind

-- a whole number is written in decimal digits alone
abbrev pub IsPlain : TokenKind → List ℕ → Type 0
IsPlain (Whole value) spelling = AreDigits spelling
IsPlain _ spelling = Unit {0}

-- the token is spelled so, where `version` says that a version may stand there, and ends before what is behind
pub record Stands (version : Bool) (piece : Piece) (behind : List ℕ) : Type 0 where
  pub ascii : AllByRecursion (λ c. c < 128) piece.spelling
  pub blank : IsTrue (list_all is_blank piece.blanks)
  pub plain : IsPlain piece.kind piece.spelling
  pub spells : Spells version piece.spelling piece.kind
  pub fits : ¬ (IsTooLarge piece.spelling piece.kind)
  pub ends : EndsBefore piece.kind (piece.blanks ++ behind)

-- each token stands so, one behind the other
abbrev pub AreApart : Bool → List Piece → Type 0
AreApart version [] = Unit {0}
AreApart version (p ∷ ps) = Stands version p (text_of ps) × AreApart (opens_version p.kind) ps

-- these are the tokens of the pieces, one for one
abbrev pub AreWritten : List ℕ → List Token → List Piece → Type 0
AreWritten text [] [] = Unit {0}
AreWritten text (t ∷ ts) (p ∷ ps) = (t.kind ≡ p.kind) × (bytes_of text t ≡ p.spelling) × AreWritten text ts ps
AreWritten text _ _ = ⊥
