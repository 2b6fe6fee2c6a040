-- No two words, and no two marks, are spelled alike.
use Rattle.std.proofs.Common.{◌≡◌, ℕ, List, [], ◌∷◌, Option, None, Some, sym, refl, ap, ◌∙◌}
use Rattle.std.specs.Prelude.{if◌then◌else◌}
use Rattle.std.specs.Str.{bytes_eq}
use Rattle.qasm_lexer.specs.Tables.{word_spelling, mark_spelling}
use Rattle.qasm_lexer.specs.declared.token.Keyword.{Keyword}
use Rattle.qasm_lexer.specs.declared.token.Keyword.TheVariants.{OpenQasm, Include, Qubit, Qreg, Bit, Creg, Bool as BoolWord, Int, Uint, Angle, Const, Output, Let, Gate, Def, Gphase, Inv, Pow, Ctrl, Reset, Barrier, Measure, If, Else, While, For, In, Break, Continue, Return, End, True, False, Float, Complex, Array, Duration, Stretch, Box, Delay, DurationOf, Defcal, Cal, DefcalGrammar, Extern, Pragma, Input, Readonly, Mutable, Void, Switch, Case, Default, Negctrl, Euler, EulerSign}
use Rattle.qasm_lexer.specs.declared.token.Mark.{Mark}
use Rattle.qasm_lexer.specs.declared.token.Mark.TheVariants.{Semicolon, Comma, LeftParen, RightParen, LeftBracket, RightBracket, LeftBrace, RightBrace, At, Hash, Colon, Assign, Arrow, Plus, PlusPlus, Minus, Star, StarStar, Slash, Percent, Tilde, Bang, Ampersand, AndAnd, Pipe, OrOr, Caret, ShiftLeft, ShiftRight, Less, LessEqual, Greater, GreaterEqual, Equal, NotEqual, PlusAssign, MinusAssign, StarAssign, SlashAssign, PercentAssign, AndAssign, OrAssign, CaretAssign, ShiftLeftAssign, ShiftRightAssign}
use Rattle.qasm_lexer.proofs.TableRows.{words, marks}

-- the first of a list that is spelled so
abbrev find_by : {A : Type 0} → (A → List ℕ) → List A → List ℕ → Option A
find_by f [] cs = None
find_by f (x ∷ xs) cs = if bytes_eq (f x) cs then Some x else find_by f xs cs

some_same : {A : Type 0} {x y : A} → Some x ≡ Some y → x ≡ y
some_same e = cc

word_found_by : (w : Keyword) → find_by word_spelling words (word_spelling w) ≡ Some w
word_found_by OpenQasm = refl
word_found_by Include = refl
word_found_by Qubit = refl
word_found_by Qreg = refl
word_found_by Bit = refl
word_found_by Creg = refl
word_found_by BoolWord = refl
word_found_by Int = refl
word_found_by Uint = refl
word_found_by Angle = refl
word_found_by Const = refl
word_found_by Output = refl
word_found_by Let = refl
word_found_by Gate = refl
word_found_by Def = refl
word_found_by Gphase = refl
word_found_by Inv = refl
word_found_by Pow = refl
word_found_by Ctrl = refl
word_found_by Reset = refl
word_found_by Barrier = refl
word_found_by Measure = refl
word_found_by If = refl
word_found_by Else = refl
word_found_by While = refl
word_found_by For = refl
word_found_by In = refl
word_found_by Break = refl
word_found_by Continue = refl
word_found_by Return = refl
word_found_by End = refl
word_found_by True = refl
word_found_by False = refl
word_found_by Float = refl
word_found_by Complex = refl
word_found_by Array = refl
word_found_by Duration = refl
word_found_by Stretch = refl
word_found_by Box = refl
word_found_by Delay = refl
word_found_by DurationOf = refl
word_found_by Defcal = refl
word_found_by Cal = refl
word_found_by DefcalGrammar = refl
word_found_by Extern = refl
word_found_by Pragma = refl
word_found_by Input = refl
word_found_by Readonly = refl
word_found_by Mutable = refl
word_found_by Void = refl
word_found_by Switch = refl
word_found_by Case = refl
word_found_by Default = refl
word_found_by Negctrl = refl
word_found_by Euler = refl
word_found_by EulerSign = refl

mark_found_by : (m : Mark) → find_by mark_spelling marks (mark_spelling m) ≡ Some m
mark_found_by Semicolon = refl
mark_found_by Comma = refl
mark_found_by LeftParen = refl
mark_found_by RightParen = refl
mark_found_by LeftBracket = refl
mark_found_by RightBracket = refl
mark_found_by LeftBrace = refl
mark_found_by RightBrace = refl
mark_found_by At = refl
mark_found_by Hash = refl
mark_found_by Colon = refl
mark_found_by Assign = refl
mark_found_by Arrow = refl
mark_found_by Plus = refl
mark_found_by PlusPlus = refl
mark_found_by Minus = refl
mark_found_by Star = refl
mark_found_by StarStar = refl
mark_found_by Slash = refl
mark_found_by Percent = refl
mark_found_by Tilde = refl
mark_found_by Bang = refl
mark_found_by Ampersand = refl
mark_found_by AndAnd = refl
mark_found_by Pipe = refl
mark_found_by OrOr = refl
mark_found_by Caret = refl
mark_found_by ShiftLeft = refl
mark_found_by ShiftRight = refl
mark_found_by Less = refl
mark_found_by LessEqual = refl
mark_found_by Greater = refl
mark_found_by GreaterEqual = refl
mark_found_by Equal = refl
mark_found_by NotEqual = refl
mark_found_by PlusAssign = refl
mark_found_by MinusAssign = refl
mark_found_by StarAssign = refl
mark_found_by SlashAssign = refl
mark_found_by PercentAssign = refl
mark_found_by AndAssign = refl
mark_found_by OrAssign = refl
mark_found_by CaretAssign = refl
mark_found_by ShiftLeftAssign = refl
mark_found_by ShiftRightAssign = refl

pub word_unique : (a b : Keyword) → word_spelling a ≡ word_spelling b → a ≡ b
word_unique a b e = some_same (sym (word_found_by a) ∙ ap (find_by word_spelling words) e ∙ word_found_by b)

pub mark_unique : (a b : Mark) → mark_spelling a ≡ mark_spelling b → a ≡ b
mark_unique a b e = some_same (sym (mark_found_by a) ∙ ap (find_by mark_spelling marks) e ∙ mark_found_by b)
