-- Kinds of tokens as numbers, for sets of kinds. A text that is a bit string has a kind of its own.
use Rattle.std.specs.Prelude.{ℕ, ◌==◌, Bool, true, false, List, [], ◌∷◌, Option, Some, None}
use Rattle.qasm_lexer.specs.Sizes.{bytes_of}
use Rattle.qasm_lexer.specs.declared.token.Token.{Token}
use Rattle.qasm_lexer.specs.declared.token.TokenKind.{TokenKind}
use Rattle.qasm_lexer.specs.declared.token.TokenKind.TheVariants as t
use Rattle.qasm_lexer.specs.declared.token.Keyword.{Keyword}
use Rattle.qasm_lexer.specs.declared.token.Keyword.TheVariants as k
use Rattle.qasm_lexer.specs.declared.token.Mark.{Mark}
use Rattle.qasm_lexer.specs.declared.token.Mark.TheVariants as m
use Rattle.grammar_parts.specs.Kinds.{is_some}

abbrev pub keyword_kind : Keyword → ℕ
keyword_kind k.OpenQasm = 10
keyword_kind k.Include = 11
keyword_kind k.Qubit = 12
keyword_kind k.Qreg = 13
keyword_kind k.Bit = 14
keyword_kind k.Creg = 15
keyword_kind k.Bool = 16
keyword_kind k.Int = 17
keyword_kind k.Uint = 18
keyword_kind k.Angle = 19
keyword_kind k.Const = 20
keyword_kind k.Output = 21
keyword_kind k.Let = 22
keyword_kind k.Gate = 23
keyword_kind k.Def = 24
keyword_kind k.Gphase = 25
keyword_kind k.Inv = 26
keyword_kind k.Pow = 27
keyword_kind k.Ctrl = 28
keyword_kind k.Reset = 29
keyword_kind k.Barrier = 30
keyword_kind k.Measure = 31
keyword_kind k.If = 32
keyword_kind k.Else = 33
keyword_kind k.While = 34
keyword_kind k.For = 35
keyword_kind k.In = 36
keyword_kind k.Break = 37
keyword_kind k.Continue = 38
keyword_kind k.Return = 39
keyword_kind k.End = 40
keyword_kind k.True = 41
keyword_kind k.False = 42
keyword_kind k.Float = 43
keyword_kind k.Complex = 44
keyword_kind k.Array = 45
keyword_kind k.Duration = 46
keyword_kind k.Stretch = 47
keyword_kind k.Box = 48
keyword_kind k.Delay = 49
keyword_kind k.DurationOf = 50
keyword_kind k.Defcal = 51
keyword_kind k.Cal = 52
keyword_kind k.DefcalGrammar = 53
keyword_kind k.Extern = 54
keyword_kind k.Pragma = 55
keyword_kind k.Input = 56
keyword_kind k.Readonly = 57
keyword_kind k.Mutable = 58
keyword_kind k.Void = 59
keyword_kind k.Switch = 60
keyword_kind k.Case = 61
keyword_kind k.Default = 62
keyword_kind k.Negctrl = 63
keyword_kind k.Euler = 64
keyword_kind k.EulerSign = 65

abbrev pub mark_kind : Mark → ℕ
mark_kind m.Semicolon = 100
mark_kind m.Comma = 101
mark_kind m.LeftParen = 102
mark_kind m.RightParen = 103
mark_kind m.LeftBracket = 104
mark_kind m.RightBracket = 105
mark_kind m.LeftBrace = 106
mark_kind m.RightBrace = 107
mark_kind m.At = 108
mark_kind m.Hash = 109
mark_kind m.Colon = 110
mark_kind m.Assign = 111
mark_kind m.Arrow = 112
mark_kind m.Plus = 113
mark_kind m.PlusPlus = 114
mark_kind m.Minus = 115
mark_kind m.Star = 116
mark_kind m.StarStar = 117
mark_kind m.Slash = 118
mark_kind m.Percent = 119
mark_kind m.Tilde = 120
mark_kind m.Bang = 121
mark_kind m.Ampersand = 122
mark_kind m.AndAnd = 123
mark_kind m.Pipe = 124
mark_kind m.OrOr = 125
mark_kind m.Caret = 126
mark_kind m.ShiftLeft = 127
mark_kind m.ShiftRight = 128
mark_kind m.Less = 129
mark_kind m.LessEqual = 130
mark_kind m.Greater = 131
mark_kind m.GreaterEqual = 132
mark_kind m.Equal = 133
mark_kind m.NotEqual = 134
mark_kind m.PlusAssign = 135
mark_kind m.MinusAssign = 136
mark_kind m.StarAssign = 137
mark_kind m.SlashAssign = 138
mark_kind m.PercentAssign = 139
mark_kind m.AndAssign = 140
mark_kind m.OrAssign = 141
mark_kind m.CaretAssign = 142
mark_kind m.ShiftLeftAssign = 143
mark_kind m.ShiftRightAssign = 144

-- The bits of a bit string: `"`, at least one digit 0 or 1, with single `_` between digits, and `"`.
abbrev pub with_bit : Bool → Option (List Bool) → Option (List Bool)
with_bit b None = None
with_bit b (Some bits) = Some (b ∷ bits)

abbrev pub one_of : {A : Type 0} → Bool → A → A → A
one_of true a b = a
one_of false a b = b

-- the bits from a place on; a digit must be next, or `_` and the quote may be too
abbrev pub bits_from : Bool → List ℕ → Option (List Bool)
bits_from digit [] = None
bits_from digit (c ∷ cs) =
    one_of (c == 48) (with_bit false (bits_from false cs))
    (one_of (c == 49) (with_bit true (bits_from false cs))
    (one_of digit None
    (one_of (c == 95) (bits_from true cs)
    (one_of (c == 34) (ended cs) None))))
  where
    ended : List ℕ → Option (List Bool)
    ended [] = Some []
    ended (d ∷ ds) = None

abbrev pub bits_of : List ℕ → Option (List Bool)
bits_of [] = None
bits_of (c ∷ cs) = one_of (c == 34) (bits_from true cs) None

abbrev pub text_kind : Bool → ℕ
text_kind true = 4
text_kind false = 3

abbrev pub kind_of : Bool → TokenKind → ℕ
kind_of bits t.Name = 1
kind_of bits (t.Word w) = keyword_kind w
kind_of bits (t.Whole n) = 2
kind_of bits t.Text = text_kind bits
kind_of bits (t.Version major minor) = 5
kind_of bits (t.Hardware n) = 6
kind_of bits (t.Mark m) = mark_kind m

-- of a token of this text
abbrev pub kind : List ℕ → Token → ℕ
kind text x = kind_of (is_some (bits_of (bytes_of text x))) x.kind
