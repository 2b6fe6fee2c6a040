-- Worked rows of the grammar: what is read of some short lists of tokens. What stands on the right is read
-- by hand. In all of them two levels may be opened and a chain has two operators at most. Each token has
-- its number in the list as its column.
use Rattle.std.specs.Prelude.{◌≡◌, ℕ, true, false, List, [], ◌∷◌, Some, Ok, Err}
use Rattle.qq_base.specs.declared.refusal.Span.{Span}
use Rattle.qasm_lexer.specs.declared.token.Token.{Token}
use Rattle.qasm_lexer.specs.declared.token.TokenKind.TheVariants as t
use Rattle.qasm_lexer.specs.declared.token.Keyword.{Keyword}
use Rattle.qasm_lexer.specs.declared.token.Keyword.TheVariants as k
use Rattle.qasm_lexer.specs.declared.token.Mark.{Mark}
use Rattle.qasm_lexer.specs.declared.token.Mark.TheVariants as m
use Rattle.qasm_ast.specs.declared.expr.Base.TheVariants as b
use Rattle.qasm_ast.specs.declared.expr.UnaryOp.TheVariants as u
use Rattle.qasm_ast.specs.declared.expr.BinaryOp.TheVariants as op
use Rattle.qasm_ast.specs.Tree.{Tree, word, named, number, bit_string, unary as unary_tree, binary as binary_tree, cast as cast_tree, call, trees, absent, present, range, members, brackets}
use Rattle.grammar_parts.specs.Reading.{Outcome, syntax, deep}
use Rattle.qasm_expr.specs.Reader.{read_expr}

-- what the names are cut from
abbrev pub text : List ℕ
text = 97 ∷ 98 ∷ 99 ∷ 49 ∷ 50 ∷ []

abbrev pub column : ℕ → Span
column n = record { line = 1; column = n }

-- the name `a`, the number 1, a mark or a word as the n-th token
abbrev pub a_name : ℕ → Token
a_name n = record { kind = t.Name; start = 0; end = 1; at = column n }

abbrev pub whole : ℕ → Token
whole n = record { kind = t.Whole 1; start = 3; end = 4; at = column n }

abbrev pub sign : Mark → ℕ → Token
sign x n = record { kind = t.Mark x; start = 0; end = 1; at = column n }

abbrev pub word_of : Keyword → ℕ → Token
word_of x n = record { kind = t.Word x; start = 0; end = 1; at = column n }

abbrev pub read : List Token → Outcome Token Tree
read = read_expr text (Some 2) 2

abbrev pub one : ℕ → Tree
one n = number 1 (column n)

abbrev pub name : List ℕ
name = 97 ∷ []

-- a bit string
abbrev pub BitString : Type 0
BitString = read_expr (34 ∷ 48 ∷ 95 ∷ 49 ∷ 34 ∷ []) (Some 2) 2 (record { kind = t.Text; start = 0; end = 5; at = column 1 } ∷ []) ≡ Ok (bit_string (false ∷ true ∷ []) (column 1), [])

-- `1 - 1 - 1` joins to the left
abbrev pub JoinsLeft : Type 0
JoinsLeft = read (whole 1 ∷ sign m.Minus 2 ∷ whole 3 ∷ sign m.Minus 4 ∷ whole 5 ∷ []) ≡ Ok ((binary_tree op.Subtract (binary_tree op.Subtract (one 1) (one 3) (column 1)) (one 5) (column 1)), [])

-- a product is joined before a sum: `1 + 1 * 1`
abbrev pub ProductFirst : Type 0
ProductFirst = read (whole 1 ∷ sign m.Plus 2 ∷ whole 3 ∷ sign m.Star 4 ∷ whole 5 ∷ []) ≡ Ok ((binary_tree op.Add (one 1) (binary_tree op.Multiply (one 3) (one 5) (column 3)) (column 1)), [])

-- `- 1 ** 1` is minus a power
abbrev pub SignOfPower : Type 0
SignOfPower = read (sign m.Minus 1 ∷ whole 2 ∷ sign m.StarStar 3 ∷ whole 4 ∷ []) ≡ Ok ((unary_tree u.Negate (binary_tree op.Power (one 2) (one 4) (column 2)) (column 1)), [])

-- an operator may stand behind `**`
abbrev pub PowerOfSign : Type 0
PowerOfSign = read (whole 1 ∷ sign m.StarStar 2 ∷ sign m.Minus 3 ∷ whole 4 ∷ []) ≡ Ok ((binary_tree op.Power (one 1) (unary_tree u.Negate (one 4) (column 3)) (column 1)), [])

-- `**` joins to the right
abbrev pub PowerJoinsRight : Type 0
PowerJoinsRight = read (whole 1 ∷ sign m.StarStar 2 ∷ whole 3 ∷ sign m.StarStar 4 ∷ whole 5 ∷ []) ≡ Ok ((binary_tree op.Power (one 1) (binary_tree op.Power (one 3) (one 5) (column 3)) (column 1)), [])

-- operators of all levels are of one chain: `1 + 1 * 1 - 1`
abbrev pub ThirdOperator : Type 0
ThirdOperator = read (whole 1 ∷ sign m.Plus 2 ∷ whole 3 ∷ sign m.Star 4 ∷ whole 5 ∷ sign m.Minus 6 ∷ whole 7 ∷ []) ≡ Err (deep (sign m.Minus 6 ∷ whole 7 ∷ []))

-- only two levels are open: `- - - 1`
abbrev pub ThirdLevel : Type 0
ThirdLevel = read (sign m.Minus 1 ∷ sign m.Minus 2 ∷ sign m.Minus 3 ∷ whole 4 ∷ []) ≡ Err (deep (sign m.Minus 3 ∷ whole 4 ∷ []))

-- brackets and operators open the same levels: `( - ( 1 ) )`
abbrev pub ThirdBracket : Type 0
ThirdBracket = read (sign m.LeftParen 1 ∷ sign m.Minus 2 ∷ sign m.LeftParen 3 ∷ whole 4 ∷ sign m.RightParen 5 ∷ sign m.RightParen 6 ∷ []) ≡ Err (deep (sign m.LeftParen 3 ∷ whole 4 ∷ sign m.RightParen 5 ∷ sign m.RightParen 6 ∷ []))

-- a bracket for grouping is no place: `( 1 ) + 1`
abbrev pub PlaceOfGroup : Type 0
PlaceOfGroup = read (sign m.LeftParen 1 ∷ whole 2 ∷ sign m.RightParen 3 ∷ sign m.Plus 4 ∷ whole 5 ∷ []) ≡ Ok ((binary_tree op.Add (one 2) (one 5) (column 2)), [])

-- what stands in brackets has a chain of its own: `( 1 + 1 + 1 ) + 1 + 1`
abbrev pub ChainOfGroup : Type 0
ChainOfGroup = read (sign m.LeftParen 1 ∷ whole 2 ∷ sign m.Plus 3 ∷ whole 4 ∷ sign m.Plus 5 ∷ whole 6 ∷ sign m.RightParen 7 ∷ sign m.Plus 8 ∷ whole 9 ∷ sign m.Plus 10 ∷ whole 11 ∷ []) ≡ Ok ((binary_tree op.Add (binary_tree op.Add (binary_tree op.Add (binary_tree op.Add (one 2) (one 4) (column 2)) (one 6) (column 2)) (one 9) (column 2)) (one 11) (column 2)), [])

-- a call may have no arguments: `a ( )`
abbrev pub EmptyCall : Type 0
EmptyCall = read (a_name 1 ∷ sign m.LeftParen 2 ∷ sign m.RightParen 3 ∷ []) ≡ Ok ((call name (trees ([])) (column 1)), [])

-- a list may end with one comma: `a ( 1 , )`
abbrev pub TrailingComma : Type 0
TrailingComma = read (a_name 1 ∷ sign m.LeftParen 2 ∷ whole 3 ∷ sign m.Comma 4 ∷ sign m.RightParen 5 ∷ []) ≡ Ok ((call name (trees ((one 3) ∷ [])) (column 1)), [])

-- a comma alone is no list: `a ( , )`
abbrev pub CommaAlone : Type 0
CommaAlone = read (a_name 1 ∷ sign m.LeftParen 2 ∷ sign m.Comma 3 ∷ sign m.RightParen 4 ∷ []) ≡ Err (syntax (sign m.Comma 3 ∷ sign m.RightParen 4 ∷ []))

-- nor are two commas: `a ( 1 , , )`
abbrev pub TwoCommas : Type 0
TwoCommas = read (a_name 1 ∷ sign m.LeftParen 2 ∷ whole 3 ∷ sign m.Comma 4 ∷ sign m.Comma 5 ∷ sign m.RightParen 6 ∷ []) ≡ Err (syntax (sign m.Comma 5 ∷ sign m.RightParen 6 ∷ []))

-- of three parts the middle one is the step: `a [ 1 : 1 : 1 ]`
abbrev pub ThreeParts : Type 0
ThreeParts = read (a_name 1 ∷ sign m.LeftBracket 2 ∷ whole 3 ∷ sign m.Colon 4 ∷ whole 5 ∷ sign m.Colon 6 ∷ whole 7 ∷ sign m.RightBracket 8 ∷ []) ≡ Ok ((named (word name) (brackets (range (present (one 3)) (present (one 5)) (present (one 7)) (column 3) ∷ [])) (column 1) (column 1)), [])

-- of two colons the part between is the step, also where it is left out: `a [ : : 1 ]`
abbrev pub NoStep : Type 0
NoStep = read (a_name 1 ∷ sign m.LeftBracket 2 ∷ sign m.Colon 3 ∷ sign m.Colon 4 ∷ whole 5 ∷ sign m.RightBracket 6 ∷ []) ≡ Ok ((named (word name) (brackets (range absent absent (present (one 5)) (column 3) ∷ [])) (column 1) (column 1)), [])

-- a range may have its start alone: `a [ 1 : ]`
abbrev pub NoStop : Type 0
NoStop = read (a_name 1 ∷ sign m.LeftBracket 2 ∷ whole 3 ∷ sign m.Colon 4 ∷ sign m.RightBracket 5 ∷ []) ≡ Ok ((named (word name) (brackets (range (present (one 3)) absent absent (column 3) ∷ [])) (column 1) (column 1)), [])

-- a set: `a [ { 1 , 1 , } ]`
abbrev pub SetOfMembers : Type 0
SetOfMembers = read (a_name 1 ∷ sign m.LeftBracket 2 ∷ sign m.LeftBrace 3 ∷ whole 4 ∷ sign m.Comma 5 ∷ whole 6 ∷ sign m.Comma 7 ∷ sign m.RightBrace 8 ∷ sign m.RightBracket 9 ∷ []) ≡ Ok ((named (word name) (brackets (members (trees ((one 4) ∷ (one 6) ∷ [])) ∷ [])) (column 1) (column 1)), [])

-- a set has a member: `a [ { } ]`
abbrev pub EmptySet : Type 0
EmptySet = read (a_name 1 ∷ sign m.LeftBracket 2 ∷ sign m.LeftBrace 3 ∷ sign m.RightBrace 4 ∷ sign m.RightBracket 5 ∷ []) ≡ Err (syntax (sign m.RightBrace 4 ∷ sign m.RightBracket 5 ∷ []))

-- a bracket is not empty: `a [ ]`
abbrev pub EmptyIndex : Type 0
EmptyIndex = read (a_name 1 ∷ sign m.LeftBracket 2 ∷ sign m.RightBracket 3 ∷ []) ≡ Err (syntax (sign m.RightBracket 3 ∷ []))

-- a type with a width: `int [ 1 ] ( 1 )`
abbrev pub CastWithWidth : Type 0
CastWithWidth = read (word_of k.Int 1 ∷ sign m.LeftBracket 2 ∷ whole 3 ∷ sign m.RightBracket 4 ∷ sign m.LeftParen 5 ∷ whole 6 ∷ sign m.RightParen 7 ∷ []) ≡ Ok ((cast_tree b.Int (present (one 3)) (column 1) (one 6) (column 1)), [])

-- `bool` has no width
abbrev pub BoolHasNoWidth : Type 0
BoolHasNoWidth = read (word_of k.Bool 1 ∷ sign m.LeftBracket 2 ∷ whole 3 ∷ sign m.RightBracket 4 ∷ sign m.LeftParen 5 ∷ whole 6 ∷ sign m.RightParen 7 ∷ []) ≡ Err (syntax (sign m.LeftBracket 2 ∷ whole 3 ∷ sign m.RightBracket 4 ∷ sign m.LeftParen 5 ∷ whole 6 ∷ sign m.RightParen 7 ∷ []))

-- no bracket goes on behind a call: `a ( ) [ 1 ]`
abbrev pub BehindACall : Type 0
BehindACall = read (a_name 1 ∷ sign m.LeftParen 2 ∷ sign m.RightParen 3 ∷ sign m.LeftBracket 4 ∷ whole 5 ∷ sign m.RightBracket 6 ∷ []) ≡ Ok ((call name (trees ([])) (column 1)), (sign m.LeftBracket 4 ∷ whole 5 ∷ sign m.RightBracket 6 ∷ []))

-- an operand is missing at the end: `1 +`
abbrev pub AtTheEnd : Type 0
AtTheEnd = read (whole 1 ∷ sign m.Plus 2 ∷ []) ≡ Err (syntax [])

-- `*` begins nothing
abbrev pub BeginsNothing : Type 0
BeginsNothing = read (sign m.Star 1 ∷ whole 2 ∷ []) ≡ Err (syntax (sign m.Star 1 ∷ whole 2 ∷ []))
