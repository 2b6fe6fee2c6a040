-- For private contracts: what a token is by its kind, as the code tells it.
use Rattle.std.specs.Prelude.{ℕ, ◌==◌, Bool, true, false, Option, Some, None, cond}
use Rattle.qasm_lexer.specs.declared.token.TokenKind.{TokenKind}
use Rattle.qasm_lexer.specs.declared.token.TokenKind.TheVariants as t
use Rattle.qasm_lexer.specs.declared.token.Keyword.{Keyword}
use Rattle.qasm_lexer.specs.declared.token.Keyword.TheVariants as k
use Rattle.qasm_lexer.specs.declared.token.Mark.{Mark}
use Rattle.qasm_lexer.specs.declared.token.Mark.TheVariants as m
use Rattle.qasm_ast.specs.declared.expr.Base.{Base}
use Rattle.qasm_ast.specs.declared.expr.Base.TheVariants as b
use Rattle.qasm_ast.specs.declared.expr.UnaryOp.{UnaryOp}
use Rattle.qasm_ast.specs.declared.expr.UnaryOp.TheVariants as u
use Rattle.qasm_ast.specs.declared.expr.BinaryOp.{BinaryOp}
use Rattle.qasm_ast.specs.declared.expr.BinaryOp.TheVariants as op
use Rattle.qasm_expr.specs.TokenKinds.{keyword_kind, mark_kind}

abbrev pub is_mark : TokenKind → Mark → Bool
is_mark (t.Mark found) mark = mark_kind found == mark_kind mark
is_mark _ mark = false

abbrev pub is_word : TokenKind → Keyword → Bool
is_word (t.Word found) word = keyword_kind found == keyword_kind word
is_word _ word = false

abbrev pub sign_of : TokenKind → Option UnaryOp
sign_of (t.Mark m.Tilde) = Some u.Complement
sign_of (t.Mark m.Bang) = Some u.Not
sign_of (t.Mark m.Minus) = Some u.Negate
sign_of _ = None

-- a binary operator, with its level, the loosest first
abbrev pub operator_of : TokenKind → Option (ℕ × BinaryOp)
operator_of (t.Mark m.OrOr) = Some (0, op.Or)
operator_of (t.Mark m.AndAnd) = Some (1, op.And)
operator_of (t.Mark m.Pipe) = Some (2, op.BitOr)
operator_of (t.Mark m.Caret) = Some (3, op.BitXor)
operator_of (t.Mark m.Ampersand) = Some (4, op.BitAnd)
operator_of (t.Mark m.Equal) = Some (5, op.Equal)
operator_of (t.Mark m.NotEqual) = Some (5, op.NotEqual)
operator_of (t.Mark m.Less) = Some (6, op.Less)
operator_of (t.Mark m.LessEqual) = Some (6, op.LessEqual)
operator_of (t.Mark m.Greater) = Some (6, op.Greater)
operator_of (t.Mark m.GreaterEqual) = Some (6, op.GreaterEqual)
operator_of (t.Mark m.ShiftLeft) = Some (7, op.ShiftLeft)
operator_of (t.Mark m.ShiftRight) = Some (7, op.ShiftRight)
operator_of (t.Mark m.Plus) = Some (8, op.Add)
operator_of (t.Mark m.Minus) = Some (8, op.Subtract)
operator_of (t.Mark m.Star) = Some (9, op.Multiply)
operator_of (t.Mark m.Slash) = Some (9, op.Divide)
operator_of (t.Mark m.Percent) = Some (9, op.Remainder)
operator_of _ = None

-- the operator, where it is one of this level
abbrev pub of_level : ℕ → Option (ℕ × BinaryOp) → Option BinaryOp
of_level rank None = None
of_level rank (Some found) = cond (found.0 == rank) (Some found.1) None

abbrev pub plain_type_of : TokenKind → Option Base
plain_type_of (t.Word k.Bool) = Some b.Bool
plain_type_of _ = None

abbrev pub sized_type_of : TokenKind → Option Base
sized_type_of (t.Word k.Bit) = Some b.Bit
sized_type_of (t.Word k.Int) = Some b.Int
sized_type_of (t.Word k.Uint) = Some b.Uint
sized_type_of (t.Word k.Angle) = Some b.Angle
sized_type_of _ = None

abbrev pub is_type : TokenKind → Bool
is_type (t.Word k.Bool) = true
is_type (t.Word k.Bit) = true
is_type (t.Word k.Int) = true
is_type (t.Word k.Uint) = true
is_type (t.Word k.Angle) = true
is_type _ = false

abbrev pub is_name : TokenKind → Bool
is_name t.Name = true
is_name _ = false

-- a literal, where a text is one or is not
abbrev pub is_literal : Bool → TokenKind → Bool
is_literal bits (t.Whole n) = true
is_literal bits (t.Hardware n) = true
is_literal bits (t.Word k.True) = true
is_literal bits (t.Word k.False) = true
is_literal bits t.Text = bits
is_literal bits _ = false

-- what begins an expression and is no literal
abbrev pub begins_operand : TokenKind → Bool
begins_operand t.Name = true
begins_operand (t.Mark m.Tilde) = true
begins_operand (t.Mark m.Bang) = true
begins_operand (t.Mark m.Minus) = true
begins_operand (t.Mark m.LeftParen) = true
begins_operand kind = is_type kind
