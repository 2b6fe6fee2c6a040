-- Types as they are written, by their words.
use Rattle.std.proofs.Common.{◌≡◌, ℕ, Option, Some, None, refl, subst}
use Rattle.qq_base.specs.declared.refusal.Span.{Span}
use Rattle.qasm_lexer.specs.declared.token.TokenKind.{TokenKind}
use Rattle.qasm_lexer.specs.declared.token.TokenKind.TheVariants as t
use Rattle.qasm_lexer.specs.declared.token.Keyword.TheVariants as k
use Rattle.qasm_ast.specs.declared.expr.ExprId.{ExprId}
use Rattle.qasm_ast.specs.declared.expr.Base.{Base}
use Rattle.qasm_ast.specs.declared.expr.Base.TheVariants as b
use Rattle.qasm_ast.specs.Whole.{IfThere, IsExpr, TypeFits}
use Rattle.qasm_parser.specs.Kinds.{plain_type_of, sized_type_of}
use Rattle.qasm_parser.specs.Shows.{MayHaveWidth}

pub plain_is : (kind : TokenKind) (base : Base) → plain_type_of kind ≡ Some base → base ≡ b.Bool
plain_is (t.Word k.Bool) base e = cc
plain_is _ base e = absurd (cc)

sized_as : (base base' : Base) → Some base ≡ Some base' → MayHaveWidth base → MayHaveWidth base'
sized_as base base' e w = let same : base ≡ base' = cc in subst MayHaveWidth same w

pub sized_is : (kind : TokenKind) (base : Base) → sized_type_of kind ≡ Some base → MayHaveWidth base
sized_is (t.Word k.Bit) base e = sized_as b.Bit base e tt
sized_is (t.Word k.Int) base e = sized_as b.Int base e tt
sized_is (t.Word k.Uint) base e = sized_as b.Uint base e tt
sized_is (t.Word k.Angle) base e = sized_as b.Angle base e tt
sized_is _ base e = absurd (cc)

pub plain_fits : (n : ℕ) (base : Base) (place : Span) → base ≡ b.Bool → TypeFits n (record { base = base; width = None; at = place })
plain_fits n b.Bool place e = record { classical = λ e. absurd (cc); fits = record { bool = refl; width = tt } }
plain_fits n _ place e = absurd (cc)

pub sized_fits : (n : ℕ) (base : Base) (width : Option ExprId) (place : Span) → MayHaveWidth base → IfThere (IsExpr n) width → TypeFits n (record { base = base; width = width; at = place })
sized_fits n b.Bool width place s f = absurd s
sized_fits n b.Qubit width place s f = absurd s
sized_fits n _ width place s f = record { classical = λ e. absurd (cc); fits = record { bool = tt; width = f } }
