-- Casts of constants: the casts of the OpenQASM 3.0 specification, "Casting specifics", as the tables of types have
-- them. A whole constant that is cast to a word is a whole number still.
use Rattle.std.specs.Prelude.{ℕ, ◌&&◌, Bool, true, false, int_le, ℤ, pos, unsigned_abs, Option, Some, None, Result, Ok}
use Rattle.qq_base.specs.declared.refusal.Refusal.{Refusal}
use Rattle.qq_base.specs.declared.refusal.Span.{Span}
use Rattle.qq_base.specs.declared.rule.Rule.{Rule}
use Rattle.qq_base.specs.declared.rule.Rule.TheVariants.{WrongKind, WidthRange, NoCast, NotPiMultiple, NotDyadic}
use Rattle.qasm_ast.specs.declared.expr.Base.{Base}
use Rattle.qasm_ast.specs.declared.expr.Base.TheVariants as b
use Rattle.qasm_types.specs.declared.ty.Ty.{Ty}
use Rattle.qasm_types.specs.declared.ty.Ty.TheVariants as t
use Rattle.qasm_types.specs.Values.{Value, cast}
use Rattle.qasm_types.specs.Plans.{casts}
use Rattle.const_eval.specs.Constant.{Constant, is_whole, is_part_of_pi, whole_in}
use Rattle.const_eval.specs.Results.{constant_of_value}
use Rattle.const_eval.specs.Refusing.{refused, where_allowed, go_on}

-- The table has the cast, and the value is none: a fraction of pi whose count is not whole, or a whole number other than 0
-- at an angle.
abbrev pub no_value : Constant → Rule
no_value c = of (is_part_of_pi c)
  where
    of : Bool → Rule
    of true = NotDyadic
    of false = NotPiMultiple

abbrev pub cast_value : Constant → Ty → Span → Option Value → Result Constant Refusal
cast_value c to place None = refused (no_value c) place
cast_value c to place (Some x) = Ok (constant_of_value to x)

-- a constant cast to a type, with the place at which the rules of the cast stand
abbrev pub cast_of_constant : Constant → Ty → Span → Result Constant Refusal
cast_of_constant c to place = where_allowed (casts c.type (whole_in c) to) NoCast place (cast_value c to place (cast c.type c.value to))

-- ---- whole constants, where one must stand

-- a whole number, where a constant of another kind may not stand: an index or a width
abbrev pub whole_at : Span → Constant → Result ℤ Refusal
whole_at place c = where_allowed (is_whole c) NoCast place (Ok (whole_in c))

-- ---- types as they are written

-- the greatest widths
abbrev pub greatest_width : Base → ℕ
greatest_width b.Bool = 1
greatest_width b.Bit = 4096
greatest_width b.Int = 64
greatest_width b.Uint = 64
greatest_width b.Angle = 32
greatest_width b.Qubit = 1024

-- The type of a base without a width: 32 bits of a word or an angle. `qubit` is no type of a value.
abbrev pub plain_type : Base → Option Ty
plain_type b.Bool = Some t.Bool
plain_type b.Bit = Some t.Bit
plain_type b.Int = Some (t.Int 32)
plain_type b.Uint = Some (t.Uint 32)
plain_type b.Angle = Some (t.Angle 32)
plain_type b.Qubit = None

-- the type of a base with a width
abbrev pub type_of_width : Base → ℕ → Option Ty
type_of_width b.Bool n = Some t.Bool
type_of_width b.Bit n = Some (t.Bits n)
type_of_width b.Int n = Some (t.Int n)
type_of_width b.Uint n = Some (t.Uint n)
type_of_width b.Angle n = Some (t.Angle n)
type_of_width b.Qubit n = None

-- a type of values, where it is one
abbrev pub type_at : Span → Option Ty → Result Ty Refusal
type_at place None = refused WrongKind place
type_at place (Some type) = Ok type

abbrev pub is_width : Base → ℤ → Bool
is_width base z = int_le (pos 1) z && int_le z (pos (greatest_width base))

-- the type whose width is this constant: the place is that of the type, and that of the width
abbrev pub sized_type : Base → Span → Span → Constant → Result Ty Refusal
sized_type base place width_place c =
    go_on (whole_at width_place c) (λ z.
    where_allowed (is_width base z) WidthRange width_place (
    type_at place (type_of_width base (unsigned_abs z))))
