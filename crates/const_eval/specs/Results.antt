-- The range of constants. Each result is asked for it: a whole number lies from -2^63 to 2^64 - 1, and a fraction of pi
-- has in lowest terms a numerator and a denominator of at most 2^62 in size. An operator has no value outside.
use Rattle.std.specs.Prelude.{Option, Some, None, Result, Ok}
use Rattle.qq_base.specs.declared.refusal.Refusal.{Refusal}
use Rattle.qq_base.specs.declared.refusal.Span.{Span}
use Rattle.qq_base.specs.declared.rule.Rule.TheVariants.{ConstRange}
use Rattle.qasm_types.specs.declared.ty.Ty.{Ty}
use Rattle.qasm_types.specs.declared.ty.Ty.TheVariants as t
use Rattle.qasm_types.specs.Values.{Value}
use Rattle.const_eval.specs.Constant.{Constant}
use Rattle.const_eval.specs.Refusing.{refused}

-- The type that a constant has where its value has some type: a word is a whole number again, and a truth value a `bit`.
abbrev pub kept_type : Ty → Ty
kept_type t.Bool = t.Bit
kept_type (t.Int n) = t.Whole
kept_type (t.Uint n) = t.Whole
kept_type type = type

-- a value of a type as a constant
abbrev pub constant_of_value : Ty → Value → Constant
constant_of_value type x = record { type = kept_type type; value = x }

-- what is out of range is no value
abbrev pub constant_in_range : Span → Ty → Option Value → Result Constant Refusal
constant_in_range place type None = refused ConstRange place
constant_in_range place type (Some x) = Ok (constant_of_value type x)
