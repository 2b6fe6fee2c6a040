-- What a value of the code is: the value with its type that the definitions of runs speak of.
use Rattle.std.specs.Prelude.{Bool, true, false, if◌then◌else◌}
use Rattle.word_arith.specs.declared.word_ty.WordTy.{WordTy}
use Rattle.qasm_types.specs.declared.ty.Ty.{Ty}
use Rattle.qasm_types.specs.declared.ty.Ty.TheVariants as t
use Rattle.qasm_types.specs.Values.{Truth, Number}
use Rattle.const_eval.specs.declared.constant.AngleCount.{AngleCount}
use Rattle.const_eval.specs.Constant.{Constant, whole, part_of_pi, register_of, angle_of}
use Rattle.const_eval.specs.Values.{typed}
use Rattle.source_values.specs.declared.value.TypedValue.{TypedValue}
use Rattle.source_values.specs.declared.value.TypedValue.TheVariants as v

abbrev pub word_type : WordTy → Ty
word_type ty = if ty.signed then t.Int ty.width else t.Uint ty.width

abbrev pub seen_angle : AngleCount → Constant
seen_angle angle = angle_of angle.width angle.count

abbrev pub seen : TypedValue → Constant
seen (v.Bool b) = typed t.Bool (Truth b)
seen (v.Bit b) = typed t.Bit (Truth b)
seen (v.Bits register) = register_of register.bits.items
seen (v.Word word) = typed (word_type word.ty) (Number word.number)
seen (v.Angle angle) = seen_angle angle
seen (v.Whole number) = whole number.number
seen (v.Pi part) = part_of_pi part

-- the types that variables have, which are those that can be written
abbrev pub is_written : Ty → Bool
is_written t.Turn = false
is_written t.Whole = false
is_written t.Pi = false
is_written _ = true
