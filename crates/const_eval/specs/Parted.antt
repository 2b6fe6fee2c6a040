-- Serves private contracts alone: operators on fractions of pi.
use Rattle.std.specs.Prelude.{Bool, true, false, ◌||◌, Result, Ok, Err}
use Rattle.angle_arith.specs.Fraction.{Fraction, IsInRange, IsLowestTerms, IsSameFraction}
use Rattle.angle_arith.specs.declared.fraction.AngleRefusal.{AngleRefusal}
use Rattle.qasm_types.specs.declared.ty.Ty.{Ty}
use Rattle.qasm_types.specs.declared.ty.Ty.TheVariants as t
use Rattle.qasm_types.specs.Operators.{Group, Sum, Equality, Order}

abbrev pub is_pi : Ty → Bool
is_pi t.Pi = true
is_pi _ = false

-- an operand is taken as a fraction of pi
abbrev pub has_part : Ty × Ty × Ty → Bool
has_part row = is_pi row.0 || is_pi row.1

-- the operators on two fractions
abbrev pub takes_parts : Group → Bool
takes_parts Sum = true
takes_parts Equality = true
takes_parts Order = true
takes_parts _ = false

-- the type of what they give
abbrev pub part_type : Group → Ty
part_type Equality = t.Bool
part_type Order = t.Bool
part_type _ = t.Pi

-- an exact result in lowest terms, or none in range
abbrev pub IsResult : Fraction → Result Fraction AngleRefusal → Type 0
IsResult f (Ok g) = IsSameFraction g f × IsLowestTerms g
IsResult f (Err e) = ¬ IsInRange f
