-- Constants. They are those of compile-time constants in the OpenQASM 3.0 specification, "Types and Casting", with the
-- exactness of this profile: whole numbers and fractions of pi are exact.
use Rattle.std.specs.Prelude.{ℕ, Bool, true, false, List, [], length, ℤ, pos}
use Rattle.angle_arith.specs.Fraction.{Fraction}
use Rattle.qasm_types.specs.declared.ty.Ty.{Ty}
use Rattle.qasm_types.specs.declared.ty.Ty.TheVariants as t
use Rattle.qasm_types.specs.Values.{Value, Truth, Register, Number, Count, PartOfPi, number_of}

-- A constant has a type and a value of it: a whole number, a part of pi, a truth value (which is a `bit`), bits, or
-- an angle.
pub record Constant : Type 0 where
  pub type : Ty
  pub value : Value

abbrev pub whole : ℤ → Constant
whole z = record { type = t.Whole; value = Number z }

abbrev pub part_of_pi : Fraction → Constant
part_of_pi f = record { type = t.Pi; value = PartOfPi f }

abbrev pub truth_value : Bool → Constant
truth_value b = record { type = t.Bit; value = Truth b }

-- bits, that of index 0 first
abbrev pub register_of : List Bool → Constant
register_of bits = record { type = t.Bits (length bits); value = Register bits }

abbrev pub angle_of : ℕ → ℕ → Constant
angle_of width count = record { type = t.Angle width; value = Count count }

-- ---- kinds

abbrev pub is_whole : Constant → Bool
is_whole c = of c.type
  where
    of : Ty → Bool
    of t.Whole = true
    of _ = false

abbrev pub is_part_of_pi : Constant → Bool
is_part_of_pi c = of c.type
  where
    of : Ty → Bool
    of t.Pi = true
    of _ = false

-- what index brackets may follow
abbrev pub is_register : Constant → Bool
is_register c = of c.type
  where
    of : Ty → Bool
    of (t.Bits n) = true
    of _ = false

-- the value of a whole constant; another has none, and 0 stands for it
abbrev pub whole_in : Constant → ℤ
whole_in c = of c.type c.value
  where
    of : Ty → Value → ℤ
    of t.Whole x = number_of x
    of _ x = pos 0

-- the bits of a register, that of index 0 first; of another value none
abbrev pub bits_in : Constant → List Bool
bits_in c = of c.value
  where
    of : Value → List Bool
    of (Register bits) = bits
    of _ = []
