-- The values of the types, and what casts and operators give: the rows of the two tables on whole numbers without bound, with one reduction at the end. It is the arithmetic of the OpenQASM 3.0 specification, "Classical instructions", with wrapping at each width.
use Rattle.std.specs.Prelude.{◌≡◌, ℕ, zero, suc, ◌+◌, ◌-◌, ◌*◌, ◌/◌, ◌^◌, ◌<◌, Bool, true, false, not, nat_le, ◌&&◌, ◌||◌, if◌then◌else◌, List, [], ◌∷◌, length, ℤ, pos, neg_ℤ, ◌+ℤ◌, ◌-ℤ◌, ◌*ℤ◌, ◌≤ℤ◌, int_div, int_rem, int_le, int_lt, unsigned_abs, Option, Some, None}
use Rattle.std.specs.Int.{int_div_euclid, int_rem_euclid}
use Rattle.std.specs.Option.{option_map, option_and_then}
use Rattle.std.specs.Ordering.{int_eq}
use Rattle.qasm_ast.specs.declared.expr.BinaryOp.{BinaryOp}
use Rattle.qasm_ast.specs.declared.expr.BinaryOp.TheVariants as op
use Rattle.qasm_ast.specs.declared.expr.UnaryOp.{UnaryOp}
use Rattle.qasm_ast.specs.declared.expr.UnaryOp.TheVariants as unary
use Rattle.word_arith.specs.Whole.{int_and, int_or, int_xor}
use Rattle.word_arith.specs.WordTy.{least_value, greatest_value, value_modulo}
use Rattle.angle_arith.specs.Fraction.{Fraction, IsLowestTerms, negative_of, sum_of, difference_of, product_of, quotient_of, parts_of}
use Rattle.angle_arith.specs.Lowest.{in_lowest_terms, is_small}
use Rattle.qasm_types.specs.declared.ty.Ty.{Ty}
use Rattle.qasm_types.specs.declared.ty.Ty.TheVariants as t
use Rattle.qasm_types.specs.Types.{IsWholeConstant}

-- a value
pub data Value : Type 0 where
  -- of `bool` and `bit`
  Truth : (holds : Bool) → Value
  -- of `bit[n]`: the bits, that of index 0 first. A string of bits is written the other way round.
  Register : (bits : List Bool) → Value
  -- of a word, and a whole constant
  Number : (number : ℤ) → Value
  -- of `angle[n]`, in parts of which a turn has 2 ^ n
  Count : (count : ℕ) → Value
  -- of a turn, in units of 2 ^ -32 turn
  Units : (units : ℤ) → Value
  -- a constant, as a part of pi in lowest terms
  PartOfPi : (part : Fraction) → Value

-- the values of a type
abbrev pub IsValueOf : Ty → Value → Type 0
IsValueOf t.Bool (Truth b) = Unit {0}
IsValueOf t.Bit (Truth b) = Unit {0}
IsValueOf (t.Bits n) (Register bits) = length bits ≡ n
IsValueOf (t.Int n) (Number z) = (least_value true n ≤ℤ z) × (z ≤ℤ greatest_value true n)
IsValueOf (t.Uint n) (Number z) = (least_value false n ≤ℤ z) × (z ≤ℤ greatest_value false n)
IsValueOf (t.Angle n) (Count c) = c < 2 ^ n
IsValueOf t.Turn (Units z) = (least_value true 64 ≤ℤ z) × (z ≤ℤ greatest_value true 64)
IsValueOf t.Whole (Number z) = IsWholeConstant z
IsValueOf t.Pi (PartOfPi p) = IsLowestTerms p
IsValueOf _ _ = ⊥

-- ---- values and whole numbers

abbrev pub number_of_truth : Bool → ℕ
number_of_truth b = if b then 1 else 0

-- the number whose bits these are, the lowest first
abbrev pub number_of_bits : List Bool → ℕ
number_of_bits [] = 0
number_of_bits (b ∷ bits) = number_of_truth b + 2 * number_of_bits bits

-- the lowest n bits of a number in two's complement, the lowest first
abbrev pub is_odd : ℤ → Bool
is_odd z = int_eq (int_rem_euclid z (pos 2)) (pos 1)

abbrev pub bits_of : ℕ → ℤ → List Bool
bits_of zero z = []
bits_of (suc n) z = is_odd z ∷ bits_of n (int_div_euclid z (pos 2))

-- a value as a whole number; a part of pi is none, and 0 stands for it
abbrev pub number_of : Value → ℤ
number_of (Truth b) = pos (number_of_truth b)
number_of (Register bits) = pos (number_of_bits bits)
number_of (Number z) = z
number_of (Count c) = pos c
number_of (Units z) = z
number_of (PartOfPi p) = pos 0

abbrev pub is_constant : ℤ → Bool
is_constant z = int_le (neg_ℤ (pos (2 ^ 63))) z && int_lt z (pos (2 ^ 64))

-- The value of a type to which a whole number reduces: modulo 2 ^ n for what has n bits, modulo 2 ^ 64 for a turn. A whole constant is not reduced, and there is none outside their range.
abbrev pub reduced_to : Ty → ℤ → Option Value
reduced_to t.Bool z = Some (Truth (is_odd z))
reduced_to t.Bit z = Some (Truth (is_odd z))
reduced_to (t.Bits n) z = Some (Register (bits_of n z))
reduced_to (t.Int n) z = Some (Number (value_modulo true n z))
reduced_to (t.Uint n) z = Some (Number (value_modulo false n z))
reduced_to (t.Angle n) z = Some (Count (unsigned_abs (int_rem_euclid z (pos (2 ^ n)))))
reduced_to t.Turn z = Some (Units (value_modulo true 64 z))
reduced_to t.Whole z = if is_constant z then Some (Number z) else None
reduced_to t.Pi z = None

-- the whole number that a fraction is, if it is one
abbrev pub whole_of : Fraction → Option ℤ
whole_of p = if int_eq (int_rem p.num p.den) (pos 0) then Some (int_div p.num p.den) else None

-- the units of a part of pi: where they are whole, and at most 2 ^ 40 in size
abbrev pub units_of : Fraction → Option Value
units_of p = option_and_then (λ z. if nat_le (unsigned_abs z) (2 ^ 40) then Some (Units z) else None) (whole_of (parts_of p 32))

-- ---- casts

-- an angle of m bits at a width of n: times 2 ^ (n - m), or without its lowest m - n bits
abbrev pub count_at : ℕ → ℕ → ℕ → ℕ
count_at m n c = if nat_le m n then c * 2 ^ (n - m) else c / 2 ^ (m - n)

-- The value of x, of the first type, cast to the second, where the table has the row. There is none for a whole constant other than 0 at an angle, and for a part of pi whose count is not whole.
abbrev pub cast : Ty → Value → Ty → Option Value
-- to `bool`: whether it is not 0, of a register whether some bit is 1
cast a x t.Bool = Some (Truth (not (int_eq (number_of x) (pos 0))))
-- angles among each other
cast (t.Angle m) (Count c) (t.Angle n) = Some (Count (count_at m n c))
-- a whole constant at an angle
cast t.Whole (Number z) (t.Angle n) = if int_eq z (pos 0) then Some (Count 0) else None
-- a part of pi at an angle: its parts of the turn, modulo 2 ^ n
cast t.Pi (PartOfPi p) (t.Angle n) = option_and_then (reduced_to (t.Angle n)) (whole_of (parts_of p n))
cast t.Pi x t.Pi = Some x
-- all else: the number, modulo 2 ^ n; between `bit[n]` and `angle[n]`, and from a word to `bit[n]`, that is the same pattern
cast a x b = reduced_to b (number_of x)

-- the value of an operand at the type at which an operator takes it: a part of pi beside a turn is its units
abbrev pub taken : Ty → Value → Ty → Option Value
taken t.Pi (PartOfPi p) t.Turn = units_of p
taken a x b = cast a x b

-- ---- operators on values that are taken

abbrev pub power : ℤ → ℕ → ℤ
power x zero = pos 1
power x (suc n) = x *ℤ power x n

-- where the number is not 0, and where it is not below 0
abbrev pub where_divisor : ℤ → ℤ → Option ℤ
where_divisor y z = if int_eq y (pos 0) then None else Some z

abbrev pub where_amount : ℤ → ℤ → Option ℤ
where_amount y z = if int_lt y (pos 0) then None else Some z

-- what an operator gives on whole numbers without bound: `/` truncates, `%` has the sign of the dividend, `>>` rounds down, and `&`, `|`, `^` act on two's complement without end
abbrev pub result_on_numbers : BinaryOp → ℤ → ℤ → Option ℤ
result_on_numbers op.Add x y = Some (x +ℤ y)
result_on_numbers op.Subtract x y = Some (x -ℤ y)
result_on_numbers op.Multiply x y = Some (x *ℤ y)
result_on_numbers op.Divide x y = where_divisor y (int_div x y)
result_on_numbers op.Remainder x y = where_divisor y (int_rem x y)
result_on_numbers op.ShiftLeft x y = where_amount y (x *ℤ pos (2 ^ unsigned_abs y))
result_on_numbers op.ShiftRight x y = where_amount y (int_div_euclid x (pos (2 ^ unsigned_abs y)))
result_on_numbers op.BitAnd x y = Some (int_and x y)
result_on_numbers op.BitOr x y = Some (int_or x y)
result_on_numbers op.BitXor x y = Some (int_xor x y)
result_on_numbers op.Power x y = where_amount y (power x (unsigned_abs y))
result_on_numbers _ x y = None

-- what a comparison, `&&` or `||` says of two whole numbers; of truth values the numbers are 0 and 1
abbrev pub test_on_numbers : BinaryOp → ℤ → ℤ → Option Bool
test_on_numbers op.Equal x y = Some (int_eq x y)
test_on_numbers op.NotEqual x y = Some (not (int_eq x y))
test_on_numbers op.Less x y = Some (int_lt x y)
test_on_numbers op.LessEqual x y = Some (int_le x y)
test_on_numbers op.Greater x y = Some (int_lt y x)
test_on_numbers op.GreaterEqual x y = Some (int_le y x)
test_on_numbers op.And x y = Some (int_eq x (pos 1) && int_eq y (pos 1))
test_on_numbers op.Or x y = Some (int_eq x (pos 1) || int_eq y (pos 1))
test_on_numbers _ x y = None

-- A part of pi in lowest terms, with a denominator above 0. There is none outside the range of constants.
abbrev pub part_in_range : Fraction → Option Value
part_in_range p = if is_small (in_lowest_terms p) then Some (PartOfPi (in_lowest_terms p)) else None

-- what an operator gives on parts of pi, or on one and a whole constant
abbrev pub result_on_parts : BinaryOp → Value → Value → Option Value
result_on_parts op.Add (PartOfPi p) (PartOfPi q) = part_in_range (sum_of p q)
result_on_parts op.Subtract (PartOfPi p) (PartOfPi q) = part_in_range (difference_of p q)
result_on_parts op.Multiply (PartOfPi p) (Number z) = part_in_range (product_of p z)
result_on_parts op.Multiply (Number z) (PartOfPi p) = part_in_range (product_of p z)
result_on_parts op.Divide (PartOfPi p) (Number z) = option_and_then (λ k. part_in_range (quotient_of p k)) (where_divisor z z)
result_on_parts o (PartOfPi p) (PartOfPi q) = option_map Truth (test_on_numbers o (p.num *ℤ q.den) (q.num *ℤ p.den))
result_on_parts _ x y = None

-- The value of an operator with a result of this type, on values at the types at which it takes them. There is none where a divisor is 0, an amount or an exponent is below 0, or a constant is out of range.
abbrev pub apply : BinaryOp → Ty → Value → Value → Option Value
apply o r (PartOfPi p) y = result_on_parts o (PartOfPi p) y
apply o r x (PartOfPi q) = result_on_parts o x (PartOfPi q)
apply o t.Bool x y = option_map Truth (test_on_numbers o (number_of x) (number_of y))
apply o r x y = option_and_then (reduced_to r) (result_on_numbers o (number_of x) (number_of y))

-- The value of a unary operator with a result of this type. `~x` is -x - 1.
abbrev pub apply_unary : UnaryOp → Ty → Value → Option Value
apply_unary unary.Not r x = Some (Truth (int_eq (number_of x) (pos 0)))
apply_unary unary.Complement r x = reduced_to r (neg_ℤ (number_of x) -ℤ pos 1)
apply_unary unary.Negate r (PartOfPi p) = Some (PartOfPi (negative_of p))
apply_unary unary.Negate r x = reduced_to r (neg_ℤ (number_of x))

-- the value of an operator on operands of types a and b that it takes at types l and r, with a result of type m
abbrev pub result_of : BinaryOp → Ty → Value → Ty → Value → Ty → Ty → Ty → Option Value
result_of o a x b y l r m = option_and_then (λ p. option_and_then (apply o m p) (taken b y r)) (taken a x l)
