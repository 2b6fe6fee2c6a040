-- Constant expressions worked by hand: what they are worth, or the rule that they break and where.
use Rattle.std.specs.Prelude.{◌≡◌, ℕ, ◌^◌, Bool, true, false, List, [], ◌∷◌, pos, negsuc, neg_ℤ, Result, Ok, codes, nat_eq}
use Rattle.std.specs.Cmp.Lexicographic.{pointwise}
use Rattle.std.specs.Map.{lookup}
use Rattle.std.specs.Option.{unwrap_or}
use Rattle.qq_base.specs.declared.refusal.Refusal.{Refusal}
use Rattle.qq_base.specs.declared.refusal.Span.{Span}
use Rattle.qq_base.specs.declared.rule.Rule.TheVariants.{Unknown, WrongKind, WidthRange, TypeMismatch, NoCast, NotConstant, ConstRange, ConstDivide, NotPiMultiple, NotDyadic, IndexRange, StepZero, ShiftRange, CallPlace}
use Rattle.qasm_ast.specs.declared.expr.Base.TheVariants as base
use Rattle.qasm_ast.specs.declared.expr.BinaryOp.{BinaryOp}
use Rattle.qasm_ast.specs.declared.expr.BinaryOp.TheVariants as op
use Rattle.qasm_ast.specs.declared.expr.UnaryOp.TheVariants as unary_op
use Rattle.qasm_ast.specs.Tree.{word, Tree, named, wire, number, truth, bit_string, unary, binary, cast, call, no_tree, a_tree, absent, present, Bracket, position, range, members, Brackets, no_bracket, a_bracket}
use Rattle.angle_arith.specs.Fraction.{fraction_of}
use Rattle.qasm_types.specs.declared.ty.Ty.TheVariants as t
use Rattle.const_eval.specs.Constant.{Constant, whole, part_of_pi, truth_value, register_of, angle_of}
use Rattle.const_eval.specs.Meaning.{Meaning, Held, Running, OtherThing, Nothing}
use Rattle.const_eval.specs.Refusing.{refused}
use Rattle.const_eval.specs.ConstCast.{cast_of_constant}
use Rattle.const_eval.specs.IsConstant.{is_constant}
use Rattle.const_eval.specs.ConstValue.{constant_value}

-- a column of the first line
abbrev pub at : ℕ → Span
at column = record { line = 1; column = column }

-- pi; a constant `"0110"` of `bit[4]`; a constant 5 of `angle[4]`; a whole constant 3; a variable; a gate
abbrev pub names_of_rows : List (List ℕ × Meaning)
names_of_rows =
    (codes "pi", Held (part_of_pi (fraction_of (pos 1) (pos 1))))
    ∷ (codes "b", Held (register_of (false ∷ true ∷ true ∷ false ∷ [])))
    ∷ (codes "a", Held (angle_of 4 5))
    ∷ (codes "k", Held (whole (pos 3)))
    ∷ (codes "x", Running)
    ∷ (codes "h", OtherThing)
    ∷ []

abbrev pub means : List ℕ → Meaning
means text = unwrap_or (lookup (pointwise nat_eq text) names_of_rows) Nothing

-- ---- expressions, by the columns at which they begin

abbrev pub name : List ℕ → ℕ → Tree
name text column = named (word text) no_bracket (at column) (at column)

abbrev pub indexed : List ℕ → ℕ → Brackets → Tree
indexed text column index = named (word text) index (at column) (at column)

abbrev pub one : Bracket → Brackets
one b = a_bracket b no_bracket

abbrev pub pi_at : ℕ → Tree
pi_at column = name (codes "pi") column

abbrev pub num : ℕ → ℕ → Tree
num n column = number n (at column)

abbrev pub minus : Tree → ℕ → Tree
minus a column = unary unary_op.Negate a (at column)

abbrev pub two : BinaryOp → Tree → Tree → ℕ → Tree
two o a b column = binary o a b (at column)

abbrev pub bits : List Bool → ℕ → Tree
bits bs column = bit_string bs (at column)

abbrev pub value : Tree → Result Constant Refusal
value a = constant_value means false a

abbrev pub exact_value : Tree → Result Constant Refusal
exact_value a = constant_value means true a

pub record WorkedNumbers : Type 0 where
  -- `pi/2**(3-1)`
  pub quarter : exact_value (two op.Divide (pi_at 1) (two op.Power (num 2 4) (two op.Subtract (num 3 8) (num 1 10) 8) 4) 1) ≡ Ok (part_of_pi (fraction_of (pos 1) (pos 4)))
  -- `-7/2`, and where no remainder may be left
  pub quotient : value (two op.Divide (minus (num 7 2) 1) (num 2 4) 1) ≡ Ok (whole (negsuc 2))
  pub quotient_exact : exact_value (two op.Divide (minus (num 7 2) 1) (num 2 4) 1) ≡ refused ConstDivide (at 4)
  -- `-2**63`, `2**64`, `pi*pi`, `1 << -1`
  pub least : value (minus (two op.Power (num 2 2) (num 63 5) 2) 1) ≡ Ok (whole (neg_ℤ (pos (2 ^ 63))))
  pub too_great : value (two op.Power (num 2 1) (num 64 4) 1) ≡ refused ConstRange (at 1)
  pub pi_by_pi : value (two op.Multiply (pi_at 1) (pi_at 4) 1) ≡ refused NotPiMultiple (at 1)
  pub amount : value (two op.ShiftLeft (num 1 1) (minus (num 1 7) 6) 1) ≡ refused ShiftRange (at 6)
  -- `-7 % 2`, `2 ** -1`, `2 % 0`, `-8 >> 1`, `~0`
  pub rest : value (two op.Remainder (minus (num 7 2) 1) (num 2 6) 1) ≡ Ok (whole (negsuc 0))
  pub exponent : value (two op.Power (num 2 1) (minus (num 1 7) 6) 1) ≡ refused ConstRange (at 1)
  pub no_divisor : value (two op.Remainder (num 2 1) (num 0 5) 1) ≡ refused ConstDivide (at 5)
  pub shifted : value (two op.ShiftRight (minus (num 8 2) 1) (num 1 7) 1) ≡ Ok (whole (negsuc 3))
  pub complement : value (unary unary_op.Complement (num 0 2) (at 1)) ≡ Ok (whole (negsuc 0))
  -- `pi/-2 + pi/3`, `pi > 3`, `2*pi == pi*2`
  pub sum_of_parts : value (two op.Add (two op.Divide (pi_at 1) (minus (num 2 5) 4) 1) (two op.Divide (pi_at 9) (num 3 12) 9) 1) ≡ Ok (part_of_pi (fraction_of (negsuc 0) (pos 6)))
  pub pi_and_number : value (two op.Greater (pi_at 1) (num 3 6) 1) ≡ refused NotPiMultiple (at 1)
  pub same_parts : value (two op.Equal (two op.Multiply (num 2 1) (pi_at 3) 1) (two op.Multiply (pi_at 9) (num 2 12) 9) 1) ≡ Ok (truth_value true)
  -- `true & 5`, `true + 1`, `"11" == 3`, `"01" < "10"`
  pub truth_and_number : value (two op.BitAnd (truth true (at 1)) (num 5 8) 1) ≡ Ok (whole (pos 1))
  pub truth_and_sum : value (two op.Add (truth true (at 1)) (num 1 8) 1) ≡ refused TypeMismatch (at 1)
  pub bits_and_number : value (two op.Equal (bits (true ∷ true ∷ []) 1) (num 3 9) 1) ≡ Ok (truth_value true)
  pub bits_in_order : value (two op.Less (bits (false ∷ true ∷ []) 1) (bits (true ∷ false ∷ []) 8) 1) ≡ Ok (truth_value true)
  -- `a + pi/8`, `a + pi/3`, `a / 2`, where `a` is 5 of `angle[4]`
  pub angle_and_part : value (two op.Add (name (codes "a") 1) (two op.Divide (pi_at 5) (num 8 8) 5) 1) ≡ Ok (angle_of 4 6)
  pub angle_and_third : value (two op.Add (name (codes "a") 1) (two op.Divide (pi_at 5) (num 3 8) 5) 1) ≡ refused NotDyadic (at 5)
  pub half_an_angle : exact_value (two op.Divide (name (codes "a") 1) (num 2 5) 1) ≡ Ok (angle_of 4 2)

-- more of numbers, each in one line: the ranges, the rule of pi, amounts that are large, and what exactness reaches
pub record WorkedRanges : Type 0 where
  -- `18446744073709551615 + 1`, `-9223372036854775808 - 1`, `-18446744073709551615`, `~18446744073709551615`
  pub over : value (two op.Add (num 18446744073709551615 1) (num 1 24) 1) ≡ refused ConstRange (at 1)
  pub under : value (two op.Subtract (minus (num 9223372036854775808 2) 1) (num 1 24) 1) ≡ refused ConstRange (at 1)
  pub negative : value (minus (num 18446744073709551615 2) 1) ≡ refused ConstRange (at 1)
  pub turned : value (unary unary_op.Complement (num 18446744073709551615 2) (at 1)) ≡ refused ConstRange (at 1)
  -- `1 << 63`, `1 << 64`, `-1 >> 100`, `0 ** 0`, `(-2) ** 3`
  pub far : value (two op.ShiftLeft (num 1 1) (num 63 6) 1) ≡ Ok (whole (pos 9223372036854775808))
  pub too_far : value (two op.ShiftLeft (num 1 1) (num 64 6) 1) ≡ refused ConstRange (at 1)
  pub all_out : value (two op.ShiftRight (minus (num 1 2) 1) (num 100 7) 1) ≡ Ok (whole (negsuc 0))
  pub no_factor : value (two op.Power (num 0 1) (num 0 6) 1) ≡ Ok (whole (pos 1))
  pub odd_power : value (two op.Power (minus (num 2 3) 2) (num 3 9) 2) ≡ Ok (whole (negsuc 7))
  -- `-6 & 12`, `-6 | 1`, `-6 ^ 12`
  pub bits_in_both : value (two op.BitAnd (minus (num 6 2) 1) (num 12 6) 1) ≡ Ok (whole (pos 8))
  pub bits_in_one : value (two op.BitOr (minus (num 6 2) 1) (num 1 6) 1) ≡ Ok (whole (negsuc 4))
  pub bits_that_differ : value (two op.BitXor (minus (num 6 2) 1) (num 12 6) 1) ≡ Ok (whole (negsuc 9))
  -- `pi + 1`, `2 / pi`, `pi % 2`, `pi ** 2`, `~pi`, `pi && true`, `!pi`, `1 << pi`
  pub pi_and_one : value (two op.Add (pi_at 1) (num 1 6) 1) ≡ refused NotPiMultiple (at 1)
  pub over_pi : value (two op.Divide (num 2 1) (pi_at 5) 1) ≡ refused NotPiMultiple (at 1)
  pub rest_of_pi : value (two op.Remainder (pi_at 1) (num 2 6) 1) ≡ refused NotPiMultiple (at 1)
  pub power_of_pi : value (two op.Power (pi_at 1) (num 2 7) 1) ≡ refused NotPiMultiple (at 1)
  pub complement_of_pi : value (unary unary_op.Complement (pi_at 2) (at 1)) ≡ refused NotPiMultiple (at 1)
  pub pi_and_truth : value (two op.And (pi_at 1) (truth true (at 7)) 1) ≡ refused NotPiMultiple (at 1)
  pub not_pi : value (unary unary_op.Not (pi_at 2) (at 1)) ≡ refused NotPiMultiple (at 1)
  pub amount_of_pi : value (two op.ShiftLeft (num 1 1) (pi_at 6) 1) ≡ refused NotPiMultiple (at 1)
  -- of several rules of one operator the least stands: `pi ** -1`, `pi % 0`, `1 / (pi - pi)`
  pub power_below_zero : value (two op.Power (pi_at 1) (minus (num 1 7) 6) 1) ≡ refused ConstRange (at 1)
  pub rest_by_zero : value (two op.Remainder (pi_at 1) (num 0 6) 1) ≡ refused ConstDivide (at 6)
  pub over_no_pi : value (two op.Divide (num 1 1) (two op.Subtract (pi_at 6) (pi_at 11) 6) 1) ≡ refused ConstDivide (at 6)
  -- `pi / 0`, `pi/2/3`, `(pi/4611686018427387904)/2`, whose denominator would be 2^63
  pub pi_over_zero : value (two op.Divide (pi_at 1) (num 0 6) 1) ≡ refused ConstDivide (at 6)
  pub sixth : exact_value (two op.Divide (two op.Divide (pi_at 1) (num 2 4) 1) (num 3 6) 1) ≡ Ok (part_of_pi (fraction_of (pos 1) (pos 6)))
  pub small_part : value (two op.Divide (two op.Divide (pi_at 2) (num 4611686018427387904 5) 2) (num 2 26) 2) ≡ refused ConstRange (at 2)
  -- `7/0` where no remainder may be left, `6/3`, and `int[3/2](1)`
  pub zero_exact : exact_value (two op.Divide (num 7 1) (num 0 3) 1) ≡ refused ConstDivide (at 3)
  pub no_rest : exact_value (two op.Divide (num 6 1) (num 3 3) 1) ≡ Ok (whole (pos 2))
  pub exact_width : exact_value (cast base.Int (present (two op.Divide (num 3 5) (num 2 7) 5)) (at 1) (num 1 10) (at 1)) ≡ refused ConstDivide (at 7)
  -- the left operand's rule comes first: `(1/0) + (2**64)`
  pub first : value (two op.Add (two op.Divide (num 1 2) (num 0 4) 2) (two op.Power (num 2 10) (num 64 13) 10) 2) ≡ refused ConstDivide (at 4)

-- bits and truth values
pub record WorkedBits : Type 0 where
  -- the rightmost character is index 0: `"0011"` has the ones first, and is 3; `"0011" << 1`, `"0011" >> 1`, `~"0011"`
  pub lowest_first : value (bits (false ∷ false ∷ true ∷ true ∷ []) 1) ≡ Ok (register_of (true ∷ true ∷ false ∷ false ∷ []))
  pub as_number : value (two op.Equal (bits (false ∷ false ∷ true ∷ true ∷ []) 1) (num 3 11) 1) ≡ Ok (truth_value true)
  pub moved_left : value (two op.ShiftLeft (bits (false ∷ false ∷ true ∷ true ∷ []) 1) (num 1 11) 1) ≡ Ok (register_of (false ∷ true ∷ true ∷ false ∷ []))
  pub moved_right : value (two op.ShiftRight (bits (false ∷ false ∷ true ∷ true ∷ []) 1) (num 1 11) 1) ≡ Ok (register_of (true ∷ false ∷ false ∷ false ∷ []))
  pub turned : value (unary unary_op.Complement (bits (false ∷ false ∷ true ∷ true ∷ []) 2) (at 1)) ≡ Ok (register_of (false ∷ false ∷ true ∷ true ∷ []))
  -- bits of other widths do not meet, and have no sum: `"01" & "001"`, `"01" + 1`
  pub other_width : value (two op.BitAnd (bits (false ∷ true ∷ []) 1) (bits (false ∷ false ∷ true ∷ []) 8) 1) ≡ refused TypeMismatch (at 1)
  pub no_sum : value (two op.Add (bits (false ∷ true ∷ []) 1) (num 1 8) 1) ≡ refused TypeMismatch (at 1)
  -- `"11" == -1`, which is compared at `int[64]`; `"00" || true`; `!3`; `true < 2`
  pub beside_negative : value (two op.Equal (bits (true ∷ true ∷ []) 1) (minus (num 1 10) 9) 1) ≡ Ok (truth_value false)
  pub bits_or_truth : value (two op.Or (bits (false ∷ false ∷ []) 1) (truth true (at 9)) 1) ≡ Ok (truth_value true)
  pub not_three : value (unary unary_op.Not (num 3 2) (at 1)) ≡ Ok (truth_value false)
  pub truth_below_two : value (two op.Less (truth true (at 1)) (num 2 8) 1) ≡ Ok (truth_value true)

-- `b` is `"0110"`
pub record WorkedNames : Type 0 where
  -- `b[1:2]`, `b[-1]`, `b[{0, 2}]`
  pub slice : value (indexed (codes "b") 1 (one (range (present (num 1 3)) absent (present (num 2 5)) (at 3)))) ≡ Ok (register_of (true ∷ true ∷ []))
  pub single : value (indexed (codes "b") 1 (one (position (minus (num 1 4) 3)))) ≡ Ok (truth_value false)
  pub listed : value (indexed (codes "b") 1 (one (members (a_tree (num 0 4) (a_tree (num 2 7) no_tree))))) ≡ Ok (register_of (false ∷ true ∷ []))
  -- `b[4]`, `b[{0, 4}]`, `b[3:0:0]`, `b[0][0]`, `b[pi]`
  pub outside : value (indexed (codes "b") 1 (one (position (num 4 3)))) ≡ refused IndexRange (at 3)
  pub listed_outside : value (indexed (codes "b") 1 (one (members (a_tree (num 0 4) (a_tree (num 4 7) no_tree))))) ≡ refused IndexRange (at 7)
  pub no_step : value (indexed (codes "b") 1 (one (range (present (num 3 3)) (present (num 0 5)) (present (num 0 7)) (at 3)))) ≡ refused StepZero (at 5)
  pub behind_single : value (indexed (codes "b") 1 (a_bracket (position (num 0 3)) (one (position (num 0 6))))) ≡ refused WrongKind (at 1)
  pub no_number : value (indexed (codes "b") 1 (one (position (pi_at 3)))) ≡ refused NoCast (at 3)
  -- `k[0]`, and a remainder in an index where none may be left: `b[3/2]`
  pub no_register : value (indexed (codes "k") 1 (one (position (num 0 3)))) ≡ refused WrongKind (at 1)
  pub exact_inside : exact_value (indexed (codes "b") 1 (one (position (two op.Divide (num 3 3) (num 2 5) 3)))) ≡ refused ConstDivide (at 5)
  -- `1 + x`, `b[x]`, `1 + y`, `1 + h`, `1 + h(x)`, `$0`
  pub variable : value (two op.Add (num 1 1) (name (codes "x") 5) 1) ≡ refused NotConstant (at 1)
  pub variable_inside : value (indexed (codes "b") 1 (one (position (name (codes "x") 3)))) ≡ refused NotConstant (at 1)
  pub unknown : value (two op.Add (num 1 1) (name (codes "y") 5) 1) ≡ refused Unknown (at 5)
  pub gate : value (two op.Add (num 1 1) (name (codes "h") 5) 1) ≡ refused WrongKind (at 5)
  pub called : value (two op.Add (num 1 1) (call (codes "h") (a_tree (name (codes "x") 7) no_tree) (at 5)) 1) ≡ refused CallPlace (at 5)
  pub wired : value (wire 0 (at 1)) ≡ refused WrongKind (at 1)
  -- which are constant
  pub is_one : is_constant means (two op.Add (name (codes "k") 1) (num 1 5) 1) ≡ true
  pub is_none : is_constant means (two op.Add (name (codes "k") 1) (name (codes "x") 5) 1) ≡ false
  pub is_no_call : is_constant means (call (codes "h") no_tree (at 1)) ≡ false

pub record WorkedCasts : Type 0 where
  -- `int[8](300)`, `uint[2](b)`, `bit[2](5)`, `angle[4](1)`, `angle[4](pi/3)`, `angle[4](-pi/2)`, `int(pi)`
  pub wrapped : value (cast base.Int (present (num 8 5)) (at 1) (num 300 8) (at 1)) ≡ Ok (whole (pos 44))
  pub bits_as_word : value (cast base.Uint (present (num 2 6)) (at 1) (name (codes "b") 9) (at 1)) ≡ Ok (whole (pos 2))
  pub no_pattern : value (cast base.Bit (present (num 2 5)) (at 1) (num 5 8) (at 1)) ≡ refused NoCast (at 1)
  pub no_multiple : value (cast base.Angle (present (num 4 7)) (at 1) (num 1 10) (at 1)) ≡ refused NotPiMultiple (at 1)
  pub third : value (cast base.Angle (present (num 4 7)) (at 1) (two op.Divide (pi_at 10) (num 3 13) 10) (at 1)) ≡ refused NotDyadic (at 1)
  pub negative : value (cast base.Angle (present (num 4 7)) (at 1) (two op.Divide (minus (pi_at 11) 10) (num 2 14) 10) (at 1)) ≡ Ok (angle_of 4 12)
  pub no_cast : value (cast base.Int absent (at 1) (pi_at 5) (at 1)) ≡ refused NoCast (at 1)
  -- `int[65](0)`, `int[pi](0)`, `int[x](0)`, and `1 + int[8](x)`
  pub too_wide : value (cast base.Int (present (num 65 5)) (at 1) (num 0 9) (at 1)) ≡ refused WidthRange (at 5)
  pub no_width : value (cast base.Int (present (pi_at 5)) (at 1) (num 0 9) (at 1)) ≡ refused NoCast (at 5)
  pub variable_width : value (cast base.Int (present (name (codes "x") 5)) (at 1) (num 0 8) (at 1)) ≡ refused NotConstant (at 1)
  pub variable_cast : value (two op.Add (num 1 1) (cast base.Int (present (num 8 9)) (at 5) (name (codes "x") 12) (at 5)) 1) ≡ refused NotConstant (at 1)
  -- constants that are cast to a declared type: -9 at `int[4]`, 3 at `angle[4]`, 5 of `angle[4]` at `angle[2]`
  pub declared_word : cast_of_constant (whole (negsuc 8)) (t.Int 4) (at 1) ≡ Ok (whole (pos 7))
  pub declared_angle : cast_of_constant (whole (pos 3)) (t.Angle 4) (at 1) ≡ refused NotPiMultiple (at 1)
  pub narrowed_angle : cast_of_constant (angle_of 4 5) (t.Angle 2) (at 1) ≡ Ok (angle_of 2 1)
