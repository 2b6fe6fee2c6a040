-- Values worked by hand: of casts, and of operators.
use Rattle.std.specs.Prelude.{◌≡◌, true, false, [], ◌∷◌, pos, negsuc, Some, None}
use Rattle.qasm_ast.specs.declared.expr.BinaryOp.TheVariants as op
use Rattle.qasm_ast.specs.declared.expr.UnaryOp.TheVariants as unary
use Rattle.angle_arith.specs.Fraction.{fraction_of}
use Rattle.qasm_types.specs.declared.ty.Ty.TheVariants as t
use Rattle.qasm_types.specs.Values.{Truth, Register, Number, Count, Units, PartOfPi, cast, taken, apply, apply_unary}

-- casts, and what an operator takes
pub record WorkedCasts : Type 0 where
  -- `true` at `int[1]` is -1, -9 at `int[4]` is 7, and 200 of `uint[8]` at `int[8]` is -56
  pub truth_at_a_word : cast t.Bit (Truth true) (t.Int 1) ≡ Some (Number (negsuc 0))
  pub constant_at_a_word : cast t.Whole (Number (negsuc 8)) (t.Int 4) ≡ Some (Number (pos 7))
  pub word_at_a_word : cast (t.Uint 8) (Number (pos 200)) (t.Int 8) ≡ Some (Number (negsuc 55))
  -- 6 as bits, the lowest first; those bits as `int[2]`; no bit is set
  pub word_at_bits : cast (t.Int 4) (Number (pos 6)) (t.Bits 4) ≡ Some (Register (false ∷ true ∷ true ∷ false ∷ []))
  pub bits_at_a_word : cast (t.Bits 4) (Register (false ∷ true ∷ true ∷ false ∷ [])) (t.Int 2) ≡ Some (Number (negsuc 1))
  pub no_bits_at_bool : cast (t.Bits 0) (Register []) t.Bool ≡ Some (Truth false)
  -- 5 of `angle[3]` at 5 and at 2 bits; -1/2 of pi at 4 bits is 12; a third of pi has no count
  pub wider_angle : cast (t.Angle 3) (Count 5) (t.Angle 5) ≡ Some (Count 20)
  pub narrower_angle : cast (t.Angle 3) (Count 5) (t.Angle 2) ≡ Some (Count 2)
  pub part_at_an_angle : cast t.Pi (PartOfPi (fraction_of (negsuc 0) (pos 2))) (t.Angle 4) ≡ Some (Count 12)
  pub third_at_an_angle : cast t.Pi (PartOfPi (fraction_of (pos 1) (pos 3))) (t.Angle 4) ≡ None
  pub part_beside_a_turn : taken t.Pi (PartOfPi (fraction_of (pos 512) (pos 1))) t.Turn ≡ Some (Units (pos 1099511627776))
  pub part_too_large : taken t.Pi (PartOfPi (fraction_of (pos 513) (pos 1))) t.Turn ≡ None

-- operators on values that are taken
pub record WorkedOperators : Type 0 where
  -- -7 / 2, -7 % 2 and -8 >> 1 at `int[8]`; -1 + 1 at `uint[64]`
  pub quotient : apply op.Divide (t.Int 8) (Number (negsuc 6)) (Number (pos 2)) ≡ Some (Number (negsuc 2))
  pub rest : apply op.Remainder (t.Int 8) (Number (negsuc 6)) (Number (pos 2)) ≡ Some (Number (negsuc 0))
  pub shift : apply op.ShiftRight (t.Int 8) (Number (negsuc 7)) (Number (pos 1)) ≡ Some (Number (negsuc 3))
  pub sum : apply op.Add (t.Uint 64) (Number (pos 18446744073709551615)) (Number (pos 1)) ≡ Some (Number (pos 0))
  -- constants are exact: 2 ** 64 is out of range, and so is an amount of -1
  pub power_out_of_range : apply op.Power t.Whole (Number (pos 2)) (Number (pos 64)) ≡ None
  pub amount_below_zero : apply op.ShiftLeft t.Whole (Number (pos 1)) (Number (negsuc 0)) ≡ None
  -- `~` of a bit and of bits
  pub complement_of_bits : apply_unary unary.Complement (t.Bits 2) (Register (false ∷ true ∷ [])) ≡ Some (Register (true ∷ false ∷ []))
  pub complement_of_a_bit : apply_unary unary.Complement t.Bit (Truth true) ≡ Some (Truth false)
  -- 1/6 + 1/3 is 1/2, 1/2 - 1/2 is 0/1, and 4 times 3/8 is 3/2: parts of pi stand in lowest terms
  pub parts_added : apply op.Add t.Pi (PartOfPi (fraction_of (pos 1) (pos 6))) (PartOfPi (fraction_of (pos 1) (pos 3))) ≡ Some (PartOfPi (fraction_of (pos 1) (pos 2)))
  pub parts_subtracted : apply op.Subtract t.Pi (PartOfPi (fraction_of (pos 1) (pos 2))) (PartOfPi (fraction_of (pos 1) (pos 2))) ≡ Some (PartOfPi (fraction_of (pos 0) (pos 1)))
  pub part_multiplied : apply op.Multiply t.Pi (Number (pos 4)) (PartOfPi (fraction_of (pos 3) (pos 8))) ≡ Some (PartOfPi (fraction_of (pos 3) (pos 2)))
  -- 2/3 over -4 is -1/6, whose denominator is above 0, and so it is below 1/4
  pub part_over_a_negative : apply op.Divide t.Pi (PartOfPi (fraction_of (pos 2) (pos 3))) (Number (negsuc 3)) ≡ Some (PartOfPi (fraction_of (negsuc 0) (pos 6)))
  pub negative_part_compared : apply op.Less t.Bool (PartOfPi (fraction_of (negsuc 0) (pos 6))) (PartOfPi (fraction_of (pos 1) (pos 4))) ≡ Some (Truth true)
  -- 2^62 is in range, and twice that is not; nor is 1/2^62 over 3
  pub part_too_great : apply op.Multiply t.Pi (PartOfPi (fraction_of (pos 4611686018427387904) (pos 1))) (Number (pos 2)) ≡ None
  pub part_too_fine : apply op.Divide t.Pi (PartOfPi (fraction_of (pos 1) (pos 4611686018427387904))) (Number (pos 3)) ≡ None
  pub part_over_zero : apply op.Divide t.Pi (PartOfPi (fraction_of (pos 1) (pos 2))) (Number (pos 0)) ≡ None
  -- 1/2 of pi is more than 1/3 of it
  pub parts_compared : apply op.Greater t.Bool (PartOfPi (fraction_of (pos 1) (pos 2))) (PartOfPi (fraction_of (pos 1) (pos 3))) ≡ Some (Truth true)
