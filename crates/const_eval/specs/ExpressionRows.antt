-- Expressions worked by hand: what is known of them before the run with what they cost, the rules that they break and where, which
-- names are used in constant places, and values in a run.
use Rattle.std.specs.Prelude.{◌≡◌, ℕ, Bool, true, false, List, [], ◌∷◌, map, pos, negsuc, Option, Some, None, Ok, codes, replicate}
use Rattle.qq_base.specs.declared.refusal.Span.{Span}
use Rattle.qq_base.specs.declared.rule.Rule.{Rule}
use Rattle.qq_base.specs.declared.rule.Rule.TheVariants as rule
use Rattle.qq_base.specs.declared.run.QubitId.{QubitId}
use Rattle.qasm_ast.specs.declared.expr.Base.TheVariants as base
use Rattle.qasm_ast.specs.declared.expr.BinaryOp.TheVariants as op
use Rattle.qasm_ast.specs.declared.expr.UnaryOp.TheVariants as unary_op
use Rattle.qasm_ast.specs.Tree.{word, qubit, Tree, wire, truth, unary, cast, call, Trees, no_tree, a_tree, absent, present, position, range, members, no_bracket, a_bracket, Scalar, Operand, Parameter, no_statement}
use Rattle.angle_arith.specs.Fraction.{fraction_of}
use Rattle.qasm_types.specs.declared.ty.Ty.{Ty}
use Rattle.qasm_types.specs.declared.ty.Ty.TheVariants as t
use Rattle.qasm_types.specs.Values.{Truth, Register, Number, Count}
use Rattle.alias_resolve.specs.Places.{Selected}
use Rattle.scope_env.specs.OpenScopes.{OpenScopes, Outside, Named}
use Rattle.const_eval.specs.Constant.{whole, part_of_pi, truth_value, register_of, angle_of}
use Rattle.const_eval.specs.Refusing.{refused}
use Rattle.const_eval.specs.Walk.{Walk}
use Rattle.const_eval.specs.Typed.{Typed, Exactly, Computed}
use Rattle.const_eval.specs.Things.{Fixed, Variable, Counter, Qubits, TargetRow, DefinedSubroutine, Subroutine, Known, known, means_in, types_in, named_qubits, qubit_id, one_qubit}
use Rattle.const_eval.specs.ExprWalk.{expr_walk, cast_expr_walk}
use Rattle.const_eval.specs.Operands.{operand_walk}
use Rattle.const_eval.specs.ConstantPlaces.{is_fixed_by, is_static}
use Rattle.const_eval.specs.Binding.{Bound, ToValue, ToQubits, Binding, call_binding_walk, arguments_walk}
use Rattle.const_eval.specs.Values.{Frames, typed, value_in}
use Rattle.const_eval.specs.Rows.{at, name, indexed, num, minus, two}

-- ---- names

abbrev pub scalar : Option Tree → ℕ → Scalar
scalar None column = record { base = base.Int; width = absent; place = at column }
scalar (Some width) column = record { base = base.Int; width = present width; place = at column }

abbrev pub parameter : Scalar → List ℕ → ℕ → Parameter
parameter type text column = record { type = type; name = record { text = text; place = at column } }

-- `def f(int[8] y, qubit[2] z) -> int[4] { }`
abbrev pub with_result : Subroutine
with_result = record {
  params = parameter (scalar (Some (num 8 11)) 7) (codes "y") 14 ∷ parameter (record { base = base.Qubit; width = present (num 2 23); place = at 17 }) (codes "z") 26 ∷ [];
  result = Some (scalar (Some (num 4 36)) 32);
  body = no_statement;
  close = at 41;
}

-- `def g() { }`
abbrev pub without_result : Subroutine
without_result = record { params = []; result = None; body = no_statement; close = at 11 }

abbrev pub ids : List ℕ → Bool → Selected QubitId
ids ns single = record { items = map qubit_id ns; single = single }

-- x is 7 of `int[32]`, u 250 of `uint[8]`, n -7 of `int[8]`, b the bits `"0110"`, c true of `bit`, t false of `bool`, a 5 of `angle[4]`; k is
-- the constant 3, r the constant `"0011"` of `bit[4]`; i is 2 in a running `for`; q are three qubits and s is one
abbrev pub frames : Frames
frames =
    Named (codes "pi") (Fixed (part_of_pi (fraction_of (pos 1) (pos 1)))) (
    Named (codes "x") (Variable (t.Int 32) (Number (pos 7))) (
    Named (codes "u") (Variable (t.Uint 8) (Number (pos 250))) (
    Named (codes "n") (Variable (t.Int 8) (Number (negsuc 6))) (
    Named (codes "b") (Variable (t.Bits 4) (Register (false ∷ true ∷ true ∷ false ∷ []))) (
    Named (codes "c") (Variable t.Bit (Truth true)) (
    Named (codes "t") (Variable t.Bool (Truth false)) (
    Named (codes "a") (Variable (t.Angle 4) (Count 5)) (
    Named (codes "k") (Fixed (whole (pos 3))) (
    Named (codes "r") (Fixed (register_of (true ∷ true ∷ false ∷ false ∷ []))) (
    Named (codes "i") (Counter (t.Int 8) (Number (pos 2))) (
    Named (codes "q") (Qubits (ids (0 ∷ 1 ∷ 2 ∷ []) false)) (
    Named (codes "s") (Qubits (one_qubit 3)) (
    Named (codes "h") (TargetRow 3) (
    Named (codes "f") (DefinedSubroutine with_result) (
    Named (codes "g") (DefinedSubroutine without_result) Outside)))))))))))))))

abbrev pub scopes : OpenScopes Known
scopes = known frames

-- ---- what is said of an expression

abbrev pub walked : Tree → Walk Typed
walked a = expr_walk (means_in scopes) (types_in scopes) false a

abbrev pub walked_exactly : Tree → Walk Typed
walked_exactly a = expr_walk (means_in scopes) (types_in scopes) true a

abbrev pub stored : Ty → Tree → Walk Typed
stored type a = cast_expr_walk (means_in scopes) (types_in scopes) false type a

abbrev pub operand : Operand → Walk (Selected QubitId)
operand o = operand_walk (means_in scopes) (named_qubits scopes) o

-- with this cost
abbrev pub costs : {A : Type 0} → ℕ → A → Walk A
costs n a = record { cost = n; answer = Ok a }

-- with this cost until a rule is broken at a column
abbrev pub stops : {A : Type 0} → ℕ → Rule → ℕ → Walk A
stops n rule column = record { cost = n; answer = refused rule (at column) }

-- what is known before the run, with its cost
pub record WorkedWalks : Type 0 where
  -- `x`
  pub a_variable : walked (name (codes "x") 1) ≡ costs 2 (Computed (t.Int 32))
  -- `k`
  pub a_constant : walked (name (codes "k") 1) ≡ costs 1 (Exactly (whole (pos 3)))
  -- `i`
  pub counter : walked (name (codes "i") 1) ≡ costs 2 (Computed (t.Int 8))
  -- `x + 1`
  pub sum : walked (two op.Add (name (codes "x") 1) (num 1 5) 1) ≡ costs 5 (Computed (t.Int 32))
  -- `x + k * 2`
  pub constant_in_a_sum : walked (two op.Add (name (codes "x") 1) (two op.Multiply (name (codes "k") 5) (num 2 9) 5) 1) ≡ costs 7 (Computed (t.Int 32))
  -- `u + x`
  pub wider_word : walked (two op.Add (name (codes "u") 1) (name (codes "x") 5) 1) ≡ costs 6 (Computed (t.Int 32))
  -- `u + n`
  pub words_of_one_width : walked (two op.Add (name (codes "u") 1) (name (codes "n") 5) 1) ≡ costs 6 (Computed (t.Uint 8))
  -- `u < 300`
  pub whole_that_is_no_word_of_the_type : walked (two op.Less (name (codes "u") 1) (num 300 5) 1) ≡ costs 5 (Computed t.Bool)
  -- `b[1]`
  pub one_position : walked (indexed (codes "b") 1 (a_bracket (position (num 1 3)) no_bracket)) ≡ costs 8 (Computed t.Bit)
  -- `b[1:2]`
  pub part : walked (indexed (codes "b") 1 (a_bracket (range (present (num 1 3)) absent (present (num 2 5)) (at 3)) no_bracket)) ≡ costs 10 (Computed (t.Bits 2))
  -- `b & r`
  pub with_constant_bits : walked (two op.BitAnd (name (codes "b") 1) (name (codes "r") 5) 1) ≡ costs 11 (Computed (t.Bits 4))
  -- `int[8](b)`
  pub cast_of_bits : walked (cast base.Int (present (num 8 5)) (at 1) (name (codes "b") 8) (at 1)) ≡ costs 24 (Computed (t.Int 8))
  -- `int(c)`
  pub cast_of_a_bit : walked (cast base.Int absent (at 1) (name (codes "c") 5) (at 1)) ≡ costs 4 (Computed (t.Int 32))
  -- `a + pi/4`
  pub angle_and_part_of_pi : walked (two op.Add (name (codes "a") 1) (two op.Divide (name (codes "pi") 5) (num 4 8) 5) 1) ≡ costs 7 (Computed (t.Angle 4))
  -- `a * 2`
  pub angle_twice : walked (two op.Multiply (name (codes "a") 1) (num 2 5) 1) ≡ costs 5 (Computed (t.Angle 4))
  -- `b << 1`
  pub shifted_bits : walked (two op.ShiftLeft (name (codes "b") 1) (num 1 6) 1) ≡ costs 11 (Computed (t.Bits 4))
  -- `-x / 2`
  pub negative_halved : walked (two op.Divide (minus (name (codes "x") 2) 1) (num 2 6) 1) ≡ costs 7 (Computed (t.Int 32))
  -- `!c`
  pub not_a_bit : walked (unary unary_op.Not (name (codes "c") 2) (at 1)) ≡ costs 4 (Computed t.Bool)
  -- `x == 1 || t`
  pub logic : walked (two op.Or (two op.Equal (name (codes "x") 1) (num 1 6) 1) (name (codes "t") 11) 1) ≡ costs 9 (Computed t.Bool)
  -- `~b`
  pub complement : walked (unary unary_op.Complement (name (codes "b") 2) (at 1)) ≡ costs 10 (Computed (t.Bits 4))
  -- `c & 1`
  pub bit_with_a_number : walked (two op.BitAnd (name (codes "c") 1) (num 1 5) 1) ≡ costs 5 (Computed (t.Uint 1))
  -- `b == 6`
  pub bits_with_a_number : walked (two op.Equal (name (codes "b") 1) (num 6 6) 1) ≡ costs 8 (Computed t.Bool)
  -- `2 ** k`
  pub power : walked (two op.Power (num 2 1) (name (codes "k") 6) 1) ≡ costs 3 (Exactly (whole (pos 8)))
  -- `true`
  pub one_truth_value : walked (truth true (at 1)) ≡ costs 1 (Exactly (truth_value true))
  -- `b[0:k/2]`
  pub inexact_index : walked (indexed (codes "b") 1 (a_bracket (range (present (num 0 3)) absent (present (two op.Divide (name (codes "k") 5) (num 2 7) 5)) (at 3)) no_bracket)) ≡ costs 12 (Computed (t.Bits 2))

-- the first rule that is broken, with its place, and the cost of what stands in front of it
pub record WorkedRefusals : Type 0 where
  -- `y`
  pub nothing : walked (name (codes "y") 1) ≡ stops 0 rule.Unknown 1
  -- `x + q`
  pub qubit_is_no_value : walked (two op.Add (name (codes "x") 1) (name (codes "q") 5) 1) ≡ stops 2 rule.WrongKind 5
  -- `$0`
  pub physical_qubit : walked (wire 0 (at 1)) ≡ stops 0 rule.WrongKind 1
  -- `x[0]`
  pub brackets_behind_a_word : walked (indexed (codes "x") 1 (a_bracket (position (num 0 3)) no_bracket)) ≡ stops 0 rule.WrongKind 1
  -- `x + (1/0)`
  pub operands_come_first : walked (two op.Add (name (codes "x") 1) (two op.Divide (num 1 6) (num 0 8) 6) 1) ≡ stops 2 rule.ConstDivide 8
  -- `x / 0`
  pub divisor_zero : walked (two op.Divide (name (codes "x") 1) (num 0 5) 1) ≡ stops 3 rule.ConstDivide 5
  -- `x / n`
  pub divisor_at_run_time : walked (two op.Divide (name (codes "x") 1) (name (codes "n") 5) 1) ≡ stops 4 rule.DivisorRange 5
  -- `x % -1`
  pub negative_divisor : walked (two op.Remainder (name (codes "x") 1) (minus (num 1 6) 5) 1) ≡ stops 4 rule.DivisorRange 5
  -- `x << 32`
  pub amount_too_great : walked (two op.ShiftLeft (name (codes "x") 1) (num 32 6) 1) ≡ stops 3 rule.ShiftRange 6
  -- `x << u`
  pub amount_at_run_time : walked (two op.ShiftLeft (name (codes "x") 1) (name (codes "u") 6) 1) ≡ stops 4 rule.ShiftRange 6
  -- `1 << x`
  pub amount_of_a_constant : walked (two op.ShiftLeft (num 1 1) (name (codes "x") 6) 1) ≡ stops 3 rule.ShiftRange 6
  -- `x * pi`
  pub use_of_pi : walked (two op.Multiply (name (codes "x") 1) (name (codes "pi") 5) 1) ≡ stops 3 rule.NotPiMultiple 1
  -- `b + 1`
  pub no_row : walked (two op.Add (name (codes "b") 1) (num 1 5) 1) ≡ stops 6 rule.TypeMismatch 1
  -- `a == pi/3`
  pub third_beside_an_angle : walked (two op.Equal (name (codes "a") 1) (two op.Divide (name (codes "pi") 6) (num 3 9) 6) 1) ≡ stops 5 rule.NotDyadic 6
  -- `2 ** x`
  pub exponent_at_run_time : walked (two op.Power (num 2 1) (name (codes "x") 6) 1) ≡ stops 1 rule.NotConstant 6
  -- `(x + 1) ** 2`
  pub base_at_run_time : walked (two op.Power (two op.Add (name (codes "x") 2) (num 1 6) 2) (num 2 12) 2) ≡ stops 0 rule.NotConstant 2
  -- `b[4]`
  pub position_outside : walked (indexed (codes "b") 1 (a_bracket (position (num 4 3)) no_bracket)) ≡ stops 6 rule.IndexRange 3
  -- `b[0][0]`
  pub second_position : walked (indexed (codes "b") 1 (a_bracket (position (num 0 3)) (a_bracket (position (num 0 6)) no_bracket))) ≡ stops 7 rule.WrongKind 1
  -- `b[3:0:0]`
  pub step_zero : walked (indexed (codes "b") 1 (a_bracket (range (present (num 3 3)) (present (num 0 5)) (present (num 0 7)) (at 3)) no_bracket)) ≡ stops 8 rule.StepZero 5
  -- `b[x]`
  pub index_at_run_time : walked (indexed (codes "b") 1 (a_bracket (position (name (codes "x") 3)) no_bracket)) ≡ stops 5 rule.NotConstant 3
  -- `r[x]`
  pub index_of_a_constant : walked (indexed (codes "r") 1 (a_bracket (position (name (codes "x") 3)) no_bracket)) ≡ stops 5 rule.NotConstant 3
  -- `b[pi]`
  pub index_of_another_kind : walked (indexed (codes "b") 1 (a_bracket (position (name (codes "pi") 3)) no_bracket)) ≡ stops 6 rule.NoCast 3
  -- `f(1) + x`
  pub call_in_an_expression : walked (two op.Add (call (codes "f") (a_tree (num 1 3) no_tree) (at 1)) (name (codes "x") 8) 1) ≡ stops 0 rule.CallPlace 1
  -- `x(1) + 1`
  pub call_of_a_variable : walked (two op.Add (call (codes "x") (a_tree (num 1 3) no_tree) (at 1)) (num 1 8) 1) ≡ stops 0 rule.WrongKind 1
  -- `y(1) + 1`
  pub call_of_nothing : walked (two op.Add (call (codes "y") (a_tree (num 1 3) no_tree) (at 1)) (num 1 8) 1) ≡ stops 0 rule.Unknown 1
  -- `bit(x)`
  pub written_cast : walked (cast base.Bit absent (at 1) (name (codes "x") 5) (at 1)) ≡ stops 2 rule.NoCast 1
  -- `int[65](y)`
  pub width_first : walked (cast base.Int (present (num 65 5)) (at 1) (name (codes "y") 9) (at 1)) ≡ stops 1 rule.WidthRange 5
  -- `b[0:k/2]`, where no remainder may be left
  pub exact_index : walked_exactly (indexed (codes "b") 1 (a_bracket (range (present (num 0 3)) absent (present (two op.Divide (name (codes "k") 5) (num 2 7) 5)) (at 3)) no_bracket)) ≡ stops 6 rule.ConstDivide 7
  -- `a + pi*(3/2)`, where no remainder may be left
  pub exact_operand : walked_exactly (two op.Add (name (codes "a") 1) (two op.Multiply (name (codes "pi") 5) (two op.Divide (num 3 9) (num 2 11) 9) 5) 1) ≡ stops 2 rule.ConstDivide 11

-- casts of what is stored, passed or returned
pub record WorkedStores : Type 0 where
  -- `b`
  pub bits_to_word : stored (t.Int 4) (name (codes "b") 1) ≡ costs 21 (Computed (t.Int 4))
  -- `r`
  pub constant_bits_to_word : stored (t.Uint 4) (name (codes "r") 1) ≡ costs 17 (Exactly (whole (pos 3)))
  -- `5`
  pub constant_to_bits : stored (t.Bits 4) (num 5 1) ≡ costs 1 (Exactly (register_of (true ∷ false ∷ true ∷ false ∷ [])))
  -- `x`
  pub condition : stored t.Bool (name (codes "x") 1) ≡ costs 2 (Computed t.Bool)
  -- `pi/4`
  pub part_of_pi_to_angle : stored (t.Angle 4) (two op.Divide (name (codes "pi") 1) (num 4 4) 1) ≡ costs 3 (Exactly (angle_of 4 2))
  -- `20`
  pub constant_to_word : stored (t.Int 4) (num 20 1) ≡ costs 1 (Exactly (whole (pos 4)))
  -- `x`
  pub word_to_bits : stored (t.Bits 4) (name (codes "x") 1) ≡ stops 2 rule.NoCast 1
  -- `3`
  pub number_to_angle : stored (t.Angle 4) (num 3 1) ≡ stops 1 rule.NotPiMultiple 1
  -- `pi`
  pub pi_to_word : stored (t.Int 8) (name (codes "pi") 1) ≡ stops 1 rule.NoCast 1
  -- `7`
  pub no_pattern : stored (t.Bits 2) (num 7 1) ≡ stops 1 rule.NoCast 1

pub record WorkedOperands : Type 0 where
  -- `q[0:1]`
  pub part_of_qubits : operand (record { name = word (codes "q"); index = (a_bracket (range (present (num 0 3)) absent (present (num 1 5)) (at 3)) no_bracket); place = at 1 }) ≡ costs 2 (ids (0 ∷ 1 ∷ []) false)
  -- `q[-1]`
  pub last_qubit : operand (record { name = word (codes "q"); index = (a_bracket (position (minus (num 1 4) 3)) no_bracket); place = at 1 }) ≡ costs 2 (ids (2 ∷ []) true)
  -- `q`
  pub whole_register : operand (record { name = word (codes "q"); index = no_bracket; place = at 1 }) ≡ costs 0 (ids (0 ∷ 1 ∷ 2 ∷ []) false)
  -- `q[{2, 0}]`
  pub turned : operand (record { name = word (codes "q"); index = (a_bracket (members (a_tree (num 2 4) (a_tree (num 0 7) no_tree))) no_bracket); place = at 1 }) ≡ costs 2 (ids (2 ∷ 0 ∷ []) false)
  -- `s[0]`
  pub single_with_brackets : operand (record { name = word (codes "s"); index = (a_bracket (position (num 0 3)) no_bracket); place = at 1 }) ≡ stops 0 rule.WrongKind 1
  -- `x`
  pub value_as_operand : operand (record { name = word (codes "x"); index = no_bracket; place = at 1 }) ≡ stops 0 rule.WrongKind 1
  -- `$0`
  pub wire_among_declared : operand (record { name = qubit 0; index = no_bracket; place = at 1 }) ≡ stops 0 rule.MixedQubits 1
  -- `q[3]`
  pub no_such_qubit : operand (record { name = word (codes "q"); index = (a_bracket (position (num 3 3)) no_bracket); place = at 1 }) ≡ stops 1 rule.IndexRange 3
  -- `y[1/0]`
  pub no_such_name : operand (record { name = word (codes "y"); index = (a_bracket (position (two op.Divide (num 1 3) (num 0 5) 3)) no_bracket); place = at 1 }) ≡ stops 0 rule.Unknown 1

-- whether i is used in a constant place, and which ranges are static
pub record WorkedPlaces : Type 0 where
  -- `b[i]`
  pub index : is_fixed_by (codes "i") (indexed (codes "b") 1 (a_bracket (position (name (codes "i") 3)) no_bracket)) ≡ true
  -- `x / i`
  pub divisor : is_fixed_by (codes "i") (two op.Divide (name (codes "x") 1) (name (codes "i") 5) 1) ≡ true
  -- `i / x`
  pub dividend : is_fixed_by (codes "i") (two op.Divide (name (codes "i") 1) (name (codes "x") 5) 1) ≡ false
  -- `2 ** i`
  pub exponent : is_fixed_by (codes "i") (two op.Power (num 2 1) (name (codes "i") 6) 1) ≡ true
  -- `i ** 2`
  pub base_of_a_power : is_fixed_by (codes "i") (two op.Power (name (codes "i") 1) (num 2 6) 1) ≡ true
  -- `x << i`
  pub amount : is_fixed_by (codes "i") (two op.ShiftLeft (name (codes "x") 1) (name (codes "i") 6) 1) ≡ true
  -- `i << x`
  pub what_is_shifted : is_fixed_by (codes "i") (two op.ShiftLeft (name (codes "i") 1) (name (codes "x") 6) 1) ≡ false
  -- `pi * i`
  pub beside_pi : is_fixed_by (codes "i") (two op.Multiply (name (codes "pi") 1) (name (codes "i") 6) 1) ≡ true
  -- `2 * (tau + i)`
  pub beside_tau : is_fixed_by (codes "i") (two op.Multiply (num 2 1) (two op.Add (name (codes "tau") 6) (name (codes "i") 12) 6) 1) ≡ true
  -- `i + 1`
  pub sum : is_fixed_by (codes "i") (two op.Add (name (codes "i") 1) (num 1 5) 1) ≡ false
  -- `int[i](x)`
  pub width : is_fixed_by (codes "i") (cast base.Int (present (name (codes "i") 5)) (at 1) (name (codes "x") 8) (at 1)) ≡ true
  -- `f(x, q[i])`
  pub argument : is_fixed_by (codes "i") (call (codes "f") (a_tree (name (codes "x") 3) (a_tree (indexed (codes "q") 6 (a_bracket (position (name (codes "i") 8)) no_bracket)) no_tree)) (at 1)) ≡ true
  -- `f(i)`
  pub argument_of_its_own : is_fixed_by (codes "i") (call (codes "f") (a_tree (name (codes "i") 3) no_tree) (at 1)) ≡ false
  -- `[1:k]`
  pub constant_range : is_static true (means_in scopes) (num 1 1) absent (name (codes "k") 1) ≡ true
  -- `[0:x]`
  pub range_at_run_time : is_static true (means_in scopes) (num 0 1) absent (name (codes "x") 1) ≡ false
  -- `[1:k]`
  pub no_constant_place : is_static false (means_in scopes) (num 1 1) absent (name (codes "k") 1) ≡ false

-- the type and the value in a run
pub record WorkedResults : Type 0 where
  -- `x + 1`
  pub sum : value_in frames (two op.Add (name (codes "x") 1) (num 1 5) 1) ≡ typed (t.Int 32) (Number (pos 8))
  -- `u + 10`
  pub wraps : value_in frames (two op.Add (name (codes "u") 1) (num 10 5) 1) ≡ typed (t.Uint 8) (Number (pos 4))
  -- `n / 2`
  pub quotient : value_in frames (two op.Divide (name (codes "n") 1) (num 2 5) 1) ≡ typed (t.Int 8) (Number (negsuc 2))
  -- `n % 2`
  pub rest : value_in frames (two op.Remainder (name (codes "n") 1) (num 2 5) 1) ≡ typed (t.Int 8) (Number (negsuc 0))
  -- `n >> 1`
  pub shifted : value_in frames (two op.ShiftRight (name (codes "n") 1) (num 1 6) 1) ≡ typed (t.Int 8) (Number (negsuc 3))
  -- `u + n`
  pub meets_as_uint : value_in frames (two op.Add (name (codes "u") 1) (name (codes "n") 5) 1) ≡ typed (t.Uint 8) (Number (pos 243))
  -- `b[1:2]`
  pub part : value_in frames (indexed (codes "b") 1 (a_bracket (range (present (num 1 3)) absent (present (num 2 5)) (at 3)) no_bracket)) ≡ typed (t.Bits 2) (Register (true ∷ true ∷ []))
  -- `b[3]`
  pub one_position : value_in frames (indexed (codes "b") 1 (a_bracket (position (num 3 3)) no_bracket)) ≡ typed t.Bit (Truth false)
  -- `a + pi/4`
  pub angle : value_in frames (two op.Add (name (codes "a") 1) (two op.Divide (name (codes "pi") 5) (num 4 8) 5) 1) ≡ typed (t.Angle 4) (Count 7)
  -- `a * 4`
  pub angle_wraps : value_in frames (two op.Multiply (name (codes "a") 1) (num 4 5) 1) ≡ typed (t.Angle 4) (Count 4)
  -- `b | r`
  pub either_bit : value_in frames (two op.BitOr (name (codes "b") 1) (name (codes "r") 5) 1) ≡ typed (t.Bits 4) (Register (true ∷ true ∷ true ∷ false ∷ []))
  -- `int[8](b)`
  pub cast_of_bits : value_in frames (cast base.Int (present (num 8 5)) (at 1) (name (codes "b") 8) (at 1)) ≡ typed (t.Int 8) (Number (pos 6))
  -- `u < 300`
  pub comparison : value_in frames (two op.Less (name (codes "u") 1) (num 300 5) 1) ≡ typed t.Bool (Truth true)
  -- `-x`
  pub negative : value_in frames (minus (name (codes "x") 2) 1) ≡ typed (t.Int 32) (Number (negsuc 6))
  -- `~u`
  pub complement : value_in frames (unary unary_op.Complement (name (codes "u") 2) (at 1)) ≡ typed (t.Uint 8) (Number (pos 5))
  -- `!c`
  pub not_a_bit : value_in frames (unary unary_op.Not (name (codes "c") 2) (at 1)) ≡ typed t.Bool (Truth false)
  -- `b << 1`
  pub shifted_bits : value_in frames (two op.ShiftLeft (name (codes "b") 1) (num 1 6) 1) ≡ typed (t.Bits 4) (Register (false ∷ false ∷ true ∷ true ∷ []))
  -- `x & c`
  pub bit_and_word : value_in frames (two op.BitAnd (name (codes "x") 1) (name (codes "c") 5) 1) ≡ typed (t.Int 32) (Number (pos 1))
  -- `2 ** k`
  pub a_constant : value_in frames (two op.Power (num 2 1) (name (codes "k") 6) 1) ≡ typed t.Whole (Number (pos 8))
  -- `i * i`
  pub counter : value_in frames (two op.Multiply (name (codes "i") 1) (name (codes "i") 5) 1) ≡ typed (t.Int 8) (Number (pos 4))
  -- `r[0]`
  pub constant_under_an_index : value_in frames (indexed (codes "r") 1 (a_bracket (position (num 0 3)) no_bracket)) ≡ typed t.Bit (Truth true)

-- calls of subroutines up to their classical arguments, and these
abbrev pub bound : List Bound → Binding
bound bs = record { subroutine = with_result; bound = bs; result = Some (t.Int 4) }

abbrev pub called_in : List (List ℕ) → Bool → List ℕ → Trees → Span → Walk Binding
called_in opened wanted text as' place = call_binding_walk wanted opened scopes text as' place

pub record WorkedCalls : Type 0 where
  -- `f(x, q[0:1])`
  pub binds : called_in [] true (codes "f") (a_tree (name (codes "x") 3) (a_tree (indexed (codes "q") 6 (a_bracket (range (present (num 0 8)) absent (present (num 1 10)) (at 8)) no_bracket)) no_tree)) (at 1) ≡ costs 5 (bound (ToValue (t.Int 8) ∷ ToQubits (ids (0 ∷ 1 ∷ []) false) ∷ []))
  -- `f(z, q[1:2])`
  pub classical_arguments_later : called_in [] true (codes "f") (a_tree (name (codes "z") 3) (a_tree (indexed (codes "q") 6 (a_bracket (range (present (num 1 8)) absent (present (num 2 10)) (at 8)) no_bracket)) no_tree)) (at 1) ≡ costs 5 (bound (ToValue (t.Int 8) ∷ ToQubits (ids (1 ∷ 2 ∷ []) false) ∷ []))
  -- `f(x)`
  pub too_few : called_in [] true (codes "f") (a_tree (name (codes "x") 3) no_tree) (at 1) ≡ stops 0 rule.ArgumentCount 1
  -- `f(x, q)`
  pub other_size : called_in [] true (codes "f") (a_tree (name (codes "x") 3) (a_tree (name (codes "q") 6) no_tree)) (at 1) ≡ stops 3 rule.SizeMismatch 6
  -- `f(x, 1 + 1)`
  pub no_qubits : called_in [] true (codes "f") (a_tree (name (codes "x") 3) (a_tree (two op.Add (num 1 6) (num 1 10) 6) no_tree)) (at 1) ≡ stops 3 rule.WrongKind 6
  -- `y()`
  pub nothing : called_in [] true (codes "y") no_tree (at 1) ≡ stops 0 rule.Unknown 1
  -- `h()`
  pub gate : called_in [] true (codes "h") no_tree (at 1) ≡ stops 0 rule.WrongKind 1
  -- `g()`
  pub no_value : called_in [] true (codes "g") no_tree (at 1) ≡ stops 0 rule.TypeMismatch 1
  -- `g()`
  pub no_value_wanted : called_in [] false (codes "g") no_tree (at 1) ≡ costs 0 (record { subroutine = without_result; bound = []; result = None })
  -- `f(x, q)`
  pub itself : called_in (codes "f" ∷ []) true (codes "f") (a_tree (name (codes "x") 3) (a_tree (name (codes "q") 6) no_tree)) (at 1) ≡ stops 0 rule.Recursion 1
  -- `g(1)`
  pub too_deep : called_in (replicate 16 (codes "f")) false (codes "g") (a_tree (num 1 3) no_tree) (at 1) ≡ stops 0 rule.CallDepth 1
  -- `f(x, q[0:1])`, and `f(pi, q[0:1])`
  pub cells_of_parameters : arguments_walk (means_in scopes) (types_in scopes) (a_tree (name (codes "x") 3) (a_tree (indexed (codes "q") 6 (a_bracket (range (present (num 0 8)) absent (present (num 1 10)) (at 8)) no_bracket)) no_tree)) (ToValue (t.Int 8) ∷ ToQubits (ids (0 ∷ 1 ∷ []) false) ∷ []) ≡ costs 3 tt
  pub cast_of_an_argument : arguments_walk (means_in scopes) (types_in scopes) (a_tree (name (codes "pi") 3) (a_tree (indexed (codes "q") 7 (a_bracket (range (present (num 0 9)) absent (present (num 1 11)) (at 9)) no_bracket)) no_tree)) (ToValue (t.Int 8) ∷ ToQubits (ids (0 ∷ 1 ∷ []) false) ∷ []) ≡ stops 1 rule.NoCast 3
