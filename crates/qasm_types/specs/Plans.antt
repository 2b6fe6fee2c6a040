-- The two tables as functions that go type by type, by which definitions that compute ask them. That they answer the rows of
-- `Casts` and `Operators`, and no others, is said by the contracts of `cast_of`, `operator_type` and `unary_type`.
use Rattle.std.specs.Prelude.{ℕ, Bool, true, false, max, nat_eq, nat_le, int_le, int_lt, ◌&&◌, ◌||◌, ◌^◌, if◌then◌else◌, ℤ, pos, Option, Some, None}
use Rattle.std.specs.Option.{option_map, option_or}
use Rattle.qasm_ast.specs.declared.expr.UnaryOp.{UnaryOp}
use Rattle.qasm_ast.specs.declared.expr.UnaryOp.TheVariants as unary
use Rattle.qasm_types.specs.Words.{meeting, constant_beside}
use Rattle.qasm_types.specs.Operators.{Group, Sum, Product, Quotient, Rest, Shift, Bitwise, Equality, Order, Logic, Power}
use Rattle.qasm_types.specs.declared.ty.Ty.{Ty}
use Rattle.qasm_types.specs.declared.ty.Ty.TheVariants as t

abbrev pub is_word : Ty → Bool
is_word (t.Int n) = true
is_word (t.Uint n) = true
is_word _ = false

abbrev pub is_truth : Ty → Bool
is_truth t.Bool = true
is_truth t.Bit = true
is_truth _ = false

-- ---- casts

abbrev pub word_casts : ℕ → Ty → Bool
word_casts n t.Bool = true
word_casts n t.Bit = nat_eq n 1
word_casts n (t.Bits m) = nat_eq m n
word_casts n to = is_word to

abbrev pub bits_cast : ℕ → Ty → Bool
bits_cast n t.Bool = true
bits_cast n (t.Int m) = nat_le n 64
bits_cast n (t.Uint m) = nat_le n 64
bits_cast n (t.Bits m) = nat_eq m n
bits_cast n (t.Angle m) = nat_eq m n
bits_cast n _ = false

abbrev pub angle_casts : ℕ → Ty → Bool
angle_casts n t.Bool = true
angle_casts n (t.Bits m) = nat_eq m n
angle_casts n (t.Angle m) = true
angle_casts n _ = false

abbrev pub is_pattern : ℤ → ℕ → Bool
is_pattern v n = int_le (pos 0) v && int_lt v (pos (2 ^ n))

abbrev pub constant_casts : ℤ → Ty → Bool
constant_casts v t.Bool = true
constant_casts v t.Bit = is_pattern v 1
constant_casts v (t.Bits n) = nat_le n 64 && is_pattern v n
constant_casts v t.Turn = false
constant_casts v t.Pi = false
constant_casts v _ = true

abbrev pub casts : Ty → ℤ → Ty → Bool
casts t.Bool v to = is_truth to || is_word to
casts t.Bit v to = is_truth to || is_word to
casts (t.Int n) v to = word_casts n to
casts (t.Uint n) v to = word_casts n to
casts (t.Bits n) v to = bits_cast n to
casts (t.Angle n) v to = angle_casts n to
casts t.Turn v t.Turn = true
casts t.Turn v _ = false
casts t.Whole v to = constant_casts v to
casts t.Pi v t.Pi = true
casts t.Pi v (t.Angle n) = true
casts t.Pi v _ = false

-- ---- operators: the types at which the operands are taken, and that of the result

abbrev pub Plan : Type 0
Plan = Option (Ty × Ty × Ty)

abbrev pub is_number : Ty → Bool
is_number t.Whole = true
is_number b = is_word b

-- an operand of type b, where it is a number, at the word type that it has beside a word of type a
abbrev pub taken_beside : Ty → Ty → ℤ → Option Ty
taken_beside a (t.Int n) v = Some (t.Int n)
taken_beside a (t.Uint n) v = Some (t.Uint n)
taken_beside a t.Whole v = Some (constant_beside a v)
taken_beside a _ v = None

abbrev pub met : Ty → ℤ → Ty → ℤ → Option Ty
met (t.Int n) u b v = option_map (meeting (t.Int n)) (taken_beside (t.Int n) b v)
met (t.Uint n) u b v = option_map (meeting (t.Uint n)) (taken_beside (t.Uint n) b v)
met a u (t.Int n) v = option_map (λ c. meeting c (t.Int n)) (taken_beside (t.Int n) a u)
met a u (t.Uint n) v = option_map (λ c. meeting c (t.Uint n)) (taken_beside (t.Uint n) a u)
met a u _ v = None

abbrev pub all_at : Option Ty → Plan
all_at o = option_map (λ m. (m, m, m)) o

abbrev pub words_plan : Ty → ℤ → Ty → ℤ → Plan
words_plan a u b v = all_at (met a u b v)

abbrev pub compared : Plan → Plan
compared o = option_map (λ p. (p.0, p.1, t.Bool)) o

abbrev pub where_true : Bool → Ty × Ty × Ty → Plan
where_true b p = if b then Some p else None

-- two angles or an angle and a fraction, and two constants of one kind
abbrev pub angles_plan : Ty → Ty → Plan
angles_plan (t.Angle m) (t.Angle n) = where_true (nat_eq m n) (t.Angle m, t.Angle m, t.Angle m)
angles_plan (t.Angle m) t.Pi = Some (t.Angle m, t.Angle m, t.Angle m)
angles_plan t.Pi (t.Angle n) = Some (t.Angle n, t.Angle n, t.Angle n)
angles_plan t.Pi t.Pi = Some (t.Pi, t.Pi, t.Pi)
angles_plan t.Whole t.Whole = Some (t.Whole, t.Whole, t.Whole)
angles_plan _ _ = None

abbrev pub turns_plan : Ty → Ty → Plan
turns_plan t.Turn t.Turn = Some (t.Turn, t.Turn, t.Turn)
turns_plan t.Turn t.Pi = Some (t.Turn, t.Turn, t.Turn)
turns_plan t.Pi t.Turn = Some (t.Turn, t.Turn, t.Turn)
turns_plan _ _ = None

-- an angle by a number, and a turn or a constant by a whole constant
abbrev pub scales : Ty → Ty → Bool
scales (t.Angle n) b = is_number b
scales t.Turn t.Whole = true
scales t.Whole t.Whole = true
scales t.Pi t.Whole = true
scales _ _ = false

abbrev pub wholes_plan : Ty → Ty → Plan
wholes_plan t.Whole t.Whole = Some (t.Whole, t.Whole, t.Whole)
wholes_plan _ _ = None

abbrev pub shifts : Ty → Ty → Bool
shifts (t.Int n) b = is_number b
shifts (t.Uint n) b = is_number b
shifts (t.Bits n) b = is_number b
shifts (t.Angle n) b = is_number b
shifts t.Whole t.Whole = true
shifts _ b = false

-- a whole constant by a word
abbrev pub constant_shift : Ty → ℤ → Ty → Plan
constant_shift t.Whole u (t.Int n) = let c = constant_beside (t.Int n) u in Some (c, t.Int n, c)
constant_shift t.Whole u (t.Uint n) = let c = constant_beside (t.Uint n) u in Some (c, t.Uint n, c)
constant_shift _ u _ = None

-- two registers of one width, and two truth values
abbrev pub bits_plan : Ty → Ty → Plan
bits_plan (t.Bits m) (t.Bits n) = where_true (nat_eq m n) (t.Bits m, t.Bits m, t.Bits m)
bits_plan t.Bool b = where_true (is_truth b) (t.Bit, t.Bit, t.Bit)
bits_plan t.Bit b = where_true (is_truth b) (t.Bit, t.Bit, t.Bit)
bits_plan _ _ = None

-- two registers of one width of at most 64, as words
abbrev pub numbers_plan : Ty → Ty → Plan
numbers_plan (t.Bits m) (t.Bits n) = where_true (nat_eq m n && nat_le m 64) (t.Uint (max m 1), t.Uint (max m 1), t.Uint (max m 1))
numbers_plan _ _ = None

-- a truth value with a number, as a word
abbrev pub truth_with_word : Ty → ℤ → Ty → ℤ → Plan
truth_with_word a u b v =
    if is_truth a then words_plan (t.Uint 1) u b v
    else if is_truth b then words_plan a u (t.Uint 1) v
    else None

-- a register of at most 64 bits with a number, as a word
abbrev pub bits_with_word : Ty → ℤ → Ty → ℤ → Plan
bits_with_word (t.Bits m) u b v = if nat_le m 64 then words_plan (t.Uint (max m 1)) u b v else None
bits_with_word a u (t.Bits n) v = if nat_le n 64 then words_plan a u (t.Uint (max n 1)) v else None
bits_with_word _ u _ v = None

abbrev pub mixed_plan : Ty → ℤ → Ty → ℤ → Plan
mixed_plan a u b v = option_or (truth_with_word a u b v) (bits_with_word a u b v)

abbrev pub sum_plan : Ty → ℤ → Ty → ℤ → Plan
sum_plan a u b v = option_or (words_plan a u b v) (option_or (angles_plan a b) (turns_plan a b))

abbrev pub quotient_plan : Ty → ℤ → Ty → ℤ → Plan
quotient_plan a u b v = option_or (words_plan a u b v) (where_true (scales a b) (a, b, a))

abbrev pub product_plan : Ty → ℤ → Ty → ℤ → Plan
product_plan a u b v = option_or (quotient_plan a u b v) (where_true (scales b a) (a, b, b))

abbrev pub rest_plan : Ty → ℤ → Ty → ℤ → Plan
rest_plan a u b v = option_or (words_plan a u b v) (wholes_plan a b)

abbrev pub shift_plan : Ty → ℤ → Ty → ℤ → Plan
shift_plan a u b v = option_or (where_true (shifts a b) (a, b, a)) (constant_shift a u b)

abbrev pub bitwise_plan : Ty → ℤ → Ty → ℤ → Plan
bitwise_plan a u b v = option_or (rest_plan a u b v) (option_or (bits_plan a b) (truth_with_word a u b v))

abbrev pub compared_plan : Ty → ℤ → Ty → ℤ → Plan
compared_plan a u b v = option_or (words_plan a u b v) (option_or (angles_plan a b) (mixed_plan a u b v))

abbrev pub equality_plan : Ty → ℤ → Ty → ℤ → Plan
equality_plan a u b v = compared (option_or (compared_plan a u b v) (bits_plan a b))

abbrev pub order_plan : Ty → ℤ → Ty → ℤ → Plan
order_plan a u b v = compared (option_or (compared_plan a u b v) (numbers_plan a b))

abbrev pub logic_plan : Ty → ℤ → Ty → ℤ → Plan
logic_plan a u b v = where_true (casts a u t.Bool && casts b v t.Bool) (t.Bool, t.Bool, t.Bool)

abbrev pub operator_plan : Group → Ty → ℤ → Ty → ℤ → Plan
operator_plan Sum a u b v = sum_plan a u b v
operator_plan Product a u b v = product_plan a u b v
operator_plan Quotient a u b v = quotient_plan a u b v
operator_plan Rest a u b v = rest_plan a u b v
operator_plan Shift a u b v = shift_plan a u b v
operator_plan Bitwise a u b v = bitwise_plan a u b v
operator_plan Equality a u b v = equality_plan a u b v
operator_plan Order a u b v = order_plan a u b v
operator_plan Logic a u b v = logic_plan a u b v
operator_plan Power a u b v = wholes_plan a b

-- ---- unary operators

abbrev pub complements : Ty → Bool
complements (t.Int n) = true
complements (t.Uint n) = true
complements t.Bit = true
complements (t.Bits n) = true
complements t.Whole = true
complements _ = false

abbrev pub negates : Ty → Bool
negates t.Bool = false
negates t.Bit = false
negates (t.Bits n) = false
negates _ = true

abbrev pub unary_plan : UnaryOp → Ty → ℤ → Option Ty
unary_plan unary.Not a v = if casts a v t.Bool then Some t.Bool else None
unary_plan unary.Complement a v = if complements a then Some a else None
unary_plan unary.Negate a v = if negates a then Some a else None
