-- Serves the layers of the elaboration: casts and operators as expressions over cells. The parts of a value are one expression for
-- each of its cells.
use Rattle.std.specs.Prelude.{ℕ, zero, suc, ◌-◌, ◌^◌, nat_lt, nat_le, min, if◌then◌else◌, Bool, true, false, List, [], ◌∷◌, ◌++◌, map, take, drop, replicate, length, pos, negsuc}
use Rattle.qasm_ast.specs.declared.expr.BinaryOp.{BinaryOp}
use Rattle.qasm_ast.specs.declared.expr.BinaryOp.TheVariants as op
use Rattle.qasm_ast.specs.declared.expr.UnaryOp.{UnaryOp}
use Rattle.qasm_ast.specs.declared.expr.UnaryOp.TheVariants as unary
use Rattle.qasm_types.specs.declared.ty.Ty.{Ty}
use Rattle.qasm_types.specs.declared.ty.Ty.TheVariants as t
use Rattle.qasm_types.specs.Values as value
use Rattle.qir_module.specs.declared.instruction.Opcode.{Opcode}
use Rattle.qir_module.specs.declared.instruction.Opcode.TheVariants as code
use Rattle.core_ir.specs.Tree.{Expr, Truth, Number, Op, Widen, Narrow}
use Rattle.machine_words.specs.Words.{word_of}

-- ---- constants

abbrev pub fixed_parts : value.Value → List Expr
fixed_parts (value.Truth b) = Truth b ∷ []
fixed_parts (value.Register bits) = map Truth bits
fixed_parts (value.Number z) = Number (word_of z) ∷ []
fixed_parts (value.Count c) = Number (pos c) ∷ []
fixed_parts (value.Units z) = Number z ∷ []
fixed_parts (value.PartOfPi p) = []

-- ---- values as numbers

-- the one part of a value; where there is none 0 stands for it
abbrev pub single_part : List Expr → Expr
single_part [] = Number (pos 0)
single_part (e ∷ es) = e

-- the number whose bits these are, the lowest first
abbrev pub number_of_parts : List Expr → Expr
number_of_parts [] = Number (pos 0)
number_of_parts (b ∷ bs) = Op code.Add (Widen b) (Op code.Shl (number_of_parts bs) (Number (pos 1)))

-- the word of a value's number
abbrev pub word_part : Ty → List Expr → Expr
word_part t.Bool parts = Widen (single_part parts)
word_part t.Bit parts = Widen (single_part parts)
word_part (t.Bits n) parts = number_of_parts parts
word_part _ parts = single_part parts

-- ---- numbers as values

-- a word without all but its lowest n bits
abbrev pub masked : ℕ → Expr → Expr
masked n e = Op code.And e (Number (pos (2 ^ n - 1)))

-- a word with its sign in bit n - 1
abbrev pub extended : ℕ → Expr → Expr
extended n e = Op code.Ashr (Op code.Shl e (Number (pos (64 - n)))) (Number (pos (64 - n)))

-- the word of the value of a type to which a number reduces
abbrev pub reduced_part : Ty → Expr → Expr
reduced_part (t.Int n) e = if nat_lt n 64 then extended n e else e
reduced_part (t.Uint n) e = if nat_lt n 64 then masked n e else e
reduced_part (t.Angle n) e = masked n e
reduced_part _ e = e

-- a bit of a word by its index
abbrev pub bit_part : ℕ → Expr → Expr
bit_part zero e = Narrow e
bit_part (suc k) e = Narrow (Op code.Lshr e (Number (pos (suc k))))

-- n bits of a word from index k on
abbrev pub bit_parts : ℕ → ℕ → Expr → List Expr
bit_parts k zero e = []
bit_parts k (suc n) e = bit_part k e ∷ bit_parts (suc k) n e

-- the parts of the value of a type to which a number reduces
abbrev pub reduced_parts : Ty → Expr → List Expr
reduced_parts t.Bool e = Narrow e ∷ []
reduced_parts t.Bit e = Narrow e ∷ []
reduced_parts (t.Bits n) e = bit_parts 0 n e
reduced_parts type e = reduced_part type e ∷ []

-- ---- casts

abbrev pub not_part : Expr → Expr
not_part e = Op code.Xor e (Truth true)

-- one of two parts holds, where the second is no constant
abbrev pub either_of : Expr → Expr → Expr
either_of b (Truth true) = Truth true
either_of b (Truth false) = b
either_of b e = Op code.Or b e

-- one of two parts holds; a constant is no instruction
abbrev pub either_part : Expr → Expr → Expr
either_part (Truth true) e = Truth true
either_part (Truth false) e = e
either_part b e = either_of b e

-- some part holds
abbrev pub any_part : List Expr → Expr
any_part [] = Truth false
any_part (b ∷ bs) = either_part b (any_part bs)

-- a value is not 0
abbrev pub truth_part : Ty → List Expr → Expr
truth_part t.Bool parts = single_part parts
truth_part t.Bit parts = single_part parts
truth_part (t.Bits n) parts = any_part parts
truth_part _ parts = Op code.Ne (single_part parts) (Number (pos 0))

-- an angle of m bits at a width of n
abbrev pub angle_part : ℕ → ℕ → Expr → Expr
angle_part m n e = if nat_lt m n then Op code.Shl e (Number (pos (n - m))) else if nat_lt n m then Op code.Lshr e (Number (pos (m - n))) else e

-- a cast between these types, where the table has one, leaves the cells as they are
abbrev pub keeps : Ty → Ty → Bool
keeps t.Bool t.Bit = true
keeps t.Bit t.Bit = true
keeps (t.Bits m) (t.Bits n) = true
keeps (t.Int m) (t.Int n) = nat_le m n
keeps (t.Uint m) (t.Uint n) = nat_le m n
keeps (t.Uint m) (t.Int n) = nat_lt m n
keeps t.Turn t.Turn = true
keeps _ _ = false

abbrev pub cast_parts : Ty → Ty → List Expr → List Expr
cast_parts a t.Bool parts = truth_part a parts ∷ []
cast_parts (t.Angle m) (t.Angle n) parts = angle_part m n (single_part parts) ∷ []
cast_parts a b parts = if keeps a b then parts else reduced_parts b (word_part a parts)

-- ---- operators on values that are taken

abbrev pub is_signed : Ty → Bool
is_signed (t.Int n) = true
is_signed t.Turn = true
is_signed _ = false

abbrev pub by_sign : Ty → Opcode → Opcode → Opcode
by_sign type signed unsigned = if is_signed type then signed else unsigned

-- the instruction of an operator on words of a type
abbrev pub word_code : BinaryOp → Ty → Opcode
word_code op.Add type = code.Add
word_code op.Subtract type = code.Sub
word_code op.Multiply type = code.Mul
word_code op.Divide type = by_sign type code.Sdiv code.Udiv
word_code op.Remainder type = by_sign type code.Srem code.Urem
word_code op.ShiftLeft type = code.Shl
word_code op.ShiftRight type = by_sign type code.Ashr code.Lshr
word_code op.BitAnd type = code.And
word_code op.BitOr type = code.Or
word_code op.BitXor type = code.Xor
word_code op.Equal type = code.Eq
word_code op.NotEqual type = code.Ne
word_code op.Less type = by_sign type code.Slt code.Ult
word_code op.LessEqual type = by_sign type code.Sle code.Ule
word_code op.Greater type = by_sign type code.Sgt code.Ugt
word_code op.GreaterEqual type = by_sign type code.Sge code.Uge
word_code op.And type = code.And
word_code op.Or type = code.Or
word_code op.Power type = code.Mul

-- the instruction of an operator on truth values; where they are compared it says that they differ
abbrev pub truth_code : BinaryOp → Opcode
truth_code op.BitAnd = code.And
truth_code op.And = code.And
truth_code op.BitOr = code.Or
truth_code op.Or = code.Or
truth_code _ = code.Xor

-- an instruction on the parts of two values, one by one
abbrev pub paired : Opcode → List Expr → List Expr → List Expr
paired o [] ys = []
paired o (x ∷ xs) [] = []
paired o (x ∷ xs) (y ∷ ys) = Op o x y ∷ paired o xs ys

-- two values differ, or they do not
abbrev pub where_equal : BinaryOp → Expr → Expr
where_equal op.Equal e = not_part e
where_equal _ e = e

-- a test of two values that are taken at a type
abbrev pub test_part : BinaryOp → Ty → List Expr → List Expr → Expr
test_part o t.Bool xs ys = Op (truth_code o) (single_part xs) (single_part ys)
test_part o t.Bit xs ys = where_equal o (Op code.Xor (single_part xs) (single_part ys))
test_part o (t.Bits n) xs ys = where_equal o (any_part (paired code.Xor xs ys))
test_part o type xs ys = Op (word_code o type) (single_part xs) (single_part ys)

-- an operator with a result of type m on two values, of which the left is taken at type l
abbrev pub applied_parts : BinaryOp → Ty → Ty → List Expr → List Expr → List Expr
applied_parts o l t.Bool xs ys = test_part o l xs ys ∷ []
applied_parts o l t.Bit xs ys = Op (truth_code o) (single_part xs) (single_part ys) ∷ []
applied_parts o l (t.Bits n) xs ys = paired (truth_code o) xs ys
applied_parts o l m xs ys = reduced_part m (Op (word_code o m) (single_part xs) (single_part ys)) ∷ []

-- a value of n parts that are shifted by k places; what comes in is 0
abbrev pub shifted_parts : BinaryOp → ℕ → List Expr → List Expr
shifted_parts op.ShiftLeft k xs = take (length xs) (replicate k (Truth false) ++ xs)
shifted_parts _ k xs = drop k xs ++ replicate (min k (length xs)) (Truth false)

-- an operator on a value of type m and a whole constant, its divisor or amount
abbrev pub scaled_parts : BinaryOp → Ty → List Expr → ℕ → List Expr
scaled_parts o (t.Bits n) xs k = shifted_parts o k xs
scaled_parts o m xs k = reduced_part m (Op (word_code o m) (single_part xs) (Number (pos k))) ∷ []

-- ---- unary operators on a value of type a, with a result of type m

abbrev pub complement_parts : Ty → List Expr → List Expr
complement_parts t.Bit xs = map not_part xs
complement_parts (t.Bits n) xs = map not_part xs
complement_parts m xs = reduced_part m (Op code.Xor (single_part xs) (Number (negsuc 0))) ∷ []

abbrev pub unary_parts : UnaryOp → Ty → Ty → List Expr → List Expr
unary_parts unary.Not a m xs = not_part (truth_part a xs) ∷ []
unary_parts unary.Complement a m xs = complement_parts m xs
unary_parts unary.Negate a m xs = reduced_part m (Op code.Sub (Number (pos 0)) (single_part xs)) ∷ []
