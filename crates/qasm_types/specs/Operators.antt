-- The operators that there are on typed operands, a row after the other: those of the OpenQASM 3.0 specification, "Classical instructions", as far as the profile has them, with those on constants and on turns.
use Rattle.std.specs.Prelude.{ℕ, ◌≤◌, max, ℤ}
use Rattle.qasm_ast.specs.declared.expr.BinaryOp.{BinaryOp}
use Rattle.qasm_ast.specs.declared.expr.BinaryOp.TheVariants as op
use Rattle.qasm_ast.specs.declared.expr.UnaryOp.{UnaryOp}
use Rattle.qasm_ast.specs.declared.expr.UnaryOp.TheVariants as unary
use Rattle.qasm_types.specs.declared.ty.Ty.{Ty}
use Rattle.qasm_types.specs.declared.ty.Ty.TheVariants as t
use Rattle.qasm_types.specs.Types.{IsTruth, IsWord}
use Rattle.qasm_types.specs.Casts.{HasCast}
use Rattle.qasm_types.specs.Words.{MeetAt, IsTakenAs, constant_beside}

-- The operators that share their rows.
pub data Group : Type 0 where
  Sum : Group
  Product : Group
  Quotient : Group
  Rest : Group
  Shift : Group
  Bitwise : Group
  Equality : Group
  Order : Group
  Logic : Group
  Power : Group

abbrev pub group_of : BinaryOp → Group
group_of op.Add = Sum
group_of op.Subtract = Sum
group_of op.Multiply = Product
group_of op.Divide = Quotient
group_of op.Remainder = Rest
group_of op.ShiftLeft = Shift
group_of op.ShiftRight = Shift
group_of op.BitAnd = Bitwise
group_of op.BitOr = Bitwise
group_of op.BitXor = Bitwise
group_of op.Equal = Equality
group_of op.NotEqual = Equality
group_of op.Less = Order
group_of op.LessEqual = Order
group_of op.Greater = Order
group_of op.GreaterEqual = Order
group_of op.And = Logic
group_of op.Or = Logic
group_of op.Power = Power

-- ---- kinds of operands

-- two angles of one width, or one and a fraction of pi, which is taken at its type
pub data AnglesAt : Ty → Ty → Ty → Type 0 where
  TwoAngles : (n : ℕ) → AnglesAt (t.Angle n) (t.Angle n) (t.Angle n)
  AngleAndFraction : (n : ℕ) → AnglesAt (t.Angle n) t.Pi (t.Angle n)
  FractionAndAngle : (n : ℕ) → AnglesAt t.Pi (t.Angle n) (t.Angle n)

-- two turns, or one and a fraction of pi, which is taken as a turn
pub data AreTurns : Ty → Ty → Type 0 where
  TwoTurns : AreTurns t.Turn t.Turn
  TurnAndFraction : AreTurns t.Turn t.Pi
  FractionAndTurn : AreTurns t.Pi t.Turn

-- two constants of one kind, which are computed exactly
pub data AreConstants : Ty → Ty → Ty → Type 0 where
  TwoWholes : AreConstants t.Whole t.Whole t.Whole
  TwoFractions : AreConstants t.Pi t.Pi t.Pi

-- A word or a whole constant. A divisor and an amount are whole constants; where a word stands in the place of one, the row stands, and the program breaks the rule of divisors or of amounts.
abbrev pub IsNumber : Ty → Type 0
IsNumber t.Whole = Unit {0}
IsNumber (t.Int n) = Unit {0}
IsNumber (t.Uint n) = Unit {0}
IsNumber _ = ⊥

-- what `<<` and `>>` act on beside whole numbers
abbrev pub IsShifted : Ty → Type 0
IsShifted (t.Int n) = Unit {0}
IsShifted (t.Uint n) = Unit {0}
IsShifted (t.Bits n) = Unit {0}
IsShifted (t.Angle n) = Unit {0}
IsShifted _ = ⊥

-- ---- the rows

-- The table has a row for these operators with operands of types a and b. The last three types are those at which the left and the right operand are taken, and that of the result. Where a type is `Whole`, u or v is the value.
pub data HasRow : Group → Ty → ℤ → Ty → ℤ → Ty → Ty → Ty → Type 0 where
  -- `+` and `-`: two words; two angles; in a gate's body two turns; constants
  SumOfWords : (a b m : Ty) (u v : ℤ) → MeetAt a u b v m → HasRow Sum a u b v m m m
  SumOfAngles : (a b m : Ty) (u v : ℤ) → AnglesAt a b m → HasRow Sum a u b v m m m
  SumOfTurns : (a b : Ty) (u v : ℤ) → AreTurns a b → HasRow Sum a u b v t.Turn t.Turn t.Turn
  SumOfConstants : (a b m : Ty) (u v : ℤ) → AreConstants a b m → HasRow Sum a u b v m m m
  -- `*`: two words; an angle and a word or a whole constant, either way; a turn and a whole constant, either way; constants
  ProductOfWords : (a b m : Ty) (u v : ℤ) → MeetAt a u b v m → HasRow Product a u b v m m m
  AngleTimes : (n : ℕ) (b : Ty) (u v : ℤ) → IsNumber b → HasRow Product (t.Angle n) u b v (t.Angle n) b (t.Angle n)
  TimesAngle : (n : ℕ) (a : Ty) (u v : ℤ) → IsNumber a → HasRow Product a u (t.Angle n) v a (t.Angle n) (t.Angle n)
  TurnTimes : (u v : ℤ) → HasRow Product t.Turn u t.Whole v t.Turn t.Whole t.Turn
  TimesTurn : (u v : ℤ) → HasRow Product t.Whole u t.Turn v t.Whole t.Turn t.Turn
  ProductOfWholes : (u v : ℤ) → HasRow Product t.Whole u t.Whole v t.Whole t.Whole t.Whole
  FractionTimes : (u v : ℤ) → HasRow Product t.Pi u t.Whole v t.Pi t.Whole t.Pi
  TimesFraction : (u v : ℤ) → HasRow Product t.Whole u t.Pi v t.Whole t.Pi t.Pi
  -- `/`: a word or an angle by a divisor; a turn, a whole constant or a fraction by a whole constant
  QuotientOfWords : (a b m : Ty) (u v : ℤ) → MeetAt a u b v m → HasRow Quotient a u b v m m m
  AngleOver : (n : ℕ) (b : Ty) (u v : ℤ) → IsNumber b → HasRow Quotient (t.Angle n) u b v (t.Angle n) b (t.Angle n)
  TurnOver : (u v : ℤ) → HasRow Quotient t.Turn u t.Whole v t.Turn t.Whole t.Turn
  QuotientOfWholes : (u v : ℤ) → HasRow Quotient t.Whole u t.Whole v t.Whole t.Whole t.Whole
  FractionOver : (u v : ℤ) → HasRow Quotient t.Pi u t.Whole v t.Pi t.Whole t.Pi
  -- `%`: a word by a divisor; whole constants
  RestOfWords : (a b m : Ty) (u v : ℤ) → MeetAt a u b v m → HasRow Rest a u b v m m m
  RestOfWholes : (u v : ℤ) → HasRow Rest t.Whole u t.Whole v t.Whole t.Whole t.Whole
  -- `<<` and `>>`: a word, a register of bits or an angle by an amount, at its own type; a whole constant
  Shifted : (a b : Ty) (u v : ℤ) → IsShifted a → IsNumber b → HasRow Shift a u b v a b a
  ConstantShifted : (b : Ty) (u v : ℤ) → IsWord b → HasRow Shift t.Whole u b v (constant_beside b u) b (constant_beside b u)
  ShiftOfWholes : (u v : ℤ) → HasRow Shift t.Whole u t.Whole v t.Whole t.Whole t.Whole
  -- `&`, `|` and `^`: two words; two registers of one width; two of `bit` and `bool`; one of these as `uint[1]` with a word or a whole constant; whole constants
  BitwiseOnWords : (a b m : Ty) (u v : ℤ) → MeetAt a u b v m → HasRow Bitwise a u b v m m m
  BitwiseOnBits : (n : ℕ) (u v : ℤ) → HasRow Bitwise (t.Bits n) u (t.Bits n) v (t.Bits n) (t.Bits n) (t.Bits n)
  BitwiseOnTruth : (a b : Ty) (u v : ℤ) → IsTruth a → IsTruth b → HasRow Bitwise a u b v t.Bit t.Bit t.Bit
  TruthAndWord : (a b m : Ty) (u v : ℤ) → IsTruth a → MeetAt (t.Uint 1) u b v m → HasRow Bitwise a u b v m m m
  WordAndTruth : (a b m : Ty) (u v : ℤ) → IsTruth b → MeetAt a u (t.Uint 1) v m → HasRow Bitwise a u b v m m m
  BitwiseOnWholes : (u v : ℤ) → HasRow Bitwise t.Whole u t.Whole v t.Whole t.Whole t.Whole
  -- `==` and `!=`: two words; two of `bit` and `bool`; two registers of one width; two angles; constants
  EqualWords : (a b m : Ty) (u v : ℤ) → MeetAt a u b v m → HasRow Equality a u b v m m t.Bool
  EqualTruth : (a b : Ty) (u v : ℤ) → IsTruth a → IsTruth b → HasRow Equality a u b v t.Bit t.Bit t.Bool
  EqualBits : (n : ℕ) (u v : ℤ) → HasRow Equality (t.Bits n) u (t.Bits n) v (t.Bits n) (t.Bits n) t.Bool
  EqualAngles : (a b m : Ty) (u v : ℤ) → AnglesAt a b m → HasRow Equality a u b v m m t.Bool
  EqualConstants : (a b m : Ty) (u v : ℤ) → AreConstants a b m → HasRow Equality a u b v m m t.Bool
  -- `<`, `<=`, `>` and `>=`: two words; two registers of one width of at most 64, as `uint[n]`; two angles, by count; constants
  OrderOfWords : (a b m : Ty) (u v : ℤ) → MeetAt a u b v m → HasRow Order a u b v m m t.Bool
  OrderOfBits : (n : ℕ) (u v : ℤ) → n ≤ 64 → HasRow Order (t.Bits n) u (t.Bits n) v (t.Uint (max n 1)) (t.Uint (max n 1)) t.Bool
  OrderOfAngles : (a b m : Ty) (u v : ℤ) → AnglesAt a b m → HasRow Order a u b v m m t.Bool
  OrderOfConstants : (a b m : Ty) (u v : ℤ) → AreConstants a b m → HasRow Order a u b v m m t.Bool
  -- all six comparisons: `bit`, `bool` or a register of at most 64 bits, as a word, with a word or a whole constant
  EqualMixed : (n : ℕ) (a b m : Ty) (u v : ℤ) → IsTakenAs a n → MeetAt (t.Uint n) u b v m → HasRow Equality a u b v m m t.Bool
  MixedEqual : (n : ℕ) (a b m : Ty) (u v : ℤ) → IsTakenAs b n → MeetAt a u (t.Uint n) v m → HasRow Equality a u b v m m t.Bool
  OrderMixed : (n : ℕ) (a b m : Ty) (u v : ℤ) → IsTakenAs a n → MeetAt (t.Uint n) u b v m → HasRow Order a u b v m m t.Bool
  MixedOrder : (n : ℕ) (a b m : Ty) (u v : ℤ) → IsTakenAs b n → MeetAt a u (t.Uint n) v m → HasRow Order a u b v m m t.Bool
  -- `&&` and `||`: what casts to `bool`
  LogicOnCasts : (a b : Ty) (u v : ℤ) → HasCast a u t.Bool → HasCast b v t.Bool → HasRow Logic a u b v t.Bool t.Bool t.Bool
  -- `**`: whole constants
  PowerOfWholes : (u v : ℤ) → HasRow Power t.Whole u t.Whole v t.Whole t.Whole t.Whole

-- The table has a row for a unary operator on an operand of type a; the last type is that of the result.
pub data HasUnaryRow : UnaryOp → Ty → ℤ → Ty → Type 0 where
  -- `!`: what casts to `bool`
  NotOnCasts : (a : Ty) (v : ℤ) → HasCast a v t.Bool → HasUnaryRow unary.Not a v t.Bool
  -- `~`: a word, `bit`, a register of bits, a whole constant
  ComplementOfWord : (a : Ty) (v : ℤ) → IsWord a → HasUnaryRow unary.Complement a v a
  ComplementOfBit : (v : ℤ) → HasUnaryRow unary.Complement t.Bit v t.Bit
  ComplementOfBits : (n : ℕ) (v : ℤ) → HasUnaryRow unary.Complement (t.Bits n) v (t.Bits n)
  ComplementOfWhole : (v : ℤ) → HasUnaryRow unary.Complement t.Whole v t.Whole
  -- `-`: a word, an angle, a turn, a whole constant, a fraction of pi
  NegativeOfWord : (a : Ty) (v : ℤ) → IsWord a → HasUnaryRow unary.Negate a v a
  NegativeOfAngle : (n : ℕ) (v : ℤ) → HasUnaryRow unary.Negate (t.Angle n) v (t.Angle n)
  NegativeOfTurn : (v : ℤ) → HasUnaryRow unary.Negate t.Turn v t.Turn
  NegativeOfWhole : (v : ℤ) → HasUnaryRow unary.Negate t.Whole v t.Whole
  NegativeOfFraction : (v : ℤ) → HasUnaryRow unary.Negate t.Pi v t.Pi
