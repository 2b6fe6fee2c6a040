-- What a value of the code's type of constants is, and what the answers of an environment say.
use Rattle.std.specs.Prelude.{◌<◌, ◌&&◌, ℕ, Bool, false, List, reverse, length, nat_eq, Result, Ok, Err, IsSome}
use Rattle.std.specs.Map.{lookup}
use Rattle.qq_base.specs.declared.run.QubitId.{QubitId}
use Rattle.qq_base.specs.declared.rule.Rule.{Rule}
use Rattle.qasm_ast.specs.declared.expr.OperandName.{OperandName}
use Rattle.qasm_ast.specs.declared.expr.OperandName.TheVariants as o
use Rattle.qasm_ast.specs.Whole.{Source}
use Rattle.alias_resolve.specs.Places.{Selected}
use Rattle.const_eval.specs.declared.constant.Const.{Const}
use Rattle.const_eval.specs.declared.constant.Const.TheVariants as c
use Rattle.const_eval.specs.declared.environment.Lookup.{Lookup}
use Rattle.const_eval.specs.declared.environment.Lookup.TheVariants as l
use Rattle.const_eval.specs.declared.environment.Callable.{Callable}
use Rattle.const_eval.specs.declared.environment.Qubits.{Qubits}
use Rattle.const_eval.specs.declared.environment.Visible.{Visible}
use Rattle.const_eval.specs.declared.environment.Visible.TheVariants as v
use Rattle.const_eval.specs.Constant.{Constant, whole, part_of_pi, truth_value, register_of, angle_of}
use Rattle.const_eval.specs.Meaning.{Meaning, Held, Running, OtherThing, Nothing}

-- the rightmost of written bits has index 0
abbrev pub constant_of : Const → Constant
constant_of (c.Whole w) = whole w.number
constant_of (c.Pi f) = part_of_pi f
constant_of (c.Bool b) = truth_value b
constant_of (c.Bits bits) = register_of (reverse bits.text)
constant_of (c.Angle a) = angle_of a.width a.count

abbrev pub meaning_of : Lookup → Meaning
meaning_of (l.Value c) = Held (constant_of c.now)
meaning_of l.Variable = Running
meaning_of l.Other = OtherThing
meaning_of l.Unknown = Nothing

-- an environment says of each name of a program what it means
abbrev pub HasNames : Source → List (ℕ × Meaning) → Type 0
HasNames p names = (n : ℕ) → n < length p.names → IsSome (lookup (nat_eq n) names)

-- ---- what calls of gates and subroutines ask for

-- the qubits of an operand, or the rule that its name breaks
abbrev pub qubits_of : Result Qubits Rule → Result (Selected QubitId) Rule
qubits_of (Ok q) = Ok (record { items = q.ids.now; single = q.single })
qubits_of (Err rule) = Err rule

-- what a name means in the body and the types of a definition
pub data MeaningInside : Type 0 where
  HeldInside : Constant → MeaningInside
  CalledInside : Callable → MeaningInside
  NothingInside : MeaningInside

abbrev pub meaning_inside : Visible → MeaningInside
meaning_inside (v.Value c) = HeldInside (constant_of c.now)
meaning_inside (v.Called callable) = CalledInside callable
meaning_inside v.Unknown = NothingInside

-- ---- keys of the maps

abbrev pub is_same_operand : OperandName → OperandName → Bool
is_same_operand (o.Name m) (o.Name n) = nat_eq m n
is_same_operand (o.Hardware m) (o.Hardware n) = nat_eq m n
is_same_operand _ _ = false

-- a definition and a name
abbrev pub is_same_place : ℕ × ℕ → ℕ × ℕ → Bool
is_same_place a b = nat_eq a.0 b.0 && nat_eq a.1 b.1
