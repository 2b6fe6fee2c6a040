-- Turns: numbers of units that are known when the program runs. They stand in a list, in which each names arguments of the
-- call and turns in front of it: the angles of the OpenQASM 3.0 specification, "Types and Casting", in units of 2^-32 turn
-- modulo 2^64.
use Rattle.std.specs.Prelude.{◌≡◌, ℕ, ◌*◌, ◌<◌, ◌≤◌, nat_lt, Bool, true, false, not, ◌&&◌, IsTrue, List, [], ◌∷◌, ◌++◌, length, slice_get, slice_index_or, count_by, All, ℤ, pos, ◌+ℤ◌, ◌-ℤ◌, ◌*ℤ◌, int_div, int_le, Some}
use Rattle.gate_lists.specs.declared.expansion.GateArg.{GateArg}
use Rattle.gate_lists.specs.declared.expansion.GateArg.TheVariants as arg
use Rattle.gate_lists.specs.declared.expansion.LeafCall.{LeafCall}
use Rattle.gate_lists.specs.declared.expansion.TurnExpr.{TurnExpr}
use Rattle.gate_lists.specs.declared.expansion.TurnExpr.TheVariants as turn
use Rattle.gate_lists.specs.Units.{word_of, negated}

-- ---- what turns are worth

-- What a turn is worth where the arguments of the call have the units `given`, and each turn that it names what `worths` gives
-- for it.
abbrev pub worth_by : (ℕ → ℤ) → (ℕ → ℤ) → TurnExpr → ℤ
worth_by given worths (turn.Outer k) = word_of (given k)
worth_by given worths (turn.Fixed z) = word_of z
worth_by given worths (turn.Neg a) = negated (worths a)
worth_by given worths (turn.Add a b) = word_of (worths a +ℤ worths b)
worth_by given worths (turn.Sub a b) = word_of (worths a -ℤ worths b)
worth_by given worths (turn.Mul a k) = word_of (worths a *ℤ k)
worth_by given worths (turn.Div a k) = word_of (int_div (worths a) k)

-- what turns are worth, in order, behind those that are worth `values`
abbrev pub worths_behind : (ℕ → ℤ) → List ℤ → List TurnExpr → List ℤ
worths_behind given values [] = values
worths_behind given values (t ∷ turns) = worths_behind given (values ++ worth_by given (λ k. slice_index_or values k (pos 0)) t ∷ []) turns

-- what the turn at a place is worth, each computed from those in front of it
abbrev pub worth_at : (ℕ → ℤ) → List TurnExpr → ℕ → ℤ
worth_at given turns k = slice_index_or (worths_behind given [] turns) k (pos 0)

-- ---- which turns there are

abbrev pub is_outer : TurnExpr → Bool
is_outer (turn.Outer k) = true
is_outer _ = false

-- A turn names turns in front of it and arguments of the call, and a divisor is at least 1.
abbrev pub turn_fits : ℕ → ℕ → TurnExpr → Bool
turn_fits args at (turn.Outer k) = nat_lt k args
turn_fits args at (turn.Fixed z) = true
turn_fits args at (turn.Neg a) = nat_lt a at
turn_fits args at (turn.Add a b) = nat_lt a at && nat_lt b at
turn_fits args at (turn.Sub a b) = nat_lt a at && nat_lt b at
turn_fits args at (turn.Mul a k) = nat_lt a at
turn_fits args at (turn.Div a k) = nat_lt a at && int_le (pos 1) k

-- how many turns are no arguments of the call
abbrev pub made_count : List TurnExpr → ℕ
made_count turns = count_by (λ (t : TurnExpr). not (is_outer t)) turns

abbrev pub ArgFits : ℕ → GateArg → Type 0
ArgFits turns (arg.Running k) = k < turns
ArgFits turns _ = Unit {0}

-- The turns of a call with so many arguments and this cost: each fits; no argument is named twice; beside those that are
-- arguments there are at most 4 for each 1 of the cost; and the instructions name turns of the list.
pub record AreTurns (args cost : ℕ) (turns : List TurnExpr) (calls : List LeafCall) : Type 0 where
  pub fit : (at : ℕ) (t : TurnExpr) → slice_get turns at ≡ Some t → IsTrue (turn_fits args at t)
  pub once : (i j k : ℕ) → slice_get turns i ≡ Some (turn.Outer k) → slice_get turns j ≡ Some (turn.Outer k) → i ≡ j
  pub few : made_count turns ≤ 4 * cost
  pub named : All (λ (call : LeafCall). All (ArgFits (length turns)) call.args) calls
