-- Where in a body a name is used in a constant place. By this a `for` over a range is static or running.
--
-- Beside the constant places in expressions, these are an index, a width, a step, the initial value of a `const`, an exponent of
-- `pow`, a count of `ctrl`, a gate's argument, and the start and the stop of a `for` whose own variable is used in a constant
-- place of its body. A use counts by its spelling, in branches that are never taken too, until a declaration hides the name.
use Rattle.std.specs.Prelude.{ℕ, Bool, true, false, not, ◌&&◌, ◌||◌, if◌then◌else◌, List, Option, Some, None}
use Rattle.std.specs.List.{list_any}
use Rattle.qasm_ast.specs.declared.expr.BinaryOp.{BinaryOp}
use Rattle.qasm_ast.specs.Tree.{Tree, named, binary, Scalar, Operand, Value, expression, measured, Change, inverse, power, control, Statement, qubits, variable, constant, output, alias, gate, subroutine, gate_call, barrier, reset, measurement, assign, invoke, branch, while, for_range, for_set, break, continue, give, Statements, no_statement, a_statement}
use Rattle.scope_env.specs.OpenScopes.{is_same}
use Rattle.const_eval.specs.ConstantPlaces.{occurs, occurs_in_any, occurs_in_maybe, is_fixed_by, is_fixed_by_any, is_in_operand}

-- ---- in the parts of statements

abbrev pub is_in_type : List ℕ → Scalar → Bool
is_in_type x type = occurs_in_maybe x type.width

abbrev pub is_in_operands : List ℕ → List Operand → Bool
is_in_operands x os = list_any (is_in_operand x) os

abbrev pub is_in_value : List ℕ → Value → Bool
is_in_value x (expression a) = is_fixed_by x a
is_in_value x (measured o) = is_in_operand x o

abbrev pub is_in_change : List ℕ → Change → Bool
is_in_change x (inverse _) = false
is_in_change x (power a _) = occurs x a
is_in_change x (control count _) = occurs_in_maybe x count

abbrev pub is_in_some : {A : Type 0} → (A → Bool) → Option A → Bool
is_in_some f None = false
is_in_some f (Some a) = f a

-- `x op= e` is `x op e`
abbrev pub changed : Operand → BinaryOp → Tree → Tree
changed target o a = binary o (named target.name target.index target.place target.place) a target.place

abbrev pub is_in_assigned : List ℕ → Operand → Option BinaryOp → Value → Bool
is_in_assigned x target (Some o) (expression a) = is_fixed_by x (changed target o a)
is_in_assigned x target _ value = is_in_value x value

-- the name that a statement declares in the scope in which it stands
abbrev pub declares : List ℕ → Statement → Bool
declares x (qubits _ name _ _) = is_same x name.text
declares x (variable _ name _ _ _) = is_same x name.text
declares x (constant _ name _ _ _) = is_same x name.text
declares x (output _ name _ _) = is_same x name.text
declares x (alias name _ _ _) = is_same x name.text
declares x (gate name _ _ _ _ _) = is_same x name.text
declares x (subroutine name _ _ _ _ _) = is_same x name.text
declares x _ = false

abbrev mutual
  -- the name is used in a constant place of a statement
  pub is_fixed_in : List ℕ → Statement → Bool
  is_fixed_in x (qubits type _ _ _) = is_in_type x type
  is_fixed_in x (variable type _ value _ _) = is_in_type x type || is_in_some (is_in_value x) value
  is_fixed_in x (constant type _ a _ _) = is_in_type x type || occurs x a
  is_fixed_in x (output type _ _ _) = is_in_type x type
  is_fixed_in x (alias _ os _ _) = is_in_operands x os
  is_fixed_in x (gate_call changes _ as' os _ _) = list_any (is_in_change x) changes || (occurs_in_any x as' || is_in_operands x os)
  is_fixed_in x (barrier os _ _) = is_in_operands x os
  is_fixed_in x (reset o _ _) = is_in_operand x o
  is_fixed_in x (measurement o target _ _) = is_in_operand x o || is_in_some (is_in_operand x) target
  is_fixed_in x (assign target o value _ _) = is_in_operand x target || is_in_assigned x target o value
  is_fixed_in x (invoke a _ _) = is_fixed_by x a
  is_fixed_in x (branch a taken other _ _) = is_fixed_by x a || (are_fixed_in x taken || are_fixed_in x other)
  is_fixed_in x (while a body _ _) = is_fixed_by x a || are_fixed_in x body
  is_fixed_in x (for_range type name start step stop body _ _) =
      is_in_type x type || (occurs_in_maybe x step || ((if are_fixed_in name.text body then occurs x start || occurs x stop else is_fixed_by x start || is_fixed_by x stop)
      || (not (is_same x name.text) && are_fixed_in x body)))
  is_fixed_in x (for_set type name as' body _ _) = is_in_type x type || (is_fixed_by_any x as' || (not (is_same x name.text) && are_fixed_in x body))
  is_fixed_in x (give value _ _) = is_in_some (is_in_value x) value
  -- a definition is not walked where it stands, and the rest has no expressions
  is_fixed_in x _ = false

  pub are_fixed_in : List ℕ → Statements → Bool
  are_fixed_in x no_statement = false
  are_fixed_in x (a_statement s ss) = is_fixed_in x s || (not (declares x s) && are_fixed_in x ss)

-- ---- jumps

-- a `break` or a `continue` of the loop whose body this is
abbrev mutual
  pub jumps : Statement → Bool
  jumps (break _ _) = true
  jumps (continue _ _) = true
  jumps (branch _ taken other _ _) = any_jumps taken || any_jumps other
  jumps _ = false

  pub any_jumps : Statements → Bool
  any_jumps no_statement = false
  any_jumps (a_statement s ss) = jumps s || any_jumps ss
