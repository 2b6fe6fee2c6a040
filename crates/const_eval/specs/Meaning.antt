-- What names mean where a constant expression stands.
use Rattle.std.specs.Prelude.{ℕ, Bool, true, false, List, nat_eq}
use Rattle.std.specs.Map.{lookup}
use Rattle.std.specs.Option.{option_and_then, unwrap_or}
use Rattle.qasm_ast.specs.Whole.{Source}
use Rattle.qasm_ast.specs.View.{number_of}
use Rattle.const_eval.specs.Constant.{Constant}

pub data Meaning : Type 0 where
  -- a constant, a static loop's variable, a gate's parameter whose argument is constant, or a predefined number
  Held : Constant → Meaning
  -- a run-time value
  Running : Meaning
  -- any other visible thing, as a qubit, a gate or a subroutine
  OtherThing : Meaning
  -- nothing: the name is not visible
  Nothing : Meaning

abbrev pub is_held : Meaning → Bool
is_held (Held c) = true
is_held _ = false

-- An environment says of each name of the program, by its number, what it means. A name is looked up by its text here,
-- since no two names of a program are equal.
abbrev pub meaning_in : Source → List (ℕ × Meaning) → List ℕ → Meaning
meaning_in p names text = unwrap_or (option_and_then (λ n. lookup (nat_eq n) names) (number_of p.names text)) Nothing
