-- Which expressions are constant.
use Rattle.std.specs.Prelude.{ℕ, Bool, true, false, ◌&&◌, List}
use Rattle.qasm_ast.specs.Tree.{Called, word, qubit, Tree, named, wire, number, truth, bit_string, unary, binary, cast, call, cut, Trees, no_tree, a_tree, Maybe, absent, present, Bracket, position, range, members, Brackets, no_bracket, a_bracket}
use Rattle.const_eval.specs.Meaning.{Meaning, is_held}

-- the name of an operand means a constant; `$n` is no name
abbrev pub is_called_constant : (List ℕ → Meaning) → Called → Bool
is_called_constant means (word text) = is_held (means text)
is_called_constant means (qubit n) = true

-- Every name in the expression means a constant, and it holds no call.
abbrev mutual
  pub is_constant : (List ℕ → Meaning) → Tree → Bool
  is_constant means (named name index _ _) = is_called_constant means name && are_constant_brackets means index
  is_constant means (wire n _) = true
  is_constant means (number n _) = true
  is_constant means (truth b _) = true
  is_constant means (bit_string bits _) = true
  is_constant means (unary _ a _) = is_constant means a
  is_constant means (binary _ a b _) = is_constant means a && is_constant means b
  is_constant means (cast _ width _ a _) = is_constant_maybe means width && is_constant means a
  is_constant means (call name as' _) = false
  is_constant means cut = false

  pub are_constant : (List ℕ → Meaning) → Trees → Bool
  are_constant means no_tree = true
  are_constant means (a_tree a as') = is_constant means a && are_constant means as'

  pub is_constant_maybe : (List ℕ → Meaning) → Maybe → Bool
  is_constant_maybe means absent = true
  is_constant_maybe means (present a) = is_constant means a

  pub is_constant_bracket : (List ℕ → Meaning) → Bracket → Bool
  is_constant_bracket means (position a) = is_constant means a
  is_constant_bracket means (range start step stop _) = is_constant_maybe means start && (is_constant_maybe means step && is_constant_maybe means stop)
  is_constant_bracket means (members as') = are_constant means as'

  pub are_constant_brackets : (List ℕ → Meaning) → Brackets → Bool
  are_constant_brackets means no_bracket = true
  are_constant_brackets means (a_bracket b bs) = is_constant_bracket means b && are_constant_brackets means bs
