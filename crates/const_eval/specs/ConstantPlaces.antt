-- Where in an expression a name is used in a constant place. By this a `for` over a range is static or running.
--
-- Constant places in an expression are an index, a width, an operand of `**`, a divisor, a shift amount, and an expression
-- that names pi as a whole. A use counts by its spelling alone.
use Rattle.std.specs.Prelude.{ℕ, Bool, true, false, ◌&&◌, ◌||◌, if◌then◌else◌, List, [], ◌∷◌, codes}
use Rattle.std.specs.List.{list_any}
use Rattle.qasm_ast.specs.Tree.{Called, word, qubit, Tree, named, unary, binary, cast, call, Trees, no_tree, a_tree, Maybe, absent, present, Bracket, position, range, members, Brackets, no_bracket, a_bracket, Operand}
use Rattle.qasm_types.specs.Operators.{group_of, Group, Quotient, Rest, Shift, Power}
use Rattle.scope_env.specs.OpenScopes.{is_same}
use Rattle.const_eval.specs.Meaning.{Meaning}
use Rattle.const_eval.specs.IsConstant.{is_constant, is_constant_maybe}

-- ---- a name in an expression

abbrev pub is_called : List ℕ → Called → Bool
is_called x (word text) = is_same x text
is_called x (qubit n) = false

abbrev mutual
  pub occurs : List ℕ → Tree → Bool
  occurs x (named name index _ _) = is_called x name || occurs_in_brackets x index
  occurs x (unary _ a _) = occurs x a
  occurs x (binary _ a b _) = occurs x a || occurs x b
  occurs x (cast _ width _ a _) = occurs_in_maybe x width || occurs x a
  occurs x (call name as' _) = occurs_in_any x as'
  occurs x _ = false

  pub occurs_in_any : List ℕ → Trees → Bool
  occurs_in_any x no_tree = false
  occurs_in_any x (a_tree a as') = occurs x a || occurs_in_any x as'

  pub occurs_in_maybe : List ℕ → Maybe → Bool
  occurs_in_maybe x absent = false
  occurs_in_maybe x (present a) = occurs x a

  pub occurs_in_bracket : List ℕ → Bracket → Bool
  occurs_in_bracket x (position a) = occurs x a
  occurs_in_bracket x (range start step stop _) = occurs_in_maybe x start || (occurs_in_maybe x step || occurs_in_maybe x stop)
  occurs_in_bracket x (members as') = occurs_in_any x as'

  pub occurs_in_brackets : List ℕ → Brackets → Bool
  occurs_in_brackets x no_bracket = false
  occurs_in_brackets x (a_bracket b bs) = occurs_in_bracket x b || occurs_in_brackets x bs

-- ---- pi

-- the bytes of `π` and `τ`
abbrev pub pi_text : List ℕ
pi_text = 207 ∷ 128 ∷ []

abbrev pub tau_text : List ℕ
tau_text = 207 ∷ 132 ∷ []

-- the names of pi, and of twice pi
abbrev pub names_of_pi : List (List ℕ)
names_of_pi = codes "pi" ∷ pi_text ∷ codes "tau" ∷ tau_text ∷ []

abbrev pub names_pi : Tree → Bool
names_pi a = list_any (λ x. occurs x a) names_of_pi

-- ---- constant places

-- the right operand of these stands in a constant place, and of a power the left one too
abbrev pub fixes_right : Group → Bool
fixes_right Quotient = true
fixes_right Rest = true
fixes_right Shift = true
fixes_right Power = true
fixes_right _ = false

abbrev pub fixes_left : Group → Bool
fixes_left Power = true
fixes_left _ = false

-- the name is used in an index, a width, an operand of `**`, a divisor or an amount inside the expression
abbrev mutual
  pub is_inside : List ℕ → Tree → Bool
  is_inside x (named name index _ _) = occurs_in_brackets x index
  is_inside x (unary _ a _) = is_inside x a
  is_inside x (binary o a b _) =
      (if fixes_left (group_of o) then occurs x a else is_inside x a) || (if fixes_right (group_of o) then occurs x b else is_inside x b)
  is_inside x (cast _ width _ a _) = occurs_in_maybe x width || is_inside x a
  is_inside x (call name as' _) = is_inside_any x as'
  is_inside x _ = false

  pub is_inside_any : List ℕ → Trees → Bool
  is_inside_any x no_tree = false
  is_inside_any x (a_tree a as') = is_inside x a || is_inside_any x as'

-- The name is used in a constant place of an expression that is no part of a larger one: anywhere in it, where it names pi.
abbrev pub is_fixed_by : List ℕ → Tree → Bool
is_fixed_by x a = (names_pi a && occurs x a) || is_inside x a

abbrev pub is_fixed_by_any : List ℕ → Trees → Bool
is_fixed_by_any x no_tree = false
is_fixed_by_any x (a_tree a as') = is_fixed_by x a || is_fixed_by_any x as'

-- an operand has constant places in its indexes alone
abbrev pub is_in_operand : List ℕ → Operand → Bool
is_in_operand x o = occurs_in_brackets x o.index

-- ---- static loops

-- A `for` over a range is static where its variable is used in a constant place of its body and its start, stop and step are constant.
-- `is_used` says the former.
abbrev pub is_static : Bool → (List ℕ → Meaning) → Tree → Maybe → Tree → Bool
is_static is_used means start step stop = is_used && (is_constant means start && (is_constant_maybe means step && is_constant means stop))
