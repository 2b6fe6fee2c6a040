-- For private contracts alone: what the walks of the tests find.
use Rattle.std.specs.Prelude.{ℕ, Bool, true, false, ◌||◌, List, nat_eq}
use Rattle.std.specs.Cmp.Lexicographic.{pointwise}
use Rattle.qasm_ast.specs.Tree.{Called, word, qubit, Tree, named, unary, binary, cast, call, Trees, no_tree, a_tree, Maybe, absent, present, Bracket, position, range, members, Brackets, no_bracket, a_bracket, Statement, gate, subroutine, branch, while, for_range, for_set, Statements, no_statement, a_statement}

abbrev pub is_word : List ℕ → Called → Bool
is_word text (word name) = pointwise nat_eq name text
is_word text (qubit n) = false

-- whether a name occurs in an expression
abbrev mutual
  pub occurs : List ℕ → Tree → Bool
  occurs text (named name index _ _) = is_word text name || occurs_in_brackets text index
  occurs text (unary _ a _) = occurs text a
  occurs text (binary _ a b _) = occurs text a || occurs text b
  occurs text (cast _ width _ a _) = occurs_in_maybe text width || occurs text a
  occurs text (call name as' _) = pointwise nat_eq name text || occurs_in_any text as'
  occurs text _ = false

  pub occurs_in_any : List ℕ → Trees → Bool
  occurs_in_any text no_tree = false
  occurs_in_any text (a_tree a as') = occurs text a || occurs_in_any text as'

  pub occurs_in_maybe : List ℕ → Maybe → Bool
  occurs_in_maybe text absent = false
  occurs_in_maybe text (present a) = occurs text a

  pub occurs_in_bracket : List ℕ → Bracket → Bool
  occurs_in_bracket text (position a) = occurs text a
  occurs_in_bracket text (range start step stop _) = occurs_in_maybe text start || (occurs_in_maybe text step || occurs_in_maybe text stop)
  occurs_in_bracket text (members as') = occurs_in_any text as'

  pub occurs_in_brackets : List ℕ → Brackets → Bool
  occurs_in_brackets text no_bracket = false
  occurs_in_brackets text (a_bracket b bs) = occurs_in_bracket text b || occurs_in_brackets text bs

-- whether a loop stands in a statement
abbrev mutual
  pub loops : Statement → Bool
  loops (gate _ _ _ body _ _) = any_loops body
  loops (subroutine _ _ _ body _ _) = any_loops body
  loops (branch _ taken other _ _) = any_loops taken || any_loops other
  loops (while _ _ _ _) = true
  loops (for_range _ _ _ _ _ _ _ _) = true
  loops (for_set _ _ _ _ _ _) = true
  loops _ = false

  pub any_loops : Statements → Bool
  any_loops no_statement = false
  any_loops (a_statement s ss) = loops s || any_loops ss
