-- The levels of a tree. Each of these opens a level: a pair of round or square brackets, a set, a body,
-- the operand of a unary operator, the right operand of a power, and a gate modifier, which stays open to
-- the end of its call. Round brackets that only group, and empty ones behind a gate name, leave no node
-- and are not counted.
use Rattle.std.specs.Prelude.{ℕ, suc, max, List, [], ◌∷◌, Option, Some, None}
use Rattle.qasm_ast.specs.declared.expr.BinaryOp.{BinaryOp}
use Rattle.qasm_ast.specs.declared.expr.BinaryOp.TheVariants as op
use Rattle.qasm_ast.specs.Tree.{Tree, named, wire, number, truth, bit_string, unary, binary, cast, call, cut, Trees, no_tree, a_tree, Maybe, absent, present, Bracket, position, range, members, Brackets, no_bracket, a_bracket, Scalar, Operand, Value, expression, measured, Change, inverse, power, control, Name, Parameter, Statement, include, qubits, variable, constant, output, alias, gate, subroutine, gate_call, barrier, reset, measurement, assign, invoke, branch, while, for_range, for_set, break, continue, end, give, cut_off, Statements, no_statement, a_statement}

-- the level of the right operand, seen from outside
abbrev pub right_level : BinaryOp → ℕ → ℕ
right_level op.Power n = suc n
right_level _ n = n

abbrev mutual
  -- the greatest level that is open somewhere in an expression
  pub level_of : Tree → ℕ
  level_of (named name index place place') = brackets_level index
  level_of (wire n place) = 0
  level_of (number n place) = 0
  level_of (truth b place) = 0
  level_of (bit_string bs place) = 0
  level_of (unary o a place) = suc (level_of a)
  level_of (binary o a b place) = max (level_of a) (right_level o (level_of b))
  level_of (cast base width place a place') = max (width_level width) (suc (level_of a))
  level_of (call name as' place) = suc (trees_level as')
  level_of cut = 0

  pub trees_level : Trees → ℕ
  trees_level no_tree = 0
  trees_level (a_tree a as') = max (level_of a) (trees_level as')

  pub maybe_level : Maybe → ℕ
  maybe_level absent = 0
  maybe_level (present a) = level_of a

  -- a width stands in square brackets
  pub width_level : Maybe → ℕ
  width_level absent = 0
  width_level (present a) = suc (level_of a)

  pub bracket_level : Bracket → ℕ
  bracket_level (position a) = suc (level_of a)
  bracket_level (range start step stop place) = suc (max (maybe_level start) (max (maybe_level step) (maybe_level stop)))
  bracket_level (members as') = suc (suc (trees_level as'))

  pub brackets_level : Brackets → ℕ
  brackets_level no_bracket = 0
  brackets_level (a_bracket b bs) = max (bracket_level b) (brackets_level bs)

-- the greatest of the numbers of a list
abbrev pub greatest : {A : Type 0} → (A → ℕ) → List A → ℕ
greatest f [] = 0
greatest f (a ∷ as') = max (f a) (greatest f as')

abbrev pub level_if_some : {A : Type 0} → (A → ℕ) → Option A → ℕ
level_if_some f None = 0
level_if_some f (Some a) = f a

abbrev pub scalar_level : Scalar → ℕ
scalar_level type = width_level type.width

abbrev pub operand_level : Operand → ℕ
operand_level o = brackets_level o.index

abbrev pub operands_level : List Operand → ℕ
operands_level = greatest operand_level

abbrev pub value_level : Value → ℕ
value_level (expression a) = level_of a
value_level (measured o) = operand_level o

-- the parameters of a gate stand in round brackets, which are left out where there are none
abbrev pub names_level : List Name → ℕ
names_level [] = 0
names_level (p ∷ ps) = 1

-- so do the arguments of a gate call
abbrev pub arguments_level : Trees → ℕ
arguments_level no_tree = 0
arguments_level (a_tree a as') = suc (trees_level (a_tree a as'))

abbrev pub parameter_level : Parameter → ℕ
parameter_level p = scalar_level p.type

-- a modifier opens a level for all that follows it in the call
abbrev pub changes_level : List Change → ℕ → ℕ
changes_level [] inside = inside
changes_level (inverse place ∷ changes) inside = suc (changes_level changes inside)
changes_level (power a place ∷ changes) inside = suc (max (suc (level_of a)) (changes_level changes inside))
changes_level (control a place ∷ changes) inside = suc (max (width_level a) (changes_level changes inside))

abbrev mutual
  pub stmt_level : Statement → ℕ
  stmt_level (include place close) = 0
  stmt_level (qubits type name place close) = scalar_level type
  stmt_level (variable type name value place close) = max (scalar_level type) (level_if_some value_level value)
  stmt_level (constant type name a place close) = max (scalar_level type) (level_of a)
  stmt_level (output type name place close) = scalar_level type
  stmt_level (alias name os place close) = operands_level os
  stmt_level (gate name params qs body place close) = max (names_level params) (suc (stmts_level body))
  stmt_level (subroutine name params result body place close) = max (suc (greatest parameter_level params)) (max (level_if_some scalar_level result) (suc (stmts_level body)))
  stmt_level (gate_call changes name as' os place close) = changes_level changes (max (arguments_level as') (operands_level os))
  stmt_level (barrier os place close) = operands_level os
  stmt_level (reset o place close) = operand_level o
  stmt_level (measurement o target place close) = max (operand_level o) (level_if_some operand_level target)
  stmt_level (assign target o value place close) = max (operand_level target) (value_level value)
  stmt_level (invoke a place close) = level_of a
  stmt_level (branch a taken other place close) = suc (max (level_of a) (max (stmts_level taken) (stmts_level other)))
  stmt_level (while a body place close) = suc (max (level_of a) (stmts_level body))
  stmt_level (for_range type name start step stop body place close) = max (scalar_level type) (suc (max (max (level_of start) (max (maybe_level step) (level_of stop))) (stmts_level body)))
  stmt_level (for_set type name as' body place close) = max (scalar_level type) (suc (max (trees_level as') (stmts_level body)))
  stmt_level (break place close) = 0
  stmt_level (continue place close) = 0
  stmt_level (end place close) = 0
  stmt_level (give value place close) = level_if_some value_level value
  stmt_level cut_off = 0

  pub stmts_level : Statements → ℕ
  stmts_level no_statement = 0
  stmts_level (a_statement s ss) = max (stmt_level s) (stmts_level ss)
