-- A program seen as a tree: of each of its parts, the tree that is found by following the numbers in it. The numbers
-- themselves never show.
--
-- The tree of a node is its constructor with the trees of the nodes that it names, each with a smaller number than
-- its own. So a walk over a program goes down the tree, a node a step.
use Rattle.std.specs.Prelude.{ℕ, min, List, Option, nat_eq}
use Rattle.std.specs.List.{position}
use Rattle.std.specs.Cmp.Lexicographic.{pointwise}
use Rattle.qasm_ast.specs.declared.expr.Expr.{Expr}
use Rattle.qasm_ast.specs.declared.expr.ExprId.{ExprId}
use Rattle.qasm_ast.specs.declared.expr.IndexRef.{IndexRef}
use Rattle.qasm_ast.specs.declared.expr.OperandName.{OperandName}
use Rattle.qasm_ast.specs.declared.expr.OperandRef.{OperandRef}
use Rattle.qasm_ast.specs.declared.expr.TypeRef.{TypeRef}
use Rattle.qasm_ast.specs.declared.stmt.Declared.{Declared}
use Rattle.qasm_ast.specs.declared.stmt.Modifier.{Modifier}
use Rattle.qasm_ast.specs.declared.stmt.Stmt.{Stmt}
use Rattle.qasm_ast.specs.declared.stmt.StmtId.{StmtId}
use Rattle.qasm_ast.specs.declared.stmt.ValueRef.{ValueRef}
use Rattle.qasm_ast.specs.Tree.{Tree, Trees, Maybe, Bracket, Brackets, Called, text_at, tree_of, node_of, trees_at, maybe_at, bracket_at, brackets_at, called_at, Name, name_of, Scalar, scalar_of, Operand, operand_of, Value, value_of, Change, change_of, Parameter, parameter_of, Statement, Statements, statements_at, stmt_of, statement_of}
use Rattle.qasm_ast.specs.Level.{stmts_level}
use Rattle.qasm_ast.specs.Whole.{Source}

-- The number of the name with these bytes. In a program no two names are equal.
abbrev pub number_of : List (List ℕ) → List ℕ → Option ℕ
number_of names text = position (pointwise nat_eq text) names

module _ (p : Source) where
  -- ---- by their numbers: a name's bytes, an expression, a statement

  abbrev pub text_in : ℕ → List ℕ
  text_in n = text_at p.names n

  abbrev pub tree_in : ℕ → Tree
  tree_in n = tree_of p.names p.exprs n

  abbrev pub statement_in : ℕ → Statement
  statement_in n = statement_of p.names p.exprs p.stmts n

  -- ---- the parts of a node

  abbrev pub trees_in : List ExprId → Trees
  trees_in ids = trees_at tree_in ids

  abbrev pub maybe_in : Option ExprId → Maybe
  maybe_in id = maybe_at tree_in id

  abbrev pub bracket_in : IndexRef → Bracket
  bracket_in index = bracket_at tree_in index

  abbrev pub brackets_in : List IndexRef → Brackets
  brackets_in index = brackets_at tree_in index

  abbrev pub called_in : OperandName → Called
  called_in name = called_at p.names name

  abbrev pub name_in : Declared → Name
  name_in d = name_of p.names tree_in d

  abbrev pub scalar_in : TypeRef → Scalar
  scalar_in type = scalar_of p.names tree_in type

  abbrev pub operand_in : OperandRef → Operand
  operand_in o = operand_of p.names tree_in o

  abbrev pub value_in : ValueRef → Value
  value_in value = value_of p.names tree_in value

  abbrev pub change_in : Modifier → Change
  change_in modifier = change_of p.names tree_in modifier

  abbrev pub parameter_in : TypeRef × Declared → Parameter
  parameter_in param = parameter_of p.names tree_in param

  abbrev pub statements_in : List StmtId → Statements
  statements_in ids = statements_at p.names tree_in statement_in ids

  -- ---- the nodes: the constructor of the kind, with the trees of the nodes that are named

  abbrev pub expr_in : Expr → Tree
  expr_in node = node_of p.names tree_in node.kind node.at

  abbrev pub stmt_in : Stmt → Statement
  stmt_in node = stmt_of p.names tree_in statement_in node.kind node.at node.close

  -- ---- the whole: the statements of the top level. The end of the text is the program's `end`.

  abbrev pub statements_of : Statements
  statements_of = statements_in p.top

  -- the greatest level of the tree
  abbrev pub level : ℕ
  level = stmts_level statements_of

  -- cut at 65
  abbrev pub depth : ℕ
  depth = min 65 level
