-- The tree of a source program, apart from where its nodes lie in memory. Names are their bytes.
--
-- `tree_of` and `statement_of` show the tree that is seen by following the numbers of the nodes. How
-- nodes are numbered never shows.
use Rattle.std.specs.Prelude.{ℕ, zero, suc, Bool, List, [], ◌∷◌, map, Option, Some, None, slice_get}
use Rattle.qq_base.specs.declared.refusal.Span.{Span}
use Rattle.qasm_ast.specs.declared.expr.Expr.{Expr}
use Rattle.qasm_ast.specs.declared.expr.ExprId.{ExprId}
use Rattle.qasm_ast.specs.declared.expr.ExprKind.{ExprKind}
use Rattle.qasm_ast.specs.declared.expr.ExprKind.TheVariants as e
use Rattle.qasm_ast.specs.declared.expr.OperandRef.{OperandRef}
use Rattle.qasm_ast.specs.declared.expr.OperandName.{OperandName}
use Rattle.qasm_ast.specs.declared.expr.OperandName.TheVariants as o
use Rattle.qasm_ast.specs.declared.expr.IndexRef.{IndexRef}
use Rattle.qasm_ast.specs.declared.expr.IndexRef.TheVariants as i
use Rattle.qasm_ast.specs.declared.expr.TypeRef.{TypeRef}
use Rattle.qasm_ast.specs.declared.expr.Base.{Base}
use Rattle.qasm_ast.specs.declared.expr.UnaryOp.{UnaryOp}
use Rattle.qasm_ast.specs.declared.expr.BinaryOp.{BinaryOp}
use Rattle.qasm_ast.specs.declared.stmt.Stmt.{Stmt}
use Rattle.qasm_ast.specs.declared.stmt.StmtId.{StmtId}
use Rattle.qasm_ast.specs.declared.stmt.StmtKind.{StmtKind}
use Rattle.qasm_ast.specs.declared.stmt.StmtKind.TheVariants as s
use Rattle.qasm_ast.specs.declared.stmt.Declared.{Declared}
use Rattle.qasm_ast.specs.declared.stmt.ValueRef.{ValueRef}
use Rattle.qasm_ast.specs.declared.stmt.ValueRef.TheVariants as v
use Rattle.qasm_ast.specs.declared.stmt.Modifier.{Modifier}
use Rattle.qasm_ast.specs.declared.stmt.Modifier.TheVariants as m

-- what an operand names
pub data Called : Type 0 where
  word : (text : List ℕ) → Called
  qubit : (number : ℕ) → Called

mutual
  -- An expression. Its last part is its place. A name has its index brackets and the place of the operand.
  pub data Tree : Type 0 where
    named : Called → Brackets → Span → Span → Tree
    wire : ℕ → Span → Tree
    number : ℕ → Span → Tree
    truth : Bool → Span → Tree
    bit_string : List Bool → Span → Tree
    unary : UnaryOp → Tree → Span → Tree
    binary : BinaryOp → Tree → Tree → Span → Tree
    cast : Base → Maybe → Span → Tree → Span → Tree
    call : List ℕ → Trees → Span → Tree
    cut : Tree

  pub data Trees : Type 0 where
    no_tree : Trees
    a_tree : Tree → Trees → Trees

  pub data Maybe : Type 0 where
    absent : Maybe
    present : Tree → Maybe

  -- what stands in an index bracket; a range has start, step, stop and its place
  pub data Bracket : Type 0 where
    position : Tree → Bracket
    range : Maybe → Maybe → Maybe → Span → Bracket
    members : Trees → Bracket

  pub data Brackets : Type 0 where
    no_bracket : Brackets
    a_bracket : Bracket → Brackets → Brackets

abbrev pub trees : List Tree → Trees
trees [] = no_tree
trees (t ∷ ts) = a_tree t (trees ts)

abbrev pub maybe : Option Tree → Maybe
maybe None = absent
maybe (Some t) = present t

abbrev pub brackets : List Bracket → Brackets
brackets [] = no_bracket
brackets (b ∷ bs) = a_bracket b (brackets bs)

-- the place of an expression
abbrev pub place_of : Tree → Span
place_of (named name index operand at') = at'
place_of (wire n at') = at'
place_of (number n at') = at'
place_of (truth b at') = at'
place_of (bit_string bs at') = at'
place_of (unary op a at') = at'
place_of (binary op a b at') = at'
place_of (cast base width type a at') = at'
place_of (call name as' at') = at'
place_of cut = record { line = 0; column = 0 }

-- ---- what is seen of one node, where `sub` gives the trees of the nodes that it names

-- the name with this number
abbrev pub text_at : List (List ℕ) → ℕ → List ℕ
text_at [] n = []
text_at (text ∷ names) zero = text
text_at (text ∷ names) (suc n) = text_at names n

abbrev pub trees_at : (ℕ → Tree) → List ExprId → Trees
trees_at sub [] = no_tree
trees_at sub (id ∷ ids) = a_tree (sub id.0) (trees_at sub ids)

abbrev pub maybe_at : (ℕ → Tree) → Option ExprId → Maybe
maybe_at sub None = absent
maybe_at sub (Some id) = present (sub id.0)

abbrev pub bracket_at : (ℕ → Tree) → IndexRef → Bracket
bracket_at sub (i.At id) = position (sub id.0)
bracket_at sub (i.Range start step stop at') = range (maybe_at sub start) (maybe_at sub step) (maybe_at sub stop) at'
bracket_at sub (i.Set ids) = members (trees_at sub ids)

abbrev pub brackets_at : (ℕ → Tree) → List IndexRef → Brackets
brackets_at sub [] = no_bracket
brackets_at sub (i ∷ index) = a_bracket (bracket_at sub i) (brackets_at sub index)

abbrev pub called_at : List (List ℕ) → OperandName → Called
called_at names (o.Name n) = word (text_at names n)
called_at names (o.Hardware n) = qubit n

abbrev pub node_of : List (List ℕ) → (ℕ → Tree) → ExprKind → Span → Tree
node_of names sub (e.Name operand) at' = named (called_at names operand.name) (brackets_at sub operand.index) operand.at at'
node_of names sub (e.Hardware n) at' = wire n at'
node_of names sub (e.Whole n) at' = number n at'
node_of names sub (e.Truth b) at' = truth b at'
node_of names sub (e.Bits bs) at' = bit_string bs at'
node_of names sub (e.Unary op a) at' = unary op (sub a.0) at'
node_of names sub (e.Binary op a b) at' = binary op (sub a.0) (sub b.0) at'
node_of names sub (e.Cast type a) at' = cast type.base (maybe_at sub type.width) type.at (sub a.0) at'
node_of names sub (e.Call n ids) at' = call (text_at names n) (trees_at sub ids) at'

-- the tree below a node, going down at most `levels` steps
abbrev pub seen_node : List (List ℕ) → (ℕ → Tree) → Option Expr → Tree
seen_node names sub None = cut
seen_node names sub (Some node) = node_of names sub node.kind node.at

abbrev pub tree_at : List (List ℕ) → List Expr → ℕ → ℕ → Tree
tree_at names exprs zero id = cut
tree_at names exprs (suc steps) id = seen_node names (tree_at names exprs steps) (slice_get exprs id)

-- The tree of a node. A node names only smaller numbers, so these steps are enough.
unfoldable pub tree_of : List (List ℕ) → List Expr → ℕ → Tree
tree_of names exprs id = tree_at names exprs (suc id) id

-- ---- statements

pub record Name : Type 0 where
  pub text : List ℕ
  pub place : Span

pub record Scalar : Type 0 where
  pub base : Base
  pub width : Maybe
  pub place : Span

pub record Operand : Type 0 where
  pub name : Called
  pub index : Brackets
  pub place : Span

pub data Value : Type 0 where
  expression : Tree → Value
  measured : Operand → Value

pub data Change : Type 0 where
  inverse : Span → Change
  power : Tree → Span → Change
  control : Maybe → Span → Change

pub record Parameter : Type 0 where
  pub type : Scalar
  pub name : Name

mutual
  -- A statement, with the parts of its kind. Its last parts are its place and that of its closing brace.
  pub data Statement : Type 0 where
    include : Span → Span → Statement
    qubits : Scalar → Name → Span → Span → Statement
    variable : Scalar → Name → Option Value → Span → Span → Statement
    constant : Scalar → Name → Tree → Span → Span → Statement
    output : Scalar → Name → Span → Span → Statement
    alias : Name → List Operand → Span → Span → Statement
    gate : Name → List Name → List Name → Statements → Span → Span → Statement
    subroutine : Name → List Parameter → Option Scalar → Statements → Span → Span → Statement
    gate_call : List Change → Name → Trees → List Operand → Span → Span → Statement
    barrier : List Operand → Span → Span → Statement
    reset : Operand → Span → Span → Statement
    measurement : Operand → Option Operand → Span → Span → Statement
    assign : Operand → Option BinaryOp → Value → Span → Span → Statement
    invoke : Tree → Span → Span → Statement
    branch : Tree → Statements → Statements → Span → Span → Statement
    while : Tree → Statements → Span → Span → Statement
    for_range : Scalar → Name → Tree → Maybe → Tree → Statements → Span → Span → Statement
    for_set : Scalar → Name → Trees → Statements → Span → Span → Statement
    break : Span → Span → Statement
    continue : Span → Span → Statement
    end : Span → Span → Statement
    give : Option Value → Span → Span → Statement
    cut_off : Statement

  pub data Statements : Type 0 where
    no_statement : Statements
    a_statement : Statement → Statements → Statements

-- the place of a statement
abbrev pub place_of_statement : Statement → Span
place_of_statement (include place close) = place
place_of_statement (qubits _ _ place close) = place
place_of_statement (variable _ _ _ place close) = place
place_of_statement (constant _ _ _ place close) = place
place_of_statement (output _ _ place close) = place
place_of_statement (alias _ _ place close) = place
place_of_statement (gate _ _ _ _ place close) = place
place_of_statement (subroutine _ _ _ _ place close) = place
place_of_statement (gate_call _ _ _ _ place close) = place
place_of_statement (barrier _ place close) = place
place_of_statement (reset _ place close) = place
place_of_statement (measurement _ _ place close) = place
place_of_statement (assign _ _ _ place close) = place
place_of_statement (invoke _ place close) = place
place_of_statement (branch _ _ _ place close) = place
place_of_statement (while _ _ place close) = place
place_of_statement (for_range _ _ _ _ _ _ place close) = place
place_of_statement (for_set _ _ _ _ place close) = place
place_of_statement (break place close) = place
place_of_statement (continue place close) = place
place_of_statement (end place close) = place
place_of_statement (give _ place close) = place
place_of_statement cut_off = record { line = 0; column = 0 }

-- the place of its closing brace, or its own where it has none
abbrev pub close_of_statement : Statement → Span
close_of_statement (include place close) = close
close_of_statement (qubits _ _ place close) = close
close_of_statement (variable _ _ _ place close) = close
close_of_statement (constant _ _ _ place close) = close
close_of_statement (output _ _ place close) = close
close_of_statement (alias _ _ place close) = close
close_of_statement (gate _ _ _ _ place close) = close
close_of_statement (subroutine _ _ _ _ place close) = close
close_of_statement (gate_call _ _ _ _ place close) = close
close_of_statement (barrier _ place close) = close
close_of_statement (reset _ place close) = close
close_of_statement (measurement _ _ place close) = close
close_of_statement (assign _ _ _ place close) = close
close_of_statement (invoke _ place close) = close
close_of_statement (branch _ _ _ place close) = close
close_of_statement (while _ _ place close) = close
close_of_statement (for_range _ _ _ _ _ _ place close) = close
close_of_statement (for_set _ _ _ _ place close) = close
close_of_statement (break place close) = close
close_of_statement (continue place close) = close
close_of_statement (end place close) = close
close_of_statement (give _ place close) = close
close_of_statement cut_off = record { line = 0; column = 0 }

abbrev pub if_some : {A B : Type 0} → (A → B) → Option A → Option B
if_some f None = None
if_some f (Some a) = Some (f a)

-- `names` has the names by their numbers, and `sub` gives the tree of an expression
module _ (names : List (List ℕ)) (sub : ℕ → Tree) where
  abbrev pub name_of : Declared → Name
  name_of d = record { text = text_at names d.name; place = d.at }

  abbrev pub scalar_of : TypeRef → Scalar
  scalar_of type = record { base = type.base; width = maybe_at sub type.width; place = type.at }

  abbrev pub operand_of : OperandRef → Operand
  operand_of o = record { name = called_at names o.name; index = brackets_at sub o.index; place = o.at }

  abbrev pub value_of : ValueRef → Value
  value_of (v.Expr id) = expression (sub id.0)
  value_of (v.Measure o) = measured (operand_of o)

  abbrev pub change_of : Modifier → Change
  change_of (m.Inv at') = inverse at'
  change_of (m.Pow id at') = power (sub id.0) at'
  change_of (m.Ctrl id at') = control (maybe_at sub id) at'

  abbrev pub parameter_of : TypeRef × Declared → Parameter
  parameter_of p = record { type = scalar_of p.0; name = name_of p.1 }

  -- `body` gives the statement with a number
  module _ (body : ℕ → Statement) where
    abbrev pub statements_at : List StmtId → Statements
    statements_at [] = no_statement
    statements_at (id ∷ ids) = a_statement (body id.0) (statements_at ids)

    abbrev pub stmt_of : StmtKind → Span → Span → Statement
    stmt_of s.Include at' close = include at' close
    stmt_of (s.Qubit type name) at' close = qubits (scalar_of type) (name_of name) at' close
    stmt_of (s.Variable type name value) at' close = variable (scalar_of type) (name_of name) (if_some value_of value) at' close
    stmt_of (s.Constant type name id) at' close = constant (scalar_of type) (name_of name) (sub id.0) at' close
    stmt_of (s.Output type name) at' close = output (scalar_of type) (name_of name) at' close
    stmt_of (s.Let name os) at' close = alias (name_of name) (map operand_of os) at' close
    stmt_of (s.Gate name params qs ids) at' close = gate (name_of name) (map name_of params) (map name_of qs) (statements_at ids) at' close
    stmt_of (s.Def name params result ids) at' close = subroutine (name_of name) (map parameter_of params) (if_some scalar_of result) (statements_at ids) at' close
    stmt_of (s.GateCall mods name args os) at' close = gate_call (map change_of mods) (name_of name) (trees_at sub args) (map operand_of os) at' close
    stmt_of (s.Barrier os) at' close = barrier (map operand_of os) at' close
    stmt_of (s.Reset o) at' close = reset (operand_of o) at' close
    stmt_of (s.Measure o target) at' close = measurement (operand_of o) (if_some operand_of target) at' close
    stmt_of (s.Assign target op value) at' close = assign (operand_of target) op (value_of value) at' close
    stmt_of (s.Call id) at' close = invoke (sub id.0) at' close
    stmt_of (s.If id yes_ids no_ids) at' close = branch (sub id.0) (statements_at yes_ids) (statements_at no_ids) at' close
    stmt_of (s.While id ids) at' close = while (sub id.0) (statements_at ids) at' close
    stmt_of (s.ForRange type name start step stop ids) at' close = for_range (scalar_of type) (name_of name) (sub start.0) (maybe_at sub step) (sub stop.0) (statements_at ids) at' close
    stmt_of (s.ForSet type name ids body_ids) at' close = for_set (scalar_of type) (name_of name) (trees_at sub ids) (statements_at body_ids) at' close
    stmt_of s.Break at' close = break at' close
    stmt_of s.Continue at' close = continue at' close
    stmt_of s.End at' close = end at' close
    stmt_of (s.Return value) at' close = give (if_some value_of value) at' close

    abbrev pub seen_stmt : Option Stmt → Statement
    seen_stmt None = cut_off
    seen_stmt (Some stmt) = stmt_of stmt.kind stmt.at stmt.close

-- the tree below a statement, going down at most `steps` steps
abbrev pub stmt_at : List (List ℕ) → (ℕ → Tree) → List Stmt → ℕ → ℕ → Statement
stmt_at names sub stmts zero id = cut_off
stmt_at names sub stmts (suc steps) id = seen_stmt names sub (stmt_at names sub stmts steps) (slice_get stmts id)

unfoldable pub statement_of : List (List ℕ) → List Expr → List Stmt → ℕ → Statement
statement_of names exprs stmts id = stmt_at names (tree_of names exprs) stmts (suc id) id
