-- For private contracts alone: what a function of the parser answers, the values that its answers stand for as they are
-- seen through the lists of the tree, which still grow.
use Rattle.std.specs.Prelude.{◌≡◌, ℕ, zero, suc, ◌+◌, ◌<◌, ◌≤◌, ◌^◌, ◌++◌, Bool, List, [], ◌∷◌, length, slice_get, Option, Some, None}
use Rattle.qasm_ast.specs.declared.expr.Expr.{Expr}
use Rattle.qasm_ast.specs.declared.expr.ExprId.{ExprId}
use Rattle.qasm_ast.specs.declared.expr.OperandRef.{OperandRef}
use Rattle.qasm_ast.specs.declared.expr.TypeRef.{TypeRef}
use Rattle.qasm_ast.specs.declared.stmt.Stmt.{Stmt}
use Rattle.qasm_ast.specs.declared.stmt.StmtId.{StmtId}
use Rattle.qasm_ast.specs.declared.stmt.Declared.{Declared}
use Rattle.qasm_ast.specs.declared.stmt.ValueRef.{ValueRef}
use Rattle.qasm_ast.specs.declared.stmt.Modifier.{Modifier}
use Rattle.qasm_ast.specs.declared.stmt.Modifier.TheVariants as h
use Rattle.qasm_ast.specs.declared.stmt.StmtKind.{StmtKind}
use Rattle.qasm_ast.specs.declared.stmt.StmtKind.TheVariants as s
use Rattle.qasm_ast.specs.declared.expr.IndexRef.{IndexRef}
use Rattle.qq_base.specs.declared.refusal.Span.{Span}
use Rattle.qasm_ast.specs.Tree.{Tree, Trees, Maybe, Bracket, brackets, brackets_at, trees_at, maybe_at, tree_of, Name, name_of, Scalar, scalar_of, Operand, operand_of, Value, value_of, Change, change_of, Parameter, parameter_of, Statement, Statements, statements_at, stmt_of, statement_of}
use Rattle.qasm_ast.specs.Whole.{IfThere, AllOf, IsExpr, IsStmt, IsGateMember, IndexFits, TypeFits, DeclaredFits, OperandFits, ValueFits, ModifierFits, ParamFits, ExprsFit, StmtFits, StmtsFit}
use Rattle.grammar_parts.specs.Reading.{Reader, take_never}
use Rattle.qasm_lexer.specs.declared.token.Token.{Token}
use Rattle.qasm_lexer.specs.declared.token.Mark.TheVariants as m
use Rattle.qasm_expr.specs.TokenKinds.{kind}
use Rattle.qasm_expr.specs.Reader.{begins}
use Rattle.qasm_stmt.specs.declared.arena.Arena.{Arena}
use Rattle.qasm_stmt.specs.declared.calls.GateCall.{GateCall}
use Rattle.qasm_stmt.specs.declared.turns.LoopOver.{LoopOver}
use Rattle.qasm_stmt.specs.declared.turns.LoopOver.TheVariants as u
use Rattle.qasm_stmt.specs.declared.block.Block.{Block}
use Rattle.qasm_stmt.specs.declared.block.Body.{Body}
use Rattle.qasm_grammar.specs.Parts as p
use Rattle.qasm_grammar.specs.Reader.{symbol_kinds, body_kinds, read_block_of, read_body_of, read_stmt}

-- ---- lists

-- the members of one list stand for those of the other, one for one
abbrev pub Each : {X A : Type 0} → (X → A → Type 0) → List X → List A → Type 0
Each R [] [] = Unit {0}
Each R (x ∷ xs) (a ∷ as') = R x a × Each R xs as'
Each R _ _ = ⊥

-- and there are fewer than 2^32
abbrev pub IsList : {X A : Type 0} → (X → A → Type 0) → List X → List A → Type 0
IsList R xs as' = (length xs < 2 ^ 32) × Each R xs as'

abbrev pub IfBoth : {X A : Type 0} → (X → A → Type 0) → Option X → Option A → Type 0
IfBoth R None None = Unit {0}
IfBoth R (Some x) (Some a) = R x a
IfBoth R _ _ = ⊥

-- ---- bodies one level deeper

abbrev pub deeper_block : List ℕ → ℕ → Reader Token p.Block
deeper_block text zero = take_never (begins text (symbol_kinds m.LeftBrace))
deeper_block text (suc room) = read_block_of text (read_stmt text (Some 64) room)

abbrev pub deeper_body : List ℕ → ℕ → Reader Token p.Body
deeper_body text zero = take_never (begins text body_kinds)
deeper_body text (suc room) = read_body_of text (read_stmt text (Some 64) room)

-- ---- the lists of the tree

-- the tree of an expression, and of a statement
abbrev pub tree : Arena → ℕ → Tree
tree a = tree_of a.names.keys a.exprs.items

abbrev pub stmt : Arena → ℕ → Statement
stmt a = statement_of a.names.keys a.exprs.items a.stmts.items

-- the lists are as a program asks
pub record Sound (a : Arena) : Type 0 where
  pub names : (k : ℕ) (text : List ℕ) → slice_get a.names.keys k ≡ Some text → length text ≤ 4096
  pub exprs : ExprsFit (length a.names.keys) 0 a.exprs.items
  pub stmts : StmtsFit (length a.names.keys) a.exprs.items a.stmts.items

-- at most one name, one expression and one statement for each token in front of a place
abbrev pub Few : Arena → ℕ → Type 0
Few a n = (length a.names.keys ≤ n) × (length a.exprs.items ≤ n) × (length a.stmts.items ≤ n)

-- at most one statement is added for each token from one place to another
abbrev pub Paid : Arena → Arena → ℕ → ℕ → Type 0
Paid a b from to = length b.stmts.items + from ≤ length a.stmts.items + to

-- and at least one of the tokens is left for a statement that is not yet in its list
abbrev pub Spare : Arena → Arena → ℕ → ℕ → Type 0
Spare a b from to = length b.stmts.items + from < length a.stmts.items + to

-- The old names, expressions and statements stand as they were.
pub record Grown (a b : Arena) : Type 0 where
  pub more_names : List (List ℕ)
  pub more_exprs : List Expr
  pub more_stmts : List Stmt
  pub names : b.names.keys ≡ a.names.keys ++ more_names
  pub exprs : b.exprs.items ≡ a.exprs.items ++ more_exprs
  pub stmts : b.stmts.items ≡ a.stmts.items ++ more_stmts

-- one statement is added, and has this number
pub record Pushed (a b : Arena) (x : Stmt) (id : StmtId) : Type 0 where
  pub names : b.names.keys ≡ a.names.keys
  pub exprs : b.exprs.items ≡ a.exprs.items
  pub stmts : b.stmts.items ≡ a.stmts.items ++ x ∷ []
  pub number : id.0 ≡ length a.stmts.items

-- ---- what the answers stand for

module _ (a : Arena) where
  abbrev pub IsTree : ExprId → Tree → Type 0
  IsTree x t = (x.0 < length a.exprs.items) × (tree a x.0 ≡ t)

  abbrev pub IsMaybe : Option ExprId → Maybe → Type 0
  IsMaybe x t = IfThere (IsExpr (length a.exprs.items)) x × (maybe_at (tree a) x ≡ t)

  abbrev pub IsTrees : List ExprId → Trees → Type 0
  IsTrees xs ts = AllOf (IsExpr (length a.exprs.items)) xs × (trees_at (tree a) xs ≡ ts)

  abbrev pub IsName : Declared → Name → Type 0
  IsName x n = DeclaredFits (length a.names.keys) x × (name_of a.names.keys (tree a) x ≡ n)

  -- a type of classical values
  abbrev pub IsType : TypeRef → Scalar → Type 0
  IsType x s = TypeFits (length a.exprs.items) x × (scalar_of a.names.keys (tree a) x ≡ s)

  abbrev pub IsBrackets : List IndexRef → List Bracket → Type 0
  IsBrackets xs bs = AllOf (IndexFits (length a.exprs.items)) xs × (brackets_at (tree a) xs ≡ brackets bs)

  abbrev pub IsOperand : OperandRef → Operand → Type 0
  IsOperand x o = OperandFits (length a.names.keys) (length a.exprs.items) x × (operand_of a.names.keys (tree a) x ≡ o)

  abbrev pub IsValue : ValueRef → Value → Type 0
  IsValue x v = ValueFits (length a.names.keys) (length a.exprs.items) x × (value_of a.names.keys (tree a) x ≡ v)

  abbrev pub IsChange : Modifier → Change → Type 0
  IsChange x h = ModifierFits (length a.exprs.items) x × (change_of a.names.keys (tree a) x ≡ h)

  abbrev pub IsParameter : TypeRef × Declared → Parameter → Type 0
  IsParameter x p = ParamFits (length a.names.keys) (length a.exprs.items) x × (parameter_of a.names.keys (tree a) x ≡ p)

  pub record IsCall (x : GateCall) (c : p.Call) : Type 0 where
    pub changes : IsList IsChange x.mods.items c.changes
    pub name : IsName x.gate c.name
    pub arguments : IsList IsTree x.args.items c.arguments
    pub operands : IsList IsOperand x.operands.items c.operands

  abbrev pub IsTurns : LoopOver → p.Turns → Type 0
  IsTurns (u.Range start step stop) (p.over_range first middle last) = IsTree start first × IsMaybe step middle × IsTree stop last
  IsTurns (u.Set ids) (p.over_set ts) = IsTrees ids ts
  IsTurns _ _ = ⊥

  -- a statement that is not yet in its list
  abbrev pub IsLine : Stmt → Statement → Type 0
  IsLine x s = StmtFits (length a.names.keys) a.exprs.items a.stmts.items (length a.stmts.items) x.kind × (stmt_of a.names.keys (tree a) (stmt a) x.kind x.at x.close ≡ s)

  -- and whether it ends in an `if` that has no `else`
  abbrev pub IsOpenLine : Stmt × Bool → p.Opened → Type 0
  IsOpenLine x s = IsLine x.0 s.0 × (x.1 ≡ s.1)

  -- a statement by its number
  abbrev pub IsStatement : StmtId → Statement → Type 0
  IsStatement x s = IsStmt (length a.stmts.items) x × (stmt a x.0 ≡ s)

  abbrev pub IsStatements : List StmtId → Statements → Type 0
  IsStatements xs ss = AllOf (IsStmt (length a.stmts.items)) xs × (statements_at a.names.keys (tree a) (stmt a) xs ≡ ss)

  abbrev pub IsOpened : StmtId × Bool → p.Opened → Type 0
  IsOpened x s = IsStatement x.0 s.0 × (x.1 ≡ s.1)

  -- a member of a gate's body
  abbrev pub IsMember : StmtId → Statement → Type 0
  IsMember x s = IsGateMember a.stmts.items (length a.stmts.items) x × (stmt a x.0 ≡ s)

  abbrev pub IsGateBody : Block → p.Block → Type 0
  IsGateBody x c = AllOf (IsGateMember a.stmts.items (length a.stmts.items)) x.statements.items × (statements_at a.names.keys (tree a) (stmt a) x.statements.items ≡ c.statements) × (x.close ≡ c.close)

  abbrev pub IsBlock : Block → p.Block → Type 0
  IsBlock x c = IsStatements x.statements.items c.statements × (x.close ≡ c.close)

  abbrev pub IsBody : Body → p.Body → Type 0
  IsBody x c = IsStatements x.statements.items c.statements × (x.is_open ≡ c.is_open) × (x.close ≡ c.close)

-- a hardware qubit, which needs no lists
abbrev pub IsWire : OperandRef → Operand → Type 0
IsWire x o = (a : Arena) → IsOperand a x o

-- what stands for nothing
abbrev pub Any : {X A : Type 0} → X → A → Type 0
Any x a = Unit {0}

-- ---- statements that are made

abbrev pub line_of : StmtKind → Span → Stmt
line_of kind place = record { kind = kind; at = place; close = place }

abbrev pub at_modifier : Modifier → Span
at_modifier (h.Inv place) = place
at_modifier (h.Pow id place) = place
at_modifier (h.Ctrl id place) = place

-- the place of the first modifier, or of the name
abbrev pub at_call : List Modifier → Declared → Span
at_call [] gate = gate.at
at_call (x ∷ xs) gate = at_modifier x

abbrev pub statement_of_call : GateCall → Stmt
statement_of_call c = line_of (s.GateCall c.mods.items c.gate c.args.items c.operands.items) (at_call c.mods.items c.gate)
