-- For private contracts only: what the answers of the parser stand for, in a world.
use Rattle.std.specs.Prelude.{◌≡◌, ℕ, ◌<◌, ◌^◌, List, [], ◌∷◌, length, Option, Some, None, Vec}
use Rattle.std.specs.Global.{Global}
use Rattle.qq_base.specs.declared.refusal.Span.{Span}
use Rattle.qasm_lexer.specs.declared.token.Token.{Token}
use Rattle.qasm_ast.specs.declared.expr.BinaryOp.{BinaryOp}
use Rattle.qasm_ast.specs.declared.expr.ExprId.{ExprId}
use Rattle.qasm_ast.specs.declared.expr.IndexRef.{IndexRef}
use Rattle.qasm_ast.specs.declared.expr.OperandRef.{OperandRef}
use Rattle.qasm_ast.specs.declared.expr.TypeRef.{TypeRef}
use Rattle.qasm_ast.specs.declared.stmt.Stmt.{Stmt}
use Rattle.qasm_ast.specs.declared.stmt.StmtId.{StmtId}
use Rattle.qasm_ast.specs.declared.stmt.StmtKind.{StmtKind}
use Rattle.qasm_ast.specs.declared.stmt.StmtKind.TheVariants as s
use Rattle.qasm_ast.specs.declared.stmt.Declared.{Declared}
use Rattle.qasm_ast.specs.declared.stmt.ValueRef.{ValueRef}
use Rattle.qasm_ast.specs.declared.stmt.Modifier.{Modifier}
use Rattle.qasm_ast.specs.declared.stmt.Modifier.TheVariants as h
use Rattle.qasm_ast.specs.Tree.{Tree, trees, trees_at, maybe_at, Bracket, brackets, brackets_at, Name, name_of, Scalar, scalar_of, Operand, operand_of, Value, value_of, Change, change_of, Parameter, parameter_of, Statement, stmt_of, cut, cut_off}
use Rattle.qasm_ast.specs.Whole.{IfThere, AllOf, IsExpr, IndexFits, TypeFits, OperandFits, ValueFits, ModifierFits, ParamFits, StmtFits, IsGateMember}
use Rattle.qasm_parser.specs.Shows.{Each}
use Rattle.grammar_parts.specs.Reading.{Reader, done, ◌>>=◌}
use Rattle.qasm_grammar.specs.Reader.{read_operand, read_joins}
use Rattle.qasm_grammar.specs.Parts.{Call, Turns, over_range, over_set}
use Rattle.program_parser.specs.declared.calls.GateCall.{GateCall}
use Rattle.program_parser.specs.declared.turns.LoopOver.{LoopOver}
use Rattle.program_parser.specs.declared.turns.LoopOver.TheVariants as u
use Rattle.program_parser.specs.World.{World, sub_in, body_in}

-- ---- lists, and what may be left out

-- the members of one list stand for those of the other, one for one, and there are fewer than 2^32
abbrev pub ListIn : {X A : Type 0} → (World → X → A → Type 0) → World → Vec X Global → List A → Type 0
ListIn look w xs as' = (length xs.items < 2 ^ 32) × Each (look w) xs.items as'

abbrev pub MaybeIn : {X A : Type 0} → (World → X → A → Type 0) → World → Option X → Option A → Type 0
MaybeIn look w None None = Unit {0}
MaybeIn look w (Some x) (Some a) = look w x a
MaybeIn look w _ _ = ⊥

-- ---- what needs no statements

abbrev pub TreeIn : World → ExprId → Tree → Type 0
TreeIn w x t = (x.0 < length w.exprs) × (sub_in w x.0 ≡ t)

abbrev pub TreesIn : World → Vec ExprId Global → List Tree → Type 0
TreesIn w xs ts = AllOf (IsExpr (length w.exprs)) xs.items × (trees_at (sub_in w) xs.items ≡ trees ts)

abbrev pub BracketsIn : World → Vec IndexRef Global → List Bracket → Type 0
BracketsIn w xs bs = AllOf (IndexFits (length w.exprs)) xs.items × (brackets_at (sub_in w) xs.items ≡ brackets bs)

abbrev pub NameIn : World → Declared → Name → Type 0
NameIn w x n = (x.name < w.known) × (name_of w.names (sub_in w) x ≡ n)

-- a type of classical values
abbrev pub ScalarIn : World → TypeRef → Scalar → Type 0
ScalarIn w x a = TypeFits (length w.exprs) x × (scalar_of w.names (sub_in w) x ≡ a)

abbrev pub OperandIn : World → OperandRef → Operand → Type 0
OperandIn w x o = OperandFits w.known (length w.exprs) x × (operand_of w.names (sub_in w) x ≡ o)

abbrev pub ValueIn : World → ValueRef → Value → Type 0
ValueIn w x v = ValueFits w.known (length w.exprs) x × (value_of w.names (sub_in w) x ≡ v)

abbrev pub ChangeIn : World → Modifier → Change → Type 0
ChangeIn w x h = ModifierFits (length w.exprs) x × (change_of w.names (sub_in w) x ≡ h)

abbrev pub ParameterIn : World → TypeRef × Declared → Parameter → Type 0
ParameterIn w x p = ParamFits w.known (length w.exprs) x × (parameter_of w.names (sub_in w) x ≡ p)

-- a gate call, with the modifiers in front of it
pub record CallIn (w : World) (x : GateCall) (c : Call) : Type 0 where
  pub changes : ListIn ChangeIn w x.mods c.changes
  pub name : NameIn w x.gate c.name
  pub arguments : TreesIn w x.args c.arguments
  pub operands : ListIn OperandIn w x.operands c.operands

-- one that has none
pub record PlainIn (w : World) (x : GateCall) (c : Call) : Type 0 where
  pub call : CallIn w x c
  pub unchanged : c.changes ≡ []

-- what a `for` goes over
abbrev pub TurnsIn : World → LoopOver → Turns → Type 0
TurnsIn w (u.Range start step stop) (over_range first middle last) = TreeIn w start first × IfThere (IsExpr (length w.exprs)) step × (maybe_at (sub_in w) step ≡ middle) × TreeIn w stop last
TurnsIn w (u.Set ids) (over_set ts) = AllOf (IsExpr (length w.exprs)) ids × (trees_at (sub_in w) ids ≡ ts)
TurnsIn w _ _ = ⊥

-- the statement of a `for` over it
abbrev pub loop_kind : TypeRef → Declared → LoopOver → List StmtId → StmtKind
loop_kind type name (u.Range start step stop) body = s.ForRange type name start step stop body
loop_kind type name (u.Set ids) body = s.ForSet type name ids body

-- an operator, which comes with its token
abbrev pub OperatorIn : World → BinaryOp → BinaryOp × Token → Type 0
OperatorIn w x a = x ≡ a.0

-- ---- statements

-- a statement that is not yet in its list
abbrev pub LineIn : World → Stmt → Statement → Type 0
LineIn w x t = StmtFits w.known w.exprs w.stmts w.count x.kind × (stmt_of w.names (sub_in w) (body_in w) x.kind x.at x.close ≡ t)

abbrev pub StatementIn : World → StmtId → Statement → Type 0
StatementIn w x t = (x.0 < w.count) × (body_in w x.0 ≡ t)

-- a member of a gate's body
abbrev pub MemberIn : World → StmtId → Statement → Type 0
MemberIn w x t = IsGateMember w.stmts w.count x × (body_in w x.0 ≡ t)

-- a statement that has no other closing brace
abbrev pub line_of : StmtKind → Span → Stmt
line_of kind place = record { kind = kind; at = place; close = place }

abbrev pub at_modifier : Modifier → Span
at_modifier (h.Inv place) = place
at_modifier (h.Pow id place) = place
at_modifier (h.Ctrl id place) = place

-- the place of the first modifier, or of the name
abbrev pub at_call : List Modifier → Declared → Span
at_call [] gate = gate.at
at_call (x ∷ xs) gate = at_modifier x

abbrev pub statement_of_call : GateCall → Stmt
statement_of_call c = line_of (s.GateCall c.mods.items c.gate c.args.items c.operands.items) (at_call c.mods.items c.gate)

-- a statement that has no parts
abbrev pub IsPlain : StmtKind → Type 0
IsPlain s.Break = Unit {0}
IsPlain s.Continue = Unit {0}
IsPlain s.End = Unit {0}
IsPlain _ = ⊥

abbrev pub plain_statement : StmtKind → Span → Span → Statement
plain_statement kind = stmt_of [] (λ k. cut) (λ k. cut_off) kind

-- an operand, and those that are joined behind it
abbrev pub read_joined_operands : List ℕ → ℕ → Reader Token (List Operand)
read_joined_operands text room = read_operand text (Some 64) room >>= (λ o. read_joins text (Some 64) room >>= (λ os. done (o ∷ os)))
