-- For private contracts only: what stands for statements that hold statements, in a world, and the readers of their bodies.
use Rattle.std.specs.Prelude.{◌≡◌, ℕ, zero, suc, Bool, List, Some, Vec}
use Rattle.std.specs.Global.{Global}
use Rattle.qasm_lexer.specs.declared.token.Token.{Token}
use Rattle.qasm_lexer.specs.declared.token.Mark.TheVariants as m
use Rattle.qasm_ast.specs.declared.stmt.Stmt.{Stmt}
use Rattle.qasm_ast.specs.declared.stmt.StmtId.{StmtId}
use Rattle.qasm_ast.specs.Tree.{Statement, Statements, statements_at}
use Rattle.qasm_ast.specs.Whole.{AllOf, IsStmt, IsGateMember, IsGateStmt}
use Rattle.grammar_parts.specs.Reading.{Reader, take_never}
use Rattle.qasm_expr.specs.Reader.{begins}
use Rattle.qasm_grammar.specs.Parts as p
use Rattle.qasm_grammar.specs.Reader.{symbol_kinds, body_kinds, read_block_of, read_body_of, read_stmt}
use Rattle.program_parser.specs.declared.block.Block.{Block}
use Rattle.program_parser.specs.declared.block.Body.{Body}
use Rattle.program_parser.specs.World.{World, sub_in, body_in}
use Rattle.program_parser.specs.Shows.{LineIn, StatementIn}

-- ---- bodies one level deeper

abbrev pub deeper_block : List ℕ → ℕ → Reader Token p.Block
deeper_block text zero = take_never (begins text (symbol_kinds m.LeftBrace))
deeper_block text (suc room) = read_block_of text (read_stmt text (Some 64) room)

abbrev pub deeper_body : List ℕ → ℕ → Reader Token p.Body
deeper_body text zero = take_never (begins text body_kinds)
deeper_body text (suc room) = read_body_of text (read_stmt text (Some 64) room)

-- ---- statements

-- what stands for nothing
abbrev pub AnyIn : {X A : Type 0} → World → X → A → Type 0
AnyIn w x a = Unit {0}

-- a statement that is not yet in its list, and that may stand in the body of a gate
abbrev pub GateLineIn : World → Stmt → Statement → Type 0
GateLineIn w x t = LineIn w x t × IsGateStmt (Some x)

-- a statement, and whether it ends in an `if` that has no `else`
abbrev pub OpenLineIn : World → Stmt × Bool → p.Opened → Type 0
OpenLineIn w x a = LineIn w x.0 a.0 × (x.1 ≡ a.1)

abbrev pub OpenedIn : World → StmtId × Bool → p.Opened → Type 0
OpenedIn w x a = StatementIn w x.0 a.0 × (x.1 ≡ a.1)

-- statements by their numbers
abbrev pub StatementsIn : World → Vec StmtId Global → Statements → Type 0
StatementsIn w xs ss = AllOf (IsStmt w.count) xs.items × (statements_at w.names (sub_in w) (body_in w) xs.items ≡ ss)

abbrev pub AllOpenedIn : World → Vec StmtId Global → List p.Opened → Type 0
AllOpenedIn w xs as' = StatementsIn w xs (p.opened_statements as')

abbrev pub MembersIn : World → Vec StmtId Global → Statements → Type 0
MembersIn w xs ss = AllOf (IsGateMember w.stmts w.count) xs.items × (statements_at w.names (sub_in w) (body_in w) xs.items ≡ ss)

abbrev pub AllMembersIn : World → Vec StmtId Global → List Statement → Type 0
AllMembersIn w xs as' = MembersIn w xs (p.statements as')

-- ---- bodies

abbrev pub BlockIn : World → Block → p.Block → Type 0
BlockIn w x c = StatementsIn w x.statements c.statements × (x.close ≡ c.close)

abbrev pub GateBodyIn : World → Block → p.Block → Type 0
GateBodyIn w x c = MembersIn w x.statements c.statements × (x.close ≡ c.close)

abbrev pub BodyIn : World → Body → p.Body → Type 0
BodyIn w x c = StatementsIn w x.statements c.statements × (x.is_open ≡ c.is_open) × (x.close ≡ c.close)
