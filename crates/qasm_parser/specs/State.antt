-- For private contracts: what a parser shows, its text, its tokens and those that are not yet taken, and the lists of the tree, and what its calls tell of them.
use Rattle.std.specs.Prelude.{[], ◌∷◌, Bool, true, false, ◌≡◌, ◌≢◌, ℕ, ◌+◌, ◌^◌, ◌<◌, ◌≤◌, ◌++◌, List, length, drop, slice_get, Option, Some, None, Result, Ok, Err}
use Rattle.qq_base.specs.declared.refusal.Span.{Span}
use Rattle.qasm_lexer.specs.declared.token.Token.{Token}
use Rattle.qasm_lexer.specs.declared.token.TokenKind.TheVariants as t
use Rattle.qasm_lexer.specs.declared.token.Mark.{Mark}
use Rattle.qasm_lexer.specs.Sizes.{bytes_of}
use Rattle.qasm_ast.specs.declared.expr.Expr.{Expr}
use Rattle.qasm_ast.specs.declared.expr.ExprId.{ExprId}
use Rattle.qasm_ast.specs.declared.expr.ExprKind.{ExprKind}
use Rattle.qasm_ast.specs.declared.stmt.Stmt.{Stmt}
use Rattle.qasm_ast.specs.declared.stmt.StmtId.{StmtId}
use Rattle.qasm_ast.specs.declared.stmt.StmtKind.{StmtKind}
use Rattle.qasm_ast.specs.Tree.{Tree, node_of, tree_at, tree_of}
use Rattle.qasm_ast.specs.Whole.{ExprFits, StmtFits}
use Rattle.grammar_parts.specs.Reading.{Refusal, Reader, syntax, deep, heads}
use Rattle.qasm_expr.specs.TokenKinds.{bits_of, mark_kind}
use Rattle.qasm_expr.specs.Reader.{begins, read_sign}
use Rattle.qasm_parser.specs.declared.stop.Stop.{Stop}
use Rattle.qasm_parser.specs.declared.stop.Stop.TheVariants as why

pub record State : Type 0 where
  pub text : List ℕ
  pub tokens : List Token
  pub left : List Token
  pub names : List (List ℕ)
  pub exprs : List Expr
  pub stmts : List Stmt

-- at the first token, with empty lists
abbrev pub start_of : List ℕ → List Token → State
start_of text tokens = record { text = text; tokens = tokens; left = tokens; names = []; exprs = []; stmts = [] }

-- at a token, with lists of names and expressions that go on
abbrev pub resumed : List ℕ → List Token → ℕ → List (List ℕ) → List Expr → State
resumed text tokens at' names exprs = record { text = text; tokens = tokens; left = drop at' tokens; names = names; exprs = exprs; stmts = [] }

-- the tree of an expression
abbrev pub tree : State → ℕ → Tree
tree s = tree_of s.names s.exprs

-- the nodes, those of expressions and those of statements
abbrev pub nodes : State → ℕ
nodes s = length s.exprs + length s.stmts

-- What is told of the names and of the trees of expressions lasts, whatever comes behind them in the lists, and however
-- many steps down a tree is looked at, where they are enough.
pub record Lasts (s : State) (P : List (List ℕ) → (ℕ → Tree) → Type 0) : Type 0 where
  pub holds : (more_names : List (List ℕ)) (more_exprs : List Expr) (steps : ℕ → ℕ) → ((k : ℕ) → k < length s.exprs → k < steps k) → P (s.names ++ more_names) (λ k. tree_at (s.names ++ more_names) (s.exprs ++ more_exprs) (steps k) k)

-- Numbers of expressions fit, whatever comes behind those that are there.
abbrev pub Fits : State → (ℕ → Type 0) → Type 0
Fits s P = (n : ℕ) → length s.exprs ≤ n → P n

-- The tokens are the same, and the lists have grown: what was there stands as it was, and what is new is as a program asks, whatever comes
-- behind it.
pub record Longer (old new : State) : Type 0 where
  pub tokens : new.tokens ≡ old.tokens
  pub more_names : List (List ℕ)
  pub more_exprs : List Expr
  pub more_stmts : List Stmt
  pub names : new.names ≡ old.names ++ more_names
  pub exprs : new.exprs ≡ old.exprs ++ more_exprs
  pub stmts : new.stmts ≡ old.stmts ++ more_stmts
  pub sizes : (k : ℕ) (text : List ℕ) → length old.names ≤ k → slice_get new.names k ≡ Some text → length text ≤ 4096
  pub exprs_fit : (n : ℕ) (x : Expr) → length old.exprs ≤ n → slice_get new.exprs n ≡ Some x → (names : ℕ) → length new.names ≤ names → ExprFits names n x.kind
  pub stmts_fit : (n : ℕ) (x : Stmt) → length old.stmts ≤ n → slice_get new.stmts n ≡ Some x → (names : ℕ) (more_exprs : List Expr) (more : List Stmt) → length new.names ≤ names → StmtFits names (new.exprs ++ more_exprs) (new.stmts ++ more) n x.kind

-- The lists have grown by no more than the tokens that were taken: by a name for a token, and by a node for a token, but
-- for so many tokens that are spare and so many nodes that are owed. There is a number for the node of a spare token.
pub record After (spare owed : ℕ) (old new : State) : Type 0 where
  pub text : new.text ≡ old.text
  pub longer : Longer old new
  pub few_names : length new.names + length new.left ≤ length old.names + length old.left
  pub few_nodes : nodes new + length new.left + spare ≤ nodes old + length old.left + owed
  pub room : 0 < spare → nodes new + length new.left + spare < 2 ^ 32

-- why reading stops at these tokens
abbrev pub refusal : Stop → List Token → Refusal Token
refusal why.Deep ts = deep ts
refusal _ ts = syntax ts

-- what was read: the value that the answer stands for
pub record Read {X A : Type 0} (spare : ℕ) (shows : State → X → A → Type 0) (reader : Reader Token A) (old new : State) (x : X) : Type 0 where
  pub value : A
  pub shown : shows new x value
  pub read : reader old.left ≡ Ok (value, new.left)
  pub after : After spare 0 old new

-- Reading stops: no part goes on with the tokens that are left. Want of memory is aside.
pub record Stopped {A : Type 0} (reader : Reader Token A) (old new : State) (e : Stop) : Type 0 where
  pub longer : Longer old new
  pub read : e ≢ why.Memory → reader old.left ≡ Err (refusal e new.left)

-- what a call tells that reads by this reader
abbrev pub ReadsWith : {X A : Type 0} → ℕ → (State → X → A → Type 0) → Reader Token A → State → Result X Stop → State → Type 0
ReadsWith spare shows reader old (Ok x) new = Read spare shows reader old new x
ReadsWith spare shows reader old (Err e) new = Stopped reader old new e

abbrev pub Reads : {X A : Type 0} → (State → X → A → Type 0) → Reader Token A → State → Result X Stop → State → Type 0
Reads = ReadsWith 0

-- the same, where a token is spare: a node may be made for it
abbrev pub Takes : {X A : Type 0} → (State → X → A → Type 0) → Reader Token A → State → Result X Stop → State → Type 0
Takes = ReadsWith 1

-- ---- one token

abbrev pub first : List Token → Option Token
first [] = None
first (x ∷ ts) = Some x

-- the bytes of a token stand in the text, and are no more than a program may have
pub record IsSpelled (text : List ℕ) (x : Token) : Type 0 where
  pub order : x.start ≤ x.end
  pub within : x.end ≤ length text
  pub name : x.kind ≡ t.Name → length (bytes_of text x) ≤ 4096
  pub bits : (bits : List Bool) → bits_of (bytes_of text x) ≡ Some bits → length bits ≤ 4096

-- the next token was taken, and nothing else has changed
pub record Skipped (old new : State) : Type 0 where
  pub token : Token
  pub here : old.left ≡ token ∷ new.left
  pub after : After 1 0 old new

-- whether a mark was taken
pub record Eaten (mark : Mark) (old new : State) : Type 0 where
  pub token : Token
  pub here : old.left ≡ token ∷ new.left
  pub seen : heads (begins old.text (mark_kind mark ∷ [])) old.left ≡ true
  pub read : read_sign old.text (mark_kind mark) old.left ≡ Ok (token, new.left)
  pub after : After 1 0 old new

abbrev pub Eats : Mark → State → Bool → State → Type 0
Eats mark old true new = Eaten mark old new
Eats mark old false new = (heads (begins old.text (mark_kind mark ∷ [])) old.left ≡ false) × (new ≡ old)

-- ---- a new node

-- A node that may be added: it names what is there, however many names come behind.
abbrev pub MayAdd : State → ExprKind → Type 0
MayAdd s kind = (names : ℕ) → length s.names ≤ names → ExprFits names (length s.exprs) kind

-- The tree of the new node is its constructor with the trees of the nodes that it names.
pub record Added (kind : ExprKind) (place : Span) (old new : State) (id : ExprId) : Type 0 where
  pub is_new : id.0 < length new.exprs
  pub shown : (t : Tree) → Lasts old (λ names sub. node_of names sub kind place ≡ t) → Lasts new (λ names sub. sub id.0 ≡ t)
  pub left : new.left ≡ old.left
  pub after : After 0 1 old new

abbrev pub Adds : ExprKind → Span → State → Result ExprId Stop → State → Type 0
Adds kind place old (Ok id) new = Added kind place old new id
Adds kind place old (Err e) new = (e ≡ why.Memory) × Longer old new

-- ---- a new statement

-- A statement that may be added: it names what is there, whatever comes behind.
abbrev pub MayPush : State → StmtKind → Type 0
MayPush s kind = (names : ℕ) (more_exprs : List Expr) (more_stmts : List Stmt) → length s.names ≤ names → StmtFits names (s.exprs ++ more_exprs) (s.stmts ++ more_stmts) (length s.stmts) kind

-- the statement comes behind the others, and nothing else has changed
pub record Pushed (stmt : Stmt) (old new : State) (id : StmtId) : Type 0 where
  pub number : id.0 ≡ length old.stmts
  pub names : new.names ≡ old.names
  pub exprs : new.exprs ≡ old.exprs
  pub stmts : new.stmts ≡ old.stmts ++ stmt ∷ []
  pub left : new.left ≡ old.left
  pub after : After 0 1 old new

abbrev pub Pushes : Stmt → State → Result StmtId Stop → State → Type 0
Pushes stmt old (Ok id) new = Pushed stmt old new id
Pushes stmt old (Err e) new = (e ≡ why.Memory) × Longer old new
