-- For private contracts alone: what a function of the parser answers, and the tree that is seen from a node while the
-- lists still grow.
use Rattle.std.specs.Prelude.{◌≡◌, ℕ, zero, suc, ◌+◌, ◌≤◌, ◌<◌, ◌^◌, Bool, true, false, List, [], ◌∷◌, ◌++◌, length, drop, slice_get, Option, Some, None, Result, Ok, Err}
use Rattle.qq_base.specs.declared.refusal.Span.{Span}
use Rattle.qasm_lexer.specs.declared.token.Token.{Token}
use Rattle.qasm_lexer.specs.declared.token.TokenKind.{TokenKind}
use Rattle.qasm_lexer.specs.declared.token.TokenKind.TheVariants as t
use Rattle.qasm_lexer.specs.declared.token.Keyword.TheVariants as k
use Rattle.qasm_ast.specs.declared.expr.Expr.{Expr}
use Rattle.qasm_ast.specs.declared.expr.ExprId.{ExprId}
use Rattle.qasm_ast.specs.declared.expr.ExprKind.{ExprKind}
use Rattle.qasm_ast.specs.declared.expr.ExprKind.TheVariants as e
use Rattle.qasm_ast.specs.declared.expr.OperandRef.{OperandRef}
use Rattle.qasm_ast.specs.declared.expr.OperandName.{OperandName}
use Rattle.qasm_ast.specs.declared.expr.OperandName.TheVariants as o
use Rattle.qasm_ast.specs.declared.expr.IndexRef.{IndexRef}
use Rattle.qasm_ast.specs.declared.expr.IndexRef.TheVariants as i
use Rattle.qasm_ast.specs.declared.expr.TypeRef.{TypeRef}
use Rattle.qasm_ast.specs.declared.expr.BinaryOp.{BinaryOp}
use Rattle.qasm_ast.specs.Tree.{Called, word, qubit, Tree, named, wire, number, truth, bit_string, unary, binary, cast, call, cut, Trees, no_tree, a_tree, Maybe, absent, present, Bracket, position, range, members, Brackets, no_bracket, a_bracket, Scalar}
use Rattle.qasm_ast.specs.Whole.{ExprFits, TypeFits}
use Rattle.grammar_parts.specs.Reading.{Outcome, Reader, syntax, deep, take_one, take_never}
use Rattle.grammar_parts.specs.Kinds.{found_in}
use Rattle.qasm_expr.specs.declared.stop.Stop.{Stop}
use Rattle.qasm_expr.specs.declared.stop.Stop.TheVariants as s
use Rattle.qasm_lexer.specs.Sizes.{bytes_of}
use Rattle.qasm_expr.specs.TokenKinds.{bits_of, kind}
use Rattle.qasm_expr.specs.Grammar.{Rows, operators, Counted, literal_of}
use Rattle.qasm_expr.specs.Reader.{expr_kinds, content_kinds, begins, read_expr, read_unary, read_content}

abbrev pub node : ExprKind → Span → Option Expr
node kind place = Some (record { kind = kind; at = place })

abbrev pub SeesCalled : List (List ℕ) → OperandName → Called → Type 0
SeesCalled names x (word text) = (k : ℕ) × (x ≡ o.Name k) × (slice_get names k ≡ Some text)
SeesCalled names x (qubit n) = x ≡ o.Hardware n

abbrev mutual
  -- The node with this number has this tree, through nodes with smaller numbers alone.
  pub Sees : List (List ℕ) → List Expr → ℕ → Tree → Type 0
  Sees names nodes id (named c bs place at') = (x : OperandRef) × (slice_get nodes id ≡ node (e.Name x) at') × SeesCalled names x.name c × (x.at ≡ place) × SeesBrackets names nodes id x.index bs
  Sees names nodes id (wire n at') = slice_get nodes id ≡ node (e.Hardware n) at'
  Sees names nodes id (number n at') = slice_get nodes id ≡ node (e.Whole n) at'
  Sees names nodes id (truth b at') = slice_get nodes id ≡ node (e.Truth b) at'
  Sees names nodes id (bit_string bs at') = slice_get nodes id ≡ node (e.Bits bs) at'
  Sees names nodes id (unary op a at') = (x : ExprId) × (slice_get nodes id ≡ node (e.Unary op x) at') × (x.0 < id) × Sees names nodes x.0 a
  Sees names nodes id (binary op a b at') = (x : ExprId) × (y : ExprId) × (slice_get nodes id ≡ node (e.Binary op x y) at') × (x.0 < id) × (y.0 < id) × Sees names nodes x.0 a × Sees names nodes y.0 b
  Sees names nodes id (cast base width place a at') = (y : TypeRef) × (x : ExprId) × (slice_get nodes id ≡ node (e.Cast y x) at') × (y.base ≡ base) × (y.at ≡ place) × (x.0 < id) × SeesMaybe names nodes id y.width width × Sees names nodes x.0 a
  Sees names nodes id (call text as' at') = (k : ℕ) × (ids : List ExprId) × (slice_get nodes id ≡ node (e.Call k ids) at') × (slice_get names k ≡ Some text) × SeesAll names nodes id ids as'
  Sees names nodes id cut = ⊥

  pub SeesAll : List (List ℕ) → List Expr → ℕ → List ExprId → Trees → Type 0
  SeesAll names nodes n ids no_tree = ids ≡ []
  SeesAll names nodes n ids (a_tree a as') = (x : ExprId) × (more : List ExprId) × (ids ≡ x ∷ more) × (x.0 < n) × Sees names nodes x.0 a × SeesAll names nodes n more as'

  pub SeesMaybe : List (List ℕ) → List Expr → ℕ → Option ExprId → Maybe → Type 0
  SeesMaybe names nodes n id absent = id ≡ None
  SeesMaybe names nodes n id (present a) = (x : ExprId) × (id ≡ Some x) × (x.0 < n) × Sees names nodes x.0 a

  pub SeesBracket : List (List ℕ) → List Expr → ℕ → IndexRef → Bracket → Type 0
  SeesBracket names nodes n j (position a) = (x : ExprId) × (j ≡ i.At x) × (x.0 < n) × Sees names nodes x.0 a
  SeesBracket names nodes n j (range start step stop place) = (x : Option ExprId) × (y : Option ExprId) × (z : Option ExprId) × (j ≡ i.Range x y z place) × SeesMaybe names nodes n x start × SeesMaybe names nodes n y step × SeesMaybe names nodes n z stop
  SeesBracket names nodes n j (members as') = (ids : List ExprId) × (j ≡ i.Set ids) × SeesAll names nodes n ids as'

  pub SeesBrackets : List (List ℕ) → List Expr → ℕ → List IndexRef → Brackets → Type 0
  SeesBrackets names nodes n js no_bracket = js ≡ []
  SeesBrackets names nodes n js (a_bracket b bs) = (j : IndexRef) × (more : List IndexRef) × (js ≡ j ∷ more) × SeesBracket names nodes n j b × SeesBrackets names nodes n more bs

-- The answer of a reader from a place on, where `shows` says which value an answer stands for.
abbrev pub Gives : {X A : Type 0} → (X → A → Type 0) → List Token → ℕ → Outcome Token A → Result (X × ℕ) Stop → Type 0
Gives {X} {A} shows tokens from out (Ok r) = (a : A) × shows r.0 a × (from ≤ r.1) × (r.1 ≤ length tokens) × (out ≡ Ok (a, drop r.1 tokens))
Gives shows tokens from out (Err (s.Syntax at')) = (from ≤ at') × (at' ≤ length tokens) × (out ≡ Err (syntax (drop at' tokens)))
Gives shows tokens from out (Err (s.Deep at')) = (from ≤ at') × (at' ≤ length tokens) × (out ≡ Err (deep (drop at' tokens)))
Gives shows tokens from out (Err s.Memory) = Unit {0}

-- the same of a reader of one token, which takes no memory
abbrev pub Passes : List Token → ℕ → Outcome Token Token → Result ℕ Stop → Type 0
Passes tokens from out (Ok n) = (x : Token) × (n ≡ from + 1) × (n ≤ length tokens) × (drop from tokens ≡ x ∷ drop n tokens) × (out ≡ Ok (x, drop n tokens))
Passes tokens from out (Err (s.Syntax at')) = (at' ≡ from) × (out ≡ Err (syntax (drop at' tokens)))
Passes tokens from out (Err (s.Deep at')) = (at' ≡ from) × (out ≡ Err (deep (drop at' tokens)))
Passes tokens from out (Err s.Memory) = ⊥

-- the kind of the first token, or 0
abbrev pub head_kind : List ℕ → List Token → ℕ
head_kind text [] = 0
head_kind text (x ∷ xs) = kind text x

-- the place of the first token
abbrev pub head_place : List Token → Option Span
head_place [] = None
head_place (x ∷ xs) = Some x.at

-- what a table has for the first token
abbrev pub head_in : {A : Type 0} → List ℕ → List (ℕ × A) → List Token → Option A
head_in text rows ts = found_in rows (head_kind text ts)

-- the levels from one on
abbrev pub tighter : ℕ → List Rows
tighter rank = drop rank operators

abbrev pub first_rows : List Rows → Rows
first_rows [] = []
first_rows (rows ∷ more) = rows

abbrev pub rows_at : ℕ → Rows
rows_at rank = first_rows (tighter rank)

-- the readers one level deeper
abbrev pub deeper_expr : List ℕ → ℕ → Reader Token Tree
deeper_expr text zero = take_never (begins text expr_kinds)
deeper_expr text (suc room) = read_expr text (Some 64) room

abbrev pub deeper_unary : List ℕ → ℕ → ℕ → Reader Token Counted
deeper_unary text zero used = take_never (begins text expr_kinds)
deeper_unary text (suc room) used = read_unary text (Some 64) room used

abbrev pub deeper_content : List ℕ → ℕ → Reader Token Bracket
deeper_content text zero = take_never (begins text content_kinds)
deeper_content text (suc room) = read_content text room (read_expr text (Some 64) room) (deeper_expr text room)

-- what holds of the tokens that are cut from a text
pub record Cut (text : List ℕ) (tokens : List Token) : Type 0 where
  pub few : length tokens < 2 ^ 23
  pub spans : (n : ℕ) (x : Token) → slice_get tokens n ≡ Some x → (x.start ≤ x.end) × (x.end ≤ length text)
  pub name_sizes : (n : ℕ) (x : Token) → slice_get tokens n ≡ Some x → x.kind ≡ t.Name → length (bytes_of text x) ≤ 4096
  pub bits_sizes : (n : ℕ) (x : Token) (bits : List Bool) → slice_get tokens n ≡ Some x → bits_of (bytes_of text x) ≡ Some bits → length bits ≤ 4096

-- the node of a literal that is no text
abbrev pub plain_literal : TokenKind → Option ExprKind
plain_literal (t.Whole n) = Some (e.Whole n)
plain_literal (t.Hardware n) = Some (e.Hardware n)
plain_literal (t.Word k.True) = Some (e.Truth true)
plain_literal (t.Word k.False) = Some (e.Truth false)
plain_literal _ = None

abbrev pub is_text : TokenKind → Bool
is_text t.Text = true
is_text _ = false

abbrev pub is_name : TokenKind → Bool
is_name t.Name = true
is_name _ = false

-- wherever this node stands, it has this tree
abbrev pub IsLeaf : ExprKind → Span → Tree → Type 0
IsLeaf kind place a = (names : List (List ℕ)) (nodes : List Expr) (id : ℕ) → slice_get nodes id ≡ node kind place → Sees names nodes id a

-- what a literal at a place is
pub record Literal (text : List ℕ) (tokens : List Token) (from : ℕ) (kind : ExprKind) (place : Span) : Type 0 where
  pub tree : Tree
  pub leaf : IsLeaf kind place tree
  pub read : take_one (literal_of text) (drop from tokens) ≡ Ok (tree, drop (from + 1) tokens)
  pub inside : from < length tokens
  pub fits : (names n : ℕ) → ExprFits names n kind

abbrev pub SeesCounted : List (List ℕ) → List Expr → ExprId × ℕ → Counted → Type 0
SeesCounted names nodes x a = Sees names nodes x.0.0 a.0 × (x.1 ≡ a.1)

-- a node of a binary operator is added, at the place of its left operand
pub record Joins (nodes nodes' : List Expr) (op : BinaryOp) (left right : ExprId) : Type 0 where
  pub first : Expr
  pub there : slice_get nodes left.0 ≡ Some first
  pub added : nodes' ≡ nodes ++ record { kind = e.Binary op left right; at = first.at } ∷ []

-- a type as it is written, and what it stands for
abbrev pub SeesScalar : List (List ℕ) → List Expr → TypeRef → Scalar → Type 0
SeesScalar names nodes x a = (x.base ≡ a.base) × (x.at ≡ a.place) × SeesMaybe names nodes (length nodes) x.width a.width × TypeFits (length nodes) x
