-- For private contracts: what the answers of a parser stand for, as they are seen through its lists.
use Rattle.std.specs.Prelude.{◌≡◌, ℕ, suc, ◌<◌, List, [], ◌∷◌, length, Option, Some, None}
use Rattle.qq_base.specs.declared.refusal.Span.{Span}
use Rattle.qasm_lexer.specs.declared.token.Token.{Token}
use Rattle.qasm_lexer.specs.declared.token.TokenKind.{TokenKind}
use Rattle.qasm_lexer.specs.declared.token.Keyword.{Keyword}
use Rattle.qasm_ast.specs.declared.expr.ExprKind.{ExprKind}
use Rattle.qasm_ast.specs.declared.expr.BinaryOp.{BinaryOp}
use Rattle.qasm_ast.specs.declared.expr.Base.{Base}
use Rattle.qasm_ast.specs.declared.expr.Base.TheVariants as b
use Rattle.qasm_ast.specs.declared.expr.UnaryOp.{UnaryOp}
use Rattle.qasm_ast.specs.declared.expr.ExprId.{ExprId}
use Rattle.qasm_ast.specs.declared.expr.IndexRef.{IndexRef}
use Rattle.qasm_ast.specs.declared.expr.TypeRef.{TypeRef}
use Rattle.qasm_ast.specs.declared.stmt.Declared.{Declared}
use Rattle.qasm_ast.specs.Tree.{Tree, node_of, trees, trees_at, Maybe, maybe_at, Bracket, bracket_at, brackets, brackets_at, text_at, Scalar, scalar_of}
use Rattle.qasm_ast.specs.Whole.{ExprFits, AllOf, IsExpr, IfThere, IndexFits, TypeFits}
use Rattle.grammar_parts.specs.Reading.{Reader, done, ◌>>=◌, take_one}
use Rattle.qasm_expr.specs.Grammar.{Counted, literal_at, literal_of, name_of}
use Rattle.qasm_expr.specs.TokenKinds.{keyword_kind}
use Rattle.qasm_expr.specs.Reader.{read_sign, read_behind_name}
use Rattle.qasm_parser.specs.State.{State, Lasts, Fits}

-- the members of one list stand for those of the other, one for one
abbrev pub Each : {X A : Type 0} → (X → A → Type 0) → List X → List A → Type 0
Each R [] [] = Unit {0}
Each R (x ∷ xs) (a ∷ as') = R x a × Each R xs as'
Each R _ _ = ⊥

-- the answer is the value itself
abbrev pub Same : {A : Type 0} → State → A → A → Type 0
Same s x a = x ≡ a

-- ---- one token

-- the levels that are left behind a token that opens one
abbrev pub IsDeeper : {A : Type 0} → ℕ → State → ℕ → A → Type 0
IsDeeper room s inner a = room ≡ suc inner

-- and the chain has room for its operator
abbrev pub IsPower : {A : Type 0} → ℕ → ℕ → State → ℕ → A → Type 0
IsPower room used s inner a = (room ≡ suc inner) × (used < 64)

abbrev pub IsSign : ℕ → State → UnaryOp × Span × ℕ → UnaryOp × Token → Type 0
IsSign room s x a = (x.0 ≡ a.0) × (x.1 ≡ a.1.at) × (room ≡ suc x.2)

abbrev pub IsLink : ℕ → State → BinaryOp → BinaryOp × Token → Type 0
IsLink used s x a = (x ≡ a.0) × (used < 64)

-- a type that has no width, and one that may have one
abbrev pub IsPlainBase : State → Base × Span → Base × Token → Type 0
IsPlainBase s x a = (x.0 ≡ a.0) × (x.1 ≡ a.1.at) × (x.0 ≡ b.Bool)

abbrev pub MayHaveWidth : Base → Type 0
MayHaveWidth b.Bool = ⊥
MayHaveWidth b.Qubit = ⊥
MayHaveWidth _ = Unit {0}

abbrev pub IsSizedBase : State → Base × Span → Base × Token → Type 0
IsSizedBase s x a = (x.0 ≡ a.0) × (x.1 ≡ a.1.at) × MayHaveWidth x.0

-- What a literal is: wherever its node stands, it has this tree.
pub record Leaf (text : List ℕ) (x : Token) (kd : TokenKind) (kind : ExprKind) : Type 0 where
  pub tree : Tree
  pub is : literal_at text x kd ≡ Some tree
  pub shown : (names : List (List ℕ)) (sub : ℕ → Tree) → node_of names sub kind x.at ≡ tree
  pub fits : (names n : ℕ) → ExprFits names n kind

abbrev pub IsLeaf : List ℕ → Token → Option ExprKind → Type 0
IsLeaf text x None = literal_of text x ≡ None
IsLeaf text x (Some kind) = Leaf text x x.kind kind

module _ (s : State) where
  -- a name as its bytes, and its place
  abbrev pub IsWord : Declared → List ℕ × Span → Type 0
  IsWord x a = (x.name < length s.names) × Lasts s (λ names sub. text_at names x.name ≡ a.0) × (x.at ≡ a.1)

  -- ---- expressions

  abbrev pub IsTree : ExprId → Tree → Type 0
  IsTree x t = (x.0 < length s.exprs) × Lasts s (λ names sub. sub x.0 ≡ t)

  -- a tree, and how many operators its chain has up to its end
  abbrev pub IsCounted : ExprId × ℕ → Counted → Type 0
  IsCounted x a = IsTree x.0 a.0 × (x.1 ≡ a.1)

  abbrev pub IsMaybe : Option ExprId → Maybe → Type 0
  IsMaybe x m = Fits s (λ n. IfThere (IsExpr n) x) × Lasts s (λ names sub. maybe_at sub x ≡ m)

  abbrev pub IsTrees : List ExprId → List Tree → Type 0
  IsTrees xs ts = Fits s (λ n. AllOf (IsExpr n) xs) × Lasts s (λ names sub. trees_at sub xs ≡ trees ts)

  abbrev pub IsBracket : IndexRef → Bracket → Type 0
  IsBracket x b = Fits s (λ n. IndexFits n x) × Lasts s (λ names sub. bracket_at sub x ≡ b)

  abbrev pub IsBrackets : List IndexRef → List Bracket → Type 0
  IsBrackets xs bs = Fits s (λ n. AllOf (IndexFits n) xs) × Lasts s (λ names sub. brackets_at sub xs ≡ brackets bs)

  abbrev pub IsScalar : TypeRef → Scalar → Type 0
  IsScalar x a = Fits s (λ n. TypeFits n x) × Lasts s (λ names sub. scalar_of names sub x ≡ a)

-- a name, and what stands behind it
abbrev pub read_named : List ℕ → ℕ → Reader Token Tree → Reader Token Bracket → Reader Token Tree
read_named text room inner inside = take_one (name_of text) >>= read_behind_name text room inner inside

-- a word that stands for a name
abbrev pub read_word_as : List ℕ → Keyword → List ℕ → Reader Token (List ℕ × Span)
read_word_as text word spelling = read_sign text (keyword_kind word) >>= (λ x. done (spelling, x.at))
