-- The grammar of expressions, of OpenQASM 3.0 without what the profile leaves out. Each part is one line
-- of it, over tokens of a text. `room` is the number of levels that may still be opened, and a limit of
-- None lets a chain have any number of operators.
--
--   expr  = binary levels, loosest first: ||, &&, |, ^, &, == !=, < <= > >=, << >>, + -, * / %;
--           each joins to the left
--   unary = ( "~" | "!" | "-" ) unary | power
--   power = prim [ "**" unary ]
--   prim  = Whole | "true" | "false" | bit string | Hardware | "(" expr ")" | type "(" expr ")"
--         | Name "(" [ exprs ] ")" | Name { index }
--   index = "[" ( "{" exprs "}" | [ expr ] ":" [ expr ] [ ":" expr ] | expr ) "]"
--   type  = "bool" | ( "bit" | "int" | "uint" | "angle" ) [ "[" expr "]" ]
--
-- A list may end with one comma. In a range of three parts the middle one is the step.
use Rattle.std.specs.Prelude.{ℕ, zero, suc, ◌+◌, Bool, true, false, List, [], ◌∷◌, Option, Some, None}
use Rattle.qq_base.specs.declared.refusal.Span.{Span}
use Rattle.qasm_lexer.specs.declared.token.Token.{Token}
use Rattle.qasm_lexer.specs.declared.token.TokenKind.{TokenKind}
use Rattle.qasm_lexer.specs.declared.token.TokenKind.TheVariants as t
use Rattle.qasm_lexer.specs.declared.token.Keyword.TheVariants as k
use Rattle.qasm_lexer.specs.declared.token.Mark.TheVariants as m
use Rattle.qasm_ast.specs.declared.expr.Base.{Base}
use Rattle.qasm_ast.specs.declared.expr.Base.TheVariants as b
use Rattle.qasm_ast.specs.declared.expr.UnaryOp.{UnaryOp}
use Rattle.qasm_ast.specs.declared.expr.UnaryOp.TheVariants as u
use Rattle.qasm_ast.specs.declared.expr.BinaryOp.{BinaryOp}
use Rattle.qasm_ast.specs.declared.expr.BinaryOp.TheVariants as op
use Rattle.qasm_ast.specs.Tree.{word, Tree, named, wire, number, truth, bit_string, unary as unary_tree, binary as binary_tree, cast as cast_tree, call, trees, Maybe, absent, present, Bracket, position, range, members, brackets, place_of, Scalar}
use Rattle.grammar_parts.specs.Part.{Part, nothing, never, one, then, either, many, repeated}
use Rattle.grammar_parts.specs.Kinds.{marked, picked, mark, opening, is_free, allowed, any_list, some_list}
use Rattle.qasm_lexer.specs.Sizes.{bytes_of}
use Rattle.qasm_expr.specs.TokenKinds.{keyword_kind, mark_kind, bits_of, kind}

-- the operators of each level, the loosest first
abbrev pub Rows : Type 0
Rows = List (ℕ × BinaryOp)

abbrev pub operators : List Rows
operators =
    ((mark_kind m.OrOr, op.Or) ∷ [])
    ∷ ((mark_kind m.AndAnd, op.And) ∷ [])
    ∷ ((mark_kind m.Pipe, op.BitOr) ∷ [])
    ∷ ((mark_kind m.Caret, op.BitXor) ∷ [])
    ∷ ((mark_kind m.Ampersand, op.BitAnd) ∷ [])
    ∷ ((mark_kind m.Equal, op.Equal) ∷ (mark_kind m.NotEqual, op.NotEqual) ∷ [])
    ∷ ((mark_kind m.Less, op.Less) ∷ (mark_kind m.LessEqual, op.LessEqual) ∷ (mark_kind m.Greater, op.Greater) ∷ (mark_kind m.GreaterEqual, op.GreaterEqual) ∷ [])
    ∷ ((mark_kind m.ShiftLeft, op.ShiftLeft) ∷ (mark_kind m.ShiftRight, op.ShiftRight) ∷ [])
    ∷ ((mark_kind m.Plus, op.Add) ∷ (mark_kind m.Minus, op.Subtract) ∷ [])
    ∷ ((mark_kind m.Star, op.Multiply) ∷ (mark_kind m.Slash, op.Divide) ∷ (mark_kind m.Percent, op.Remainder) ∷ [])
    ∷ []

abbrev pub unary_operators : List (ℕ × UnaryOp)
unary_operators = (mark_kind m.Tilde, u.Complement) ∷ (mark_kind m.Bang, u.Not) ∷ (mark_kind m.Minus, u.Negate) ∷ []

-- the type that has no width, and those that may have one
abbrev pub plain_types : List (ℕ × Base)
plain_types = (keyword_kind k.Bool, b.Bool) ∷ []

abbrev pub sized_types : List (ℕ × Base)
sized_types = (keyword_kind k.Bit, b.Bit) ∷ (keyword_kind k.Int, b.Int) ∷ (keyword_kind k.Uint, b.Uint) ∷ (keyword_kind k.Angle, b.Angle) ∷ []

-- a tree, and how many operators its chain has up to its end
abbrev pub Counted : Type 0
Counted = Tree × ℕ

-- operators of one level join to the left; the place is that of the first operand
pub record Link : Type 0 where
  pub op : BinaryOp
  pub right : Tree
  pub used : ℕ

abbrev pub join : Counted → List Link → Counted
join e [] = e
join e (l ∷ ls) = join (binary_tree l.op e.0 l.right (place_of e.0), l.used) ls

abbrev pub scalar : Base → Maybe → Span → Scalar
scalar base width place = record { base = base; width = width; place = place }

abbrev pub comma : ℕ
comma = mark_kind m.Comma

module _ (text : List ℕ) where
  -- ---- one token

  abbrev pub bits_literal : Span → Option (List Bool) → Option Tree
  bits_literal place None = None
  bits_literal place (Some bits) = Some (bit_string bits place)

  abbrev pub literal_at : Token → TokenKind → Option Tree
  literal_at x (t.Whole n) = Some (number n x.at)
  literal_at x (t.Hardware n) = Some (wire n x.at)
  literal_at x t.Text = bits_literal x.at (bits_of (bytes_of text x))
  literal_at x (t.Word k.True) = Some (truth true x.at)
  literal_at x (t.Word k.False) = Some (truth false x.at)
  literal_at x _ = None

  -- a literal is one token
  abbrev pub literal_of : Token → Option Tree
  literal_of x = literal_at x x.kind

  abbrev pub name_at : Token → TokenKind → Option (List ℕ × Span)
  name_at x t.Name = Some (bytes_of text x, x.at)
  name_at x _ = None

  -- a name with its place
  abbrev pub name_of : Token → Option (List ℕ × Span)
  name_of x = name_at x x.kind

  abbrev pub sign : ℕ → Part Token Token
  sign k = mark (kind text) k

  abbrev pub opener : ℕ → ℕ → Part Token Token
  opener room k = opening room (marked (kind text) k)

  -- ---- what stands in brackets; `inner` is an expression one level deeper

  abbrev pub width : ℕ → Part Token Tree → Part Token Tree
  width room inner = then (opener room (mark_kind m.LeftBracket)) (λ o. then inner (λ e. then (sign (mark_kind m.RightBracket)) (λ c. nothing e)))

  abbrev pub type : ℕ → Part Token Tree → Part Token Scalar
  type room inner = either (then (one (picked (kind text) plain_types)) (λ w. nothing (scalar w.0 absent w.1.at)))
      (then (one (picked (kind text) sized_types)) (λ w. either (then (width room inner) (λ e. nothing (scalar w.0 (present e) w.1.at))) (nothing (scalar w.0 absent w.1.at))))

  abbrev pub grouped : ℕ → Part Token Tree → Part Token Tree
  grouped room inner = then (opener room (mark_kind m.LeftParen)) (λ o. then inner (λ e. then (sign (mark_kind m.RightParen)) (λ c. nothing e)))

  abbrev pub cast : ℕ → Part Token Tree → Part Token Tree
  cast room inner = then (type room inner) (λ s. then (grouped room inner) (λ e. nothing (cast_tree s.base s.width s.place e s.place)))

  abbrev pub arguments : ℕ → Part Token Tree → Part Token (List Tree)
  arguments room inner = then (opener room (mark_kind m.LeftParen)) (λ o. then (any_list (kind text) comma inner) (λ es. then (sign (mark_kind m.RightParen)) (λ c. nothing es)))

  abbrev pub stop : Part Token Tree → Maybe → Maybe → Span → Part Token Bracket
  stop expr start step place = then (sign (mark_kind m.Colon)) (λ c. then expr (λ e. nothing (range start step (present e) place)))

  -- behind a start that may be left out and its colon: of two parts the second is the stop, of three the last
  abbrev pub behind_colon : Part Token Tree → Maybe → Span → Part Token Bracket
  behind_colon expr start place =
      either (stop expr start absent place)
      (either (then expr (λ e. either (stop expr start (present e) place) (nothing (range start absent (present e) place))))
      (nothing (range start absent absent place)))

  abbrev pub behind_start : Part Token Tree → Tree → Part Token Bracket
  behind_start expr e = either (then (sign (mark_kind m.Colon)) (λ c. behind_colon expr (present e) (place_of e))) (nothing (position e))

  abbrev pub set : ℕ → Part Token Tree → Part Token Bracket
  set room inner = then (opener room (mark_kind m.LeftBrace)) (λ o. then (some_list (kind text) comma inner) (λ es. then (sign (mark_kind m.RightBrace)) (λ c. nothing (members (trees es)))))

  -- between the brackets of an index: `expr` has this room, and `inner` one level less
  abbrev pub content : ℕ → Part Token Tree → Part Token Tree → Part Token Bracket
  content room expr inner = either (set room inner)
      (either (then (sign (mark_kind m.Colon)) (λ c. behind_colon expr absent c.at))
      (then expr (behind_start expr)))

  abbrev pub index : ℕ → Part Token Bracket → Part Token Bracket
  index room inside = then (opener room (mark_kind m.LeftBracket)) (λ o. then inside (λ i. then (sign (mark_kind m.RightBracket)) (λ c. nothing i)))

  abbrev pub behind_name : ℕ → Part Token Tree → Part Token Bracket → List ℕ × Span → Part Token Tree
  behind_name room inner inside x = either (then (arguments room inner) (λ es. nothing (call x.0 (trees es) x.1)))
      (then (repeated (index room inside)) (λ is. nothing (named (word x.0) (brackets is) x.1 x.1)))

  abbrev pub prim : ℕ → Part Token Tree → Part Token Bracket → Part Token Tree
  prim room inner inside = either (one literal_of) (either (grouped room inner) (either (cast room inner) (then (one name_of) (behind_name room inner inside))))

  -- ---- operators; `deeper` is a unary one level deeper, and `limit` that of a chain

  abbrev pub power : Option ℕ → ℕ → Part Token Tree → Part Token Bracket → (ℕ → Part Token Counted) → ℕ → Part Token Counted
  power limit room inner inside deeper used = then (prim room inner inside)
      (λ base. either (then (allowed (is_free limit used) (opener room (mark_kind m.StarStar))) (λ o. then (deeper (used + 1)) (λ e. nothing (binary_tree op.Power base e.0 (place_of base), e.1))))
      (nothing (base, used)))

  abbrev pub unary_at : Option ℕ → ℕ → Part Token Tree → Part Token Bracket → (ℕ → Part Token Counted) → ℕ → Part Token Counted
  unary_at limit room inner inside deeper used =
      either (then (opening room (picked (kind text) unary_operators)) (λ o. then (deeper used) (λ e. nothing (unary_tree o.0 e.0 o.1.at, e.1))))
      (power limit room inner inside deeper used)

  abbrev pub link : Option ℕ → Rows → (ℕ → Part Token Counted) → ℕ → Part Token Link
  link limit rows item used = then (allowed (is_free limit used) (one (picked (kind text) rows))) (λ o. then (item (used + 1)) (λ e. nothing (record { op = o.0; right = e.0; used = e.1 })))

  abbrev pub level : Option ℕ → Rows → (ℕ → Part Token Counted) → ℕ → Part Token Counted
  level limit rows item used = then (item used) (λ first. then (many (link limit rows item) (λ s l. l.used) first.1) (λ links. nothing (join first links)))

  abbrev pub binary : Option ℕ → List Rows → (ℕ → Part Token Counted) → ℕ → Part Token Counted
  binary limit [] item = item
  binary limit (rows ∷ tighter) item = level limit rows (binary limit tighter item)

  abbrev pub expr_of : Option ℕ → (ℕ → Part Token Counted) → Part Token Tree
  expr_of limit item = then (binary limit operators item 0) (λ e. nothing e.0)

  -- ---- by the room

  unfoldable pub unary : Option ℕ → ℕ → ℕ → Part Token Counted
  unary limit zero = unary_at limit zero never never (λ used. never)
  unary limit (suc zero) = unary_at limit (suc zero) (expr_of limit (unary limit zero)) (content zero (expr_of limit (unary limit zero)) never) (unary limit zero)
  unary limit (suc (suc room)) = unary_at limit (suc (suc room)) (expr_of limit (unary limit (suc room))) (content (suc room) (expr_of limit (unary limit (suc room))) (expr_of limit (unary limit room))) (unary limit (suc room))

  abbrev pub expr : Option ℕ → ℕ → Part Token Tree
  expr limit room = expr_of limit (unary limit room)
