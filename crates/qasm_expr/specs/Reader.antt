-- For private contracts: the readers of lists that stand for the grammar's parts, which the code follows. The laws say
-- that they read exactly.
use Rattle.std.specs.Prelude.{ℕ, zero, suc, ◌+◌, Bool, List, [], ◌∷◌, ◌++◌, Option, length, true, false}
use Rattle.qq_base.specs.declared.refusal.Span.{Span}
use Rattle.qasm_lexer.specs.declared.token.Token.{Token}
use Rattle.qasm_lexer.specs.declared.token.Keyword.TheVariants as k
use Rattle.qasm_lexer.specs.declared.token.Mark.TheVariants as m
use Rattle.qasm_ast.specs.declared.expr.BinaryOp.TheVariants as op
use Rattle.qasm_ast.specs.Tree.{word, Tree, named, unary as unary_tree, binary as binary_tree, cast as cast_tree, call, trees, Maybe, absent, present, Bracket, position, range, members, brackets, place_of, Scalar}
use Rattle.grammar_parts.specs.Reading.{Reader, done, ◌>>=◌, take_one, take_never, choose, take_many, take_repeated}
use Rattle.grammar_parts.specs.Kinds.{among, marked, picked, kinds_of, by, take_mark, take_opening, is_free, take_allowed, take_any_list, take_some_list}
use Rattle.qasm_expr.specs.TokenKinds.{keyword_kind, mark_kind, kind}
use Rattle.qasm_expr.specs.Grammar.{Rows, operators, unary_operators, plain_types, sized_types, Counted, Link, join, scalar, comma, literal_of, name_of}

abbrev pub literal_kinds : List ℕ
literal_kinds = 2 ∷ 4 ∷ 6 ∷ keyword_kind k.True ∷ keyword_kind k.False ∷ []

abbrev pub type_kinds : List ℕ
type_kinds = kinds_of plain_types ++ kinds_of sized_types

abbrev pub prim_kinds : List ℕ
prim_kinds = literal_kinds ++ ((mark_kind m.LeftParen ∷ []) ++ (type_kinds ++ (1 ∷ [])))

-- the kinds of token that begin an expression
abbrev pub expr_kinds : List ℕ
expr_kinds = kinds_of unary_operators ++ prim_kinds

-- those that begin what stands in the brackets of an index
abbrev pub content_kinds : List ℕ
content_kinds = (mark_kind m.LeftBrace ∷ []) ++ ((mark_kind m.Colon ∷ []) ++ expr_kinds)

module _ (text : List ℕ) where
  abbrev pub begins : List ℕ → Token → Bool
  begins set = among (kind text) set

  abbrev pub read_sign : ℕ → Reader Token Token
  read_sign k = take_mark (kind text) k

  abbrev pub read_opener : ℕ → ℕ → Reader Token Token
  read_opener room k = take_opening room (marked (kind text) k)

  -- a part between two marks, of which the first opens a level
  unfoldable pub read_between : {A : Type 0} → ℕ → ℕ → ℕ → Reader Token A → Reader Token A
  read_between room left right inner = read_opener room left >>= (λ o. inner >>= (λ e. read_sign right >>= (λ c. done e)))

  abbrev pub read_width : ℕ → Reader Token Tree → Reader Token Tree
  read_width room inner = read_between room (mark_kind m.LeftBracket) (mark_kind m.RightBracket) inner

  unfoldable pub read_type : ℕ → Reader Token Tree → Reader Token Scalar
  read_type room inner = choose (begins (kinds_of plain_types)) (take_one (picked (kind text) plain_types) >>= (λ w. done (scalar w.0 absent w.1.at)))
      (take_one (picked (kind text) sized_types) >>= (λ w. choose (begins (mark_kind m.LeftBracket ∷ [])) (read_width room inner >>= (λ e. done (scalar w.0 (present e) w.1.at))) (done (scalar w.0 absent w.1.at))))

  abbrev pub read_grouped : ℕ → Reader Token Tree → Reader Token Tree
  read_grouped room inner = read_between room (mark_kind m.LeftParen) (mark_kind m.RightParen) inner

  unfoldable pub read_cast : ℕ → Reader Token Tree → Reader Token Tree
  read_cast room inner = read_type room inner >>= (λ s. read_grouped room inner >>= (λ e. done (cast_tree s.base s.width s.place e s.place)))

  -- a list with commas of what these kinds begin; one that is filled has one item at least
  abbrev pub read_listed : {A : Type 0} → List ℕ → Bool → Reader Token A → Reader Token (List A)
  read_listed set true item = take_some_list (kind text) comma set item
  read_listed set false item = take_any_list (kind text) comma set item

  -- a list of expressions
  unfoldable pub read_list : Bool → Reader Token Tree → Reader Token (List Tree)
  read_list filled inner = read_listed expr_kinds filled inner

  abbrev pub read_arguments : ℕ → Reader Token Tree → Reader Token (List Tree)
  read_arguments room inner = read_between room (mark_kind m.LeftParen) (mark_kind m.RightParen) (read_list false inner)

  abbrev pub read_stop : Reader Token Tree → Maybe → Maybe → Span → Reader Token Bracket
  read_stop expr start step place = read_sign (mark_kind m.Colon) >>= (λ c. expr >>= (λ stop. done (range start step (present stop) place)))

  unfoldable pub read_behind_colon : Reader Token Tree → Maybe → Span → Reader Token Bracket
  read_behind_colon expr start place =
      choose (begins (mark_kind m.Colon ∷ [])) (read_stop expr start absent place)
      (choose (begins expr_kinds) (expr >>= (λ e. choose (begins (mark_kind m.Colon ∷ [])) (read_stop expr start (present e) place) (done (range start absent (present e) place))))
      (done (range start absent absent place)))

  unfoldable pub read_behind_start : Reader Token Tree → Tree → Reader Token Bracket
  read_behind_start expr e = choose (begins (mark_kind m.Colon ∷ [])) (read_sign (mark_kind m.Colon) >>= (λ c. read_behind_colon expr (present e) (place_of e))) (done (position e))

  unfoldable pub read_set : ℕ → Reader Token Tree → Reader Token Bracket
  read_set room inner = read_opener room (mark_kind m.LeftBrace) >>= (λ o. read_list true inner >>= (λ es. read_sign (mark_kind m.RightBrace) >>= (λ c. done (members (trees es)))))

  unfoldable pub read_content : ℕ → Reader Token Tree → Reader Token Tree → Reader Token Bracket
  read_content room expr inner = choose (begins (mark_kind m.LeftBrace ∷ [])) (read_set room inner)
      (choose (begins (mark_kind m.Colon ∷ [])) (read_sign (mark_kind m.Colon) >>= (λ c. read_behind_colon expr absent c.at))
      (expr >>= read_behind_start expr))

  abbrev pub read_index : ℕ → Reader Token Bracket → Reader Token Bracket
  read_index room inside = read_between room (mark_kind m.LeftBracket) (mark_kind m.RightBracket) inside

  abbrev pub read_indexes : ℕ → Reader Token Bracket → Reader Token (List Bracket)
  read_indexes room inside = take_repeated (begins (mark_kind m.LeftBracket ∷ [])) (read_index room inside)

  unfoldable pub read_behind_name : ℕ → Reader Token Tree → Reader Token Bracket → List ℕ × Span → Reader Token Tree
  read_behind_name room inner inside x = choose (begins (mark_kind m.LeftParen ∷ [])) (read_arguments room inner >>= (λ es. done (call x.0 (trees es) x.1)))
      (read_indexes room inside >>= (λ is. done (named (word x.0) (brackets is) x.1 x.1)))

  unfoldable pub read_prim : ℕ → Reader Token Tree → Reader Token Bracket → Reader Token Tree
  read_prim room inner inside = choose (begins literal_kinds) (take_one (literal_of text))
      (choose (begins (mark_kind m.LeftParen ∷ [])) (read_grouped room inner)
      (choose (begins type_kinds) (read_cast room inner)
      (take_one (name_of text) >>= read_behind_name room inner inside)))

  unfoldable pub read_power : Option ℕ → ℕ → Reader Token Tree → Reader Token Bracket → (ℕ → Reader Token Counted) → ℕ → Reader Token Counted
  read_power limit room inner inside deeper used = read_prim room inner inside >>= (λ base. choose (begins (mark_kind m.StarStar ∷ []))
      (take_allowed (is_free limit used) (by (marked (kind text) (mark_kind m.StarStar))) (read_opener room (mark_kind m.StarStar)) >>= (λ o. deeper (used + 1) >>= (λ e. done (binary_tree op.Power base e.0 (place_of base), e.1))))
      (done (base, used)))

  unfoldable pub read_unary_at : Option ℕ → ℕ → Reader Token Tree → Reader Token Bracket → (ℕ → Reader Token Counted) → ℕ → Reader Token Counted
  read_unary_at limit room inner inside deeper used = choose (begins (kinds_of unary_operators))
      (take_opening room (picked (kind text) unary_operators) >>= (λ o. deeper used >>= (λ e. done (unary_tree o.0 e.0 o.1.at, e.1))))
      (read_power limit room inner inside deeper used)

  abbrev pub read_link : Option ℕ → Rows → (ℕ → Reader Token Counted) → ℕ → Reader Token Link
  read_link limit rows item used = take_allowed (is_free limit used) (by (picked (kind text) rows)) (take_one (picked (kind text) rows)) >>= (λ o. item (used + 1) >>= (λ e. done (record { op = o.0; right = e.0; used = e.1 })))

  unfoldable pub read_level : Option ℕ → Rows → (ℕ → Reader Token Counted) → ℕ → Reader Token Counted
  read_level limit rows item used = item used >>= (λ first. (λ ts. take_many (λ s. begins (kinds_of rows)) (read_link limit rows item) (λ s l. l.used) (length ts) first.1 ts) >>= (λ links. done (join first links)))

  abbrev pub read_binary : Option ℕ → List Rows → (ℕ → Reader Token Counted) → ℕ → Reader Token Counted
  read_binary limit [] item = item
  read_binary limit (rows ∷ tighter) item = read_level limit rows (read_binary limit tighter item)

  abbrev pub read_expr_of : Option ℕ → (ℕ → Reader Token Counted) → Reader Token Tree
  read_expr_of limit item = read_binary limit operators item 0 >>= (λ e. done e.0)

  unfoldable pub read_unary : Option ℕ → ℕ → ℕ → Reader Token Counted
  read_unary limit zero = read_unary_at limit zero (take_never (begins expr_kinds)) (take_never (begins content_kinds)) (λ used. take_never (begins expr_kinds))
  read_unary limit (suc zero) = read_unary_at limit (suc zero) (read_expr_of limit (read_unary limit zero)) (read_content zero (read_expr_of limit (read_unary limit zero)) (take_never (begins expr_kinds))) (read_unary limit zero)
  read_unary limit (suc (suc room)) = read_unary_at limit (suc (suc room)) (read_expr_of limit (read_unary limit (suc room))) (read_content (suc room) (read_expr_of limit (read_unary limit (suc room))) (read_expr_of limit (read_unary limit room))) (read_unary limit (suc room))

  abbrev pub read_expr : Option ℕ → ℕ → Reader Token Tree
  read_expr limit room = read_expr_of limit (read_unary limit room)
