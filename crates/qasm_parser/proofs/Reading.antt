-- What the readers of expressions answer, step by step.
use Rattle.std.proofs.Common.{◌≡◌, ℕ, zero, suc, ◌+◌, ◌<◌, true, false, List, [], ◌∷◌, Some, refl, ap, ◌∙◌, length, drop, sym, arith}
use Rattle.qasm_lexer.specs.declared.token.Token.{Token}
use Rattle.qasm_lexer.specs.declared.token.Mark.TheVariants as m
use Rattle.qasm_ast.specs.declared.expr.BinaryOp.TheVariants as op
use Rattle.qasm_ast.specs.Tree.{Tree, unary as unary_tree, binary as binary_tree, place_of}
use Rattle.grammar_parts.specs.Reading.{Reader, done, ◌>>=◌, and_then, choose, heads}
use Rattle.grammar_parts.specs.Kinds.{by, marked, picked, kinds_of, is_free, take_allowed, take_opening}
use Rattle.qasm_expr.specs.TokenKinds.{kind, mark_kind}
use Rattle.qasm_expr.specs.Grammar.{Rows, operators, unary_operators, Counted}
use Rattle.qasm_expr.specs.Reader.{begins, read_opener, read_expr, read_unary, read_unary_at, read_power, read_prim, read_content, read_level, read_binary}
use Rattle.qasm_expr.specs.Seen.{deeper_expr, deeper_unary, deeper_content, tighter, first_rows, rows_at}

-- ---- one level deeper

module _ (text : List ℕ) (room inner : ℕ) (e : room ≡ suc inner) where
  pub deeper_expr_is : deeper_expr text room ≡ read_expr text (Some 64) inner
  deeper_expr_is = ap (deeper_expr text) e

  pub deeper_unary_is : (used : ℕ) → deeper_unary text room used ≡ read_unary text (Some 64) inner used
  deeper_unary_is used = ap (λ r. deeper_unary text r used) e

  pub deeper_content_is : deeper_content text room ≡ read_content text inner (read_expr text (Some 64) inner) (deeper_expr text inner)
  deeper_content_is = ap (deeper_content text) e

-- ---- the readers of one operand and of one level

unary_open : (text : List ℕ) (room used : ℕ) (ts : List Token) → read_unary text (Some 64) room used ts ≡ read_unary_at text (Some 64) room (deeper_expr text room) (deeper_content text room) (deeper_unary text room) used ts
unfolding read_unary
unary_open text zero used ts = refl
unary_open text (suc zero) used ts = refl
unary_open text (suc (suc room)) used ts = refl

-- the levels from one on are the first of them and the tighter ones
first_level : (text : List ℕ) (table : List Rows) (used : ℕ) (item : ℕ → Reader Token Counted) (rank : ℕ) → rank < length table → read_binary text (Some 64) (drop rank table) item used ≡ read_level text (Some 64) (first_rows (drop rank table)) (read_binary text (Some 64) (drop (rank + 1) table) item) used
first_level text [] used item rank lt = absurd (omega arith)
first_level text (rows ∷ table) used item zero lt = refl
first_level text (rows ∷ table) used item (suc rank) lt =
    let same : suc rank + 1 ≡ suc (rank + 1) = omega arith in
    first_level text table used item rank (omega arith) ∙ ap (λ k. read_level text (Some 64) (first_rows (drop rank table)) (read_binary text (Some 64) (drop k (rows ∷ table)) item) used) (sym same)

-- ---- operands

module _ (text : List ℕ) (room used : ℕ) (ts : List Token) where
  pub signed : heads (begins text (kinds_of unary_operators)) ts ≡ true → read_unary text (Some 64) room used ts ≡ and_then (take_opening room (picked (kind text) unary_operators) ts) (λ o. deeper_unary text room used >>= (λ e. done (unary_tree o.0 e.0 o.1.at, e.1)))
  unfolding read_unary_at
  signed h = unary_open text room used ts ∙ rw h refl

  -- behind an operand, where a power may come
  abbrev pub behind_base : Tree → Reader Token Counted
  behind_base base = choose (begins text (mark_kind m.StarStar ∷ []))
      (take_allowed (is_free (Some 64) used) (by (marked (kind text) (mark_kind m.StarStar))) (read_opener text room (mark_kind m.StarStar)) >>= (λ o. deeper_unary text room (used + 1) >>= (λ e. done (binary_tree op.Power base e.0 (place_of base), e.1))))
      (done (base, used))

  pub unsigned : heads (begins text (kinds_of unary_operators)) ts ≡ false → read_unary text (Some 64) room used ts ≡ and_then (read_prim text room (deeper_expr text room) (deeper_content text room) ts) behind_base
  unfolding read_unary_at read_power
  unsigned h = unary_open text room used ts ∙ rw h refl

-- ---- levels

pub level_is : (text : List ℕ) (rank used room : ℕ) (ts : List Token) → rank < 10 → read_binary text (Some 64) (tighter rank) (read_unary text (Some 64) room) used ts ≡ read_level text (Some 64) (rows_at rank) (read_binary text (Some 64) (tighter (rank + 1)) (read_unary text (Some 64) room)) used ts
level_is text rank used room ts lt = ap (λ r. r ts) (first_level text operators used (read_unary text (Some 64) room) rank lt)
