-- The height of an expression, by the limit on chains and its room.
use Rattle.std.proofs.Common.{◌≡◌, ℕ, zero, suc, ◌+◌, ◌≤◌, ◌<◌, Bool, true, false, List, [], ◌∷◌, Option, Some, None, refl, subst, arith}
use Rattle.std.specs.Prelude.{max}
use Rattle.std.proofs.lemmas.Bool.{ltb-true}
use Rattle.qq_base.specs.declared.refusal.Span.{Span}
use Rattle.qasm_lexer.specs.declared.token.Token.{Token}
use Rattle.qasm_lexer.specs.declared.token.TokenKind.{TokenKind}
use Rattle.qasm_lexer.specs.declared.token.TokenKind.TheVariants as t
use Rattle.qasm_lexer.specs.declared.token.Keyword.TheVariants as k
use Rattle.qasm_ast.specs.Tree.{Tree, bit_string, number, wire, truth, binary as binary_tree, trees, Trees, no_tree, a_tree, Maybe, absent, present, Bracket, position, range, members, Brackets, no_bracket, a_bracket, brackets, place_of}
use Rattle.grammar_parts.specs.Part.{Part}
use Rattle.grammar_parts.specs.Kinds.{is_free}
use Rattle.qasm_lexer.specs.Sizes.{bytes_of}
use Rattle.qasm_expr.specs.TokenKinds.{bits_of, kind}
use Rattle.qasm_expr.specs.Grammar.{Rows, operators, Counted, Link, join, bits_literal, literal_at, cast, behind_name, prim, power, unary_at, link, level, binary, expr_of, unary, expr}
use Rattle.qasm_grammar.specs.Height.{height_of, trees_height, maybe_height, bracket_height, brackets_height, EveryTree, EveryMaybe, EveryBracket, EveryBrackets}
use Rattle.qasm_grammar.proofs.Everywhere.{brackets_every, type_every, grouped_every, arguments_every, content_every, index_every}
use Rattle.qasm_grammar.proofs.Holding.{Holds, Chain, holds_nothing, holds_never, holds_one, holds_then, holds_behind, holds_either, holds_if, holds_wider, holds_map, holds_any, holds_chain, holds_repeated}

-- the height that a primary expression may have in this room, and that of an expression
abbrev pub least : ℕ → ℕ → ℕ
least limit zero = 1
least limit (suc room) = suc (limit + least limit room)

abbrev pub tallest : ℕ → ℕ → ℕ
tallest limit room = limit + least limit room

abbrev pub IsLow : ℕ → Tree → Type 0
IsLow n e = height_of e ≤ n

-- an expression that leaves room for one node more
abbrev pub IsInner : ℕ → Tree → Type 0
IsInner n e = suc (height_of e) ≤ n

pub trees_low : (n : ℕ) → 0 < n → (es : Trees) → EveryTree (IsInner n) es → suc (trees_height es) ≤ n
trees_low n lt no_tree h = lt
trees_low n lt (a_tree e es) h = omega (arith, h.0, trees_low n lt es h.1)

maybe_low : (n : ℕ) → 0 < n → (e : Maybe) → EveryMaybe (IsInner n) e → suc (maybe_height e) ≤ n
maybe_low n lt absent h = lt
maybe_low n lt (present e) h = h

bracket_low : (n : ℕ) → 0 < n → (b : Bracket) → EveryBracket (IsInner n) b → suc (bracket_height b) ≤ n
bracket_low n lt (position e) h = h
bracket_low n lt (range start step stop place) h = omega (arith, maybe_low n lt start h.0, maybe_low n lt step h.1, maybe_low n lt stop h.2)
bracket_low n lt (members es) h = trees_low n lt es h

brackets_low : (n : ℕ) → 0 < n → (bs : Brackets) → EveryBrackets (IsInner n) bs → suc (brackets_height bs) ≤ n
brackets_low n lt no_bracket h = lt
brackets_low n lt (a_bracket b bs) h = omega (arith, bracket_low n lt b h.0, brackets_low n lt bs h.1)

-- ---- literals

one_node : (n : ℕ) → 0 < n → (a e : Tree) → Some a ≡ Some e → height_of a ≡ 1 → IsLow n e
one_node n lt a e h z = let same : a ≡ e = cc in subst (λ x. IsLow n x) same (omega (arith, z, lt))

bits_low : (text : List ℕ) (n : ℕ) → 0 < n → (place : Span) (o : Option (List Bool)) (e : Tree) → bits_literal text place o ≡ Some e → IsLow n e
bits_low text n lt place None e h = absurd (cc)
bits_low text n lt place (Some bits) e h = one_node n lt (bit_string bits place) e h refl

literal_low : (text : List ℕ) (n : ℕ) → 0 < n → (x : Token) (kd : TokenKind) (e : Tree) → literal_at text x kd ≡ Some e → IsLow n e
literal_low text n lt x (t.Whole m) e h = one_node n lt (number m x.at) e h refl
literal_low text n lt x (t.Hardware m) e h = one_node n lt (wire m x.at) e h refl
literal_low text n lt x t.Text e h = bits_low text n lt x.at (bits_of (bytes_of text x)) e h
literal_low text n lt x (t.Word k.True) e h = one_node n lt (truth true x.at) e h refl
literal_low text n lt x (t.Word k.False) e h = one_node n lt (truth false x.at) e h refl
literal_low text n lt x _ e h = absurd (cc)

-- ---- the operators of a chain

-- A tree, and how many operators its chain has up to its end: each operator behind `used` adds one node.
pub record Counts (limit n used : ℕ) (c : Counted) : Type 0 where
  pub more : used ≤ c.1
  pub within : c.1 ≤ limit
  pub low : height_of c.0 + used ≤ n + c.1

-- of an operator with its right operand
record LinkCounts (limit n used : ℕ) (l : Link) : Type 0 where
  more : suc used ≤ l.used
  within : l.used ≤ limit
  low : height_of l.right + suc used ≤ n + l.used

-- a part that counts so, wherever its chain begins
abbrev Counting : ℕ → ℕ → (ℕ → Part Token Counted) → Type 0
Counting limit n item = (used : ℕ) → used ≤ limit → Holds (item used) (Counts limit n used)

join_counts : (limit n used : ℕ) (c : Counted) (ls : List Link) → Counts limit n used c → Chain (λ s l. l.used) (LinkCounts limit n) c.1 ls → Counts limit n used (join c ls)
join_counts limit n used c [] h g = h
join_counts limit n used c (l ∷ ls) h g =
    let now : Counts limit n used (binary_tree l.op c.0 l.right (place_of c.0), l.used) = record {
      more = omega (arith, h.more, g.0.more);
      within = g.0.within;
      low = omega (arith, h.more, h.low, g.0.more, g.0.low);
    } in
    join_counts limit n used (binary_tree l.op c.0 l.right (place_of c.0), l.used) ls now g.1

module _ (text : List ℕ) where
  -- ---- operands and operators

  module _ (room : ℕ) {n : ℕ} (lt : 0 < n) {inner : Part Token Tree} (i : Holds inner (IsInner n)) {inside : Part Token Bracket} (b : Holds inside (EveryBracket (IsInner n))) where
    cast_low : Holds (cast text room inner) (IsLow n)
    cast_low = holds_then (type_every (IsInner n) text room i) (λ s h. holds_then (grouped_every (IsInner n) text room i) (λ e g. holds_nothing (omega (arith, maybe_low n lt s.width h, g))))

    behind_name_low : (x : List ℕ × Span) → Holds (behind_name text room inner inside x) (IsLow n)
    behind_name_low x = holds_either (holds_map _ (arguments_every (IsInner n) text room i) (λ es h. trees_low n lt (trees es) h))
        (holds_map _ (holds_repeated (index_every (IsInner n) text room b)) (λ bs h. brackets_low n lt (brackets bs) (brackets_every (IsInner n) bs h)))

    prim_low : Holds (prim text room inner inside) (IsLow n)
    prim_low = holds_either (holds_one (λ x e h. literal_low text n lt x x.kind e h))
        (holds_either (holds_wider (grouped_every (IsInner n) text room i) (λ e h. omega (arith, h)))
        (holds_either cast_low (holds_behind behind_name_low)))

    module _ (limit : ℕ) {deeper : ℕ → Part Token Counted} (d : (used : ℕ) → used ≤ limit → Holds (deeper used) (λ c. Counts limit n used c × (suc (height_of c.0) + used ≤ n + c.1))) where
      power_counts : Counting limit n (power text (Some limit) room inner inside deeper)
      power_counts used le = holds_then prim_low (λ base h. holds_either
          (holds_then (holds_if (is_free (Some limit) used) (λ free. holds_wider holds_any (λ o u. ltb-true used limit free)))
          (λ o free. holds_then (d (used + 1) (omega (arith, free))) (λ c g. holds_nothing (record { more = omega (arith, g.0.more); within = g.0.within; low = omega (arith, h, g.0.more, g.1) }))))
          (holds_nothing (record { more = omega arith; within = le; low = omega (arith, h) })))

      unary_at_counts : Counting limit n (unary_at text (Some limit) room inner inside deeper)
      unary_at_counts used le = holds_either
          (holds_behind (λ o. holds_then (d used le) (λ c g. holds_nothing (record { more = g.0.more; within = g.0.within; low = g.1 }))))
          (power_counts used le)

  module _ (limit : ℕ) {n : ℕ} where
    link_counts : (rows : Rows) {item : ℕ → Part Token Counted} → Counting limit n item → (used : ℕ) → Holds (link text (Some limit) rows item used) (LinkCounts limit n used)
    link_counts rows f used =
        holds_then (holds_if (is_free (Some limit) used) (λ free. holds_wider holds_any (λ o u. ltb-true used limit free)))
        (λ o free. holds_then (f (used + 1) (omega (arith, free))) (λ c g. holds_nothing (record { more = omega (arith, g.more); within = g.within; low = omega (arith, g.low) })))

    level_counts : (rows : Rows) {item : ℕ → Part Token Counted} → Counting limit n item → Counting limit n (level text (Some limit) rows item)
    level_counts rows f used le = holds_then (f used le) (λ first h. holds_map (join first)
        (holds_chain (λ s l. l.used) (λ s. Unit {0}) (LinkCounts limit n) (λ s u. holds_wider (link_counts rows f s) (λ l g. (g, tt))) first.1 tt)
        (λ ls g. join_counts limit n used first ls h g))

    binary_counts : (tables : List Rows) {item : ℕ → Part Token Counted} → Counting limit n item → Counting limit n (binary text (Some limit) tables item)
    binary_counts [] f = f
    binary_counts (rows ∷ tighter) f = level_counts rows (binary_counts tighter f)

    expr_of_low : {item : ℕ → Part Token Counted} → Counting limit n item → Holds (expr_of text (Some limit) item) (IsLow (limit + n))
    expr_of_low f = holds_map (λ c. c.0) (binary_counts operators f 0 (omega arith)) (λ c h. omega (arith, h.low, h.within))

  -- ---- by the room

  pub some_height : (limit room : ℕ) → 0 < least limit room
  some_height limit zero = omega arith
  some_height limit (suc room) = omega arith

  deeper_counts : (limit room : ℕ) {item : ℕ → Part Token Counted} → Counting limit (least limit room) item → (used : ℕ) → used ≤ limit → Holds (item used) (λ c. Counts limit (least limit (suc room)) used c × (suc (height_of c.0) + used ≤ least limit (suc room) + c.1))
  deeper_counts limit room f used le = holds_wider (f used le) (λ c h. (record { more = h.more; within = h.within; low = omega (arith, h.low) }, omega (arith, h.low)))

  unary_counts : (limit room : ℕ) → Counting limit (least limit room) (unary text (Some limit) room)
  unfolding unary
  unary_counts limit zero = unary_at_counts zero (omega arith) holds_never holds_never limit (λ used le. holds_never)
  unary_counts limit (suc zero) =
      let e : Holds (expr text (Some limit) zero) (IsInner (least limit (suc zero))) = holds_wider (expr_of_low limit (unary_counts limit zero)) (λ x h. omega (arith, h)) in
      let lt : 0 < least limit (suc zero) = omega arith in
      unary_at_counts (suc zero) lt e (content_every (IsInner (least limit (suc zero))) text zero e holds_never) limit (deeper_counts limit zero (unary_counts limit zero))
  unary_counts limit (suc (suc room)) =
      let e : Holds (expr text (Some limit) (suc room)) (IsInner (least limit (suc (suc room)))) = holds_wider (expr_of_low limit (unary_counts limit (suc room))) (λ x h. omega (arith, h)) in
      let i : Holds (expr text (Some limit) room) (IsInner (least limit (suc (suc room)))) = holds_wider (expr_of_low limit (unary_counts limit room)) (λ x h. omega (arith, h)) in
      let lt : 0 < least limit (suc (suc room)) = omega arith in
      unary_at_counts (suc (suc room)) lt e (content_every (IsInner (least limit (suc (suc room)))) text (suc room) e i) limit (deeper_counts limit (suc room) (unary_counts limit (suc room)))

  pub expr_low : (limit room : ℕ) → Holds (expr text (Some limit) room) (IsLow (tallest limit room))
  expr_low limit room = expr_of_low limit (unary_counts limit room)
