-- The levels of an expression are no more than its room.
use Rattle.std.proofs.Common.{◌≡◌, ℕ, zero, suc, ◌+◌, ◌≤◌, ◌<◌, Bool, true, false, cond, List, [], ◌∷◌, Option, Some, None, refl, ap, subst, ◌∙◌, arith}
use Rattle.std.specs.Prelude.{◌==◌, ◌&&◌}
use Rattle.qq_base.specs.declared.refusal.Span.{Span}
use Rattle.qasm_lexer.specs.declared.token.Token.{Token}
use Rattle.qasm_lexer.specs.declared.token.TokenKind.{TokenKind}
use Rattle.qasm_lexer.specs.declared.token.TokenKind.TheVariants as t
use Rattle.qasm_lexer.specs.declared.token.Keyword.TheVariants as k
use Rattle.qasm_ast.specs.declared.expr.BinaryOp.{BinaryOp}
use Rattle.qasm_ast.specs.declared.expr.BinaryOp.TheVariants as op
use Rattle.qasm_ast.specs.Tree.{Tree, bit_string, number, wire, truth, binary as binary_tree, trees, Maybe, absent, present, Bracket, brackets, place_of}
use Rattle.qasm_ast.specs.Level.{right_level, level_of, trees_level, maybe_level, width_level, bracket_level, brackets_level}
use Rattle.grammar_parts.specs.Part.{Part}
use Rattle.grammar_parts.specs.Kinds.{found_in, with_token, picked, is_free}
use Rattle.grammar_parts.proofs.Sets.{both_true}
use Rattle.qasm_lexer.specs.Sizes.{bytes_of}
use Rattle.qasm_expr.specs.TokenKinds.{bits_of, kind}
use Rattle.qasm_expr.specs.Grammar.{Rows, operators, Counted, Link, join, comma, bits_literal, literal_at, width, type, grouped, cast, arguments, stop, behind_colon, set, content, index, behind_name, prim, power, unary_at, link, level, binary, expr_of, unary, expr}
use Rattle.qasm_grammar.specs.Height.{Each}
use Rattle.qasm_grammar.proofs.Holding.{Holds, holds_nothing, holds_never, holds_one, holds_then, holds_behind, holds_either, holds_cond, holds_wider, holds_map, holds_many, holds_repeated, holds_opening, holds_any_list, holds_some_list}

-- an expression, and one that stands one level deeper
abbrev pub Fits : ℕ → Tree → Type 0
Fits room e = level_of e ≤ room

abbrev pub FitsDeeper : ℕ → Tree → Type 0
FitsDeeper room e = suc (level_of e) ≤ room

pub trees_fit : (room : ℕ) → 0 < room → (es : List Tree) → Each (FitsDeeper room) es → suc (trees_level (trees es)) ≤ room
trees_fit room lt [] h = lt
trees_fit room lt (e ∷ es) h = omega (arith, h.0, trees_fit room lt es h.1)

pub brackets_fit : (room : ℕ) (bs : List Bracket) → Each (λ b. bracket_level b ≤ room) bs → brackets_level (brackets bs) ≤ room
brackets_fit room [] h = omega arith
brackets_fit room (b ∷ bs) h = omega (arith, h.0, brackets_fit room bs h.1)

-- ---- literals

-- a tree with no level, which a test gave
no_level : (room : ℕ) (a e : Tree) → Some a ≡ Some e → level_of a ≡ 0 → Fits room e
no_level room a e h z = let same : a ≡ e = cc in subst (λ x. Fits room x) same (omega (arith, z))

bits_fit : (text : List ℕ) (room : ℕ) (place : Span) (o : Option (List Bool)) (e : Tree) → bits_literal text place o ≡ Some e → Fits room e
bits_fit text room place None e h = absurd (cc)
bits_fit text room place (Some bits) e h = no_level room (bit_string bits place) e h refl

literal_fits : (text : List ℕ) (room : ℕ) (x : Token) (kd : TokenKind) (e : Tree) → literal_at text x kd ≡ Some e → Fits room e
literal_fits text room x (t.Whole n) e h = no_level room (number n x.at) e h refl
literal_fits text room x (t.Hardware n) e h = no_level room (wire n x.at) e h refl
literal_fits text room x t.Text e h = bits_fit text room x.at (bits_of (bytes_of text x)) e h
literal_fits text room x (t.Word k.True) e h = no_level room (truth true x.at) e h refl
literal_fits text room x (t.Word k.False) e h = no_level room (truth false x.at) e h refl
literal_fits text room x _ e h = absurd (cc)

-- ---- operators other than the power

abbrev is_plain : BinaryOp → Bool
is_plain op.Power = false
is_plain _ = true

abbrev all_plain : Rows → Bool
all_plain [] = true
all_plain (row ∷ rows) = is_plain row.1 && all_plain rows

abbrev all_tables : List Rows → Bool
all_tables [] = true
all_tables (rows ∷ tighter) = all_plain rows && all_tables tighter

plain_right : (o : BinaryOp) (n : ℕ) → is_plain o ≡ true → right_level o n ≡ n
plain_right op.Power n e = absurd (cc)
plain_right _ n e = refl

found_plain : (rows : Rows) → all_plain rows ≡ true → (n : ℕ) (o : BinaryOp) → found_in rows n ≡ Some o → is_plain o ≡ true
found_plain [] e n o h = absurd (cc)
found_plain (row ∷ rows) e n o h = at (n == row.0) h (both_true (is_plain row.1) (all_plain rows) e).0 (λ g. found_plain rows (both_true (is_plain row.1) (all_plain rows) e).1 n o g)
  where
    at : (b : Bool) → cond b (Some row.1) (found_in rows n) ≡ Some o → is_plain row.1 ≡ true → (found_in rows n ≡ Some o → is_plain o ≡ true) → is_plain o ≡ true
    at true g first later = let same : row.1 ≡ o = cc in subst (λ z. is_plain z ≡ true) same first
    at false g first later = later g

picked_plain : (text : List ℕ) (rows : Rows) → all_plain rows ≡ true → (x : Token) (w : BinaryOp × Token) → picked (kind text) rows x ≡ Some w → is_plain w.0 ≡ true
picked_plain text rows e x w h = at (found_in rows (kind text x)) refl h
  where
    at : (o : Option BinaryOp) → found_in rows (kind text x) ≡ o → with_token x o ≡ Some w → is_plain w.0 ≡ true
    at None g s = absurd (cc)
    at (Some o) g s = let same : (o, x) ≡ w = cc in found_plain rows e (kind text x) w.0 (g ∙ ap (λ z. Some z.0) same)

-- ---- the operators of a chain

abbrev LinkFits : ℕ → Link → Type 0
LinkFits room l = right_level l.op (level_of l.right) ≤ room

join_fits : (room : ℕ) (c : Counted) (ls : List Link) → Fits room c.0 → Each (LinkFits room) ls → Fits room (join c ls).0
join_fits room c [] h g = h
join_fits room c (l ∷ ls) h g = join_fits room (binary_tree l.op c.0 l.right (place_of c.0), l.used) ls (omega (arith, h, g.0)) g.1

module _ (text : List ℕ) where
  -- ---- what stands in brackets

  module _ {room : ℕ} {inner : Part Token Tree} (i : Holds inner (FitsDeeper room)) where
    pub width_fits : Holds (width text room inner) (FitsDeeper room)
    width_fits = holds_behind (λ o. holds_then i (λ e h. holds_behind (λ c. holds_nothing h)))

    pub type_fits : Holds (type text room inner) (λ s. width_level s.width ≤ room)
    type_fits = holds_either (holds_behind (λ w. holds_nothing (omega arith)))
        (holds_behind (λ w. holds_either (holds_then width_fits (λ e h. holds_nothing h)) (holds_nothing (omega arith))))

    pub grouped_fits : Holds (grouped text room inner) (FitsDeeper room)
    grouped_fits = holds_behind (λ o. holds_then i (λ e h. holds_behind (λ c. holds_nothing h)))

    cast_fits : Holds (cast text room inner) (Fits room)
    cast_fits = holds_then type_fits (λ s h. holds_then grouped_fits (λ e g. holds_nothing (omega (arith, h, g))))

    pub arguments_fit : Holds (arguments text room inner) (λ es. suc (trees_level (trees es)) ≤ room)
    arguments_fit = holds_then (holds_opening room _) (λ o lt. holds_then (holds_any_list (kind text) comma i) (λ es h. holds_behind (λ c. holds_nothing (trees_fit room lt es h))))

    set_fits : Holds (set text room inner) (λ b. bracket_level b ≤ suc room)
    set_fits = holds_then (holds_opening room _) (λ o lt. holds_then (holds_some_list (kind text) comma i) (λ es h. holds_behind (λ c. holds_nothing (omega (arith, trees_fit room lt es h)))))

  module _ {room : ℕ} {e : Part Token Tree} (f : Holds e (Fits room)) where
    stop_fits : (start step : Maybe) (place : Span) → maybe_level start ≤ room → maybe_level step ≤ room → Holds (stop text e start step place) (λ b. bracket_level b ≤ suc room)
    stop_fits start step place h g = holds_behind (λ c. holds_then f (λ x l. holds_nothing (omega (arith, h, g, l))))

    behind_colon_fits : (start : Maybe) (place : Span) → maybe_level start ≤ room → Holds (behind_colon text e start place) (λ b. bracket_level b ≤ suc room)
    behind_colon_fits start place h =
        holds_either (stop_fits start absent place h (omega arith))
        (holds_either (holds_then f (λ x l. holds_either (stop_fits start (present x) place h l) (holds_nothing (omega (arith, h, l)))))
        (holds_nothing (omega (arith, h))))

    pub content_fits : {inner : Part Token Tree} → Holds inner (FitsDeeper room) → Holds (content text room e inner) (λ b. bracket_level b ≤ suc room)
    content_fits i =
        holds_either (set_fits i)
        (holds_either (holds_behind (λ c. behind_colon_fits absent c.at (omega arith)))
        (holds_then f (λ x l. holds_either (holds_behind (λ c. behind_colon_fits (present x) (place_of x) l)) (holds_nothing (omega (arith, l))))))

  -- ---- operands and operators

  module _ {room : ℕ} {inner : Part Token Tree} (i : Holds inner (FitsDeeper room)) {inside : Part Token Bracket} (b : Holds inside (λ c. bracket_level c ≤ room)) where
    pub index_fits : Holds (index text room inside) (λ c. bracket_level c ≤ room)
    index_fits = holds_behind (λ o. holds_then b (λ c h. holds_behind (λ d. holds_nothing h)))

    behind_name_fits : (x : List ℕ × Span) → Holds (behind_name text room inner inside x) (Fits room)
    behind_name_fits x = holds_either (holds_map _ (arguments_fit i) (λ es h. h)) (holds_map _ (holds_repeated index_fits) (λ bs h. brackets_fit room bs h))

    prim_fits : Holds (prim text room inner inside) (Fits room)
    prim_fits = holds_either (holds_one (λ x e h. literal_fits text room x x.kind e h))
        (holds_either (holds_wider (grouped_fits i) (λ e h. omega (arith, h)))
        (holds_either (cast_fits i) (holds_behind behind_name_fits)))

    module _ (limit : Option ℕ) {deeper : ℕ → Part Token Counted} (d : (used : ℕ) → Holds (deeper used) (λ c. FitsDeeper room c.0)) where
      power_fits : (used : ℕ) → Holds (power text limit room inner inside deeper used) (λ c. Fits room c.0)
      power_fits used = holds_then prim_fits (λ base h. holds_either (holds_behind (λ o. holds_then (d (used + 1)) (λ c g. holds_nothing (omega (arith, h, g))))) (holds_nothing h))

      unary_at_fits : (used : ℕ) → Holds (unary_at text limit room inner inside deeper used) (λ c. Fits room c.0)
      unary_at_fits used = holds_either (holds_behind (λ o. holds_then (d used) (λ c g. holds_nothing g))) (power_fits used)

  module _ (limit : Option ℕ) {room : ℕ} where
    link_fits : (rows : Rows) → all_plain rows ≡ true → {item : ℕ → Part Token Counted} → ((used : ℕ) → Holds (item used) (λ c. Fits room c.0)) → (used : ℕ) → Holds (link text limit rows item used) (LinkFits room)
    link_fits rows e f used =
        holds_then (holds_cond (is_free limit used) (holds_one (picked_plain text rows e)) holds_never)
        (λ o h. holds_then (f (used + 1)) (λ c g. holds_nothing (omega (arith, g, plain_right o.0 (level_of c.0) h))))

    level_fits : (rows : Rows) → all_plain rows ≡ true → {item : ℕ → Part Token Counted} → ((used : ℕ) → Holds (item used) (λ c. Fits room c.0)) → (used : ℕ) → Holds (level text limit rows item used) (λ c. Fits room c.0)
    level_fits rows e f used = holds_then (f used) (λ first h. holds_map (join first) (holds_many (λ s l. l.used) (link_fits rows e f) first.1) (λ ls g. join_fits room first ls h g))

    binary_fits : (tables : List Rows) → all_tables tables ≡ true → {item : ℕ → Part Token Counted} → ((used : ℕ) → Holds (item used) (λ c. Fits room c.0)) → (used : ℕ) → Holds (binary text limit tables item used) (λ c. Fits room c.0)
    binary_fits [] e f used = f used
    binary_fits (rows ∷ tighter) e f used =
        let both = both_true (all_plain rows) (all_tables tighter) e in
        level_fits rows both.0 (λ u. binary_fits tighter both.1 f u) used

    expr_of_fits : {item : ℕ → Part Token Counted} → ((used : ℕ) → Holds (item used) (λ c. Fits room c.0)) → Holds (expr_of text limit item) (Fits room)
    expr_of_fits f = holds_map (λ c. c.0) (binary_fits operators refl f 0) (λ c h. h)

  -- ---- by the room

  deeper_fits : {room : ℕ} {p : Part Token Tree} → Holds p (Fits room) → Holds p (FitsDeeper (suc room))
  deeper_fits f = holds_wider f (λ e h. omega (arith, h))

  counted_deeper : {room : ℕ} {p : Part Token Counted} → Holds p (λ c. Fits room c.0) → Holds p (λ c. FitsDeeper (suc room) c.0)
  counted_deeper f = holds_wider f (λ e h. omega (arith, h))

  unary_fits : (limit : Option ℕ) (room used : ℕ) → Holds (unary text limit room used) (λ c. Fits room c.0)
  unfolding unary
  unary_fits limit zero used = unary_at_fits holds_never holds_never limit (λ u. holds_never) used
  unary_fits limit (suc zero) used =
      let e : Holds (expr text limit zero) (Fits zero) = expr_of_fits limit (unary_fits limit zero) in
      unary_at_fits (deeper_fits e) (content_fits e holds_never) limit (λ u. counted_deeper (unary_fits limit zero u)) used
  unary_fits limit (suc (suc room)) used =
      let e : Holds (expr text limit (suc room)) (Fits (suc room)) = expr_of_fits limit (unary_fits limit (suc room)) in
      unary_at_fits (deeper_fits e) (content_fits e (deeper_fits (expr_of_fits limit (unary_fits limit room)))) limit (λ u. counted_deeper (unary_fits limit (suc room) u)) used

  pub expr_fits : (limit : Option ℕ) (room : ℕ) → Holds (expr text limit room) (Fits room)
  expr_fits limit room = expr_of_fits limit (unary_fits limit room)

  pub deeper_expr_fits : (limit : Option ℕ) (room : ℕ) → Holds (expr text limit room) (FitsDeeper (suc room))
  deeper_expr_fits limit room = deeper_fits (expr_fits limit room)
