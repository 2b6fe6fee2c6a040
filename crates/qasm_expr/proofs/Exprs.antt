-- Each part of an expression is read exactly, where the part one level deeper is.
use Rattle.std.proofs.Common.{◌≡◌, inl, inr, ℕ, ◌+◌, Bool, true, ◌&&◌, List, [], ◌∷◌, ◌++◌, Option, None, refl}
use Rattle.qq_base.specs.declared.refusal.Span.{Span}
use Rattle.qasm_lexer.specs.declared.token.Token.{Token}
use Rattle.qasm_lexer.specs.declared.token.Mark.TheVariants as m
use Rattle.qasm_ast.specs.declared.expr.BinaryOp.TheVariants as op
use Rattle.qasm_ast.specs.Tree.{word, Tree, named, unary as unary_tree, binary as binary_tree, cast as cast_tree, call, trees, Maybe, absent, present, Bracket, position, range, members, brackets, place_of}
use Rattle.grammar_parts.specs.Part.{Part}
use Rattle.grammar_parts.specs.Reading.{Reader}
use Rattle.grammar_parts.specs.Kinds.{disjoint, kinds_of, is_free}
use Rattle.grammar_parts.proofs.Sets.{tells_marked, tells_picked, has_back, has_either, both_true}
use Rattle.grammar_parts.proofs.Productions.{Reads, May, reads_one, reads_mark, reads_then, reads_more, may_then, reads_map, may_map, reads_either, may_either, may_left_out, reads_sets, reads_wider, may_sets, may_many, may_repeated, Opens, reads_free, reads_open_free, may_list, reads_list}
use Rattle.qasm_expr.specs.TokenKinds.{mark_kind, kind}
use Rattle.qasm_expr.specs.Grammar.{Rows, operators, unary_operators, plain_types, sized_types, Counted, join, scalar, comma, width, type, grouped, cast, arguments, stop, behind_colon, behind_start, set, content, index, behind_name, prim, power, unary_at, link, level, binary, expr_of}
use Rattle.qasm_expr.specs.Reader.{type_kinds, prim_kinds, expr_kinds, content_kinds, read_between, read_list, read_width, read_grouped, read_type, read_cast, read_arguments, read_stop, read_behind_colon, read_behind_start, read_set, read_content, read_index, read_behind_name, read_prim, read_power, read_unary_at, read_link, read_level, read_binary, read_expr_of}
use Rattle.qasm_expr.proofs.Tokens.{tells_literal, tells_name}

-- what may go on behind a whole name, a whole operand of a level, a whole expression
abbrev pub name_more : List ℕ
name_more = mark_kind m.LeftParen ∷ mark_kind m.LeftBracket ∷ []

abbrev pub unary_more : List ℕ
unary_more = mark_kind m.StarStar ∷ name_more

abbrev pub level_more : List Rows → List ℕ
level_more [] = unary_more
level_more (rows ∷ tighter) = kinds_of rows ++ level_more tighter

abbrev pub expr_more : List ℕ
expr_more = level_more operators

-- the operators of no level go on behind an operand of a tighter one
abbrev pub fit : List Rows → Bool
fit [] = true
fit (rows ∷ tighter) = disjoint (level_more tighter) (kinds_of rows) && fit tighter

abbrev pub colon_kinds : List ℕ
colon_kinds = mark_kind m.Colon ∷ expr_kinds

abbrev pub colon_more : List ℕ
colon_more = mark_kind m.Colon ∷ (expr_kinds ++ expr_more)

module _ (text : List ℕ) {C : Type 0} where
  module _ {p q : Part Token Tree} {r : Reader Token Tree} (i : Reads (kind text) C p q r expr_kinds expr_more) {room wide : ℕ} (opens : Opens (kind text) C room wide) where
    pub reads_width : Reads (kind text) C (width text room p) (width text wide q) (read_width text room r) (mark_kind m.LeftBracket ∷ []) []
    unfolding read_between
    reads_width = reads_then (kind text) (opens.reads (tells_marked (kind text) (mark_kind m.LeftBracket))) (λ o. reads_then (kind text) i (λ e. reads_map (kind text) (λ c. e) (reads_mark (kind text) (mark_kind m.RightBracket))) refl) refl

    pub reads_type : Reads (kind text) C (type text room p) (type text wide q) (read_type text room r) type_kinds (mark_kind m.LeftBracket ∷ [])
    unfolding read_type
    reads_type = reads_either (kind text)
        (reads_map (kind text) (λ w. scalar w.0 absent w.1.at) (reads_one (kind text) (tells_picked (kind text) plain_types)))
        (reads_more (kind text) (reads_one (kind text) (tells_picked (kind text) sized_types)) (λ w. may_left_out (kind text) (scalar w.0 absent w.1.at) (reads_map (kind text) (λ e. scalar w.0 (present e) w.1.at) reads_width) refl) refl) refl

    pub reads_grouped : Reads (kind text) C (grouped text room p) (grouped text wide q) (read_grouped text room r) (mark_kind m.LeftParen ∷ []) []
    unfolding read_between
    reads_grouped = reads_then (kind text) (opens.reads (tells_marked (kind text) (mark_kind m.LeftParen))) (λ o. reads_then (kind text) i (λ e. reads_map (kind text) (λ c. e) (reads_mark (kind text) (mark_kind m.RightParen))) refl) refl

    reads_cast : Reads (kind text) C (cast text room p) (cast text wide q) (read_cast text room r) type_kinds []
    unfolding read_cast
    reads_cast = reads_then (kind text) reads_type (λ s. reads_map (kind text) (λ e. cast_tree s.base s.width s.place e s.place) reads_grouped) refl

    pub reads_arguments : Reads (kind text) C (arguments text room p) (arguments text wide q) (read_arguments text room r) (mark_kind m.LeftParen ∷ []) []
    unfolding read_between read_list
    reads_arguments = reads_then (kind text) (opens.reads (tells_marked (kind text) (mark_kind m.LeftParen)))
        (λ o. may_then (kind text) (may_list (kind text) comma i refl) (λ es. reads_map (kind text) (λ c. es) (reads_mark (kind text) (mark_kind m.RightParen))) refl) refl

    reads_set : Reads (kind text) C (set text room p) (set text wide q) (read_set text room r) (mark_kind m.LeftBrace ∷ []) []
    unfolding read_set read_list
    reads_set = reads_then (kind text) (opens.reads (tells_marked (kind text) (mark_kind m.LeftBrace)))
        (λ o. reads_then (kind text) (reads_list (kind text) comma i refl) (λ es. reads_map (kind text) (λ c. members (trees es)) (reads_mark (kind text) (mark_kind m.RightBrace))) refl) refl

  -- ---- the brackets of an index

  module _ {p q : Part Token Tree} {r : Reader Token Tree} (e : Reads (kind text) C p q r expr_kinds expr_more) where
    reads_stop : (start step : Maybe) (place : Span) → Reads (kind text) C (stop text p start step place) (stop text q start step place) (read_stop text r start step place) (mark_kind m.Colon ∷ []) expr_more
    reads_stop start step place = reads_then (kind text) (reads_mark (kind text) (mark_kind m.Colon)) (λ c. reads_map (kind text) (λ x. range start step (present x) place) e) refl

    may_behind_colon : (start : Maybe) (place : Span) → May (kind text) C (behind_colon text p start place) (behind_colon text q start place) (read_behind_colon text r start place) colon_kinds colon_more
    unfolding read_behind_colon
    may_behind_colon start place = may_sets (kind text) colon_kinds colon_more
        (may_either (kind text) (reads_stop start absent place)
        (may_left_out (kind text) (range start absent absent place) (reads_more (kind text) e (λ x. may_left_out (kind text) (range start absent (present x) place) (reads_stop start (present x) place) refl) refl) refl)
        refl) refl refl refl

    may_behind_start : (x : Tree) → May (kind text) C (behind_start text p x) (behind_start text q x) (read_behind_start text r x) (mark_kind m.Colon ∷ []) colon_more
    unfolding read_behind_start
    may_behind_start x = may_sets (kind text) (mark_kind m.Colon ∷ []) colon_more
        (may_left_out (kind text) (position x) (reads_more (kind text) (reads_mark (kind text) (mark_kind m.Colon)) (λ c. may_behind_colon (present x) (place_of x)) refl) refl) refl refl refl

    module _ {p' q' : Part Token Tree} {r' : Reader Token Tree} (i : Reads (kind text) C p' q' r' expr_kinds expr_more) {room wide : ℕ} (opens : Opens (kind text) C room wide) where
      pub reads_content : Reads (kind text) C (content text room p p') (content text wide q q') (read_content text room r r') content_kinds colon_more
      unfolding read_content
      reads_content = reads_sets (kind text) content_kinds colon_more
          (reads_either (kind text) (reads_set i opens)
          (reads_either (kind text) (reads_more (kind text) (reads_mark (kind text) (mark_kind m.Colon)) (λ c. may_behind_colon absent c.at) refl)
          (reads_more (kind text) e may_behind_start refl) refl) refl) refl refl refl

  -- ---- operands

  module _ {p q : Part Token Tree} {r : Reader Token Tree} (i : Reads (kind text) C p q r expr_kinds expr_more) {pc qc : Part Token Bracket} {rc : Reader Token Bracket} (inside : Reads (kind text) C pc qc rc content_kinds colon_more) {room wide : ℕ} (opens : Opens (kind text) C room wide) where
    pub reads_index : Reads (kind text) C (index text room pc) (index text wide qc) (read_index text room rc) (mark_kind m.LeftBracket ∷ []) []
    unfolding read_between
    reads_index = reads_then (kind text) (opens.reads (tells_marked (kind text) (mark_kind m.LeftBracket))) (λ o. reads_then (kind text) inside (λ j. reads_map (kind text) (λ c. j) (reads_mark (kind text) (mark_kind m.RightBracket))) refl) refl

    may_behind_name : (x : List ℕ × Span) → May (kind text) C (behind_name text room p pc x) (behind_name text wide q qc x) (read_behind_name text room r rc x) name_more name_more
    unfolding read_behind_name
    may_behind_name x = may_either (kind text) (reads_map (kind text) (λ es. call x.0 (trees es) x.1) (reads_arguments i opens))
        (may_map (kind text) (λ is. named (word x.0) (brackets is) x.1 x.1) (may_repeated (kind text) reads_index refl)) refl

    reads_prim : Reads (kind text) C (prim text room p pc) (prim text wide q qc) (read_prim text room r rc) prim_kinds name_more
    unfolding read_prim
    reads_prim = reads_either (kind text) (reads_one (kind text) (tells_literal text))
        (reads_either (kind text) (reads_grouped i opens)
        (reads_either (kind text) (reads_cast i opens) (reads_more (kind text) (reads_one (kind text) (tells_name text)) may_behind_name refl) refl) refl) refl

    module _ (limit : Option ℕ) {pd qd : ℕ → Part Token Counted} {rd : ℕ → Reader Token Counted} (deeper : (used : ℕ) → Reads (kind text) C (pd used) (qd used) (rd used) expr_kinds unary_more) where
      reads_power : (used : ℕ) → Reads (kind text) C (power text limit room p pc pd used) (power text None wide q qc qd used) (read_power text limit room r rc rd used) prim_kinds unary_more
      unfolding read_power
      reads_power used = reads_sets (kind text) prim_kinds unary_more
          (reads_more (kind text) reads_prim
          (λ base. may_left_out (kind text) (base, used)
          (reads_then (kind text) (reads_open_free (kind text) (is_free limit used) opens (tells_marked (kind text) (mark_kind m.StarStar)))
          (λ o. reads_map (kind text) (λ e. (binary_tree op.Power base e.0 (place_of base), e.1)) (deeper (used + 1))) refl) refl) refl) refl refl refl

      pub reads_unary_at : (used : ℕ) → Reads (kind text) C (unary_at text limit room p pc pd used) (unary_at text None wide q qc qd used) (read_unary_at text limit room r rc rd used) expr_kinds unary_more
      unfolding read_unary_at
      reads_unary_at used = reads_sets (kind text) expr_kinds unary_more
          (reads_either (kind text) (reads_then (kind text) (opens.reads (tells_picked (kind text) unary_operators)) (λ o. reads_map (kind text) (λ e. (unary_tree o.0 e.0 o.1.at, e.1)) (deeper used)) refl)
          (reads_power used) refl) refl refl refl

  -- ---- levels of binary operators

  module _ (limit : Option ℕ) {p q : ℕ → Part Token Counted} {r : ℕ → Reader Token Counted} where
    reads_link : (rows : Rows) {M : List ℕ} → ((used : ℕ) → Reads (kind text) C (p used) (q used) (r used) expr_kinds M) → (used : ℕ) → Reads (kind text) C (link text limit rows p used) (link text None rows q used) (read_link text limit rows r used) (kinds_of rows) M
    reads_link rows f used = reads_then (kind text) (reads_free (kind text) (is_free limit used) (tells_picked (kind text) rows)) (λ o. reads_map (kind text) (λ e. record { op = o.0; right = e.0; used = e.1 }) (f (used + 1))) refl

    reads_level : (rows : Rows) (M : List ℕ) → disjoint M (kinds_of rows) ≡ true → ((used : ℕ) → Reads (kind text) C (p used) (q used) (r used) expr_kinds M) → (used : ℕ) → Reads (kind text) C (level text limit rows p used) (level text None rows q used) (read_level text limit rows r used) expr_kinds (kinds_of rows ++ M)
    unfolding read_level
    reads_level rows M apart f used = reads_wider (kind text) (kinds_of rows ++ M)
        (reads_more (kind text) (f used) (λ first. may_map (kind text) (join first) (may_many (kind text) (λ s l. l.used) (reads_link rows f) apart first.1)) apart)
        (λ k h. elim (has_either M (kinds_of rows ++ M) k h) [ inl a ↦ has_back (kinds_of rows) M k a | inr b ↦ b ])

  module _ (limit : Option ℕ) {p q : ℕ → Part Token Counted} {r : ℕ → Reader Token Counted} (f : (used : ℕ) → Reads (kind text) C (p used) (q used) (r used) expr_kinds unary_more) where
    reads_binary : (table : List Rows) → fit table ≡ true → (used : ℕ) → Reads (kind text) C (binary text limit table p used) (binary text None table q used) (read_binary text limit table r used) expr_kinds (level_more table)
    reads_binary [] e used = f used
    reads_binary (rows ∷ tighter) e used =
        let both = both_true (disjoint (level_more tighter) (kinds_of rows)) (fit tighter) e in
        reads_level limit rows (level_more tighter) both.0 (λ u. reads_binary tighter both.1 u) used

    pub reads_expr_of : Reads (kind text) C (expr_of text limit p) (expr_of text None q) (read_expr_of text limit r) expr_kinds expr_more
    reads_expr_of = reads_map (kind text) (λ e. e.0) (reads_binary operators refl 0)
