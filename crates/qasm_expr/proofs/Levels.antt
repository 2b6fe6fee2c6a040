-- The expression at each depth is read exactly, against each grammar without limits that has room enough.
use Rattle.std.proofs.Common.{◌≡◌, inl, inr, ℕ, zero, suc, ◌≤◌, List, [], ◌∷◌, ◌++◌, Option, None, le_refl, arith, Ok, length, length-append, ap, subst, ◌<◌}
use Rattle.qasm_lexer.specs.declared.token.Token.{Token}
use Rattle.qasm_lexer.specs.declared.token.Mark.TheVariants as m
use Rattle.qasm_ast.specs.Tree.{Tree, Bracket}
use Rattle.grammar_parts.specs.Part.{Part, never, one}
use Rattle.grammar_parts.specs.Reading.{Reader, take_never, Answers}
use Rattle.grammar_parts.specs.Kinds.{Among, kinds_of}
use Rattle.grammar_parts.specs.Exact.{Exactly}
use Rattle.grammar_parts.proofs.Sets.{Tells, tells_marked, tells_picked, has_either}
use Rattle.grammar_parts.proofs.Productions.{Reads, one_hit, reads_never, reads_nowhere, opens_none, opens_some, opens_self}
use Rattle.grammar_parts.proofs.Exactness.{exactly}
use Rattle.qasm_expr.specs.TokenKinds.{mark_kind, kind}
use Rattle.qasm_expr.specs.Grammar.{Rows, operators, unary_operators, plain_types, sized_types, Counted, type, content, prim, unary_at, binary, unary, expr}
use Rattle.qasm_expr.specs.Reader.{literal_kinds, type_kinds, prim_kinds, expr_kinds, content_kinds, begins, read_content, read_unary, read_expr}
use Rattle.qasm_expr.proofs.Tokens.{tells_literal, tells_name}
use Rattle.qasm_expr.proofs.Exprs.{expr_more, unary_more, colon_more, reads_content, reads_unary_at, reads_expr_of}

module _ (text : List ℕ) where
  -- ---- the grammar without limits, against itself

  nowhere : {A : Type 0} {r : Reader Token A} (F M : List ℕ) → Reads (kind text) ⊥ never never r F M
  nowhere F M = reads_nowhere (kind text) F M

  pub itself : (room used : ℕ) → Reads (kind text) ⊥ (unary text None room used) (unary text None room used) (read_unary text None room used) expr_kinds unary_more
  unfolding unary read_unary
  itself zero used = reads_unary_at text (nowhere expr_kinds expr_more) (nowhere content_kinds colon_more) (opens_self (kind text) zero) None (λ u. nowhere expr_kinds unary_more) used
  itself (suc zero) used =
      reads_unary_at text (reads_expr_of text None (itself zero)) (reads_content text (reads_expr_of text None (itself zero)) (nowhere expr_kinds expr_more) (opens_self (kind text) zero)) (opens_self (kind text) (suc zero)) None (itself zero) used
  itself (suc (suc room)) used =
      reads_unary_at text (reads_expr_of text None (itself (suc room))) (reads_content text (reads_expr_of text None (itself (suc room))) (reads_expr_of text None (itself room)) (opens_self (kind text) (suc room))) (opens_self (kind text) (suc (suc room))) None (itself (suc room)) used

  pub expr_itself : (room : ℕ) → Reads (kind text) ⊥ (expr text None room) (expr text None room) (read_expr text None room) expr_kinds expr_more
  expr_itself room = reads_expr_of text None (itself room)

  -- ---- each token of the kinds begins an operand, where there is room for a level

  hit : {A : Type 0} {test : Token → Option A} {F : List ℕ} → Tells (kind text) test F → (x : Token) → Among (kind text) F x → (one test).begins (x ∷ [])
  hit {test = test} tells x h = one_hit (kind text) test x (tells.complete x h)

  type_hit : (room : ℕ) (p : Part Token Tree) (x : Token) → Among (kind text) type_kinds x → (type text room p).begins (x ∷ [])
  type_hit room p x h = elim (has_either (kinds_of plain_types) (kinds_of sized_types) (kind text x) h) [
    | inl a ↦ inl (inl (hit (tells_picked (kind text) plain_types) x a))
    | inr a ↦ inr (inl (hit (tells_picked (kind text) sized_types) x a))
  ]

  prim_hit : (room : ℕ) (p : Part Token Tree) (c : Part Token Bracket) (x : Token) → Among (kind text) prim_kinds x → (prim text (suc room) p c).begins (x ∷ [])
  prim_hit room p c x h = elim (has_either literal_kinds ((mark_kind m.LeftParen ∷ []) ++ (type_kinds ++ (1 ∷ []))) (kind text x) h) [
    | inl a ↦ inl (hit (tells_literal text) x a)
    | inr a ↦ elim (has_either (mark_kind m.LeftParen ∷ []) (type_kinds ++ (1 ∷ [])) (kind text x) a) [
      | inl d ↦ inr (inl (inl (hit (tells_marked (kind text) (mark_kind m.LeftParen)) x d)))
      | inr d ↦ elim (has_either type_kinds (1 ∷ []) (kind text x) d) [
        | inl g ↦ inr (inr (inl (inl (type_hit (suc room) p x g))))
        | inr g ↦ inr (inr (inr (inl (hit (tells_name text) x g))))
      ]
    ]
  ]

  unary_hit : (room used : ℕ) (p : Part Token Tree) (c : Part Token Bracket) (d : ℕ → Part Token Counted) (x : Token) → Among (kind text) expr_kinds x → (unary_at text None (suc room) p c d used).begins (x ∷ [])
  unary_hit room used p c d x h = elim (has_either (kinds_of unary_operators) prim_kinds (kind text x) h) [
    | inl a ↦ inl (inl (hit (tells_picked (kind text) unary_operators) x a))
    | inr a ↦ inr (inl (prim_hit room p c x a))
  ]

  begins_unary : (room used : ℕ) (x : Token) → Among (kind text) expr_kinds x → (unary text None (suc room) used).begins (x ∷ [])
  unfolding unary
  begins_unary zero used x h = unary_hit zero used (expr text None zero) (content text zero (expr text None zero) never) (unary text None zero) x h
  begins_unary (suc room) used x h = unary_hit (suc room) used (expr text None (suc room)) (content text (suc room) (expr text None (suc room)) (expr text None room)) (unary text None (suc room)) x h

  begins_binary : (table : List Rows) (item : ℕ → Part Token Counted) (used : ℕ) (x : Token) → (item used).begins (x ∷ []) → (binary text None table item used).begins (x ∷ [])
  begins_binary [] item used x b = b
  begins_binary (rows ∷ tighter) item used x b = inl (begins_binary tighter item used x b)

  begins_expr : (room : ℕ) (x : Token) → Among (kind text) expr_kinds x → (expr text None (suc room)).begins (x ∷ [])
  begins_expr room x h = inl (begins_binary operators (unary text None (suc room)) 0 x (begins_unary room 0 x h))

  begins_content : (room : ℕ) (x : Token) → Among (kind text) content_kinds x → (content text (suc room) (expr text None (suc room)) (expr text None room)).begins (x ∷ [])
  begins_content room x h = elim (has_either (mark_kind m.LeftBrace ∷ []) ((mark_kind m.Colon ∷ []) ++ expr_kinds) (kind text x) h) [
    | inl a ↦ inl (inl (hit (tells_marked (kind text) (mark_kind m.LeftBrace)) x a))
    | inr a ↦ elim (has_either (mark_kind m.Colon ∷ []) expr_kinds (kind text x) a) [
      | inl d ↦ inr (inl (inl (hit (tells_marked (kind text) (mark_kind m.Colon)) x d)))
      | inr d ↦ inr (inr (inl (begins_expr room x d)))
    ]
  ]

  -- ---- the limited grammar, against a wide one with room for three levels more

  -- where no level is left
  shut_unary : (wide used : ℕ) → Reads (kind text) (Unit {0}) never (unary text None (suc wide) used) (take_never (begins text expr_kinds)) expr_kinds unary_more
  shut_unary wide used = reads_never (kind text) (itself (suc wide) used) (begins_unary wide used)

  pub shut_expr : (wide : ℕ) → Reads (kind text) (Unit {0}) never (expr text None (suc wide)) (take_never (begins text expr_kinds)) expr_kinds expr_more
  shut_expr wide = reads_never (kind text) (expr_itself (suc wide)) (begins_expr wide)

  pub shut_content : (wide : ℕ) → Reads (kind text) (Unit {0}) never (content text (suc wide) (expr text None (suc wide)) (expr text None wide)) (take_never (begins text content_kinds)) content_kinds colon_more
  shut_content wide =
      let h : Reads (kind text) ⊥ (content text (suc wide) (expr text None (suc wide)) (expr text None wide)) (content text (suc wide) (expr text None (suc wide)) (expr text None wide)) (read_content text (suc wide) (read_expr text None (suc wide)) (read_expr text None wide)) content_kinds colon_more = reads_content text (expr_itself (suc wide)) (expr_itself wide) (opens_self (kind text) (suc wide)) in
      reads_never (kind text) h (begins_content wide)

  pub reads_unary : (limit : Option ℕ) (room wide : ℕ) → suc (suc (suc room)) ≤ wide → (used : ℕ) → Reads (kind text) (Unit {0}) (unary text limit room used) (unary text None wide used) (read_unary text limit room used) expr_kinds unary_more
  unfolding unary read_unary
  reads_unary limit room zero le used = absurd (omega arith)
  reads_unary limit room (suc zero) le used = absurd (omega arith)
  reads_unary limit room (suc (suc zero)) le used = absurd (omega arith)
  reads_unary limit zero (suc (suc (suc wide))) le used =
      reads_unary_at text (shut_expr (suc wide)) (shut_content (suc wide)) (opens_none (kind text) (suc (suc wide))) limit (shut_unary (suc wide)) used
  reads_unary limit (suc zero) (suc (suc (suc wide))) le used =
      reads_unary_at text (reads_expr_of text limit (reads_unary limit zero (suc (suc wide)) (omega arith)))
      (reads_content text (reads_expr_of text limit (reads_unary limit zero (suc (suc wide)) (omega arith))) (shut_expr wide) (opens_none (kind text) (suc wide)))
      (opens_some (kind text) zero (suc (suc wide))) limit (reads_unary limit zero (suc (suc wide)) (omega arith)) used
  reads_unary limit (suc (suc room)) (suc (suc (suc wide))) le used =
      reads_unary_at text (reads_expr_of text limit (reads_unary limit (suc room) (suc (suc wide)) (omega arith)))
      (reads_content text (reads_expr_of text limit (reads_unary limit (suc room) (suc (suc wide)) (omega arith))) (reads_expr_of text limit (reads_unary limit room (suc wide) (omega arith))) (opens_some (kind text) room (suc wide)))
      (opens_some (kind text) (suc room) (suc (suc wide))) limit (reads_unary limit (suc room) (suc (suc wide)) (omega arith)) used

  pub reads_expr : (limit : Option ℕ) (room wide : ℕ) → suc (suc (suc room)) ≤ wide → Reads (kind text) (Unit {0}) (expr text limit room) (expr text None wide) (read_expr text limit room) expr_kinds expr_more
  reads_expr limit room wide le = reads_expr_of text limit (reads_unary limit room wide le)

  -- ---- what follows

  pub expr_exactly : (limit : Option ℕ) (room : ℕ) (ts : List Token) → Exactly (expr text limit room) (expr text None) ts (read_expr text limit room ts)
  expr_exactly limit room ts = exactly (expr text limit room) (expr text None) room
      (λ a b le. (reads_expr None a b le).follows.below) (λ w le. (reads_expr limit room w le).follows.below) ts (read_expr text limit room ts)
      (λ w le. ((reads_expr limit room w le).follows.takes tt ts).holds)

  -- at most one tree is derived
  pub expr_single : (limit : Option ℕ) (room : ℕ) (ts : List Token) (a c : Tree) → (expr text limit room).derives ts a → (expr text limit room).derives ts c → a ≡ c
  expr_single limit room = (reads_expr limit room (suc (suc (suc room))) (le_refl _)).follows.fine.single

  -- An expression takes a token at least.
  pub expr_moves : (limit : Option ℕ) (room : ℕ) (ts : List Token) (a : Tree) (rest : List Token) → read_expr text limit room ts ≡ Ok (a, rest) → length rest < length ts
  expr_moves limit room ts a rest h = moves (subst (λ o. Answers (expr text limit room) (expr text None (suc (suc (suc room)))) ts o) h (known.follows.takes tt ts).holds)
    where
      known : Reads (kind text) (Unit {0}) (expr text limit room) (expr text None (suc (suc (suc room)))) (read_expr text limit room) expr_kinds expr_more
      known = reads_expr limit room (suc (suc (suc room))) (le_refl _)

      longer : (xs : List Token) → ts ≡ xs ++ rest → (expr text limit room).derives xs a → length rest < length ts
      longer [] k d = absurd (known.filled.never_empty a (known.follows.below.derived [] a d))
      longer (x ∷ xs) k d = omega (arith, ap length k, length-append xs rest)

      moves : Answers (expr text limit room) (expr text None (suc (suc (suc room)))) ts (Ok (a, rest)) → length rest < length ts
      moves (xs, k, d, stops) = longer xs k d
