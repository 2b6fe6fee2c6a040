-- Statements by the room that is left, and bodies one level deeper.
use Rattle.std.proofs.Common.{◌≡◌, ℕ, zero, suc, ◌-◌, ◌<◌, ◌^◌, Bool, true, false, ◌||◌, cond, List, [], ◌∷◌, length, Some, None, Ok, Err, refl, sym, ap, subst, ◌∙◌, arith}
use Rattle.std.specs.Prelude.{◌==◌}
use Rattle.qasm_lexer.specs.declared.token.Token.{Token}
use Rattle.qasm_lexer.specs.declared.token.Keyword.TheVariants as k
use Rattle.qasm_lexer.specs.declared.token.Mark.TheVariants as m
use Rattle.qasm_ast.specs.declared.stmt.StmtId.{StmtId}
use Rattle.qq_base.specs.declared.refusal.Span.{Span}
use Rattle.qasm_ast.specs.Tree.{Tree, Statement, Statements, a_statement, no_statement, statements_at}
use Rattle.qasm_ast.specs.Whole.{AllOf, IsStmt, IsGateMember}
use Rattle.grammar_parts.specs.Reading.{Outcome, Refusal, Reader, syntax, deep, and_then, take_never, take_repeated, heads}
use Rattle.grammar_parts.specs.Kinds.{has, marked, by, is_some}
use Rattle.qasm_expr.specs.TokenKinds.{mark_kind, kind}
use Rattle.qasm_expr.specs.Reader.{begins, read_opener}
use Rattle.qasm_grammar.specs.Parts as p
use Rattle.qasm_grammar.specs.Reader.{word_kinds, symbol_kinds, stmt_kinds, member_kinds, read_braced, read_block_of, read_body_of, read_member, read_gate_body, read_symbol, read_keyword, read_behind_body, read_stmt, read_stmt_at}
use Rattle.qasm_grammar.specs.Grammar.{without_else, with_else}
use Rattle.qasm_stmt.specs.declared.arena.Arena.{Arena}
use Rattle.qasm_stmt.specs.Seen.{Each, IsStatement, IsStatements, IsMember, tree, stmt, deeper_block, deeper_body}
use Rattle.qasm_stmt.proofs.Growing.{each_all}

-- ---- by the room

-- what is one level deeper, where there is room for a level
one_deeper : {A : Type 0} (f g : ℕ → A) → ((n : ℕ) → f (suc n) ≡ g n) → (room : ℕ) → 0 < room → f room ≡ g (room - 1)
one_deeper f g e zero lt = absurd (omega arith)
one_deeper f g e (suc n) lt = let less : suc n - 1 ≡ n = omega arith in e n ∙ ap g (sym less)

same_refusal : (x y : Refusal Token) → ◌≡◌ {A = Outcome Token Token} (Err x) (Err y) → x ≡ y
same_refusal x y e = cc

module _ (text : List ℕ) where
  pub stmt_open : (room : ℕ) (ts : List Token) → read_stmt text (Some 64) room ts ≡ read_stmt_at text (Some 64) room (deeper_block text room) (deeper_body text room) ts
  unfolding read_stmt
  stmt_open zero ts = refl
  stmt_open (suc room) ts = refl

  never_by : {A : Type 0} (t : Token) (ts : List Token) (b : Bool) (x : Refusal Token) → cond {A = Outcome Token Token} (is_some (cond b (Some t) None)) (Err (deep (t ∷ ts))) (Err (syntax (t ∷ ts))) ≡ Err x → cond {A = Outcome Token A} (b || false) (Err (deep (t ∷ ts))) (Err (syntax (t ∷ ts))) ≡ Err x
  never_by t ts true x h = ap Err (same_refusal (deep (t ∷ ts)) x h)
  never_by t ts false x h = ap Err (same_refusal (syntax (t ∷ ts)) x h)

  -- a part that this kind of token begins, where there is no room
  never_kind : {A : Type 0} (k : ℕ) (ts : List Token) (x : Refusal Token) → take_never {A = Token} (by (marked (kind text) k)) ts ≡ Err x → take_never {A = A} (begins text (k ∷ [])) ts ≡ Err x
  never_kind k [] x h = ap Err (same_refusal (syntax []) x h)
  never_kind k (t ∷ ts) x h = never_by t ts (kind text t == k) x h

  -- ---- statements in braces

  module _ {A : Type 0} (set : List ℕ) (listed : List A → Statements) (item : Reader Token A) where
    -- what is read behind the brace that opens
    abbrev pub behind_brace : Reader Token p.Block
    behind_brace ts = and_then (take_repeated (begins text set) item ts) (λ ss more. and_then (read_symbol text m.RightBrace more) (λ c end. Ok (record { statements = listed ss; close = c.at }, end)))

    braced_inside : (room : ℕ) (ts rest : List Token) (o : Token) → 0 < room → read_opener text room (mark_kind m.LeftBrace) ts ≡ Ok (o, rest) → read_braced text set listed item ts ≡ behind_brace rest
    unfolding read_braced
    braced_inside zero ts rest o lt h = absurd (omega arith)
    braced_inside (suc room) ts rest o lt h = rw h refl

  pub block_shut : (room : ℕ) (ts : List Token) (x : Refusal Token) → read_opener text room (mark_kind m.LeftBrace) ts ≡ Err x → deeper_block text room ts ≡ Err x
  unfolding read_braced
  block_shut zero ts x h = never_kind (mark_kind m.LeftBrace) ts x h
  block_shut (suc room) ts x h = rw h refl

  pub block_inside : (room : ℕ) (ts rest : List Token) (o : Token) → 0 < room → read_opener text room (mark_kind m.LeftBrace) ts ≡ Ok (o, rest) → deeper_block text room ts ≡ behind_brace stmt_kinds p.opened_statements (read_stmt text (Some 64) (room - 1)) rest
  block_inside room ts rest o lt h = ap (λ r. r ts) (one_deeper (deeper_block text) (λ n. read_block_of text (read_stmt text (Some 64) n)) (λ n. refl) room lt) ∙ braced_inside stmt_kinds p.opened_statements (read_stmt text (Some 64) (room - 1)) room ts rest o lt h

  pub gate_body_shut : (room : ℕ) (ts : List Token) (x : Refusal Token) → read_opener text room (mark_kind m.LeftBrace) ts ≡ Err x → read_gate_body text (Some 64) room ts ≡ Err x
  unfolding read_braced
  gate_body_shut zero ts x h = never_kind (mark_kind m.LeftBrace) ts x h
  gate_body_shut (suc room) ts x h = rw h refl

  pub gate_body_inside : (room : ℕ) (ts rest : List Token) (o : Token) → 0 < room → read_opener text room (mark_kind m.LeftBrace) ts ≡ Ok (o, rest) → read_gate_body text (Some 64) room ts ≡ behind_brace member_kinds p.statements (read_member text (Some 64) (room - 1)) rest
  gate_body_inside room ts rest o lt h = ap (λ r. r ts) (one_deeper (read_gate_body text (Some 64)) (λ n. read_braced text member_kinds p.statements (read_member text (Some 64) n)) (λ n. refl) room lt) ∙ braced_inside member_kinds p.statements (read_member text (Some 64) (room - 1)) room ts rest o lt h

  -- ---- bodies of control statements

  either_way : (b c : Bool) → (b || false) ≡ true → (b || c) ≡ true
  either_way true c h = refl
  either_way false c h = absurd (cc)

  pub body_braced : (room : ℕ) (ts : List Token) → heads (begins text (symbol_kinds m.LeftBrace)) ts ≡ true → deeper_body text room ts ≡ and_then (deeper_block text room ts) (λ c rest. Ok (record { statements = c.statements; is_open = false; close = Some c.close }, rest))
  unfolding read_body_of
  body_braced zero [] h = absurd (cc)
  body_braced zero (t ∷ ts) h = rw (h, either_way (kind text t == mark_kind m.LeftBrace) (has stmt_kinds (kind text t)) h) refl
  body_braced (suc room) ts h = rw h refl

  pub body_alone : (room : ℕ) (ts : List Token) → 0 < room → heads (begins text (symbol_kinds m.LeftBrace)) ts ≡ false → deeper_body text room ts ≡ and_then (read_stmt text (Some 64) (room - 1) ts) (λ s rest. Ok (record { statements = a_statement s.0 no_statement; is_open = s.1; close = None }, rest))
  unfolding read_body_of
  body_alone room ts lt h = ap (λ r. r ts) (one_deeper (deeper_body text) (λ n. read_body_of text (read_stmt text (Some 64) n)) (λ n. refl) room lt) ∙ rw h refl

  -- ---- behind the first body of an `if`

  module _ (body : Reader Token p.Body) (e : Tree) (place : Span) (c : p.Body) (ts : List Token) where
    pub behind_open : c.is_open ≡ true → read_behind_body text body e place c ts ≡ Ok (without_else e place c, ts)
    unfolding read_behind_body
    behind_open h = rw h refl

    pub behind_alone : c.is_open ≡ false → heads (begins text (word_kinds k.Else)) ts ≡ false → read_behind_body text body e place c ts ≡ Ok (without_else e place c, ts)
    unfolding read_behind_body
    behind_alone h g = rw (h, g) refl

    pub behind_else : (x : Token) (rest : List Token) → c.is_open ≡ false → heads (begins text (word_kinds k.Else)) ts ≡ true → read_keyword text k.Else ts ≡ Ok (x, rest) → read_behind_body text body e place c ts ≡ and_then (body rest) (λ d more. Ok (with_else e place c d, more))
    unfolding read_behind_body
    behind_else x rest h g r = rw (h, g, r) refl

-- ---- lists of statements

module _ (a : Arena) where
  list_seen : {A : Type 0} (R : StmtId → A → Type 0) (shown : A → Statement) (listed : List A → Statements) → ((x : StmtId) (s : A) → R x s → stmt a x.0 ≡ shown s) → listed [] ≡ no_statement → ((s : A) (ss : List A) → listed (s ∷ ss) ≡ a_statement (shown s) (listed ss)) → (xs : List StmtId) (ss : List A) → Each R xs ss → statements_at a.names.keys (tree a) (stmt a) xs ≡ listed ss
  list_seen R shown listed f none more [] [] e = sym none
  list_seen R shown listed f none more (x ∷ xs) (s ∷ ss) e = rw (f x s e.0, list_seen R shown listed f none more xs ss e.1, more s ss) refl
  list_seen R shown listed f none more [] (s ∷ ss) e = absurd e
  list_seen R shown listed f none more (x ∷ xs) [] e = absurd e

  pub opened_list : (xs : List StmtId) (ss : List p.Opened) → length xs < 2 ^ 32 → Each (λ x s. IsStatement a x s.0) xs ss → IsStatements a xs (p.opened_statements ss)
  opened_list xs ss lt e = (
    record { count = lt; each = each_all (λ (x : StmtId) (s : p.Opened). IsStatement a x s.0) (IsStmt (length a.stmts.items)) (λ x s h. h.0) xs ss e },
    list_seen (λ x s. IsStatement a x s.0) (λ s. s.0) p.opened_statements (λ x s h. h.1) refl (λ s ss. refl) xs ss e,
  )

  pub one_statement : (xs : List StmtId) (x : StmtId) (s : Statement) → xs ≡ x ∷ [] → IsStatement a x s → IsStatements a xs (p.opened_statements ((s, false) ∷ []))
  one_statement xs x s e h = subst (λ l. IsStatements a l (p.opened_statements ((s, false) ∷ []))) (sym e) (opened_list (x ∷ []) ((s, false) ∷ []) (omega arith) (h, tt))

  pub member_list : (xs : List StmtId) (ss : List Statement) → length xs < 2 ^ 32 → Each (IsMember a) xs ss → AllOf (IsGateMember a.stmts.items (length a.stmts.items)) xs × (statements_at a.names.keys (tree a) (stmt a) xs ≡ p.statements ss)
  member_list xs ss lt e = (
    record { count = lt; each = each_all (IsMember a) (IsGateMember a.stmts.items (length a.stmts.items)) (λ x s h. h.0) xs ss e },
    list_seen (IsMember a) (λ s. s) p.statements (λ x s h. h.1) refl (λ s ss. refl) xs ss e,
  )
