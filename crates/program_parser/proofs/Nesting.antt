-- Statements by the room that is left, and bodies one level deeper.
use Rattle.std.proofs.Common.{◌≡◌, ℕ, zero, suc, Bool, true, false, ◌||◌, cond, List, [], ◌∷◌, Some, None, Ok, Err, refl, sym, ap, ◌∙◌, arith}
use Rattle.std.specs.Prelude.{◌==◌}
use Rattle.qq_base.specs.declared.refusal.Span.{Span}
use Rattle.qasm_lexer.specs.declared.token.Token.{Token}
use Rattle.qasm_lexer.specs.declared.token.Keyword.TheVariants as k
use Rattle.qasm_lexer.specs.declared.token.Mark.TheVariants as m
use Rattle.qasm_ast.specs.Tree.{Tree, Statements, a_statement, no_statement}
use Rattle.grammar_parts.specs.Reading.{Outcome, Refusal, Reader, syntax, deep, and_then, take_never, take_repeated, heads}
use Rattle.grammar_parts.specs.Kinds.{has, marked, by, is_some}
use Rattle.qasm_expr.specs.TokenKinds.{mark_kind, kind}
use Rattle.qasm_expr.specs.Reader.{begins, read_opener}
use Rattle.qasm_grammar.specs.Parts as p
use Rattle.qasm_grammar.specs.Reader.{word_kinds, symbol_kinds, stmt_kinds, member_kinds, read_braced, read_body_of, read_member, read_gate_body, read_symbol, read_keyword, read_behind_body, read_stmt, read_stmt_at}
use Rattle.qasm_grammar.specs.Grammar.{without_else, with_else}
use Rattle.program_parser.specs.Nesting.{deeper_block, deeper_body}

same_refusal : (x y : Refusal Token) → ◌≡◌ {A = Outcome Token Token} (Err x) (Err y) → x ≡ y
same_refusal x y e = cc

module _ (text : List ℕ) where
  pub stmt_open : (room : ℕ) (ts : List Token) → read_stmt text (Some 64) room ts ≡ read_stmt_at text (Some 64) room (deeper_block text room) (deeper_body text room) ts
  unfolding read_stmt
  stmt_open zero ts = refl
  stmt_open (suc room) ts = refl

  never_by : {A : Type 0} (t : Token) (ts : List Token) (b : Bool) (x : Refusal Token) → cond {A = Outcome Token Token} (is_some (cond b (Some t) None)) (Err (deep (t ∷ ts))) (Err (syntax (t ∷ ts))) ≡ Err x → cond {A = Outcome Token A} (b || false) (Err (deep (t ∷ ts))) (Err (syntax (t ∷ ts))) ≡ Err x
  never_by t ts true x h = ap Err (same_refusal (deep (t ∷ ts)) x h)
  never_by t ts false x h = ap Err (same_refusal (syntax (t ∷ ts)) x h)

  -- a part that this kind of token begins, where there is no room
  never_kind : {A : Type 0} (k : ℕ) (ts : List Token) (x : Refusal Token) → take_never {A = Token} (by (marked (kind text) k)) ts ≡ Err x → take_never {A = A} (begins text (k ∷ [])) ts ≡ Err x
  never_kind k [] x h = ap Err (same_refusal (syntax []) x h)
  never_kind k (t ∷ ts) x h = never_by t ts (kind text t == k) x h

  -- ---- statements in braces

  -- what is read behind the brace that opens
  abbrev pub behind_brace : {A : Type 0} → List ℕ → (List A → Statements) → Reader Token A → Reader Token p.Block
  behind_brace set listed item ts = and_then (take_repeated (begins text set) item ts) (λ ss more. and_then (read_symbol text m.RightBrace more) (λ c end. Ok (record { statements = listed ss; close = c.at }, end)))

  pub block_shut : (room : ℕ) (ts : List Token) (x : Refusal Token) → read_opener text room (mark_kind m.LeftBrace) ts ≡ Err x → deeper_block text room ts ≡ Err x
  unfolding read_braced
  block_shut zero ts x h = never_kind (mark_kind m.LeftBrace) ts x h
  block_shut (suc room) ts x h = rw h refl

  pub gate_body_shut : (room : ℕ) (ts : List Token) (x : Refusal Token) → read_opener text room (mark_kind m.LeftBrace) ts ≡ Err x → read_gate_body text (Some 64) room ts ≡ Err x
  unfolding read_braced
  gate_body_shut zero ts x h = never_kind (mark_kind m.LeftBrace) ts x h
  gate_body_shut (suc room) ts x h = rw h refl

  module _ (room inner : ℕ) (ts rest : List Token) (o : Token) (is : room ≡ suc inner) (h : read_opener text room (mark_kind m.LeftBrace) ts ≡ Ok (o, rest)) where
    opened : read_opener text (suc inner) (mark_kind m.LeftBrace) ts ≡ Ok (o, rest)
    opened = ap (λ n. read_opener text n (mark_kind m.LeftBrace) ts) (sym is) ∙ h

    pub block_inside : deeper_block text room ts ≡ behind_brace stmt_kinds p.opened_statements (read_stmt text (Some 64) inner) rest
    unfolding read_braced
    block_inside = ap (λ n. deeper_block text n ts) is ∙ rw opened refl

    pub gate_body_inside : read_gate_body text (Some 64) room ts ≡ behind_brace member_kinds p.statements (read_member text (Some 64) inner) rest
    unfolding read_braced
    gate_body_inside = ap (λ n. read_gate_body text (Some 64) n ts) is ∙ rw opened refl

  -- ---- bodies of control statements

  either_way : (b c : Bool) → (b || false) ≡ true → (b || c) ≡ true
  either_way true c h = refl
  either_way false c h = absurd (cc)

  neither_way : (b c : Bool) → (b || false) ≡ false → (b || c) ≡ c
  neither_way true c h = absurd (cc)
  neither_way false c h = refl

  pub body_braced : (room : ℕ) (ts : List Token) → heads (begins text (symbol_kinds m.LeftBrace)) ts ≡ true → deeper_body text room ts ≡ and_then (deeper_block text room ts) (λ c rest. Ok (record { statements = c.statements; is_open = false; close = Some c.close }, rest))
  unfolding read_body_of
  body_braced zero [] h = absurd (cc)
  body_braced zero (t ∷ ts) h = rw (h, either_way (kind text t == mark_kind m.LeftBrace) (has stmt_kinds (kind text t)) h) refl
  body_braced (suc room) ts h = rw h refl

  -- where there is no room, a body is too deep where a statement begins
  pub body_deep : (room : ℕ) (ts : List Token) → room ≡ 0 → heads (begins text (symbol_kinds m.LeftBrace)) ts ≡ false → heads (begins text stmt_kinds) ts ≡ true → deeper_body text room ts ≡ Err (deep ts)
  body_deep zero [] none h g = absurd (cc)
  body_deep zero (t ∷ ts) none h g = rw (neither_way (kind text t == mark_kind m.LeftBrace) (has stmt_kinds (kind text t)) h, g) refl
  body_deep (suc room) ts none h g = absurd (omega arith)

  pub body_none : (room : ℕ) (ts : List Token) → room ≡ 0 → heads (begins text (symbol_kinds m.LeftBrace)) ts ≡ false → heads (begins text stmt_kinds) ts ≡ false → deeper_body text room ts ≡ Err (syntax ts)
  body_none zero [] none h g = refl
  body_none zero (t ∷ ts) none h g = rw (neither_way (kind text t == mark_kind m.LeftBrace) (has stmt_kinds (kind text t)) h, g) refl
  body_none (suc room) ts none h g = absurd (omega arith)

  pub body_alone : (room inner : ℕ) (ts : List Token) → room ≡ suc inner → heads (begins text (symbol_kinds m.LeftBrace)) ts ≡ false → deeper_body text room ts ≡ and_then (read_stmt text (Some 64) inner ts) (λ s rest. Ok (record { statements = a_statement s.0 no_statement; is_open = s.1; close = None }, rest))
  unfolding read_body_of
  body_alone room inner ts is h = ap (λ n. deeper_body text n ts) is ∙ rw h refl

  -- ---- behind the first body of an `if`

  module _ (body : Reader Token p.Body) (e : Tree) (place : Span) (c : p.Body) (ts : List Token) where
    pub behind_open : c.is_open ≡ true → read_behind_body text body e place c ts ≡ Ok (without_else e place c, ts)
    unfolding read_behind_body
    behind_open h = rw h refl

    pub behind_alone : c.is_open ≡ false → heads (begins text (word_kinds k.Else)) ts ≡ false → read_behind_body text body e place c ts ≡ Ok (without_else e place c, ts)
    unfolding read_behind_body
    behind_alone h g = rw (h, g) refl

    pub behind_else : c.is_open ≡ false → heads (begins text (word_kinds k.Else)) ts ≡ true → read_behind_body text body e place c ts ≡ and_then (read_keyword text k.Else ts) (λ w rest. and_then (body rest) (λ d more. Ok (with_else e place c d, more)))
    unfolding read_behind_body
    behind_else h g = rw (h, g) refl
