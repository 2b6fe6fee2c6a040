-- What a parser keeps, while it takes tokens and its lists grow.
use Rattle.std.proofs.Common.{◌≡◌, ◌⊎◌, inl, inr, ℕ, zero, suc, ◌+◌, ◌<◌, ◌≤◌, ◌^◌, ◌++◌, List, [], ◌∷◌, length, drop, get_or, Some, None, refl, sym, ap, subst, ◌∙◌, ◌≢◌, add-one, drop-cons, length-append, arith}
use Rattle.std.proofs.lemmas.Option.{slice_get-get_or}
use Rattle.qq_base.specs.declared.refusal.Span.{Span}
use Rattle.qasm_lexer.specs.declared.token.Token.{Token}
use Rattle.qasm_ast.specs.declared.expr.Expr.{Expr}
use Rattle.qasm_ast.specs.declared.expr.ExprId.{ExprId}
use Rattle.qasm_ast.specs.declared.expr.ExprKind.{ExprKind}
use Rattle.qasm_ast.specs.declared.expr.ExprKind.TheVariants as e
use Rattle.qasm_ast.specs.declared.stmt.Stmt.{Stmt}
use Rattle.qasm_ast.specs.declared.stmt.StmtId.{StmtId}
use Rattle.qasm_ast.specs.Tree.{tree_of, tree_at, seen_node, place_of, node_of}
use Rattle.qasm_expr.specs.Seen.{Cut}
use Rattle.qasm_parser.specs.declared.parser.Parser.TheInside.{Inside}
use Rattle.qasm_parser.specs.Inside.{state_of, IsReady}
use Rattle.qasm_parser.specs.State.{MayAdd, MayPush, Lasts, Longer, After, Skipped, Added, Pushed, IsSpelled, nodes, first}
use Rattle.qasm_parser.proofs.Growing.{longer_same, longer_name, longer_node, longer_stmt, node_lasts}

-- ---- the next token

pub first_end : (tokens : List Token) (k : ℕ) → k ≡ length tokens → first (drop k tokens) ≡ None
first_end [] zero e = refl
first_end [] (suc k) e = refl
first_end (x ∷ tokens) zero e = absurd (omega arith)
first_end (x ∷ tokens) (suc k) e = first_end tokens k (omega arith)

pub cut_at : (tokens : List Token) (k : ℕ) (d : Token) → k < length tokens → drop k tokens ≡ get_or tokens k d ∷ drop (k + 1) tokens
cut_at tokens k d lt = rw (add-one, drop-cons tokens k d) refl

pub first_at : (tokens : List Token) (k : ℕ) (d : Token) → k < length tokens → first (drop k tokens) ≡ Some (get_or tokens k d)
first_at tokens k d lt = ap first (cut_at tokens k d lt)

pub spelled_at : (text : List ℕ) (tokens : List Token) (k : ℕ) (d : Token) → Cut text tokens → k < length tokens → IsSpelled text (get_or tokens k d)
spelled_at text tokens k d c lt =
    let found = slice_get-get_or tokens k d lt in
    let spans = c.spans k (get_or tokens k d) found in
    record { order = spans.0; within = spans.1; name = λ is. c.name_sizes k (get_or tokens k d) found is; bits = λ bits is. c.bits_sizes k (get_or tokens k d) bits found is }

-- where a token is left, the place is within the list
pub filled_at : (tokens : List Token) (k : ℕ) → first (drop k tokens) ≢ None → k < length tokens
filled_at [] zero some = absurd (some refl)
filled_at [] (suc k) some = absurd (some refl)
filled_at (x ∷ tokens) zero some = omega arith
filled_at (x ∷ tokens) (suc k) some = omega (arith, filled_at tokens k some)

pub filled_by : (tokens : List Token) (k : ℕ) (x : Token) → first (drop k tokens) ≡ Some x → k < length tokens
filled_by tokens k x e = filled_at tokens k (λ none. let no : Some x ≡ None = sym e ∙ none in absurd (cc))

-- and the tokens that are left begin with the one at the place
pub cut_some : (tokens : List Token) (k : ℕ) → k < length tokens → (x : Token) × (drop k tokens ≡ x ∷ drop (k + 1) tokens)
cut_some [] k lt = absurd (omega arith)
cut_some (x ∷ tokens) zero lt = (x, refl)
cut_some (x ∷ tokens) (suc k) lt =
    let r = cut_some tokens k (omega arith) in
    let e : suc k + 1 ≡ suc (k + 1) = omega arith in
    (r.0, r.1 ∙ ap (λ n. r.0 ∷ drop n (x ∷ tokens)) (sym e))

pub cut_first : (tokens : List Token) (k : ℕ) (x : Token) → first (drop k tokens) ≡ Some x → drop k tokens ≡ x ∷ drop (k + 1) tokens
cut_first tokens k x e =
    let r = cut_some tokens k (filled_by tokens k x e) in
    let some : Some r.0 ≡ Some x = sym (ap first r.1) ∙ e in
    let same : r.0 ≡ x = cc in
    r.1 ∙ ap (λ z. z ∷ drop (k + 1) tokens) same

-- ---- the same text and tokens

module _ (p q : Inside) (r : IsReady p) (text : q.text.now ≡ p.text.now) (tokens : q.tokens.now ≡ p.tokens.now) where
  ready_by : q.at ≤ length q.tokens.now → length q.names.keys + length (drop q.at q.tokens.now) < 2 ^ 32 → nodes (state_of q) + length (drop q.at q.tokens.now) < 2 ^ 32 → IsReady q
  ready_by within names nodes = record { cut = subst (λ t. Cut t q.tokens.now) (sym text) (subst (λ ts. Cut p.text.now ts) (sym tokens) r.cut); within = within; room_for_names = names; room_for_nodes = nodes }

-- ---- a token is taken

module _ (p q : Inside) (r : IsReady p) (text : q.text.now ≡ p.text.now) (tokens : q.tokens.now ≡ p.tokens.now) (at' : q.at ≡ p.at + 1) (stmts : q.stmts.items ≡ p.stmts.items) (exprs : q.exprs.items ≡ p.exprs.items) (lt : p.at < length p.tokens.now) where
  pub taken_here : (x : Token) × (drop p.at p.tokens.now ≡ x ∷ drop q.at q.tokens.now)
  taken_here =
      let r = cut_some p.tokens.now p.at lt in
      (r.0, r.1 ∙ ap (λ k. r.0 ∷ drop k p.tokens.now) (sym at') ∙ ap (λ ts. r.0 ∷ drop q.at ts) (sym tokens))

  -- and a name may be new
  module _ (word : List ℕ) (size : length word ≤ 4096) (kept : (q.names.keys ≡ p.names.keys) ⊎ (q.names.keys ≡ p.names.keys ++ word ∷ [])) where
    few : length q.names.keys ≤ length p.names.keys + 1
    few = elim kept [ inl h ↦ omega (arith, ap length h) | inr h ↦ omega (arith, ap length h, length-append p.names.keys (word ∷ [])) ]

    longer : Longer (state_of p) (state_of q)
    longer = elim kept [ inl h ↦ longer_same (state_of p) (state_of q) tokens stmts h exprs | inr h ↦ longer_name (state_of p) (state_of q) tokens stmts word size h exprs ]

    shorter : length (drop p.at p.tokens.now) ≡ suc (length (drop q.at q.tokens.now))
    unfolding taken_here
    shorter = ap length taken_here.1

    pub named_ready : IsReady q
    named_ready = ready_by p q r text tokens (omega (arith, at', ap length tokens, lt)) (omega (arith, few, shorter, r.room_for_names)) (omega (arith, ap length exprs, ap length stmts, shorter, r.room_for_nodes))

    pub named_after : After 1 0 (state_of p) (state_of q)
    named_after = record {
      text = text;
      longer = longer;
      few_names = omega (arith, few, shorter);
      few_nodes = omega (arith, ap length exprs, ap length stmts, shorter);
      room = λ one. omega (arith, ap length exprs, ap length stmts, shorter, r.room_for_nodes);
    }

  pub taken_ready : q.names.keys ≡ p.names.keys → IsReady q
  taken_ready names = named_ready [] (omega arith) (inl names)

  pub skipped : q.names.keys ≡ p.names.keys → Skipped (state_of p) (state_of q)
  unfolding taken_here
  skipped names = record { token = taken_here.0; here = taken_here.1; after = named_after [] (omega arith) (inl names) }

-- ---- a node is added

module _ (p q : Inside) (r : IsReady p) (text : q.text.now ≡ p.text.now) (tokens : q.tokens.now ≡ p.tokens.now) (at' : q.at ≡ p.at) (stmts : q.stmts.items ≡ p.stmts.items) (names : q.names.keys ≡ p.names.keys) (kind : ExprKind) (place : Span) (exprs : q.exprs.items ≡ p.exprs.items ++ record { kind = kind; at = place } ∷ []) (fits : MayAdd (state_of p) kind) (room : nodes (state_of p) + length (drop p.at p.tokens.now) + 1 < 2 ^ 32) where
  one_more : length q.exprs.items ≡ length p.exprs.items + 1
  one_more = ap length exprs ∙ length-append p.exprs.items (record { kind = kind; at = place } ∷ [])

  left_same : drop q.at q.tokens.now ≡ drop p.at p.tokens.now
  left_same = ap (λ k. drop k q.tokens.now) at' ∙ ap (drop p.at) tokens

  pub added_ready : IsReady q
  added_ready = ready_by p q r text tokens (omega (arith, at', ap length tokens, r.within)) (omega (arith, ap length names, ap length left_same, r.room_for_names)) (omega (arith, one_more, ap length stmts, ap length left_same, room))

  pub added_node : (id : ExprId) → id.0 ≡ length p.exprs.items → Added kind place (state_of p) (state_of q) id
  added_node id is = record {
    is_new = omega (arith, is, one_more);
    shown = λ t l. subst (λ k. Lasts (state_of q) (λ names sub. sub k ≡ t)) (sym is) (node_lasts (state_of p) (state_of q) kind place names exprs t l);
    left = left_same;
    after = record {
      text = text;
      longer = longer_node (state_of p) (state_of q) tokens stmts (record { kind = kind; at = place }) names exprs fits;
      few_names = omega (arith, ap length names, ap length left_same);
      few_nodes = omega (arith, one_more, ap length stmts, ap length left_same);
      room = λ none. absurd (omega arith);
    };
  }

-- ---- a statement is added

module _ (p q : Inside) (r : IsReady p) (text : q.text.now ≡ p.text.now) (tokens : q.tokens.now ≡ p.tokens.now) (at' : q.at ≡ p.at) (names : q.names.keys ≡ p.names.keys) (exprs : q.exprs.items ≡ p.exprs.items) (stmt : Stmt) (stmts : q.stmts.items ≡ p.stmts.items ++ stmt ∷ []) (fits : MayPush (state_of p) stmt.kind) (room : nodes (state_of p) + length (drop p.at p.tokens.now) + 1 < 2 ^ 32) where
  longer_by_one : length q.stmts.items ≡ length p.stmts.items + 1
  longer_by_one = ap length stmts ∙ length-append p.stmts.items (stmt ∷ [])

  left_as_before : drop q.at q.tokens.now ≡ drop p.at p.tokens.now
  left_as_before = ap (λ k. drop k q.tokens.now) at' ∙ ap (drop p.at) tokens

  pub pushed_ready : IsReady q
  pushed_ready = ready_by p q r text tokens (omega (arith, at', ap length tokens, r.within)) (omega (arith, ap length names, ap length left_as_before, r.room_for_names)) (omega (arith, longer_by_one, ap length exprs, ap length left_as_before, room))

  pub pushed_stmt : (id : StmtId) → id.0 ≡ length p.stmts.items → Pushed stmt (state_of p) (state_of q) id
  pushed_stmt id is = record {
    number = is;
    names = names;
    exprs = exprs;
    stmts = stmts;
    left = left_as_before;
    after = record {
      text = text;
      longer = longer_stmt (state_of p) (state_of q) stmt tokens names exprs stmts fits;
      few_names = omega (arith, ap length names, ap length left_as_before);
      few_nodes = omega (arith, longer_by_one, ap length exprs, ap length left_as_before);
      room = λ none. absurd (omega arith);
    };
  }

-- ---- the place of a node

pub place_of_node : (names : List (List ℕ)) (exprs : List Expr) (k : ℕ) (d : Expr) → k < length exprs → (get_or exprs k d).at ≡ place_of (tree_of names exprs k)
unfolding tree_of
place_of_node names exprs k d lt = by_kind (get_or exprs k d).kind (get_or exprs k d).at ∙ ap (λ o. place_of (seen_node names (tree_at names exprs k) o)) (sym (slice_get-get_or exprs k d lt))
  where
    by_kind : (kind : ExprKind) (place : Span) → place ≡ place_of (node_of names (tree_at names exprs k) kind place)
    by_kind (e.Name x) place = refl
    by_kind (e.Hardware n) place = refl
    by_kind (e.Whole n) place = refl
    by_kind (e.Truth b) place = refl
    by_kind (e.Bits bs) place = refl
    by_kind (e.Unary op a) place = refl
    by_kind (e.Binary op a b) place = refl
    by_kind (e.Cast type a) place = refl
    by_kind (e.Call n ids) place = refl
