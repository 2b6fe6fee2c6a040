-- The lists of a parser grow, and what is seen through them stays.
use Rattle.std.proofs.Common.{◌≡◌, ◌⊎◌, inl, inr, ℕ, zero, suc, ◌<◌, ◌≤◌, ◌+◌, ◌^◌, ◌++◌, List, [], ◌∷◌, length, Some, slice_get, refl, sym, ap, subst, ◌∙◌, append-nil, append_assoc, length-append, arith}
use Rattle.qq_base.specs.declared.refusal.Span.{Span}
use Rattle.qasm_lexer.specs.declared.token.Token.{Token}
use Rattle.qasm_ast.specs.declared.expr.Expr.{Expr}
use Rattle.qasm_ast.specs.declared.expr.ExprKind.{ExprKind}
use Rattle.qasm_ast.specs.declared.stmt.Stmt.{Stmt}
use Rattle.qasm_ast.specs.Tree.{Tree, text_at, tree_of, tree_at, node_of, seen_node}
use Rattle.qasm_ast.specs.Whole.{ExprFits, StmtFits}
use Rattle.qasm_parser.specs.State.{State, Lasts, MayAdd, MayPush, Longer, After, nodes, tree}

-- ---- members of longer lists

pub get_below : {X : Type 0} (xs : List X) (n : ℕ) (x : X) → slice_get xs n ≡ Some x → n < length xs
get_below [] n x h = absurd (cc)
get_below (y ∷ xs) zero x h = omega arith
get_below (y ∷ xs) (suc n) x h = omega (arith, get_below xs n x h)

old_or_new : {X : Type 0} (xs ys : List X) (n : ℕ) (x : X) → slice_get (xs ++ ys) n ≡ Some x → (slice_get xs n ≡ Some x) ⊎ (length xs ≤ n)
old_or_new [] ys n x e = inr (omega arith)
old_or_new (y ∷ xs) ys zero x e = inl e
old_or_new (y ∷ xs) ys (suc n) x e = elim (old_or_new xs ys n x e) [ inl w ↦ inl w | inr w ↦ inr (omega arith) ]

beyond : {X : Type 0} (xs ys : List X) → ys ≡ xs → (n : ℕ) (x : X) → length xs ≤ n → slice_get ys n ≡ Some x → ⊥
beyond xs ys same n x le h = let lt : n < length ys = get_below ys n x h in absurd (omega (arith, ap length same))

last_one : {X : Type 0} (xs : List X) (w : X) (n : ℕ) (x : X) → length xs ≤ n → slice_get (xs ++ w ∷ []) n ≡ Some x → (n ≡ length xs) × (w ≡ x)
last_one [] w zero x le e = (refl, cc)
last_one [] w (suc n) x le e = let lt : suc n < 1 = get_below (w ∷ []) (suc n) x e in absurd (omega arith)
last_one (y ∷ xs) w zero x le e = absurd (omega arith)
last_one (y ∷ xs) w (suc n) x le e = let r = last_one xs w n x (omega arith) e in (ap suc r.0, r.1)

found_behind : {X : Type 0} (xs ys : List X) (y : X) → slice_get (xs ++ y ∷ ys) (length xs) ≡ Some y
found_behind [] ys y = refl
found_behind (x ∷ xs) ys y = found_behind xs ys y

-- ---- growing

module _ (a b : State) (tokens : b.tokens ≡ a.tokens) (stmts : b.stmts ≡ a.stmts) where
  -- nothing is new
  pub longer_same : b.names ≡ a.names → b.exprs ≡ a.exprs → Longer a b
  longer_same names exprs = record {
    tokens = tokens;
    more_names = [];
    more_exprs = [];
    more_stmts = [];
    names = names ∙ sym (append-nil a.names);
    exprs = exprs ∙ sym (append-nil a.exprs);
    stmts = stmts ∙ sym (append-nil a.stmts);
    sizes = λ k text le h. absurd (beyond a.names b.names names k text le h);
    exprs_fit = λ n x le h. absurd (beyond a.exprs b.exprs exprs n x le h);
    stmts_fit = λ n x le h. absurd (beyond a.stmts b.stmts stmts n x le h);
  }

  -- a name is new
  pub longer_name : (word : List ℕ) → length word ≤ 4096 → b.names ≡ a.names ++ word ∷ [] → b.exprs ≡ a.exprs → Longer a b
  longer_name word size names exprs = record {
    tokens = tokens;
    more_names = word ∷ [];
    more_exprs = [];
    more_stmts = [];
    names = names;
    exprs = exprs ∙ sym (append-nil a.exprs);
    stmts = stmts ∙ sym (append-nil a.stmts);
    sizes = λ k text le h. subst (λ l. length l ≤ 4096) (last_one a.names word k text le (subst (λ l. slice_get l k ≡ Some text) names h)).1 size;
    exprs_fit = λ n x le h. absurd (beyond a.exprs b.exprs exprs n x le h);
    stmts_fit = λ n x le h. absurd (beyond a.stmts b.stmts stmts n x le h);
  }

  -- a node is new
  pub longer_node : (node : Expr) → b.names ≡ a.names → b.exprs ≡ a.exprs ++ node ∷ [] → MayAdd a node.kind → Longer a b
  longer_node node names exprs fits = record {
    tokens = tokens;
    more_names = [];
    more_exprs = node ∷ [];
    more_stmts = [];
    names = names ∙ sym (append-nil a.names);
    exprs = exprs;
    stmts = stmts ∙ sym (append-nil a.stmts);
    sizes = λ k text le h. absurd (beyond a.names b.names names k text le h);
    exprs_fit = λ n x le h m more. at_last n x (last_one a.exprs node n x le (subst (λ l. slice_get l n ≡ Some x) exprs h)) m (omega (arith, more, ap length names));
    stmts_fit = λ n x le h. absurd (beyond a.stmts b.stmts stmts n x le h);
  }
    where
      at_last : (n : ℕ) (x : Expr) → (n ≡ length a.exprs) × (node ≡ x) → (m : ℕ) → length a.names ≤ m → ExprFits m n x.kind
      at_last n x (is, same) m more = subst (λ (y : Expr). ExprFits m n y.kind) same (subst (λ k. ExprFits m k node.kind) (sym is) (fits m more))

-- a statement is new
pub longer_stmt : (a b : State) (stmt : Stmt) → b.tokens ≡ a.tokens → b.names ≡ a.names → b.exprs ≡ a.exprs → b.stmts ≡ a.stmts ++ stmt ∷ [] → MayPush a stmt.kind → Longer a b
longer_stmt a b stmt tokens names exprs stmts fits = record {
  tokens = tokens;
  more_names = [];
  more_exprs = [];
  more_stmts = stmt ∷ [];
  names = names ∙ sym (append-nil a.names);
  exprs = exprs ∙ sym (append-nil a.exprs);
  stmts = stmts;
  sizes = λ k text le h. absurd (beyond a.names b.names names k text le h);
  exprs_fit = λ n x le h. absurd (beyond a.exprs b.exprs exprs n x le h);
  stmts_fit = λ n x le h m more_exprs more_stmts le'. at_last n x (last_one a.stmts stmt n x le (subst (λ l. slice_get l n ≡ Some x) stmts h)) m more_exprs more_stmts (omega (arith, le', ap length names));
}
  where
    at_last : (n : ℕ) (x : Stmt) → (n ≡ length a.stmts) × (stmt ≡ x) → (m : ℕ) (more_exprs : List Expr) (more_stmts : List Stmt) → length a.names ≤ m → StmtFits m (b.exprs ++ more_exprs) (b.stmts ++ more_stmts) n x.kind
    at_last n x (is, same) m more_exprs more_stmts le =
        subst (λ (y : Stmt). StmtFits m (b.exprs ++ more_exprs) (b.stmts ++ more_stmts) n y.kind) same
        (subst (λ k. StmtFits m (b.exprs ++ more_exprs) (b.stmts ++ more_stmts) k stmt.kind) (sym is)
        (subst (λ es. StmtFits m es (b.stmts ++ more_stmts) (length a.stmts) stmt.kind) (sym (ap (λ l. l ++ more_exprs) exprs))
        (subst (λ ss. StmtFits m (a.exprs ++ more_exprs) ss (length a.stmts) stmt.kind) (sym (ap (λ l. l ++ more_stmts) stmts ∙ append_assoc a.stmts (stmt ∷ []) more_stmts))
        (fits m more_exprs (stmt ∷ more_stmts) le))))

pub longer_here : (s : State) → Longer s s
longer_here s = longer_same s s refl refl refl refl

module _ {a b c : State} (g : Longer a b) (h : Longer b c) where
  more : length b.names ≤ length c.names
  more = omega (arith, ap length h.names, length-append b.names h.more_names)

  stmt_later : (n : ℕ) (x : Stmt) → ((names : ℕ) (more_exprs : List Expr) (more_stmts : List Stmt) → length b.names ≤ names → StmtFits names (b.exprs ++ more_exprs) (b.stmts ++ more_stmts) n x.kind) → (names : ℕ) (more_exprs : List Expr) (more_stmts : List Stmt) → length c.names ≤ names → StmtFits names (c.exprs ++ more_exprs) (c.stmts ++ more_stmts) n x.kind
  stmt_later n x f names more_exprs more_stmts le =
      subst (λ es. StmtFits names es (c.stmts ++ more_stmts) n x.kind) (sym (ap (λ l. l ++ more_exprs) h.exprs ∙ append_assoc b.exprs h.more_exprs more_exprs))
      (subst (λ ss. StmtFits names (b.exprs ++ (h.more_exprs ++ more_exprs)) ss n x.kind) (sym (ap (λ l. l ++ more_stmts) h.stmts ∙ append_assoc b.stmts h.more_stmts more_stmts))
      (f names (h.more_exprs ++ more_exprs) (h.more_stmts ++ more_stmts) (omega (arith, le, more))))

  -- one call behind another
  pub longer_on : Longer a c
  longer_on = record {
    tokens = h.tokens ∙ g.tokens;
    more_names = g.more_names ++ h.more_names;
    more_exprs = g.more_exprs ++ h.more_exprs;
    more_stmts = g.more_stmts ++ h.more_stmts;
    names = h.names ∙ ap (λ l. l ++ h.more_names) g.names ∙ append_assoc a.names g.more_names h.more_names;
    exprs = h.exprs ∙ ap (λ l. l ++ h.more_exprs) g.exprs ∙ append_assoc a.exprs g.more_exprs h.more_exprs;
    stmts = h.stmts ∙ ap (λ l. l ++ h.more_stmts) g.stmts ∙ append_assoc a.stmts g.more_stmts h.more_stmts;
    sizes = λ k text le e. elim (old_or_new b.names h.more_names k text (subst (λ l. slice_get l k ≡ Some text) h.names e)) [ inl w ↦ g.sizes k text le w | inr w ↦ h.sizes k text w e ];
    exprs_fit = λ n x le e. elim (old_or_new b.exprs h.more_exprs n x (subst (λ l. slice_get l n ≡ Some x) h.exprs e)) [
      | inl w ↦ (λ m lt. g.exprs_fit n x le w m (omega (arith, lt, more)))
      | inr w ↦ h.exprs_fit n x w e
    ];
    stmts_fit = λ n x le e. elim (old_or_new b.stmts h.more_stmts n x (subst (λ l. slice_get l n ≡ Some x) h.stmts e)) [
      | inl w ↦ stmt_later n x (g.stmts_fit n x le w)
      | inr w ↦ h.stmts_fit n x w e
    ];
  }

-- ---- what is told of the lists

module _ {a b : State} (g : Longer a b) where
  -- it lasts
  pub lasts_later : (P : List (List ℕ) → (ℕ → Tree) → Type 0) → Lasts a P → Lasts b P
  lasts_later P l = record {
    holds = λ more_names more_exprs steps enough.
        subst (λ ns. P ns (λ k. tree_at ns (b.exprs ++ more_exprs) (steps k) k)) (sym (ap (λ ns. ns ++ more_names) g.names ∙ append_assoc a.names g.more_names more_names))
        (subst (λ es. P (a.names ++ (g.more_names ++ more_names)) (λ k. tree_at (a.names ++ (g.more_names ++ more_names)) es (steps k) k)) (sym (ap (λ es. es ++ more_exprs) g.exprs ∙ append_assoc a.exprs g.more_exprs more_exprs))
        (l.holds (g.more_names ++ more_names) (g.more_exprs ++ more_exprs) steps (λ k lt. enough k (omega (arith, ap length g.exprs, length-append a.exprs g.more_exprs)))));
  }

-- and holds now
pub lasts_now : (s : State) (P : List (List ℕ) → (ℕ → Tree) → Type 0) → Lasts s P → P s.names (tree s)
unfolding tree_of
lasts_now s P l =
    subst (λ ns. P ns (λ k. tree_at ns s.exprs (suc k) k)) (append-nil s.names)
    (subst (λ es. P (s.names ++ []) (λ k. tree_at (s.names ++ []) es (suc k) k)) (append-nil s.exprs)
    (l.holds [] [] suc (λ k lt. omega arith)))

-- a name
text_more : (names more : List (List ℕ)) (k : ℕ) (word : List ℕ) → slice_get names k ≡ Some word → text_at (names ++ more) k ≡ word
text_more [] more k word h = absurd (cc)
text_more (x ∷ names) more zero word h = cc
text_more (x ∷ names) more (suc k) word h = text_more names more k word h

pub word_lasts : (s : State) (k : ℕ) (word : List ℕ) → slice_get s.names k ≡ Some word → Lasts s (λ names sub. text_at names k ≡ word)
word_lasts s k word h = record { holds = λ more_names more_exprs steps enough. text_more s.names more_names k word h }

above : (n k : ℕ) → k < n → (m : ℕ) × (n ≡ suc m)
above zero k lt = absurd (omega arith)
above (suc m) k lt = (m, refl)

-- the tree of a new node
module _ (a b : State) (kind : ExprKind) (place : Span) (names : b.names ≡ a.names) (exprs : b.exprs ≡ a.exprs ++ record { kind = kind; at = place } ∷ []) where
  pub node_lasts : (t : Tree) → Lasts a (λ ns sub. node_of ns sub kind place ≡ t) → Lasts b (λ ns sub. sub (length a.exprs) ≡ t)
  node_lasts t l = record {
    holds = λ more_names more_exprs steps enough.
        at_steps more_names more_exprs (steps (length a.exprs)) (enough (length a.exprs) (omega (arith, ap length exprs, length-append a.exprs (record { kind = kind; at = place } ∷ []))));
  }
    where
      at_steps : (more_names : List (List ℕ)) (more_exprs : List Expr) (n : ℕ) → length a.exprs < n → tree_at (b.names ++ more_names) (b.exprs ++ more_exprs) n (length a.exprs) ≡ t
      at_steps more_names more_exprs n lt =
          let node : Expr = record { kind = kind; at = place } in
          let m = above n (length a.exprs) lt in
          let is : n ≡ suc m.0 = m.1 in
          let ns : b.names ++ more_names ≡ a.names ++ more_names = ap (λ l. l ++ more_names) names in
          let es : b.exprs ++ more_exprs ≡ a.exprs ++ node ∷ more_exprs = ap (λ l. l ++ more_exprs) exprs ∙ append_assoc a.exprs (node ∷ []) more_exprs in
          ap (λ l. tree_at l (b.exprs ++ more_exprs) n (length a.exprs)) ns
          ∙ ap (λ l. tree_at (a.names ++ more_names) l n (length a.exprs)) es
          ∙ ap (λ k. tree_at (a.names ++ more_names) (a.exprs ++ node ∷ more_exprs) k (length a.exprs)) is
          ∙ ap (seen_node (a.names ++ more_names) (tree_at (a.names ++ more_names) (a.exprs ++ node ∷ more_exprs) m.0)) (found_behind a.exprs more_exprs node)
          ∙ l.holds more_names (node ∷ more_exprs) (λ k. m.0) (λ k lt'. omega arith)

-- ---- with the tokens that are taken

-- tokens that are taken change nothing else
pub after_left : (s : State) (left : List Token) (spare : ℕ) → length left + spare ≤ length s.left → (0 < spare → nodes s + length s.left < 2 ^ 32) → After spare 0 s (record s { left = left })
after_left s left spare le room = record { text = refl; longer = longer_same s (record s { left = left }) refl refl refl refl; few_names = omega arith; few_nodes = omega arith; room = λ lt. omega (arith, room lt) }

pub after_same : (s : State) → After 0 0 s s
after_same s = after_left s s.left 0 (omega arith) (λ lt. absurd (omega arith))

-- a number for the node of a spare token is there still
room_on : (m n there here : ℕ) → (0 < m → there + m < 2 ^ 32) → (0 < n → here + n < 2 ^ 32) → here + n ≤ there → 0 < m + n → here + (m + n) < 2 ^ 32
room_on zero n there here f g le lt = let k : here + n < 2 ^ 32 = g (omega arith) in omega arith
room_on (suc m) n there here f g le lt = let k : there + suc m < 2 ^ 32 = f (omega arith) in omega arith

module _ {m n : ℕ} {a b c : State} where
  -- one call behind another
  pub after_on : (g : After m 0 a b) (h : After n 0 b c) → After (m + n) 0 a c
  after_on g h = record {
    text = h.text ∙ g.text;
    longer = longer_on g.longer h.longer;
    few_names = omega (arith, g.few_names, h.few_names);
    few_nodes = omega (arith, g.few_nodes, h.few_nodes);
    room = room_on m n (nodes b + length b.left) (nodes c + length c.left) g.room h.room (omega (arith, h.few_nodes));
  }

-- a call that stops behind another
pub past : {m n : ℕ} {a b c : State} → After m n a b → Longer b c → Longer a c
past g h = longer_on g.longer h

-- fewer tokens are spare
pub fewer : {a b : State} (m n : ℕ) → n ≤ m → After m 0 a b → After n 0 a b
fewer {a} {b} m n le g = record {
  text = g.text;
  longer = g.longer;
  few_names = g.few_names;
  few_nodes = omega (arith, g.few_nodes);
  room = λ lt. let k : nodes b + length b.left + m < 2 ^ 32 = g.room (omega arith) in omega arith;
}

-- a spare token pays for a node
pub spend : {a b c : State} → After 1 0 a b → After 0 1 b c → After 0 0 a c
spend {a} {b} {c} g h = record {
  text = h.text ∙ g.text;
  longer = longer_on g.longer h.longer;
  few_names = omega (arith, g.few_names, h.few_names);
  few_nodes = omega (arith, g.few_nodes, h.few_nodes);
  room = λ lt. absurd (omega arith);
}

-- and there is a number for that node
pub has_room : {a b : State} → After 1 0 a b → nodes b + length b.left + 1 < 2 ^ 32
has_room g = g.room (omega arith)
