-- The lists of names and nodes grow, and trees stay.
use Rattle.std.proofs.Common.{◌≡◌, ◌⊎◌, inl, inr, ℕ, zero, suc, ◌≤◌, ◌<◌, List, [], ◌∷◌, ◌++◌, length, slice_get, Option, Some, refl, sym, ap, subst, ◌∙◌, append_assoc, append-nil, length-append, arith}
use Rattle.qq_base.specs.declared.refusal.Span.{Span}
use Rattle.qasm_ast.specs.declared.expr.Expr.{Expr}
use Rattle.qasm_ast.specs.declared.expr.ExprId.{ExprId}
use Rattle.qasm_ast.specs.declared.expr.ExprKind.{ExprKind}
use Rattle.qasm_ast.specs.declared.expr.ExprKind.TheVariants as e
use Rattle.qasm_ast.specs.declared.expr.OperandName.{OperandName}
use Rattle.qasm_ast.specs.declared.expr.OperandName.TheVariants as o
use Rattle.qasm_ast.specs.declared.expr.IndexRef.{IndexRef}
use Rattle.qasm_ast.specs.Tree.{Called, word, qubit, Tree, named, wire, number, truth, bit_string, unary, binary, cast, call, cut, Trees, no_tree, a_tree, Maybe, absent, present, Bracket, position, range, members, Brackets, no_bracket, a_bracket}
use Rattle.qasm_ast.specs.Whole.{NameFits, ExprFits}
use Rattle.qasm_expr.specs.Seen.{Sees, SeesAll, SeesMaybe, SeesBracket, SeesBrackets, SeesCalled}
use Rattle.qasm_expr.specs.Answer.{Grows}

pub get_more : {X : Type 0} (xs ys : List X) (i : ℕ) (x : X) → slice_get xs i ≡ Some x → slice_get (xs ++ ys) i ≡ Some x
get_more [] ys i x h = absurd (cc)
get_more (y ∷ xs) ys zero x h = h
get_more (y ∷ xs) ys (suc i) x h = get_more xs ys i x h

pub get_below : {X : Type 0} (xs : List X) (i : ℕ) (x : X) → slice_get xs i ≡ Some x → i < length xs
get_below [] i x h = absurd (cc)
get_below (y ∷ xs) zero x h = omega arith
get_below (y ∷ xs) (suc i) x h = omega (arith, get_below xs i x h)

pub get_last : {X : Type 0} (xs : List X) (x : X) → slice_get (xs ++ x ∷ []) (length xs) ≡ Some x
get_last [] x = refl
get_last (y ∷ xs) x = get_last xs x

-- an element of a list with one more at its end
pub get_either : {X : Type 0} (xs : List X) (y : X) (i : ℕ) (x : X) → slice_get (xs ++ y ∷ []) i ≡ Some x → (slice_get xs i ≡ Some x) ⊎ ((i ≡ length xs) × (y ≡ x))
get_either [] y zero x h = inr (refl, some_same y x h)
  where
    some_same : {X : Type 0} (a b : X) → Some a ≡ Some b → a ≡ b
    some_same a b e = cc
get_either [] y (suc i) x h = absurd (cc)
get_either (z ∷ xs) y zero x h = inl h
get_either (z ∷ xs) y (suc i) x h = elim (get_either xs y i x h) [ inl a ↦ inl a | inr b ↦ inr (ap suc b.0, b.1) ]

-- ---- with more names

pub more_name : (k k' : ℕ) (x : OperandName) → k ≤ k' → NameFits k x → NameFits k' x
more_name k k' (o.Name n) le f = omega arith
more_name k k' (o.Hardware n) le f = f

pub fits_more : (k k' n : ℕ) (kind : ExprKind) → k ≤ k' → ExprFits k n kind → ExprFits k' n kind
fits_more k k' n (e.Name x) le f = record { name = more_name k k' x.name le f.name; index = f.index }
fits_more k k' n (e.Hardware x) le f = f
fits_more k k' n (e.Whole x) le f = f
fits_more k k' n (e.Truth x) le f = f
fits_more k k' n (e.Bits x) le f = f
fits_more k k' n (e.Unary op a) le f = f
fits_more k k' n (e.Binary op a b) le f = f
fits_more k k' n (e.Cast x a) le f = f
fits_more k k' n (e.Call x ids) le f = (omega (arith, f.0), f.1)

-- ---- growing

pub not_new : {X : Type 0} (xs : List X) (n : ℕ) (x : X) → length xs ≤ n → slice_get xs n ≡ Some x → ⊥
not_new xs n x le h = absurd (omega (arith, get_below xs n x h))

pub grows_same : (names : List (List ℕ)) (nodes : List Expr) → Grows names names nodes nodes
grows_same names nodes = record { more_names = []; more_nodes = []; names_are = sym (append-nil names); nodes_are = sym (append-nil nodes); fits = λ n x le h. absurd (not_new nodes n x le h); sizes = λ k text le h. absurd (not_new names k text le h) }

pub grows_add : (names : List (List ℕ)) (nodes nodes' : List Expr) (kind : ExprKind) (place : Span) → nodes' ≡ nodes ++ record { kind = kind; at = place } ∷ [] → ExprFits (length names) (length nodes) kind → Grows names names nodes nodes'
grows_add names nodes nodes' kind place h f = record { more_names = []; more_nodes = record { kind = kind; at = place } ∷ []; names_are = sym (append-nil names); nodes_are = h; fits = λ n x le g. at_last n x le (get_either nodes (record { kind = kind; at = place }) n x (subst (λ l. slice_get l n ≡ Some x) h g)); sizes = λ k text le g. absurd (not_new names k text le g) }
  where
    at_last : (n : ℕ) (x : Expr) → length nodes ≤ n → (slice_get nodes n ≡ Some x) ⊎ ((n ≡ length nodes) × (record { kind = kind; at = place } ≡ x)) → ExprFits (length names) n x.kind
    at_last n x le (inl g) = absurd (not_new nodes n x le g)
    at_last n x le (inr g) = subst (λ y. ExprFits (length names) n y.kind) g.1 (subst (λ k. ExprFits (length names) k kind) (sym g.0) f)

pub grows_name : (names names' : List (List ℕ)) (nodes : List Expr) (text : List ℕ) → (names' ≡ names) ⊎ (names' ≡ names ++ text ∷ []) → length text ≤ 4096 → Grows names names' nodes nodes
grows_name names names' nodes text (inl h) le = subst (λ l. Grows names l nodes nodes) (sym h) (grows_same names nodes)
grows_name names names' nodes text (inr h) le = record { more_names = text ∷ []; more_nodes = []; names_are = h; nodes_are = sym (append-nil nodes); fits = λ n x l g. absurd (not_new nodes n x l g); sizes = λ k t l g. at_last k t l (get_either names text k t (subst (λ z. slice_get z k ≡ Some t) h g)) }
  where
    at_last : (k : ℕ) (t : List ℕ) → length names ≤ k → (slice_get names k ≡ Some t) ⊎ ((k ≡ length names) × (text ≡ t)) → length t ≤ 4096
    at_last k t l (inl g) = absurd (not_new names k t l g)
    at_last k t l (inr g) = subst (λ z. length z ≤ 4096) g.1 le

module _ (names names' names'' : List (List ℕ)) (nodes nodes' nodes'' : List Expr) (g : Grows names names' nodes nodes') (h : Grows names' names'' nodes' nodes'') where
  old_or_new : {X : Type 0} (xs ys : List X) (n : ℕ) (x : X) → slice_get (xs ++ ys) n ≡ Some x → (slice_get xs n ≡ Some x) ⊎ (length xs ≤ n)
  old_or_new [] ys n x e' = inr (omega arith)
  old_or_new (y ∷ xs) ys zero x e' = inl e'
  old_or_new (y ∷ xs) ys (suc n) x e' = elim (old_or_new xs ys n x e') [ inl a ↦ inl a | inr b ↦ inr (omega arith) ]

  longer : length names' ≤ length names''
  longer = omega (arith, ap length h.names_are, length-append names' h.more_names)

  fits_on : (n : ℕ) (x : Expr) → length nodes ≤ n → slice_get nodes'' n ≡ Some x → ExprFits (length names'') n x.kind
  fits_on n x le f = elim (old_or_new nodes' h.more_nodes n x (subst (λ l. slice_get l n ≡ Some x) h.nodes_are f)) [
    | inl a ↦ fits_more (length names') (length names'') n x.kind longer (g.fits n x le a)
    | inr b ↦ h.fits n x b f
  ]

  sizes_on : (k : ℕ) (text : List ℕ) → length names ≤ k → slice_get names'' k ≡ Some text → length text ≤ 4096
  sizes_on k text le f = elim (old_or_new names' h.more_names k text (subst (λ l. slice_get l k ≡ Some text) h.names_are f)) [
    | inl a ↦ g.sizes k text le a
    | inr b ↦ h.sizes k text b f
  ]

  pub grows_on : Grows names names'' nodes nodes''
  grows_on = record { more_names = g.more_names ++ h.more_names; more_nodes = g.more_nodes ++ h.more_nodes; names_are = h.names_are ∙ ap (λ l. l ++ h.more_names) g.names_are ∙ append_assoc names g.more_names h.more_names; nodes_are = h.nodes_are ∙ ap (λ l. l ++ h.more_nodes) g.nodes_are ∙ append_assoc nodes g.more_nodes h.more_nodes; fits = fits_on; sizes = sizes_on }

pub nodes_longer : {names names' : List (List ℕ)} {nodes nodes' : List Expr} → Grows names names' nodes nodes' → length nodes ≤ length nodes'
nodes_longer {nodes = nodes} g = omega (arith, ap length g.nodes_are, length-append nodes g.more_nodes)

pub name_later : {names names' : List (List ℕ)} {nodes nodes' : List Expr} → Grows names names' nodes nodes' → (k : ℕ) (text : List ℕ) → slice_get names k ≡ Some text → slice_get names' k ≡ Some text
name_later {names} g k text h = subst (λ l. slice_get l k ≡ Some text) (sym g.names_are) (get_more names g.more_names k text h)

-- ---- trees that are seen stay

module _ (names more : List (List ℕ)) (nodes later : List Expr) where
  called_more : (x : OperandName) (c : Called) → SeesCalled names x c → SeesCalled (names ++ more) x c
  called_more x (word text) (k, h, g) = (k, h, get_more names more k text g)
  called_more x (qubit n) h = h

  mutual
    sees_more : (t : Tree) (id : ℕ) → Sees names nodes id t → Sees (names ++ more) (nodes ++ later) id t
    sees_more (named c bs place at') id (x, h, g, k, s) = (x, get_more nodes later id _ h, called_more x.name c g, k, brackets_more bs id x.index s)
    sees_more (wire n at') id s = get_more nodes later id _ s
    sees_more (number n at') id s = get_more nodes later id _ s
    sees_more (truth b at') id s = get_more nodes later id _ s
    sees_more (bit_string bs at') id s = get_more nodes later id _ s
    sees_more (unary op a at') id (x, h, l, s) = (x, get_more nodes later id _ h, l, sees_more a x.0 s)
    sees_more (binary op a b at') id (x, y, h, l, m, s, u) = (x, y, get_more nodes later id _ h, l, m, sees_more a x.0 s, sees_more b y.0 u)
    sees_more (cast base width place a at') id (y, x, h, i, j, l, w, s) = (y, x, get_more nodes later id _ h, i, j, l, maybe_more width id y.width w, sees_more a x.0 s)
    sees_more (call text as' at') id (k, ids, h, g, s) = (k, ids, get_more nodes later id _ h, get_more names more k text g, all_more as' id ids s)
    sees_more cut id s = absurd s

    all_more : (ts : Trees) (n : ℕ) (ids : List ExprId) → SeesAll names nodes n ids ts → SeesAll (names ++ more) (nodes ++ later) n ids ts
    all_more no_tree n ids s = s
    all_more (a_tree t ts) n ids (x, rest, h, l, s, u) = (x, rest, h, l, sees_more t x.0 s, all_more ts n rest u)

    maybe_more : (m : Maybe) (n : ℕ) (id : Option ExprId) → SeesMaybe names nodes n id m → SeesMaybe (names ++ more) (nodes ++ later) n id m
    maybe_more absent n id s = s
    maybe_more (present t) n id (x, h, l, s) = (x, h, l, sees_more t x.0 s)

    bracket_more : (b : Bracket) (n : ℕ) (j : IndexRef) → SeesBracket names nodes n j b → SeesBracket (names ++ more) (nodes ++ later) n j b
    bracket_more (position t) n j (x, h, l, s) = (x, h, l, sees_more t x.0 s)
    bracket_more (range start step stop place) n j (x, y, z, h, s, u, v) = (x, y, z, h, maybe_more start n x s, maybe_more step n y u, maybe_more stop n z v)
    bracket_more (members ts) n j (ids, h, s) = (ids, h, all_more ts n ids s)

    brackets_more : (bs : Brackets) (n : ℕ) (js : List IndexRef) → SeesBrackets names nodes n js bs → SeesBrackets (names ++ more) (nodes ++ later) n js bs
    brackets_more no_bracket n js s = s
    brackets_more (a_bracket b bs) n js (j, rest, h, s, u) = (j, rest, h, bracket_more b n j s, brackets_more bs n rest u)

module _ {names names' : List (List ℕ)} {nodes nodes' : List Expr} (g : Grows names names' nodes nodes') where
  moved : (P : List (List ℕ) → List Expr → Type 0) → P (names ++ g.more_names) (nodes ++ g.more_nodes) → P names' nodes'
  moved P p = subst (λ l. P l nodes') (sym g.names_are) (subst (λ l. P (names ++ g.more_names) l) (sym g.nodes_are) p)

  pub sees_later : (t : Tree) (id : ℕ) → Sees names nodes id t → Sees names' nodes' id t
  sees_later t id s = moved (λ ns es. Sees ns es id t) (sees_more names g.more_names nodes g.more_nodes t id s)

  pub all_later : (ts : Trees) (n : ℕ) (ids : List ExprId) → SeesAll names nodes n ids ts → SeesAll names' nodes' n ids ts
  all_later ts n ids s = moved (λ ns es. SeesAll ns es n ids ts) (all_more names g.more_names nodes g.more_nodes ts n ids s)

  pub maybe_later : (m : Maybe) (n : ℕ) (id : Option ExprId) → SeesMaybe names nodes n id m → SeesMaybe names' nodes' n id m
  maybe_later m n id s = moved (λ ns es. SeesMaybe ns es n id m) (maybe_more names g.more_names nodes g.more_nodes m n id s)

  pub bracket_later : (b : Bracket) (n : ℕ) (j : IndexRef) → SeesBracket names nodes n j b → SeesBracket names' nodes' n j b
  bracket_later b n j s = moved (λ ns es. SeesBracket ns es n j b) (bracket_more names g.more_names nodes g.more_nodes b n j s)

  pub brackets_later : (bs : Brackets) (n : ℕ) (js : List IndexRef) → SeesBrackets names nodes n js bs → SeesBrackets names' nodes' n js bs
  brackets_later bs n js s = moved (λ ns es. SeesBrackets ns es n js bs) (brackets_more names g.more_names nodes g.more_nodes bs n js s)

-- ---- numbers below a bound

pub sees_below : (names : List (List ℕ)) (nodes : List Expr) (t : Tree) (id : ℕ) → Sees names nodes id t → id < length nodes
sees_below names nodes (named c bs place at') id s = get_below nodes id _ s.1
sees_below names nodes (wire n at') id s = get_below nodes id _ s
sees_below names nodes (number n at') id s = get_below nodes id _ s
sees_below names nodes (truth b at') id s = get_below nodes id _ s
sees_below names nodes (bit_string bs at') id s = get_below nodes id _ s
sees_below names nodes (unary op a at') id s = get_below nodes id _ s.1
sees_below names nodes (binary op a b at') id s = get_below nodes id _ s.2
sees_below names nodes (cast base width place a at') id s = get_below nodes id _ s.2
sees_below names nodes (call text as' at') id s = get_below nodes id _ s.2
sees_below names nodes cut id s = absurd s

-- the node that was added last
pub last_found : {X : Type 0} (old new : List X) (x : X) (id : ℕ) → new ≡ old ++ x ∷ [] → id ≡ length old → slice_get new id ≡ Some x
last_found old new x id e i = subst (λ l. slice_get l id ≡ Some x) (sym e) (subst (λ k. slice_get (old ++ x ∷ []) k ≡ Some x) (sym i) (get_last old x))
