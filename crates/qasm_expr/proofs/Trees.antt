-- The tree that is seen through the nodes is the tree of the node.
use Rattle.std.proofs.Common.{◌≡◌, ℕ, zero, suc, ◌≤◌, ◌<◌, List, [], ◌∷◌, slice_get, Option, Some, refl, arith}
use Rattle.qasm_ast.specs.declared.expr.Expr.{Expr}
use Rattle.qasm_ast.specs.declared.expr.ExprId.{ExprId}
use Rattle.qasm_ast.specs.declared.expr.IndexRef.{IndexRef}
use Rattle.qasm_ast.specs.declared.expr.OperandName.{OperandName}
use Rattle.qasm_ast.specs.Tree.{Called, word, qubit, Tree, named, wire, number, truth, bit_string, unary, binary, cast, call, cut, Trees, no_tree, a_tree, Maybe, absent, present, Bracket, position, range, members, Brackets, no_bracket, a_bracket, text_at, trees_at, maybe_at, bracket_at, brackets_at, called_at, tree_at, tree_of}
use Rattle.qasm_expr.specs.Seen.{Sees, SeesAll, SeesMaybe, SeesBracket, SeesBrackets, SeesCalled}

pub text_found : (names : List (List ℕ)) (k : ℕ) (text : List ℕ) → slice_get names k ≡ Some text → text_at names k ≡ text
text_found [] k text h = absurd (cc)
text_found (x ∷ names) zero text h = cc
text_found (x ∷ names) (suc k) text h = text_found names k text h

module _ (names : List (List ℕ)) (nodes : List Expr) where
  called_seen : (x : OperandName) (c : Called) → SeesCalled names x c → called_at names x ≡ c
  called_seen x (word text) (k, h, g) = rw (h, text_found names k text g) refl
  called_seen x (qubit n) h = rw h refl

  mutual
    -- with any number of steps that is enough
    tree_seen : (t : Tree) (n id : ℕ) → id < n → Sees names nodes id t → tree_at names nodes n id ≡ t
    tree_seen t zero id lt s = absurd (omega arith)
    tree_seen (named c bs place at') (suc n) id lt (x, h, g, k, s) = rw (h, called_seen x.name c g, brackets_seen bs n id x.index (omega arith) s, k) refl
    tree_seen (wire k at') (suc n) id lt s = rw s refl
    tree_seen (number k at') (suc n) id lt s = rw s refl
    tree_seen (truth b at') (suc n) id lt s = rw s refl
    tree_seen (bit_string bs at') (suc n) id lt s = rw s refl
    tree_seen (unary op a at') (suc n) id lt (x, h, l, s) = rw (h, tree_seen a n x.0 (omega arith) s) refl
    tree_seen (binary op a b at') (suc n) id lt (x, y, h, l, m, s, u) = rw (h, tree_seen a n x.0 (omega arith) s, tree_seen b n y.0 (omega arith) u) refl
    tree_seen (cast base width place a at') (suc n) id lt (y, x, h, i, j, l, w, s) = rw (h, i, maybe_seen width n id y.width (omega arith) w, j, tree_seen a n x.0 (omega arith) s) refl
    tree_seen (call text as' at') (suc n) id lt (k, ids, h, g, s) = rw (h, text_found names k text g, all_seen as' n id ids (omega arith) s) refl
    tree_seen cut (suc n) id lt s = absurd s

    all_seen : (ts : Trees) (n bound : ℕ) (ids : List ExprId) → bound ≤ n → SeesAll names nodes bound ids ts → trees_at (tree_at names nodes n) ids ≡ ts
    all_seen no_tree n bound ids le s = rw s refl
    all_seen (a_tree t ts) n bound ids le (x, more, h, l, s, u) = rw (h, tree_seen t n x.0 (omega arith) s, all_seen ts n bound more le u) refl

    maybe_seen : (m : Maybe) (n bound : ℕ) (id : Option ExprId) → bound ≤ n → SeesMaybe names nodes bound id m → maybe_at (tree_at names nodes n) id ≡ m
    maybe_seen absent n bound id le s = rw s refl
    maybe_seen (present t) n bound id le (x, h, l, s) = rw (h, tree_seen t n x.0 (omega arith) s) refl

    bracket_seen : (b : Bracket) (n bound : ℕ) (j : IndexRef) → bound ≤ n → SeesBracket names nodes bound j b → bracket_at (tree_at names nodes n) j ≡ b
    bracket_seen (position t) n bound j le (x, h, l, s) = rw (h, tree_seen t n x.0 (omega arith) s) refl
    bracket_seen (range start step stop place) n bound j le (x, y, z, h, s, u, v) = rw (h, maybe_seen start n bound x le s, maybe_seen step n bound y le u, maybe_seen stop n bound z le v) refl
    bracket_seen (members ts) n bound j le (ids, h, s) = rw (h, all_seen ts n bound ids le s) refl

    brackets_seen : (bs : Brackets) (n bound : ℕ) (js : List IndexRef) → bound ≤ n → SeesBrackets names nodes bound js bs → brackets_at (tree_at names nodes n) js ≡ bs
    brackets_seen no_bracket n bound js le s = rw s refl
    brackets_seen (a_bracket b bs) n bound js le (j, more, h, s, u) = rw (h, bracket_seen b n bound j le s, brackets_seen bs n bound more le u) refl

  pub sees_tree : (t : Tree) (id : ℕ) → Sees names nodes id t → tree_of names nodes id ≡ t
  unfolding tree_of
  sees_tree t id s = tree_seen t (suc id) id (omega arith) s

  -- what stands beside a node, by the trees of the nodes that it names

  pub tree_maybe : (m : Maybe) (n : ℕ) (id : Option ExprId) → SeesMaybe names nodes n id m → maybe_at (tree_of names nodes) id ≡ m
  tree_maybe absent n id s = rw s refl
  tree_maybe (present t) n id (x, h, l, s) = rw (h, sees_tree t x.0 s) refl

  pub tree_all : (ts : Trees) (n : ℕ) (ids : List ExprId) → SeesAll names nodes n ids ts → trees_at (tree_of names nodes) ids ≡ ts
  tree_all no_tree n ids s = rw s refl
  tree_all (a_tree t ts) n ids (x, more, h, l, s, u) = rw (h, sees_tree t x.0 s, tree_all ts n more u) refl

  pub tree_bracket : (b : Bracket) (n : ℕ) (j : IndexRef) → SeesBracket names nodes n j b → bracket_at (tree_of names nodes) j ≡ b
  tree_bracket (position t) n j (x, h, l, s) = rw (h, sees_tree t x.0 s) refl
  tree_bracket (range start step stop place) n j (x, y, z, h, s, u, v) = rw (h, tree_maybe start n x s, tree_maybe step n y u, tree_maybe stop n z v) refl
  tree_bracket (members ts) n j (ids, h, s) = rw (h, tree_all ts n ids s) refl

  pub tree_brackets : (bs : Brackets) (n : ℕ) (js : List IndexRef) → SeesBrackets names nodes n js bs → brackets_at (tree_of names nodes) js ≡ bs
  tree_brackets no_bracket n js s = rw s refl
  tree_brackets (a_bracket b bs) n js (j, more, h, s, u) = rw (h, tree_bracket b n j s, tree_brackets bs n more u) refl
