-- A loop over the operators of one level.
use Rattle.std.proofs.Common.{◌≡◌, inl, inr, ℕ, zero, suc, ◌+◌, ◌≤◌, ◌<◌, true, false, cond, List, [], ◌∷◌, length, drop, Option, Some, None, Ok, Err, refl, sym, ap, subst, ◌∙◌, le_refl, length-drop, arith}
use Rattle.std.proofs.lemmas.Bool.{lt-ltb, le-ltb}
use Rattle.qasm_lexer.specs.declared.token.Token.{Token}
use Rattle.qasm_ast.specs.declared.expr.Expr.{Expr}
use Rattle.qasm_ast.specs.declared.expr.ExprId.{ExprId}
use Rattle.qasm_ast.specs.declared.expr.BinaryOp.{BinaryOp}
use Rattle.qasm_ast.specs.Tree.{binary as binary_tree, place_of}
use Rattle.grammar_parts.specs.Reading.{Outcome, Refusal, Reader, syntax, deep, and_then, taken, take_one, take_never, heads, take_many}
use Rattle.grammar_parts.specs.Kinds.{among, found_in, with_token, picked, kinds_of, by, is_some, is_free, take_allowed}
use Rattle.grammar_parts.proofs.Sets.{tells_picked, heads_by}
use Rattle.qasm_expr.specs.declared.stop.Stop.TheVariants as s
use Rattle.qasm_expr.specs.TokenKinds.{kind}
use Rattle.qasm_expr.specs.Grammar.{Rows, Counted, Link, join}
use Rattle.qasm_expr.specs.Reader.{begins, read_link, read_level}
use Rattle.qasm_expr.specs.Seen.{Gives, SeesCounted, head_in}
use Rattle.qasm_expr.proofs.Places.{Split, split_at}

-- ---- what a table has for the first token

module _ (text : List ℕ) {A : Type 0} (rows : List (ℕ × A)) where
  pub head_picked : (x : Token) (ts : List Token) (o : A) → head_in text rows (x ∷ ts) ≡ Some o → picked (kind text) rows x ≡ Some (o, x)
  head_picked x ts o h = ap (with_token x) h

  by_picked : (x : Token) (o : Option A) → found_in rows (kind text x) ≡ o → by (picked (kind text) rows) x ≡ is_some o
  by_picked x None h = ap (λ z. is_some (with_token x z)) h
  by_picked x (Some a) h = ap (λ z. is_some (with_token x z)) h

  pub heads_some : (ts : List Token) (o : A) → found_in rows 0 ≡ None → head_in text rows ts ≡ Some o → heads (among (kind text) (kinds_of rows)) ts ≡ true
  heads_some [] o n h = let w : None ≡ Some o = sym n ∙ h in absurd (cc)
  heads_some (x ∷ ts) o n h = heads_by (kind text) (tells_picked (kind text) rows) (x ∷ ts) ∙ by_picked x (Some o) h

  pub heads_none : (ts : List Token) → head_in text rows ts ≡ None → heads (among (kind text) (kinds_of rows)) ts ≡ false
  heads_none [] h = refl
  heads_none (x ∷ ts) h = heads_by (kind text) (tells_picked (kind text) rows) (x ∷ ts) ∙ by_picked x None h

  -- the token that the table has
  pub record Found (tokens : List Token) (at' : ℕ) (o : A) : Type 0 where
    pub token : Token
    pub here : drop at' tokens ≡ token ∷ drop (at' + 1) tokens
    pub inside : at' + 1 ≤ length tokens
    pub is : picked (kind text) rows token ≡ Some (o, token)

  pub found_at : (tokens : List Token) (at' : ℕ) (o : A) → at' ≤ length tokens → found_in rows 0 ≡ None → head_in text rows (drop at' tokens) ≡ Some o → Found tokens at' o
  found_at tokens at' o le n h = by_split (split_at tokens at' le)
    where
      by_split : Split tokens at' → Found tokens at' o
      by_split (inl e) = let w : None ≡ Some o = sym n ∙ sym (ap (head_in text rows) e.0) ∙ h in absurd (cc)
      by_split (inr e) = record { token = e.0; here = e.1; inside = e.2; is = head_picked e.0 (drop (at' + 1) tokens) o (sym (ap (head_in text rows) e.1) ∙ h) }

-- ---- what is left of a chain behind the tree so far

abbrev pub turns : List ℕ → Rows → (ℕ → Reader Token Counted) → ℕ → Counted → Reader Token Counted
turns text rows item n e ts = and_then (take_many (λ s. begins text (kinds_of rows)) (read_link text (Some 64) rows item) (λ s l. l.used) n e.1 ts) (λ links rest. Ok (join e links, rest))

-- a loop over a chain, between two operators
pub record Going (text : List ℕ) (rows : Rows) (item : ℕ → Reader Token Counted) (tokens : List Token) (names : List (List ℕ)) (nodes : List Expr) (from : ℕ) (out : Outcome Token Counted) (left : ExprId) (count at' : ℕ) : Type 0 where
  pub tree : Counted
  pub fuel : ℕ
  pub sees : SeesCounted names nodes (left, count) tree
  pub from_at : from ≤ at'
  pub at_end : at' ≤ length tokens
  pub enough : length (drop at' tokens) ≤ fuel
  pub same : out ≡ turns text rows item fuel tree (drop at' tokens)

module _ (text : List ℕ) (rows : Rows) (item : ℕ → Reader Token Counted) where
  link_start : (x : Token) (rest : List Token) (o : BinaryOp) (used : ℕ) → picked (kind text) rows x ≡ Some (o, x) → used < 64 → take_allowed (is_free (Some 64) used) (by (picked (kind text) rows)) (take_one (picked (kind text) rows)) (x ∷ rest) ≡ Ok ((o, x), rest)
  link_start x rest o used h lt = ap (λ b. cond {A = Reader Token (BinaryOp × Token)} b (take_one (picked (kind text) rows)) (take_never (by (picked (kind text) rows))) (x ∷ rest)) (lt-ltb used 64 lt) ∙ ap (taken x rest) h

  link_full : (x : Token) (rest : List Token) (o : BinaryOp) (used : ℕ) → picked (kind text) rows x ≡ Some (o, x) → 64 ≤ used → take_allowed (is_free (Some 64) used) (by (picked (kind text) rows)) (take_one (picked (kind text) rows)) (x ∷ rest) ≡ Err (deep (x ∷ rest))
  link_full x rest o used h le = ap (λ b. cond {A = Reader Token (BinaryOp × Token)} b (take_one (picked (kind text) rows)) (take_never (by (picked (kind text) rows))) (x ∷ rest)) (le-ltb used 64 le) ∙ ap (λ b. cond {A = Outcome Token (BinaryOp × Token)} b (Err (deep (x ∷ rest))) (Err (syntax (x ∷ rest)))) (ap is_some h)

  turns_end : (n : ℕ) (e : Counted) (ts : List Token) → heads (begins text (kinds_of rows)) ts ≡ false → turns text rows item n e ts ≡ Ok (e, ts)
  turns_end zero e ts h = refl
  turns_end (suc n) e ts h = rw h refl

  one_more_in : (a : Link) (e : Counted) (o : Outcome Token (List Link)) → and_then (and_then o (λ items more. Ok (a ∷ items, more))) (λ links rest. Ok (join e links, rest)) ≡ and_then o (λ links more. Ok (join (binary_tree a.op e.0 a.right (place_of e.0), a.used) links, more))
  one_more_in a e (Ok r) = refl
  one_more_in a e (Err x) = refl

  one_more : (out : Outcome Token Link) (e : Counted) (rec : Link → List Token → Outcome Token (List Link)) → and_then (and_then out (λ a rest. and_then (rec a rest) (λ items more. Ok (a ∷ items, more)))) (λ links rest. Ok (join e links, rest)) ≡ and_then out (λ a rest. and_then (rec a rest) (λ links more. Ok (join (binary_tree a.op e.0 a.right (place_of e.0), a.used) links, more)))
  one_more (Ok r) e rec = one_more_in r.0 e (rec r.0 r.1)
  one_more (Err x) e rec = refl

  turns_more : (n : ℕ) (e : Counted) (ts : List Token) → heads (begins text (kinds_of rows)) ts ≡ true → turns text rows item (suc n) e ts ≡ and_then (read_link text (Some 64) rows item e.1 ts) (λ l rest. turns text rows item n (binary_tree l.op e.0 l.right (place_of e.0), l.used) rest)
  turns_more n e ts h = rw h (one_more (read_link text (Some 64) rows item e.1 ts) e (λ a rest. take_many (λ s. begins text (kinds_of rows)) (read_link text (Some 64) rows item) (λ s l. l.used) n a.used rest))

  module _ (n : ℕ) (e : Counted) (x : Token) (rest : List Token) (o : BinaryOp) (hd : heads (begins text (kinds_of rows)) (x ∷ rest) ≡ true) (h : picked (kind text) rows x ≡ Some (o, x)) where
    turn_ok : (rest' : List Token) (r : Counted) → e.1 < 64 → item (e.1 + 1) rest ≡ Ok (r, rest') → turns text rows item (suc n) e (x ∷ rest) ≡ turns text rows item n (binary_tree o e.0 r.0 (place_of e.0), r.1) rest'
    turn_ok rest' r lt k = turns_more n e (x ∷ rest) hd ∙ rw (link_start x rest o e.1 h lt, k) refl

    turn_err : (y : Refusal Token) → e.1 < 64 → item (e.1 + 1) rest ≡ Err y → turns text rows item (suc n) e (x ∷ rest) ≡ Err y
    turn_err y lt k = turns_more n e (x ∷ rest) hd ∙ rw (link_start x rest o e.1 h lt, k) refl

    turn_full : 64 ≤ e.1 → turns text rows item (suc n) e (x ∷ rest) ≡ Err (deep (x ∷ rest))
    turn_full le = turns_more n e (x ∷ rest) hd ∙ rw (link_full x rest o e.1 h le) refl

fuel_of : (n : ℕ) → 0 < n → (m : ℕ) × (n ≡ suc m)
fuel_of zero lt = absurd (omega arith)
fuel_of (suc m) lt = (m, refl)

module _ (text : List ℕ) (rows : Rows) (none : found_in rows 0 ≡ None) (item : ℕ → Reader Token Counted) (tokens : List Token) (from : ℕ) where
  pub going_start : (names : List (List ℕ)) (nodes : List Expr) (left : ExprId) (count at' used : ℕ) (a : Counted) → SeesCounted names nodes (left, count) a → from ≤ at' → at' ≤ length tokens → item used (drop from tokens) ≡ Ok (a, drop at' tokens) → Going text rows item tokens names nodes from (read_level text (Some 64) rows item used (drop from tokens)) left count at'
  unfolding read_level
  going_start names nodes left count at' used a s le le' h = record { tree = a; fuel = length (drop at' tokens); sees = s; from_at = le; at_end = le'; enough = le_refl _; same = rw h refl }

  module _ {names : List (List ℕ)} {nodes : List Expr} {out : Outcome Token Counted} {left : ExprId} {count at' : ℕ} (g : Going text rows item tokens names nodes from out left count at') where
    pub going_end : head_in text rows (drop at' tokens) ≡ None → Gives (SeesCounted names nodes) tokens from out (Ok ((left, count), at'))
    going_end h = (g.tree, g.sees, g.from_at, g.at_end, g.same ∙ turns_end text rows item g.fuel g.tree (drop at' tokens) (heads_none text rows (drop at' tokens) h))

    module _ {o : BinaryOp} (h : head_in text rows (drop at' tokens) ≡ Some o) where
      ahead : Found text rows tokens at' o
      ahead = found_at text rows tokens at' o g.at_end none h

      more_fuel : (m : ℕ) × (g.fuel ≡ suc m)
      unfolding ahead
      more_fuel = let enough : length (drop at' tokens) ≤ g.fuel = g.enough in fuel_of g.fuel (omega (arith, ap length ahead.here))

      begun : heads (begins text (kinds_of rows)) (ahead.token ∷ drop (at' + 1) tokens) ≡ true
      unfolding ahead
      begun = subst (λ l. heads (begins text (kinds_of rows)) l ≡ true) ahead.here (heads_some text rows (drop at' tokens) o none h)

      out_is : out ≡ turns text rows item (suc more_fuel.0) g.tree (ahead.token ∷ drop (at' + 1) tokens)
      unfolding ahead more_fuel
      out_is = g.same ∙ ap (λ n. turns text rows item n g.tree (drop at' tokens)) more_fuel.1 ∙ ap (turns text rows item (suc more_fuel.0) g.tree) ahead.here

      pub going_full : {X : Type 0} (shows : X → Counted → Type 0) → 64 ≤ count → Gives shows tokens from out (Err (s.Deep at'))
      unfolding ahead
      going_full shows le =
          let c : 64 ≤ g.tree.1 = omega (arith, g.sees.1) in
          (g.from_at, g.at_end, out_is ∙ turn_full text rows item more_fuel.0 g.tree ahead.token (drop (at' + 1) tokens) o begun ahead.is c ∙ ap (λ l. Err (deep l)) (sym ahead.here))

      pub going_inside : at' + 1 ≤ length tokens
      unfolding ahead
      going_inside = ahead.inside

      same_item : item (count + 1) (drop (at' + 1) tokens) ≡ item (g.tree.1 + 1) (drop (at' + 1) tokens)
      same_item = ap (λ n. item (n + 1) (drop (at' + 1) tokens)) g.sees.1

      pub going_err : count < 64 → (y : Refusal Token) → item (count + 1) (drop (at' + 1) tokens) ≡ Err y → out ≡ Err y
      unfolding ahead
      going_err lt y w =
          let c : g.tree.1 < 64 = omega (arith, g.sees.1) in
          out_is ∙ turn_err text rows item more_fuel.0 g.tree ahead.token (drop (at' + 1) tokens) o begun ahead.is y c (sym same_item ∙ w)

      pub going_step : (names' : List (List ℕ)) (new : List Expr) (id : ExprId) (more next : ℕ) (r : Counted) → count < 64 → SeesCounted names' new (id, more) (binary_tree o g.tree.0 r.0 (place_of g.tree.0), r.1) → at' + 1 ≤ next → next ≤ length tokens → item (count + 1) (drop (at' + 1) tokens) ≡ Ok (r, drop next tokens) → Going text rows item tokens names' new from out id more next
      unfolding ahead more_fuel
      going_step names' new id more next r lt s le le' k =
          let c : g.tree.1 < 64 = omega (arith, g.sees.1) in let le0 : from ≤ at' = g.from_at in
          let enough : length (drop at' tokens) ≤ g.fuel = g.enough in let is_fuel : g.fuel ≡ suc more_fuel.0 = more_fuel.1 in
          record {
            tree = (binary_tree o g.tree.0 r.0 (place_of g.tree.0), r.1);
            fuel = more_fuel.0;
            sees = s;
            from_at = omega arith;
            at_end = le';
            enough = omega (arith, length-drop next tokens, length-drop at' tokens);
            same = out_is ∙ turn_ok text rows item more_fuel.0 g.tree ahead.token (drop (at' + 1) tokens) o begun ahead.is (drop next tokens) r c (sym same_item ∙ k);
          }
