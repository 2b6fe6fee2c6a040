-- A loop over the operators of one level, by the tokens that are left. `S` says what the tree so far is seen as.
use Rattle.std.proofs.Common.{◌≡◌, ℕ, zero, suc, ◌+◌, ◌≤◌, ◌<◌, true, false, List, ◌∷◌, length, Some, Ok, Err, refl, sym, ap, ◌∙◌, le_refl, arith}
use Rattle.qasm_lexer.specs.declared.token.Token.{Token}
use Rattle.qasm_ast.specs.declared.expr.BinaryOp.{BinaryOp}
use Rattle.qasm_ast.specs.Tree.{binary as binary_tree, place_of}
use Rattle.grammar_parts.specs.Reading.{Outcome, Refusal, Reader, and_then, take_one, heads, take_many}
use Rattle.grammar_parts.specs.Kinds.{picked, kinds_of, by, is_free, take_allowed}
use Rattle.qasm_expr.specs.TokenKinds.{kind}
use Rattle.qasm_expr.specs.Grammar.{Rows, Counted, Link, join}
use Rattle.qasm_expr.specs.Reader.{begins, read_link, read_level}
use Rattle.qasm_parser.proofs.Listing.{some_fuel, heads_filled}

-- what is left of a chain behind the tree so far
abbrev pub turns : List ℕ → Rows → (ℕ → Reader Token Counted) → ℕ → Counted → Reader Token Counted
turns text rows item n e ts = and_then (take_many (λ s. begins text (kinds_of rows)) (read_link text (Some 64) rows item) (λ s l. l.used) n e.1 ts) (λ links rest. Ok (join e links, rest))

-- an operator that the chain may have
abbrev pub read_operator : List ℕ → Rows → ℕ → Reader Token (BinaryOp × Token)
read_operator text rows used = take_allowed (is_free (Some 64) used) (by (picked (kind text) rows)) (take_one (picked (kind text) rows))

pub record Going (text : List ℕ) (rows : Rows) (item : ℕ → Reader Token Counted) (S : Counted → Type 0) (out : Outcome Token Counted) (left : List Token) : Type 0 where
  pub tree : Counted
  pub fuel : ℕ
  pub sees : S tree
  pub enough : length left ≤ fuel
  pub same : out ≡ turns text rows item fuel tree left

module _ (text : List ℕ) (rows : Rows) (item : ℕ → Reader Token Counted) where
  turns_end : (n : ℕ) (e : Counted) (ts : List Token) → heads (begins text (kinds_of rows)) ts ≡ false → turns text rows item n e ts ≡ Ok (e, ts)
  turns_end zero e ts h = refl
  turns_end (suc n) e ts h = rw h refl

  one_more_in : (a : Link) (e : Counted) (o : Outcome Token (List Link)) → and_then (and_then o (λ items more. Ok (a ∷ items, more))) (λ links rest. Ok (join e links, rest)) ≡ and_then o (λ links more. Ok (join (binary_tree a.op e.0 a.right (place_of e.0), a.used) links, more))
  one_more_in a e (Ok r) = refl
  one_more_in a e (Err x) = refl

  one_more : (out : Outcome Token Link) (e : Counted) (rec : Link → List Token → Outcome Token (List Link)) → and_then (and_then out (λ a rest. and_then (rec a rest) (λ items more. Ok (a ∷ items, more)))) (λ links rest. Ok (join e links, rest)) ≡ and_then out (λ a rest. and_then (rec a rest) (λ links more. Ok (join (binary_tree a.op e.0 a.right (place_of e.0), a.used) links, more)))
  one_more (Ok r) e rec = one_more_in r.0 e (rec r.0 r.1)
  one_more (Err x) e rec = refl

  turns_more : (n : ℕ) (e : Counted) (ts : List Token) → heads (begins text (kinds_of rows)) ts ≡ true → turns text rows item (suc n) e ts ≡ and_then (read_link text (Some 64) rows item e.1 ts) (λ l rest. turns text rows item n (binary_tree l.op e.0 l.right (place_of e.0), l.used) rest)
  turns_more n e ts h = rw h (one_more (read_link text (Some 64) rows item e.1 ts) e (λ a rest. take_many (λ s. begins text (kinds_of rows)) (read_link text (Some 64) rows item) (λ s l. l.used) n a.used rest))

  pub going_start : (S : Counted → Type 0) (used : ℕ) (ts left : List Token) (a : Counted) → S a → item used ts ≡ Ok (a, left) → Going text rows item S (read_level text (Some 64) rows item used ts) left
  unfolding read_level
  going_start S used ts left a s h = record { tree = a; fuel = length left; sees = s; enough = le_refl _; same = rw h refl }

  module _ {S : Counted → Type 0} {out : Outcome Token Counted} {left : List Token} (g : Going text rows item S out left) where
    pub going_end : heads (begins text (kinds_of rows)) left ≡ false → out ≡ Ok (g.tree, left)
    going_end h = g.same ∙ turns_end g.fuel g.tree left h

    module _ (h : heads (begins text (kinds_of rows)) left ≡ true) (used : ℕ) (is : used ≡ g.tree.1) where
      fuel_here : (m : ℕ) × (g.fuel ≡ suc m)
      fuel_here = let enough : length left ≤ g.fuel = g.enough in some_fuel g.fuel (omega (arith, heads_filled text (kinds_of rows) left h))

      next_turn : out ≡ and_then (read_link text (Some 64) rows item used left) (λ l rest. turns text rows item fuel_here.0 (binary_tree l.op g.tree.0 l.right (place_of g.tree.0), l.used) rest)
      unfolding fuel_here
      next_turn = g.same ∙ ap (λ n. turns text rows item n g.tree left) fuel_here.1 ∙ turns_more fuel_here.0 g.tree left h ∙ ap (λ u. and_then (read_link text (Some 64) rows item u left) (λ l rest. turns text rows item fuel_here.0 (binary_tree l.op g.tree.0 l.right (place_of g.tree.0), l.used) rest)) (sym is)

      pub going_no_operator : (y : Refusal Token) → read_operator text rows used left ≡ Err y → out ≡ Err y
      unfolding next_turn
      going_no_operator y k = next_turn ∙ rw k refl

      module _ (o : BinaryOp × Token) (rest : List Token) (k : read_operator text rows used left ≡ Ok (o, rest)) where
        pub going_err : (y : Refusal Token) → item (used + 1) rest ≡ Err y → out ≡ Err y
        unfolding next_turn
        going_err y w = next_turn ∙ rw (k, w) refl

        pub going_step : (S' : Counted → Type 0) (next : List Token) (r : Counted) → S' (binary_tree o.0 g.tree.0 r.0 (place_of g.tree.0), r.1) → length next < length left → item (used + 1) rest ≡ Ok (r, next) → Going text rows item S' out next
        unfolding next_turn
        going_step S' next r s lt w =
            let enough : length left ≤ g.fuel = g.enough in
            let is_fuel : g.fuel ≡ suc fuel_here.0 = fuel_here.1 in
            record {
              tree = (binary_tree o.0 g.tree.0 r.0 (place_of g.tree.0), r.1);
              fuel = fuel_here.0;
              sees = s;
              enough = omega arith;
              same = next_turn ∙ rw (k, w) refl;
            }
