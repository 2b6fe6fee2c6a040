-- The modifiers of a gate call. Each that is read leaves one level less for what comes behind it.
use Rattle.std.proofs.Common.{◌≡◌, ℕ, zero, suc, ◌-◌, ◌<◌, Bool, true, false, cond, List, [], ◌∷◌, ◌++◌, length, drop, Some, Ok, Err, refl, sym, ap, subst, ◌∙◌, append-nil, append_assoc, arith}
use Rattle.qasm_lexer.specs.declared.token.Token.{Token}
use Rattle.qasm_lexer.specs.declared.token.Keyword.TheVariants as k
use Rattle.qasm_lexer.specs.declared.token.Mark.TheVariants as m
use Rattle.qasm_ast.specs.declared.expr.ExprId.{ExprId}
use Rattle.qasm_ast.specs.declared.stmt.Declared.{Declared}
use Rattle.qasm_ast.specs.declared.stmt.Modifier.{Modifier}
use Rattle.qasm_ast.specs.declared.stmt.Modifier.TheVariants as h
use Rattle.qasm_ast.specs.Tree.{Tree, trees, Name, Change, change_of, operand_of, gate_call}
use Rattle.qasm_ast.specs.Whole.{IsExpr, ModifierFits, OperandFits}
use Rattle.grammar_parts.specs.Reading.{Outcome, Refusal, Reader, deep, done, ◌>>=◌, and_then, choose, heads}
use Rattle.qasm_expr.specs.Reader.{begins, read_arguments}
use Rattle.qasm_grammar.specs.Parts.{Call, with_change, place_of_change, place_of_call, call_statement}
use Rattle.qasm_grammar.specs.Reader.{change_kinds, symbol_kinds, word_kinds, read_symbol, read_keyword, read_name, read_inner, read_condition, read_operands, read_any_operands, read_changed, read_modifier, read_modified, read_plain_call, read_applied, read_named_call, read_phase, read_call}
use Rattle.qasm_stmt.specs.declared.arena.Arena.{Arena}
use Rattle.qasm_stmt.specs.declared.calls.GateCall.{GateCall}
use Rattle.qasm_stmt.specs.Seen.{Each, tree, IsName, IsChange, IsCall, IsLine, at_modifier, at_call, statement_of_call}
use Rattle.qasm_stmt.proofs.Showing.{trees_each, map_each, fits_each}

-- the call with these modifiers in front
abbrev pub in_front : List Change → Call → Call
in_front hs c = record { changes = hs ++ c.changes; name = c.name; arguments = c.arguments; operands = c.operands }

-- ---- calls without modifiers

abbrev Yields : {A : Type 0} → (A → Type 0) → Reader Token A → Type 0
Yields {A} P r = (ts : List Token) (a : A) (rest : List Token) → r ts ≡ Ok (a, rest) → P a

module _ {A : Type 0} (P : A → Type 0) where
  yields_done : (a : A) → P a → Yields P (done a)
  yields_done a p ts b rest h = let e : (a, ts) ≡ (b, rest) = cc in subst P (ap (λ (r : A × List Token). r.0) e) p

  yields_behind : {B : Type 0} (r : Reader Token B) (f : B → Reader Token A) → ((b : B) → Yields P (f b)) → Yields P (r >>= f)
  yields_behind {B} r f g ts a rest h = by_outcome (r ts) h
    where
      by_outcome : (o : Outcome Token B) → and_then o f ≡ Ok (a, rest) → P a
      by_outcome (Ok x) e = g x.0 x.1 a rest e
      by_outcome (Err x) e = absurd (cc)

  yields_either : (test : Token → Bool) (r s : Reader Token A) → Yields P r → Yields P s → Yields P (choose test r s)
  yields_either test r s f g ts a rest h = by_test (heads test ts) h
    where
      by_test : (b : Bool) → cond b (r ts) (s ts) ≡ Ok (a, rest) → P a
      by_test true e = f ts a rest e
      by_test false e = g ts a rest e

abbrev Unchanged : Call → Type 0
Unchanged c = c.changes ≡ []

module _ (text : List ℕ) (room : ℕ) where
  applied_unchanged : (x : Name) (es : List Tree) → Yields Unchanged (read_applied text (Some 64) room x es)
  unfolding read_applied
  applied_unchanged x es = yields_behind Unchanged (read_operands text (Some 64) room) _ (λ os. yields_behind Unchanged (read_symbol text m.Semicolon) _ (λ s. yields_done Unchanged _ refl))

  named_unchanged : Yields Unchanged (read_named_call text (Some 64) room)
  unfolding read_named_call
  named_unchanged = yields_behind Unchanged (read_name text) _ (λ x. yields_either Unchanged (begins text (symbol_kinds m.LeftParen)) _ _
      (yields_behind Unchanged (read_arguments text room (read_inner text (Some 64) room)) _ (applied_unchanged x))
      (applied_unchanged x []))

  phase_unchanged : Yields Unchanged (read_phase text (Some 64) room)
  unfolding read_phase
  phase_unchanged = yields_behind Unchanged (read_keyword text k.Gphase) _ (λ w. yields_behind Unchanged (read_condition text (Some 64) room) _ (λ e. yields_behind Unchanged (read_any_operands text (Some 64) room) _ (λ os. yields_behind Unchanged (read_symbol text m.Semicolon) _ (λ s. yields_done Unchanged _ refl))))

  pub plain_unchanged : (ts : List Token) (c : Call) (rest : List Token) → read_plain_call text (Some 64) room ts ≡ Ok (c, rest) → c.changes ≡ []
  plain_unchanged = yields_either Unchanged (begins text (word_kinds k.Gphase)) (read_phase text (Some 64) room) (read_named_call text (Some 64) room) phase_unchanged named_unchanged

-- ---- one step of a call

module _ (text : List ℕ) where
  no_change : (room : ℕ) (ts : List Token) → heads (begins text change_kinds) ts ≡ false → read_call text (Some 64) room ts ≡ read_plain_call text (Some 64) room ts
  no_change room ts h = ap (λ b. cond b (read_modified text (Some 64) room ts) (read_plain_call text (Some 64) room ts)) h

  no_room : (ts : List Token) → heads (begins text change_kinds) ts ≡ true → read_call text (Some 64) zero ts ≡ Err (deep ts)
  unfolding read_modified
  no_room [] h = absurd (cc)
  no_room (t ∷ ts) h = rw h refl

  one_change : (room : ℕ) (ts : List Token) → 0 < room → heads (begins text change_kinds) ts ≡ true → read_call text (Some 64) room ts ≡ read_changed text (read_modifier text (Some 64) (room - 1)) (read_call text (Some 64) (room - 1)) ts
  unfolding read_modified
  one_change zero ts lt h = absurd (omega arith)
  one_change (suc room) ts lt h = let e : suc room - 1 ≡ room = omega arith in
      ap (λ b. cond b (read_modified text (Some 64) (suc room) ts) (read_plain_call text (Some 64) (suc room) ts)) h
      ∙ ap (λ n. read_changed text (read_modifier text (Some 64) n) (read_call text (Some 64) n) ts) (sym e)

-- ---- the loop

-- the answer is that of the rest, with the modifiers that were found in front
abbrev rest_of_call : List ℕ → ℕ → List Change → List Token → Outcome Token Call
rest_of_call text left acc ts = and_then (read_call text (Some 64) left ts) (λ c rest. Ok (in_front acc c, rest))

pub record Changing (text : List ℕ) (tokens : List Token) (R : Modifier → Change → Type 0) (out : Outcome Token Call) (found : List Modifier) (left at' : ℕ) : Type 0 where
  pub acc : List Change
  pub sees : Each R found acc
  pub same : out ≡ rest_of_call text left acc (drop at' tokens)

nothing_in_front : (o : Outcome Token Call) → and_then o (λ c rest. Ok (in_front [] c, rest)) ≡ o
nothing_in_front (Ok r) = refl
nothing_in_front (Err x) = refl

one_in_front : (acc : List Change) (h : Change) (o : Outcome Token Call) → and_then (and_then o (λ c rest. Ok (with_change h c, rest))) (λ c rest. Ok (in_front acc c, rest)) ≡ and_then o (λ c rest. Ok (in_front (acc ++ h ∷ []) c, rest))
one_in_front acc h (Ok r) = ap (λ hs. Ok (record { changes = hs; name = r.0.name; arguments = r.0.arguments; operands = r.0.operands }, r.1)) (sym (append_assoc acc (h ∷ []) r.0.changes))
one_in_front acc h (Err x) = refl

module _ (text : List ℕ) (tokens : List Token) where
  pub changing_start : (R : Modifier → Change → Type 0) (found : List Modifier) (room from : ℕ) → found ≡ [] → Changing text tokens R (read_call text (Some 64) room (drop from tokens)) found room from
  changing_start R found room from e = record { acc = []; sees = subst (λ l. Each R l []) (sym e) tt; same = sym (nothing_in_front (read_call text (Some 64) room (drop from tokens))) }

  module _ {R : Modifier → Change → Type 0} {out : Outcome Token Call} {found : List Modifier} {left at' : ℕ} (g : Changing text tokens R out found left at') where
    module _ (h : heads (begins text change_kinds) (drop at' tokens) ≡ true) where
      pub changing_full : left ≡ 0 → out ≡ Err (deep (drop at' tokens))
      changing_full e = g.same ∙ ap (λ n. rest_of_call text n g.acc (drop at' tokens)) e ∙ rw (no_room text (drop at' tokens) h) refl

      module _ (lt : 0 < left) where
        pub changing_err : (x : Refusal Token) → read_modifier text (Some 64) (left - 1) (drop at' tokens) ≡ Err x → out ≡ Err x
        changing_err x e = g.same ∙ rw (one_change text left (drop at' tokens) lt h, e) refl

        module _ (b : Change) (rest : List Token) (read : read_modifier text (Some 64) (left - 1) (drop at' tokens) ≡ Ok (b, rest)) where
          pub changing_at : (x : Refusal Token) → read_symbol text m.At rest ≡ Err x → out ≡ Err x
          changing_at x e = g.same ∙ rw (one_change text left (drop at' tokens) lt h, read, e) refl

          pub changing_more : (S : Modifier → Change → Type 0) (next : ℕ) (s : Token) (found' : List Modifier) → Each S found' (g.acc ++ b ∷ []) → read_symbol text m.At rest ≡ Ok (s, drop next tokens) → Changing text tokens S out found' (left - 1) next
          changing_more S next s found' seen e = record {
            acc = g.acc ++ b ∷ [];
            sees = seen;
            same = g.same ∙ rw (one_change text left (drop at' tokens) lt h, read, e) (one_in_front g.acc b (read_call text (Some 64) (left - 1) (drop next tokens)));
          }

    module _ (h : heads (begins text change_kinds) (drop at' tokens) ≡ false) where
      pub changing_plain : (x : Refusal Token) → read_plain_call text (Some 64) left (drop at' tokens) ≡ Err x → out ≡ Err x
      changing_plain x e = g.same ∙ rw (no_change text left (drop at' tokens) h, e) refl

      -- a call without modifiers ends it
      pub changing_end : (c : Call) (rest : List Token) → read_plain_call text (Some 64) left (drop at' tokens) ≡ Ok (c, rest) → out ≡ Ok (record { changes = g.acc; name = c.name; arguments = c.arguments; operands = c.operands }, rest)
      changing_end c rest e =
          g.same ∙ rw (no_change text left (drop at' tokens) h, e) refl
          ∙ ap (λ hs. Ok (record { changes = g.acc ++ hs; name = c.name; arguments = c.arguments; operands = c.operands }, rest)) (plain_unchanged text left (drop at' tokens) c rest e)
          ∙ ap (λ hs. Ok (record { changes = hs; name = c.name; arguments = c.arguments; operands = c.operands }, rest)) (append-nil g.acc)

-- ---- the statement of a call

at_change : (names : List (List ℕ)) (sub : ℕ → Tree) (x : Modifier) → place_of_change (change_of names sub x) ≡ at_modifier x
at_change names sub (h.Inv place) = refl
at_change names sub (h.Pow id place) = refl
at_change names sub (h.Ctrl id place) = refl

module _ (a : Arena) where
  place_seen : (mods : List Modifier) (gate : Declared) (hs : List Change) (x : Name) → Each (IsChange a) mods hs → IsName a gate x → at_call mods gate ≡ place_of_call hs x
  place_seen [] gate [] x e n = ap (λ (y : Name). y.place) n.1
  place_seen (y ∷ mods) gate (b ∷ hs) x e n = sym (at_change a.names.keys (tree a) y) ∙ ap place_of_change e.0.1
  place_seen [] gate (b ∷ hs) x e n = absurd e
  place_seen (y ∷ mods) gate [] x e n = absurd e

  -- the statement that is made of a call is the one that the call is
  pub call_seen : (x : GateCall) (c : Call) → IsCall a x c → IsLine a (statement_of_call x) (call_statement c)
  call_seen x c s =
      let names = a.names.keys in
      let mods = map_each (ModifierFits (length a.exprs.items)) (change_of names (tree a)) x.mods.items c.changes s.changes.1 in
      let args = trees_each a x.args.items c.arguments s.arguments.1 in
      let operands = map_each (OperandFits (length names) (length a.exprs.items)) (operand_of names (tree a)) x.operands.items c.operands s.operands.1 in
      let place = place_seen x.mods.items x.gate c.changes c.name s.changes.1 s.name in (
        (
          fits_each (ModifierFits (length a.exprs.items)) (change_of names (tree a)) x.mods.items c.changes s.changes,
          s.name.0,
          fits_each (IsExpr (length a.exprs.items)) (λ (id : ExprId). tree a id.0) x.args.items c.arguments s.arguments,
          fits_each (OperandFits (length names) (length a.exprs.items)) (operand_of names (tree a)) x.operands.items c.operands s.operands,
        ),
        rw (mods, args, operands, place) (ap (λ n. gate_call c.changes n (trees c.arguments) c.operands (place_of_call c.changes c.name) (place_of_call c.changes c.name)) s.name.1),
      )
