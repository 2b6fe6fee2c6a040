-- The modifiers of a gate call. Each that is read leaves one level less for what comes behind it.
use Rattle.std.proofs.Common.{◌≡◌, ℕ, zero, suc, ◌-◌, ◌<◌, true, false, cond, List, [], ◌∷◌, ◌++◌, Some, Ok, Err, refl, sym, ap, subst, ◌∙◌, append-nil, append_assoc, arith}
use Rattle.qasm_lexer.specs.declared.token.Token.{Token}
use Rattle.qasm_lexer.specs.declared.token.Mark.TheVariants as m
use Rattle.qasm_ast.specs.declared.stmt.Modifier.{Modifier}
use Rattle.qasm_ast.specs.Tree.{Change}
use Rattle.grammar_parts.specs.Reading.{Outcome, Refusal, deep, and_then, heads}
use Rattle.qasm_expr.specs.Reader.{begins}
use Rattle.qasm_grammar.specs.Parts.{Call, with_change}
use Rattle.qasm_grammar.specs.Reader.{change_kinds, read_symbol, read_changed, read_modifier, read_modified, read_plain_call, read_call}
use Rattle.qasm_parser.specs.Shows.{Each}

-- the call with these modifiers in front
abbrev pub in_front : List Change → Call → Call
in_front hs c = record { changes = hs ++ c.changes; name = c.name; arguments = c.arguments; operands = c.operands }

-- ---- one step of a call

module _ (text : List ℕ) where
  no_change : (room : ℕ) (ts : List Token) → heads (begins text change_kinds) ts ≡ false → read_call text (Some 64) room ts ≡ read_plain_call text (Some 64) room ts
  no_change room ts h = ap (λ b. cond b (read_modified text (Some 64) room ts) (read_plain_call text (Some 64) room ts)) h

  no_room : (ts : List Token) → heads (begins text change_kinds) ts ≡ true → read_call text (Some 64) zero ts ≡ Err (deep ts)
  unfolding read_modified
  no_room [] h = absurd (cc)
  no_room (t ∷ ts) h = rw h refl

  one_change : (room : ℕ) (ts : List Token) → 0 < room → heads (begins text change_kinds) ts ≡ true → read_call text (Some 64) room ts ≡ read_changed text (read_modifier text (Some 64) (room - 1)) (read_call text (Some 64) (room - 1)) ts
  unfolding read_modified
  one_change zero ts lt h = absurd (omega arith)
  one_change (suc room) ts lt h = let e : suc room - 1 ≡ room = omega arith in
      ap (λ b. cond b (read_modified text (Some 64) (suc room) ts) (read_plain_call text (Some 64) (suc room) ts)) h
      ∙ ap (λ n. read_changed text (read_modifier text (Some 64) n) (read_call text (Some 64) n) ts) (sym e)

-- ---- the loop

-- the answer is that of the rest, with the modifiers that were found in front
abbrev rest_of_call : List ℕ → ℕ → List Change → List Token → Outcome Token Call
rest_of_call text room acc ts = and_then (read_call text (Some 64) room ts) (λ c rest. Ok (in_front acc c, rest))

pub record Changing (text : List ℕ) (R : Modifier → Change → Type 0) (out : Outcome Token Call) (found : List Modifier) (room : ℕ) (left : List Token) : Type 0 where
  pub acc : List Change
  pub sees : Each R found acc
  pub same : out ≡ rest_of_call text room acc left

nothing_in_front : (o : Outcome Token Call) → and_then o (λ c rest. Ok (in_front [] c, rest)) ≡ o
nothing_in_front (Ok r) = refl
nothing_in_front (Err x) = refl

one_in_front : (acc : List Change) (h : Change) (o : Outcome Token Call) → and_then (and_then o (λ c rest. Ok (with_change h c, rest))) (λ c rest. Ok (in_front acc c, rest)) ≡ and_then o (λ c rest. Ok (in_front (acc ++ h ∷ []) c, rest))
one_in_front acc h (Ok r) = ap (λ hs. Ok (record { changes = hs; name = r.0.name; arguments = r.0.arguments; operands = r.0.operands }, r.1)) (sym (append_assoc acc (h ∷ []) r.0.changes))
one_in_front acc h (Err x) = refl

module _ (text : List ℕ) where
  pub changing_start : (R : Modifier → Change → Type 0) (found : List Modifier) (room : ℕ) (left : List Token) → found ≡ [] → Changing text R (read_call text (Some 64) room left) found room left
  changing_start R found room left e = record { acc = []; sees = subst (λ l. Each R l []) (sym e) tt; same = sym (nothing_in_front (read_call text (Some 64) room left)) }

  module _ {R : Modifier → Change → Type 0} {out : Outcome Token Call} {found : List Modifier} {room : ℕ} {left : List Token} (g : Changing text R out found room left) where
    module _ (h : heads (begins text change_kinds) left ≡ true) where
      pub changing_full : room ≡ 0 → out ≡ Err (deep left)
      changing_full e = g.same ∙ ap (λ n. rest_of_call text n g.acc left) e ∙ rw (no_room text left h) refl

      module _ (lt : 0 < room) where
        pub changing_err : (x : Refusal Token) → read_modifier text (Some 64) (room - 1) left ≡ Err x → out ≡ Err x
        changing_err x e = g.same ∙ rw (one_change text room left lt h, e) refl

        module _ (b : Change) (rest : List Token) (read : read_modifier text (Some 64) (room - 1) left ≡ Ok (b, rest)) where
          pub changing_at : (x : Refusal Token) → read_symbol text m.At rest ≡ Err x → out ≡ Err x
          changing_at x e = g.same ∙ rw (one_change text room left lt h, read, e) refl

          pub changing_more : (S : Modifier → Change → Type 0) (next : List Token) (s : Token) (found' : List Modifier) → Each S found' (g.acc ++ b ∷ []) → read_symbol text m.At rest ≡ Ok (s, next) → Changing text S out found' (room - 1) next
          changing_more S next s found' seen e = record {
            acc = g.acc ++ b ∷ [];
            sees = seen;
            same = g.same ∙ rw (one_change text room left lt h, read, e) (one_in_front g.acc b (read_call text (Some 64) (room - 1) next));
          }

    module _ (h : heads (begins text change_kinds) left ≡ false) where
      pub changing_plain : (x : Refusal Token) → read_plain_call text (Some 64) room left ≡ Err x → out ≡ Err x
      changing_plain x e = g.same ∙ rw (no_change text room left h, e) refl

      -- a call without modifiers ends it
      pub changing_end : (c : Call) (rest : List Token) → c.changes ≡ [] → read_plain_call text (Some 64) room left ≡ Ok (c, rest) → out ≡ Ok (record { changes = g.acc; name = c.name; arguments = c.arguments; operands = c.operands }, rest)
      changing_end c rest none e =
          g.same ∙ rw (no_change text room left h, e) refl
          ∙ ap (λ hs. Ok (record { changes = g.acc ++ hs; name = c.name; arguments = c.arguments; operands = c.operands }, rest)) none
          ∙ ap (λ hs. Ok (record { changes = hs; name = c.name; arguments = c.arguments; operands = c.operands }, rest)) (append-nil g.acc)
