-- What the readers of single productions give, step by step, over plain lists.
use Rattle.std.proofs.Common.{◌≡◌, ℕ, zero, suc, ◌+◌, ◌-◌, ◌≤◌, ◌<◌, true, false, cond, List, [], ◌∷◌, length, drop, get_or, Option, Some, None, Result, Ok, Err, is_ok, is_err, refl, ap, subst, ◌∙◌, lit<, arith}
use Rattle.std.specs.Prelude.{◌==◌}
use Rattle.std.proofs.lemmas.Bool.{lt-ltb, le-ltb}
use Rattle.qasm_lexer.specs.declared.token.Token.{Token}
use Rattle.qasm_lexer.specs.declared.token.Mark.TheVariants as m
use Rattle.qasm_ast.specs.declared.expr.UnaryOp.{UnaryOp}
use Rattle.qasm_ast.specs.declared.expr.BinaryOp.TheVariants as op
use Rattle.qasm_ast.specs.Tree.{Tree, unary as unary_tree, binary as binary_tree, place_of}
use Rattle.grammar_parts.specs.Reading.{Outcome, Refusal, Reader, syntax, deep, and_then, taken, heads}
use Rattle.grammar_parts.specs.Kinds.{among, found_in, picked, kinds_of, is_some, take_opening}
use Rattle.qasm_expr.specs.TokenKinds.{mark_kind, kind}
use Rattle.qasm_expr.specs.Grammar.{Rows, operators, unary_operators, Counted}
use Rattle.qasm_expr.specs.Reader.{read_opener, read_prim, read_power, read_unary_at, read_unary, read_level}
use Rattle.qasm_expr.specs.Seen.{head_kind, head_in, deeper_expr, deeper_unary, deeper_content, rows_at, first_rows}
use Rattle.qasm_expr.proofs.Places.{heads_sign, shut_yes}
use Rattle.qasm_expr.proofs.Chains.{Found, found_at, heads_some, heads_none}
use Rattle.qasm_expr.proofs.Exits.{deeper_unary_at, unary_open}

pub token_is : (tokens : List Token) (n : ℕ) (d x : Token) (rest : List Token) → drop n tokens ≡ x ∷ rest → get_or tokens n d ≡ x
token_is [] zero d x rest e = absurd (cc)
token_is [] (suc n) d x rest e = absurd (cc)
token_is (y ∷ tokens) zero d x rest e = cc
token_is (y ∷ tokens) (suc n) d x rest e = token_is tokens n d x rest e

pub opening_ok : {A : Type 0} (room : ℕ) (test : Token → Option A) (x : Token) (rest : List Token) (v : A) → 0 < room → test x ≡ Some v → take_opening room test (x ∷ rest) ≡ Ok (v, rest)
opening_ok zero test x rest v lt h = absurd (omega arith)
opening_ok (suc room) test x rest v lt h = ap (taken x rest) h

pub opening_deep : {A : Type 0} (test : Token → Option A) (x : Token) (rest : List Token) (v : A) → test x ≡ Some v → take_opening zero test (x ∷ rest) ≡ Err (deep (x ∷ rest))
opening_deep {A} test x rest v h = ap (λ b. cond {A = Outcome Token A} b (Err (deep (x ∷ rest))) (Err (syntax (x ∷ rest)))) (ap is_some h)

module _ (text : List ℕ) where
  -- ---- an operator in front of an operand

  pub record Sign (tokens : List Token) (from room used : ℕ) (o : UnaryOp) : Type 0 where
    pub token : Token
    pub here : drop from tokens ≡ token ∷ drop (from + 1) tokens
    pub inside : from + 1 ≤ length tokens
    pub same : read_unary text (Some 64) room used (drop from tokens) ≡ and_then (read_unary text (Some 64) (room - 1) used (drop (from + 1) tokens)) (λ e rest. Ok ((unary_tree o e.0 token.at, e.1), rest))

  pub sign_ahead : (tokens : List Token) (from room used : ℕ) (o : UnaryOp) → from ≤ length tokens → 0 < room → head_in text unary_operators (drop from tokens) ≡ Some o → Sign tokens from room used o
  unfolding read_unary_at
  sign_ahead tokens from room used o le lt h = at_token (found_at text unary_operators tokens from o le refl h)
    where
      at_token : Found text unary_operators tokens from o → Sign tokens from room used o
      at_token f = record { token = f.token; here = f.here; inside = f.inside; same = unary_open text room used (drop from tokens) ∙ opened f }
        where
          opened : (f : Found text unary_operators tokens from o) → read_unary_at text (Some 64) room (deeper_expr text room) (deeper_content text room) (deeper_unary text room) used (drop from tokens) ≡ and_then (read_unary text (Some 64) (room - 1) used (drop (from + 1) tokens)) (λ e rest. Ok ((unary_tree o e.0 f.token.at, e.1), rest))
          opened f = rw (f.here, subst (λ l. heads (among (kind text) (kinds_of unary_operators)) l ≡ true) f.here (heads_some text unary_operators (drop from tokens) o refl h), opening_ok room (picked (kind text) unary_operators) f.token (drop (from + 1) tokens) (o, f.token) lt f.is, deeper_unary_at text room used (drop (from + 1) tokens) lt) refl

  pub sign_shut : (tokens : List Token) (from room used : ℕ) (o : UnaryOp) → from ≤ length tokens → room ≡ 0 → head_in text unary_operators (drop from tokens) ≡ Some o → read_unary text (Some 64) room used (drop from tokens) ≡ Err (deep (drop from tokens))
  unfolding read_unary_at
  sign_shut tokens from zero used o le z h = at_token (found_at text unary_operators tokens from o le refl h)
    where
      at_token : Found text unary_operators tokens from o → read_unary text (Some 64) zero used (drop from tokens) ≡ Err (deep (drop from tokens))
      at_token f = unary_open text zero used (drop from tokens) ∙ rw (f.here, subst (λ l. heads (among (kind text) (kinds_of unary_operators)) l ≡ true) f.here (heads_some text unary_operators (drop from tokens) o refl h), opening_deep (picked (kind text) unary_operators) f.token (drop (from + 1) tokens) (o, f.token) f.is) refl
  sign_shut tokens from (suc room) used o le z h = absurd (omega arith)

  -- ---- an operand and its power

  pub no_sign : (room used : ℕ) (ts : List Token) → head_in text unary_operators ts ≡ None → read_unary text (Some 64) room used ts ≡ read_power text (Some 64) room (deeper_expr text room) (deeper_content text room) (deeper_unary text room) used ts
  unfolding read_unary_at
  no_sign room used ts h = unary_open text room used ts ∙ rw (heads_none text unary_operators ts h) refl

  module _ (room used : ℕ) (ts : List Token) (none : head_in text unary_operators ts ≡ None) where
    pub base_err : (x : Refusal Token) → read_prim text room (deeper_expr text room) (deeper_content text room) ts ≡ Err x → read_unary text (Some 64) room used ts ≡ Err x
    unfolding read_power
    base_err x h = no_sign room used ts none ∙ rw h refl

    module _ (base : Tree) (rest : List Token) (read : read_prim text room (deeper_expr text room) (deeper_content text room) ts ≡ Ok (base, rest)) where
      pub base_alone : (head_kind text rest == mark_kind m.StarStar) ≡ false → read_unary text (Some 64) room used ts ≡ Ok ((base, used), rest)
      unfolding read_power
      base_alone h = no_sign room used ts none ∙ rw (read, heads_sign text (mark_kind m.StarStar) rest false (lit< tt) h) refl

      module _ (star : (head_kind text rest == mark_kind m.StarStar) ≡ true) where
        pub power_full : 64 ≤ used → read_unary text (Some 64) room used ts ≡ Err (deep rest)
        unfolding read_power
        power_full le = no_sign room used ts none ∙ rw (read, heads_sign text (mark_kind m.StarStar) rest true (lit< tt) star, le-ltb used 64 le, shut_yes text rest (mark_kind m.StarStar) (lit< tt) star) refl

        pub power_shut : used < 64 → (x : Refusal Token) → read_opener text room (mark_kind m.StarStar) rest ≡ Err x → read_unary text (Some 64) room used ts ≡ Err x
        unfolding read_power
        power_shut lt x h = no_sign room used ts none ∙ rw (read, heads_sign text (mark_kind m.StarStar) rest true (lit< tt) star, lt-ltb used 64 lt, h) refl

        pub power_on : used < 64 → 0 < room → (x : Token) (rest' : List Token) → read_opener text room (mark_kind m.StarStar) rest ≡ Ok (x, rest') → read_unary text (Some 64) room used ts ≡ and_then (read_unary text (Some 64) (room - 1) (used + 1) rest') (λ e rest. Ok ((binary_tree op.Power base e.0 (place_of base), e.1), rest))
        unfolding read_power
        power_on lt lt' x rest' h = no_sign room used ts none ∙ rw (read, heads_sign text (mark_kind m.StarStar) rest true (lit< tt) star, lt-ltb used 64 lt, h, deeper_unary_at text room (used + 1) rest' lt') refl

-- ---- levels

-- no level lists the kind of a token that is no operator
abbrev Silent : List Rows → Type 0
Silent [] = Unit {0}
Silent (rows ∷ levels) = (found_in rows 0 ≡ None) × Silent levels

none_after : (levels : List Rows) → Silent levels → (rank : ℕ) → found_in (first_rows (drop rank levels)) 0 ≡ None
none_after [] h zero = refl
none_after [] h (suc rank) = refl
none_after (rows ∷ levels) h zero = h.0
none_after (rows ∷ levels) h (suc rank) = none_after levels h.1 rank

pub rows_none : (rank : ℕ) → found_in (rows_at rank) 0 ≡ None
rows_none rank = none_after operators (refl, (refl, (refl, (refl, (refl, (refl, (refl, (refl, (refl, (refl, tt)))))))))) rank

pub level_err : (text : List ℕ) (rows : Rows) (item : ℕ → Reader Token Counted) (used : ℕ) (ts : List Token) (x : Refusal Token) → item used ts ≡ Err x → read_level text (Some 64) rows item used ts ≡ Err x
unfolding read_level
level_err text rows item used ts x h = rw h refl

-- what a push that succeeds leaves
pub pushed : {A E X : Type 0} (r : Result A E) (old new added : List X) → new ≡ cond (is_ok r) added old → is_err r ≡ false → new ≡ added
pushed (Ok a) old new added h e = h
pushed (Err x) old new added h e = absurd (cc)
