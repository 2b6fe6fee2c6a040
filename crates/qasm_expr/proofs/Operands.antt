-- What the readers of types and of operands give, by the token that stands first.
use Rattle.std.proofs.Common.{◌≡◌, ℕ, ◌+◌, ◌≤◌, true, false, List, [], ◌∷◌, length, drop, Option, Some, None, Ok, Err, refl, sym, ap, subst, ◌∙◌}
use Rattle.std.specs.Prelude.{MatchOption}
use Rattle.qq_base.specs.declared.refusal.Span.{Span}
use Rattle.qasm_lexer.specs.declared.token.Token.{Token}
use Rattle.qasm_lexer.specs.declared.token.Mark.TheVariants as m
use Rattle.qasm_ast.specs.declared.expr.ExprKind.{ExprKind}
use Rattle.qasm_ast.specs.declared.expr.Base.{Base}
use Rattle.qasm_ast.specs.declared.expr.Base.TheVariants as b
use Rattle.qasm_ast.specs.Tree.{Tree, absent, present}
use Rattle.grammar_parts.specs.Reading.{Reader, syntax, done, ◌>>=◌, choose, taken, take_one, heads}
use Rattle.grammar_parts.specs.Kinds.{among, with_token, picked, kinds_of, is_some}
use Rattle.grammar_parts.proofs.Sets.{heads_by}
use Rattle.qasm_expr.specs.TokenKinds.{mark_kind, kind}
use Rattle.qasm_expr.specs.Grammar.{plain_types, sized_types, scalar, literal_of}
use Rattle.qasm_expr.specs.Reader.{literal_kinds, begins, read_width, read_type}
use Rattle.qasm_expr.specs.Seen.{Literal, head_in}
use Rattle.qasm_expr.proofs.Chains.{Found, found_at, heads_some, heads_none}
use Rattle.qasm_expr.proofs.Tokens.{tells_literal}
use Rattle.qasm_expr.proofs.Fits.{plain_base, IsSized, sized_base}

module _ (text : List ℕ) where
  -- a literal that is read begins with the kind of a literal
  pub literal_ahead : (ts rest : List Token) (a : Tree) → take_one (literal_of text) ts ≡ Ok (a, rest) → heads (among (kind text) literal_kinds) ts ≡ true
  literal_ahead [] rest a h = absurd (cc)
  literal_ahead (x ∷ ts) rest a h = heads_by (kind text) (tells_literal text) (x ∷ ts) ∙ some_of (literal_of text x) h
    where
      some_of : (o : Option Tree) → taken x ts o ≡ Ok (a, rest) → is_some o ≡ true
      some_of (Some b) h = refl
      some_of None h = absurd (cc)

  module _ (tokens : List Token) (from : ℕ) (o : Option (ExprKind × Span)) where
    -- what is known where a literal may stand at this place
    abbrev pub Literals : Option (ExprKind × Span) → Type 0
    Literals found = MatchOption found (heads (among (kind text) literal_kinds) (drop from tokens) ≡ false) (λ p. Literal text tokens from p.0 p.1)

    pub literal_some : (p : ExprKind × Span) → o ≡ Some p → Literals o → Literal text tokens from p.0 p.1
    literal_some p e h = subst Literals e h

    pub literal_none : o ≡ None → Literals o → heads (among (kind text) literal_kinds) (drop from tokens) ≡ false
    literal_none e h = subst Literals e h

  pub none_picked : {A : Type 0} (rows : List (ℕ × A)) (ts : List Token) → head_in text rows ts ≡ None → take_one (picked (kind text) rows) ts ≡ Err (syntax ts)
  none_picked rows [] h = refl
  none_picked rows (x ∷ ts) h = ap (λ o. taken x ts (with_token x o)) h

  -- ---- types

  module _ (room : ℕ) (inner : Reader Token Tree) (tokens : List Token) (from : ℕ) where
    -- a type that has no width
    pub record Plain (base : Base) : Type 0 where
      pub token : Token
      pub here : drop from tokens ≡ token ∷ drop (from + 1) tokens
      pub inside : from + 1 ≤ length tokens
      pub bool : base ≡ b.Bool
      pub same : read_type text room inner (drop from tokens) ≡ Ok (scalar base absent token.at, drop (from + 1) tokens)

    pub plain_ahead : (base : Base) → from ≤ length tokens → head_in text plain_types (drop from tokens) ≡ Some base → Plain base
    unfolding read_type
    plain_ahead base le h = at_token (found_at text plain_types tokens from base le refl h)
      where
        at_token : Found text plain_types tokens from base → Plain base
        at_token f = record { token = f.token; here = f.here; inside = f.inside; bool = plain_base (kind text f.token) base (sym (ap (head_in text plain_types) f.here) ∙ h); same = rw (f.here, subst (λ l. heads (among (kind text) (kinds_of plain_types)) l ≡ true) f.here (heads_some text plain_types (drop from tokens) base refl h), f.is) refl }

    -- a type that may have a width, and the width, which is left to read
    pub record Wide (base : Base) : Type 0 where
      pub token : Token
      pub here : drop from tokens ≡ token ∷ drop (from + 1) tokens
      pub inside : from + 1 ≤ length tokens
      pub sized : IsSized base
      pub same : read_type text room inner (drop from tokens) ≡ choose (begins text (mark_kind m.LeftBracket ∷ [])) (read_width text room inner >>= (λ e. done (scalar base (present e) token.at))) (done (scalar base absent token.at)) (drop (from + 1) tokens)

    module _ (none : head_in text plain_types (drop from tokens) ≡ None) where
      pub wide_ahead : (base : Base) → from ≤ length tokens → head_in text sized_types (drop from tokens) ≡ Some base → Wide base
      unfolding read_type
      wide_ahead base le h = at_token (found_at text sized_types tokens from base le refl h)
        where
          at_token : Found text sized_types tokens from base → Wide base
          at_token f = record {
            token = f.token;
            here = f.here;
            inside = f.inside;
            sized = sized_base (kind text f.token) base (sym (ap (head_in text sized_types) f.here) ∙ h);
            same = rw (f.here, subst (λ l. heads (among (kind text) (kinds_of plain_types)) l ≡ false) f.here (heads_none text plain_types (drop from tokens) none), f.is) refl;
          }

      pub no_type : head_in text sized_types (drop from tokens) ≡ None → read_type text room inner (drop from tokens) ≡ Err (syntax (drop from tokens))
      unfolding read_type
      no_type h = rw (heads_none text plain_types (drop from tokens) none, none_picked sized_types (drop from tokens) h) refl
