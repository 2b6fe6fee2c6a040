-- Literals and names, by their tokens.
use Rattle.std.proofs.Common.{◌≡◌, ℕ, zero, suc, ◌+◌, ◌≤◌, ◌<◌, Bool, true, false, ◌||◌, List, [], ◌∷◌, length, drop, get_or, map, Option, Some, None, Ok, Err, refl, sym, ap, subst, ◌∙◌, add-one, drop-cons, arith}
use Rattle.std.specs.Prelude.{◌==◌, filter}
use Rattle.std.proofs.lemmas.Bool.{eqb-true, ne_eqb}
use Rattle.qq_base.specs.declared.refusal.Span.{Span}
use Rattle.qasm_lexer.specs.declared.token.Token.{Token}
use Rattle.qasm_lexer.specs.declared.token.TokenKind.{TokenKind}
use Rattle.qasm_lexer.specs.declared.token.TokenKind.TheVariants as t
use Rattle.qasm_lexer.specs.declared.token.Keyword.TheVariants as k
use Rattle.qasm_ast.specs.declared.expr.ExprKind.{ExprKind}
use Rattle.qasm_ast.specs.declared.expr.ExprKind.TheVariants as e
use Rattle.qasm_ast.specs.Tree.{Tree, number, wire, truth, bit_string}
use Rattle.qasm_ast.specs.Whole.{ExprFits}
use Rattle.grammar_parts.specs.Reading.{heads, taken, take_one, syntax}
use Rattle.grammar_parts.specs.Kinds.{among, is_some}
use Rattle.grammar_parts.proofs.Sets.{heads_by}
use Rattle.qasm_lexer.specs.Sizes.{bytes_of}
use Rattle.qasm_expr.specs.TokenKinds.{with_bit, bits_from, bits_of, kind}
use Rattle.qasm_expr.specs.Grammar.{bits_literal, literal_at, literal_of, name_at, name_of}
use Rattle.qasm_expr.specs.Reader.{literal_kinds}
use Rattle.qasm_expr.specs.Seen.{Literal, IsLeaf, plain_literal, is_text, is_name}
use Rattle.qasm_expr.proofs.Tokens.{tells_literal}

-- ---- the bits of a bit string are its digits

abbrev is_digit : ℕ → Bool
is_digit b = (b == 48) || (b == 49)

abbrev digits : List ℕ → List Bool
digits s = map (λ b. b == 49) (filter is_digit s)

some_same : (a b : List Bool) → Some a ≡ Some b → a ≡ b
some_same a b e = cc

from_with : (b : Bool) (o : Option (List Bool)) (bits : List Bool) → with_bit b o ≡ Some bits → (rest : List Bool) × (o ≡ Some rest) × (bits ≡ b ∷ rest)
from_with b None bits e = absurd (cc)
from_with b (Some rest) bits e = (rest, refl, sym (some_same (b ∷ rest) bits e))

abbrev Later : List ℕ → Type 0
Later s = (d : Bool) (b : List Bool) → bits_from d s ≡ Some b → digits s ≡ b

module _ (digit : Bool) (c : ℕ) (s : List ℕ) (bits : List Bool) (later : Later s) where
  at_zero : (c == 48) ≡ true → bits_from digit (c ∷ s) ≡ Some bits → digits (c ∷ s) ≡ bits
  at_zero h e =
      let is : c ≡ 48 = eqb-true c 48 h in
      let other : (c == 49) ≡ false = ne_eqb c 49 (λ k. absurd (omega arith)) in
      let r = from_with false (bits_from false s) bits (rw h at e) in
      rw (h, other) (ap (λ l. false ∷ l) (later false r.0 r.1) ∙ sym r.2)

  at_one : (c == 48) ≡ false → (c == 49) ≡ true → bits_from digit (c ∷ s) ≡ Some bits → digits (c ∷ s) ≡ bits
  at_one z h e =
      let r = from_with true (bits_from false s) bits (rw (z, h) at e) in
      rw (z, h, h) (ap (λ l. true ∷ l) (later false r.0 r.1) ∙ sym r.2)

at_line : (c : ℕ) (s : List ℕ) (bits : List Bool) → Later s → (c == 48) ≡ false → (c == 49) ≡ false → (c == 95) ≡ true → bits_from false (c ∷ s) ≡ Some bits → digits (c ∷ s) ≡ bits
at_line c s bits later z o h e = let e' : bits_from true s ≡ Some bits = rw (z, o, h) at e in rw (z, o) (later true bits e')

at_quote : (c : ℕ) (s : List ℕ) (bits : List Bool) → (c == 48) ≡ false → (c == 49) ≡ false → (c == 95) ≡ false → (q : Bool) → (c == 34) ≡ q → bits_from false (c ∷ s) ≡ Some bits → digits (c ∷ s) ≡ bits
at_quote c [] bits z o l true h e = let e' : Some [] ≡ Some bits = rw (z, o, l, h) at e in rw (z, o) (some_same [] bits e')
at_quote c (d ∷ s) bits z o l true h e = let e' : None ≡ Some bits = rw (z, o, l, h) at e in absurd (cc)
at_quote c s bits z o l false h e = let e' : None ≡ Some bits = rw (z, o, l, h) at e in absurd (cc)

no_digit : (c : ℕ) (s : List ℕ) (bits : List Bool) → (c == 48) ≡ false → (c == 49) ≡ false → bits_from true (c ∷ s) ≡ Some bits → ⊥
no_digit c s bits z o e = let e' : None ≡ Some bits = rw (z, o) at e in cc

by_cases : (digit : Bool) (c : ℕ) (s : List ℕ) (bits : List Bool) → Later s → (z : Bool) → (c == 48) ≡ z → (o : Bool) → (c == 49) ≡ o → (l : Bool) → (c == 95) ≡ l → bits_from digit (c ∷ s) ≡ Some bits → digits (c ∷ s) ≡ bits
by_cases digit c s bits later true z o ho l hl e = at_zero digit c s bits later z e
by_cases digit c s bits later false z true ho l hl e = at_one digit c s bits later z ho e
by_cases true c s bits later false z false ho l hl e = absurd (no_digit c s bits z ho e)
by_cases false c s bits later false z false ho true hl e = at_line c s bits later z ho hl e
by_cases false c s bits later false z false ho false hl e = at_quote c s bits z ho hl (c == 34) refl e

pub bits-digits : (digit : Bool) (s : List ℕ) (bits : List Bool) → bits_from digit s ≡ Some bits → digits s ≡ bits
bits-digits digit [] bits e = absurd (cc)
bits-digits digit (c ∷ s) bits e = by_cases digit c s bits (λ d b h. bits-digits d s b h) (c == 48) refl (c == 49) refl (c == 95) refl e

pub string-digits : (s : List ℕ) → is_some (bits_of s) ≡ true → bits_of s ≡ Some (digits s)
string-digits [] e = absurd (cc)
string-digits (c ∷ s) e = at_quote_mark (c == 34) refl
  where
    some_of : (o : Option (List Bool)) → is_some o ≡ true → (b : List Bool) × (o ≡ Some b)
    some_of None h = absurd (cc)
    some_of (Some b) h = (b, refl)

    at_quote_mark : (q : Bool) → (c == 34) ≡ q → bits_of (c ∷ s) ≡ Some (digits (c ∷ s))
    at_quote_mark true h =
        let is : c ≡ 34 = eqb-true c 34 h in
        let z : (c == 48) ≡ false = ne_eqb c 48 (λ k. absurd (omega arith)) in
        let o : (c == 49) ≡ false = ne_eqb c 49 (λ k. absurd (omega arith)) in
        let e' : is_some (bits_from true s) ≡ true = rw h at e in
        let b = some_of (bits_from true s) e' in
        rw (h, z, o) (b.1 ∙ ap (λ l. Some l) (sym (bits-digits true s b.0 b.1)))
    at_quote_mark false h = let e' : false ≡ true = rw h at e in absurd (cc)

-- ---- literals

kind_same : (a b : ExprKind) → Some a ≡ Some b → a ≡ b
kind_same a b e = cc

-- a node of this kind, whatever the kind is written as
moved : (kind' kind'' : ExprKind) (place : Span) (a : Tree) → kind' ≡ kind'' → IsLeaf kind' place a → IsLeaf kind'' place a
moved kind' kind'' place a e leaf = subst (λ z. IsLeaf z place a) e leaf

fits_moved : (kind' kind'' : ExprKind) → kind' ≡ kind'' → ((names n : ℕ) → ExprFits names n kind') → (names n : ℕ) → ExprFits names n kind''
fits_moved kind' kind'' e f = subst (λ z. (names n : ℕ) → ExprFits names n z) e f

module _ (text : List ℕ) where
  pub record Read (x : Token) (kd : TokenKind) (kind' : ExprKind) : Type 0 where
    pub tree : Tree
    pub found : literal_at text x kd ≡ Some tree
    pub leaf : IsLeaf kind' x.at tree
    pub fits : (names n : ℕ) → ExprFits names n kind'

  pub plain_read : (x : Token) (kd : TokenKind) (kind' : ExprKind) → plain_literal kd ≡ Some kind' → Read x kd kind'
  plain_read x (t.Whole n) kind' w = let h : e.Whole n ≡ kind' = kind_same (e.Whole n) kind' w in record { tree = number n x.at; found = refl; leaf = moved (e.Whole n) kind' x.at (number n x.at) h (λ names nodes id s. s); fits = fits_moved (e.Whole n) kind' h (λ names m. tt) }
  plain_read x (t.Hardware n) kind' w = let h : e.Hardware n ≡ kind' = kind_same (e.Hardware n) kind' w in record { tree = wire n x.at; found = refl; leaf = moved (e.Hardware n) kind' x.at (wire n x.at) h (λ names nodes id s. s); fits = fits_moved (e.Hardware n) kind' h (λ names m. tt) }
  plain_read x (t.Word k.True) kind' w = let h : e.Truth true ≡ kind' = kind_same (e.Truth true) kind' w in record { tree = truth true x.at; found = refl; leaf = moved (e.Truth true) kind' x.at (truth true x.at) h (λ names nodes id s. s); fits = fits_moved (e.Truth true) kind' h (λ names m. tt) }
  plain_read x (t.Word k.False) kind' w = let h : e.Truth false ≡ kind' = kind_same (e.Truth false) kind' w in record { tree = truth false x.at; found = refl; leaf = moved (e.Truth false) kind' x.at (truth false x.at) h (λ names nodes id s. s); fits = fits_moved (e.Truth false) kind' h (λ names m. tt) }
  plain_read x _ kind' w = absurd (cc)

  pub plain_none : (x : Token) (kd : TokenKind) → is_text kd ≡ false → plain_literal kd ≡ None → literal_at text x kd ≡ None
  plain_none x (t.Whole n) h w = absurd (cc)
  plain_none x (t.Hardware n) h w = absurd (cc)
  plain_none x t.Text h w = absurd (cc)
  plain_none x (t.Word k.True) h w = absurd (cc)
  plain_none x (t.Word k.False) h w = absurd (cc)
  plain_none x _ h w = refl

  pub text_read : (x : Token) (kd : TokenKind) (bits : List Bool) → is_text kd ≡ true → bits_of (bytes_of text x) ≡ Some bits → length bits ≤ 4096 → Read x kd (e.Bits bits)
  text_read x t.Text bits h b le = record { tree = bit_string bits x.at; found = ap (bits_literal text x.at) b; leaf = λ names nodes id s. s; fits = λ names n. le }
  text_read x _ bits h b le = absurd (cc)

  pub text_none : (x : Token) (kd : TokenKind) → is_text kd ≡ true → bits_of (bytes_of text x) ≡ None → literal_at text x kd ≡ None
  text_none x t.Text h b = ap (bits_literal text x.at) b
  text_none x _ h b = absurd (cc)

  -- what stands at a place
  here : (tokens : List Token) (from : ℕ) (x d : Token) → from < length tokens → x ≡ get_or tokens from d → drop from tokens ≡ x ∷ drop (from + 1) tokens
  here tokens from x d lt e = rw (add-one, drop-cons tokens from d) (ap (λ z. z ∷ drop (suc from) tokens) (sym e))

  pub literal_found : (tokens : List Token) (from : ℕ) (x d : Token) (kind' : ExprKind) → from < length tokens → x ≡ get_or tokens from d → Read x x.kind kind' → Literal text tokens from kind' x.at
  literal_found tokens from x d kind' lt e r = record {
    tree = r.tree;
    leaf = r.leaf;
    read = ap (take_one (literal_of text)) (here tokens from x d lt e) ∙ ap (taken x (drop (from + 1) tokens)) r.found;
    inside = lt;
    fits = r.fits;
  }

  pub literal_missing : (tokens : List Token) (from : ℕ) (x d : Token) → from < length tokens → x ≡ get_or tokens from d → literal_at text x x.kind ≡ None → heads (among (kind text) literal_kinds) (drop from tokens) ≡ false
  literal_missing tokens from x d lt e n =
      ap (heads (among (kind text) literal_kinds)) (here tokens from x d lt e) ∙ heads_by (kind text) (tells_literal text) (x ∷ drop (from + 1) tokens) ∙ ap is_some n

  pub literal_behind : (tokens : List Token) (from : ℕ) → from ≡ length tokens → heads (among (kind text) literal_kinds) (drop from tokens) ≡ false
  literal_behind tokens from e = ap (heads (among (kind text) literal_kinds)) (none tokens from e)
    where
      none : {T : Type 0} (xs : List T) (n : ℕ) → n ≡ length xs → drop n xs ≡ []
      none [] zero e = refl
      none [] (suc n) e = refl
      none (x ∷ xs) zero e = absurd (omega arith)
      none (x ∷ xs) (suc n) e = none xs n (omega arith)

  -- ---- names

  name_yes : (x : Token) (kd : TokenKind) → is_name kd ≡ true → name_at text x kd ≡ Some (bytes_of text x, x.at)
  name_yes x t.Name h = refl
  name_yes x _ h = absurd (cc)

  name_no : (x : Token) (kd : TokenKind) → is_name kd ≡ false → name_at text x kd ≡ None
  name_no x t.Name h = absurd (cc)
  name_no x _ h = refl

  pub is_name-true : (kd : TokenKind) → is_name kd ≡ true → kd ≡ t.Name
  is_name-true t.Name h = refl
  is_name-true _ h = absurd (cc)

  pub name_found : (tokens : List Token) (from : ℕ) (x d : Token) → from < length tokens → x ≡ get_or tokens from d → is_name x.kind ≡ true → take_one (name_of text) (drop from tokens) ≡ Ok ((bytes_of text x, x.at), drop (from + 1) tokens)
  name_found tokens from x d lt e h = ap (take_one (name_of text)) (here tokens from x d lt e) ∙ ap (taken x (drop (from + 1) tokens)) (name_yes x x.kind h)

  pub name_missing : (tokens : List Token) (from : ℕ) (x d : Token) → from < length tokens → x ≡ get_or tokens from d → is_name x.kind ≡ false → take_one (name_of text) (drop from tokens) ≡ Err (syntax (drop from tokens))
  name_missing tokens from x d lt e h =
      let cut = here tokens from x d lt e in
      ap (take_one (name_of text)) cut ∙ ap (taken x (drop (from + 1) tokens)) (name_no x x.kind h) ∙ ap (λ l. Err (syntax l)) (sym cut)
