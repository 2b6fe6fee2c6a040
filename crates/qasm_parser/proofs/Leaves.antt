-- Literals, by their tokens.
use Rattle.std.proofs.Common.{◌≡◌, ℕ, ◌≤◌, Bool, true, false, List, length, Option, Some, None, refl, sym, ap, subst}
use Rattle.qasm_lexer.specs.declared.token.Token.{Token}
use Rattle.qasm_lexer.specs.declared.token.TokenKind.{TokenKind}
use Rattle.qasm_lexer.specs.declared.token.TokenKind.TheVariants as t
use Rattle.qasm_lexer.specs.declared.token.Keyword.TheVariants as k
use Rattle.qasm_ast.specs.declared.expr.ExprKind.{ExprKind}
use Rattle.qasm_ast.specs.declared.expr.ExprKind.TheVariants as e
use Rattle.qasm_ast.specs.Tree.{number, wire, truth, bit_string}
use Rattle.qasm_lexer.specs.Sizes.{bytes_of}
use Rattle.qasm_expr.specs.TokenKinds.{bits_of}
use Rattle.qasm_expr.specs.Grammar.{bits_literal, literal_at, name_at}
use Rattle.qasm_expr.specs.Seen.{plain_literal, is_text}
use Rattle.qasm_parser.specs.Kinds.{is_name}
use Rattle.qasm_parser.specs.Shows.{Leaf, IsLeaf}

module _ (text : List ℕ) (x : Token) where
  same_leaf : (kd : TokenKind) (kind kind' : ExprKind) → Some kind ≡ Some kind' → Leaf text x kd kind → Leaf text x kd kind'
  same_leaf kd kind kind' some l = let same : kind ≡ kind' = cc in subst (λ z. Leaf text x kd z) same l

  pub plain_leaf : (kd : TokenKind) (kind : ExprKind) → plain_literal kd ≡ Some kind → Leaf text x kd kind
  plain_leaf (t.Whole n) kind w = same_leaf (t.Whole n) (e.Whole n) kind w (record { tree = number n x.at; is = refl; shown = λ names sub. refl; fits = λ names m. tt })
  plain_leaf (t.Hardware n) kind w = same_leaf (t.Hardware n) (e.Hardware n) kind w (record { tree = wire n x.at; is = refl; shown = λ names sub. refl; fits = λ names m. tt })
  plain_leaf (t.Word k.True) kind w = same_leaf (t.Word k.True) (e.Truth true) kind w (record { tree = truth true x.at; is = refl; shown = λ names sub. refl; fits = λ names m. tt })
  plain_leaf (t.Word k.False) kind w = same_leaf (t.Word k.False) (e.Truth false) kind w (record { tree = truth false x.at; is = refl; shown = λ names sub. refl; fits = λ names m. tt })
  plain_leaf _ kind w = absurd (cc)

  pub plain_none : (kd : TokenKind) → is_text kd ≡ false → plain_literal kd ≡ None → literal_at text x kd ≡ None
  plain_none (t.Whole n) h w = absurd (cc)
  plain_none (t.Hardware n) h w = absurd (cc)
  plain_none t.Text h w = absurd (cc)
  plain_none (t.Word k.True) h w = absurd (cc)
  plain_none (t.Word k.False) h w = absurd (cc)
  plain_none _ h w = refl

  pub text_leaf : (kd : TokenKind) (bits : List Bool) → is_text kd ≡ true → bits_of (bytes_of text x) ≡ Some bits → length bits ≤ 4096 → Leaf text x kd (e.Bits bits)
  text_leaf t.Text bits h b le = record { tree = bit_string bits x.at; is = ap (bits_literal text x.at) b; shown = λ names sub. refl; fits = λ names n. le }
  text_leaf _ bits h b le = absurd (cc)

  pub text_none : (kd : TokenKind) → is_text kd ≡ true → bits_of (bytes_of text x) ≡ None → literal_at text x kd ≡ None
  text_none t.Text h b = ap (bits_literal text x.at) b
  text_none _ h b = absurd (cc)

  -- ---- names

  pub name_yes : (kd : TokenKind) → is_name kd ≡ true → name_at text x kd ≡ Some (bytes_of text x, x.at)
  name_yes t.Name h = refl
  name_yes _ h = absurd (cc)

  pub name_no : (kd : TokenKind) → is_name kd ≡ false → name_at text x kd ≡ None
  name_no t.Name h = absurd (cc)
  name_no _ h = refl

  pub name_is : (kd : TokenKind) → is_name kd ≡ true → kd ≡ t.Name
  name_is t.Name h = refl
  name_is _ h = absurd (cc)

pub plain_is_leaf : (text : List ℕ) (x : Token) (o : Option ExprKind) → o ≡ plain_literal x.kind → is_text x.kind ≡ false → IsLeaf text x o
plain_is_leaf text x None same h = plain_none text x x.kind h (sym same)
plain_is_leaf text x (Some kind) same h = plain_leaf text x x.kind kind (sym same)
