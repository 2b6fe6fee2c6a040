-- A word is told by its tag, and the kind of a word is its tag and ten.
use Rattle.std.proofs.Common.{◌≡◌, ℕ, ◌+◌, refl, sym, ap, ◌∙◌, arith}
use Rattle.std.specs.Prelude.{◌==◌}
use Rattle.std.proofs.lemmas.Bool.Decides.{nat_tests}
use denote.Enum.Declared.{tag_of}
use Rattle.qasm_lexer.specs.contracts.token.Keyword.{the_type}
use Rattle.qasm_lexer.specs.declared.token.Keyword.{Keyword}
use Rattle.qasm_lexer.specs.declared.token.Keyword.TheVariants as k
use Rattle.qasm_lexer.specs.declared.token.TokenKind.TheVariants as t
use Rattle.qasm_expr.specs.TokenKinds.{keyword_kind}
use Rattle.qasm_parser.specs.Kinds as kinds
use Rattle.qasm_parser.proofs.kinds.is_word.Goals as goal

tagged : (word : Keyword) → keyword_kind word ≡ tag_of the_type word + 10
tagged k.OpenQasm = refl
tagged _ = refl

shifted : (m n : ℕ) → (m == n) ≡ ((m + 10) == (n + 10))
shifted m n = grind (arith, nat_tests)

pub returns-in-Word : goal.returns-in-Word
returns-in-Word c =
    c.eq.ensures
    ∙ shifted (tag_of the_type c.in-Word.found) (tag_of the_type c.args.word)
    ∙ ap (λ n. n == (tag_of the_type c.args.word + 10)) (sym (tagged c.in-Word.found))
    ∙ ap (λ n. keyword_kind c.in-Word.found == n) (sym (tagged c.args.word))
    ∙ sym (ap (λ kind. kinds.is_word kind c.args.word) c.in-Word.is)
