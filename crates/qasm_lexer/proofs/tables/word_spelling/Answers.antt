use Rattle.std.proofs.Common.{◌≡◌, sym, ap, ◌∙◌, refl, ◌∷◌, []}
use Rattle.qasm_lexer.specs.Tables.{word_spelling}
use lib.Utf8.{encode, encodes}
use Rattle.qasm_lexer.proofs.tables.word_spelling.Goals as goal

-- `ℇ` takes three bytes
euler_bytes : 226 ∷ 132 ∷ 135 ∷ [] ≡ encodes (0x2107 ∷ [])
unfolding encode
euler_bytes = refl

pub returns-in-EulerSign : goal.returns-in-EulerSign
returns-in-EulerSign c = euler_bytes ∙ ap (λ w. encodes (word_spelling w)) (sym c.in-EulerSign.is)
