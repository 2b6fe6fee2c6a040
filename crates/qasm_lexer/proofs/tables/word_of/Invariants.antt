use Rattle.std.proofs.Common.{◌≡◌, ℕ, ◌<◌, get_or}
use Rattle.std.specs.Str.{chars}
use Rattle.qasm_lexer.specs.Tables.{word_spelling}
use Rattle.qasm_lexer.specs.declared.token.Keyword.TheVariants.{OpenQasm}
use Rattle.qasm_lexer.proofs.TableRows.{words}
use Rattle.qasm_lexer.proofs.tables.word_of.Given as goal

-- none of the words so far is the text
abbrev pub invariant-loop-word : goal.invariant-loop-word
invariant-loop-word l = (k : ℕ) → k < l.word-index → ¬ (chars l.text ≡ word_spelling (get_or words k OpenQasm))
