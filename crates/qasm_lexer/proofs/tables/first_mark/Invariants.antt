use Rattle.std.specs.Str.{chars}
use Rattle.qasm_lexer.proofs.TableLemmas.{NoneBelow}
use Rattle.qasm_lexer.proofs.tables.first_mark.Given as goal

-- none of the marks so far begins the text
abbrev pub invariant-loop-mark : goal.invariant-loop-mark
invariant-loop-mark l = NoneBelow (chars l.text) l.mark-index
