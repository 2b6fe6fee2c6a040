use Rattle.std.proofs.Common.{below_more, arith}
use Rattle.qasm_lexer.proofs.TableLemmas.{word_here, word_not_here, no_word}
use Rattle.qasm_lexer.proofs.tables.word_of.Goals as goal

pub returns-then-eq : goal.returns-then-eq
returns-then-eq c = word_here _ _ _ _ c.eq.ensures c.word_spelling.ensures c.if-eq.true

pub loop-word-preserved : goal.loop-word-preserved
loop-word-preserved c =
    below_more _ _ c.loop-word.invariant (word_not_here _ _ _ _ c.utf8.text c.eq.ensures c.word_spelling.ensures c.if-eq.false)

pub returns : goal.returns
returns c = no_word _ (λ k lt. c.loop-word.invariant k (omega arith))
