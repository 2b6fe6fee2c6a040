use Rattle.std.proofs.Common.{below_more, arith}
use Rattle.qasm_lexer.proofs.TableLemmas.{mark_here, mark_not_here, no_mark, first_is_longest}
use Rattle.qasm_lexer.proofs.tables.first_mark.Goals as goal

pub returns-in-Some : goal.returns-in-Some
returns-in-Some c =
    let found = c.in-Some.ensures.cases in
    (mark_here _ _ _ _ found.0 c.utf8.text c.mark_spelling.ensures found.1.0 found.1.1 found.1.2 found.2, first_is_longest _ _ c.loop-mark-test.true c.loop-mark.invariant)

pub loop-mark-preserved : goal.loop-mark-preserved
loop-mark-preserved c =
    below_more _ _ c.loop-mark.invariant (mark_not_here _ _ _ c.utf8.text c.mark_spelling.ensures c.in_default.ensures.cases)

pub returns : goal.returns
returns c = no_mark _ (λ k lt. c.loop-mark.invariant k (omega arith))
