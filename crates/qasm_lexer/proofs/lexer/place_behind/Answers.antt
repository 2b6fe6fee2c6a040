use Rattle.std.proofs.Common.{◌∙◌, arith}
use Rattle.qasm_lexer.proofs.Cutting.{chars_cut, cut_shorter}
use Rattle.qasm_lexer.proofs.Places.{place_line, place_column}
use Rattle.qasm_lexer.proofs.lexer.place_behind.Goals as goal

pub overflow_add-at : goal.overflow_add-at
overflow_add-at c = omega (arith, cut_shorter c.in-Some.ensures)

pub overflow_add-at-else-first-eq10 : goal.overflow_add-at-else-first-eq10
overflow_add-at-else-first-eq10 c = omega (arith, cut_shorter c.in-Some.ensures)

pub loop-first-smaller-then-first-eq10 : goal.loop-first-smaller-then-first-eq10
loop-first-smaller-then-first-eq10 c = cut_shorter c.in-Some.ensures

pub loop-first-preserved-then-first-eq10 : goal.loop-first-preserved-then-first-eq10
loop-first-preserved-then-first-eq10 c =
    let shorter = cut_shorter c.in-Some.ensures in (
      c.in-Some.ensures.rest_utf8,
      record {
        same = place_line c.loop-first.at _ _ _ (chars_cut c.in-Some.ensures) c.if-first-eq10.true ∙ c.loop-first.invariant.1.same;
        line = omega (arith, shorter);
        column = omega (arith, shorter);
      },
    )

pub loop-first-smaller : goal.loop-first-smaller
loop-first-smaller c = cut_shorter c.in-Some.ensures

pub loop-first-preserved : goal.loop-first-preserved
loop-first-preserved c =
    let shorter = cut_shorter c.in-Some.ensures in (
      c.in-Some.ensures.rest_utf8,
      record {
        same = place_column c.loop-first.at _ _ _ (chars_cut c.in-Some.ensures) c.if-first-eq10.false ∙ c.loop-first.invariant.1.same;
        line = omega (arith, shorter);
        column = omega (arith, shorter);
      },
    )
