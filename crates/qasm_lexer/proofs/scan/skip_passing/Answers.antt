use Rattle.std.proofs.Common.{◌∙◌, sym}
use Rattle.qasm_lexer.specs.Scan.{passes}
use Rattle.qasm_lexer.proofs.Cutting.{chars_cut, cut_shorter}
use Rattle.qasm_lexer.proofs.Passing.{passed_none, passed_one, skips_end, stops_cons}
use Rattle.qasm_lexer.proofs.scan.skip_passing.Goals as goal

pub loop-first-init : goal.loop-first-init
loop-first-init c = (c.utf8.text, passed_none _ _ c.utf8.text)

pub loop-first-smaller : goal.loop-first-smaller
loop-first-smaller c = cut_shorter c.in-Some.ensures

pub loop-first-preserved : goal.loop-first-preserved
loop-first-preserved c =
    (c.in-Some.ensures.rest_utf8, passed_one (passes c.args.class) _ c.loop-first.invariant.1 c.in-Some.ensures (sym c.passes.ensures ∙ c.if-not-passes.false))

pub returns-then-not-passes : goal.returns-then-not-passes
returns-then-not-passes c =
    skips_end (passes c.args.class) c.loop-first.invariant.1 (stops_cons (passes c.args.class) _ _ _ (chars_cut c.in-Some.ensures) (sym c.passes.ensures ∙ c.if-not-passes.true))
