use Rattle.std.proofs.Common.{inl, inr}
use Rattle.qasm_lexer.proofs.Cutting.{cut_shorter}
use Rattle.qasm_lexer.proofs.Closing.{not_yet_start, not_yet_step, close_found, never_closed}
use Rattle.qasm_lexer.proofs.gaps.skip_close.Goals as goal

pub loop-first-init : goal.loop-first-init
loop-first-init c = (c.utf8.text, not_yet_start _ c.utf8.text)

pub returns-in-Some-skip_char : goal.returns-in-Some-skip_char
returns-in-Some-skip_char c = close_found c.loop-first.invariant.1 c.in-Some.ensures c.if-first-eq42.true c.in-Some-skip_char.ensures

pub loop-first-smaller-in_default-skip_char : goal.loop-first-smaller-in_default-skip_char
loop-first-smaller-in_default-skip_char c = cut_shorter c.in-Some.ensures

pub loop-first-preserved-in_default-skip_char : goal.loop-first-preserved-in_default-skip_char
loop-first-preserved-in_default-skip_char c =
    (c.in-Some.ensures.rest_utf8, not_yet_step _ c.loop-first.invariant.1 c.in-Some.ensures (inr c.in_default-skip_char.ensures))

pub loop-first-smaller : goal.loop-first-smaller
loop-first-smaller c = cut_shorter c.in-Some.ensures

pub loop-first-preserved : goal.loop-first-preserved
loop-first-preserved c =
    (c.in-Some.ensures.rest_utf8, not_yet_step _ c.loop-first.invariant.1 c.in-Some.ensures (inl c.if-first-eq42.false))

pub returns : goal.returns
returns c = never_closed c.loop-first.invariant.1 c.in_default.ensures
