use Rattle.std.proofs.Common.{rules, FitsSigned}
use Rattle.std.specs.Int.{w128}
use Rattle.alias_resolve.proofs.Bits.{written_of_bits}
use Rattle.alias_resolve.proofs.bracket.written_range.Goals as goal

pub returns-clause-ok : goal.returns-clause-ok
returns-clause-ok c =
    let start : FitsSigned w128 c.end_or-start.result = search rules in
    let stop : FitsSigned w128 c.end_or-stop.result = search rules in
    rw (written_of_bits c.args.index c.args.size c.args.start c.args.step c.args.stop c.end_or-start.result c.end_or-stop.result start c.ranges.step stop c.if-step-eq0.false c.end_or-start.ensures c.end_or-stop.ensures)
    c.range_places.ensures.ok

pub returns-clause-err : goal.returns-clause-err
returns-clause-err c =
    let start : FitsSigned w128 c.end_or-start.result = search rules in
    let stop : FitsSigned w128 c.end_or-stop.result = search rules in
    rw (written_of_bits c.args.index c.args.size c.args.start c.args.step c.args.stop c.end_or-start.result c.end_or-stop.result start c.ranges.step stop c.if-step-eq0.false c.end_or-start.ensures c.end_or-stop.ensures)
    c.range_places.ensures.err
