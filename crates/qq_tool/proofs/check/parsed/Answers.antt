use Rattle.qq_tool.proofs.Programs.{is_program}
use Rattle.qq_tool.proofs.check.parsed.Goals as goal

pub returns-clause-ok : goal.returns-clause-ok
returns-clause-ok c =
    is_program c.args.source.now c.in_ok-tokens.tokens.items c.parse_program.result c.in_ok-tokens.ensures.found
    (rw (c.in-Ok.ensures.cases.0, c.deref.ensures.value) at c.parse_program.ensures.parsed)
