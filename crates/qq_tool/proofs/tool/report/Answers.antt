use Rattle.std.proofs.Common.{sym, ◌∙◌}
use Rattle.qq_tool.proofs.Tasks.{told_line}
use Rattle.qq_tool.proofs.tool.report.Goals as goal

pub returns-in-Ok : goal.returns-in-Ok
returns-in-Ok g c = told_line _ _ _ _ _ (sym (c.deref.ensures.value ∙ c.in-Ok.ensures)) c.tell.ensures.told
