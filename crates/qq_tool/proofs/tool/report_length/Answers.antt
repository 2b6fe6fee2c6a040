use Rattle.std.proofs.Common.{sym, ap, ◌∙◌}
use Rattle.qq_tool.specs.Refused.{refusal_line}
use Rattle.qq_tool.proofs.Tasks.{source_line_in, module_line_in, told_line}
use Rattle.qq_tool.proofs.tool.report_length.Goals as goal

pub returns-in-Source : goal.returns-in-Source
returns-in-Source g c = told_line _ _ _ _ _ (source_line_in _ _ c.in-Source.is ∙ ap refusal_line (sym c.at_start.ensures)) c.report.ensures

pub returns-in-Module : goal.returns-in-Module
returns-in-Module g c = told_line _ _ _ _ _ (module_line_in _ _ c.in-Module.is) c.report_module.ensures
