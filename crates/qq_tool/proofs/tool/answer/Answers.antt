use Rattle.qasm_lexer.specs.declared.lexer.TheConstants.{MOST_BYTES}
use Rattle.qir_lexer.specs.declared.lexer.TheConstants.{MOST_BYTES as MOST_QIR_BYTES}
use Rattle.qq_tool.proofs.Tasks.{source_limit_in, module_limit_in, source_told, module_told, source_status_in, module_status_in}
use Rattle.qq_tool.proofs.tool.answer.Goals as goal

pub answer_source-requires : goal.answer_source-requires
answer_source-requires g c = c.requires MOST_BYTES (source_limit_in _ _ c.in-Source.is)

pub answer_module-requires : goal.answer_module-requires
answer_module-requires g c = c.requires MOST_QIR_BYTES (module_limit_in _ _ c.in-Module.is)

pub returns-in-Source-clause-tells : goal.returns-in-Source-clause-tells
returns-in-Source-clause-tells g c = source_told _ _ _ _ _ _ c.in-Source.is c.answer_source.ensures.tells

pub returns-in-Source-clause-statuses : goal.returns-in-Source-clause-statuses
returns-in-Source-clause-statuses g c = source_status_in _ _ _ c.in-Source.is c.answer_source.ensures.statuses

pub returns-in-Module-clause-tells : goal.returns-in-Module-clause-tells
returns-in-Module-clause-tells g c = module_told _ _ _ _ _ _ c.in-Module.is c.answer_module.ensures.tells

pub returns-in-Module-clause-statuses : goal.returns-in-Module-clause-statuses
returns-in-Module-clause-statuses g c = module_status_in _ _ _ c.in-Module.is c.answer_module.ensures.statuses
