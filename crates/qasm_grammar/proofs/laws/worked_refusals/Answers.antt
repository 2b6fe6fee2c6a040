use Rattle.qasm_grammar.proofs.WorkedRules.{worked}
use Rattle.qasm_grammar.proofs.laws.worked_refusals.Goals as goal

pub returns-clause-rule_of_version : goal.returns-clause-rule_of_version
returns-clause-rule_of_version c = worked.rule_of_version

pub returns-clause-rule_of_version_word : goal.returns-clause-rule_of_version_word
returns-clause-rule_of_version_word c = worked.rule_of_version_word

pub returns-clause-rule_of_second_version : goal.returns-clause-rule_of_second_version
returns-clause-rule_of_second_version c = worked.rule_of_second_version

pub returns-clause-rule_of_version_in_body : goal.returns-clause-rule_of_version_in_body
returns-clause-rule_of_version_in_body c = worked.rule_of_version_in_body

pub returns-clause-rule_of_version_in_gate : goal.returns-clause-rule_of_version_in_gate
returns-clause-rule_of_version_in_gate c = worked.rule_of_version_in_gate

pub returns-clause-rule_of_version_in_value : goal.returns-clause-rule_of_version_in_value
returns-clause-rule_of_version_in_value c = worked.rule_of_version_in_value

pub returns-clause-rule_of_include : goal.returns-clause-rule_of_include
returns-clause-rule_of_include c = worked.rule_of_include

pub returns-clause-rule_of_text : goal.returns-clause-rule_of_text
returns-clause-rule_of_text c = worked.rule_of_text

pub returns-clause-rule_of_word : goal.returns-clause-rule_of_word
returns-clause-rule_of_word c = worked.rule_of_word

pub returns-clause-rule_of_modifier : goal.returns-clause-rule_of_modifier
returns-clause-rule_of_modifier c = worked.rule_of_modifier

pub returns-clause-rule_of_hash : goal.returns-clause-rule_of_hash
returns-clause-rule_of_hash c = worked.rule_of_hash

pub returns-clause-rule_of_annotation : goal.returns-clause-rule_of_annotation
returns-clause-rule_of_annotation c = worked.rule_of_annotation

pub returns-clause-rule_of_annotation_in_gate : goal.returns-clause-rule_of_annotation_in_gate
returns-clause-rule_of_annotation_in_gate c = worked.rule_of_annotation_in_gate

pub returns-clause-rule_of_annotation_in_value : goal.returns-clause-rule_of_annotation_in_value
returns-clause-rule_of_annotation_in_value c = worked.rule_of_annotation_in_value

pub returns-clause-rule_of_depth : goal.returns-clause-rule_of_depth
returns-clause-rule_of_depth c = worked.rule_of_depth

pub returns-clause-rule_of_chain : goal.returns-clause-rule_of_chain
returns-clause-rule_of_chain c = worked.rule_of_chain

pub returns-clause-rule_of_number : goal.returns-clause-rule_of_number
returns-clause-rule_of_number c = worked.rule_of_number

pub returns-clause-rule_of_end : goal.returns-clause-rule_of_end
returns-clause-rule_of_end c = worked.rule_of_end
