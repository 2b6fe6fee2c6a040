use Rattle.std.proofs.Common.{refl, sym, ◌∙◌}
use Rattle.qasm_grammar.specs.Reader.{read_operand}
use Rattle.program_parser.proofs.Exits.{instead}
use Rattle.program_parser.proofs.operands.operand.Goals as goal

pub returns-then-begins : goal.returns-then-begins
unfolding read_operand
returns-then-begins c = instead _ _ _ _ _ _ c.target.result (rw (sym c.begins.ensures ∙ c.if-begins.true) refl) c.target.ensures

pub returns : goal.returns
unfolding read_operand
returns c = instead _ _ _ _ _ _ c.hardware.result (rw (sym c.begins.ensures ∙ c.if-begins.false) refl) c.hardware.ensures
