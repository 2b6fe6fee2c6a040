use Rattle.std.proofs.Common.{refl, sym, ◌∙◌}
use Rattle.qasm_grammar.specs.Reader.{read_member}
use Rattle.program_parser.proofs.Exits.{instead}
use Rattle.program_parser.proofs.gates.member_line.Goals as goal

pub returns-then-begins : goal.returns-then-begins
unfolding read_member
returns-then-begins c = instead _ _ _ _ _ _ c.call_line.result (rw (sym c.begins.ensures ∙ c.if-begins.true) refl) c.call_line.ensures

pub returns : goal.returns
unfolding read_member
returns c = instead _ _ _ _ _ _ c.barrier_line.result (rw (sym c.begins.ensures ∙ c.if-begins.false) refl) c.barrier_line.ensures
