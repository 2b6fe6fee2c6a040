use Rattle.qasm_lexer.proofs.Cutting.{boundary_at_rest}
use Rattle.qasm_lexer.proofs.scan.front_of.Goals as goal

pub split_at-requires : goal.split_at-requires
split_at-requires c = boundary_at_rest c.requires.1
