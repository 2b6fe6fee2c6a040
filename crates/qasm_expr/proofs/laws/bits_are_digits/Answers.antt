use Rattle.qasm_expr.proofs.Literals.{string-digits}
use Rattle.qasm_expr.proofs.laws.bits_are_digits.Goals as goal

pub returns : goal.returns
returns c = string-digits
