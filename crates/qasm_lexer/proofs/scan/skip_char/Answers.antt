use Rattle.std.proofs.Common.{◌==◌, arith}
use Rattle.std.proofs.lemmas.Bool.Decides.{nat_tests}
use Rattle.qasm_lexer.proofs.Cutting.{chars_cut}
use Rattle.qasm_lexer.proofs.Passing.{stops_cons}
use Rattle.qasm_lexer.proofs.scan.skip_char.Goals as goal

pub returns-else-first-c : goal.returns-else-first-c
returns-else-first-c c =
    stops_cons (λ d. d == c.args.c) _ _ c.in_ok-first.first (chars_cut c.in_ok-first.ensures) (grind (arith, nat_tests, c.if-first-c.false))
