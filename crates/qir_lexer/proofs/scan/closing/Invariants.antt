use Rattle.std.proofs.Common.{◌≡◌, drop}
use Rattle.qir_module.specs.Tokens.{Outside}
use Rattle.qir_module.specs.Lexer.{closed}
use Rattle.qir_lexer.specs.Scan.{escape_in}
use Rattle.qir_lexer.proofs.Scanning.{farther}
use Rattle.qir_lexer.proofs.scan.closing.Given as goal

-- where it closes is found in what is left
abbrev pub invariant-loop-at : goal.invariant-loop-at
invariant-loop-at l = closed Outside l.text ≡ farther l.at (closed (escape_in l.state) (drop l.at l.text))
