use Rattle.std.proofs.Common.{◌-◌, length}
use Rattle.qasm_lexer.proofs.LexRun.{SoFar}
use Rattle.qasm_lexer.proofs.lexer.read.Given as goal

-- the tokens so far are those in front of what is left
abbrev pub invariant-loop-token : goal.invariant-loop-token
invariant-loop-token l = SoFar l.source l.from l.at l.version l.tokens.items

abbrev pub decreases-loop-token : goal.decreases-loop-token
decreases-loop-token l = length l.source - l.from
