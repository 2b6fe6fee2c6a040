use Rattle.std.proofs.Common.{◌-◌, length}
use Rattle.qir_lexer.proofs.Readings.{SoFar}
use Rattle.qir_lexer.proofs.lexer.read.Given as goal

-- the tokens so far are those in front of what is left
abbrev pub invariant-loop-token : goal.invariant-loop-token
invariant-loop-token l = SoFar l.text l.from l.at l.tokens.items

abbrev pub decreases-loop-token : goal.decreases-loop-token
decreases-loop-token l = length l.text - l.from
