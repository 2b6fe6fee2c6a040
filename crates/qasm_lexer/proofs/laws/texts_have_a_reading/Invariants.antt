use Rattle.std.proofs.Common.{List, length, ◌-◌}
use Rattle.qasm_lexer.specs.Tokens.{place_of}
use Rattle.qasm_lexer.specs.declared.token.Token.{Token}
use Rattle.qasm_lexer.proofs.LexRun.{SoFar}
use Rattle.qasm_lexer.proofs.laws.texts_have_a_reading.Given as goal

-- some tokens stand in front of what is left
abbrev pub invariant-loop-token : goal.invariant-loop-token
invariant-loop-token l = (tokens : List Token) × SoFar l.text l.from (place_of l.text l.from) l.version tokens

abbrev pub decreases-loop-token : goal.decreases-loop-token
decreases-loop-token l = length l.text - l.from
