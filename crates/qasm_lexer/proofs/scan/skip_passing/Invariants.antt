use Rattle.std.proofs.Common.{length}
use denote.Text.{Utf8}
use denote.Shadow.{shadow}
use Rattle.qasm_lexer.specs.Scan.{passes}
use Rattle.qasm_lexer.proofs.Passing.{Passed}
use Rattle.qasm_lexer.proofs.scan.skip_passing.Given as goal

abbrev pub invariant-loop-first : goal.invariant-loop-first
invariant-loop-first l = shadow (Utf8 l.rest) × Passed (passes l.class) l.text l.rest

abbrev pub decreases-loop-first : goal.decreases-loop-first
decreases-loop-first l = length l.rest
