use Rattle.std.proofs.Common.{◌≡◌, ◌<◌, ◌^◌, length}
use denote.Text.{Utf8}
use denote.Shadow.{shadow}
use Rattle.std.specs.Str.{chars}
use Rattle.std.specs.Str.Parse.{digits_value_after}
use Rattle.qasm_lexer.specs.Spelling.{digits_of_numeral, numeral_value}
use Rattle.qasm_lexer.proofs.numbers.value_of.Given as goal

-- the value so far and the digits that are left give the value of all
abbrev pub invariant-loop-first : goal.invariant-loop-first
invariant-loop-first l =
    shadow (Utf8 l.rest) × (l.value < 2 ^ 64) × (digits_value_after l.base l.value (digits_of_numeral l.base (chars l.rest)) ≡ numeral_value l.base (chars l.text))

abbrev pub decreases-loop-first : goal.decreases-loop-first
decreases-loop-first l = length l.rest
