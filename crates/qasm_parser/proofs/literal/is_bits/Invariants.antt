use Rattle.std.proofs.Common.{◌≡◌, ◌-◌, ◌≤◌, length}
use Rattle.grammar_parts.specs.Kinds.{is_some}
use Rattle.qasm_expr.specs.TokenKinds.{bits_of}
use Rattle.qasm_parser.proofs.Bits.{left}
use Rattle.qasm_parser.proofs.literal.is_bits.Given as goal

abbrev pub invariant-loop-at : goal.invariant-loop-at
invariant-loop-at l = record {
  within : l.at ≤ length l.spelling;
  same : is_some (bits_of l.spelling) ≡ left l.digit_next l.spelling l.at;
}

abbrev pub decreases-loop-at : goal.decreases-loop-at
decreases-loop-at l = length l.spelling - l.at
