use Rattle.std.proofs.Common.{◌+◌, get_or, refl, sym, ap, ◌∙◌, arith}
use Rattle.qasm_parser.proofs.Bits.{left, left_zero, left_one, left_line}
use Rattle.qasm_parser.proofs.literal.is_bits.Goals as goal
use Rattle.qasm_parser.proofs.literal.is_bits.Goals.{then-byte-eq48, else-byte-eq48+then-byte-eq49, else-byte-eq48+else-byte-eq49+else-digit_next+then-byte-eq95}

pub loop-at-preserved : goal.loop-at-preserved
loop-at-preserved c =
    let s = c.args.spelling.now in let n = c.loop-at.at in let lt = c.loop-at-test.true in
    elim c.if-byte-eq48.branch [
      | then-byte-eq48 w ↦ record { within = omega arith; same = c.loop-at.invariant.same ∙ left_zero s n (get_or s n 0) lt refl c.loop-at.digit_next w.if-byte-eq48.true ∙ ap (λ d. left d s (n + 1)) (sym w.digit_next-is) }
      | else-byte-eq48+then-byte-eq49 w ↦ record { within = omega arith; same = c.loop-at.invariant.same ∙ left_one s n (get_or s n 0) lt refl c.loop-at.digit_next w.if-byte-eq49.true ∙ ap (λ d. left d s (n + 1)) (sym w.digit_next-is) }
      | else-byte-eq48+else-byte-eq49+else-digit_next+then-byte-eq95 w ↦ record { within = omega arith; same = c.loop-at.invariant.same ∙ ap (λ d. left d s n) w.if-digit_next.false ∙ left_line s n (get_or s n 0) lt refl w.if-byte-eq48.false w.if-byte-eq49.false w.if-byte-eq95.true ∙ ap (λ d. left d s (n + 1)) (sym w.digit_next-is) }
    ]
