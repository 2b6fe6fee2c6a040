use Rattle.std.proofs.Common.{◌<◌, ◌≤◌, ◌^◌, ◌∙◌, Bool, true, false, length, reverse, get_or, subst, sym, ap, arith}
use Rattle.std.proofs.lemmas.List.{take_all}
use Rattle.qasm_types.specs.Values.{number_of_bits}
use Rattle.const_eval.proofs.BitNumbers.{bits_so_far, bits_in_all}
use Rattle.const_eval.proofs.number.number_of_bits.Goals as goal
use mir.Val.{bool_byte}

bool_byte_at_most : (b : Bool) → bool_byte b ≤ 1
bool_byte_at_most true = omega arith
bool_byte_at_most false = omega arith

pub overflow_mul-number : goal.overflow_mul-number
overflow_mul-number c = record { fits = omega (arith, bits_so_far c.args.bits.now c.loop-bit.bit-index (omega arith) (omega arith)) }

pub overflow_add-number : goal.overflow_add-number
overflow_add-number c = record { fits = omega (arith, bits_so_far c.args.bits.now c.loop-bit.bit-index (omega arith) (omega arith), c.from.ensures, bool_byte_at_most (get_or c.args.bits.now c.loop-bit.bit-index false)) }

pub returns-clause-below : goal.returns-clause-below
returns-clause-below c =
    let bits = c.args.bits.now in
    let all = take_all c.loop-bit.bit-index bits c.loop-bit-test.false in
    subst (λ n. n < 2 ^ length bits) (sym (c.loop-bit.invariant ∙ ap (λ xs. number_of_bits (reverse xs)) all)) (bits_in_all bits)
