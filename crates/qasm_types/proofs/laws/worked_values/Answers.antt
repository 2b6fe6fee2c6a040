use Rattle.std.proofs.Common.{refl}
use Rattle.qasm_types.proofs.laws.worked_values.Goals as goal

pub returns-clause-casts : goal.returns-clause-casts
returns-clause-casts c = record { truth_at_a_word = refl; constant_at_a_word = refl; word_at_a_word = refl; word_at_bits = refl; bits_at_a_word = refl; no_bits_at_bool = refl; wider_angle = refl; narrower_angle = refl; part_at_an_angle = refl; third_at_an_angle = refl; part_beside_a_turn = refl; part_too_large = refl }

pub returns-clause-operators : goal.returns-clause-operators
returns-clause-operators c = record { quotient = refl; rest = refl; shift = refl; sum = refl; power_out_of_range = refl; amount_below_zero = refl; complement_of_bits = refl; complement_of_a_bit = refl; parts_added = refl; parts_subtracted = refl; part_multiplied = refl; part_over_a_negative = refl; negative_part_compared = refl; part_too_great = refl; part_too_fine = refl; part_over_zero = refl; parts_compared = refl }
