use Rattle.machine_words.proofs.Words.{Congruences}
use Rattle.machine_words.proofs.Ring.{add_words, sub_words, mul_words, shift_word}
use Rattle.machine_words.proofs.Bits.{and_words, or_words, xor_words}
use Rattle.machine_words.proofs.words_are_exact.Goals as goal

pub returns : goal.returns
returns c =
    let combine = c.congruent_numbers_combine.ensures in
    let laws : Congruences = record { same = combine.same; turned = combine.turned; joined = combine.joined; sums = combine.sums; differences = combine.differences; products = combine.products; one_word = c.congruent_numbers_have_one_word.ensures } in
    record { sums = add_words laws; differences = sub_words laws; products = mul_words laws; left = shift_word laws; ands = and_words laws; ors = or_words laws; xors = xor_words laws }
