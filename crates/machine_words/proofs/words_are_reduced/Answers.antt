use Rattle.machine_words.proofs.Words.{Congruences}
use Rattle.machine_words.proofs.Reducing.{masked_word, extended_word, whole_word}
use Rattle.machine_words.proofs.Bits.{odd_word, bit_word}
use Rattle.machine_words.proofs.words_are_reduced.Goals as goal

pub returns : goal.returns
returns c =
    let combine = c.congruent_numbers_combine.ensures in
    let laws : Congruences = record { same = combine.same; turned = combine.turned; joined = combine.joined; sums = combine.sums; differences = combine.differences; products = combine.products; one_word = c.congruent_numbers_have_one_word.ensures } in
    record { masked = masked_word laws; extended = extended_word laws; whole = whole_word laws; odd = odd_word laws; bits = bit_word laws }
