use Rattle.machine_words.proofs.Words.{word_fits, word_is_word, unsigned_of_word, value_kept}
use Rattle.machine_words.proofs.numbers_are_kept.Goals as goal

pub returns : goal.returns
returns c = record { words = word_fits; fit = word_is_word; unsigned = unsigned_of_word; values = value_kept }
