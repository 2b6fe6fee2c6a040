-- Words of 64 bits, seen as signed numbers, for whole numbers without bound.
use Rattle.std.specs.Prelude.{true, ℤ}
use Rattle.word_arith.specs.WordTy.{value_modulo}

-- the word that has the lowest 64 bits of a whole number
abbrev pub word_of : ℤ → ℤ
word_of z = value_modulo true 64 z
