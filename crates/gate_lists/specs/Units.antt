-- Numbers of units of 2^-32 turn, as words of 64 bits with sign.
use Rattle.std.specs.Prelude.{true, ℤ, neg_ℤ}
use Rattle.word_arith.specs.WordTy.{value_modulo}

-- the word that is congruent to a number modulo 2^64
abbrev pub word_of : ℤ → ℤ
word_of z = value_modulo true 64 z

abbrev pub negated : ℤ → ℤ
negated z = word_of (neg_ℤ z)
