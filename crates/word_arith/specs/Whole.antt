-- Whole numbers without bound: when two are congruent, and their bits in two's complement without end, where -(n + 1) has every bit of n turned over.
use Rattle.std.specs.Prelude.{◌≡◌, ℕ, ◌-◌, ℤ, pos, negsuc, ◌+ℤ◌, ◌*ℤ◌, bit_and, bit_or, bit_xor}
use Rattle.std.specs.Int.{bit_at}

-- a and b differ by a multiple of m
abbrev pub IsCongruent : ℕ → ℤ → ℤ → Type 0
IsCongruent m a b = (k : ℤ) × (a ≡ b +ℤ k *ℤ pos m)

-- bit i of a number, 0 or 1, counted from the lowest
abbrev pub int_bit_at : ℤ → ℕ → ℕ
int_bit_at (pos n) i = bit_at n i
int_bit_at (negsuc n) i = 1 - bit_at n i

-- the number of the bits that m has and n does not have
abbrev pub bit_and_not : ℕ → ℕ → ℕ
bit_and_not m n = m - bit_and m n

-- the bits that are set in both numbers, in at least one, and in exactly one
abbrev pub int_and : ℤ → ℤ → ℤ
int_and (pos m) (pos n) = pos (bit_and m n)
int_and (pos m) (negsuc n) = pos (bit_and_not m n)
int_and (negsuc m) (pos n) = pos (bit_and_not n m)
int_and (negsuc m) (negsuc n) = negsuc (bit_or m n)

abbrev pub int_or : ℤ → ℤ → ℤ
int_or (pos m) (pos n) = pos (bit_or m n)
int_or (pos m) (negsuc n) = negsuc (bit_and_not n m)
int_or (negsuc m) (pos n) = negsuc (bit_and_not m n)
int_or (negsuc m) (negsuc n) = negsuc (bit_and m n)

abbrev pub int_xor : ℤ → ℤ → ℤ
int_xor (pos m) (pos n) = pos (bit_xor m n)
int_xor (pos m) (negsuc n) = negsuc (bit_xor m n)
int_xor (negsuc m) (pos n) = negsuc (bit_xor m n)
int_xor (negsuc m) (negsuc n) = pos (bit_xor m n)
