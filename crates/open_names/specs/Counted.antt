-- For private contracts: sums that are counted up to a greatest number.
use Rattle.std.specs.Prelude.{ℕ, ◌-◌, ◌^◌, min}

abbrev pub counted : ℕ → ℕ
counted n = min n (2 ^ 64 - 1)
