-- The count of a stream's faults.
use Rattle.std.specs.Prelude.{ℕ, ◌+◌, ◌-◌, ◌^◌, ◌≤◌, min}

-- The count behind one fault more: it rises by 1, and stays at its end, 2^64 - 1.
abbrev pub raised : ℕ → ℕ
raised count = min (count + 1) (2 ^ 64 - 1)

-- The count rose, or it stands at its end.
abbrev pub HasRisen : ℕ → ℕ → Type 0
HasRisen old new = raised old ≤ new
