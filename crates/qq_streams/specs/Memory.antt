-- The streams in memory, as what they have left or taken and which calls fail.
use Rattle.std.specs.Prelude.{ℕ, List}

-- a source: the bytes still to come, the numbers of the calls that fail, and how many calls and faults there were
pub record SourceState : Type 0 where
  pub left : List ℕ
  pub failing : List ℕ
  pub calls : ℕ
  pub faults : ℕ

-- a sink: the bytes taken, how many it takes in all and at once, and the same numbers
pub record SinkState : Type 0 where
  pub taken : List ℕ
  pub room : ℕ
  pub piece : ℕ
  pub failing : List ℕ
  pub calls : ℕ
  pub faults : ℕ
