use Rattle.std.proofs.Common.{length, ◌+◌, ◌-◌, ◌≤◌}
use Rattle.std.specs.Io.KnownBytes.{Consumes}
use Rattle.qq_streams.proofs.reading.read_all.Given as goal

-- what was read so far is what is gone from the source
abbrev pub invariant-loop-piece : goal.invariant-loop-piece
invariant-loop-piece g l =
    let left = g.S.Source.left in
    let faults = g.S.Source.faults in
    record {
      gone : Consumes (left l.fn.source) (left l.source) l.bytes.items;
      short : length l.bytes.items ≤ l.limit + 4096;
      count : faults l.fn.source ≤ faults l.source;
    }

abbrev pub decreases-loop-piece : goal.decreases-loop-piece
decreases-loop-piece g l = l.limit + 1 - length l.bytes.items
