use Rattle.std.proofs.Common.{length, ◌-◌, ◌≤◌, take}
use Rattle.std.specs.Io.KnownBytes.{Appends}
use Rattle.qq_streams.proofs.writing.write_all.Given as goal

-- the bytes so far went out
abbrev pub invariant-loop-written : goal.invariant-loop-written
invariant-loop-written g l =
    let taken = g.O.Sink.taken in
    let faults = g.O.Sink.faults in
    record {
      within : l.written ≤ length l.bytes;
      out : Appends (taken l.fn.sink) (taken l.sink) (take l.written l.bytes);
      count : faults l.fn.sink ≤ faults l.sink;
    }

abbrev pub decreases-loop-written : goal.decreases-loop-written
decreases-loop-written g l = length l.bytes - l.written
