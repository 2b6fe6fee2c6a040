use Rattle.std.proofs.Common.{arith}
use Rattle.qq_streams.proofs.KnownBytes.{appends_next}
use Rattle.qq_streams.proofs.writing.write_all.Goals as goal

pub loop-written-preserved : goal.loop-written-preserved
loop-written-preserved g c =
    let taken = g.O.Sink.taken in
    record {
      within = omega (arith, c.in-Ok.ensures.bound);
      out = appends_next (taken c.args.sink.now) (taken c.loop-written.sink) (taken c.write.new.self) c.args.bytes.now c.loop-written.written c.in-Ok.count
          c.loop-written.invariant.out c.in-Ok.ensures.bytes;
      count = omega (arith, c.loop-written.invariant.count, c.in-Ok.ensures.count);
    }
