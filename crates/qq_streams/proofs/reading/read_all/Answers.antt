use Rattle.std.proofs.Common.{◌++◌, take}
use Rattle.qq_streams.proofs.KnownBytes.{consumes_both}
use Rattle.qq_streams.proofs.reading.read_all.Goals as goal

pub returns-then-is_err-clause-moved : goal.returns-then-is_err-clause-moved
returns-then-is_err-clause-moved g c =
    let left = g.S.Source.left in (
      c.loop-piece.bytes.items ++ take c.in-Ok.count c.read.new.piece,
      consumes_both (left c.args.source.now) (left c.loop-piece.source) (left c.read.new.self) c.loop-piece.bytes.items (take c.in-Ok.count c.read.new.piece)
          c.loop-piece.invariant.gone c.in-Ok.ensures.bytes.0,
    )
