use Rattle.std.proofs.Common.{ap}
use Rattle.qq_streams.specs.Memory.{SourceState}
use Rattle.qq_streams.proofs.KnownBytes.{moves}
use Rattle.qq_streams.proofs.memory_source.MemorySourceSource.read.Goals as goal

pub returns-clause-bytes : goal.returns-clause-bytes
returns-clause-bytes c =
    moves c.args.self.now.left c.self.inside.bytes.items c.deref-2.result.now c.args.piece.now c.copy_from_slice.new.self c.self.inside.position c.min-count.result
    (ap (λ (s : SourceState). s.left) c.self.view_is) c.deref-2.ensures.value c.min-count.ensures c.copy_from_slice.ensures.after
