-- For private contracts alone: a word as the machine's run calls it.
use Rattle.std.specs.Prelude.{ℤ}
use Rattle.qir_module.specs.Machine as run

abbrev pub WordValue : ℤ → run.Value
WordValue z = run.Word z
