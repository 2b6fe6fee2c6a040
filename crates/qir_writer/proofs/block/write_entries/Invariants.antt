use Rattle.std.proofs.Common.{◌≡◌, ◌++◌, map, take}
use Rattle.qir_module.specs.Text.{comma_joined}
use Rattle.qir_module.specs.Written.{entry_text}
use Rattle.qir_writer.proofs.block.write_entries.Given as goal

abbrev pub invariant-loop-index : goal.invariant-loop-index
invariant-loop-index l = l.out.items ≡ l.fn.out.items ++ comma_joined (map (entry_text l.truth) (take l.index l.entries))
