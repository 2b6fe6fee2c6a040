use Rattle.std.proofs.Common.{◌≡◌, ◌++◌, map, take}
use Rattle.qir_module.specs.Text.{comma_joined}
use Rattle.qir_module.specs.Written.{kind_text}
use Rattle.qir_module.specs.Kinds.{kind_of}
use Rattle.qir_writer.proofs.function.write_kinds.Given as goal

abbrev pub invariant-loop-index : goal.invariant-loop-index
invariant-loop-index l = l.out.items ≡ l.fn.out.items ++ comma_joined (map (λ kind. kind_text (kind_of kind)) (take l.index l.kinds))
