use Rattle.std.proofs.Common.{◌≡◌, ◌++◌, take}
use Rattle.std.specs.List.{flat_map}
use Rattle.qir_module.specs.Written.{declaration_text}
use Rattle.qir_writer.proofs.write_declarations.Given as goal

abbrev pub invariant-loop-function : goal.invariant-loop-function
invariant-loop-function l = l.out.items ≡ l.fn.out.items ++ flat_map declaration_text (take l.function-index l.declarations)
