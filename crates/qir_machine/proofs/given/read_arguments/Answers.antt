use Rattle.std.proofs.Common.{◌≡◌, length, map, sym, ◌∙◌}
use Rattle.std.proofs.lemmas.List.{length-map}
use Rattle.qir_module.specs.Kinds.{kind_of}
use Rattle.qir_machine.specs.Memory.{state_of}
use Rattle.qir_machine.proofs.Arguments.{lengths_differ}
use Rattle.qir_machine.proofs.given.read_arguments.Goals as goal

pub returns-then-kinds-args : goal.returns-then-kinds-args
returns-then-kinds-args c =
    let mapped : length (map kind_of c.args.kinds.now) ≡ length c.args.kinds.now = simp length-map in
    lengths_differ c.args.labels (state_of c.args.memory.now) _ _ (λ same. c.if-kinds-args.true (sym mapped ∙ same))
