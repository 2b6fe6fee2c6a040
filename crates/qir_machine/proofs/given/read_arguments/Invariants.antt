use Rattle.std.proofs.Common.{◌≡◌, map, drop}
use Rattle.qir_module.specs.Kinds.{kind_of}
use Rattle.qir_module.specs.Machine.{all_given}
use Rattle.qir_machine.specs.Memory.{state_of}
use Rattle.qir_machine.specs.Given.{Givens, IsRead, prepend}
use Rattle.qir_machine.proofs.given.read_arguments.Given as goal

abbrev pub invariant-loop-index : goal.invariant-loop-index
invariant-loop-index l = (gs : Givens)
    × (all_given l.labels (state_of l.memory) (map kind_of l.kinds) l.args ≡ prepend gs (all_given l.labels (state_of l.memory) (map kind_of (drop l.index l.kinds)) (drop l.index l.args)))
    × IsRead gs l.all
