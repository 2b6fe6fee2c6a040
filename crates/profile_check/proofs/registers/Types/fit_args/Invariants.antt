use Rattle.std.proofs.Common.{◌≡◌, Bool, drop}
use Rattle.std.specs.List.{list_all, flat_map}
use Rattle.qir_module.specs.declared.instruction.Operand.{Operand}
use Rattle.qir_module.specs.Passes.{arg_operands}
use Rattle.profile_check.specs.Registers.{operand_fits, in_sets}
use Rattle.profile_check.proofs.registers.Types.fit_args.Given as goal

-- what holds of those that are left holds of all
abbrev pub invariant-loop-arg : goal.invariant-loop-arg
invariant-loop-arg l =
    let fits = λ (o : Operand × Bool). operand_fits (in_sets l.self.words l.self.truths) o.0 o.1 in
    list_all fits (flat_map arg_operands (drop l.arg-index l.args)) ≡ list_all fits (flat_map arg_operands l.args)
