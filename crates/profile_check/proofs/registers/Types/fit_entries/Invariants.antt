use Rattle.std.proofs.Common.{◌≡◌, ℕ, Bool, map, drop}
use Rattle.std.specs.List.{list_all}
use Rattle.qir_module.specs.declared.instruction.Operand.{Operand}
use Rattle.profile_check.specs.Registers.{operand_fits, in_sets}
use Rattle.profile_check.proofs.registers.Types.fit_entries.Given as goal

-- what holds of those that are left holds of all
abbrev pub invariant-loop-operand : goal.invariant-loop-operand
invariant-loop-operand l =
    let fits = λ (o : Operand × Bool). operand_fits (in_sets l.self.words l.self.truths) o.0 o.1 in
    let typed : (Operand × ℕ) → (Operand × Bool) = λ e. (e.0, l.truth) in
    list_all fits (map typed (drop l.operand-index l.entries)) ≡ list_all fits (map typed l.entries)
