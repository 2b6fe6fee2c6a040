use Rattle.std.proofs.Common.{◌≡◌, map, drop}
use Rattle.qir_module.specs.declared.function.Function.{Function}
use Rattle.qir_module.specs.Numbered.{is_among}
use Rattle.profile_check.proofs.calls.has_function.Given as goal

-- it is among those that are left where it is among all
abbrev pub invariant-loop-other : goal.invariant-loop-other
invariant-loop-other l =
    let numbers = map (λ (f : Function). f.0) in
    is_among (numbers (drop l.other-index l.functions)) l.function.0 ≡ is_among (numbers l.functions) l.function.0
