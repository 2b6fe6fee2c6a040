use Rattle.std.proofs.Common.{◌≡◌, map, drop}
use Rattle.qir_module.specs.declared.function.Function.{Function}
use Rattle.qir_module.specs.Passes.{are_distinct}
use Rattle.profile_check.proofs.head.are_different.Given as goal

-- those that are left differ where all do
abbrev pub invariant-loop-i : goal.invariant-loop-i
invariant-loop-i l =
    let numbers = map (λ (f : Function). f.0) in
    are_distinct (numbers (drop l.i l.functions)) ≡ are_distinct (numbers l.functions)
