use Rattle.std.proofs.Common.{◌≡◌, ℕ, nat_lt, drop}
use Rattle.std.specs.List.{list_all, flat_map}
use Rattle.qir_module.specs.Passes.{label_in}
use Rattle.profile_check.proofs.calls.labels_are_below.Given as goal

-- what holds of those that are left holds of all
abbrev pub invariant-loop-arg : goal.invariant-loop-arg
invariant-loop-arg l =
    let fits = λ (k : ℕ). nat_lt k l.count in
    list_all fits (flat_map label_in (drop l.arg-index l.args)) ≡ list_all fits (flat_map label_in l.args)
