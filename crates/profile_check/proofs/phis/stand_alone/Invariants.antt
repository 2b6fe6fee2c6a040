use Rattle.std.proofs.Common.{◌≡◌, ℕ, nat_eq, drop}
use Rattle.std.specs.List.{list_all}
use Rattle.std.specs.HashMap.{get}
use Rattle.profile_check.specs.Phis.{is_single}
use Rattle.profile_check.proofs.phis.stand_alone.Given as goal

abbrev pub invariant-loop-name : goal.invariant-loop-name
invariant-loop-name l =
    let alone = λ (n : ℕ). is_single (get nat_eq l.counts n) in
    list_all alone (drop l.name-index l.names) ≡ list_all alone l.names
