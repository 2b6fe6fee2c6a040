use Rattle.std.proofs.Common.{◌≡◌, nat_eq, drop}
use Rattle.std.specs.List.{list_all}
use Rattle.std.specs.HashSet.{contains}
use Rattle.profile_check.specs.Phis.{names_in}
use Rattle.profile_check.proofs.phis.are_in.Given as goal

abbrev pub invariant-loop-name : goal.invariant-loop-name
invariant-loop-name l = list_all (contains nat_eq l.set) (names_in (drop l.name-index l.entries)) ≡ list_all (contains nat_eq l.set) (names_in l.entries)
