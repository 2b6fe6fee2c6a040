use Rattle.std.proofs.Common.{◌≡◌, ℕ, ◌<◌, not, ◌||◌, nat_lt, filter, take}
use Rattle.std.specs.List.{list_all}
use Rattle.qir_module.specs.Carried.{is_empty}
use Rattle.profile_check.specs.Rounds.{is_bit, has_bit}
use Rattle.profile_check.proofs.carried.carried_into.Given as goal

-- what all earlier predecessors so far leave
abbrev pub invariant-loop-place : goal.invariant-loop-place
invariant-loop-place l =
    (l.entered ≡ not (is_empty (filter (λ q. nat_lt q l.block) (take l.place-index l.before))))
    × ((j : ℕ) → j < 64 → is_bit l.met j ≡ list_all (λ p. has_bit l.carried p j || has_bit l.assigned p j) (filter (λ q. nat_lt q l.block) (take l.place-index l.before)))
