use Rattle.std.proofs.Common.{ℕ, ◌<◌, ◌≤◌, take}
use Rattle.std.specs.List.{AllByRecursion, flat_map}
use Rattle.qir_machine.specs.Effect.{id_in}
use Rattle.qir_machine.proofs.layout.above_ids.Given as goal

abbrev pub invariant-loop-arg : goal.invariant-loop-arg
invariant-loop-arg l = record {
  grows : l.initial.least ≤ l.least;
  above : AllByRecursion (λ (k : ℕ). k < l.least) (flat_map id_in (take l.arg-index l.args));
}
