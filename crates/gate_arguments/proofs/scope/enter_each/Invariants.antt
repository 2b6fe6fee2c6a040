use Rattle.std.proofs.Common.{◌≡◌, ◌<◌, drop, length}
use Rattle.gate_arguments.specs.Seen.{entered}
use Rattle.gate_arguments.proofs.scope.enter_each.Given as goal

-- the names that were entered, and those that are left
abbrev pub invariant-loop-k : goal.invariant-loop-k
invariant-loop-k l = record {
  due : entered l.initial.given l.names l.values ≡ entered l.given (drop l.k l.names) (drop l.k l.values);
  open_scopes : 0 < length l.given;
}
