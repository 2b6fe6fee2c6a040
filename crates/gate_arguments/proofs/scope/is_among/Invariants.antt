use Rattle.std.proofs.Common.{◌≡◌, drop}
use Rattle.gate_arguments.specs.Scope.{is_open}
use Rattle.gate_arguments.proofs.scope.is_among.Given as goal

-- none of those so far is the gate
abbrev pub invariant-loop-other : goal.invariant-loop-other
invariant-loop-other l = is_open l.def l.gates ≡ is_open l.def (drop l.other-index l.gates)
