use Rattle.std.proofs.Common.{◌≡◌, [], ◌∷◌, map, reverse}
use Rattle.gate_flatten.specs.Applications.{application, distinct}
use Rattle.gate_flatten.specs.Served.{placed_seen}
use Rattle.gate_flatten.proofs.Applying.{names_of}
use Rattle.gate_flatten.proofs.Entering.{distinct_from}
use Rattle.gate_flatten.proofs.applications.application.Given as goal

-- the qubits that were found, in front of those that are left
abbrev pub invariant-loop-operand : goal.invariant-loop-operand
invariant-loop-operand l = record {
  due : distinct [] (application (map placed_seen l.operands) l.k) ≡ distinct_from l.k l.qubits.items l.operand-index l.operands;
  names : l.before ≡ names_of (reverse l.qubits.items) ∷ [];
}
