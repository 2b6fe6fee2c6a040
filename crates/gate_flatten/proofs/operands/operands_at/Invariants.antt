use Rattle.std.proofs.Common.{◌≡◌, All, map}
use Rattle.qasm_ast.specs.View.{operand_in}
use Rattle.const_eval.specs.Meaning.{meaning_in}
use Rattle.gate_lists.specs.Paid.{paid_from}
use Rattle.gate_arguments.specs.Seen.{scope_names, scope_qubits}
use Rattle.gate_flatten.specs.declared.applications.Placed.{Placed}
use Rattle.gate_flatten.specs.Applications.{placed_operands, placed_walk}
use Rattle.gate_flatten.specs.Served.{IsOne, placed_seen}
use Rattle.gate_flatten.proofs.Fronts.{in_front, from_member}
use Rattle.gate_flatten.proofs.operands.operands_at.Given as goal

-- the operands that were found, in front of those that are left
abbrev pub invariant-loop-operand : goal.invariant-loop-operand
invariant-loop-operand g l =
    let means = meaning_in l.program (scope_names (g.E.Constants.names l.scope.env.now) (g.E.GateEnv.inside l.scope.env.now) l.scope.body) in
    let registers = scope_qubits l.program (g.E.GateEnv.operands l.scope.env.now) (g.E.GateEnv.inside l.scope.env.now) l.scope.body in
    record {
      due : paid_from l.initial.budget (placed_operands means registers (map (operand_in l.program) l.operands))
          ≡ in_front (map placed_seen l.found.items) (paid_from l.budget (from_member (operand_in l.program) (placed_walk means registers) l.operand-index l.operands));
      ones : All (λ (s : Placed). IsOne s.list) l.found.items;
    }
