use Rattle.std.proofs.Common.{◌≡◌, ◌-◌, All, drop}
use Rattle.const_eval.specs.Meaning.{meaning_in}
use Rattle.gate_arguments.specs.Environment.{operand_in}
use Rattle.subroutine_inline.specs.Seen.{NameFits, ValueFits, given_seen}
use Rattle.subroutine_inline.proofs.Giving.{bound_from, given_from, in_front}
use Rattle.subroutine_inline.proofs.arguments.given_by.Given as goal

-- what was given, in front of what is left
abbrev pub invariant-loop-k : goal.invariant-loop-k
invariant-loop-k g l =
    let means = meaning_in l.program (g.E.Constants.names l.env) in
    let registers = operand_in l.program (g.E.GateEnv.operands l.env) in
    record {
      due : given_from l.program means registers l.params l.ids l.taken ≡ in_front (given_seen l.given) (given_from l.program means registers (drop l.k l.params) (drop l.k l.ids) (drop l.k l.taken));
      cost : l.initial.left - (bound_from l.program means registers l.ids l.taken).cost ≡ l.left - (bound_from l.program means registers (drop l.k l.ids) (drop l.k l.taken)).cost;
      classical : All (ValueFits l.program) l.given.classical.items;
      qubits : All (NameFits l.program) l.given.qubits.items;
    }
