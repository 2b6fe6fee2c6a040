use Rattle.std.proofs.Common.{◌≡◌, drop, length}
use Rattle.qasm_ast.specs.View.{trees_in}
use Rattle.const_eval.specs.ConstantWalk.{members_walk}
use Rattle.const_eval.specs.Meaning.{meaning_in}
use Rattle.gate_lists.specs.Paid.{paid_from}
use Rattle.gate_arguments.proofs.Walking.{behind}
use Rattle.gate_arguments.proofs.constants.members_at.Given as goal

-- what was found, in front of what is left
abbrev pub invariant-loop-id : goal.invariant-loop-id
invariant-loop-id g l = let means = meaning_in l.program (g.S.Constants.names l.scope) in
    record {
      due : paid_from l.initial.budget (members_walk means l.exact (trees_in l.program l.ids)) ≡ behind l.members.items (paid_from l.budget (members_walk means l.exact (trees_in l.program (drop l.id-index l.ids))));
      count : length l.members.items ≡ l.id-index;
    }
