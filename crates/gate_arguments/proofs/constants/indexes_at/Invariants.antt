use Rattle.std.proofs.Common.{◌≡◌, All, drop, length}
use Rattle.qasm_ast.specs.View.{brackets_in}
use Rattle.alias_resolve.specs.Places.{HasFewMembers}
use Rattle.const_eval.specs.ConstantWalk.{indexes_walk}
use Rattle.const_eval.specs.Meaning.{meaning_in}
use Rattle.gate_lists.specs.Paid.{paid_from}
use Rattle.gate_arguments.proofs.Walking.{behind}
use Rattle.gate_arguments.proofs.constants.indexes_at.Given as goal

-- what was found, in front of what is left
abbrev pub invariant-loop-bracket : goal.invariant-loop-bracket
invariant-loop-bracket g l = let means = meaning_in l.program (g.S.Constants.names l.scope) in
    record {
      due : paid_from l.initial.budget (indexes_walk means l.exact (brackets_in l.program l.index)) ≡ behind l.values.items (paid_from l.budget (indexes_walk means l.exact (brackets_in l.program (drop l.bracket-index l.index))));
      count : length l.values.items ≡ l.bracket-index;
      few : All HasFewMembers l.values.items;
    }
