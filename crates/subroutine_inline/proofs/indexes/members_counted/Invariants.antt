use Rattle.std.proofs.Common.{◌≡◌, ◌-◌, drop, length}
use Rattle.const_eval.specs.Meaning.{meaning_in}
use Rattle.subroutine_inline.proofs.Members.{members_from}
use Rattle.subroutine_inline.proofs.Walking.{behind}
use Rattle.subroutine_inline.proofs.indexes.members_counted.Given as goal

-- what was found, in front of what is left
abbrev pub invariant-loop-id : goal.invariant-loop-id
invariant-loop-id g l = let means = meaning_in l.program (g.S.Constants.names l.scope) in
    record {
      due : (members_from l.program means l.ids).answer ≡ behind l.members.items (members_from l.program means (drop l.id-index l.ids)).answer;
      cost : l.initial.left - (members_from l.program means l.ids).cost ≡ l.left - (members_from l.program means (drop l.id-index l.ids)).cost;
      count : length l.members.items ≡ l.id-index;
    }
