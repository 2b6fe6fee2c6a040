use Rattle.std.proofs.Common.{◌≡◌, ◌-◌, All, drop, length}
use Rattle.alias_resolve.specs.Places.{HasFewMembers}
use Rattle.const_eval.specs.Meaning.{meaning_in}
use Rattle.subroutine_inline.proofs.Members.{indexes_from}
use Rattle.subroutine_inline.proofs.Walking.{behind}
use Rattle.subroutine_inline.proofs.indexes.indexes_counted.Given as goal

-- the values that were found, in front of those that are left
abbrev pub invariant-loop-bracket : goal.invariant-loop-bracket
invariant-loop-bracket g l = let means = meaning_in l.program (g.S.Constants.names l.scope) in
    record {
      due : (indexes_from l.program means l.index).answer ≡ behind l.values.items (indexes_from l.program means (drop l.bracket-index l.index)).answer;
      cost : l.initial.left - (indexes_from l.program means l.index).cost ≡ l.left - (indexes_from l.program means (drop l.bracket-index l.index)).cost;
      count : length l.values.items ≡ l.bracket-index;
      few : All HasFewMembers l.values.items;
    }
