use Rattle.std.proofs.Common.{◌≡◌, ◌-◌, All, drop, length, map}
use Rattle.const_eval.specs.Meaning.{meaning_in}
use Rattle.subroutine_inline.specs.Seen.{TakenFits, taken_seen}
use Rattle.subroutine_inline.proofs.Members.{taken_from}
use Rattle.subroutine_inline.proofs.Walking.{behind}
use Rattle.subroutine_inline.proofs.parameters.all_taken.Given as goal

-- what was found, in front of what is left
abbrev pub invariant-loop-ty : goal.invariant-loop-ty
invariant-loop-ty g l = let means = meaning_in l.program (g.S.Constants.names l.inside) in
    record {
      due : (taken_from l.program means l.params).answer ≡ behind (map taken_seen l.all.items) (taken_from l.program means (drop l.ty-index l.params)).answer;
      cost : l.initial.left - (taken_from l.program means l.params).cost ≡ l.left - (taken_from l.program means (drop l.ty-index l.params)).cost;
      count : length l.all.items ≡ l.ty-index;
      fit : All TakenFits l.all.items;
    }
