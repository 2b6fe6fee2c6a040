use Rattle.std.proofs.Common.{◌≡◌, ◌+◌, ◌++◌, false, [], ◌∷◌, map, drop}
use Rattle.qir_module.specs.Spots.{TheInstr, TheLast}
use Rattle.profile_check.specs.Records.{records_from}
use Rattle.profile_check.proofs.records.first_wrong_item.Given as goal

-- the first of the items that are left is the first of all
abbrev pub invariant-loop-i : goal.invariant-loop-i
invariant-loop-i l =
    records_from l.ends l.returned l.recorded (l.from + l.i) (map TheInstr (drop l.i l.body) ++ TheLast l.last ∷ [])
    ≡ records_from l.ends l.returned false l.from (map TheInstr l.body ++ TheLast l.last ∷ [])
