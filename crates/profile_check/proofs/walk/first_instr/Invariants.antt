use Rattle.std.proofs.Common.{◌≡◌, ◌+◌, map, drop}
use Rattle.qir_module.specs.Spots.{TheInstr}
use Rattle.profile_check.specs.Walk.{first_item}
use Rattle.profile_check.proofs.walk.first_instr.Given as goal

-- the first of those that are left is the first of all
abbrev pub invariant-loop-i : goal.invariant-loop-i
invariant-loop-i g l =
    let keeps = g.R.Rule.keeps l.rule l.block in
    first_item keeps (l.from + l.i) (map TheInstr (drop l.i l.body)) ≡ first_item keeps l.from (map TheInstr l.body)
