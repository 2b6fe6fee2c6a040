use Rattle.std.proofs.Common.{[], None, refl, arith}
use Rattle.std.proofs.lemmas.Grind.{common_steps}
use Rattle.profile_check.specs.Registers.{HoldsAssigned}
use Rattle.profile_check.proofs.registers.first_again.Goals as goal

pub returns : goal.returns
returns c =
    let start : HoldsAssigned c.new.result None [] = record { found = refl; all = λ e. λ n. grind (arith, common_steps) } in
    (c.in_ok-visit_all.ensures [] start).found
