use Rattle.std.proofs.Common.{[], false, true, arith}
use Rattle.std.proofs.lemmas.Grind.{common_steps}
use Rattle.profile_check.specs.Registers.{HasAll, typed_in}
use Rattle.profile_check.proofs.registers.type_sets.Goals as goal

pub returns-clause-words : goal.returns-clause-words
returns-clause-words c =
    let words : HasAll c.new.result (typed_in false []) = λ n. grind (arith, common_steps) in
    let truths : HasAll c.new-2.result (typed_in true []) = λ n. grind (arith, common_steps) in
    (c.in_ok-visit_all.ensures [] (words, truths)).0

pub returns-clause-truths : goal.returns-clause-truths
returns-clause-truths c =
    let words : HasAll c.new.result (typed_in false []) = λ n. grind (arith, common_steps) in
    let truths : HasAll c.new-2.result (typed_in true []) = λ n. grind (arith, common_steps) in
    (c.in_ok-visit_all.ensures [] (words, truths)).1
