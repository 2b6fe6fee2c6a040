use Rattle.std.proofs.Common.{refl}
use Rattle.gate_lists.proofs.Leaves.{leaf_is}
use Rattle.gate_lists.proofs.Turning.{worths_before}
use Rattle.gate_lists.proofs.answer.finished_member.Goals as goal

pub returns-clause-worth : goal.returns-clause-worth
returns-clause-worth c = λ given worths all.
    let third = worths_before given worths c.finished_argument-3.new.turns.items.items c.finished_argument-4.new.turns.items.items c.in_ok-fourth.ensures.made.kept all in
    let second = worths_before given worths c.finished_argument-2.new.turns.items.items c.finished_argument-3.new.turns.items.items c.in_ok-third.ensures.made.kept third in
    let first = worths_before given worths c.finished_argument.new.turns.items.items c.finished_argument-2.new.turns.items.items c.in_ok-second.ensures.made.kept second in
    leaf_is worths c.args.member.now c.args.row _ c.in_ok-first.first c.in_ok-second.second c.in_ok-third.third c.in_ok-fourth.fourth _ _ c.requires.row refl refl
    c.finished_qubit.result c.finished_qubit-2.result c.finished_qubit-3.result refl c.finished_qubit.ensures c.finished_qubit-2.ensures c.finished_qubit-3.ensures
    (c.in_ok-first.ensures.worth given worths first) (c.in_ok-second.ensures.worth given worths second) (c.in_ok-third.ensures.worth given worths third) (c.in_ok-fourth.ensures.worth given worths all)
