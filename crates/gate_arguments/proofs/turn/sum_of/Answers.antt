use Rattle.std.proofs.Common.{ℤ, ◌+ℤ◌, ap, ◌∙◌}
use Rattle.gate_lists.specs.Units.{word_of}
use Rattle.gate_arguments.specs.Rows.{part_seen}
use Rattle.gate_arguments.proofs.Turning.{worths_before}
use Rattle.gate_arguments.proofs.turn.sum_of.Goals as goal

pub returns-clause-worth : goal.returns-clause-worth
returns-clause-worth c = λ given worths are.
    let before = worths_before given worths c.part_turn.new.turns.items.items c.part_turn-2.new.turns.items.items c.in_ok-right.ensures.added.kept are in
    ap (λ (x : ℤ). word_of (x +ℤ worths c.in_ok-right.right)) (c.in_ok-left.ensures.worth given worths before)
    ∙ ap (λ (y : ℤ). word_of (part_seen worths c.args.a +ℤ y)) (c.in_ok-right.ensures.worth given worths are)
