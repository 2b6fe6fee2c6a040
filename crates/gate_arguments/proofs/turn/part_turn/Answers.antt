use Rattle.std.proofs.Common.{sym}
use Rattle.gate_arguments.specs.Words.{worth_of_turn}
use Rattle.gate_arguments.proofs.Parts.{same_units}
use Rattle.gate_arguments.proofs.Turning.{fixed_worth, pushed_makes}
use Rattle.gate_arguments.proofs.turn.part_turn.Goals as goal

pub returns-in-Turn-clause-worth : goal.returns-in-Turn-clause-worth
returns-in-Turn-clause-worth c = λ given worths are. rw c.in-Turn.is (sym (worth_of_turn given worths c.args.turns.now.items.items c.in-Turn.turn are (rw c.in-Turn.is at c.requires)))

pub returns-in-Units-clause-worth : goal.returns-in-Units-clause-worth
returns-in-Units-clause-worth c = λ given worths are.
    let small = rw c.in-Units.is at c.requires in
    rw c.in-Units.is (fixed_worth given worths c.args.turns.now.items.items c.push.new.self.items.items c.in-Units.units _ (same_units c.in-Units.units small) c.push.result c.push.ensures.pushed small are)

pub returns-in-Units-clause-added : goal.returns-in-Units-clause-added
returns-in-Units-clause-added c = pushed_makes _ _ _ c.push.result c.push.ensures.pushed c.push.ensures.err
