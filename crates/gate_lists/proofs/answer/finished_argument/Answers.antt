use Rattle.std.proofs.Common.{sym, ap, ◌∙◌, Some}
use Rattle.gate_lists.proofs.Turning.{makes_one, running_is}
use Rattle.gate_lists.proofs.answer.finished_argument.Goals as goal

pub returns-in_ok-push-in-Turn-default-true-clause-made : goal.returns-in_ok-push-in-Turn-default-true-clause-made
returns-in_ok-push-in-Turn-default-true-clause-made c = makes_one _ _ _ _ c.in_ok-push-in-Turn-default-true.ensures.pushed

pub returns-in-Turn-default-false-clause-worth : goal.returns-in-Turn-default-false-clause-worth
returns-in-Turn-default-false-clause-worth c = λ given worths all.
    ap (λ k. Some (worths k)) c.in-Turn-default-false.turn-is
    ∙ running_is given worths c.args.turns.now.items.items c.args.amount c.args.is_there c.in-Turn-default-false.negated c.in-Turn-default-false.turn c.in-Turn-default-false.is
    (sym c.in-Turn-default-false.negated-is ∙ c.in-Turn-default-false.negated-test) c.if-not-is_there.false c.requires all
