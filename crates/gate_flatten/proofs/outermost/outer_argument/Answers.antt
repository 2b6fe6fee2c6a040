use Rattle.gate_flatten.proofs.Outering.{running_worth, pushed_worth, pushed_kept}
use Rattle.gate_flatten.proofs.outermost.outer_argument.Goals as goal

pub returns-in_ok-push_outer-in-Running-clause-worth : goal.returns-in_ok-push_outer-in-Running-clause-worth
returns-in_ok-push_outer-in-Running-clause-worth g c = λ given worths m are there.
    running_worth given worths (g.E.CallEnv.outers c.args.env.now) c.args.k m c.in_ok-push_outer-in-Running.field-0 c.in-Running.ensures there
    (pushed_worth given worths c.args.turns.now.items.items c.push_outer.new.self.items.items c.args.k c.in_ok-push_outer-in-Running.field-0 c.in_ok-push_outer-in-Running.ensures.pushed are)

pub returns-in_ok-push_outer-in-Running-clause-kept : goal.returns-in_ok-push_outer-in-Running-clause-kept
returns-in_ok-push_outer-in-Running-clause-kept g c =
    pushed_kept c.args.turns.now.items.items c.push_outer.new.self.items.items c.args.k c.in_ok-push_outer-in-Running.field-0 c.in_ok-push_outer-in-Running.ensures.pushed
