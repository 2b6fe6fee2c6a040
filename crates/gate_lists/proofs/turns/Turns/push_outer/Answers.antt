use Rattle.gate_lists.proofs.Turning.{outer_keeps}
use Rattle.gate_lists.proofs.turns.Turns.push_outer.Goals as goal

pub invariant_of-self-2 : goal.invariant_of-self-2
invariant_of-self-2 c =
    let kept = outer_keeps c.args.self.now.args c.args.self.now.items.items c.push.new.self.items c.args.k c.args.self.now.fit c.args.self.now.once c.requires c.in_ok-push.ensures.items in
    record { fit = kept.0; once = kept.1 }
