use Rattle.gate_lists.proofs.Turning.{push_keeps}
use Rattle.gate_lists.proofs.turns.Turns.push.Goals as goal

pub invariant_of-self : goal.invariant_of-self
invariant_of-self c =
    let kept = push_keeps c.args.self.now.args c.args.self.now.items.items c.push.new.self.items c.args.turn _ c.args.self.now.fit c.args.self.now.once c.requires c.push.ensures.items in
    record { fit = kept.0; once = kept.1 }
