use Rattle.std.proofs.Common.{List, ap, ◌∙◌, rules}
use Rattle.phi_place.specs.State.{CellState}
use Rattle.block_lower.specs.Parts.{joined}
use Rattle.block_lower.proofs.Placing.{bodies_is}
use Rattle.block_lower.proofs.graph.Work.join_bodies.Goals as goal

pub returns : goal.returns
returns c =
    bodies_is c.args.kinds.now c.args.label c.args.ways.items c.fall.new.ways.items c.args.self.now c.fall.new.self c.join.new.self (search rules) c.in_ok-fall.ensures.work c.in_ok-fall.ensures.ways
    (c.in_ok-join.ensures ∙ ap (λ (ws : List CellState). joined c.args.kinds.now c.args.label ws c.fall.new.self) c.deref.ensures.value)
