use Rattle.std.proofs.Common.{ℕ, List, length, take, ap, ◌∙◌, arith}
use Rattle.std.specs.Prelude.{filter}
use Rattle.core_ir.specs.Tree.{body_of}
use Rattle.block_graph.specs.Lowering.{start_needs}
use Rattle.block_lower.proofs.Placing.{needs_rise, needs_listed}
use Rattle.block_lower.proofs.exits.start_cells.Goals as goal

pub returns-clause-ascends : goal.returns-clause-ascends
returns-clause-ascends c =
    let needs = start_needs c.args.core.now.exprs (body_of c.args.core.now.stmts c.args.body.now) c.args.values.now in
    needs_rise needs c.in_ok-all.all.items c.loop-c.cells.items c.loop-c.c-index (omega (arith, ap length c.deref-c-items.ensures.value))
    (c.loop-c.invariant ∙ ap (λ (xs : List ℕ). filter needs (take c.loop-c.c-index xs)) c.deref-c-items.ensures.value) c.in_ok-all.ensures.ascends

pub returns-clause-exact : goal.returns-clause-exact
returns-clause-exact c =
    let needs = start_needs c.args.core.now.exprs (body_of c.args.core.now.stmts c.args.body.now) c.args.values.now in
    needs_listed c.args.core.now.exprs (body_of c.args.core.now.stmts c.args.body.now) c.args.values.now c.in_ok-all.all.items c.loop-c.cells.items c.loop-c.c-index c.stores_are_assigned.ensures
    (omega (arith, ap length c.deref-c-items.ensures.value)) (c.loop-c.invariant ∙ ap (λ (xs : List ℕ). filter needs (take c.loop-c.c-index xs)) c.deref-c-items.ensures.value) (λ x. (c.in_ok-all.ensures.exact x).1)
