use Rattle.std.proofs.Common.{min, slice_index, ap, ◌∙◌}
use Rattle.qasm_ast.specs.Shallow.{kind_level}
use Rattle.qasm_ast.proofs.Levels.{more_levels, read_at}
use Rattle.qasm_ast.proofs.level.levels_of_exprs.Goals as goal

pub loop-expr-preserved : goal.loop-expr-preserved
loop-expr-preserved c =
    more_levels c.args.exprs.now c.loop-expr.levels.items c.loop-expr.expr-index c.level_of_kind-level.result c.expr-item.result _ c.loop-expr.invariant
    (read_at c.args.exprs.now c.loop-expr.expr-index c.expr-item.result c.loop-expr-test.true c.expr-item.is) c.loop-expr-test.true
    (c.level_of_kind-level.ensures ∙ ap (λ l. min 65 (kind_level (slice_index l) c.expr-item.result.kind)) c.deref.ensures.value) c.in_ok-push.ensures.items
