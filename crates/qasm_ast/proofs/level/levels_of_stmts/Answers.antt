use Rattle.std.proofs.Common.{◌≡◌, min, length, slice_index, sym, ap, subst, ◌∙◌}
use Rattle.qasm_ast.specs.Shallow.{stmt_kind_level, StmtNames}
use Rattle.qasm_ast.proofs.Seen.{in_range}
use Rattle.qasm_ast.proofs.Levels.{more_stmt_levels, read_at}
use Rattle.qasm_ast.proofs.level.levels_of_stmts.Goals as goal

pub level_of_stmt-level-requires-clause-fits : goal.level_of_stmt-level-requires-clause-fits
level_of_stmt-level-requires-clause-fits c =
    let found = read_at c.args.stmts.now c.loop-stmt.stmt-index c.stmt-item.result c.loop-stmt-test.true c.stmt-item.is in
    let count : length c.deref.result.now ≡ c.loop-stmt.stmt-index = ap length c.deref.ensures.value ∙ c.loop-stmt.invariant.count in
    let fits = in_range c.requires.fits.0 c.args.exprs.now c.args.stmts.now c.loop-stmt.stmt-index c.stmt-item.result.kind (c.requires.fits.1 c.loop-stmt.stmt-index c.stmt-item.result found) in (
      c.requires.fits.0,
      subst (λ n. StmtNames c.requires.fits.0 n (length c.deref.result.now) c.stmt-item.result.kind) (sym c.requires.known.count)
          (subst (λ n. StmtNames c.requires.fits.0 (length c.args.exprs.now) n c.stmt-item.result.kind) (sym count) fits),
    )

pub loop-stmt-preserved : goal.loop-stmt-preserved
loop-stmt-preserved c =
    more_stmt_levels c.args.exprs.now c.args.stmts.now c.args.levels.now c.loop-stmt.bodies.items c.loop-stmt.stmt-index c.level_of_stmt-level.result c.stmt-item.result _ c.requires.known c.loop-stmt.invariant
    (read_at c.args.stmts.now c.loop-stmt.stmt-index c.stmt-item.result c.loop-stmt-test.true c.stmt-item.is) c.loop-stmt-test.true
    (c.level_of_stmt-level.ensures ∙ ap (λ l. min 65 (stmt_kind_level (slice_index c.args.levels.now) (slice_index l) c.stmt-item.result.kind)) c.deref.ensures.value) c.in_ok-push.ensures.items
