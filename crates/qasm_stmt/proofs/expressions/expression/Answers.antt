use Rattle.std.proofs.Common.{refl}
use Rattle.qasm_stmt.proofs.Growing.{sound_by}
use Rattle.qasm_stmt.proofs.Handed.{holds_on_ok, tree_given}
use Rattle.qasm_stmt.proofs.expressions.expression.Goals as goal

pub returns-clause-gives : goal.returns-clause-gives
returns-clause-gives c =
    tree_given (record { names = c.expr.new.names; exprs = c.expr.new.nodes; stmts = c.args.arena.now.stmts }) c.args.tokens.now c.args.from _ c.expr.result c.expr.ensures.gives

pub returns-clause-sound : goal.returns-clause-sound
returns-clause-sound c = holds_on_ok c.expr.result (sound_by _ _ c.requires.sound c.expr.ensures.grows refl)
