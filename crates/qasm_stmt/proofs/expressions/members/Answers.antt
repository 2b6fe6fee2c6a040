use Rattle.std.proofs.Common.{refl}
use Rattle.qasm_stmt.proofs.Growing.{sound_by}
use Rattle.qasm_stmt.proofs.Handed.{holds_on_ok, list_given}
use Rattle.qasm_stmt.proofs.expressions.members.Goals as goal

pub returns-clause-gives : goal.returns-clause-gives
returns-clause-gives c =
    list_given (record { names = c.list.new.names; exprs = c.list.new.nodes; stmts = c.args.arena.now.stmts }) c.args.tokens.now c.args.from _ c.list.result c.list.ensures.fits c.list.ensures.gives

pub returns-clause-sound : goal.returns-clause-sound
returns-clause-sound c = holds_on_ok c.list.result (sound_by _ _ c.requires.sound c.list.ensures.grows refl)
