use Rattle.std.proofs.Common.{refl, sym}
use Rattle.qasm_stmt.proofs.Growing.{sound_by}
use Rattle.qasm_stmt.proofs.Showing.{inside_is}
use Rattle.qasm_stmt.proofs.Handed.{holds_on_ok, brackets_given}
use Rattle.qasm_stmt.proofs.expressions.brackets.Goals as goal

pub returns-clause-gives : goal.returns-clause-gives
returns-clause-gives c =
    rw (sym (inside_is c.args.text.now c.args.room)) (brackets_given (record { names = c.indexes.new.names; exprs = c.indexes.new.nodes; stmts = c.args.arena.now.stmts }) c.args.tokens.now c.args.from _ c.indexes.result c.indexes.ensures.fits c.indexes.ensures.gives)

pub returns-clause-sound : goal.returns-clause-sound
returns-clause-sound c = holds_on_ok c.indexes.result (sound_by _ _ c.requires.sound c.indexes.ensures.grows refl)
