use Rattle.std.proofs.Common.{refl, sym}
use Rattle.qasm_stmt.proofs.Growing.{sound_by}
use Rattle.qasm_stmt.proofs.Showing.{inner_is}
use Rattle.qasm_stmt.proofs.Handed.{holds_on_ok, type_given}
use Rattle.qasm_stmt.proofs.expressions.any_type.Goals as goal

pub returns-clause-gives : goal.returns-clause-gives
returns-clause-gives c =
    rw (sym (inner_is c.args.text.now c.args.room)) (type_given (record { names = c.scalar.new.names; exprs = c.scalar.new.nodes; stmts = c.args.arena.now.stmts }) c.args.tokens.now c.args.from _ c.scalar.result c.scalar.ensures.gives)

pub returns-clause-sound : goal.returns-clause-sound
returns-clause-sound c = holds_on_ok c.scalar.result (sound_by _ _ c.requires.sound c.scalar.ensures.grows refl)
