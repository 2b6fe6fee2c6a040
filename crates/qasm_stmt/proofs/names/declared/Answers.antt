use Rattle.std.proofs.Common.{refl}
use Rattle.qasm_grammar.specs.Parts.{declared as declared_name}
use Rattle.qasm_lexer.specs.Sizes.{bytes_of}
use Rattle.qasm_expr.proofs.Growing.{grows_name}
use Rattle.qasm_stmt.proofs.Growing.{grown_by, sound_by}
use Rattle.qasm_stmt.proofs.Handed.{name_from}
use Rattle.qasm_stmt.proofs.names.declared.Goals as goal

pub returns-clause-gives : goal.returns-clause-gives
returns-clause-gives c =
    let g = c.in_ok-token.ensures.gives in
    (declared_name g.0, rw (g.1.0) (name_from (record { names = c.intern.new.names; exprs = c.args.arena.now.exprs; stmts = c.args.arena.now.stmts }) (record { name = c.in_ok-name.name; at = c.in_ok-token.token.at }) (bytes_of c.args.text.now c.in_ok-token.token) c.in_ok-name.ensures.found), g.2, g.3, rw (g.4) refl)

pub returns-clause-grown : goal.returns-clause-grown
returns-clause-grown c = grown_by _ _ (grows_name _ _ _ _ c.in_ok-name.ensures.kept c.in_ok-token.ensures.gives.1.3) refl

pub returns-clause-sound : goal.returns-clause-sound
returns-clause-sound c = sound_by _ _ c.requires.sound (grows_name _ _ _ _ c.in_ok-name.ensures.kept c.in_ok-token.ensures.gives.1.3) refl
