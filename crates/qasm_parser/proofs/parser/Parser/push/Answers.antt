use Rattle.std.proofs.Common.{◌+◌, ◌<◌, ◌^◌, ◌++◌, ◌∷◌, [], length, refl, sym, subst, ◌∙◌}
use Rattle.qasm_parser.specs.State.{State, MayPush, nodes}
use Rattle.qasm_parser.proofs.Exits.{pushed, unpushed}
use Rattle.qasm_parser.proofs.Growing.{longer_same}
use Rattle.qasm_parser.proofs.Ready.{pushed_ready, pushed_stmt}
use Rattle.qasm_parser.proofs.parser.Parser.push.Goals as goal

pub invariant_of-self-2 : goal.invariant_of-self-2
invariant_of-self-2 c = pushed_ready c.self.inside (record { alloc = c.self.inside.alloc; text = c.self.inside.text; tokens = c.self.inside.tokens; at = c.self.inside.at; names = c.self.inside.names; exprs = c.self.inside.exprs; stmts = c.push.new.self }) c.self.invariant refl refl refl refl refl c.args.stmt (pushed c.push.result c.self.inside.stmts.items c.push.new.self.items (c.self.inside.stmts.items ++ c.args.stmt ∷ []) c.push.ensures.items (sym c.is_err.ensures.value ∙ c.if-is_err.false)) (subst (λ (s : State). MayPush s c.args.stmt.kind) (sym c.self.view_is) c.requires.fits) (subst (λ (s : State). nodes s + length s.left + 1 < 2 ^ 32) (sym c.self.view_is) c.requires.room)

pub returns-then-is_err : goal.returns-then-is_err
returns-then-is_err c = rw (sym c.self.view_is) (refl, longer_same _ _ refl (unpushed c.push.result c.self.inside.stmts.items c.push.new.self.items (c.self.inside.stmts.items ++ c.args.stmt ∷ []) c.push.ensures.items (sym c.is_err.ensures.value ∙ c.if-is_err.true)) refl refl)

pub returns : goal.returns
returns c = rw (sym c.self.view_is) (pushed_stmt c.self.inside (record { alloc = c.self.inside.alloc; text = c.self.inside.text; tokens = c.self.inside.tokens; at = c.self.inside.at; names = c.self.inside.names; exprs = c.self.inside.exprs; stmts = c.push.new.self }) c.self.invariant refl refl refl refl refl c.args.stmt (pushed c.push.result c.self.inside.stmts.items c.push.new.self.items (c.self.inside.stmts.items ++ c.args.stmt ∷ []) c.push.ensures.items (sym c.is_err.ensures.value ∙ c.if-is_err.false)) (subst (λ (s : State). MayPush s c.args.stmt.kind) (sym c.self.view_is) c.requires.fits) (subst (λ (s : State). nodes s + length s.left + 1 < 2 ^ 32) (sym c.self.view_is) c.requires.room) _ (c.len.ensures ∙ c.self.inside.stmts.ok.0))
