use Rattle.std.proofs.Common.{◌+◌, ◌<◌, ◌^◌, ◌++◌, ◌∷◌, [], length, refl, sym, subst, ◌∙◌}
use Rattle.qasm_parser.specs.State.{State, MayAdd, nodes}
use Rattle.qasm_parser.proofs.Exits.{pushed, unpushed}
use Rattle.qasm_parser.proofs.Growing.{longer_same}
use Rattle.qasm_parser.proofs.Ready.{added_ready, added_node}
use Rattle.qasm_parser.proofs.parser.Parser.node.Goals as goal

pub invariant_of-self-2 : goal.invariant_of-self-2
invariant_of-self-2 c = added_ready c.self.inside (record { alloc = c.self.inside.alloc; text = c.self.inside.text; tokens = c.self.inside.tokens; at = c.self.inside.at; names = c.self.inside.names; exprs = c.push.new.self; stmts = c.self.inside.stmts }) c.self.invariant refl refl refl refl refl c.args.kind c.args.at (pushed c.push.result c.self.inside.exprs.items c.push.new.self.items (c.self.inside.exprs.items ++ record { kind = c.args.kind; at = c.args.at } ∷ []) c.push.ensures.items (sym c.is_err.ensures.value ∙ c.if-is_err.false)) (subst (λ (s : State). MayAdd s c.args.kind) (sym c.self.view_is) c.requires.fits) (subst (λ (s : State). nodes s + length s.left + 1 < 2 ^ 32) (sym c.self.view_is) c.requires.room)

pub returns-then-is_err : goal.returns-then-is_err
returns-then-is_err c = rw (sym c.self.view_is) (refl, longer_same _ _ refl refl refl (unpushed c.push.result c.self.inside.exprs.items c.push.new.self.items (c.self.inside.exprs.items ++ record { kind = c.args.kind; at = c.args.at } ∷ []) c.push.ensures.items (sym c.is_err.ensures.value ∙ c.if-is_err.true)))

pub returns : goal.returns
returns c = rw (sym c.self.view_is) (added_node c.self.inside (record { alloc = c.self.inside.alloc; text = c.self.inside.text; tokens = c.self.inside.tokens; at = c.self.inside.at; names = c.self.inside.names; exprs = c.push.new.self; stmts = c.self.inside.stmts }) c.self.invariant refl refl refl refl refl c.args.kind c.args.at (pushed c.push.result c.self.inside.exprs.items c.push.new.self.items (c.self.inside.exprs.items ++ record { kind = c.args.kind; at = c.args.at } ∷ []) c.push.ensures.items (sym c.is_err.ensures.value ∙ c.if-is_err.false)) (subst (λ (s : State). MayAdd s c.args.kind) (sym c.self.view_is) c.requires.fits) (subst (λ (s : State). nodes s + length s.left + 1 < 2 ^ 32) (sym c.self.view_is) c.requires.room) _ (c.len.ensures ∙ c.self.inside.exprs.ok.0))
