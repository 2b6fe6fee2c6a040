use Rattle.std.proofs.Common.{◌<◌, length, sym, ap, subst, ◌∙◌}
use Rattle.qasm_ast.specs.declared.expr.Expr.{Expr}
use Rattle.qasm_parser.specs.State.{State}
use Rattle.qasm_parser.proofs.Ready.{place_of_node}
use Rattle.qasm_parser.proofs.parser.Parser.place.Goals as goal

pub returns : goal.returns
returns c =
    let lt = subst (λ (s : State). c.args.id.0 < length s.exprs) (sym c.self.view_is) c.requires in
    rw (sym c.self.view_is) (ap (λ (x : Expr). x.at) c.index.ensures ∙ place_of_node c.self.inside.names.keys c.self.inside.exprs.items c.args.id.0 c.index.result.now lt)
