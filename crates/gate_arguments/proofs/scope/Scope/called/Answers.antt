use Rattle.std.proofs.Common.{IsSome, Some, ap, sym, subst, ◌∙◌}
use Rattle.std.specs.Map.{lookup}
use Rattle.scope_env.specs.Scopes.{find}
use Rattle.const_eval.specs.declared.environment.Callable.TheVariants as callable
use Rattle.const_eval.specs.Seen.{is_same_place}
use Rattle.gate_arguments.specs.Scope.{called_around}
use Rattle.gate_arguments.proofs.Naming.{around_last, asked_around, callables_of_body, given_first}
use Rattle.gate_arguments.proofs.scope.Scope.called.Goals as goal

pub visible-requires : goal.visible-requires
visible-requires g c =
    let b = c.in-Some.body in
    let inside = g.E.GateEnv.inside c.args.self.now.env.now in
    let found = callables_of_body (g.E.GateEnv.callables c.args.self.now.env.now) inside c.args.self.now.body b c.args.name c.in-Some.is in
    asked_around (λ _. callable.Other) called_around (find c.args.name b.given) (lookup (is_same_place (b.def.0, c.args.name)) inside) c.in-None.ensures (subst (λ o. IsSome o) found c.requires)

pub returns-in-Some-find : goal.returns-in-Some-find
returns-in-Some-find g c =
    let b = c.in-Some.body in
    let inside = g.E.GateEnv.inside c.args.self.now.env.now in
    let found = callables_of_body (g.E.GateEnv.callables c.args.self.now.env.now) inside c.args.self.now.body b c.args.name c.in-Some.is in
    found ∙ given_first (λ _. callable.Other) called_around (find c.args.name b.given) (lookup (is_same_place (b.def.0, c.args.name)) inside) c.in-Some-find.field-0.now c.in-Some-find.ensures

pub returns-in-None : goal.returns-in-None
returns-in-None g c =
    let b = c.in-Some.body in
    let inside = g.E.GateEnv.inside c.args.self.now.env.now in
    let found = callables_of_body (g.E.GateEnv.callables c.args.self.now.env.now) inside c.args.self.now.body b c.args.name c.in-Some.is in
    found ∙ around_last (λ _. callable.Other) called_around (find c.args.name b.given) (lookup (is_same_place (b.def.0, c.args.name)) inside) _ c.in-None.ensures c.visible.ensures ∙ ap Some (sym c.called_around.ensures)
